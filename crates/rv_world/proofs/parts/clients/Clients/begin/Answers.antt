-- What is taken out is put back as a request.
use Rattle.rv_world.proofs.OfParts.Words.{◌≡◌, ◌∙◌, ap, Some, None, Asking, Outstanding, request_under}
use Rattle.rv_world.proofs.OfParts.Words.{ClientTable, with_process}
use Rattle.rv_world.proofs.OfParts.TableWrites.{taken_stands, turned_twice, same_asking}
use Rattle.rv_world.proofs.parts.clients.Clients.begin.Goals as goal

pub rest-requires : goal.rest-requires
rest-requires c = taken_stands c.args.self.now c.args.client c.requires.1 c.replace_process.ensures.after

pub returns : goal.returns
returns c = λ key runs.
    let key_is : c.begin-outstanding.result.key ≡ key = cc (
      runs,
      c.in-Some.ensures.before,
      c.idle.ensures,
      c.begin-outstanding.ensures.key,
    ) in
    let rests : c.begin-outstanding.result ≡ request_under key c.args.call =
    same_asking c.begin-outstanding.result key c.args.call key_is c.begin-outstanding.ensures.call in
    c.rest.ensures
    ∙ ap (λ (t : ClientTable). with_process t c.args.client (Some (Outstanding c.begin-outstanding.result)))
    c.replace_process.ensures.after
    ∙ turned_twice c.args.self.now c.args.client None (Some (Outstanding c.begin-outstanding.result))
    ∙ ap (λ (a : Asking). with_process c.args.self.now c.args.client (Some (Outstanding a))) rests
