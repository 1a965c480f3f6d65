-- The welcome and what came of the request.
use Rattle.std.proofs.Common.{◌≡◌, IfSome, subst}
use Rattle.rv_text.specs.declared.message.Key.{Key}
use Rattle.rv_client.specs.Link.{link}
use Rattle.rv_commands.proofs.OfCalls.{ends_call}
use Rattle.rv_commands.proofs.asking.ask_call.Goals as goal

pub returns-in-None : goal.returns-in-None
returns-in-None g c =
    let same = subst (λ (k : Key). IfSome c.args.earlier (λ before. before ≡ k)) c.key-key.ensures
    (c.moved_from.ensures.none c.in-None.is) in
    ends_call g.R.Read.remaining g.W.Write.contents c.args.new c.args.call c.args.earlier
    (link c.args.from.now c.args.to.now) (link c.say_hello.new.from c.say_hello.new.to)
    (link c.ask_once.new.from c.ask_once.new.to) c.in-Ok.idle c.begin-outstanding.result c.ask_once.result
    c.in-Ok.ensures.welcome c.begin-outstanding.ensures.key c.begin-outstanding.ensures.call same
    c.ask_once.ensures
