-- What an outstanding process says is sent.
use Rattle.rv_world.proofs.OfParts.Words.{◌∙◌, refl, ap, List, length, Message, ClientTable, started_by}
use Rattle.rv_world.proofs.OfParts.Words.{world_of}
use Rattle.rv_world.specs.parts.Processes.{said_by}
use Rattle.rv_world.proofs.OfParts.Refused.{saying_lacks, saying_refused}
use Rattle.rv_world.proofs.OfParts.TableWrites.{same_world}
use Rattle.rv_world.proofs.OfParts.Starting.{sent_after, sent_quiet, newest_after, saying_quiet, saying_steps}
use Rattle.rv_world.specs.declared.parts.seen.Seen.TheVariants as sees
use Rattle.rv_world.proofs.parts.state.WorldState.say.Goals as goal

pub returns-in_err-must_be_asking-clause-comes : goal.returns-in_err-must_be_asking-clause-comes
returns-in_err-must_be_asking-clause-comes c =
    saying_refused (world_of c.args.self.now) c.args.client c.args.saying c.from_residual.result
    c.in_err-must_be_asking.ensures.err c.from_residual.ensures.1

pub returns-in_err-reserve-clause-comes : goal.returns-in_err-reserve-clause-comes
returns-in_err-reserve-clause-comes c =
    let items = c.in_err-reserve.ensures.items in
    let asking = c.in_ok-must_be_asking.ensures.ok in
    saying_lacks (world_of c.args.self.now) c.args.client
    (world_of (record c.args.self.now { to_server = c.reserve.new.self })) c.args.saying asking.0 _
    asking.1
    c.from_residual-in_err-reserve.ensures.1 (same_world _ _ refl refl
    (ap (λ (l : List Message). started_by l) items) refl refl refl items refl)

pub returns-in_err-said-clause-comes : goal.returns-in_err-said-clause-comes
returns-in_err-said-clause-comes c =
    let items = c.in_ok-reserve.ensures.items in
    let asking = c.in_ok-must_be_asking.ensures.ok in
    saying_lacks (world_of c.args.self.now) c.args.client
    (world_of (record c.args.self.now { clients = c.say.new.self; to_server = c.reserve.new.self }))
    c.args.saying asking.0 _ asking.1
    c.from_residual-in_err-said.ensures.1
    (same_world _ _ refl refl (ap (λ (l : List Message). started_by l) items)
    (ap (λ (t : ClientTable). t.processes) c.in_err-said.ensures.stays) refl refl items refl)

pub returns-clause-comes : goal.returns-clause-comes
returns-clause-comes c =
    let items = c.in_ok-reserve.ensures.items in
    let says = c.in_ok-said.ensures.says in
    let said = said_by c.args.saying says.asking in
    let sent = sent_after Message _ _ _ _ said c.send.ensures.sent items says.is in
    saying_steps c.args.saying (record {
      asking = says.asking;
      outstanding = says.outstanding;
      after = same_world _ _ refl refl
          (ap (λ (l : List Message). started_by l) sent ∙ sent_quiet c.args.self.now.to_server.items said
          (saying_quiet c.args.saying says.asking))
          (ap (λ (t : ClientTable). t.processes) c.in_ok-said.ensures.stays) refl refl sent refl;
      shown = c.send.ensures.seen ∙ ap (λ (l : List Message). sees.Sent (length l)) items;
    })

pub returns-clause-newest : goal.returns-clause-newest
returns-clause-newest c =
    let says = c.in_ok-said.ensures.says in
    let said = said_by c.args.saying says.asking in
    newest_after _ _ c.args.self.now.to_server.items _ said c.requires.sound.newest
    (ap (λ (t : ClientTable). t.newest) c.in_ok-said.ensures.stays)
    (sent_after Message _ _ _ _ said c.send.ensures.sent c.in_ok-reserve.ensures.items says.is)
    (saying_quiet c.args.saying says.asking)
