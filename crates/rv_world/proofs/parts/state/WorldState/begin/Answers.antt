-- A call that is begun.
use Rattle.rv_world.proofs.OfParts.Words.{◌∙◌, refl, ap, List, Some, length, Call, Key, Message, Outstanding}
use Rattle.rv_world.proofs.OfParts.Words.{request_of, request_under, ClientTable, with_process, started_by}
use Rattle.rv_world.proofs.OfParts.TableWrites.{same_world, only_turns, runs_stands}
use Rattle.rv_world.proofs.OfParts.Starting.{sent_after, sent_quiet, newest_after}
use Rattle.rv_world.specs.declared.parts.seen.Seen.TheVariants as sees
use Rattle.rv_world.proofs.parts.state.WorldState.begin.Goals as goal

pub returns-clause-comes : goal.returns-clause-comes
returns-clause-comes c =
    let items = c.in_ok-reserve-2.ensures.items in
    let key = c.in_ok-key.key in
    let idle = c.in_ok-key.ensures.ok in
    let says = request_of (request_under key c.args.call.now) in
    let sent = sent_after Message _ _ _ _ says c.send.ensures.sent items
    (ap (λ (own : Call). request_of (request_under key own)) c.in_ok-call.ensures.same) in
    let asked = sent_after (Key × Call) c.args.self.now.asked.items c.reserve.new.self.items _ _
    (key, c.args.call.now)
    c.push_reserved.ensures.items c.in_ok-reserve.ensures.items (ap (λ (own : Call). (key, own))
    c.in_ok-asked.ensures.same) in
    let begun = c.begin.ensures key idle ∙ ap (λ (own : Call). with_process c.args.self.now.clients
    c.args.client (Some (Outstanding (request_under key own)))) c.in_ok-own.ensures.same in
    record {
      key = key;
      idle = idle;
      changes = only_turns _ _ c.args.self.now.clients c.begin.new.self c.args.client
          (Some (Outstanding (request_under key c.args.call.now))) refl refl begun
          (runs_stands c.args.self.now.clients c.args.client _ idle);
      rest = same_world _ _ refl refl
          (ap (λ (l : List Message). started_by l) sent ∙ sent_quiet c.args.self.now.to_server.items says
          refl)
          refl asked refl sent refl;
      shown = c.send.ensures.seen ∙ ap (λ (l : List Message). sees.Sent (length l)) items;
    }

pub returns-clause-newest : goal.returns-clause-newest
returns-clause-newest c =
    let key = c.in_ok-key.key in
    let says = request_of (request_under key c.args.call.now) in
    newest_after _ _ c.args.self.now.to_server.items _ says c.requires.sound.newest
    (ap (λ (t : ClientTable). t.newest) (c.begin.ensures key c.in_ok-key.ensures.ok))
    (sent_after Message _ _ _ _ says c.send.ensures.sent c.in_ok-reserve-2.ensures.items
    (ap (λ (own : Call). request_of (request_under key own)) c.in_ok-call.ensures.same)) refl
