-- A client that starts.
use Rattle.rv_world.proofs.OfParts.Words.{◌∙◌, refl, sym, ap, subst, ℕ, List, length, Some, Message, New}
use Rattle.rv_world.proofs.OfParts.Words.{hello_of, start_of, ClientTable, AreNewest, started_by, world_of}
use Rattle.rv_world.proofs.OfParts.Refused.{lacks_memory, start_due}
use Rattle.rv_world.proofs.OfParts.TableWrites.{same_world}
use Rattle.rv_world.proofs.OfParts.Starting.{sent_after, sent_hello, entered_newest}
use Rattle.rv_world.specs.declared.parts.event.Event.TheVariants as event
use Rattle.rv_world.specs.declared.parts.seen.Seen.TheVariants as sees
use Rattle.rv_world.proofs.parts.state.WorldState.start.Goals as goal

pub returns-in_err-reserve-clause-comes : goal.returns-in_err-reserve-clause-comes
returns-in_err-reserve-clause-comes c =
    let items = c.in_err-reserve.ensures.items in
    lacks_memory (world_of c.args.self.now) (world_of (record c.args.self.now {
      to_server = c.reserve.new.self;
    })) (event.Start c.args.client c.args.incarnation c.args.version) _
    (start_due _ c.args.client c.args.incarnation c.args.version c.in_ok-must_be_newest.ensures.ok) tt
    c.from_residual-in_err-reserve.ensures.1
    (same_world _ _ refl refl (ap (λ (l : List Message). started_by l) items) refl refl refl items refl)

pub returns-in_err-enter-clause-comes : goal.returns-in_err-enter-clause-comes
returns-in_err-enter-clause-comes c =
    let items = c.in_ok-reserve.ensures.items in
    lacks_memory (world_of c.args.self.now) (world_of (record c.args.self.now {
      clients = c.enter.new.self;
      to_server = c.reserve.new.self;
    }))
    (event.Start c.args.client c.args.incarnation c.args.version) _
    (start_due _ c.args.client c.args.incarnation c.args.version c.in_ok-must_be_newest.ensures.ok) tt
    c.from_residual-in_err-enter.ensures.1
    (same_world _ _ refl refl (ap (λ (l : List Message). started_by l) items)
    (ap (λ (t : ClientTable). t.processes) c.in_err-enter.ensures.err) refl refl items refl)

pub returns-clause-comes : goal.returns-clause-comes
returns-clause-comes c =
    let items = c.in_ok-reserve.ensures.items in
    let enters = c.in_ok-enter.ensures.ok in
    let says = start_of c.args.client c.args.incarnation c.args.version in
    let sent = sent_after Message _ _ _ _ (hello_of says) c.send.ensures.sent items (c.message-hello.ensures
    ∙ ap (λ s. hello_of s) c.start-new.ensures) in
    record {
      newest = c.in_ok-must_be_newest.ensures.ok;
      changes = record {
        own = enters.own ∙ ap (λ s. Some (New s)) c.start-new.ensures;
        others = enters.others;
      };
      rest = same_world _ _ refl refl
          (ap (λ (l : List Message). started_by l) sent ∙ sent_hello c.args.self.now.to_server.items
          (hello_of says) (c.args.client, c.args.incarnation) refl)
          refl refl refl sent refl;
      shown = c.send.ensures.seen ∙ ap (λ (l : List Message). sees.Sent (length l)) items;
    }

pub returns-clause-newest : goal.returns-clause-newest
returns-clause-newest c =
    let says = start_of c.args.client c.args.incarnation c.args.version in
    let sent = sent_after Message _ _ _ _ (hello_of says) c.send.ensures.sent c.in_ok-reserve.ensures.items
    (c.message-hello.ensures ∙ ap (λ s. hello_of s) c.start-new.ensures) in
    subst (λ (l : List (ℕ × ℕ)). AreNewest c.enter.new.self.newest l)
    (sym (ap (λ (l : List Message). started_by l) sent ∙ sent_hello c.args.self.now.to_server.items
    (hello_of says) (c.args.client, c.args.incarnation) refl))
    (entered_newest _ c.args.client c.args.incarnation c.args.self.now.clients c.enter.new.self _
    c.requires.sound.newest c.in_ok-enter.ensures.ok c.in_ok-must_be_newest.ensures.ok)
