-- What ends one by one what is due ends it as a tick does.
use Rattle.std.proofs.Common.{◌≡◌, ◌≤◌, ◌+◌, ◌++◌, ◌∷◌, ◌∙◌, ℕ, List, [], refl, sym, ap, arith, append_assoc}
use Rattle.std.proofs.lemmas.List.{append-nil, map-append}
use Rattle.rv_text.specs.declared.message.Key.{Key}
use Rattle.rv_text.specs.declared.answer.Reply.TheVariants.{TimedOut}
use Rattle.rv_account.specs.Account.{entry}
use Rattle.rv_account.specs.declared.entry.Act.TheVariants.{Tick}
use Rattle.rv_account.specs.state.State.{OpenPlace, State}
use Rattle.rv_account.specs.state.After.{Settled, advanced, due_at, stopped}
use Rattle.rv_account.specs.state.Moves.{Ticked, ticked_at, ticked_if, ticking}
use Rattle.rv_machine.specs.declared.tables.Holdings.{Holdings}
use Rattle.rv_machine.specs.Ending.{counted}
use Rattle.rv_machine.specs.Machines.{keys_settled, state_in}
use Rattle.rv_machine.specs.open_places.OpenMap.{count_waiting, due_in}
use Rattle.rv_machine.specs.Ticking.{EndsFirst, EndsNext, TimesOut}
use Rattle.rv_machine.proofs.Stopping.{settled_one, settled_twice, stopped_none, stopped_one, stopped_twice}

-- the keys of those that a stop settles
abbrev keys_stopped : State → List OpenPlace → List Key
keys_stopped s gone = keys_settled (stopped s gone TimedOut).settles

pub ends_none : (m : Holdings) (moment : ℕ) → EndsFirst m m moment
ends_none m moment = record {
  gone = [];
  first = refl;
  state = sym (stopped_none (state_in m) TimedOut);
  listed = sym (append-nil m.settled.items);
  fewer = omega arith;
}

pub ends_one : (old new : Holdings) (moment : ℕ) → EndsNext old new moment → EndsFirst old new moment
ends_one old new moment one = record {
  gone = one.there ∷ [];
  first = one.first;
  state = one.state ∙ sym (stopped_one (state_in old) TimedOut one.there one.waiter one.waits);
  listed = one.listed
      ∙ ap (λ x. old.settled.items ++ keys_settled x)
      (sym (settled_one (state_in old) TimedOut one.there one.waiter one.waits));
  fewer = let fewer = one.fewer in omega arith;
}

pub ends_more : (old mid new : Holdings) (moment : ℕ) → EndsFirst old mid moment
    → EndsFirst mid new moment
    → EndsFirst old new moment
ends_more old mid new moment some more = record {
  gone = some.gone ++ more.gone;
  first = some.first ∙ ap (λ l. some.gone ++ l) more.first ∙ sym (append_assoc some.gone more.gone _);
  state = more.state
      ∙ ap (λ (s : State). (stopped s more.gone TimedOut).after) some.state
      ∙ stopped_twice (state_in old) TimedOut some.gone more.gone;
  listed = more.listed
      ∙ ap (λ l. l ++ keys_stopped (state_in old) more.gone) some.listed
      ∙ append_assoc old.settled.items _ _
      ∙ ap (λ l. old.settled.items ++ l)
      (sym (map-append (λ (x : Settled). x.key) (stopped (state_in old) some.gone TimedOut).settles
      (stopped (state_in old) more.gone TimedOut).settles)
      ∙ ap keys_settled (sym (settled_twice (state_in old) TimedOut some.gone more.gone)));
  fewer = let first = some.fewer in let then = more.fewer in omega arith;
}

-- all that was due is gone, and the tick was counted
pub ticked_all : (old new : Holdings) (moment : ℕ) (there : OpenPlace) (rest : List OpenPlace)
    → due_in old.table moment ≡ there ∷ rest → EndsFirst old new moment → due_in new.table moment ≡ []
    → 1 + count_waiting new.table ≤ count_waiting old.table
    → TimesOut old (counted new moment) moment (entry moment Tick [] ∷ [])
ticked_all old new moment there rest due ends none room =
    let all : ends.gone ≡ due_at (state_in old) moment =
    sym (append-nil ends.gone) ∙ ap (λ l. ends.gone ++ l) (sym none) ∙ sym ends.first in
    let ticks : ticked_at (state_in old) moment ≡ ticking (state_in old) moment =
    ap (ticked_if (state_in old) moment) due in
    record {
      makes = ap (λ (t : Ticked). t.entries) (sym ticks);
      settles = ends.listed
          ∙ ap (λ l. old.settled.items ++ keys_stopped (state_in old) l) all
          ∙ ap (λ (t : Ticked). old.settled.items ++ keys_settled t.settles) (sym ticks);
      after = ap (λ (s : State). advanced s moment) ends.state
          ∙ ap (λ l. advanced (stopped (state_in old) l TimedOut).after moment) all
          ∙ ap (λ (t : Ticked). t.after) (sym ticks);
      none_due = none;
      room = room;
    }
