-- What stands first: of what is due, and on a line.
use Rattle.std.proofs.Common.{◌≡◌, ◌<◌, ◌≤◌, ◌∷◌, ◌∙◌, inl, inr, arith, ℕ, List, [], Option, Some, IsSome}
use Rattle.std.proofs.Common.{refl, sym, ap, subst, slice_get, nat_eq, Bool, true, false, cond, None}
use Rattle.std.specs.FinSet.{contains, contains-from_list, remove}
use Rattle.std.specs.Prelude.{filter_map, option_map}
use Rattle.std.proofs.lemmas.Bool.{eqb-true}
use Rattle.rv_text.specs.declared.call.Side.{Side}
use Rattle.rv_session.specs.OwedDuty.{OwedDuty}
use Rattle.rv_dual.specs.Above.{first_above, is_above}
use Rattle.rv_due.specs.Deadlines.{AllAbove, Deadline, Deadlines, IsLeastUntil}
use Rattle.rv_due.proofs.Order.{by_moment_total}
use Rattle.rv_account.specs.state.State.{OpenPlace, place_list, same_side}
use Rattle.rv_account.proofs.OfState.Words.{cases_lt, none-some, same_Some}
use Rattle.rv_account.specs.state.After.{deadline_of_place}
use Rattle.rv_account.proofs.OfState.Filtered.{filter_get, find_get}
use Rattle.rv_model_queues.specs.Views.{WaitQueues, waiting_on}
use Rattle.rv_machine.specs.open_places.OpenMap.{IsFirstDue, NeverDue, PlacesRise, due_in, duty_at, found_at}
use Rattle.rv_machine.specs.open_places.OpenMap.{line_in, all_but, first_behind, without_limit}
use Rattle.rv_machine.specs.open_places.Indexed.{AreIndexed, ClosesDue}
use Rattle.rv_machine.proofs.OfOpenPlaces.DueFirst.{first_due, none_due}
use Rattle.rv_machine.proofs.OfOpenPlaces.Indexing.{stands_found}
use Rattle.rv_machine.proofs.OfOpenPlaces.Limits.{listed_place}
use Rattle.rv_machine.proofs.OfOpenPlaces.Parted.{parted}

-- ---- what is due first

-- the least deadline is that of an open place at which somebody waits
pub record DueThere (all : List OpenPlace) (d : Deadline) : Type 0 where
  pub there : OpenPlace
  pub found : found_at all d.1 ≡ Some there
  pub has : there.limit ≡ Some d.0
  pub waits : IsSome there.waiter

pub due_there : (all : List OpenPlace) (wait_queues : WaitQueues) (waiting moment : ℕ) (due : Deadlines)
    (d : Deadline)
    → AreIndexed all wait_queues waiting due → IsLeastUntil due moment d → DueThere all d
due_there all wait_queues waiting moment due d is least =
    let listed = listed_place all d (sym (contains-from_list by_moment_total (filter_map deadline_of_place
    all) d)
    ∙ ap (λ (s : Deadlines). contains s d) (sym is.limits) ∙ least.there) in
    record {
      there = listed.1;
      found = ap (found_at all) (sym listed.3) ∙ stands_found all listed.0 listed.1 is.rise listed.2;
      has = listed.4;
      waits = is.limited listed.0 listed.1 listed.2
          (subst (λ (o : Option ℕ). IsSome o) (sym listed.4) refl);
    }

pub due_first : (all : List OpenPlace) (wait_queues : WaitQueues) (waiting moment : ℕ) (due : Deadlines)
    (d : Deadline)
    → AreIndexed all wait_queues waiting due → IsLeastUntil due moment d → (at : DueThere all d)
    → due_in all moment ≡ at.there ∷ due_in (all_but all d.1) moment
due_first all wait_queues waiting moment due d is least at =
    first_due all d.1 moment d.0 at.there (parted all d.1 at.there is.rise at.found) at.has
    (subst (λ (s : Deadlines). IsLeastUntil s moment d) is.limits least) at.found

-- ---- what stands first on a line

-- what is found at the first place of a line is the first of the line
found_first : (all line : List OpenPlace) → ((i : ℕ) (o : OpenPlace) → slice_get line i ≡ Some o
    → found_at all o.place ≡ Some o) → (place : ℕ) → slice_get (place_list line) 0 ≡ Some place
    → found_at all place ≡ slice_get line 0
found_first all [] stands place first = absurd (none-some place first)
found_first all (o ∷ line) stands place first =
    ap (found_at all) (sym (same_Some _ _ first)) ∙ stands 0 o refl

pub line_found : (all : List OpenPlace) (side : Side) → PlacesRise all → (i : ℕ) (o : OpenPlace)
    → slice_get (line_in all side) i ≡ Some o → found_at all o.place ≡ Some o
line_found all side rise i o at =
    let was = filter_get (λ (x : OpenPlace). same_side x.side side) all i o at in
    stands_found all was.0 o rise was.1

pub first_found : (all : List OpenPlace) (wait_queues : WaitQueues) (waiting place : ℕ) (due : Deadlines)
    (side :
    Side)
    → AreIndexed all wait_queues waiting due → slice_get (waiting_on wait_queues side) 0 ≡ Some place
    → found_at all place ≡ slice_get (line_in all side) 0
first_found all wait_queues waiting place due side is first =
    found_first all (line_in all side) (line_found all side is.rise) place
    (sym (ap (λ l. slice_get l 0) (is.lines side)) ∙ first)

-- ---- what stands on a line above a place

-- the places of a line above a place are those of its own above it
behind_places : (after : Option ℕ) (line : List OpenPlace)
    → first_above after (place_list line) ≡ option_map (λ o. o.place) (first_behind after line)
behind_places after [] = refl
behind_places after (o ∷ line) = by_head (is_above after o.place) (behind_places after line)
  where
    by_head : (b : Bool) → first_above after (place_list line)
        ≡ option_map (λ o. o.place) (first_behind after line)
        → cond b (Some o.place) (first_above after (place_list line))
        ≡ option_map (λ o. o.place) (cond b (Some o) (first_behind after line))
    by_head true rest = refl
    by_head false rest = rest

module _ (all : List OpenPlace) (wait_queues : WaitQueues) (waiting : ℕ) (due : Deadlines) (side : Side)
    (after : Option ℕ) (is : AreIndexed all wait_queues waiting due) where
  waits_behind : first_above after (waiting_on wait_queues side)
      ≡ option_map (λ o. o.place) (first_behind after (line_in all side))
  waits_behind = ap (first_above after) (is.lines side) ∙ behind_places after (line_in all side)

  pub found_behind : (place : ℕ) → first_above after (waiting_on wait_queues side) ≡ Some place
      → found_at all place ≡ first_behind after (line_in all side)
  found_behind place first = by_found (first_behind after (line_in all side)) refl (sym waits_behind ∙ first)
    where
      by_found : (o : Option OpenPlace) → first_behind after (line_in all side) ≡ o
          → option_map (λ o. o.place) o ≡ Some place → found_at all place ≡ o
      by_found None found at = absurd (none-some place at)
      by_found (Some o) found at =
          let there = find_get (λ (x : OpenPlace). is_above after x.place) (line_in all side) o found in
          ap (found_at all) (sym (same_Some _ _ at)) ∙ line_found all side is.rise there.0 o there.1

  pub none_behind : first_above after (waiting_on wait_queues side) ≡ None
      → first_behind after (line_in all side) ≡ None
  none_behind none = by_found (first_behind after (line_in all side)) (sym waits_behind ∙ none)
    where
      by_found : (o : Option OpenPlace) → option_map (λ o. o.place) o ≡ None → o ≡ None
      by_found None none = refl
      by_found (Some o) some = absurd (none-some o.place (sym some))

-- what stood at the place of the least deadline
pub record DueOut (all : List OpenPlace) (moment : ℕ) (d : Deadline) (there : OpenPlace) : Type 0 where
  pub has : there.limit ≡ Some d.0
  pub waits : IsSome there.waiter
  pub at_place : there.place ≡ d.1
  pub first : due_in all moment ≡ there ∷ due_in (all_but all d.1) moment

pub due_out : (all : List OpenPlace) (wait_queues : WaitQueues) (waiting moment : ℕ) (due : Deadlines)
    (d : Deadline)
    (there : OpenPlace) → AreIndexed all wait_queues waiting due → IsLeastUntil due moment d
    → found_at all d.1 ≡ Some there → DueOut all moment d there
due_out all wait_queues waiting moment due d there is least found =
    let at = due_there all wait_queues waiting moment due d is least in
    let same : at.there ≡ there = same_Some _ _ (sym at.found ∙ found) in
    let stands = find_get (λ (o : OpenPlace). nat_eq o.place d.1) all there found in
    record {
      has = subst (λ (o : OpenPlace). o.limit ≡ Some d.0) same at.has;
      waits = subst (λ (o : OpenPlace). IsSome o.waiter) same at.waits;
      at_place = eqb-true there.place d.1 stands.2;
      first = due_first all wait_queues waiting moment due d is least at
          ∙ ap (λ (o : OpenPlace). o ∷ due_in (all_but all d.1) moment) same;
    }

pub nothing_due : (all : List OpenPlace) (wait_queues : WaitQueues) (waiting moment : ℕ) (due : Deadlines)
    → AreIndexed all wait_queues waiting due → AllAbove due moment → due_in all moment ≡ []
nothing_due all wait_queues waiting moment due is above =
    none_due all moment (subst (λ (s : Deadlines). AllAbove s moment) is.limits above)

-- its place is closed, with its limit gone already
pub without_its : (due : Deadlines) (d : Deadline) (o : Option ℕ) → o ≡ Some d.0
    → remove due d ≡ without_limit o d.1 due
without_its due d o has = ap (λ (l : Option ℕ). without_limit l d.1 due) (sym has)

pub closes_due : (all new : List OpenPlace) (moment : ℕ) (d : Deadline) (there : OpenPlace) (duty : OwedDuty)
    → DueOut all moment d there → found_at all d.1 ≡ Some there → duty_at there ≡ Some duty
    → new ≡ all_but all d.1 → ClosesDue all new moment there duty
closes_due all new moment d there duty out found owed rest =
    record {
      closes = record {
        found = ap (found_at all) out.at_place ∙ found;
        owed = owed;
        rest = rest ∙ ap (all_but all) (sym out.at_place);
      };
      first = out.first ∙ ap (λ (l : List OpenPlace). there ∷ due_in l moment) (sym rest);
    }

-- ---- the first moment at which something is due

-- no deadline is earlier than the least
above_earlier : (due : Deadlines) (d : Deadline) (earlier : ℕ) → IsLeastUntil due d.0 d → earlier < d.0
    → AllAbove due earlier
above_earlier due d earlier least before other there = elim (cases_lt earlier other.0) [
  | inl above ↦ above
  | inr most ↦ absurd (elim (least.least other there (λ same. apart (ap (λ (x : Deadline). x.0) same) most)) [
    | inl later ↦ omega (arith, later, most, before)
    | inr at ↦ omega (arith, at.0, most, before)
  ])
]
  where
    apart : other.0 ≡ d.0 → other.0 ≤ earlier → ⊥
    apart same most = omega (arith, same, most, before)

pub first_due_at : (all : List OpenPlace) (wait_queues : WaitQueues) (waiting : ℕ) (due : Deadlines)
    (d : Deadline)
    → AreIndexed all wait_queues waiting due → IsLeastUntil due d.0 d → IsFirstDue all d.0
first_due_at all wait_queues waiting due d is least = record {
  due = λ none. absurd (cons-nil (sym (due_first all wait_queues waiting d.0 due d is least
      (due_there all wait_queues waiting d.0 due d is least)) ∙ none));
  none_before = λ earlier before. nothing_due all wait_queues waiting earlier due is
      (above_earlier due d earlier least before);
}
  where
    cons-nil : {o : OpenPlace} {l : List OpenPlace} → o ∷ l ≡ [] → ⊥
    cons-nil e = cc

pub never_due : (all : List OpenPlace) (wait_queues : WaitQueues) (waiting : ℕ) (due : Deadlines)
    → AreIndexed all wait_queues waiting due → ((moment : ℕ) → AllAbove due moment) → NeverDue all
never_due all wait_queues waiting due is above moment = nothing_due all wait_queues waiting moment due is
    (above moment)
