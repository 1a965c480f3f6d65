-- The states of legal accounts within the limits are states to resume from.
use Rattle.std.proofs.Common.{◌≡◌, ◌<◌, ◌≤◌, ◌-◌, ◌++◌, ◌∷◌, ◌∙◌, ℕ, zero, suc, List, [], Option, Some}
use Rattle.std.proofs.Common.{None}
use Rattle.std.proofs.Common.{length, take, refl, sym, ap, subst, arith, slice_get, length-take, is_some}
use Rattle.std.specs.Prelude.{unwrap_or}
use Rattle.std.specs.FinMap.{len}
use Rattle.std.specs.List.{fold}
use Rattle.std.proofs.Math.Seq.{take-length, take-suc}
use Rattle.std.proofs.lemmas.List.Sums.{fold_push}
use Rattle.std.proofs.lemmas.Option.{get_or_from_slice_get}
use Rattle.rv_account.specs.Account.{Account, moment_at}
use Rattle.rv_account.specs.Limits.{FitEntries, max_moment}
use Rattle.rv_account.specs.declared.entry.Entry.{Entry}
use Rattle.rv_account.specs.rules.Legal.{Legal, before}
use Rattle.rv_account.specs.rules.Limits.{FitsAccount}
use Rattle.rv_account.specs.rules.Sessions.{SaidHello}
use Rattle.rv_account.specs.rules.Waiting.{Open}
use Rattle.rv_account.proofs.OfRules.Counting.{number_at_most, number_below}
use Rattle.rv_account.proofs.OfRules.Deciding.{find_clients, find_waiting}
use Rattle.rv_account.proofs.OfRules.Fronts.{Legal-before, read_whole}
use Rattle.rv_account.proofs.OfRules.Growing.{act_read, call_read, reads_within}
use Rattle.rv_account.specs.state.After.{state_after, state_of}
use Rattle.rv_account.specs.state.State.{OpenPlace, State, opening, waiting_count}
use Rattle.rv_account.proofs.OfState.Agreed.{agreed}
use Rattle.rv_account.proofs.OfState.Counted.{clients_number, open_number}
use Rattle.rv_account.proofs.OfState.Filtered.{mapped_there}
use Rattle.rv_account.proofs.OfState.StateLaws.{states_follow}
use Rattle.rv_account.specs.state.resume.Laws.{AccountsResume, FittingResume, HadRoom}
use Rattle.rv_account.specs.state.resume.Resuming.{CanResume, StaysInRoom}
use Rattle.rv_account.proofs.OfState.Resumed.Ordered.{there_is}
use Rattle.rv_account.proofs.OfState.Resumed.Alone.{filter_short}
use Rattle.rv_account.proofs.OfState.Resumed.ResumeLaws.{entries_resume, openings_resume}

-- the state after the entry at a place is what that makes of the state before it
front_after : (a : Account) (n : ℕ) (e : Entry) → slice_get a.entries n ≡ Some e → n < length a.entries
    → state_of (before a (suc n)) ≡ state_after (state_of (before a n)) e
front_after a n e there less =
    ap (fold state_after (opening a.epoch a.opened))
    (take-suc a.entries n e less
    ∙ ap (λ x. take n a.entries ++ x ∷ []) (get_or_from_slice_get a.entries n e e there))
    ∙ fold_push state_after (opening a.epoch a.opened) (take n a.entries) e

resumes_at : (a : Account) → Legal a → HadRoom a → (n : ℕ) → n ≤ length a.entries
    → CanResume (state_of (before a n))
resumes_at a legal had zero few = openings_resume a.epoch a.opened had.epoch had.opened
resumes_at a legal had (suc n) few =
    let found = there_is a.entries n (omega arith) in
    let e : Entry = found.0 in
    let after = front_after a n e found.1 (omega arith) in
    let follows = (states_follow (before a n) e (Legal-before a n legal)).0 (legal n e found.1) in
    subst CanResume (sym after)
    (entries_resume (state_of (before a n)) e (resumes_at a legal had n (omega arith))
    (had.entries n e found.1) follows (subst StaysInRoom after (had.room (suc n))))

pub accounts_resume : AccountsResume
accounts_resume a legal had =
    subst (λ (es : List Entry). CanResume (state_of (record {
      epoch = a.epoch;
      opened = a.opened;
      entries = es;
    }))) (take-length a.entries) (resumes_at a legal had (length a.entries) (omega arith))

-- ---- accounts of books

module _ (a : Account) (legal : Legal a) (fits : FitsAccount a) where
  -- not too many entries
  short : length a.entries ≤ 100000
  short =
      let found = find_waiting a.entries in
      let room = fits.room found.0 found.1 in omega (arith, room)

  by_moment : (es : List Entry) → FitEntries es → (r : ℕ) (o : Option ℕ) → moment_at es r ≡ o
      → unwrap_or o a.opened ≤ max_moment
  by_moment es fit r None is = fits.opened
  by_moment es fit r (Some moment) is =
      let found = mapped_there (λ (e : Entry). e.moment) (slice_get es r) moment is in
      subst (λ n. n ≤ max_moment) found.2 (fit r found.0 found.1).0

  module _ (j : ℕ) where
    abbrev front : Account
    front = before a j

    abbrev s : State
    s = state_of front

    front_short : length front.entries ≤ length a.entries
    front_short = omega (arith, length-take j a.entries)

    front_fits : FitEntries front.entries
    front_fits r e at = fits.entries r e (read_whole (λ (o : Option Entry). o) refl a.entries j r e at).1

    few_clients : len s.clients ≤ 1024
    few_clients =
        let state = agreed front (Legal-before a j legal) in
        let found = find_clients a.entries in
        let most = fits.clients found.0 found.1 in
        let fewer = number_at_most (SaidHello front.entries) (SaidHello a.entries) (len s.clients) found.0
        (λ c said. (said.0, said.1, said.2, (read_whole act_read refl a.entries j said.0 _ said.3).1))
        (clients_number front s state) found.1 in
        omega (arith, most, fewer)

    few_open : length s.open_places ≤ length front.entries
    few_open =
        let state = agreed front (Legal-before a j legal) in
        number_below (Open front.entries) (length s.open_places) (length front.entries)
        (λ r opened. reads_within call_read refl front.entries r opened.call opened.arrived)
        (open_number front s state)

    front_room : StaysInRoom s
    front_room =
        let state = agreed front (Legal-before a j legal) in
        let long : s.length ≡ length front.entries = state.length in
        let waiting : waiting_count s ≤ length s.open_places =
        filter_short (λ (o : OpenPlace). is_some o.waiter) s.open_places in
        let few = short in
        let clients = few_clients in
        let places = few_open in
        let fronts = front_short in
        record {
          time = subst (λ n. n ≤ max_moment) (sym state.moment)
              (by_moment front.entries front_fits (length front.entries - 1) _ refl);
          space = omega (arith, long, waiting, few, places, fronts);
          clients = omega (arith, clients);
          places = omega (arith, places, few, fronts);
        }

pub fitting_resume : FittingResume
fitting_resume a legal fits = accounts_resume a legal (record {
  epoch = fits.epoch;
  opened = fits.opened;
  entries = fits.entries;
  room = front_room a legal fits;
})
