-- Where a tick of the machine leads: nowhere, or to one entry that the account lacks; then nothing is due.
use Rattle.std.proofs.Common.{◌≡◌, ◌⊎◌, ◌≤◌, ◌∷◌, ◌++◌, ◌∙◌, inl, inr, ℕ, List, [], length, Some, None, refl}
use Rattle.std.proofs.Common.{sym, ap, subst, arith, append-nil, option_to_list}
use Rattle.std.proofs.lemmas.Option.{none-some}
use Rattle.std.specs.Prelude.{max}
use Rattle.rv_account.specs.declared.entry.Act.TheVariants.{Tick}
use Rattle.rv_account.specs.declared.entry.Entry.{Entry}
use Rattle.rv_account.specs.Account.{Account, entry, with_entry}
use Rattle.rv_account.specs.Limits.{FitsEntry, max_moment}
use Rattle.rv_account.specs.rules.Legal.{Legal}
use Rattle.rv_account.specs.rules.Limits.{FitsAccount}
use Rattle.rv_account.specs.rules.Steps.{Ticks, capped_moment, step_moment}
use Rattle.rv_account.specs.rules.StepLimits.{max_clients, max_entries}
use Rattle.rv_account.proofs.OfRules.FewClients.{ClientsAtMost}
use Rattle.rv_account.proofs.OfRules.Legality.{follows_itself}
use Rattle.rv_account.proofs.OfRules.RoomKept.{RoomAtMost, ticked_clients, ticked_room}
use Rattle.rv_account.specs.state.Agreement.{IsStateOf}
use Rattle.rv_account.specs.state.After.{Following, due_at, following}
use Rattle.rv_account.specs.state.Moves.{Ticked, state_moment, ticked_at, ticked_if, ticking, unticked}
use Rattle.rv_account.specs.state.State.{OpenPlace, State, waiting_count}
use Rattle.rv_account.proofs.OfState.TicksBoth.{TicksTo, ticks_from, ticks_to}
use Rattle.rv_account.specs.state.Follows.{partners_of}
use Rattle.rv_book.specs.reply_cache.Keeping.{AreKept, client_of}
use Rattle.rv_machine.specs.Machines.{keys_settled, state_in}
use Rattle.rv_machine.specs.Stepping.{IsTick}
use Rattle.rv_machine.specs.declared.machine.Machine.{Machine}
use Rattle.rv_machine.specs.declared.steps.TickMade.{TickMade}
use Rattle.rv_book.specs.declared.state.BookState.{BookState}
use Rattle.rv_book.specs.Operations.{IsAhead, IsQuiet}
use Rattle.rv_book.specs.Tables.{IsSound, account_of, state_of_machine}
use Rattle.rv_book.proofs.FitsBehind.{fits_behind}
use Rattle.rv_book.proofs.Heard.{same_account, with_machine}

-- ---- the tick of a state

kinds_by : (s : State) (moment : ℕ) (all : List OpenPlace)
    → (ticked_if s moment all ≡ unticked s) ⊎ (ticked_if s moment all ≡ ticking s moment)
kinds_by s moment [] = inl refl
kinds_by s moment (due ∷ others) = inr refl

tick_kinds : (s : State) (moment : ℕ)
    → (ticked_at s moment ≡ unticked s) ⊎ (ticked_at s moment ≡ ticking s moment)
tick_kinds s moment = kinds_by s moment (due_at s moment)

abbrev own_tick : ℕ → Entry
own_tick moment = entry moment Tick []

some_entry : (l : List Entry) (e : Entry) → l ≡ [] → l ≡ e ∷ [] → ⊥
some_entry l e none some =
    let zero : length l ≡ 0 = ap length none in
    let one : length l ≡ 1 = ap length some in
    omega (arith, zero, one)

module _ (book : BookState) (now moment : ℕ) (sound : IsSound book)
    (exact : moment ≡ state_moment (state_of_machine book) now) where
  abbrev a : Account
  a = account_of book

  abbrev s : State
  s = state_of_machine book

  pub moment_is : moment ≡ step_moment a now
  moment_is = exact ∙ ap (λ n. max n (capped_moment now)) sound.stands.moment

  not_before : s.moment ≤ moment
  not_before = omega (arith, exact)

  abbrev made : Ticked
  made = ticked_at s moment

  -- where the time-outs lead
  found : (t : Account) × Ticks a moment t
  found = ticks_from a s moment sound.legal sound.stands not_before

  to : TicksTo a moment made found.0
  to = ticks_to a found.0 s moment sound.legal sound.stands not_before found.1

  module _ (new : Machine) (later : new.moment ≤ moment) (fits : moment ≤ max_moment) (tick : TickMade)
      (same_moment : tick.moment ≡ moment) (is : IsTick book.machine new tick) where
    makes : option_to_list tick.entry ≡ made.entries
    makes = is.makes ∙ ap (λ n. (ticked_at s n).entries) same_moment

    after : state_in new ≡ made.after
    after = is.after ∙ ap (λ n. (ticked_at s n).after) same_moment

    settles : new.settled.items ≡ keys_settled made.settles
    settles = is.settles ∙ ap (λ n. keys_settled (ticked_at s n).settles) same_moment

    none_due : due_at (state_in new) moment ≡ []
    none_due = ap (λ (t : State). due_at t moment) after ∙ to.none

    -- a book that is sound is quiet then
    pub quiet_then : (then : BookState) → IsSound then → then.machine ≡ new → IsQuiet then moment
    quiet_then then stands same = record {
      sound = stands;
      not_before = subst (λ (m : Machine). (state_in m).moment ≤ moment) (sym same) later;
      fits = fits;
      none_due = subst (λ (m : Machine). due_at (state_in m) moment ≡ []) (sym same) none_due;
    }

    -- the machine made no entry
    module _ (none : tick.entry ≡ None) where
      no_entries : made.entries ≡ []
      no_entries = sym makes ∙ ap option_to_list none

      still : state_in new ≡ s
      still = after ∙ elim (tick_kinds s moment) [
        | inl not ↦ ap (λ (x : Ticked). x.after) not
        | inr does ↦ absurd (some_entry made.entries (own_tick moment) no_entries
            (ap (λ (x : Ticked). x.entries) does))
      ]

      pub still_sound : IsSound (with_machine book new)
      still_sound = record {
        legal = sound.legal;
        fits = sound.fits;
        stands = subst (IsStateOf a) (sym still) sound.stands;
        kept = subst (λ (t : State). AreKept a.entries t.clients book.kept.replies) (sym still) sound.kept;
        spare = subst (λ (t : State). waiting_count t ≤ book.account.room) (sym still) sound.spare;
      }

      pub still_ticks : Ticks a moment a
      still_ticks =
          subst (Ticks a moment)
          (same_account a found.0 to.epoch to.opened
          (to.entries ∙ ap (λ (l : List Entry). a.entries ++ l) no_entries ∙ append-nil a.entries))
          found.1

    -- it made one
    module _ (e : Entry) (some : tick.entry ≡ Some e) where
      one_entry : made.entries ≡ e ∷ []
      one_entry = sym makes ∙ ap option_to_list some

      does : made ≡ ticking s moment
      does = elim (tick_kinds s moment) [
        | inl not ↦ absurd (some_entry made.entries e (ap (λ (x : Ticked). x.entries) not) one_entry)
        | inr is_tick ↦ is_tick
      ]

      head_is : (x y : Entry) → x ∷ [] ≡ y ∷ [] → x ≡ y
      head_is x y same = cc

      own_is : own_tick moment ≡ e
      own_is = head_is (own_tick moment) e (sym (ap (λ (x : Ticked). x.entries) does) ∙ one_entry)

      there : found.0 ≡ with_entry a e
      there =
          same_account (with_entry a e) found.0 to.epoch to.opened
          (to.entries ∙ ap (λ (l : List Entry). a.entries ++ l) one_entry)

      legal_there : Legal (with_entry a e)
      legal_there = subst Legal there to.legal

      state_there : IsStateOf (with_entry a e) (state_in new)
      state_there = subst (λ (x : Account). IsStateOf x (state_in new)) there
          (subst (IsStateOf found.0) (sym after) to.state)

      account_fits : FitsAccount (with_entry a e)
      account_fits =
          fits_behind a e sound.fits (subst FitsEntry own_is (fits, tt))
          (subst (λ (x : Account). RoomAtMost max_entries x.entries) there
          (ticked_room max_entries a found.0 moment found.1 sound.fits.room))
          (subst (λ (x : Account). ClientsAtMost max_clients x.entries) there
          (ticked_clients max_clients a found.0 moment found.1 sound.fits.clients))

      follows_so : following s moment Tick ≡ following s e.moment e.act
      follows_so = ap (λ (x : Entry). following s x.moment x.act) own_is

      pub ahead : IsAhead (with_machine book new) e
      ahead = record {
        state = s;
        legal = sound.legal;
        stood = sound.stands;
        follows = follows_itself a e legal_there;
        partners = subst (λ (x : Entry). x.partners ≡ partners_of s x.act) own_is refl;
        after = after ∙ ap (λ (x : Ticked). x.after) does ∙ ap (λ (x : Following). x.after) follows_so;
        settles = settles ∙ ap (λ (x : Ticked). keys_settled x.settles) does
            ∙ ap (λ (x : Following). keys_settled x.settles) follows_so;
        fits = account_fits;
        kept = sound.kept;
        room =
            let fewer = is.room in
            let one : length (option_to_list tick.entry) ≡ 1 = ap (λ o. length (option_to_list o)) some in
            let spare = sound.spare in
            omega (arith, fewer, one, spare);
        place = λ client its. absurd (none-some client (subst (λ (x : Entry). None ≡ client_of x.act) own_is
            refl ∙ its));
      }

      pub ticks_there : Ticks a moment (with_entry a e)
      ticks_there = subst (Ticks a moment) there found.1
