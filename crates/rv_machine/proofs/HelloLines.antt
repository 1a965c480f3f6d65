-- The lines for a hello, by what is known of the client.
use Rattle.std.proofs.Common.{◌≡◌, ◌≢◌, ◌<◌, ◌≤◌, ◌+◌, ◌∙◌, ℕ, Some, None, inl, inr}
use Rattle.std.proofs.Common.{refl, sym, ap, subst, arith}
use Rattle.std.specs.FinMap.{len}
use Rattle.rv_text.specs.declared.version.Version.{Version}
use Rattle.rv_text.specs.declared.answer.Refusal.{Refusal}
use Rattle.rv_text.specs.declared.answer.Refusal.TheVariants.{ClientsFull, EpochFull, OldIncarnation}
use Rattle.rv_text.specs.declared.answer.Refusal.TheVariants.{OtherVersion}
use Rattle.rv_account.specs.rules.StepLimits.{StepLimits}
use Rattle.rv_account.specs.rules.Steps.{RefuseOr}
use Rattle.rv_account.specs.state.Follows.{IsNewIncarnation}
use Rattle.rv_account.specs.state.Moves.{HasSessionOf, IncarnationOld, NoClientMoreUnder, NoEntryMoreUnder}
use Rattle.rv_account.specs.state.Moves.{StateHelloLinesUnder}
use Rattle.rv_account.specs.state.Moves.{VersionDiffers}
use Rattle.rv_account.specs.state.State.{ClientState, State, client_at, waiting_count}
use Rattle.rv_account.proofs.OfState.Words.{none-some, same_Some}
use Rattle.rv_machine.specs.Entering.{IsNewHello}
use Rattle.rv_machine.proofs.SpaceLines.{has_space, lacks_space}

module _ (limits : StepLimits) (s : State) (client incarnation : ℕ) (version : Version) where
  -- ---- the client has a session

  module _ (x : ClientState) (there : client_at s client ≡ Some x) where
    is_session : (y : ClientState) → client_at s client ≡ Some y → y ≡ x
    is_session y at = same_Some _ _ (sym at ∙ there)

    not_old : x.incarnation ≤ incarnation → (r : Refusal) → IncarnationOld s client incarnation r → ⊥
    not_old most r due =
        let less : incarnation < x.incarnation =
        subst (λ (y : ClientState). incarnation < y.incarnation) (is_session due.session due.there)
        due.lower in
        omega arith

    not_other : x.version ≡ version → (r : Refusal) → VersionDiffers s client incarnation version r → ⊥
    not_other same r due =
        due.other (ap (λ (y : ClientState). y.version) (is_session due.session due.there) ∙ same)

  -- ---- and this is a new incarnation

  module _ (is_new : IsNewIncarnation s client incarnation) where
    new_not_old : (r : Refusal) → IncarnationOld s client incarnation r → ⊥
    new_not_old r due =
        let above : due.session.incarnation < incarnation = is_new due.session due.there in
        let below : incarnation < due.session.incarnation = due.lower in
        omega arith

    new_not_other : (r : Refusal) → VersionDiffers s client incarnation version r → ⊥
    new_not_other r due =
        let above : due.session.incarnation < incarnation = is_new due.session due.there in
        let same : due.session.incarnation ≡ incarnation = due.same in
        omega arith

    new_not_again : HasSessionOf s client incarnation → ⊥
    new_not_again has =
        let above : has.session.incarnation < incarnation = is_new has.session has.there in
        let same : has.session.incarnation ≡ incarnation = has.same in
        omega arith

  fits_clients : (client_at s client ≡ None → len s.clients < limits.clients) → (r : Refusal)
      → NoClientMoreUnder limits s client r → ⊥
  fits_clients most r due =
      let less : len s.clients < limits.clients = most due.is_new in
      let full : limits.clients ≤ len s.clients = due.full in
      omega arith

  -- ---- lines

  module _ (refuses : Refusal → Type 0) (repeats enters : Type 0) where
    pub hello_older : (x : ClientState) → client_at s client ≡ Some x → incarnation < x.incarnation
        → refuses (OldIncarnation x.incarnation)
        → StateHelloLinesUnder limits s client incarnation version refuses repeats enters
    hello_older x there less r = inl (record {
      refusal = _;
      is_due = record { session = x; there = there; lower = less; is = refl };
      refuses_it = r;
    })

    pub hello_other : (x : ClientState) → client_at s client ≡ Some x → x.incarnation ≡ incarnation
        → x.version ≢ version → refuses (OtherVersion x.version)
        → StateHelloLinesUnder limits s client incarnation version refuses repeats enters
    hello_other x there same other r = inr (
      not_old x there (omega arith),
      inl (record {
        refusal = _;
        is_due = record { session = x; there = there; same = same; other = other; is = refl };
        refuses_it = r;
      }),
    )

    pub hello_again : (x : ClientState) → client_at s client ≡ Some x → x.incarnation ≡ incarnation
        → x.version ≡ version → repeats
        → StateHelloLinesUnder limits s client incarnation version refuses repeats enters
    hello_again x there same version_is then = inr (
      not_old x there (omega arith),
      inr (
        not_other x there version_is,
        inl (record { session = x; there = there; same = same }, then),
      ),
    )

    hello_new : IsNewIncarnation s client incarnation
        → RefuseOr (NoClientMoreUnder limits s client) refuses (RefuseOr (NoEntryMoreUnder limits s 1) refuses
        enters)
        → StateHelloLinesUnder limits s client incarnation version refuses repeats enters
    hello_new is_new rest =
        inr (new_not_old is_new, inr (new_not_other is_new, inr (new_not_again is_new, rest)))

    pub hello_no_client : client_at s client ≡ None → limits.clients ≤ len s.clients → refuses ClientsFull
        → StateHelloLinesUnder limits s client incarnation version refuses repeats enters
    hello_no_client none full r =
        hello_new (λ x there. absurd (none-some x (sym none ∙ there)))
        (inl (record {
          refusal = _;
          is_due = record { is_new = none; full = full; is = refl };
          refuses_it = r;
        }))

    pub hello_no_entry : IsNewHello limits s client incarnation
        → limits.entries < s.length + waiting_count s + 1
        → refuses EpochFull → StateHelloLinesUnder limits s client incarnation version refuses repeats enters
    hello_no_entry fits full r =
        hello_new fits.is_new (inr (fits_clients fits.most, lacks_space limits s 1 refuses enters full r))

    pub hello_enters : IsNewHello limits s client incarnation
        → s.length + waiting_count s + 1 ≤ limits.entries → enters
        → StateHelloLinesUnder limits s client incarnation version refuses repeats enters
    hello_enters fits space then =
        hello_new fits.is_new (inr (fits_clients fits.most, has_space limits s 1 refuses enters space then))
