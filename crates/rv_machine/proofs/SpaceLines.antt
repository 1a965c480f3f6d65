-- The lines on space among entries and on a place, and those at a session's last number.
use Rattle.std.proofs.Common.{◌≡◌, ◌≢◌, ◌<◌, ◌≤◌, ◌+◌, ◌∙◌, ℕ, Option, Some, None, inl, inr}
use Rattle.std.proofs.Common.{refl, sym, ap, arith}
use Rattle.rv_text.specs.declared.call.Call.{Call}
use Rattle.rv_text.specs.declared.message.Key.{Key}
use Rattle.rv_text.specs.declared.answer.Refusal.{Refusal}
use Rattle.rv_text.specs.declared.answer.Refusal.TheVariants.{EpochFull, OtherCall}
use Rattle.rv_account.specs.rules.StepLimits.{StepLimits}
use Rattle.rv_account.specs.rules.Steps.{RefuseOr}
use Rattle.rv_session.specs.declared.client.LastRequest.{LastRequest}
use Rattle.rv_session.specs.ClientMeanings.{AsksLast}
use Rattle.rv_account.specs.state.Moves.{CallDiffers, NoEntryMoreUnder, StatePlaceLine, call_asked}
use Rattle.rv_account.specs.state.State.{ClientState, State, waiting_count}
use Rattle.rv_account.proofs.OfState.Words.{same_Some}
use Rattle.rv_machine.specs.declared.tables.Holdings.{Holdings}
use Rattle.rv_machine.specs.Limiting.{LacksPlace}
use Rattle.rv_machine.specs.Machines.{state_in}

-- ---- space

module _ (limits : StepLimits) (s : State) (need : ℕ) (refuses : Refusal → Type 0) (enters : Type 0) where
  pub lacks_space : limits.entries < s.length + waiting_count s + need → refuses EpochFull
      → RefuseOr (NoEntryMoreUnder limits s need) refuses enters
  lacks_space full r =
      inl (record { refusal = _; is_due = record { full = full; is = refl }; refuses_it = r })

  not_full : s.length + waiting_count s + need ≤ limits.entries → (r : Refusal)
      → NoEntryMoreUnder limits s need r → ⊥
  not_full space r due =
      let full : limits.entries < s.length + waiting_count s + need = due.full in
      omega arith

  pub has_space : s.length + waiting_count s + need ≤ limits.entries → enters
      → RefuseOr (NoEntryMoreUnder limits s need) refuses enters
  has_space space then = inr (not_full space, then)

-- ---- a place

module _ (s : State) (call : Call) (refuses : Refusal → Type 0) (enters : Type 0) where
  pub lacks_place : (bound : Option ℕ) → LacksPlace bound s call → refuses EpochFull
      → StatePlaceLine bound s call refuses enters
  lacks_place None lacks r = absurd lacks
  lacks_place (Some most) lacks r = inl (record { refusal = _; is_due = lacks; refuses_it = r })

  pub has_place : (bound : Option ℕ) → (LacksPlace bound s call → ⊥) → enters
      → StatePlaceLine bound s call refuses enters
  has_place None has then = then
  has_place (Some most) has then = inr (
    λ r due. has (record { stays = due.stays; alone = due.alone; full = due.full; is = refl }),
    then,
  )

-- ---- the call of the last number

module _ (m : Holdings) (key : Key) (call : Call) (refuses : Refusal → Type 0) (repeats : Type 0)
    (request : LastRequest) (says : AsksLast m.clients key request) where
  -- its request came with another call
  pub call_differs : (came : Call) → call_asked request ≡ Some came → came ≢ call → refuses OtherCall
      → RefuseOr (CallDiffers (state_in m) key call) refuses repeats
  call_differs came is other r = inl (record {
    refusal = _;
    is_due = record {
      session = says.state;
      there = says.of_key.there;
      came = came;
      with_call = ap call_asked says.request_is ∙ is;
      other = other;
      is = refl;
    };
    refuses_it = r;
  })

  -- it came with this call, or was cancelled before it came
  pub call_agrees : ((came : Call) → call_asked request ≡ Some came → came ≡ call) → repeats
      → RefuseOr (CallDiffers (state_in m) key call) refuses repeats
  call_agrees same then = inr (agrees, then)
    where
      agrees : (r : Refusal) → CallDiffers (state_in m) key call r → ⊥
      agrees r due =
          let is : due.session ≡ says.state = same_Some _ _ (sym due.there ∙ says.of_key.there) in
          due.other (same due.came
          (ap call_asked (sym says.request_is)
          ∙ ap (λ (x : ClientState). call_asked x.request) (sym is) ∙ due.with_call))
