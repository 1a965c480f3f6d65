-- The moves of requests.
use Rattle.std.proofs.Common.{◌≡◌, ◌≢◌, ◌<◌, ◌+◌, ◌∷◌, ◌∙◌, ℕ, [], Option, Some, None, inl, inr, refl, sym}
use Rattle.std.proofs.Common.{ap}
use Rattle.std.proofs.Common.{subst}
use Rattle.std.specs.Prelude.{Result, IfOk, IfErr, option_to_list}
use Rattle.std.proofs.lemmas.Result.{IfOk-weaker, IfErr-weaker}
use Rattle.rv_text.specs.declared.call.Call.{Call}
use Rattle.rv_text.specs.declared.message.Key.{Key}
use Rattle.rv_text.specs.declared.message.Message.TheVariants.{Request}
use Rattle.rv_text.specs.declared.answer.Answer.TheVariants.{Refused}
use Rattle.rv_text.specs.declared.answer.Refusal.{Refusal}
use Rattle.rv_text.specs.declared.answer.Refusal.TheVariants.{EpochFull, NoMemory, OtherCall}
use Rattle.rv_account.specs.Calls.{need_of}
use Rattle.rv_account.specs.declared.entry.Act.{Act}
use Rattle.rv_account.specs.declared.entry.Act.TheVariants as act
use Rattle.rv_account.specs.declared.entry.Entry.{Entry}
use Rattle.rv_account.specs.rules.StepLimits.{StepLimits}
use Rattle.rv_account.specs.rules.Steps.{RefuseOr}
use Rattle.rv_session.specs.declared.client.LastRequest.{LastRequest}
use Rattle.rv_session.specs.declared.client.LastRequest.TheVariants.{Fresh}
use Rattle.rv_session.specs.ClientMeanings.{AsksLast, AsksNext, RefusalSays}
use Rattle.rv_account.specs.state.State.{State}
use Rattle.rv_account.specs.state.Moves.{NoEntryMoreUnder, StateNextAtUnder, StatePlaceLine, answer_after}
use Rattle.rv_account.specs.state.Moves.{staying}
use Rattle.rv_account.specs.state.Moves.{answer_told, call_asked, entering}
use Rattle.rv_account.specs.state.Moves.{told_again}
use Rattle.rv_account.proofs.OfState.Words.{same_Some}
use Rattle.rv_machine.specs.Arriving.{Arrives, IsAsBefore}
use Rattle.rv_machine.specs.declared.tables.Holdings.{Holdings}
use Rattle.rv_machine.specs.declared.machine.Said.TheVariants as said
use Rattle.rv_machine.specs.Entering.{HasSpaceFor}
use Rattle.rv_machine.specs.Limiting.{LacksPlace}
use Rattle.rv_machine.specs.Machines.{MovesBy, state_in}
use Rattle.rv_machine.specs.Needing.{EntersWithSpace}
use Rattle.rv_machine.specs.Numbering.{AreNumbered}
use Rattle.rv_machine.specs.open_places.OpenMap.{count_waiting}
use Rattle.rv_machine.proofs.KeyLines.{key_last, key_next, key_refused}
use Rattle.rv_machine.proofs.SpaceLines.{call_agrees, call_differs, has_place, has_space, lacks_place}
use Rattle.rv_machine.proofs.SpaceLines.{lacks_space}
use Rattle.rv_machine.proofs.Staying.{moves_refused, moves_staying}

-- ---- where no entry is made

module _ (limits : StepLimits) (m : Holdings) (moment : ℕ) (key : Key) (call : Call) (numbered :
    AreNumbered (state_in m)) where
  pub refuses_request : (refusal : Refusal) → RefusalSays m.clients key refusal
      → MovesBy limits m m moment (Request key call) [] (said.Refused refusal)
  refuses_request refusal says =
      moves_refused limits m m moment _ refl refl refusal (key_refused m key _ _ _ numbered refusal says refl)

  module _ (request : LastRequest) (asked : request ≢ Fresh) (says : AsksLast m.clients key request) where
    -- the last number, with no other call
    pub repeats_request : ((came : Call) → call_asked request ≡ Some came → came ≡ call)
        → MovesBy limits m m moment (Request key call) [] (said.Told key)
    repeats_request same =
        moves_staying limits m m moment _ refl refl (answer_told key (told_again says.state.request))
        (said.Told key)
        (says.state, says.of_key.there, refl)
        (key_last m key _ _ _ numbered request asked says (call_agrees m key call _ _ request says same
        (record { session = says.state; there = says.of_key.there; is = refl })))

    -- the last number, with another call
    pub other_request : (came : Call) → call_asked request ≡ Some came → came ≢ call
        → MovesBy limits m m moment (Request key call) [] (said.Refused OtherCall)
    other_request came is other =
        moves_refused limits m m moment _ refl refl OtherCall
        (key_last m key _ _ _ numbered request asked says
        (call_differs m key call _ _ request says came is other refl))

    -- the last number, which came with a call that was looked at
    module _ (came : Call) (is : call_asked request ≡ Some came) (told : Result (Option Entry) Refusal) where
      pub repeated_ok : IfOk told (λ made. (made ≡ None) × (came ≡ call))
          → IfOk told (λ made. MovesBy limits m m moment (Request key call) (option_to_list made)
          (said.Told key))
      repeated_ok ok =
          IfOk-weaker told _ _
          (λ made same. subst (λ (o : Option Entry). MovesBy limits m m moment (Request key call)
          (option_to_list o)
          (said.Told key)) (sym same.0)
          (repeats_request (λ other came_with. same_Some _ _ (sym came_with ∙ is) ∙ same.1))) ok

      pub repeated_err : IfErr told (λ refusal. (refusal ≡ OtherCall) × (came ≢ call))
          → IfErr told (λ refusal. MovesBy limits m m moment (Request key call) [] (said.Refused refusal))
      repeated_err err =
          IfErr-weaker told _ _
          (λ refusal differs. subst (λ (r : Refusal). MovesBy limits m m moment (Request key call) []
          (said.Refused r)) (sym differs.0) (other_request came is differs.1)) err

  -- the next number finds no space
  pub fills_request : AsksNext m.clients key → (need : ℕ) → need ≡ need_of call
      → limits.entries < m.length + count_waiting m.table + need
      → MovesBy limits m m moment (Request key call) [] (said.Refused EpochFull)
  fills_request says need is full =
      moves_refused limits m m moment _ refl refl EpochFull
      (key_next m key _ _ _ numbered says
      (lacks_space limits (state_in m) (need_of call) _ _
      (subst (λ n. limits.entries < m.length + count_waiting m.table + n) is full) refl))

  -- it finds space, and no place where it would stay
  pub crowds_request : AsksNext m.clients key → (need : ℕ) → need ≡ need_of call
      → HasSpaceFor limits m need → LacksPlace limits.open_places (state_in m) call
      → MovesBy limits m m moment (Request key call) [] (said.Refused EpochFull)
  crowds_request says need is space lacks =
      moves_refused limits m m moment _ refl refl EpochFull
      (key_next m key _ _ _ numbered says
      (has_space limits (state_in m) (need_of call) _ _
      (subst (λ n. HasSpaceFor limits m n) is space)
      (lacks_place (state_in m) call _ _ limits.open_places lacks refl)))

-- ---- where it may arrive

module _ (limits : StepLimits) (old new : Holdings) (moment : ℕ) (key : Key) (call : Call) (numbered :
    AreNumbered (state_in old))
    (next : AsksNext old.clients key) (need : ℕ) (is : need ≡ need_of call)
    (space : HasSpaceFor limits old need)
    (place : LacksPlace limits.open_places (state_in old) call → ⊥) where
  abbrev s : State
  s = state_in old

  abbrev does : Act
  does = act.Arrive key call

  enough : HasSpaceFor limits old (need_of call)
  enough = subst (λ n. HasSpaceFor limits old n) is space

  lets_enter : (refuses : Refusal → Type 0) (enters : Type 0) → enters
      → RefuseOr (NoEntryMoreUnder limits s (need_of call)) refuses
      (StatePlaceLine limits.open_places s call refuses enters)
  lets_enter refuses enters then =
      has_space limits s (need_of call) refuses _ enough (has_place s call refuses enters limits.open_places
      place then)

  pub arrives_request : (made : Entry) → Arrives old new moment key call made
      → MovesBy limits old new moment (Request key call) (made ∷ []) (said.Told key)
  arrives_request made arrives = record {
    move = entering s moment does (answer_after s moment key does);
    moves = key_next old key _ _ _ numbered next (lets_enter _ _ (inr refl));
    makes = ap (λ (e : Entry). e ∷ []) arrives.made_is;
    says = (arrives.session, arrives.known, ap (answer_told key) (sym arrives.told));
    settles = arrives.settles;
    after = arrives.state;
  }

  pub lacks_line : StateNextAtUnder limits s moment (Request key call) (staying s (Refused NoMemory))
  lacks_line = key_next old key _ _ _ numbered next (lets_enter _ _ (inl refl))

  pub lacks_request : IsAsBefore old new
      → MovesBy limits old new moment (Request key call) [] (said.Refused NoMemory)
  lacks_request before = moves_refused limits old new moment _ before.state before.settled NoMemory lacks_line

-- and for want of memory it may be refused there, whenever it is heard
pub lacks_next : (limits : StepLimits) (m : Holdings) → AreNumbered (state_in m)
    → (key : Key) (call : Call)
    → AsksNext m.clients key → EntersWithSpace limits (state_in m) (Request key call)
lacks_next limits m numbered key call next space place moment =
    lacks_line limits m m moment key call numbered next (need_of call) refl space place
