-- What a step under limits leaves: the account as it was, or that with the message's own entry, for which
-- there was room.
use Rattle.rv_account.proofs.OfRules.Words.{◌≡◌, ◌⊎◌, inl, inr, ℕ, Option, Some, None, Account, Act, Call}
use Rattle.rv_account.proofs.OfRules.Words.{Key}
use Rattle.rv_text.specs.declared.message.Message.{Message}
use Rattle.rv_text.specs.declared.message.Message.TheVariants.{Hello, Request, Cancel}
use Rattle.rv_text.specs.declared.answer.Answer.{Answer}
use Rattle.rv_text.specs.declared.answer.Refusal.{Refusal}
use Rattle.rv_account.specs.declared.entry.Act.TheVariants as act
use Rattle.rv_account.specs.Calls.{need_of}
use Rattle.rv_account.specs.rules.Legal.{WaitsUnder}
use Rattle.rv_account.specs.rules.StepLimits.{StepLimits}
use Rattle.rv_account.specs.rules.Steps.{Adds, ClientsFullDueUnder, EntersOrNoMemory, EpochFullDueUnder}
use Rattle.rv_account.specs.rules.Steps.{KeyLines}
use Rattle.rv_account.specs.rules.Steps.{NextAtUnder, PlaceLine, PlacesFullDue, RefuseOr, Refuses}
use Rattle.rv_account.proofs.OfRules.Lines.{RefuseOr-elim, WhereElse-elim}

-- ---- room

-- no refusal of this kind is due
abbrev NoneDue : (Refusal → Type 0) → Type 0
NoneDue due = (refusal : Refusal) → due refusal → ⊥

-- an arrival with this call has a place to stay at, if it would
abbrev pub HasPlace : Option ℕ → Account → Call → Type 0
HasPlace None a call = Unit {0}
HasPlace (Some most) a call = NoneDue (PlacesFullDue most a call)

-- there is room for the message's own entry, for all that it may come to need, and for the client of a
-- hello; the cancel of a request that waits needs nothing further
abbrev pub HasRoomToEnter : StepLimits → Account → Message → Type 0
HasRoomToEnter limits a (Hello client incarnation version) =
    NoneDue (ClientsFullDueUnder limits a client) × NoneDue (EpochFullDueUnder limits a 1)
HasRoomToEnter limits a (Request key call) =
    NoneDue (EpochFullDueUnder limits a (need_of call)) × HasPlace limits.open_places a call
HasRoomToEnter limits a (Cancel key) =
    WaitsUnder a.entries key ⊎ NoneDue (EpochFullDueUnder limits a 1)

-- the act of a message that enters
abbrev pub own_act : Message → Act
own_act (Hello client incarnation version) = act.Hello client incarnation version
own_act (Request key call) = act.Arrive key call
own_act (Cancel key) = act.Cancel key

-- ---- lines

-- a line that refuses, with what it says where none is due
due_line : (D R : Refusal → Type 0) (O G : Type 0) → ((refusal : Refusal) → R refusal → G)
    → (NoneDue D → O → G) → RefuseOr D R O → G
due_line D R O G refused goes_on (inl h) = refused h.refusal h.refuses_it
due_line D R O G refused goes_on (inr h) = goes_on h.0 h.1

key_lines : (a : Account) (key : Key) (R : Refusal → Type 0) (L O G : Type 0)
    → ((refusal : Refusal) → R refusal → G) → (L → G) → (O → G) → KeyLines a key R L O → G
key_lines a key R L O G refused last above =
    RefuseOr-elim _ _ _ G (λ p due. refused p)
    (RefuseOr-elim _ _ _ G (λ p due. refused p)
    (RefuseOr-elim _ _ _ G (λ p due. refused p)
    (RefuseOr-elim _ _ _ G (λ p due. refused p)
    (WhereElse-elim _ _ _ G (λ is. last)
    (RefuseOr-elim _ _ _ G (λ p due. refused p)
    (RefuseOr-elim _ _ _ G (λ p due. refused p) above))))))

place_line : (bound : Option ℕ) (a : Account) (call : Call) (R : Refusal → Type 0) (O G : Type 0)
    → ((refusal : Refusal) → R refusal → G) → (HasPlace bound a call → O → G)
    → PlaceLine bound a call R O → G
place_line None a call R O G refused enters line = enters tt line
place_line (Some most) a call R O G refused enters line =
    due_line (PlacesFullDue most a call) R O G refused enters line

-- ---- a step

module _ (limits : StepLimits) (a b : Account) (moment : ℕ) (x : Answer) where
  -- the account stays, or gets the message's own entry, for which there is room
  abbrev pub Leaves : Message → Type 0
  Leaves m = (b ≡ a) ⊎ (Adds a moment (own_act m) b × HasRoomToEnter limits a m)

  entered : (m : Message) (T : Type 0) → HasRoomToEnter limits a m
      → EntersOrNoMemory a moment (own_act m) b x T → Leaves m
  entered m T room (inl refuses) = inl refuses.0
  entered m T room (inr enters) = inr (enters.0, room)

  refused : (m : Message) (refusal : Refusal) → Refuses a b x refusal → Leaves m
  refused m refusal refuses = inl refuses.0

  pub leaves_at : (m : Message) → NextAtUnder limits a moment m b x → Leaves m
  leaves_at (Hello client incarnation version) =
      let m : Message = Hello client incarnation version in
      RefuseOr-elim _ _ _ (Leaves m) (λ p due. refused m p)
      (RefuseOr-elim _ _ _ (Leaves m) (λ p due. refused m p)
      (WhereElse-elim _ _ _ (Leaves m) (λ has again. inl again.0)
      (due_line (ClientsFullDueUnder limits a client) (Refuses a b x) _ (Leaves m) (refused m) (λ few.
      due_line (EpochFullDueUnder limits a 1) (Refuses a b x) _ (Leaves m) (refused m) (λ room.
      entered m _ (few, room))))))
  leaves_at (Request key call) =
      let m : Message = Request key call in
      key_lines a key (Refuses a b x) _ _ (Leaves m) (refused m)
      (RefuseOr-elim _ _ _ (Leaves m) (λ p due. refused m p) (λ again. inl again.account))
      (due_line (EpochFullDueUnder limits a (need_of call)) (Refuses a b x) _ (Leaves m) (refused m) (λ room.
      place_line limits.open_places a call (Refuses a b x) _ (Leaves m) (refused m) (λ place.
      entered m _ (room, place))))
  leaves_at (Cancel key) =
      let m : Message = Cancel key in
      key_lines a key (Refuses a b x) _ _ (Leaves m) (refused m)
      (WhereElse-elim _ _ _ (Leaves m) (λ waits ends. inr (ends.0, inl waits)) (λ again. inl again.account))
      (due_line (EpochFullDueUnder limits a 1) (Refuses a b x) _ (Leaves m) (refused m) (λ room.
      entered m _ (inr room)))
