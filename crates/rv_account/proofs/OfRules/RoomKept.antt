-- After a step under limits entries and those that wait are at most the limit, or at most what they were; so
-- are the clients.
use Rattle.rv_account.proofs.OfRules.Words.{◌≡◌, ◌+◌, ◌≤◌, ◌∷◌, ◌++◌, ◌∙◌, inl, inr, ℕ, List, [], length}
use Rattle.rv_account.proofs.OfRules.Words.{Some}
use Rattle.rv_account.proofs.OfRules.Words.{None, refl, sym, ap, subst, arith, cases_lt, Act, Call, Entry}
use Rattle.rv_account.proofs.OfRules.Words.{Account, call_in, Legal, NumberOf, StoppedAt, Waiting}
use Rattle.std.proofs.Common.{length-append}
use Rattle.rv_text.specs.declared.message.Message.{Message}
use Rattle.rv_text.specs.declared.message.Message.TheVariants.{Hello, Request, Cancel}
use Rattle.rv_text.specs.declared.answer.Answer.{Answer}
use Rattle.rv_text.specs.declared.answer.Refusal.{Refusal}
use Rattle.rv_text.specs.declared.answer.Refusal.TheVariants.{EpochFull}
use Rattle.rv_account.specs.Account.{with_entry}
use Rattle.rv_account.specs.Calls.{need_of}
use Rattle.rv_account.specs.declared.entry.Act.TheVariants as act
use Rattle.rv_account.specs.rules.StepLimits.{StepLimits}
use Rattle.rv_account.specs.rules.Steps.{Adds, EpochFullDueUnder, NextAtUnder, Ticks}
use Rattle.rv_account.proofs.OfRules.Deciding.{find_waiting}
use Rattle.rv_account.proofs.OfRules.FewClients.{ClientsAtMost, few_still, few_with}
use Rattle.rv_account.proofs.OfRules.Keys.{cancel_no_hello, no_hello, tick_no_hello}
use Rattle.rv_account.proofs.OfRules.Sides.{IsRequestUntil, cancel_stops, due_until, is_under, tick_stops}
use Rattle.rv_account.proofs.OfRules.StepLeaves.{HasRoomToEnter, leaves_at, own_act}
use Rattle.rv_account.proofs.OfRules.WaitingBehind.{arrival_behind, calm_behind, stop_behind}

-- ---- entries and those that wait

-- they are at most so many
abbrev pub RoomAtMost : ℕ → List Entry → Type 0
RoomAtMost most es = (waiting : ℕ) → NumberOf (Waiting es) waiting → length es + waiting ≤ most

-- with the entry that an act adds
added_room : (most : ℕ) (a b : Account) (moment : ℕ) (does : Act) (added : Adds a moment does b)
    → ((m : ℕ) → NumberOf (Waiting (a.entries ++ added.entry ∷ [])) m → length a.entries + 1 + m ≤ most)
    → RoomAtMost most b.entries
added_room most a b moment does added room =
    subst (λ (x : Account). RoomAtMost most x.entries) (sym added.follows)
    (λ m count. let space : length a.entries + 1 + m ≤ most = room m count in
    omega (arith, length-append a.entries (added.entry ∷ [])))

module _ (most : ℕ) (a : Account) (e : Entry) (legal : Legal (with_entry a e)) where
  -- where it stops a request that waited
  stop_room : RoomAtMost most a.entries → call_in e.act ≡ None → (r : ℕ) → Waiting a.entries r
      → StoppedAt (a.entries ++ e ∷ []) r (length a.entries)
      → (m : ℕ) → NumberOf (Waiting (a.entries ++ e ∷ [])) m → length a.entries + 1 + m ≤ most
  stop_room room says r waits stops m after =
      let found = find_waiting a.entries in
      let space : length a.entries + found.0 ≤ most = room found.0 found.1 in
      let fewer : m + 1 ≤ found.0 = stop_behind a e found.0 m legal found.1 after says r waits stops in
      omega arith

  -- where the limit leaves room for what is needed
  module _ (limits : StepLimits) (no_less : limits.entries ≤ most) where
    room_for : (need n : ℕ) → ((p : Refusal) → EpochFullDueUnder limits a need p → ⊥)
        → NumberOf (Waiting a.entries) n → length a.entries + n + need ≤ most
    room_for need n room count = elim (cases_lt limits.entries (length a.entries + n + need)) [
      | inl full ↦ absurd
          (room EpochFull (record { waiting = n; count = count; full = full; is = refl }))
      | inr fits ↦ omega arith
    ]

    calm_room : call_in e.act ≡ None → ((p : Refusal) → EpochFullDueUnder limits a 1 p → ⊥)
        → (m : ℕ) → NumberOf (Waiting (a.entries ++ e ∷ [])) m → length a.entries + 1 + m ≤ most
    calm_room says room m after =
        let found = find_waiting a.entries in
        let space : length a.entries + found.0 + 1 ≤ most = room_for 1 found.0 room found.1 in
        let no_more : m ≤ found.0 = calm_behind a e found.0 m legal found.1 after says in
        omega arith

    arrival_room : (call : Call) → call_in e.act ≡ Some call
        → ((p : Refusal) → EpochFullDueUnder limits a (need_of call) p → ⊥)
        → (m : ℕ) → NumberOf (Waiting (a.entries ++ e ∷ [])) m → length a.entries + 1 + m ≤ most
    arrival_room call says room m after =
        let found = find_waiting a.entries in
        let space : length a.entries + found.0 + need_of call ≤ most =
        room_for (need_of call) found.0 room found.1 in
        let within : m + 1 ≤ found.0 + need_of call =
        arrival_behind a e found.0 m legal found.1 after call says in
        omega arith

    message_room : (m : Message) → RoomAtMost most a.entries → e.act ≡ own_act m → HasRoomToEnter limits a m
        → (n : ℕ) → NumberOf (Waiting (a.entries ++ e ∷ [])) n → length a.entries + 1 + n ≤ most
    message_room (Hello client incarnation version) few says room = calm_room (ap call_in says) room.1
    message_room (Request key call) few says room = arrival_room call (ap call_in says) room.0
    message_room (Cancel key) few says (inl waits) =
        stop_room few (ap call_in says) waits.place waits.waits
        (cancel_stops a.entries e key waits.place says (is_under a.entries key waits))
    message_room (Cancel key) few says (inr room) = calm_room (ap call_in says) room

pub ticked_room : (most : ℕ) (a t : Account) (moment : ℕ) → Ticks a moment t → RoomAtMost most a.entries
    → RoomAtMost most t.entries
ticked_room most a t moment (inr same) = subst (λ (x : Account). RoomAtMost most x.entries) (sym same.1)
ticked_room most a t moment (inl ticks) = λ room.
    let added = ticks.1 in
    let e = added.entry in
    let due = ticks.0 in
    let until = subst (λ n. IsRequestUntil a.entries n due.0) (sym added.moment_is)
    (due_until a.entries moment due.0 due.1) in
    added_room most a t moment act.Tick added
    (stop_room most a e (subst Legal added.follows added.legal) room (ap call_in added.act_is) due.0
    due.1.waits (tick_stops a.entries e due.0 added.act_is until))

-- ---- clients

added_clients : (most : ℕ) (a b : Account) (moment : ℕ) (does : Act) (added : Adds a moment does b)
    → ClientsAtMost most (a.entries ++ added.entry ∷ []) → ClientsAtMost most b.entries
added_clients most a b moment does added =
    subst (λ (x : Account). ClientsAtMost most x.entries) (sym added.follows)

message_clients : (limits : StepLimits) (most : ℕ) → limits.clients ≤ most → (a : Account) (e : Entry)
    → (m : Message) → ClientsAtMost most a.entries → e.act ≡ own_act m → HasRoomToEnter limits a m
    → ClientsAtMost most (a.entries ++ e ∷ [])
message_clients limits most no_less a e (Hello client incarnation version) few says room =
    few_with a e client incarnation version (ap Some says) limits most no_less room.0 few
message_clients limits most no_less a e (Request key call) few says room =
    few_still most a.entries e (λ c i v own. absurd (no_hello key call c i v (ap Some (sym says) ∙ own))) few
message_clients limits most no_less a e (Cancel key) few says room =
    few_still most a.entries e (λ c i v own. absurd (cancel_no_hello key c i v (ap Some (sym says) ∙ own)))
    few

pub ticked_clients : (most : ℕ) (a t : Account) (moment : ℕ) → Ticks a moment t
    → ClientsAtMost most a.entries → ClientsAtMost most t.entries
ticked_clients most a t moment (inr same) =
    subst (λ (x : Account). ClientsAtMost most x.entries) (sym same.1)
ticked_clients most a t moment (inl ticks) = λ few.
    let added = ticks.1 in
    added_clients most a t moment act.Tick added
    (few_still most a.entries added.entry
    (λ c i v own. absurd (tick_no_hello c i v (ap Some (sym added.act_is) ∙ own))) few)

-- ---- a step

module _ (limits : StepLimits) (most : ℕ) (a b : Account) (moment : ℕ) (m : Message) (x : Answer)
    (next : NextAtUnder limits a moment m b x) where
  pub room_behind : limits.entries ≤ most → RoomAtMost most a.entries → RoomAtMost most b.entries
  room_behind no_less room = elim (leaves_at limits a b moment x m next) [
    | inl same ↦ subst (λ (c : Account). RoomAtMost most c.entries) (sym same) room
    | inr entered ↦
        let added = entered.0 in
        added_room most a b moment (own_act m) added
        (message_room most a added.entry (subst Legal added.follows added.legal) limits no_less m room
        added.act_is entered.1)
  ]

  pub clients_behind : limits.clients ≤ most → ClientsAtMost most a.entries → ClientsAtMost most b.entries
  clients_behind no_less few = elim (leaves_at limits a b moment x m next) [
    | inl same ↦ subst (λ (c : Account). ClientsAtMost most c.entries) (sym same) few
    | inr entered ↦
        let added = entered.0 in
        added_clients most a b moment (own_act m) added
        (message_clients limits most no_less a added.entry m few added.act_is entered.1)
  ]
