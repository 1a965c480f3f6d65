-- After a step under limits places that are open are at most the bound, or at most what they were.
use Rattle.rv_account.proofs.OfRules.Words.{◌≡◌, ◌≤◌, ◌∷◌, ◌++◌, inl, inr, ℕ, List, [], Some, None, sym, ap}
use Rattle.rv_account.proofs.OfRules.Words.{subst}
use Rattle.rv_account.proofs.OfRules.Words.{arith, Account, Entry, Legal, NumberOf, Open, call_in}
use Rattle.std.specs.Prelude.{max}
use Rattle.rv_text.specs.declared.message.Message.{Message}
use Rattle.rv_text.specs.declared.message.Message.TheVariants.{Hello, Request, Cancel}
use Rattle.rv_text.specs.declared.answer.Answer.{Answer}
use Rattle.rv_account.specs.Account.{with_entry}
use Rattle.rv_account.specs.rules.StepLimits.{StepLimits}
use Rattle.rv_account.specs.rules.Steps.{NextAtUnder, Ticks}
use Rattle.rv_account.proofs.OfRules.Deciding.{find_open}
use Rattle.rv_account.proofs.OfRules.OpenBehind.{arrival_open, calm_open}
use Rattle.rv_account.proofs.OfRules.StepLeaves.{HasPlace, HasRoomToEnter, leaves_at, own_act}

-- at most so many places are open
abbrev pub PlacesAtMost : ℕ → List Entry → Type 0
PlacesAtMost most es = (places : ℕ) → NumberOf (Open es) places → places ≤ most

module _ (most : ℕ) (a : Account) (few : PlacesAtMost most a.entries) where
  calm_places : (e : Entry) → call_in e.act ≡ None → PlacesAtMost most (a.entries ++ e ∷ [])
  calm_places e says m after =
      let found = find_open a.entries in
      let before : found.0 ≤ most = few found.0 found.1 in
      let no_more : m ≤ found.0 = calm_open a e found.0 m found.1 after says in
      omega arith

  pub ticked_places : (t : Account) (moment : ℕ) → Ticks a moment t → PlacesAtMost most t.entries
  ticked_places t moment (inr same) = subst (λ (x : Account). PlacesAtMost most x.entries) (sym same.1) few
  ticked_places t moment (inl ticks) =
      subst (λ (x : Account). PlacesAtMost most x.entries) (sym ticks.1.follows)
      (calm_places ticks.1.entry (ap call_in ticks.1.act_is))

  module _ (limits : StepLimits) (bound : ℕ) (is : limits.open_places ≡ Some bound) (no_less : bound ≤ most)
    where
      message_places : (e : Entry) → Legal (with_entry a e) → (m : Message) → e.act ≡ own_act m
          → HasRoomToEnter limits a m → PlacesAtMost most (a.entries ++ e ∷ [])
      message_places e legal (Hello client incarnation version) says room = calm_places e (ap call_in says)
      message_places e legal (Request key call) says room = λ m after.
          let found = find_open a.entries in
          let before : found.0 ≤ most = few found.0 found.1 in
          let within : m ≤ max bound found.0 = arrival_open a e found.0 m found.1 after legal bound call
          (ap call_in says) (subst (λ o. HasPlace o a call) is room.1) in
          omega arith
      message_places e legal (Cancel key) says room = calm_places e (ap call_in says)

      pub places_behind : (b : Account) (moment : ℕ) (m : Message) (x : Answer)
          → NextAtUnder limits a moment m b x → PlacesAtMost most b.entries
      places_behind b moment m x next = elim (leaves_at limits a b moment x m next) [
        | inl same ↦ subst (λ (c : Account). PlacesAtMost most c.entries) (sym same) few
        | inr entered ↦
            let added = entered.0 in
            subst (λ (c : Account). PlacesAtMost most c.entries) (sym added.follows)
            (message_places added.entry (subst Legal added.follows added.legal) m added.act_is entered.1)
      ]
