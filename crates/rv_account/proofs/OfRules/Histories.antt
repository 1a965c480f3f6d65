-- What a legal account says of its sessions: one incarnation, one last number, and hellos that only rise.
use Rattle.rv_account.proofs.OfRules.Words.{◌≡◌, ◌<◌, ◌≤◌, ◌∙◌, inl, inr, ℕ, List, take, Some, refl, sym}
use Rattle.rv_account.proofs.OfRules.Words.{ap, arith}
use Rattle.rv_account.proofs.OfRules.Words.{slice_get, cases_order, same_Some, Version, Entry, Hello}
use Rattle.rv_account.proofs.OfRules.Words.{Account, act_at}
use Rattle.rv_account.proofs.OfRules.Words.{LastHello, HasIncarnation, LastNumber, Legal}
use Rattle.rv_account.proofs.OfRules.Places.{get-take}
use Rattle.rv_account.proofs.OfRules.Growing.{read_there, act_read}

pub one_last_hello : (es : List Entry) (c i j g h : ℕ) → LastHello es c i g → LastHello es c j h → g ≡ h
one_last_hello es c i j g h first second =
    elim (cases_order g h) [
      | inl same ↦ same
      | inr rest ↦ elim rest [
        | inl less ↦ absurd (first.last h j second.version less second.hello)
        | inr more
            ↦ absurd (second.last g i first.version more first.hello)
      ]
    ]

one_incarnation_of : (c i j : ℕ) (v w : Version) → Some (Hello c i v) ≡ Some (Hello c j w) → i ≡ j
one_incarnation_of c i j v w e = cc

pub one_incarnation : (es : List Entry) (c i j : ℕ) → HasIncarnation es c i → HasIncarnation es c j → i ≡ j
one_incarnation es c i j first second =
    let same : first.0 ≡ second.0 = one_last_hello es c i j first.0 second.0 first.1 second.1 in
    one_incarnation_of c i j first.1.version second.1.version (sym first.1.hello ∙ ap (act_at es) same
    ∙ second.1.hello)

-- no earlier hello of a client has a greater incarnation than its last
pub hellos_at_most : (a : Account) (c i r k : ℕ) (v : Version) → Legal a → HasIncarnation a.entries c i
    → act_at a.entries r ≡ Some (Hello c k v) → k ≤ i
hellos_at_most a c i r k v legal has hello =
    elim (cases_order r has.0) [
      | inl same ↦ let is : k ≡ i = one_incarnation_of c k i v has.1.version (sym hello
          ∙ ap (act_at a.entries) same ∙ has.1.hello) in omega arith
      | inr rest ↦ elim rest [
        | inl less ↦
            let there = read_there act_read refl (slice_get a.entries has.0) (Hello c i has.1.version)
            has.1.hello in
            let follows = legal has.0 there.0 there.1 in
            let earlier : act_at (take has.0 a.entries) r ≡ Some (Hello c k v) =
            ap act_read (get-take a.entries has.0 r less) ∙ hello in
            let below : k < i = follows.numbers.raises_incarnation c i has.1.version (same_Some _ _ there.2) r
            k v earlier in
            omega arith
        | inr more ↦ absurd (has.1.last r k v more hello)
      ]
    ]

at_most : (es : List Entry) (c m n : ℕ) → LastNumber es c m → LastNumber es c n → m ≤ n
at_most es c m n first second =
    let same : first.h ≡ second.h = one_last_hello es c _ _ first.h second.h first.hello second.hello in
    elim first.reached [
      | inl none ↦ omega arith
      | inr there ↦
          let number : there.1.number ≡ m = there.4 in
          let later : first.h < there.0 = there.2 in
          let bound : there.1.number ≤ n = second.greatest there.0 there.1 (omega arith) there.3 in
          omega arith
    ]

pub one_last_number : (es : List Entry) (c m n : ℕ) → LastNumber es c m → LastNumber es c n → m ≡ n
one_last_number es c m n first second =
    let here = at_most es c m n first second in
    let there = at_most es c n m second first in
    omega arith
