-- What calls that only look read: the entries before them, which stay as they are, and that they never wait.
use Rattle.rv_account.proofs.OfRules.Words.{◌≡◌, ◌<◌, ◌++◌, ◌∙◌, ℕ, List, length, take, Some, refl, sym, ap}
use Rattle.rv_account.proofs.OfRules.Words.{arith}
use Rattle.rv_account.proofs.OfRules.Words.{take-append-le, same_Some, is_some, Call, Looks, side_of, Entry}
use Rattle.rv_account.proofs.OfRules.Words.{call_at}
use Rattle.rv_account.proofs.OfRules.Words.{opposite, Waiting}
use Rattle.std.proofs.lemmas.Bool.{false≢true}
use Rattle.rv_account.proofs.OfRules.Growing.{call_read, reads_within}

pub same_before : (es more : List Entry) (r : ℕ) (call : Call) → call_at es r ≡ Some call
    → take r es ≡ take r (es ++ more)
same_before es more r call arrived =
    let inside : r < length es = reads_within call_read refl es r call arrived in
    sym (take-append-le r es more (omega arith))

pub looks_waits_not : (es : List Entry) (r queue : ℕ) (call : Call) → call_at es r ≡ Some call
    → side_of call ≡ Looks queue → Waiting es r → ⊥
looks_waits_not es r queue call arrived is w =
    let same : w.is_open.call ≡ call = same_Some _ _ (sym w.is_open.arrived ∙ arrived) in
    let side : side_of w.is_open.call ≡ Looks queue = ap side_of same ∙ is in
    false≢true (sym (ap (λ s. is_some (opposite s)) side) ∙ w.is_open.stays.0)
