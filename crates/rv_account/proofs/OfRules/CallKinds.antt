-- Which sides, waits and items go together in one call.
use Rattle.rv_account.proofs.OfRules.Words.{◌≡◌, ℕ, List, Option, Some, None, refl, subst, Side, Gives}
use Rattle.rv_account.proofs.OfRules.Words.{Takes, Looks}
use Rattle.rv_account.proofs.OfRules.Words.{Exchanges, Call, side_of, Stays, may_name}
use Rattle.rv_text.specs.declared.call.Wait.{Wait}
use Rattle.rv_text.specs.Calls.{wait_of, item_of}
use Rattle.rv_text.specs.declared.call.Call as call

abbrev pub IsKind : Side → Option Wait → Option (List ℕ) → Type 0
IsKind (Gives queue) wait (Some item) = Unit {0}
IsKind (Takes queue) (Some wait) None = Unit {0}
IsKind (Looks queue) None None = Unit {0}
IsKind (Exchanges exchanger) (Some wait) (Some item) = Unit {0}
IsKind _ _ _ = ⊥

kind_of : (call : Call) → IsKind (side_of call) (wait_of call) (item_of call)
kind_of (call.TheVariants.Put queue item) = tt
kind_of _ = tt

pub kind_at : (call : Call) (side : Side) → side_of call ≡ side → IsKind side (wait_of call) (item_of call)
kind_at call side is = subst (λ s. IsKind s (wait_of call) (item_of call)) is (kind_of call)

giver_has : (wait : Option Wait) (item : Option (List ℕ)) (queue : ℕ) → IsKind (Gives queue) wait item
    → (bytes : List ℕ) × (item ≡ Some bytes)
giver_has wait (Some bytes) queue kind = (bytes, refl)
giver_has None None queue kind = absurd kind
giver_has (Some wait) None queue kind = absurd kind

-- what gives hands over an item
pub gives_item : (call : Call) (queue : ℕ) → side_of call ≡ Gives queue
    → (item : List ℕ) × (item_of call ≡ Some item)
gives_item call queue is = giver_has (wait_of call) (item_of call) queue (kind_at call (Gives queue) is)

exchanger_has : (wait : Option Wait) (item : Option (List ℕ)) (exchanger : ℕ)
    → IsKind (Exchanges exchanger) wait item → (it : Wait) × (bytes : List ℕ) × (wait ≡ Some it)
    × (item ≡ Some bytes)
exchanger_has (Some wait) (Some bytes) exchanger kind = (wait, bytes, refl, refl)
exchanger_has (Some wait) None exchanger kind = absurd kind
exchanger_has None (Some bytes) exchanger kind = absurd kind
exchanger_has None None exchanger kind = absurd kind

-- what exchanges hands over an item
pub exchanges_item : (call : Call) (exchanger : ℕ) → side_of call ≡ Exchanges exchanger
    → (item : List ℕ) × (item_of call ≡ Some item)
exchanges_item call exchanger is = let has = exchanger_has (wait_of call) (item_of call) exchanger
    (kind_at call (Exchanges exchanger) is) in (has.1, has.3)

-- what stays may name one
pub staying_single : (call : Call) → Stays call → may_name call ≡ 1
staying_single (call.TheVariants.Drain queue max) stays = absurd stays.1
staying_single _ stays = refl
