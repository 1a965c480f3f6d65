-- What is held is what is counted.
use Rattle.std.proofs.Math.Dec.{leb}
use Rattle.std.proofs.lemmas.Bool.{le-leb, leb-true}
use Rattle.std.proofs.Common.{Bool, IsTrue, arith, false, ℕ, ◌↔◌, ◌≡◌, ◌≤◌}
use Rattle.rv_server_connections.specs.connection.Traffic.{most_held}
use Rattle.rv_server_connections.proofs.connection.buffers.Buffers.may_take.Goals as goal

few_held : (held count : ℕ) (owes : Bool) → held ≡ count → owes ≡ false
    → IsTrue (leb held 65534) ↔ ((owes ≡ false) × (count ≤ most_held))
few_held held count owes same none = (
  λ few. (none, omega (arith, leb-true held 65534 few)),
  λ few. le-leb
      held 65534 (omega (arith, few.1)),
)

pub returns-then-not-self : goal.returns-then-not-self
returns-then-not-self c =
    few_held c.held.result _ c.args.self.now.owes c.held.ensures.count c.if-not-self.true
