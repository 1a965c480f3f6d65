-- The epoch that is nearest to the clock's milliseconds.
use Rattle.std.proofs.Common.{◌≡◌, ◌≤◌, ℕ, Option, arith, max, min}
use Rattle.rv_store.specs.Epochs.{IsLeastNew, IsNearest}
use Rattle.rv_store.specs.declared.wish.EpochWish.{EpochWish}

pub nearest : (wish : EpochWish) (present : Option ℕ) (now least epoch : ℕ) → IsLeastNew wish present least
    → least ≤ wish.most → epoch ≡ min (max now least) wish.most → IsNearest wish present now epoch
nearest wish present now least epoch is low same = record {
  may = record {
    least = omega (arith, same, low, (is.begins low).least);
    most = omega (arith, same);
    greater = λ other had. omega (arith, same, low, (is.begins low).greater other had);
  };
  below = λ other may before. omega (arith, same, may.most, before);
  above = λ other may after. omega (arith, same, low, is.least other may, after);
}
