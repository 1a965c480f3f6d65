use Rattle.std.proofs.Common.{◌<◌, ◌≤◌, List, ℕ, length, drop, ap, arith, length-drop}
use Rattle.std.specs.Prelude.{IsTrue, nat_lt}
use Rattle.std.proofs.lemmas.List.{length-take-le, length-take}
use Rattle.std.proofs.lemmas.Bool.Decides.{nat_tests}
use Rattle.rv_journal.specs.Device.{ReadsAt}
use Rattle.rv_journal.proofs.creating.is_longer.Goals as goal

test : (n : ℕ) → 0 < n → IsTrue (nat_lt 0 n)
test n some = grind (arith, nat_tests)

tested : (n : ℕ) → IsTrue (nat_lt 0 n) → 0 < n
tested n is = grind (arith, nat_tests)

-- where a byte was read there is one
there_is : (file room : List ℕ) (at count : ℕ) → ReadsAt file at count room → count ≤ length room → 0 < count
    → at < length file
there_is file room at count read within some = omega (
  arith,
  some,
  length-take-le count room within,
  ap length read.bytes,
  length-take count (drop at file),
  length-drop at file,
)

pub returns-clause-longer : goal.returns-clause-longer
returns-clause-longer g c told = (
  λ is. there_is (g.D.Device.disk.seen c.args.device.now) c.read_at.new.room c.args.size c.in_ok-count.count
      (c.in_ok-count.ensures.bytes told) c.in_ok-count.ensures.within (tested c.in_ok-count.count is),
  λ low. test c.in_ok-count.count ((c.in_ok-count.ensures.bytes told).some low (omega arith)),
)
