-- A rising list has as many deadlines as its set; and sets that stay.
use Rattle.std.proofs.Common.{◌≡◌, add-one, ◌+◌, Bool, true, false, cond, not, ◌&&◌, ◌||◌, List, [], ◌∷◌}
use Rattle.std.proofs.Common.{length, refl, sym, ap, ◌∙◌}
use Rattle.std.specs.List.{AllByRecursion, list_any}
use Rattle.std.specs.List.Sorted.{IsStrictlySortedBy}
use Rattle.std.specs.declared.cmp.Ordering.TheVariants.{Less}
use Rattle.std.specs.Ordering.{eq_by_cmp, is_eq}
use Rattle.std.specs.Cmp.{Equal-is}
use Rattle.std.specs.FinSet.{contains, len, from_list, len-empty, len-insert, contains-remove}
use Rattle.std.specs.FinSet.{contains-from_list, contains_tied, same_set}
use Rattle.std.specs.FinSet as set
use Rattle.rv_due.specs.Deadlines.{Deadline, Deadlines, by_moment}
use Rattle.rv_due.proofs.Order.{by_moment_total, by_moment-IsAntisymmetric}

-- ---- the set of a rising list

none_above : (x : Deadline) (r : List Deadline) → AllByRecursion (λ d. by_moment x d ≡ Less) r
    → list_any (eq_by_cmp by_moment x) r ≡ false
none_above x [] all = refl
none_above x (d ∷ r) all = ap (λ b. b || list_any (eq_by_cmp by_moment x) r) (ap is_eq all.0) ∙ none_above x r
    all.1

pub len_rising : (list : List Deadline) → IsStrictlySortedBy by_moment list
    → len (from_list {R = by_moment} list) ≡ length list
unfolding IsStrictlySortedBy
len_rising [] rises = len-empty by_moment
len_rising (x ∷ r) rises =
    len-insert by_moment_total (from_list r) x
    ∙ ap (λ b. cond b (len (from_list {R = by_moment} r)) (len (from_list {R = by_moment} r) + 1))
    (contains-from_list by_moment_total r x ∙ none_above x r rises.0)
    ∙ ap (λ n. n + 1) (len_rising r rises.1)
    ∙ add-one (length r)

-- ---- sets that stay
