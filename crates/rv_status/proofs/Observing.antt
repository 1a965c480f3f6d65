-- One value more.
use Rattle.std.proofs.Common.{◌≡◌, ◌+◌, ◌∙◌, ℕ, Bool, true, false, List, [], ◌∷◌, ap, arith, cond, leb}
use Rattle.std.proofs.Common.{length, map, refl}
use Rattle.std.proofs.Common.{if◌then◌else◌, suc, sym}
use Rattle.std.specs.List.{count_by, sum}
use Rattle.std.proofs.lemmas.List.Sums.{sum_by-cons}
use Rattle.rv_status.specs.declared.histogram.Bucket.{Bucket}
use Rattle.rv_status.specs.declared.histogram.Histogram.{Histogram}
use Rattle.rv_status.specs.Histograms.{as_counted, bucket_of, histogram_of, observed}

-- a count that stands at its greatest stays there
more : (n k : ℕ) → as_counted (as_counted n + k) ≡ as_counted (k + n)
more n k = omega arith

none_more : (n : ℕ) → n ≡ 0 + n
none_more n = omega arith

one_more : (n : ℕ) → 1 + n ≡ suc n
one_more n = omega arith

counts_more : (is_in : Bool) (n : ℕ)
    → (if is_in then as_counted (as_counted n + 1) else as_counted n) ≡ as_counted (cond is_in 1 0 + n)
counts_more true n = more n 1
counts_more false n = ap as_counted (none_more n)

bucket_more : (value : ℕ) (seen : List ℕ) (bound : ℕ)
    → observed value (bucket_of seen bound) ≡ bucket_of (value ∷ seen) bound
bucket_more value seen bound =
    ap (λ (n : ℕ). record { bound = bound; count = n })
    (counts_more (leb value bound) (count_by (λ v. leb v bound) seen)
    ∙ ap as_counted (sym (sum_by-cons (λ v. cond (leb v bound) 1 0) value seen)))

buckets_more : (value : ℕ) (seen bounds : List ℕ)
    → map (observed value) (map (bucket_of seen) bounds) ≡ map (bucket_of (value ∷ seen)) bounds
buckets_more value seen [] = refl
buckets_more value seen (bound ∷ bounds) =
    ap (λ (b : Bucket). b ∷ map (observed value) (map (bucket_of seen) bounds)) (bucket_more value seen bound)
    ∙ ap (λ (bs : List Bucket). bucket_of (value ∷ seen) bound ∷ bs) (buckets_more value seen bounds)

pub histogram_more : (value : ℕ) (bounds seen : List ℕ) (old : Histogram) → old ≡ histogram_of bounds seen
    → (buckets : List Bucket) (count total : ℕ) → buckets ≡ map (observed value) old.buckets
    → count ≡ as_counted (old.count + 1) → total ≡ as_counted (old.sum + value)
    → record { buckets = buckets; count = count; sum = total } ≡ histogram_of bounds (value ∷ seen)
histogram_more value bounds seen old is buckets count total is_buckets is_count is_total =
    let b : buckets ≡ map (bucket_of (value ∷ seen)) bounds =
    is_buckets ∙ ap (λ (h : Histogram). map (observed value) h.buckets) is ∙ buckets_more value seen bounds in
    let c : count ≡ as_counted (length (value ∷ seen)) =
    is_count ∙ ap (λ (h : Histogram). as_counted (h.count + 1)) is ∙ more (length seen) 1
    ∙ ap as_counted (one_more (length seen)) in
    let t : total ≡ as_counted (sum (value ∷ seen)) =
    is_total ∙ ap (λ (h : Histogram). as_counted (h.sum + value)) is ∙ more (sum seen) value
    ∙ ap as_counted (sym (sum_by-cons (λ v. v) value seen)) in
    ap (λ (x : List Bucket). record { buckets = x; count = count; sum = total }) b
    ∙ ap (λ (x : ℕ). record { buckets = map (bucket_of (value ∷ seen)) bounds; count = x; sum = total }) c
    ∙ ap (λ (x : ℕ). record {
      buckets = map (bucket_of (value ∷ seen)) bounds;
      count = as_counted (length (value ∷ seen));
      sum = x;
    }) t
