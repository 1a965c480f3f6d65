-- What a histogram shows of the values that were observed, in any order, and its text.
use Rattle.std.specs.Prelude.{ℕ, ◌+◌, ◌-◌, ◌*◌, ◌/◌, ◌%◌, ◌^◌, List, [], ◌∷◌, ◌++◌, codes, decimal, eqb}
use Rattle.std.specs.Prelude.{flat_map}
use Rattle.std.specs.Prelude.{if◌then◌else◌, leb, length, map, min, suc, zero}
use Rattle.std.specs.List.{count_by, sum}
use Rattle.rv_status.specs.declared.histogram.Bucket.{Bucket}
use Rattle.rv_status.specs.declared.histogram.Histogram.{Histogram}

-- a count stops at 2^64 - 1
abbrev pub as_counted : ℕ → ℕ
as_counted n = min n (2 ^ 64 - 1)

-- how many of these values are at most a bound
abbrev pub bucket_of : List ℕ → ℕ → Bucket
bucket_of seen bound = record { bound = bound; count = as_counted (count_by (λ value. leb value bound) seen) }

-- the bucket of each bound, how many values there are, and their sum
abbrev pub histogram_of : List ℕ → List ℕ → Histogram
histogram_of bounds seen = record {
  buckets = map (bucket_of seen) bounds;
  count = as_counted (length seen);
  sum = as_counted (sum seen);
}

-- the bounds for turns, half a millisecond to ten seconds, in microseconds
abbrev pub turn_bounds : List ℕ
turn_bounds =
    500 ∷ 1000 ∷ 2500 ∷ 5000 ∷ 10000 ∷ 25000 ∷ 50000 ∷ 100000 ∷ 250000 ∷ 500000 ∷ 1000000 ∷ 2500000 ∷ 5000000
    ∷ 10000000 ∷ []

-- those for answers, a millisecond to a day
abbrev pub answer_bounds : List ℕ
answer_bounds =
    1000 ∷ 5000 ∷ 10000 ∷ 50000 ∷ 100000 ∷ 250000 ∷ 500000 ∷ 1000000 ∷ 5000000 ∷ 10000000 ∷ 30000000
    ∷ 300000000 ∷ 3600000000 ∷ 86400000000 ∷ []

-- the digits of a part of a second, in millionths, up to the last that is not 0
abbrev pub digits_text : ℕ → ℕ → List ℕ
digits_text zero rest = []
digits_text (suc places) rest =
    if eqb rest 0 then [] else decimal (rest / 100000) ++ digits_text places (rest % 100000 * 10)

-- and the point in front of them, if there are any
abbrev pub part_text : ℕ → List ℕ
part_text rest = if eqb rest 0 then [] else codes "." ++ digits_text 6 rest

-- microseconds as seconds
abbrev pub seconds_text : ℕ → List ℕ
seconds_text micros = decimal (micros / 1000000) ++ part_text (micros % 1000000)

-- a bucket's line: its bound between quotation marks (34), and how many values are at most that
abbrev pub bucket_text : List ℕ → Bucket → List ℕ
bucket_text name bucket =
    (name ++ (codes "_bucket{le=" ++ 34 ∷ []))
    ++ (seconds_text bucket.bound ++ ((34 ∷ codes "} ") ++ (decimal bucket.count ++ 10 ∷ [])))

-- the lines for all values: how many there are, and their sum in seconds
abbrev pub totals_text : List ℕ → Histogram → List ℕ
totals_text name h =
    (name ++ ((codes "_bucket{le=" ++ 34 ∷ (codes "+Inf" ++ 34 ∷ codes "} ")) ++ (decimal h.count
    ++ ((10 ∷ []) ++ (name ++ codes "_sum ")))))
    ++ (seconds_text h.sum ++ ((10 ∷ []) ++ (name ++ (codes "_count " ++ (decimal h.count ++ 10 ∷ [])))))

-- the lines of each bucket, and then these
abbrev pub values_text : List ℕ → Histogram → List ℕ
values_text name h = flat_map (bucket_text name) h.buckets ++ totals_text name h

-- ---- for private clauses

-- a bucket after one more value
abbrev pub observed : ℕ → Bucket → Bucket
observed value bucket = record {
  bound = bucket.bound;
  count = if leb value bucket.bound then as_counted (bucket.count + 1) else bucket.count;
}
