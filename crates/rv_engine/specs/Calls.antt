-- How many requests of each call were recorded.
use Rattle.std.specs.Prelude.{ℕ, ◌≡◌, ◌+◌, ◌-◌, ◌<◌, ◌^◌, Bool, false, List, Option, None, Some, ◌++◌, eqb}
use Rattle.std.specs.Prelude.{min, set}
use Rattle.std.specs.Prelude.{slice_index}
use Rattle.std.specs.List.{count_by}
use Rattle.rv_text.specs.declared.call.Call.{Call}
use Rattle.rv_text.specs.declared.call.Call.TheVariants as call
use Rattle.rv_account.specs.declared.entry.Act.{Act}
use Rattle.rv_account.specs.declared.entry.Act.TheVariants.{Hello, Arrive, Cancel, Tick}
use Rattle.rv_account.specs.declared.entry.Entry.{Entry}

-- the place where a call is counted: calls are in the byte order of their words
abbrev pub call_place : Call → ℕ
call_place (call.Count queue) = 0
call_place (call.Drain queue max) = 1
call_place (call.Peek queue) = 2
call_place (call.Put queue item) = 3
call_place (call.Swap exchanger item wait) = 4
call_place (call.Take queue wait) = 5
call_place (call.Transfer queue item wait) = 6

-- a request arrived whose call is counted at that place
abbrev pub is_arrival_at : ℕ → Act → Bool
is_arrival_at place (Hello client incarnation version) = false
is_arrival_at place (Arrive key asked) = eqb (call_place asked) place
is_arrival_at place (Cancel key) = false
is_arrival_at place Tick = false

-- so many of these entries are such arrivals
abbrev pub arrivals_at : ℕ → List Entry → ℕ
arrivals_at place entries = count_by (λ e. is_arrival_at place e.act) entries

-- the number, up to the greatest that a count can hold
abbrev pub call_count : ℕ → ℕ
call_count n = min n (2 ^ 64 - 1)

-- the count of each call is the number of its arrivals among these entries
abbrev pub CallsAreCounted : List Entry → List ℕ → Type 0
CallsAreCounted entries counts = (place : ℕ) → place < 7
    → slice_index counts place ≡ call_count (arrivals_at place entries)

-- the counts go on by the arrivals among these further entries
abbrev pub CountsMore : List ℕ → List Entry → List ℕ → Type 0
CountsMore old made new = (entries : List Entry) → CallsAreCounted entries old
    → CallsAreCounted (entries ++ made) new

-- the entries that were made are counted if the hub was told of an event, and gave something; else none is
abbrev pub CountsTold : Option ℕ → List ℕ → List Entry → List ℕ → Type 0
CountsTold None old made new = new ≡ old
CountsTold (Some given) old made new = CountsMore old made new

-- ---- for private clauses

-- one more is counted at that place
abbrev pub counted_at : List ℕ → ℕ → List ℕ
counted_at counts place = set counts place (call_count (slice_index counts place + 1))
