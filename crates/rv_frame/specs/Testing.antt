-- What a clause reads of the devices for tests: what they still give or have taken, and where they stop.
use Rattle.std.specs.Prelude.{ℕ, ◌≡◌, ◌+◌, ◌-◌, ◌^◌, min, zero, suc, List, Option, Some, None, Result, Ok}
use Rattle.std.specs.Prelude.{IsErrAnd, MatchResult}
use Rattle.std.specs.IoError.{error_kind}
use Rattle.std.specs.declared.io.Error.{Error}
use Rattle.std.specs.declared.io.ErrorKind.{ErrorKind}
use Rattle.std.specs.declared.io.ErrorKind.TheVariants.{OutOfMemory}
use Rattle.rv_frame.specs.declared.testing.TestReader.{TestReader}
use Rattle.rv_frame.specs.declared.testing.TestWriter.{TestWriter}
use Rattle.rv_frame.specs.declared.testing.Stop.{Stop}
use Rattle.rv_frame.specs.declared.testing.Stop.TheVariants as stop

-- one more, as far as a count goes
abbrev pub one_more : ℕ → ℕ
one_more count = min (count + 1) (2 ^ 64 - 1)

-- the bytes that the reader has left
abbrev pub reader_rest : TestReader → List ℕ
reader_rest reader = reader.rest.now

-- the most bytes that a read gives
abbrev pub reader_most : TestReader → ℕ
reader_most reader = reader.most

-- the read that fails, counted from 1, and the kind of its error
abbrev pub reader_fault : TestReader → Option (ℕ × ErrorKind)
reader_fault reader = reader.fault

-- how many reads were made
abbrev pub reader_reads : TestReader → ℕ
reader_reads reader = reader.reads

-- the bytes that the writer took
abbrev pub writer_taken : TestWriter → List ℕ
writer_taken writer = writer.taken.items

-- the most bytes that a write takes
abbrev pub writer_most : TestWriter → ℕ
writer_most writer = writer.most

-- after how many more bytes the writer stops, and how
abbrev pub writer_stop : TestWriter → Option (ℕ × Stop)
writer_stop writer = writer.stop

-- how many writes were made
abbrev pub writer_writes : TestWriter → ℕ
writer_writes writer = writer.writes

-- how often it was flushed
abbrev pub writer_flushes : TestWriter → ℕ
writer_flushes writer = writer.flushes

-- the same writer, flushed once more
abbrev pub flushed_again : TestWriter → TestWriter
flushed_again writer = record writer { flushes = one_more writer.flushes }

abbrev pub IsNoMemory : Error → Type 0
IsNoMemory error = error_kind error ≡ OutOfMemory

-- the answer of a write in whose place the writer stops
abbrev pub AnswersStop : Stop → Result ℕ Error → Type 0
AnswersStop (stop.Error kind) result = IsErrAnd result (λ error. error_kind error ≡ kind)
AnswersStop stop.TakesNothing result = result ≡ Ok 0

-- what a write of so many bytes comes to, at most so many a write, where so many go before the stop: it stops
-- where there is room for none, and for once; else it takes all that it may, unless it found no memory
abbrev pub WritesBefore : ℕ → Stop → Option (ℕ × Stop) → ℕ → ℕ → Result ℕ Error → Type 0
WritesBefore zero stop new bytes most result = AnswersStop stop result × (new ≡ None)
WritesBefore (suc n) stop new bytes most result =
    MatchResult result (λ count. (count ≡ min bytes (min most (suc n))) × (new ≡ Some (suc n - count, stop)))
    (λ error. IsNoMemory error × (new ≡ Some (suc n, stop)))

-- the same by how the writer is to stop before and after it, if it is
abbrev pub WritesAsTold : Option (ℕ × Stop) → Option (ℕ × Stop) → ℕ → ℕ → Result ℕ Error → Type 0
WritesAsTold None new bytes most result =
    MatchResult result (λ count. count ≡ min bytes most) IsNoMemory × (new ≡ None)
WritesAsTold (Some (room, stop)) new bytes most result = WritesBefore room stop new bytes most result
