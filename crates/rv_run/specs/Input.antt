-- What was read of a run's input, and what is left if a run ends before it prints.
use Rattle.std.specs.Prelude.{ℕ, ◌≡◌, ◌+◌, ◌<◌, ◌≤◌, true, false, IfSome, List, Option, length}
use Rattle.std.specs.Io.KnownBytes.{IsAtEnd}
use Rattle.rv_frame.specs.declared.sink.Sink.{Sink}
use Rattle.rv_frame.specs.declared.source.Source.{Source}
use Rattle.rv_frame.specs.Source.{SourceGives, source_failed, source_remaining}
use Rattle.rv_run.specs.declared.fault.RunFault.{RunFault}
use Rattle.rv_run.specs.declared.fault.RunFault.TheVariants.{NoMemory, ReadFault, TooLong, WriteFault}

-- the most bytes of an input: 512 MiB
abbrev pub max_input : ℕ
max_input = 536870912

-- the most bytes that are asked for at a time
abbrev pub max_piece : ℕ
max_piece = 65536

module _ {R : Type 0} (remaining : R → Option (List ℕ)) where
  -- all bytes of the source were read, they keep the limit, and no read failed
  pub record ReadsAll (old new : Source R) : Type 0 where
    pub at_end : IsAtEnd (source_remaining remaining new)
    pub within : IfSome (source_remaining remaining old) (λ input. length input ≤ max_input)
    pub unfailed : source_failed new ≡ false

  -- the source was not read to its end, for this fault
  abbrev pub StopsReading : Source R → Source R → RunFault → Type 0
  StopsReading old new ReadFault = source_failed new ≡ true
  StopsReading old new (WriteFault fault) = ⊥
  StopsReading old new NoMemory = source_failed new ≡ false
  StopsReading old new TooLong = (source_failed new ≡ false)
      × IfSome (source_remaining remaining old) (λ input. max_input < length input)

  -- the source gave so many bytes, at least and at most
  pub record GaveBetween (least most : ℕ) (old new : Source R) : Type 0 where
    pub bytes : List ℕ
    pub gave : SourceGives remaining old new bytes
    pub at_least : least ≤ length bytes
    pub at_most : length bytes ≤ most

  -- how much the source gave before this fault: no more than the limit, or if there is more, at most the
  -- piece that passes it
  abbrev pub GaveBefore : Source R → Source R → RunFault → Type 0
  GaveBefore old new ReadFault = GaveBetween 0 max_input old new
  GaveBefore old new (WriteFault fault) = ⊥
  GaveBefore old new NoMemory = GaveBetween 0 max_input old new
  GaveBefore old new TooLong = GaveBetween (max_input + 1) (max_input + max_piece) old new

module _ {R W : Type 0} where
  -- the input is longer than its limit
  pub record FoundTooLong (remaining : R → Option (List ℕ)) (source source' : Source R)
      (sink sink' : Sink W) : Type 0 where
    pub past_limit : IfSome (source_remaining remaining source) (λ input. max_input < length input)
    pub unfailed : source_failed source' ≡ false
    pub wrote_nothing : sink' ≡ sink

  -- a read of the input failed
  pub record FailedReading (source' : Source R) (sink sink' : Sink W) : Type 0 where
    pub source_fails : source_failed source' ≡ true
    pub wrote_nothing : sink' ≡ sink

  -- memory was refused before anything was written
  pub record LackedMemory (source' : Source R) (sink sink' : Sink W) : Type 0 where
    pub unfailed : source_failed source' ≡ false
    pub wrote_nothing : sink' ≡ sink
