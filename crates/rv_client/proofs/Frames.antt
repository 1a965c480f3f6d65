-- Bytes that are fewer than a frame's are no whole frame.
use Rattle.std.proofs.Common.{◌≡◌, ◌<◌, ◌++◌, ℕ, List, Option, Result, Ok, Err, IfErr, OnOk, ap, arith, false}
use Rattle.std.proofs.Common.{length, length-append, subst, sym}
use Rattle.std.proofs.KnownBytes.{Consumes-trans}
use Rattle.rv_frame.specs.Source.{SourceGives, source_failed}
use Rattle.rv_frame.specs.Cut.{FitsLength, IsUnfinished, length_bytes}
use Rattle.rv_frame.specs.declared.source.Source.{Source}
use Rattle.rv_frame.proofs.Cuts.{length_once}
use Rattle.rv_client.specs.declared.fault.LinkFault.{LinkFault}
use Rattle.rv_client.specs.declared.fault.LinkFault.TheVariants.{ReadFault, WriteFault, Closed, BadFrame}
use Rattle.rv_client.specs.declared.fault.LinkFault.TheVariants.{BadBody, NoMemory}
use Rattle.rv_client.specs.Reading.{BreaksOff, FallsShort, ReadsFrame, StopsFor, Unfailed}

-- a good length, and fewer bytes than it says
pub short_of_frame : (n : ℕ) (bytes : List ℕ) → FitsLength n → length bytes < n
    → IsUnfinished (length_bytes n ++ bytes)
short_of_frame n bytes fits fewer = record {
  no_frame = λ body more is_body same.
      let parts = length_once n (length body) bytes (body ++ more) same in
      absurd (omega (arith, parts.0, ap length parts.1, length-append body more, fewer));
  good_length = λ m more same. subst FitsLength (length_once n m bytes more same).0 fits;
}

module _ {R : Type 0} (remaining : R → Option (List ℕ)) where
  stops_on : (old mid new : Source R) (fault : LinkFault) → Unfailed old mid
      → StopsFor remaining mid new fault → StopsFor remaining old new fault
  stops_on old mid new ReadFault unfailed stops = record {
    failed = stops.failed;
    stays_failed = λ failed. cc;
  }
  stops_on old mid new Closed unfailed stops = (
    stops.0,
    record {
      before = unfailed.before;
      after =
          stops.1.after;
    },
  )
  stops_on old mid new (WriteFault sent) unfailed stops = stops
  stops_on old mid new BadFrame unfailed stops = stops
  stops_on old mid new BadBody unfailed stops = stops
  stops_on old mid new NoMemory unfailed stops = stops

  told : (T : Type 0) (old new : Source R) (buffer : List ℕ) (fault : LinkFault)
      → BreaksOff remaining old new fault → ReadsFrame remaining {T = T} old new buffer (Err fault)
  told T old new buffer ReadFault breaks = breaks
  told T old new buffer Closed breaks = breaks
  told T old new buffer (WriteFault sent) breaks = absurd breaks.stops
  told T old new buffer BadFrame breaks = absurd breaks.stops
  told T old new buffer BadBody breaks = absurd breaks.stops
  told T old new buffer NoMemory breaks = absurd breaks.stops

  -- a good length came, and then the whole body, or less of it
  pub reads_on : {T : Type 0} (old mid new : Source R) (body : List ℕ) (n : ℕ) (result : Result T LinkFault)
      → FitsLength n → SourceGives remaining old mid (length_bytes n)
      → Unfailed old mid → OnOk result (SourceGives remaining mid new body) → OnOk result (length body ≡ n)
      → OnOk result ((source_failed mid ≡ false) × (source_failed new ≡ false))
      → IfErr result (FallsShort remaining mid new n) → ReadsFrame remaining old new body result
  reads_on {T} old mid new body n (Ok done) fits given unfailed came long works short = record {
    is_body = subst FitsLength (sym long) fits;
    given = Consumes-trans _ _ _ _ _ (subst (λ m. SourceGives remaining old mid (length_bytes m)) (sym long)
        given) came;
    unfailed = record { before = unfailed.before; after = works.1 };
  }
  reads_on {T} old mid new body n (Err fault) fits given unfailed came long works short = told T old new body
      fault (record {
        bytes = length_bytes n ++ short.bytes;
        unfinished = short_of_frame n short.bytes fits short.fewer;
        given = Consumes-trans _ _ _ _ _ given short.given;
        stops = stops_on old mid new fault unfailed short.stops;
      })
