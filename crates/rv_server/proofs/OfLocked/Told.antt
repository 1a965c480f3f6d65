-- A body that was written, whole or in part, answers what was told.
use Rattle.std.proofs.Common.{◌≡◌, ◌<◌, ℕ, List, Err, IfErr, IfOk, Ok, OnErr, OnOk, Option, Result, arith}
use Rattle.std.proofs.Common.{length, subst, sym, take, true}
use Rattle.rv_text.specs.Bodies.{HasBodyLength}
use Rattle.rv_frame.specs.Cut.{IsFrameBody, frame_bytes}
use Rattle.rv_frame.specs.Sink.{SinkTakes, sink_failed}
use Rattle.rv_frame.specs.declared.sink.Sink.{Sink}
use Rattle.rv_frame.specs.declared.sink.WriteFault.{WriteFault as SinkFault}
use Rattle.rv_server.specs.locked.Writing.{IsAnswer, WritesAnswer, WritesPart}
use Rattle.rv_server.specs.declared.locked.asking.FrameAnswer.{FrameAnswer}
use Rattle.rv_server.specs.declared.locked.item.Item.{Item}

-- a body of a text is short enough for a frame
fits_frame : (body : List ℕ) → HasBodyLength body → IsFrameBody body
fits_frame body long = (long.0, omega (arith, long.1))

module _ {W : Type 0} (contents : W → Option (List ℕ)) where
  pub whole_written : (old new : Sink W) (t : FrameAnswer) (i : Item) (body : List ℕ)
      (r : Result Item SinkFault) → IsAnswer t i body → HasBodyLength body
      → IfOk r (λ written. written ≡ i) → OnOk r (SinkTakes contents old new (frame_bytes body))
      → IfOk r (WritesAnswer contents old new t)
  whole_written old new t i body (Ok written) is fits same takes =
      subst (λ (own : Item). WritesAnswer contents old new t own) (sym same) (record {
        answer = body;
        is = is;
        fits = fits_frame body fits;
        written = takes;
      })
  whole_written old new t i body (Err fault) is fits same takes = tt

  pub part_written : (old new : Sink W) (t : FrameAnswer) (i : Item) (body : List ℕ)
      (r : Result Item SinkFault) → IsAnswer t i body → HasBodyLength body
      → IfErr r (λ fault. SinkTakes contents old new (take fault.sent (frame_bytes body)))
      → IfErr r (λ fault. fault.sent < length (frame_bytes body))
      → OnErr r (sink_failed new ≡ true) → IfErr r (λ fault. WritesPart contents old new t fault.sent)
  part_written old new t i body (Ok written) is fits takes part failed = tt
  part_written old new t i body (Err fault) is fits takes part failed = record {
    item = i;
    answer = body;
    is = is;
    fits = fits_frame body fits;
    part = part;
    written = takes;
    failed = failed;
  }
