-- What went out where a write failed, of bytes that went out one after the other.
use Rattle.std.proofs.Common.{◌≡◌, ◌+◌, ◌-◌, ℕ, List, ◌++◌, Option, sym, ap, subst, ◌∙◌, length, take, arith}
use Rattle.std.proofs.Common.{length-append}
use Rattle.std.proofs.Math.Seq.{take-append-add}
use Rattle.std.proofs.lemmas.List.{take-append-le}
use Rattle.std.proofs.KnownBytes.{Appends-trans}
use Rattle.rv_frame.specs.declared.sink.Sink.{Sink}
use Rattle.rv_frame.specs.Sink.{SinkTakes}
use Rattle.rv_run.specs.Output.{StopsAfter}

module _ {W : Type 0} (contents : W → Option (List ℕ)) {bytes : List ℕ} {before sent : ℕ} {old new : Sink W}
  where
    -- a fault of what comes first is one of the whole
    pub stops_first : (more : List ℕ) → StopsAfter contents bytes before old new sent
        → StopsAfter contents (bytes ++ more) before old new sent
    stops_first more stops = record {
      past_those_sent = stops.past_those_sent;
      not_all = omega (arith, length-append bytes more, stops.not_all);
      went_out = subst (SinkTakes contents old new) (sym (take-append-le (sent - before) bytes more
          (omega (arith, stops.not_all)))) stops.went_out;
    }

    -- a fault of what comes after other bytes is one of the whole, where those went out
    pub stops_behind : (first : List ℕ) (start : Sink W) (begun : ℕ) → SinkTakes contents start old first
        → before ≡ begun + length first → StopsAfter contents bytes before old new sent
        → StopsAfter contents (first ++ bytes) begun start new sent
    stops_behind first start begun out counted stops =
        let places : length first + (sent - before) ≡ sent - begun =
        omega (arith, counted, stops.past_those_sent) in
        let front : take (sent - begun) (first ++ bytes) ≡ first ++ take (sent - before) bytes =
        ap (λ n. take n (first ++ bytes)) (sym places) ∙ take-append-add first bytes (sent - before) in
        record {
          past_those_sent = omega (arith, counted, stops.past_those_sent);
          not_all = omega (arith, counted, length-append first bytes, stops.not_all);
          went_out = subst (SinkTakes contents start new) (sym front) (Appends-trans _ _ _ first
              (take (sent - before) bytes) out stops.went_out);
        }
