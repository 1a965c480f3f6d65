-- The bytes that one more write took follow those that went out before.
use Rattle.std.proofs.Common.{◌≡◌, ℕ, ◌+◌, ◌-◌, List, ◌++◌, rules, length, take, drop, ap, sym, subst, ◌∙◌}
use Rattle.std.proofs.Math.Seq.{take-add}
use Rattle.std.proofs.lemmas.List.{take_rest}
use Rattle.std.specs.Io.KnownBytes.{Appends}
use Rattle.std.proofs.KnownBytes.{Appends-trans}
use Rattle.rv_frame.proofs.sink.Sink.write_all.Goals as goal

-- the front, and then the front of the slice past it, is the longer front
front_more : (all : List ℕ) (sent count : ℕ)
    → take sent all ++ take count (take (length all - sent) (drop sent all)) ≡ take (sent + count) all
front_more all sent count =
    ap (λ rest. take sent all ++ take count rest) (take_rest all sent) ∙ sym (take-add sent count all)

pub loop-sent-preserved : goal.loop-sent-preserved
loop-sent-preserved g c = record {
  within = search rules;
  unfailed = c.loop-sent.invariant.unfailed;
  took = subst (Appends _ _) (front_more c.args.bytes.now c.loop-sent.sent c.in-Ok.count)
      (Appends-trans _ _ _ _ _ c.loop-sent.invariant.took c.in-Ok.ensures.bytes);
}
