-- The texts before the loop's own are written.
use Rattle.std.proofs.Common.{◌≡◌, ◌++◌, map, take}
use Rattle.json.specs.Token as token
use Rattle.rv_json.proofs.writer.put_each_text.Given as goal

abbrev pub invariant-loop-item : goal.invariant-loop-item
invariant-loop-item l =
    (l.writer.tokens ≡ l.initial.writer.tokens ++ map (λ text. token.string text)
    (take l.item-index l.item-items))
    × (l.writer.before ≡ l.initial.writer.before)
