-- Each member stands after those before it.
use Rattle.std.proofs.Common.{◌∙◌}
use Rattle.std.proofs.lemmas.Result.{on_ok_weaker}
use Rattle.rv_text.proofs.encode.put_taker.Goals as goal

pub returns : goal.returns
returns c =
    on_ok_weaker c.put_whole-3.result
    (λ last rest. last rest ∙ (c.in_ok-put_whole-2.ensures _ ∙ c.in_ok-put_whole.ensures _))
    c.put_whole-3.ensures
