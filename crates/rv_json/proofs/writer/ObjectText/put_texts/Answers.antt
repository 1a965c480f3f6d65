-- Each token stands after those before it.
use Rattle.std.proofs.lemmas.Result.{on_ok_weaker}
use Rattle.rv_json.specs.Writing.{text_with}
use Rattle.rv_json.proofs.Tokens.{list_written}
use Rattle.rv_json.proofs.writer.ObjectText.put_texts.Goals as goal

pub returns : goal.returns
unfolding text_with
returns c =
    on_ok_weaker c.end_array.result
    (list_written _ _ _ _ _ c.args.name.now c.args.items.now c.in_ok-key.ensures.ok
    c.in_ok-begin_array.ensures.ok
    c.in_ok-put_each_text.ensures.tokens) c.end_array.ensures.ok
