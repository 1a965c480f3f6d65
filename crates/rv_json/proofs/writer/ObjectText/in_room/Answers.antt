-- The text has the opening bracket alone.
use Rattle.std.proofs.Common.{[], ◌∷◌, ◌++◌, ap, ◌∙◌}
use Rattle.json.specs.Token.{begin_object}
use Rattle.rv_json.specs.Writing.{text_with}
use Rattle.rv_json.proofs.Tokens.{text_begun}
use Rattle.rv_json.proofs.writer.ObjectText.in_room.Goals as goal

pub returns : goal.returns
unfolding text_with
returns c =
    text_begun _
    (c.in_ok-begin_object.ensures.ok ∙ ap (λ ts. ts ++ begin_object ∷ []) c.new-writer.ensures.tokens)
