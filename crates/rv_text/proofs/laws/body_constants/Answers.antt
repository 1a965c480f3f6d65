-- Both sides compute.
use Rattle.std.proofs.Common.{refl}
use Rattle.std.specs.Fmt.{digits}
use Rattle.serde_json.proofs.OnLiterals.{serde_json_on_literals}
use Rattle.rv_text.specs.Bodies.{refused_text}
use Rattle.rv_text.proofs.laws.body_constants.Goals as goal

pub returns : goal.returns
unfolding serde_json_on_literals digits refused_text
returns c = record { bad_text = refl; no_memory = refl }
