-- By computing what clap makes of the words.
use Rattle.rv_words.proofs.OfOptions.Bare.{bare_alone}
use Rattle.rv_words.proofs.options.laws.defaults_alone.Goals as goal

pub returns : goal.returns
returns c = bare_alone
