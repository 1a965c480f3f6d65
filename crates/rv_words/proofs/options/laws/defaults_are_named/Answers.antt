-- By computing what clap makes of the words.
use Rattle.rv_words.proofs.OfOptions.Bare.{bare_named}
use Rattle.rv_words.proofs.options.laws.defaults_are_named.Goals as goal

pub returns : goal.returns
returns c = bare_named
