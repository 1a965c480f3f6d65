-- The value that clap gives is the one of the rows.
use Rattle.clap.specs.Words.{found_of}
use Rattle.rv_words.proofs.Values.{value_in_rows}
use Rattle.rv_words.proofs.reading.text_of.Goals as goal

pub returns : goal.returns
returns c = value_in_rows (found_of c.args.options.now) c.args.name.now c.get_str.result c.get_str.ensures
