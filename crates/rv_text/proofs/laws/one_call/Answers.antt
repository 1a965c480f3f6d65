-- Each call is found again in its object.
use Rattle.rv_text.specs.Reading.{calls}
use Rattle.rv_text.proofs.Readers.{call_reader}
use Rattle.rv_text.proofs.Decoding.{at_most_one}
use Rattle.rv_text.proofs.laws.one_call.Goals as goal

pub returns : goal.returns
returns c = at_most_one _ calls call_reader
