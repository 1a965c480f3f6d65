-- Each message is found again in its object.
use Rattle.rv_text.specs.Reading.{messages}
use Rattle.rv_text.proofs.Readers.{message_reader}
use Rattle.rv_text.proofs.Decoding.{at_most_one}
use Rattle.rv_text.proofs.laws.one_message.Goals as goal

pub returns : goal.returns
returns c = at_most_one _ messages message_reader
