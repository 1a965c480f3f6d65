-- What is found among the members is what the bytes are the text of.
use Rattle.rv_text.specs.Reading.{calls}
use Rattle.rv_text.proofs.Readers.{call_reader}
use Rattle.rv_text.proofs.Decoding.{decodes}
use Rattle.rv_text.proofs.decode.decode_call.Goals as goal

pub returns : goal.returns
returns c = decodes _ calls call_reader c.args.bytes.now c.decode.result c.decode.ensures
