-- What is found among the members is what the bytes are the body of.
use Rattle.rv_text.specs.Reading.{messages}
use Rattle.rv_text.proofs.Readers.{message_reader}
use Rattle.rv_text.proofs.Decoding.{decodes}
use Rattle.rv_text.proofs.decode.decode_message.Goals as goal

pub returns : goal.returns
returns c = decodes _ messages message_reader c.args.bytes.now c.decode.result c.decode.ensures
