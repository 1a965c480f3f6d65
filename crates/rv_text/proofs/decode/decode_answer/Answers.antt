-- What is found among the members is what the bytes are the body of.
use Rattle.rv_text.specs.Reading.{answers}
use Rattle.rv_text.proofs.AnswerReaders.{answer_reader}
use Rattle.rv_text.proofs.Decoding.{decodes}
use Rattle.rv_text.proofs.decode.decode_answer.Goals as goal

pub returns : goal.returns
returns c = decodes _ answers answer_reader c.args.bytes.now c.decode.result c.decode.ensures
