-- Each answer is found again in its object.
use Rattle.rv_text.specs.Reading.{answers}
use Rattle.rv_text.proofs.AnswerReaders.{answer_reader}
use Rattle.rv_text.proofs.Decoding.{at_most_one}
use Rattle.rv_text.proofs.laws.one_answer.Goals as goal

pub returns : goal.returns
returns c = at_most_one _ answers answer_reader
