-- Words are read in one way.
use Rattle.rv_words.proofs.OfCommand.Commands.{named_one}
use Rattle.rv_words.proofs.command.laws.one_command.Goals as goal

pub returns : goal.returns
returns c = named_one
