-- Effect by effect, with who waits for which frame.
use Rattle.rv_hub.proofs.Paired.{frames_answered, pairs_begin}
use Rattle.rv_hub.proofs.laws.frames_are_answered.Goals as goal

pub returns-clause-begins : goal.returns-clause-begins
returns-clause-begins c = pairs_begin

pub returns-clause-events : goal.returns-clause-events
returns-clause-events c = frames_answered
