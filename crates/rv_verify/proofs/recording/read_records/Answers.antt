-- No line was taken before.
use Rattle.rv_verify.proofs.Through.{known_or}
use Rattle.rv_verify.proofs.recording.read_records.Goals as goal

pub returns-clause-record : goal.returns-clause-record
returns-clause-record g c = known_or (g.B.Read.remaining c.args.reader.now) _ (λ bytes is. record {
  one_by_one = c.in_ok-take_lines.ensures.taken bytes is c.new-records.ensures.lines;
  are_new = c.in_ok-take_lines.ensures.are_new (λ a none. c.new-records.ensures.stands a);
})

pub returns-clause-are_new : goal.returns-clause-are_new
returns-clause-are_new g c =
    c.in_ok-take_lines.ensures.are_new (λ a none. c.new-records.ensures.stands a)
