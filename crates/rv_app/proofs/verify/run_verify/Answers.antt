-- A record without lines has noted nothing.
use Rattle.rv_app.proofs.verify.run_verify.Goals as goal

pub verify_beside-requires : goal.verify_beside-requires
verify_beside-requires g c = λ a e. c.new-records.ensures.stands a
