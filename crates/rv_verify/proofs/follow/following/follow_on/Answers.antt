use Rattle.rv_verify.proofs.OfFollow.Redone.{has_followed, resumes_done}
use Rattle.rv_verify.proofs.follow.following.follow_on.Goals as goal

pub returns-then-redo-clause-resumes : goal.returns-then-redo-clause-resumes
returns-then-redo-clause-resumes c =
    resumes_done c.args.machine.now c.redo.new.self c.args.entry c.requires.resumes c.requires.fits
    c.requires.follows (c.has_room.ensures.0 c.if-not-has_room.false) (c.redo.ensures.done c.if-redo.true)

pub returns-then-redo-clause-became : goal.returns-then-redo-clause-became
returns-then-redo-clause-became c =
    has_followed c.args.machine.now c.redo.new.self c.args.entry c.requires.resumes c.requires.fits
    c.requires.follows (c.has_room.ensures.0 c.if-not-has_room.false) (c.redo.ensures.done c.if-redo.true)
