-- A session is said in one way: by an incarnation alone, or by one with the number of version 2 after it.
use Rattle.std.proofs.Common.{refl, sym, ◌∙◌}
use Rattle.std.proofs.lemmas.Bool.{false≢true}
use Rattle.rv_run.proofs.OfPlay.Saying.{no_session, no_session_of_two}
use Rattle.rv_run.proofs.play.event.read_session.Goals as goal

pub returns-in_err-read_identifier-in-None-clause-none :
    goal.returns-in_err-read_identifier-in-None-clause-none
returns-in_err-read_identifier-in-None-clause-none c none = no_session c.args.fields.now
    (c.in-None.ensures.none refl) (c.in_err-read_identifier-in-None.ensures.none refl)

pub returns-in_err-read_identifier-in-Some-clause-none :
    goal.returns-in_err-read_identifier-in-Some-clause-none
returns-in_err-read_identifier-in-Some-clause-none c none =
    no_session_of_two c.args.fields.now c.in-Some.incarnation.now c.in-Some.version.now
    c.in-Some.ensures.parts c.in-Some.ensures.first
    (λ n writes two. c.in_err-read_identifier-in-Some.ensures.none refl n writes)

pub returns-in-Some-2-clause-none : goal.returns-in-Some-2-clause-none
returns-in-Some-2-clause-none c none =
    no_session_of_two c.args.fields.now c.in-Some.incarnation.now c.in-Some.version.now
    c.in-Some.ensures.parts c.in-Some.ensures.first
    (λ n writes two. false≢true (sym c.if-is_word.false ∙ c.is_word.ensures.1 two))
