-- What arrives when the room was made arrives.
use Rattle.std.proofs.Common.{◌≡◌, [], List, subst, sym}
use Rattle.std.proofs.lemmas.Result.{IfOk-weaker, on_err_weaker}
use Rattle.rv_text.specs.Calls.{side_of}
use Rattle.rv_account.specs.state.State.{OpenPlace, State}
use Rattle.rv_account.specs.state.After.{opened_by}
use Rattle.rv_machine.specs.open_places.OpenMap.{opposed_in}
use Rattle.rv_machine.proofs.RoomMade.{arrives_since, as_before_since, may_still, same_state}
use Rattle.rv_machine.proofs.tables.Holdings.stay.Goals as goal

pub stay_at-requires-clause-may : goal.stay_at-requires-clause-may
stay_at-requires-clause-may c =
    may_still c.args.self.now c.prepare.new.self c.prepare.ensures.rest c.args.moment c.args.key c.args.call
    c.requires.may

pub stay_at-requires-clause-alone : goal.stay_at-requires-clause-alone
stay_at-requires-clause-alone c =
    subst (λ (all : List OpenPlace). opposed_in all (side_of c.args.call) ≡ [])
    (sym c.prepare.ensures.rest.table) c.requires.alone

pub stay_at-requires-clause-opened : goal.stay_at-requires-clause-opened
stay_at-requires-clause-opened c =
    subst (λ (s : State). c.in_ok-opened.opened ≡ opened_by s c.args.moment c.args.key c.args.call)
    (sym (same_state c.args.self.now c.prepare.new.self c.prepare.ensures.rest)) c.in_ok-opened.ensures.opened

pub returns-clause-ok : goal.returns-clause-ok
returns-clause-ok c =
    IfOk-weaker c.stay_at.result _ _
    (arrives_since c.args.self.now c.prepare.new.self c.prepare.ensures.rest c.args.moment c.args.key
    c.args.call c.stay_at.new.self) c.stay_at.ensures.ok

pub returns-clause-err : goal.returns-clause-err
returns-clause-err c =
    on_err_weaker c.stay_at.result
    (as_before_since c.args.self.now c.prepare.new.self c.prepare.ensures.rest c.stay_at.new.self)
    c.stay_at.ensures.err
