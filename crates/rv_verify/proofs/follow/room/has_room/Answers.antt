use Rattle.std.proofs.Common.{refl, sym, subst, IsTrue, true}
use Rattle.rv_account.specs.declared.entry.Act.{Act}
use Rattle.rv_machine.specs.Machines.{state_in}
use Rattle.rv_account.specs.state.resume.Resuming.{StaysInRoom}
use Rattle.rv_account.specs.state.After.{following}
use Rattle.rv_account.specs.state.Follows.{DueOnlyAtTick}
use Rattle.rv_verify.proofs.OfFollow.OfAsked.DueNow.{Iff}
use Rattle.rv_verify.proofs.OfFollow.OfAsked.Hellos.{tick_stays}
use Rattle.rv_verify.proofs.follow.room.has_room.Goals as goal

pub returns-in-Tick : goal.returns-in-Tick
returns-in-Tick c =
    let s = state_in c.args.machine.now in
    let moment = c.args.entry.now.moment in
    subst (λ (act : Act). Iff (IsTrue true) (StaysInRoom (following s moment act).after)) (sym c.in-Tick.is) (
      λ t. tick_stays s c.requires.resumes moment c.requires.fits.0
          (subst (DueOnlyAtTick s moment) c.in-Tick.is c.requires.follows.moment.due),
      λ room. refl,
    )

pub returns-in-Hello : goal.returns-in-Hello
returns-in-Hello c =
    let s = state_in c.args.machine.now in
    let moment = c.args.entry.now.moment in
    subst (λ (act : Act). Iff (IsTrue c.hello_fits.result) (StaysInRoom (following s moment act).after))
    (sym c.in-Hello.is)
    (c.hello_fits.ensures moment c.in-Hello.incarnation c.in-Hello.version c.requires.fits.0)

pub returns-then-is_empty : goal.returns-then-is_empty
returns-then-is_empty c =
    let s = state_in c.args.machine.now in
    let moment = c.args.entry.now.moment in
    subst (λ (act : Act). Iff (IsTrue c.alone_fits.result) (StaysInRoom (following s moment act).after))
    (sym c.in-Arrive.is) (c.alone_fits.ensures moment c.requires.fits.0)

pub returns-else-is_empty : goal.returns-else-is_empty
returns-else-is_empty c =
    let s = state_in c.args.machine.now in
    let moment = c.args.entry.now.moment in
    subst (λ (act : Act). Iff (IsTrue c.meeting_fits.result) (StaysInRoom (following s moment act).after))
    (sym c.in-Arrive.is) (c.meeting_fits.ensures moment c.requires.fits.0)
