-- By what is asked of the parts.
use Rattle.rv_account.proofs.OfState.Resumed.Decided.{passes_resume, resume_passes}
use Rattle.rv_account.proofs.state.resume.snapshot.parts_resume.Goals as goal

pub returns : goal.returns
returns c =
    let passes = c.passes_all.ensures in (
      λ is. passes_resume c.args.epoch c.args.moment c.args.length c.args.opens.now c.args.clients.now
          c.requires
          (passes.0 is),
      λ is. passes.1 (resume_passes c.args.epoch c.args.moment c.args.length c.args.opens.now
          c.args.clients.now
          c.requires is),
    )
