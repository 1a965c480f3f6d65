-- A machine is made of all lines, or they are no account's of that epoch.
use Rattle.std.proofs.Common.{◌∙◌, sym}
use Rattle.rv_store.proofs.Begun.{lacks, makes, of_epoch}
use Rattle.rv_store.proofs.ReadOn.{no_account}
use Rattle.rv_store.proofs.reader.machine_of.Goals as goal

pub returns-in-Ok-clause-made : goal.returns-in-Ok-clause-made
returns-in-Ok-clause-made c =
    let parts = c.args.parts in (
      c.in-Ok.ensures.ready c.requires,
      sym c.epoch.ensures ∙ c.if-epoch-parts.true,
      λ text is has. makes text parts.epoch parts.audit parts.records parts.begun c.in-Ok.machine
          c.if-not-parts.false has (λ read whole. c.in-Ok.ensures.holds read parts.records whole.part.read)
          (sym c.epoch.ensures ∙ c.if-epoch-parts.true),
    )

pub returns-in-Ok-2-clause-lacking : goal.returns-in-Ok-2-clause-lacking
returns-in-Ok-2-clause-lacking c text is has =
    let parts = c.args.parts in
    of_epoch text parts.epoch parts.audit parts.records parts.begun c.in-Ok.machine c.epoch-in-Ok-2.result
    c.if-not-parts.false has (λ read whole. c.in-Ok.ensures.holds read parts.records whole.part.read)
    c.epoch-in-Ok-2.ensures
    (λ same. c.if-epoch-parts.false (c.epoch.ensures ∙ sym c.epoch-in-Ok-2.ensures ∙ same))

pub returns-clause-lacking : goal.returns-clause-lacking
returns-clause-lacking c text is has =
    let parts = c.args.parts in
    lacks text parts.epoch parts.audit parts.records parts.begun c.in-Err.found c.if-not-parts.false has
    (λ read whole. no_account read parts.records c.in-Err.found
    (c.in-Err.ensures.found read parts.records whole.part.read) c.in-Err.ensures.fault)
