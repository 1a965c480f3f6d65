-- Each arm writes one body, for one item.
use Rattle.std.proofs.Common.{subst, sym, ◌∙◌}
use Rattle.rv_text.specs.Bodies.{HasBodyLength}
use Rattle.rv_server.specs.locked.Writing.{FitsTold, IsAnswer}
use Rattle.rv_server.specs.declared.locked.asking.FrameAnswer.{FrameAnswer}
use Rattle.rv_server.specs.declared.locked.item.Item.TheVariants as item
use Rattle.rv_server.proofs.OfLocked.Told.{part_written, whole_written}
use Rattle.rv_server.proofs.locked.telling.write_told.Goals as goal

pub returns-in-BadText-clause-whole : goal.returns-in-BadText-clause-whole
returns-in-BadText-clause-whole g c =
    whole_written g.W.Write.contents _ _ c.args.told.now item.BadText _ c.write_item.result
    (subst (λ (t : FrameAnswer). IsAnswer t item.BadText c.bad_text_body.result.now) (sym c.in-BadText.is)
    c.bad_text_body.ensures.text) c.bad_text_body.ensures.length
    c.write_item.ensures.item c.write_item.ensures.frame

pub returns-in-BadText-clause-part : goal.returns-in-BadText-clause-part
returns-in-BadText-clause-part g c =
    part_written g.W.Write.contents _ _ c.args.told.now item.BadText _ c.write_item.result
    (subst (λ (t : FrameAnswer). IsAnswer t item.BadText c.bad_text_body.result.now) (sym c.in-BadText.is)
    c.bad_text_body.ensures.text) c.bad_text_body.ensures.length
    c.write_item.ensures.sent c.write_item.ensures.part c.write_item.ensures.failed

pub returns-in-NoMemory-clause-whole : goal.returns-in-NoMemory-clause-whole
returns-in-NoMemory-clause-whole g c =
    let wrote = c.write_item-in-NoMemory in
    whole_written g.W.Write.contents _ _ c.args.told.now item.NoMemory _ wrote.result
    c.no_memory_body.ensures.text c.no_memory_body.ensures.length wrote.ensures.item wrote.ensures.frame

pub returns-in-NoMemory-clause-part : goal.returns-in-NoMemory-clause-part
returns-in-NoMemory-clause-part g c =
    let wrote = c.write_item-in-NoMemory in
    part_written g.W.Write.contents _ _ c.args.told.now item.NoMemory _ wrote.result
    c.no_memory_body.ensures.text c.no_memory_body.ensures.length
    wrote.ensures.sent wrote.ensures.part wrote.ensures.failed

pub returns-in-Err-clause-whole : goal.returns-in-Err-clause-whole
returns-in-Err-clause-whole g c =
    let wrote = c.write_item-in-Err in
    whole_written g.W.Write.contents _ _ c.args.told.now item.NoMemory _ wrote.result
    c.no_memory_body-in-Err.ensures.text c.no_memory_body-in-Err.ensures.length wrote.ensures.item
    wrote.ensures.frame

pub returns-in-Err-clause-part : goal.returns-in-Err-clause-part
returns-in-Err-clause-part g c =
    let wrote = c.write_item-in-Err in
    part_written g.W.Write.contents _ _ c.args.told.now item.NoMemory _ wrote.result
    c.no_memory_body-in-Err.ensures.text c.no_memory_body-in-Err.ensures.length
    wrote.ensures.sent wrote.ensures.part wrote.ensures.failed

pub returns-in-Ok-clause-whole : goal.returns-in-Ok-clause-whole
returns-in-Ok-clause-whole g c =
    let wrote = c.write_item-in-Ok in
    whole_written g.W.Write.contents _ _ c.args.told.now item.Said _ wrote.result
    (subst (λ (t : FrameAnswer). IsAnswer t item.Said c.as_bytes.result.now) (sym c.in-Said.is)
    (c.as_bytes.ensures.value ∙ c.in-Ok.ensures.text))
    (subst HasBodyLength (sym c.as_bytes.ensures.value)
    (c.in-Ok.ensures.short (subst FitsTold c.in-Said.is c.requires)))
    wrote.ensures.item wrote.ensures.frame

pub returns-in-Ok-clause-part : goal.returns-in-Ok-clause-part
returns-in-Ok-clause-part g c =
    let wrote = c.write_item-in-Ok in
    part_written g.W.Write.contents _ _ c.args.told.now item.Said _ wrote.result
    (subst (λ (t : FrameAnswer). IsAnswer t item.Said c.as_bytes.result.now) (sym c.in-Said.is)
    (c.as_bytes.ensures.value ∙ c.in-Ok.ensures.text))
    (subst HasBodyLength (sym c.as_bytes.ensures.value)
    (c.in-Ok.ensures.short (subst FitsTold c.in-Said.is c.requires)))
    wrote.ensures.sent wrote.ensures.part wrote.ensures.failed
