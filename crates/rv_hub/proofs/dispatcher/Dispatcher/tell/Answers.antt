-- One that waited is told, or closed.
use Rattle.std.proofs.Common.{◌∙◌, refl, sym}
use Rattle.rv_hub.proofs.OfDispatcher.Noting.{still_open}
use Rattle.rv_hub.proofs.OfDispatcher.Texts.{fewer_by}
use Rattle.rv_hub.proofs.OfDispatcher.ToldOne.{closed_it, may_give, told_it}
use Rattle.rv_hub.proofs.dispatcher.Dispatcher.tell.Goals as goal

pub give_told-requires : goal.give_told-requires
give_told-requires c =
    may_give c.args.self.now c.remove.new.self c.args.connection c.unwrap-subscription.result c.requires.sound
    (sym c.remove.ensures.was ∙ c.unwrap-subscription.ensures)

pub returns-in-Ok : goal.returns-in-Ok
returns-in-Ok c =
    let both = told_it c.args.self.now c.give_told.new.self c.remove.new.self c.args.connection
    c.unwrap-subscription.result c.requires.sound (sym c.remove.ensures.was ∙ c.unwrap-subscription.ensures)
    c.remove.ensures.removed
    (fewer_by _ _ c.remove.result c.unwrap-subscription.result c.unwrap-subscription.ensures
    c.remove.ensures.count)
    c.in-Ok.ensures.given in
    record { sound = both.0; tells = both.1 }

pub returns-in-Err : goal.returns-in-Err
returns-in-Err c =
    let there = sym c.remove.ensures.was ∙ c.unwrap-subscription.ensures in
    let owing = c.requires.sound.subscribers_owe c.args.connection c.unwrap-subscription.result there in
    let noted = c.close.ensures.noted
    (still_open _ _ c.args.connection owing.wire c.in-Err.ensures.refused.wires owing.there) in
    let both = closed_it c.args.self.now c.give_told.new.self
    (record c.give_told.new.self { wires = c.close.new.self }) c.remove.new.self c.args.connection
    c.unwrap-subscription.result c.requires.sound (sym c.remove.ensures.was ∙ c.unwrap-subscription.ensures)
    c.remove.ensures.removed
    (fewer_by _ _ c.remove.result c.unwrap-subscription.result c.unwrap-subscription.ensures
    c.remove.ensures.count)
    c.in-Err.ensures.refused refl c.close.ensures.closed noted in
    record { sound = both.0; tells = both.1 }
