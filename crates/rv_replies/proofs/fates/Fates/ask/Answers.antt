-- A key that wasn't known is put in as one that nothing names.
use Rattle.std.proofs.Common.{◌≡◌, false, is_some}
use Rattle.rv_replies.specs.Known.{fate_in}
use Rattle.rv_replies.proofs.Writing.{put_asks}
use Rattle.rv_replies.proofs.fates.Fates.ask.Goals as goal

pub returns-in_ok-insert : goal.returns-in_ok-insert
returns-in_ok-insert c =
    let unknown : is_some (fate_in c.args.self.now c.args.key.now) ≡ false = cc in
    put_asks c.args.self.now (record { fates = c.insert.new.self }) c.args.key.now c.of.result c.of.ensures
    unknown
    c.in_ok-insert.ensures.updates.0
