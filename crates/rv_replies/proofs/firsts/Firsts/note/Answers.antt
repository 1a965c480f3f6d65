-- A key that no line named is put in.
use Rattle.std.proofs.Common.{◌≡◌, false, is_some}
use Rattle.rv_replies.specs.Firsts.{first_in}
use Rattle.rv_replies.proofs.FirstLines.{notes_new}
use Rattle.rv_replies.proofs.firsts.Firsts.note.Goals as goal

pub returns-in_ok-insert : goal.returns-in_ok-insert
returns-in_ok-insert c =
    let unknown : is_some (first_in c.args.self.now c.args.key.now) ≡ false = cc in
    notes_new c.args.self.now (record { firsts = c.insert.new.self }) c.args.key.now c.args.line c.of.result
    c.of.ensures unknown c.in_ok-insert.ensures.updates.0
