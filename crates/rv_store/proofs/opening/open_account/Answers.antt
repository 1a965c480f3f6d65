-- What is told of a file that is opened as an account's journal, or isn't.
use Rattle.std.proofs.Common.{Option, subst}
use Rattle.rv_journal.specs.Opened.{file_lines}
use Rattle.rv_journal.specs.Text.{before_zero}
use Rattle.rv_journal.proofs.Lines.{lines_only}
use Rattle.rv_machine.specs.declared.machine.Machine.{Machine}
use Rattle.rv_store.specs.Resumed.{StandsFrom}
use Rattle.rv_store.proofs.Refused.{made_lines, refused_lines}
use Rattle.rv_store.proofs.Reopened.{on_refused}
use Rattle.rv_store.proofs.Resumed.{each_err, each_ok, resumed_epoch, resumed_made, resumed_refused}
use Rattle.rv_store.proofs.opening.open_account.Goals as goal

pub returns-in-Some-clause-holds : goal.returns-in-Some-clause-holds
returns-in-Some-clause-holds g c = each_ok c.open_by.result _ _ (λ stored made told stands.
    let disk = g.D.Device.disk in
    let text = file_lines disk c.args.device in
    let fits = c.in-Some.ensures.some in
    resumed_made c.in-Some.machine c.new.result.reader c.new.ensures.read text c.args.epoch c.new.result
    c.new.ensures.none c.new.ensures.epoch (lines_only (before_zero (disk.seen c.args.device)))
    (subst (λ (m : Option Machine). StandsFrom m c.args.epoch text) fits.0 stands fits.1) stored.machine
    (made told)) c.open_by.ensures.made

pub returns-in-Some-clause-epoch : goal.returns-in-Some-clause-epoch
returns-in-Some-clause-epoch g c = each_ok c.open_by.result _ _ (λ stored made told.
    let disk = g.D.Device.disk in
    resumed_epoch c.in-Some.machine c.new.result.reader c.new.ensures.read (file_lines disk c.args.device)
    c.args.epoch c.new.result c.new.ensures.none c.new.ensures.epoch
    (lines_only (before_zero (disk.seen c.args.device))) stored.machine (made told)) c.open_by.ensures.made

pub returns-in-Some-clause-refused : goal.returns-in-Some-clause-refused
returns-in-Some-clause-refused g c = each_err c.open_by.result _ _ (λ failed refused.
    let disk = g.D.Device.disk in
    let text = file_lines disk c.args.device in
    let fits = c.in-Some.ensures.some in
    on_refused failed.0 _ _ (λ why left. record {
      looks = left.looks;
      fault = λ told stands. resumed_refused c.in-Some.machine c.new.result.reader c.new.ensures.read text
          c.args.epoch c.new.result c.new.ensures.none c.new.ensures.epoch
          (lines_only (before_zero (disk.seen c.args.device)))
          (subst (λ (m : Option Machine). StandsFrom m c.args.epoch text) fits.0 stands fits.1) why
          (left.lines told);
    }) refused) c.open_by.ensures.refused

pub returns-in-None-clause-holds : goal.returns-in-None-clause-holds
returns-in-None-clause-holds g c = each_ok c.open_by-in-None.result _ _ (λ stored made told stands.
    let disk = g.D.Device.disk in
    made_lines (file_lines disk c.args.device) c.args.epoch c.new-in-None.result stored.machine
    c.new-in-None.ensures.read c.new-in-None.ensures.epoch (made told)
    (lines_only (before_zero (disk.seen c.args.device)))) c.open_by-in-None.ensures.made

pub returns-in-None-clause-refused : goal.returns-in-None-clause-refused
returns-in-None-clause-refused g c = each_err c.open_by-in-None.result _ _ (λ failed refused.
    let disk = g.D.Device.disk in
    on_refused failed.0 _ _ (λ why left. record {
      looks = left.looks;
      fault = λ told stands. refused_lines (file_lines disk c.args.device) c.args.epoch c.new-in-None.result
          why c.new-in-None.ensures.read c.new-in-None.ensures.epoch (left.lines told)
          (lines_only (before_zero (disk.seen c.args.device)));
    }) refused) c.open_by-in-None.ensures.refused
