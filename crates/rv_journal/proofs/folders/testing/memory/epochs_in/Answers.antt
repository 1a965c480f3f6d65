use Rattle.std.proofs.Common.{◌∙◌, [], List, ℕ, ap, subst, sym}
use Rattle.std.specs.Prelude.{Vec}
use Rattle.std.specs.declared.alloc.Global.{Global}
use Rattle.rv_journal.proofs.OfFolders.ListedEpochs.{ListsEpochs, lists_all, lists_found, lists_none}
use Rattle.rv_journal.proofs.OfFolders.ListedEpochs.{lists_not}
use Rattle.rv_journal.proofs.folders.testing.memory.epochs_in.Goals.{in-Some+in_ok-push, in_default}
use Rattle.rv_journal.proofs.folders.testing.memory.epochs_in.Goals as goal

abbrev items_of : Vec ℕ Global → List ℕ
items_of v = v.items

pub loop-change-init : goal.loop-change-init
loop-change-init c = subst (λ (l : List ℕ). ListsEpochs c.args.changes.now [] l) (sym
    c.new-epochs.ensures.items)
    (lists_none c.args.changes.now)

pub loop-change-preserved : goal.loop-change-preserved
loop-change-preserved c = elim c.match-epoch_of.branch [
  | in-Some+in_ok-push w ↦ lists_found c.args.changes.now c.loop-change.change-index _
      c.loop-change.epochs.items c.epoch_of.result c.loop-change-test.true c.loop-change.invariant
      c.epoch_of.ensures.given w.in-Some.epoch c.match-epoch_of.epochs.items w.in-Some.is
      c.epoch_of.ensures.some (ap items_of w.epochs-is ∙ w.in_ok-push.ensures.items)
  | in_default w ↦ lists_not c.args.changes.now c.loop-change.change-index _
      c.loop-change.epochs.items c.epoch_of.result c.loop-change-test.true c.loop-change.invariant
      c.epoch_of.ensures.given c.match-epoch_of.epochs.items w.in_default.not-Some
      (ap items_of w.epochs-is)
]

pub returns : goal.returns
returns c = lists_all c.args.changes.now c.loop-change.change-index c.loop-change.epochs.items
    c.loop-change-test.false c.loop-change.invariant
