-- Re-exported from rv_account: one step of the book, with the answer to a message and the accounts after it.
pub use Rattle.rv_account.specs.rules.Steps.{capped_moment, step_moment, OtherEpochDue, NoSessionDue}
pub use Rattle.rv_account.specs.rules.Steps.{OldIncarnationDue, OtherVersionDue, OldNumberDue, OtherCallDue}
pub use Rattle.rv_account.specs.rules.Steps.{BusyDue, GapDue, ClientsFullDue, max_entries, EpochFullDue}
pub use Rattle.rv_account.specs.rules.Steps.{RefusesDue}
pub use Rattle.rv_account.specs.rules.Steps.{RefuseOr, WhereElse, KeyLines, RequestLines, CancelLines}
pub use Rattle.rv_account.specs.rules.Steps.{HelloLines}
pub use Rattle.rv_account.specs.rules.Steps.{Refuses, Adds, Replies, Answers, Repeats, EntersOrNoMemory}
pub use Rattle.rv_account.specs.rules.Steps.{NextAt}
pub use Rattle.rv_account.specs.rules.Steps.{Ticks, Next, max_clients, own_moment, max_moment}
