-- Re-exported from rv_account: the limits of an account.
pub use Rattle.rv_account.specs.rules.Limits.{FitsAccount, FitEntries, FitsAct, FitsEntry}
