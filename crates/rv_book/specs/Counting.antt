-- Re-exported from rv_account: how many places have a property.
pub use Rattle.rv_account.specs.rules.Counting.{NumberOf}
