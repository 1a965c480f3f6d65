-- Re-exported from rv_account: items leave each queue in their order of arrival.
pub use Rattle.rv_account.specs.rules.Order.{PairAt, MayTakeSeveral, TakesInTurn, InOrder}
