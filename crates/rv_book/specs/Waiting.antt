-- Re-exported from rv_account: which arrivals were met, were stopped, and are still open.
pub use Rattle.rv_account.specs.rules.Waiting.{NamesPartner, Met, HasElapsed, EndsWait, StoppedAt, Stopped}
pub use Rattle.rv_account.specs.rules.Waiting.{Open}
pub use Rattle.rv_account.specs.rules.Waiting.{SideAt, OpenAt, IsOldest, Waiting, limit_at, limit_in}
