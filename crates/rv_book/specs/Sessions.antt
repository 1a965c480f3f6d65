-- Re-exported from rv_account: a client's session, with its incarnation, its version and its last number.
pub use Rattle.rv_account.specs.rules.Sessions.{LastHello, HasIncarnation, HasOpened, SaidHello, HasOnlyLower}
pub use Rattle.rv_account.specs.rules.Sessions.{NamesKey, LastNumber, AskedIn}
