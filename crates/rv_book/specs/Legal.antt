-- Re-exported from rv_account: which entry may follow which entries, and so which accounts are legal.
pub use Rattle.rv_account.specs.rules.Legal.{KeepsTime, IsDueAt, NothingDue, SomethingDue, KeepsLimits}
pub use Rattle.rv_account.specs.rules.Legal.{KeepsMoments, RaisesIncarnation, IsOfSession, HasWaiting}
pub use Rattle.rv_account.specs.rules.Legal.{IsNextNumber}
pub use Rattle.rv_account.specs.rules.Legal.{CountsUp, WaitsUnder, CancelsInTurn, KeepsNumbers, IsFreePartner}
pub use Rattle.rv_account.specs.rules.Legal.{NamesFreePartners, IsOpenOpposite, PairsOpposites, PairsOldest}
pub use Rattle.rv_account.specs.rules.Legal.{PairsWherePossible, KeepsPairs, MayFollow, before, Legal}
