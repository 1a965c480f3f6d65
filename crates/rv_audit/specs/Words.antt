-- The words that the clauses of longer files cite, in one place: each is defined where its line says.
pub use Rattle.rv_text.specs.declared.call.Side.{Side}
pub use Rattle.rv_text.specs.declared.version.Version.{Version}
pub use Rattle.rv_account.specs.declared.entry.Act.TheVariants.{Hello}
pub use Rattle.rv_account.specs.Account.{Among, call_in}
pub use Rattle.rv_account.specs.rules.Legal.{HasWaiting, IsOpenOpposite, MayFollow, SomethingDue, WaitsUnder}
pub use Rattle.rv_account.specs.rules.Steps.{own_moment}
pub use Rattle.rv_account.specs.rules.Waiting.{Met, OpenAt, SideAt, Waiting, limit_at}
pub use Rattle.rv_audit.specs.AccountRules.{ArrivesAs, ArrivesToMeet, BreaksBehind, BreaksCount, FallsBack}
pub use Rattle.rv_audit.specs.AccountRules.{IsNoFreePlace, IsNotNext, IsOfNoSession, IsOutOfOrder, IsPaired}
pub use Rattle.rv_audit.specs.AccountRules.{IsSwapped, MeetsWrongly, MissesPartner, NamesTaken, NamesTooMany}
pub use Rattle.rv_audit.specs.AccountRules.{NamesWrongly, PassesLimit, PassesOver, StartsNoNewer}
pub use Rattle.rv_audit.specs.AccountRules.{TicksForNothing}
pub use Rattle.rv_audit.specs.Opens.{ClosesEach}
pub use Rattle.rv_account.specs.state.State.{client_waits, place_list}
pub use Rattle.rv_account.specs.state.After.{just_open}
pub use Rattle.rv_account.specs.state.Agreement.{ClientWaitsAt}
pub use Rattle.rv_audit.specs.Sessions.{session_in}
pub use Rattle.rv_audit.specs.Passed.{ClosesGone, Flags, HasAmong, HasPassed, IsFront, IsOf, IsOfSessionOf}
pub use Rattle.rv_audit.specs.Passed.{IsOldestOpposite, IsReadyFor, LeavesOlder, LeavesPartner}
pub use Rattle.rv_audit.specs.Passed.{MayPass, Misses, SameRest, SetsFlags, passed_account, passed_state}
pub use Rattle.rv_audit.specs.AccountRules.{BreaksFirst, BreaksNone, KeepsBefore, rank_of}
pub use Rattle.rv_account.specs.rules.Legal.{IsOfSession, NamesFreePartners}
pub use Rattle.rv_text.specs.declared.message.Key.{Key}
pub use Rattle.rv_text.specs.declared.call.Call.{Call}
pub use Rattle.rv_account.specs.Calls.{may_name, opposite}
