-- What many proofs of this crate cite of the library, of the crates below and of its own definitions.
pub use Rattle.std.proofs.Common.{◌+◌, ◌-◌, ◌<◌, ◌∙◌, ◌∷◌, ◌≡◌, ◌≢◌, ◌≤◌, ◌⊎◌, Bool, IfNone, IfSome, IsSome}
pub use Rattle.std.proofs.Common.{List, None, Option, Some, [], ap, arith, false, get_or, inl, inr, length}
pub use Rattle.std.proofs.Common.{nat_eq, not, option_and_then, refl, subst, suc, sym, take, true, zero, ℕ}
pub use Rattle.std.proofs.lemmas.Bool.{cases_lt, false≢true}
pub use Rattle.std.proofs.lemmas.Bool.Decides.{nat_tests}
pub use Rattle.std.proofs.lemmas.Option.{none-some, same_Some}
pub use Rattle.std.specs.Bool.{IsTrue, then_some}
pub use Rattle.std.specs.List.{slice_get}
pub use Rattle.rv_account.specs.Account.{Account, Among, Names, act_at, call_in, key_in}
pub use Rattle.rv_account.specs.Calls.{IsPut, may_name, opposite}
pub use Rattle.rv_account.specs.declared.entry.Act.{Act}
pub use Rattle.rv_account.specs.declared.entry.Act.TheVariants.{Arrive, Cancel, Hello, Tick}
pub use Rattle.rv_account.specs.declared.entry.Entry.{Entry}
pub use Rattle.rv_audit.specs.AccountRules.{BreaksBehind, IsNoFreePlace, IsOutOfOrder, IsPaired, MeetsWrongly}
pub use Rattle.rv_audit.specs.AccountRules.{MissesPartner, NamesTaken, PassesOver, StartsNoNewer}
pub use Rattle.rv_audit.specs.Lines.{IsOpenable, stands_in}
pub use Rattle.rv_audit.specs.Marks.{IsFirstBehind, NoneBehind, NoneUntil, is_marked_under}
pub use Rattle.rv_audit.specs.Passed.{AreTables, HasAmong, IsFront}
pub use Rattle.rv_audit.specs.Passed.{NoneBefore, SetsFlags, is_any, passed_account}
pub use Rattle.rv_audit.specs.declared.front.Front.{Front}
pub use Rattle.rv_audit.specs.declared.lines.OpenLines.{OpenLines}
pub use Rattle.rv_audit.specs.declared.marks.Marks.{Marks}
pub use Rattle.rv_audit.specs.declared.opens.Opens.{Opens}
pub use Rattle.rv_audit.specs.declared.rule.Rule.{Rule}
pub use Rattle.rv_audit.specs.declared.rule.Rule.TheVariants.{M1, M2, M3, N1, N2, N3, P1, P2, P3, P4, S1}
pub use Rattle.rv_audit.specs.declared.rule.Rule.TheVariants.{S2}
pub use Rattle.rv_audit.specs.declared.sessions.AuditSession.{AuditSession}
pub use Rattle.rv_account.specs.state.Agreement.{ClientWaitsAt}
pub use Rattle.rv_account.specs.rules.Legal.{HasWaiting, IsNextNumber, IsOpenOpposite, Legal, MayFollow}
pub use Rattle.rv_account.specs.rules.Legal.{NamesFreePartners, SomethingDue, WaitsUnder, before}
pub use Rattle.rv_account.specs.rules.Sessions.{NamesKey}
pub use Rattle.rv_account.specs.rules.Steps.{own_moment}
pub use Rattle.rv_account.specs.rules.Waiting.{Met, OpenAt, Waiting}
pub use Rattle.rv_account.proofs.OfRules.Fronts.{read_front, read_whole}
pub use Rattle.rv_account.proofs.OfRules.Growing.{act_read, call_read}
pub use Rattle.rv_account.proofs.OfRules.Keys.{act_called}
pub use Rattle.rv_account.proofs.OfRules.Numbers.{same_or_not}
pub use Rattle.rv_account.proofs.OfRules.Sides.{one_side}
pub use Rattle.rv_account.proofs.OfRules.Waits.{one_waits}
pub use Rattle.rv_text.specs.Calls.{side_of}
pub use Rattle.rv_text.specs.declared.call.Call.{Call}
pub use Rattle.rv_text.specs.declared.call.Side.{Side}
pub use Rattle.rv_text.specs.declared.call.Side.TheVariants.{Exchanges, Gives, Looks, Takes}
pub use Rattle.rv_text.specs.declared.message.Key.{Key}
pub use Rattle.rv_text.specs.declared.version.Version.{Version}
