-- What many proofs of this crate cite of the library, of the crates below and of its own definitions.
pub use Rattle.std.proofs.Common.{◌++◌, ◌+◌, ◌<◌, ◌∙◌, ◌∷◌, ◌≡◌, ◌≤◌, ◌⊎◌, List, None, Option, Some, [], ap}
pub use Rattle.std.proofs.Common.{arith, inl, inr, length, length-take, option_and_then, refl, subst, suc}
pub use Rattle.std.proofs.Common.{sym, take, zero, ℕ}
pub use Rattle.std.proofs.lemmas.Bool.{cases_lt, cases_order}
pub use Rattle.std.proofs.lemmas.List.{take-append-le}
pub use Rattle.std.proofs.lemmas.Option.{get_or_from_slice_get, none-some, same_Some, slice_get-get_or}
pub use Rattle.std.specs.List.{slice_get, slice_index}
pub use Rattle.std.specs.List.Sorted.{IsStrictlyIncreasing}
pub use Rattle.std.specs.Prelude.{is_some}
pub use Rattle.rv_account.specs.Account.{Account, Among, Names, NamesAt, act_at, call_at, call_in, key_at}
pub use Rattle.rv_account.specs.Account.{key_in}
pub use Rattle.rv_account.specs.Calls.{IsPut, MayMeet, Stays, may_name, opposite}
pub use Rattle.rv_account.specs.declared.entry.Act.{Act}
pub use Rattle.rv_account.specs.declared.entry.Act.TheVariants.{Arrive, Cancel, Hello, Tick}
pub use Rattle.rv_account.specs.declared.entry.Entry.{Entry}
pub use Rattle.rv_account.specs.rules.Counting.{NumberOf}
pub use Rattle.rv_account.specs.rules.Legal.{IsOpenOpposite, Legal, MayFollow, before}
pub use Rattle.rv_account.specs.rules.Sessions.{HasIncarnation, LastHello, LastNumber, NamesKey}
pub use Rattle.rv_account.specs.rules.Waiting.{EndsWait, Met, NamesPartner, Open, OpenAt, Stopped}
pub use Rattle.rv_account.specs.rules.Waiting.{StoppedAt, Waiting}
pub use Rattle.rv_account.specs.rules.Waiting.{limit_at}
pub use Rattle.rv_text.specs.Calls.{side_of}
pub use Rattle.rv_text.specs.declared.call.Call.{Call}
pub use Rattle.rv_text.specs.declared.call.Side.{Side}
pub use Rattle.rv_text.specs.declared.call.Side.TheVariants.{Exchanges, Gives, Looks, Takes}
pub use Rattle.rv_text.specs.declared.message.Key.{Key}
pub use Rattle.rv_text.specs.declared.version.Version.{Version}
