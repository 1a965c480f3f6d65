-- What many proofs of this crate cite of the library, of the crates below and of its own definitions.
pub use Rattle.std.proofs.Common.{◌++◌, ◌+◌, ◌<◌, ◌∙◌, ◌∷◌, ◌≡◌, ◌≤◌, List, None, Option, Some}
pub use Rattle.std.proofs.Common.{[], ap, arith, inl, inr, length, length-append, option_and_then, option_map}
pub use Rattle.std.proofs.Common.{refl, subst, suc, sym, take, ℕ}
pub use Rattle.std.proofs.lemmas.Bool.{cases_lt, cases_order}
pub use Rattle.std.proofs.lemmas.List.{take_all}
pub use Rattle.std.proofs.lemmas.Option.{none-some, same_Some}
pub use Rattle.std.specs.List.{slice_get}
pub use Rattle.std.specs.Prelude.{unwrap_or}
pub use Rattle.rv_account.specs.Account.{Account, Among, Stored, act_at, call_at, call_in}
pub use Rattle.rv_account.specs.Account.{key_at, key_in}
pub use Rattle.rv_account.specs.Calls.{Stays, may_name, opposite}
pub use Rattle.rv_account.specs.declared.entry.Act.{Act}
pub use Rattle.rv_account.specs.declared.entry.Act.TheVariants.{Arrive, Cancel, Hello, Tick}
pub use Rattle.rv_account.specs.declared.entry.Entry.{Entry}
pub use Rattle.rv_book.specs.Counting.{NumberOf}
pub use Rattle.rv_book.specs.Legal.{HasWaiting, IsOpenOpposite, Legal}
pub use Rattle.rv_book.specs.Legal.{before}
pub use Rattle.rv_book.specs.Limits.{FitsAccount}
pub use Rattle.rv_book.specs.Replies.{CancelledFirst, HasReply, RepliesAt, told_by}
pub use Rattle.rv_book.specs.Saying.{said_in}
pub use Rattle.rv_book.specs.Sessions.{HasIncarnation, LastNumber}
pub use Rattle.rv_book.specs.Steps.{Answers, ClientsFullDue, EntersOrNoMemory, EpochFullDue, NextAt}
pub use Rattle.rv_book.specs.Steps.{OtherCallDue, RefuseOr, Refuses, Replies, Ticks, step_moment}
pub use Rattle.rv_book.specs.Tables.{IsSound, account_of}
pub use Rattle.rv_book.specs.Verdicts.{IsAsKept, reply_of}
pub use Rattle.rv_book.specs.Waiting.{NamesPartner, OpenAt, SideAt}
pub use Rattle.rv_book.specs.declared.state.BookState.{BookState}
pub use Rattle.rv_account.proofs.OfRules.CallKinds.{gives_item}
pub use Rattle.rv_account.proofs.OfRules.Fronts.{read_front, read_whole}
pub use Rattle.rv_account.proofs.OfRules.Growing.{act_read, call_read, read_there, reads_on}
pub use Rattle.rv_account.proofs.OfRules.Growing.{reads_within}
pub use Rattle.rv_account.proofs.OfRules.Keys.{key_read, no_hello}
pub use Rattle.rv_account.proofs.OfRules.WithinLimits.{act_fits, act_there}
pub use Rattle.rv_account.proofs.OfRules.OnePartner.{partner_open}
pub use Rattle.rv_account.proofs.OfRules.Opposites.{one_opposite}
pub use Rattle.rv_account.proofs.OfRules.Places.{get-append_within}
pub use Rattle.rv_account.proofs.OfRules.Sides.{one_side}
pub use Rattle.rv_account.proofs.OfRules.Waits.{arrival}
pub use Rattle.rv_session.specs.declared.kept.Kept.{Kept}
pub use Rattle.rv_text.specs.Calls.{item_of, side_of}
pub use Rattle.rv_text.specs.Limits.{FitsItem}
pub use Rattle.rv_text.specs.declared.answer.Answer.{Answer}
pub use Rattle.rv_text.specs.declared.answer.Answer.TheVariants.{Replied, Welcome}
pub use Rattle.rv_text.specs.declared.answer.Refusal.{Refusal}
pub use Rattle.rv_text.specs.declared.answer.Refusal.TheVariants.{OtherVersion}
pub use Rattle.rv_text.specs.declared.answer.Reply.{Reply}
pub use Rattle.rv_text.specs.declared.answer.Reply.TheVariants.{Cancelled}
pub use Rattle.rv_text.specs.declared.call.Call.{Call}
pub use Rattle.rv_text.specs.declared.call.Side.{Side}
pub use Rattle.rv_text.specs.declared.call.Side.TheVariants.{Gives, Takes}
pub use Rattle.rv_text.specs.declared.call.Wait.{Wait}
pub use Rattle.rv_text.specs.declared.call.Wait.TheVariants.{Forever, Millis, Now}
pub use Rattle.rv_text.specs.declared.message.Key.{Key}
pub use Rattle.rv_text.specs.declared.message.Message.{Message}
pub use Rattle.rv_text.specs.declared.message.Message.TheVariants.{Request}
pub use Rattle.rv_text.specs.declared.version.Version.{Version}
pub use Rattle.rv_text.specs.declared.version.Version.TheVariants.{One, Two}
