-- What many proofs of this crate cite of the library, of the crates below and of its own definitions.
pub use Rattle.std.proofs.Common.{◌++◌, ◌+◌, ◌<◌, ◌∙◌, ◌∷◌, ◌≡◌, ◌≤◌, ◌⊎◌, Bool, List, None, Option, Some, []}
pub use Rattle.std.proofs.Common.{ap, append-nil, append_assoc, arith, cond, false, inl, inr, length, map}
pub use Rattle.std.proofs.Common.{not, option_and_then, option_map, refl, subst, suc, sym, take, true, zero}
pub use Rattle.std.proofs.Common.{ℕ}
pub use Rattle.std.proofs.lemmas.Bool.{cases_lt, cases_order, eq-eqb, eqb-true, false≢true, true≢false}
pub use Rattle.std.proofs.lemmas.Option.{none-some, same_Some, slice_get-map}
pub use Rattle.std.specs.FinMap.{get, keys}
pub use Rattle.std.specs.List.{cons_option, filter, fold, list_any, slice_get}
pub use Rattle.std.specs.Ordering.{nat_cmp}
pub use Rattle.std.specs.Prelude.{◌↔◌, nat_eq}
pub use Rattle.rv_account.specs.Account.{Account, Among, Names, act_at, call_at, call_in, key_in, limit_at}
pub use Rattle.rv_account.specs.Account.{limit_in, own_moment, with_entry}
pub use Rattle.rv_account.specs.Calls.{IsPut, Lasts, Stays, limit_of, may_name, opposite}
pub use Rattle.rv_account.specs.declared.entry.Act.{Act}
pub use Rattle.rv_account.specs.declared.entry.Act.TheVariants.{Arrive, Cancel, Hello, Tick}
pub use Rattle.rv_account.specs.declared.entry.Entry.{Entry}
pub use Rattle.rv_account.proofs.OfRules.CallKinds.{gives_item}
pub use Rattle.rv_account.proofs.OfRules.Deciding.{same_key}
pub use Rattle.rv_account.proofs.OfRules.Growing.{act_read, call_read, reads_back, reads_on, reads_within}
pub use Rattle.rv_account.proofs.OfRules.Histories.{one_incarnation, one_last_number}
pub use Rattle.rv_account.proofs.OfRules.Keys.{key_read}
pub use Rattle.rv_account.proofs.OfRules.Legality.{Legal-with_entry}
pub use Rattle.rv_account.proofs.OfRules.OnePartner.{arrives_once}
pub use Rattle.rv_account.proofs.OfRules.Places.{get-append_end, within}
pub use Rattle.rv_account.specs.rules.Counting.{NumberOf}
pub use Rattle.rv_account.specs.rules.Legal.{HasWaiting, IsNextNumber, Legal, MayFollow, NothingDue}
pub use Rattle.rv_account.specs.rules.Legal.{WaitsUnder}
pub use Rattle.rv_account.specs.rules.Lines.{IsLineOf}
pub use Rattle.rv_account.specs.rules.Replies.{CancelledFirst, Drains, GetsItem, IsFrontItem, MeetsKey}
pub use Rattle.rv_account.specs.rules.Replies.{RepliesAt}
pub use Rattle.rv_account.specs.rules.Replies.{RepliesMet, RepliesUnmet}
pub use Rattle.rv_account.specs.rules.Sessions.{AskedIn, HasIncarnation, LastNumber, SaidHello}
pub use Rattle.rv_account.specs.rules.Steps.{Answers}
pub use Rattle.rv_account.specs.rules.Waiting.{Met, Open, OpenAt, StoppedAt, Waiting}
pub use Rattle.rv_account.specs.state.After.{Settled, acted, but, cancelled, due_at, following, just_open}
pub use Rattle.rv_account.specs.state.After.{met_by}
pub use Rattle.rv_account.specs.state.After.{session_version, state_after, state_of, told_met, waiter_of}
pub use Rattle.rv_account.specs.state.After.{with_last}
pub use Rattle.rv_account.specs.state.Agreement.{BecameOf, IsArrival, IsClient, IsClientOrNew, IsStateOf}
pub use Rattle.rv_account.specs.state.Agreement.{WaitsThere}
pub use Rattle.rv_account.specs.state.Agreement.{last_key_of}
pub use Rattle.rv_account.specs.state.Follows.{InSession, NumberIsNext, partners_of}
pub use Rattle.rv_account.specs.state.Moves.{IncarnationOld, Move, Ticked, entering, staying, ticked_at}
pub use Rattle.rv_account.specs.state.State.{ClientState, LastRequest, OpenPlace, State, Waiter, client_at}
pub use Rattle.rv_account.specs.state.State.{client_waits, line, line_of, open_at, place_list, place_waiting}
pub use Rattle.rv_account.specs.state.State.{same_side}
pub use Rattle.rv_session.specs.declared.client.LastRequest.TheVariants.{CancelledUnseen, Fresh, RepliedTo}
pub use Rattle.rv_session.specs.declared.client.LastRequest.TheVariants.{Waits}
pub use Rattle.rv_text.specs.Calls.{drains_of, item_of, side_of, wait_of}
pub use Rattle.rv_text.specs.declared.answer.Answer.{Answer}
pub use Rattle.rv_text.specs.declared.answer.Answer.TheVariants.{Replied}
pub use Rattle.rv_text.specs.declared.answer.Refusal.{Refusal}
pub use Rattle.rv_text.specs.declared.answer.Refusal.TheVariants.{OldIncarnation}
pub use Rattle.rv_text.specs.declared.answer.Reply.{Reply}
pub use Rattle.rv_text.specs.declared.answer.Reply.TheVariants.{Cancelled}
pub use Rattle.rv_text.specs.declared.call.Call.{Call}
pub use Rattle.rv_text.specs.declared.call.Side.{Side}
pub use Rattle.rv_text.specs.declared.call.Side.TheVariants.{Gives, Takes}
pub use Rattle.rv_text.specs.declared.call.Wait.{Wait}
pub use Rattle.rv_text.specs.declared.call.Wait.TheVariants.{Forever, Millis, Now}
pub use Rattle.rv_text.specs.declared.message.Key.{Key}
pub use Rattle.rv_text.specs.declared.message.Message.{Message}
pub use Rattle.rv_text.specs.declared.version.Version.{Version}
