-- What many proofs of this crate cite of the library, of the crates below and of its own definitions.
pub use Rattle.std.proofs.Common.{◌++◌, ◌+◌, ◌<◌, ◌∙◌, ◌∷◌, ◌≡◌, ◌≢◌, ◌≤◌, ◌⊎◌, Bool, Err, List, None, Ok}
pub use Rattle.std.proofs.Common.{Option, Result, Some, [], ap, arith, cond, false, inl, inr, length, nat_eq}
pub use Rattle.std.proofs.Common.{option_map, refl, subst, sym, true, ℕ}
pub use Rattle.std.proofs.lemmas.Bool.Decides.{nat_tests}
pub use Rattle.std.proofs.lemmas.List.Elements.{Contains-append_left, Contains-push, Contains-push_cases}
pub use Rattle.std.proofs.lemmas.Option.{none-some, same_Some}
pub use Rattle.std.specs.List.{Contains, slice_get}
pub use Rattle.std.specs.Map.{lookup}
pub use Rattle.std.specs.Prelude.{option_and_then}
pub use Rattle.rv_account.specs.Account.{Account, call_at, call_in}
pub use Rattle.rv_account.specs.Calls.{need_of}
pub use Rattle.rv_account.specs.declared.entry.Act.{Act}
pub use Rattle.rv_account.specs.declared.entry.Entry.{Entry}
pub use Rattle.rv_book.specs.Legal.{Legal}
pub use Rattle.rv_book.specs.Replies.{HasReply, Meet}
pub use Rattle.rv_client.specs.Process.{Asking, EpochEnded, Hears, Idle, Ignored, New, Outcome, Outstanding}
pub use Rattle.rv_client.specs.Process.{Process, Replaced, Settled, Starting, TurnedAway, Welcomed, cancel_of}
pub use Rattle.rv_client.specs.Process.{first_key, hello_of, key_after, request_of}
pub use Rattle.rv_account.proofs.OfRules.Numbers.{same_or_not}
pub use Rattle.rv_account.proofs.OfRules.Places.{get-append_cases}
pub use Rattle.rv_account.specs.rules.StepLimits.{StepLimits, book_limits}
pub use Rattle.rv_account.specs.rules.Steps.{Adds, NextUnder, Ticks, step_moment}
pub use Rattle.rv_text.specs.declared.answer.Answer.{Answer}
pub use Rattle.rv_text.specs.declared.answer.Reply.{Reply}
pub use Rattle.rv_text.specs.declared.call.Call.{Call}
pub use Rattle.rv_text.specs.declared.message.Key.{Key}
pub use Rattle.rv_text.specs.declared.message.Message.{Message}
pub use Rattle.rv_text.specs.declared.version.Version.{Version}
pub use Rattle.rv_world.specs.parts.Events.{ChangesProcess, ComesTo, EventComesTo, IsAsking}
pub use Rattle.rv_world.specs.parts.Events.{OnlyChangesProcess, ProcessSays, RefusalDue, RunsBut, RunsNone}
pub use Rattle.rv_world.specs.parts.Events.{Steps, StepsUnder, WorldBecomes, sender, start_of, with_message}
pub use Rattle.rv_world.specs.parts.Headline.{ArrivesAt, HasEachKeyOnce, IsAnswered, OnlyGrows}
pub use Rattle.rv_world.specs.parts.Parts.{started_by, world_of}
pub use Rattle.rv_world.specs.parts.Processes.{HearsAs, process_in, request_under}
pub use Rattle.rv_world.specs.parts.Runs.{Elapses, Happening, Happens, Runs, RunsAnyhow, TimePasses, Under}
pub use Rattle.rv_world.specs.parts.Runs.{by_a_book}
pub use Rattle.rv_world.specs.parts.Sound.{AllFits, IsSoundWorld}
pub use Rattle.rv_world.specs.parts.Table.{AreNewest, ClientTable, EntersClient, StandsInTable, running_of}
pub use Rattle.rv_world.specs.parts.Table.{with_process}
pub use Rattle.rv_world.specs.parts.World.{IsAccountOf, IsHeld, WasAsked, World, accounts, empty_account}
pub use Rattle.rv_world.specs.parts.World.{first_world, process_of}
pub use Rattle.rv_world.specs.declared.parts.clients.Client.{Client}
pub use Rattle.rv_world.specs.declared.parts.event.Event.{Event}
pub use Rattle.rv_world.specs.declared.parts.packet.Packet.{Packet}
pub use Rattle.rv_world.specs.declared.parts.process.Running.{Running}
pub use Rattle.rv_world.specs.declared.parts.seen.Seen.{Seen}
pub use Rattle.rv_world.specs.declared.parts.seen.WorldRefusal.{WorldRefusal}
