-- What a connection is told of a key in a run is the key's public reply in the run's account.
use Rattle.std.specs.Prelude.{ℕ, ◌≡◌, ◌≤◌, List, All, flat_map, length, take}
use Rattle.rv_text.specs.declared.message.Key.{Key}
use Rattle.rv_text.specs.declared.answer.Answer.{Answer}
use Rattle.rv_text.specs.declared.answer.Answer.TheVariants.{Replied}
use Rattle.rv_text.specs.declared.answer.Reply.{Reply}
use Rattle.rv_text.specs.Bodies.{answer_text}
use Rattle.rv_text.specs.Limits.{FitsAnswer}
use Rattle.rv_account.specs.declared.entry.Entry.{Entry}
use Rattle.rv_account.specs.Account.{Account}
use Rattle.rv_account.specs.Limits.{max_moment}
use Rattle.rv_account.specs.rules.Replies.{HasReply}
use Rattle.rv_account.specs.rules.StepLimits.{AreStepLimits}
use Rattle.rv_server_connections.specs.connection.History.{Given}
use Rattle.rv_hub.specs.dispatcher.View.{DispatcherState, DispatcherTerms}
use Rattle.rv_hub.specs.dispatcher.Effects.{Effect, DoesAll, entries_of_effect}
use Rattle.rv_hub.specs.EventEffects.{all_effects}
use Rattle.rv_hub.specs.HubRuns.{AddsEntries, DoesEvents, IsHubAccount}
use Rattle.rv_hub.specs.Pasts.{Past, past_after}
use Rattle.rv_hub.specs.Turns.{made_by}

-- a frame's answer is the text of an answer within its limits, and rests on some of the entries; and if that
-- answer is a reply, it is its key's reply in the account of exactly those entries
pub record IsPublic (entries : List Entry) (given : Given) : Type 0 where
  pub said : Answer
  pub fits : FitsAnswer said
  pub body_is : given.body ≡ answer_text said
  pub within : given.rests_on ≤ length entries
  pub replies : (key : Key) (reply : Reply) → said ≡ Replied key reply
      → HasReply (take given.rests_on entries) key reply

-- each answer in a connection's past is public
abbrev pub ArePublic : Account → Past → Type 0
ArePublic a past = All (IsPublic a.entries) past.answers

-- effects keep the answers public, in an account with their entries added
abbrev pub EffectsTellPublicly : Type 0
EffectsTellPublicly = (terms : DispatcherTerms) (effects : List Effect) (s t : DispatcherState)
    (a b : Account)
    → AreStepLimits terms.limits
    → DoesAll terms s effects t → t.now ≤ max_moment → IsHubAccount a s
    → AddsEntries a (flat_map entries_of_effect effects) b → (n : ℕ) (past : Past) → ArePublic a past
    → ArePublic b (past_after n past s.book.length effects)

-- so do the events of a hub
abbrev pub HandedOutIsPublic : Type 0
HandedOutIsPublic = (terms : DispatcherTerms) (events : List (List Effect)) (s t : DispatcherState)
    (a b : Account)
    → AreStepLimits terms.limits
    → DoesEvents terms s events t → t.now ≤ max_moment → IsHubAccount a s
    → AddsEntries a (made_by events) b → (n : ℕ) (past : Past) → ArePublic a past
    → ArePublic b (past_after n past s.book.length (all_effects events))
