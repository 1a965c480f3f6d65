-- What is told of a request is within the limits, and who is told to wait does so.
use Rattle.std.proofs.Common.{◌≡◌, ◌≢◌, ◌∙◌, ℕ, Option, Some, None, sym, subst}
use Rattle.rv_text.specs.declared.answer.Answer.{Answer}
use Rattle.rv_text.specs.declared.answer.Answer.TheVariants as answer
use Rattle.rv_text.specs.declared.answer.Refusal.{Refusal}
use Rattle.rv_text.specs.declared.answer.Reply.{Reply}
use Rattle.rv_text.specs.declared.call.Call.{Call}
use Rattle.rv_text.specs.declared.message.Key.{Key}
use Rattle.rv_text.specs.declared.version.Version.{Version}
use Rattle.rv_text.specs.Limits.{FitsAnswer, FitsKey, IsOfEpoch}
use Rattle.rv_text.proofs.Kept.{cancelled_fits}
use Rattle.rv_session.specs.declared.client.LastRequest.{LastRequest}
use Rattle.rv_session.specs.declared.client.LastRequest.TheVariants.{CancelledUnseen, Fresh, RepliedTo, Waits}
use Rattle.rv_account.specs.state.After.{request_after}
use Rattle.rv_account.specs.state.Follows.{InSession}
use Rattle.rv_account.specs.state.Moves.{answer_told, told_again}
use Rattle.rv_account.specs.state.State.{ClientState, State}
use Rattle.rv_account.specs.state.resume.Resuming.{CanResume, FitsLastRequest}
use Rattle.rv_account.specs.state.waiting.Waiting.{WaitsOn}

-- ---- answers that let nobody wait

refused_apart : (refusal : Refusal) (key : Key) → answer.Refused refusal ≡ answer.Waiting key → ⊥
refused_apart refusal key is = cc

welcome_apart : (epoch client incarnation : ℕ) (version : Version) (key : Key)
    → answer.Welcome epoch client incarnation version ≡ answer.Waiting key → ⊥
welcome_apart epoch client incarnation version key is = cc

pub replied_apart : (key other : Key) (told : Reply) → answer.Replied key told ≡ answer.Waiting other → ⊥
replied_apart key other told is = cc

same_waiting : (key other : Key) → answer.Waiting key ≡ answer.Waiting other → key ≡ other
same_waiting key other is = cc

-- who is answered so waits in the state, if the answer is that it waits
abbrev pub WaitsIfTold : State → Answer → Type 0
WaitsIfTold s said = (key : Key) → said ≡ answer.Waiting key → WaitsOn s key

pub refused_none : (s : State) (refusal : Refusal) → WaitsIfTold s (answer.Refused refusal)
refused_none s refusal key is = absurd (refused_apart refusal key is)

pub welcome_none : (s : State) (epoch client incarnation : ℕ) (version : Version)
    → WaitsIfTold s (answer.Welcome epoch client incarnation version)
welcome_none s epoch client incarnation version key is =
    absurd (welcome_apart epoch client incarnation version key is)

pub replied_none : (s : State) (key : Key) (told : Reply) → WaitsIfTold s (answer.Replied key told)
replied_none s key told other is = absurd (replied_apart key other told is)

waiting_one : (s : State) (key : Key) → WaitsOn s key → WaitsIfTold s (answer.Waiting key)
waiting_one s key w other is = subst (WaitsOn s) (same_waiting key other is) w

-- ---- a last request

-- its key is its session's last one, and no number 0
pub record IsLastOf (s : State) (key : Key) (session : ClientState) : Type 0 where
  pub of_session : InSession s key session
  pub last : session.last ≡ key.number
  pub asked : key.number ≢ 0

-- of another key, it would be told to wait where it asked nothing
pub again_waits : (s : State) → CanResume s → (key : Key) (session : ClientState) → IsLastOf s key session
    → (request : LastRequest) → session.request ≡ request
    → WaitsIfTold s (answer_told key (told_again request))
again_waits s is key session of Fresh same =
    let known = of.of_session.there in
    absurd (of.asked (sym of.last ∙ (is.sessions key.client session known).fresh same))
again_waits s is key session of (Waits place c) same =
    waiting_one s key (record {
      epoch = of.of_session.epoch;
      session = session;
      there = of.of_session.there;
      incarnation = of.of_session.incarnation;
      last = of.last;
      place = place;
      call = c;
      waits = same;
    })
again_waits s is key session of (RepliedTo c told) same = replied_none s key told
again_waits s is key session of CancelledUnseen same = replied_none s key _

pub again_fits : (key : Key) (epoch : ℕ) (version : Version) → key.epoch ≡ epoch → FitsKey key
    → (request : LastRequest) → FitsLastRequest epoch version request
    → FitsAnswer (answer_told key (told_again request))
again_fits key epoch version same key_fits Fresh fits = key_fits
again_fits key epoch version same key_fits (Waits place c) fits = key_fits
again_fits key epoch version same key_fits (RepliedTo c told) fits =
    (key_fits, fits.1, subst (λ n. IsOfEpoch n told) (sym same) fits.2)
again_fits key epoch version same key_fits CancelledUnseen fits = (key_fits, cancelled_fits, tt)

-- ---- a request that arrives

pub own_fits : (key : Key) (epoch place : ℕ) (version : Version) (c : Call) → key.epoch ≡ epoch → FitsKey key
    → (own : Option Reply) → FitsLastRequest epoch version (request_after place c own)
    → FitsAnswer (answer_told key own)
own_fits key epoch place version c same key_fits None fits = key_fits
own_fits key epoch place version c same key_fits (Some told) fits =
    (key_fits, fits.1, subst (λ n. IsOfEpoch n told) (sym same) fits.2)

pub own_waits : (s : State) (key : Key) (session : ClientState) → InSession s key session
    → session.last ≡ key.number → (place : ℕ) (c : Call) (own : Option Reply)
    → session.request ≡ request_after place c own → WaitsIfTold s (answer_told key own)
own_waits s key session of last place c None is =
    waiting_one s key (record {
      epoch = of.epoch;
      session = session;
      there = of.there;
      incarnation = of.incarnation;
      last = last;
      place = place;
      call = c;
      waits = is;
    })
own_waits s key session of last place c (Some told) is = replied_none s key told
