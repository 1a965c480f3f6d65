-- Each answer that effects give is public.
use Rattle.std.proofs.Common.{inl, inr, ◌≡◌, ◌≤◌, ◌+◌, ◌∙◌, ◌++◌, ◌∷◌, ℕ, List, []}
use Rattle.std.proofs.Common.{refl, sym, ap, subst, arith}
use Rattle.std.proofs.Common.{All, Bool, append_assoc, cond, false, length, take, true}
use Rattle.std.specs.Prelude.{flat_map}
use Rattle.std.proofs.lemmas.List.{append-nil, length-append, take-append-le, take_all}
use Rattle.std.proofs.lemmas.List.Elements.{All-nil, All-push, All-weaker}
use Rattle.rv_text.specs.declared.message.Key.{Key}
use Rattle.rv_text.specs.declared.answer.Answer.{Answer}
use Rattle.rv_text.specs.declared.answer.Answer.TheVariants as answer
use Rattle.rv_text.specs.declared.answer.Refusal.{Refusal}
use Rattle.rv_text.specs.declared.answer.Refusal.TheVariants.{BadText, NoMemory, OldIncarnation}
use Rattle.rv_text.specs.declared.answer.Reply.{Reply}
use Rattle.rv_text.specs.declared.answer.Reply.TheVariants.{Cancelled}
use Rattle.rv_text.specs.Bodies.{answer_text}
use Rattle.rv_text.specs.Limits.{FitsAnswer, FitsRefusal}
use Rattle.rv_session.specs.declared.client.LastRequest.{LastRequest}
use Rattle.rv_session.specs.declared.client.LastRequest.TheVariants.{CancelledUnseen, Fresh, RepliedTo, Waits}
use Rattle.rv_account.specs.declared.entry.Entry.{Entry}
use Rattle.rv_account.specs.Account.{Account}
use Rattle.rv_account.specs.Limits.{max_moment}
use Rattle.rv_account.specs.rules.Replies.{HasReply}
use Rattle.rv_account.specs.rules.StepLimits.{AreStepLimits}
use Rattle.rv_account.specs.state.After.{state_of}
use Rattle.rv_account.specs.state.Agreement.{BecameOf}
use Rattle.rv_account.specs.state.Moves.{answer_told, told_again}
use Rattle.rv_account.specs.state.State.{State}
use Rattle.rv_account.proofs.OfState.StateLaws.{states_agree}
use Rattle.rv_account.specs.state.resume.Resuming.{CanResume}
use Rattle.rv_account.proofs.OfState.OfWaiting.WaitingLaws.{moves_answer, old_fits, told_fits}
use Rattle.rv_server_connections.specs.connection.History.{Given}
use Rattle.rv_hub.specs.dispatcher.View.{DispatcherState, DispatcherTerms, begun}
use Rattle.rv_hub.specs.dispatcher.Effects.{Effect, Does, DoesAll, Stepped, entries_of_effect, rests_on}
use Rattle.rv_hub.specs.dispatcher.Effects.{Asked, Closed, Elapsed, EndedInput, Lacked, Left, Lost, Opened}
use Rattle.rv_hub.specs.dispatcher.Effects.{ReadNothing, Told, TookIn, Wrote}
use Rattle.rv_hub.specs.dispatcher.Telling.{IsToldAgain}
use Rattle.rv_hub.specs.EventEffects.{all_effects}
use Rattle.rv_hub.specs.HandedOut.{ArePublic, EffectsTellPublicly, HandedOutIsPublic, IsPublic}
use Rattle.rv_hub.specs.HubRuns.{DoesEvents, IsHubAccount}
use Rattle.rv_hub.specs.Pasts.{Past, is_effect_of, past_after, past_by, with_said}
use Rattle.rv_hub.specs.Turns.{made_by}
use Rattle.rv_hub.proofs.Accounts.{by_rules, effect_leads, effects_lead, effects_rise, events_rise}
use Rattle.rv_hub.proofs.Accounts.{same_account, told_became}
use Rattle.rv_hub.proofs.Histories.{past_on}
use Rattle.rv_hub.proofs.Longer.{effect_counts, effects_count}
use Rattle.rv_hub.proofs.StepReplies.{TellsReply, next_tells, refused_differs, replies_tell, waiting_differs}

-- ---- one answer

-- an answer that rests on all entries, of which each reply stands there
public_at : (entries : List Entry) (count : ℕ) (said : Answer) → FitsAnswer said → count ≡ length entries
    → ((key : Key) (reply : Reply) → said ≡ answer.Replied key reply → HasReply entries key reply)
    → IsPublic entries (record { body = answer_text said; rests_on = count })
public_at entries count said fits same tells = record {
  said = said;
  fits = fits;
  body_is = refl;
  within = omega arith;
  replies = λ key reply is.
      let all : take (length entries) entries ≡ entries = take_all (length entries) entries (omega arith) in
      subst (λ l. HasReply l key reply) (sym (ap (λ n. take n entries) same ∙ all)) (tells key reply is);
}

public_refused : (entries : List Entry) (count : ℕ) (refusal : Refusal) → FitsRefusal refusal
    → count ≤ length entries
    → IsPublic entries (record { body = answer_text (answer.Refused refusal); rests_on = count })
public_refused entries count refusal fits within = record {
  said = answer.Refused refusal;
  fits = fits;
  body_is = refl;
  within = within;
  replies = λ key reply is. absurd (refused_differs refusal key reply is);
}

public_on : (entries more : List Entry) (given : Given) → IsPublic entries given
    → IsPublic (entries ++ more) given
public_on entries more given is = record {
  said = is.said;
  fits = is.fits;
  body_is = is.body_is;
  within = (let within = is.within in let long = length-append entries more in omega arith);
  replies = λ key reply same. subst (λ l. HasReply l key reply)
      (sym (take-append-le given.rests_on entries more is.within)) (is.replies key reply same);
}

all_on : (entries more : List Entry) (answers : List Given) → All (IsPublic entries) answers
    → All (IsPublic (entries ++ more)) answers
all_on entries more answers all =
    All-weaker (IsPublic entries) (IsPublic (entries ++ more)) (public_on entries more) answers all

rests_within : (refusal : Refusal) (count : ℕ) → rests_on (answer.Refused refusal) count ≤ count
rests_within NoMemory count = omega arith
rests_within _ count = omega arith

-- the answer to a step, unless its request waits
said_public : (entries : List Entry) (count : ℕ) (past : Past) (said : Answer) → FitsAnswer said
    → count ≡ length entries
    → ((key : Key) (reply : Reply) → said ≡ answer.Replied key reply → HasReply entries key reply)
    → All (IsPublic entries) past.answers → All (IsPublic entries) (with_said past count said).answers
said_public entries count past (answer.Waiting key) fits same tells all = all
said_public entries count past (answer.Replied key reply) fits same tells all =
    All-push (IsPublic entries) past.answers _ all
    (public_at entries count (answer.Replied key reply) fits same tells)
said_public entries count past (answer.Welcome epoch client incarnation version) fits same tells all =
    All-push (IsPublic entries) past.answers _ all
    (public_at entries count (answer.Welcome epoch client incarnation version) fits same tells)
said_public entries count past (answer.Refused refusal) fits same tells all =
    let within = rests_within refusal count in
    All-push (IsPublic entries) past.answers _ all (public_refused entries _ refusal fits (omega arith))

-- ---- whoever waited

became_tells : (a : Account) (key : Key) (request : LastRequest) → BecameOf a.entries key request
    → (other : Key) (told : Reply) → TellsReply a other told (answer_told key (told_again request))
became_tells a key Fresh became other told = λ is. absurd (waiting_differs key other told is)
became_tells a key (Waits place call) became other told = λ is. absurd (waiting_differs key other told is)
became_tells a key (RepliedTo call reply) became other told =
    replies_tell a other key told (answer.Replied key reply)
    (record { reply = reply; has = inl became.replies; is = refl })
became_tells a key CancelledUnseen became other told =
    replies_tell a other key told (answer.Replied key Cancelled)
    (record { reply = Cancelled; has = inr (became, refl); is = refl })

told_tells : (a : Account) (s : DispatcherState) (key : Key) (said : Answer) → IsHubAccount a s
    → IsToldAgain s.book key said → (other : Key) (reply : Reply) → TellsReply a other reply said
told_tells a s key said is told other reply =
    elim told.told [
      | inl own ↦
          subst (TellsReply a other reply) (sym own.2)
          (became_tells a key told.session.request (told_became a s key said is told own.0 own.1) other reply)
      | inr old ↦
          subst (TellsReply a other reply) (sym old.1)
          (λ same. absurd (refused_differs (OldIncarnation told.session.incarnation) other reply same))
    ]

-- what it is told is within the limits
told_answers : (s : State) (key : Key) (said : Answer) → CanResume s → IsToldAgain s key said
    → FitsAnswer said
told_answers s key said resumes told =
    elim told.told [
      | inl own ↦
          subst (λ a. FitsAnswer a) (sym own.2)
          (told_fits s key told.session resumes told.there told.epoch told.fits.3 own.0 own.1)
      | inr old ↦ subst (λ a. FitsAnswer a) (sym old.1)
          (old_fits s key.client told.session resumes told.there)
    ]

-- so is the answer to a step
asked_answers : (terms : DispatcherTerms) (s t : DispatcherState) (a : Account) (n : ℕ) (body : List ℕ)
    (step : Stepped)
    (said : Answer) → AreStepLimits terms.limits → s.now ≤ max_moment → IsHubAccount a s
    → Does terms s (Asked n body step said) t → FitsAnswer said
asked_answers terms s t a n body step said limits time is does =
    subst (λ x. FitsAnswer x) (sym does.steps.said_is)
    (moves_answer terms.limits s.book s.now step.message does.steps.move limits is.resumes is.none_due
    is.later
    time does.is.2 does.steps.moves).fits

-- ---- each effect

-- the answers after an effect, if it is of this connection
Behind : Account → Past → ℕ → Effect → Type 0
Behind a past count effect =
    All (IsPublic (a.entries ++ entries_of_effect effect)) (past_by past count effect).answers

own_public : (terms : DispatcherTerms) (effect : Effect) (s t : DispatcherState) (a : Account) (past : Past)
    (count : ℕ)
    → AreStepLimits terms.limits → Does terms s effect t → s.now ≤ max_moment → IsHubAccount a s
    → count ≡ length (a.entries ++ entries_of_effect effect)
    → All (IsPublic (a.entries ++ entries_of_effect effect)) past.answers → Behind a past count effect
unfolding Behind
own_public terms (Elapsed moment entries settled) s t a past count limits does time is same all = all
own_public terms (Opened connection) s t a past count limits does time is same all =
    All-nil (IsPublic (a.entries ++ []))
own_public terms (TookIn connection bytes) s t a past count limits does time is same all = all
own_public terms (EndedInput connection) s t a past count limits does time is same all = all
own_public terms (Left connection bytes) s t a past count limits does time is same all = all
own_public terms (Wrote entries) s t a past count limits does time is same all = all
own_public terms (Asked connection body step said) s t a past count limits does time is same all =
    let rules = by_rules terms s t a connection body step said time is does in
    said_public (a.entries ++ step.entries) count _ said
    (asked_answers terms s t a connection body step said limits time is does) same
    (λ key reply told. subst (λ l. HasReply l key reply) rules.2.entries
    (next_tells terms.limits a rules.0 s.now step.message said key reply rules.1 told)) all
own_public terms (ReadNothing connection body) s t a past count limits does time is same all =
    All-push (IsPublic (a.entries ++ [])) past.answers _ all
    (public_refused (a.entries ++ []) 0 BadText tt (omega arith))
own_public terms (Lacked connection body step) s t a past count limits does time is same all =
    let entries = entries_of_effect (Lacked connection body step) in
    All-push (IsPublic (a.entries ++ entries)) past.answers _ all
    (public_refused (a.entries ++ entries) 0 NoMemory tt (omega arith))
own_public terms (Lost connection body step) s t a past count limits does time is same all = all
own_public terms (Told connection key said) s t a past count limits does time is same all =
    All-push (IsPublic (a.entries ++ [])) past.answers _ all
    (public_at (a.entries ++ []) count said (told_answers s.book key said is.resumes does.told) same
    (λ other reply told. subst (λ l. HasReply l other reply) (sym (append-nil a.entries))
    (told_tells a s key said is does.told other reply told)))
own_public terms (Closed connection) s t a past count limits does time is same all = all

either_public : (entries : List Entry) (own : Bool) (now past : Past) → All (IsPublic entries) now.answers
    → All (IsPublic entries) past.answers → All (IsPublic entries) (cond own now past).answers
either_public entries true now past one other = one
either_public entries false now past one other = other

-- the state's length is the account's
pub entries_counted : (a : Account) (s : DispatcherState) (made : List Entry) → IsHubAccount a s
    → s.book.length + length made ≡ length (a.entries ++ made)
entries_counted a s made is =
    let agree = (states_agree a is.legal).length in
    let same : (state_of a).length ≡ s.book.length = ap (λ (x : State). x.length) is.state in
    let long = length-append a.entries made in
    omega arith

effect_public : (terms : DispatcherTerms) (effect : Effect) (s t : DispatcherState) (a : Account) (n : ℕ)
    (past : Past)
    → AreStepLimits terms.limits → Does terms s effect t → s.now ≤ max_moment → IsHubAccount a s
    → ArePublic a past
    → All (IsPublic (a.entries ++ entries_of_effect effect))
    (cond (is_effect_of n effect) (past_by past (s.book.length + length (entries_of_effect effect)) effect)
    past).answers
unfolding Behind
effect_public terms effect s t a n past limits does time is all =
    let made = entries_of_effect effect in
    let count = s.book.length + length made in
    let older = all_on a.entries made past.answers all in
    either_public (a.entries ++ made) (is_effect_of n effect) (past_by past count effect) past
    (own_public terms effect s t a past count limits does time is (entries_counted a s made is) older) older

-- ---- effects, one after another

-- the account has these entries
effects_tell : (terms : DispatcherTerms) (effects : List Effect) (s t : DispatcherState) (a : Account)
    → AreStepLimits terms.limits → DoesAll terms s effects t → t.now ≤ max_moment → IsHubAccount a s
    → (n : ℕ) (past : Past) → ArePublic a past
    → All (IsPublic (a.entries ++ flat_map entries_of_effect effects))
    (past_after n past s.book.length effects).answers
effects_tell terms [] s t a limits same time is n past all = all_on a.entries [] past.answers all
effects_tell terms (effect ∷ effects) s t a limits (mid, does, more) time is n past all =
    let made = entries_of_effect effect in
    let rest = flat_map entries_of_effect effects in
    let later = effects_rise terms effects mid t more in
    let rises = effects_rise terms (effect ∷ []) s mid (mid, does, refl) in
    let first = effect_leads terms effect s mid a limits does (omega arith) (omega arith) is in
    let now = cond (is_effect_of n effect) (past_by past (s.book.length + length made) effect) past in
    let one : ArePublic first.after now =
    subst (λ es. All (IsPublic es) now.answers) (sym first.adds.entries)
    (effect_public terms effect s mid a n past limits does (omega arith) is all) in
    let whole = effects_tell terms effects mid t first.after limits more time first.is n now one in
    let entries : first.after.entries ++ rest ≡ a.entries ++ (made ++ rest) =
    ap (λ es. es ++ rest) first.adds.entries ∙ append_assoc a.entries made rest in
    let counted : mid.book.length ≡ s.book.length + length made = effect_counts terms effect s mid does in
    subst (λ k. All (IsPublic (a.entries ++ (made ++ rest))) (past_after n now k effects).answers) counted
    (subst (λ es. All (IsPublic es) (past_after n now mid.book.length effects).answers) entries whole)

pub effects_public : EffectsTellPublicly
effects_public terms effects s t a b limits does time is adds n past all =
    subst (λ es. All (IsPublic es) (past_after n past s.book.length effects).answers) (sym adds.entries)
    (effects_tell terms effects s t a limits does time is n past all)

-- ---- events

events_tell : (terms : DispatcherTerms) (events : List (List Effect)) (s t : DispatcherState) (a : Account)
    → AreStepLimits terms.limits → DoesEvents terms s events t → t.now ≤ max_moment → IsHubAccount a s
    → (n : ℕ) (past : Past) → ArePublic a past
    → All (IsPublic (a.entries ++ made_by events))
    (past_after n past s.book.length (all_effects events)).answers
events_tell terms [] s t a limits same time is n past all = all_on a.entries [] past.answers all
events_tell terms (effects ∷ events) s t a limits (mid, does, more) time is n past all =
    let made = flat_map entries_of_effect effects in
    let rest = made_by events in
    let count = s.book.length in
    let later = events_rise terms events mid t more in
    let is_begun = same_account a s (begun s) refl refl is in
    let first = effects_lead terms effects (begun s) mid a limits does (omega arith) is_begun in
    let now = past_after n past count effects in
    let one : ArePublic first.after now =
    effects_public terms effects (begun s) mid a first.after limits does (omega arith) is_begun first.adds n
    past
    all in
    let whole = events_tell terms events mid t first.after limits more time first.is n now one in
    let entries : first.after.entries ++ rest ≡ a.entries ++ (made ++ rest) =
    ap (λ es. es ++ rest) first.adds.entries ∙ append_assoc a.entries made rest in
    let counted : mid.book.length ≡ count + length made = effects_count terms effects (begun s) mid does in
    let there = subst (λ es. All (IsPublic es) (past_after n now mid.book.length
    (all_effects events)).answers)
    entries whole in
    subst (λ (p : Past). All (IsPublic (a.entries ++ (made ++ rest))) p.answers)
    (sym (past_on n past count effects (all_effects events)))
    (subst (λ k. All (IsPublic (a.entries ++ (made ++ rest)))
    (past_after n now k (all_effects events)).answers)
    counted there)

pub handed_out : HandedOutIsPublic
handed_out terms events s t a b limits does time is adds n past all =
    subst (λ es. All (IsPublic es) (past_after n past s.book.length (all_effects events)).answers)
    (sym adds.entries) (events_tell terms events s t a limits does time is n past all)
