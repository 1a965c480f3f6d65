-- Each move of a state to resume from leads to one.
use Rattle.std.proofs.Common.{◌≡◌, ◌⊎◌, ◌<◌, ◌≤◌, ◌∷◌, ◌∙◌, ℕ, List, [], Option, Some, None, inl, inr, refl}
use Rattle.std.proofs.Common.{sym, ap, subst}
use Rattle.std.proofs.Common.{arith, slice_get}
use Rattle.rv_text.specs.declared.call.Call.{Call}
use Rattle.rv_text.specs.declared.message.Key.{Key}
use Rattle.rv_text.specs.declared.message.Message.{Message}
use Rattle.rv_text.specs.declared.message.Message.TheVariants.{Cancel, Hello, Request}
use Rattle.rv_text.specs.declared.answer.Answer.{Answer}
use Rattle.rv_text.specs.declared.answer.Answer.TheVariants.{Refused}
use Rattle.rv_text.specs.declared.answer.Refusal.{Refusal}
use Rattle.rv_text.specs.declared.answer.Refusal.TheVariants.{NoMemory}
use Rattle.rv_text.specs.Limits.{FitsMessage}
use Rattle.rv_account.specs.Account.{entry}
use Rattle.rv_account.specs.Limits.{FitsAct, max_moment}
use Rattle.rv_account.specs.declared.entry.Act.{Act}
use Rattle.rv_account.specs.declared.entry.Act.TheVariants as act
use Rattle.rv_account.specs.rules.StepLimits.{AreStepLimits, StepLimits}
use Rattle.rv_account.specs.rules.Steps.{RefuseOr, WhereElse}
use Rattle.rv_account.specs.state.After.{due_at, following}
use Rattle.rv_account.specs.state.Follows.{MomentFits, NumberFits, NumberIsNext, partners_of}
use Rattle.rv_account.specs.state.Moves.{EntersMove, Move, NumberIsLast, RefusesMove, RepeatsMove}
use Rattle.rv_account.specs.state.Moves.{StateKeyLines}
use Rattle.rv_account.specs.state.Moves.{StateNextAtUnder, StatePlaceLine, answer_told, entering}
use Rattle.rv_account.specs.state.Moves.{state_moment}
use Rattle.rv_account.specs.state.Moves.{staying, ticked_if, told_again}
use Rattle.rv_account.specs.state.State.{OpenPlace, State}
use Rattle.rv_account.proofs.OfState.DueAt.{due_place}
use Rattle.rv_account.proofs.OfState.PlacesLeft.{among_place}
use Rattle.rv_account.specs.state.resume.Laws.{StepsResume}
use Rattle.rv_account.specs.state.resume.Resuming.{CanResume, StaysInRoom}
use Rattle.rv_account.proofs.OfState.Resumed.NextNumbers.{NotDue, is_new, is_next}
use Rattle.rv_account.proofs.OfState.Resumed.ResumeLaws.{entries_resume}
use Rattle.rv_account.proofs.OfState.Resumed.Rooms.{PlaceLeft, cancel_room, ended_room, hello_room}
use Rattle.rv_account.proofs.OfState.Resumed.Rooms.{request_room}
use Rattle.rv_account.proofs.OfState.Resumed.Rooms.{tick_room}

-- ---- the ends of a step's lines

refuse_end : (P : Type 0) (due refuses : Refusal → Type 0) (other : Type 0)
    → ((refusal : Refusal) → refuses refusal → P) → (NotDue due → other → P) → RefuseOr due refuses other → P
refuse_end P due refuses other refused goes_on (inl h) = refused h.refusal h.refuses_it
refuse_end P due refuses other refused goes_on (inr h) = goes_on h.0 h.1

where_end : (P condition this that : Type 0) → (condition → this → P) → ((condition → ⊥) → that → P)
    → WhereElse condition this that → P
where_end P condition this that first second (inl h) = first h.0 h.1
where_end P condition this that first second (inr h) = second h.0 h.1

abbrev Resumes : Move → Type 0
Resumes move = CanResume move.after

module _ (s : State) (is : CanResume s) (moment : ℕ) (time : moment ≤ max_moment) (not_before :
    s.moment ≤ moment)
  where
    entry_resumes : (does : Act) → FitsAct does → MomentFits s moment does → NumberFits s does
        → StaysInRoom (following s moment does).after → CanResume (following s moment does).after
    entry_resumes does fits at number room =
        entries_resume s (entry moment does (partners_of s does)) is (time, fits)
        (record { moment = at; number = number; partners = refl }) room

    -- ---- the time-outs

    pub ticks_resume : (due : List OpenPlace) → due_at s moment ≡ due
        → CanResume (ticked_if s moment due).after
    ticks_resume [] none = is
    ticks_resume (first ∷ others) some =
        entry_resumes act.Tick tt
        (record { not_before = not_before; due = λ none. some_none (sym some ∙ none) }) tt
        (tick_room s is moment time first others some)
      where
        some_none : first ∷ others ≡ [] → ⊥
        some_none is = cc

    pub ticked_before : (due : List OpenPlace) → (ticked_if s moment due).after.moment ≤ moment
    ticked_before [] = not_before
    ticked_before (first ∷ others) = omega arith

    -- ---- the message's own entry

    module _ (none : due_at s moment ≡ []) (limits : StepLimits) (fits : AreStepLimits limits) (move : Move)
      where
        stays : (said : Answer) → move ≡ staying s said → Resumes move
        stays said same = subst Resumes (sym same) is

        refused : (refusal : Refusal) → RefusesMove s move refusal → Resumes move
        refused refusal = stays (Refused refusal)

        repeats : (key : Key) → RepeatsMove s key move → Resumes move
        repeats key again = stays (answer_told key (told_again again.session.request)) again.is

        enters : (does : Act) (said : Answer) → CanResume (following s moment does).after
            → move ≡ entering s moment does said → Resumes move
        enters does said resumes same = subst Resumes (sym same) resumes

        may_enter : (does : Act) (said : Answer) → CanResume (following s moment does).after
            → EntersMove s moment does move said → Resumes move
        may_enter does said resumes (inl lacks) = refused NoMemory lacks
        may_enter does said resumes (inr entered) = enters does said resumes entered

        key_end : (key : Key) (at_last above : Type 0) → (NumberIsLast s key → at_last → Resumes move)
            → (NumberIsNext s key → above → Resumes move)
            → StateKeyLines s key (RefusesMove s move) at_last above → Resumes move
        key_end key at_last above first second =
            refuse_end _ _ _ _ refused (λ epoch.
            refuse_end _ _ _ _ refused (λ lacks.
            refuse_end _ _ _ _ refused (λ old.
            refuse_end _ _ _ _ refused (λ number.
            where_end _ _ _ _ first (λ not_last.
            refuse_end _ _ _ _ refused (λ busy.
            refuse_end _ _ _ _ refused (λ gap.
            second (is_next s key epoch lacks old number not_last busy gap))))))))

        place_end : (bound : Option ℕ) (c : Call) (enters : Type 0)
            → (PlaceLeft bound s c → enters → Resumes move)
            → StatePlaceLine bound s c (RefusesMove s move) enters → Resumes move
        place_end None c enters goes_on = goes_on tt
        place_end (Some most) c enters goes_on = refuse_end _ _ _ _ refused goes_on

        in_time : MomentFits s moment (act.Tick) ⊎ (Unit {0})
        in_time = inr tt

        pub next_resumes : (m : Message) → FitsMessage m → StateNextAtUnder limits s moment m move
            → Resumes move
        next_resumes (Hello client incarnation version) message_fits =
            refuse_end _ _ _ _ refused (λ old.
            refuse_end _ _ _ _ refused (λ other.
            where_end _ _ _ _ (λ again. stays _) (λ fresh.
            refuse_end _ _ _ _ refused (λ clients.
            refuse_end _ _ _ _ refused (λ room.
            may_enter (act.Hello client incarnation version) _
            (entry_resumes (act.Hello client incarnation version) message_fits
            (record { not_before = not_before; due = none }) (is_new s client incarnation old fresh)
            (hello_room s is moment time limits fits client incarnation version clients room)))))))
        next_resumes (Request key c) message_fits =
            key_end key _ _ (λ last. refuse_end _ _ _ _ refused (λ same. repeats key)) (λ next.
            refuse_end _ _ _ _ refused (λ room.
            place_end limits.open_places c _ (λ left.
            may_enter (act.Arrive key c) _
            (entry_resumes (act.Arrive key c) message_fits (record { not_before = not_before; due = none })
            next
            (request_room s is moment time limits fits key c room left)))))
        next_resumes (Cancel key) message_fits =
            key_end key _ _ (λ last. where_end _ _ _ _ (λ waits.
            enters (act.Cancel key) _
            (entry_resumes (act.Cancel key) message_fits (record { not_before = not_before; due = none })
            (inl waits) (ended_room s is moment time key waits)))
            (λ over. repeats key)) (λ next.
            refuse_end _ _ _ _ refused (λ room.
            may_enter (act.Cancel key) _
            (entry_resumes (act.Cancel key) message_fits (record { not_before = not_before; due = none })
            (inr next) (cancel_room s is moment time limits fits key room))))

-- nothing is due at a state's own moment, nor before its limits
none_due : (s : State) → CanResume s → (moment : ℕ) → (due : List OpenPlace) → due_at s moment ≡ due
    → ((there : OpenPlace) (limit i : ℕ) → slice_get s.open_places i ≡ Some there → there.limit ≡ Some limit
    → moment < limit) → due ≡ []
none_due s is moment [] same later = refl
none_due s is moment (first ∷ others) same later =
    let at : slice_get (due_at s moment) 0 ≡ Some first = ap (λ (l : List OpenPlace). slice_get l 0) same in
    let due = due_place s moment first.place (among_place (due_at s moment) 0 first at) in
    let after = later due.there due.limit due.i due.stands due.has in
    let before = due.elapsed in
    absurd (let no : ⊥ = omega (arith, after, before) in no)

ticked_undue : (s : State) (moment : ℕ) (due : List OpenPlace) → due_at s moment ≡ due
    → CanResume (ticked_if s moment due).after → due_at (ticked_if s moment due).after moment ≡ []
ticked_undue s moment [] none is = none
ticked_undue s moment (first ∷ others) some is =
    none_due (ticked_if s moment (first ∷ others)).after is moment
    (due_at (ticked_if s moment (first ∷ others)).after moment) refl
    (λ there limit i at has. is.undue there limit (i, at) has)

pub steps_resume : StepsResume
steps_resume limits s now m move fits message_fits is next =
    let moment : ℕ = state_moment s now in
    let of_state = is.room.time in
    let time : moment ≤ max_moment = omega (arith, of_state) in
    let not_before : s.moment ≤ moment = omega arith in
    let due = due_at s moment in
    let ticked = ticks_resume s is moment time not_before due refl in
    subst CanResume (sym next.after)
    (next_resumes (ticked_if s moment due).after ticked moment time (ticked_before s is moment time not_before
    due)
    (ticked_undue s moment due refl ticked) limits fits next.then m message_fits next.steps)
