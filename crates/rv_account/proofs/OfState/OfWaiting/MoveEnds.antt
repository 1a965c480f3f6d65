-- Each move settles just those that wait no longer, leaves nothing due, and answers within the limits.
use Rattle.std.proofs.Common.{arith, ◌≤◌, ◌≡◌, ◌∙◌, ℕ, [], Option, Some, None, inl, inr, refl, sym, ap, subst}
use Rattle.std.proofs.Common.{option_map}
use Rattle.rv_text.specs.declared.answer.Answer.{Answer}
use Rattle.rv_text.specs.declared.answer.Answer.TheVariants.{Refused, Replied, Welcome}
use Rattle.rv_text.specs.declared.answer.Refusal.{Refusal}
use Rattle.rv_text.specs.declared.answer.Refusal.TheVariants.{NoMemory}
use Rattle.rv_text.specs.declared.answer.Reply.TheVariants.{Cancelled}
use Rattle.rv_text.specs.declared.call.Call.{Call}
use Rattle.rv_text.specs.declared.message.Key.{Key}
use Rattle.rv_text.specs.declared.message.Message.{Message}
use Rattle.rv_text.specs.declared.message.Message.TheVariants.{Cancel, Hello, Request}
use Rattle.rv_text.specs.Limits.{FitsAnswer, FitsKey, FitsMessage, FitsRefusal}
use Rattle.rv_text.proofs.Kept.{cancelled_fits}
use Rattle.rv_session.specs.declared.client.LastRequest.{LastRequest}
use Rattle.rv_account.specs.Calls.{need_of}
use Rattle.rv_account.specs.declared.entry.Act.{Act}
use Rattle.rv_account.specs.declared.entry.Act.TheVariants as act
use Rattle.rv_account.specs.rules.StepLimits.{StepLimits}
use Rattle.rv_account.specs.rules.Steps.{RefuseOr, WhereElse}
use Rattle.rv_account.specs.state.After.{cancelled, closed, due_at, following, met_by, parked, request_after}
use Rattle.rv_account.specs.state.After.{settled_all, told_own, told_partner, with_last, with_open}
use Rattle.rv_account.specs.state.Follows.{NumberFits, NumberIsNext}
use Rattle.rv_account.specs.state.Moves.{EntersMove, Move, RefusesMove, RepeatsMove, StateKeyLines}
use Rattle.rv_account.specs.state.Moves.{StateNextAtUnder}
use Rattle.rv_account.specs.state.Moves.{StatePlaceLine, answer_told, entering, staying, told_again}
use Rattle.rv_account.specs.state.State.{ClientState, OpenPlace, State, client_at, client_waits}
use Rattle.rv_account.proofs.OfState.ToldClients.{get_tell_all, told_client}
use Rattle.rv_account.specs.state.resume.Resuming.{CanResume, FitsLastRequest}
use Rattle.rv_account.proofs.OfState.Resumed.Kept.{holds}
use Rattle.rv_account.proofs.OfState.Resumed.NextNumbers.{NotDue, is_new, is_next}
use Rattle.rv_account.proofs.OfState.Resumed.Sessions.{put_own}
use Rattle.rv_account.proofs.OfState.Words.{same_Some}
use Rattle.rv_account.specs.state.waiting.Laws.{AnswersWell}
use Rattle.rv_account.specs.state.waiting.Waiting.{SettlesJust}
use Rattle.rv_account.proofs.OfState.OfWaiting.Entries.{entry_settles, none_settled}
use Rattle.rv_account.proofs.OfState.OfWaiting.KeyEnds.{last_of}
use Rattle.rv_account.proofs.OfState.OfWaiting.OwnMoments.{none_due_now}
use Rattle.rv_account.proofs.OfState.OfWaiting.Refusals.{DueFits, call_differs, epoch_differs}
use Rattle.rv_account.proofs.OfState.OfWaiting.Refusals.{incarnation_old}
use Rattle.rv_account.proofs.OfState.OfWaiting.Refusals.{no_client_more, no_entry_more, no_place_more}
use Rattle.rv_account.proofs.OfState.OfWaiting.Refusals.{number_above}
use Rattle.rv_account.proofs.OfState.OfWaiting.Refusals.{number_old, session_busy, session_lacks}
use Rattle.rv_account.proofs.OfState.OfWaiting.Refusals.{version_differs}
use Rattle.rv_account.proofs.OfState.OfWaiting.Told.{IsLastOf, WaitsIfTold, again_fits, again_waits, own_fits}
use Rattle.rv_account.proofs.OfState.OfWaiting.Told.{own_waits, refused_none, replied_none, welcome_none}

pub record EndsWell (s : State) (moment : ℕ) (move : Move) : Type 0 where
  pub in_time : move.after.moment ≤ moment
  pub none_due : due_at move.after moment ≡ []
  pub just : SettlesJust s move.after move.settles
  pub answers : AnswersWell move

where_end : (P condition this that : Type 0) → (condition → this → P) → ((condition → ⊥) → that → P)
    → WhereElse condition this that → P
where_end P condition this that first second (inl h) = first h.0 h.1
where_end P condition this that first second (inr h) = second h.0 h.1

-- the session whose request came
asked_own : (x : State) (key : Key) (request : LastRequest) (session : ClientState) (o : Option ClientState)
    → o ≡ Some session → client_at (with_last x key request o) key.client
    ≡ Some (record {
      incarnation = session.incarnation;
      version = session.version;
      last = key.number;
      request = request;
    })
asked_own x key request session o is =
    ap (λ (o : Option ClientState). client_at (with_last x key request o) key.client) is
    ∙ put_own x.clients key.client _

-- what a session keeps of its last request is within the limits
abbrev FitsRequest : ℕ → ClientState → Type 0
FitsRequest epoch session = FitsLastRequest epoch session.version session.request

epoch_after : (x : State) (key : Key) (request : LastRequest) (o : Option ClientState)
    → (with_last x key request o).epoch ≡ x.epoch
epoch_after x key request None = refl
epoch_after x key request (Some session) = refl

cancel_reply : (s : State) (key : Key) (o : Option OpenPlace) → (cancelled s key o).reply ≡ Some Cancelled
cancel_reply s key None = refl
cancel_reply s key (Some there) = refl

module _ (s : State) (is : CanResume s) (moment : ℕ) where
  -- ---- what an entry's own request is told

  arrival_answers : (key : Key) (c : Call) → FitsKey key → NumberIsNext s key
      → CanResume (following s moment (act.Arrive key c)).after
      → FitsAnswer (answer_told key (following s moment (act.Arrive key c)).reply)
      × WaitsIfTold (following s moment (act.Arrive key c)).after
      (answer_told key (following s moment (act.Arrive key c)).reply)
  arrival_answers key c key_fits next resumes =
      let met = met_by s c in
      let settles = settled_all (told_partner s key c) met in
      let own = told_own s key c met in
      let opens = with_open (closed s met settles) (parked s moment key c met) in
      let after = (following s moment (act.Arrive key c)).after in
      let request = request_after s.length c own in
      let session : ClientState = record {
        incarnation = next.session.incarnation;
        version = next.session.version;
        last = key.number;
        request = request;
      } in
      let there : client_at after key.client ≡ Some session =
      asked_own opens key request (told_client settles key.client next.session) (client_at opens key.client)
      (get_tell_all settles s.clients key.client
      ∙ ap (option_map (told_client settles key.client)) next.of_session.there) in (
        own_fits key s.epoch s.length session.version c next.of_session.epoch key_fits own
            (subst (λ e. FitsRequest e session) (epoch_after opens key request (client_at opens key.client))
            (resumes.sessions key.client session there).request),
        own_waits after key session (record {
          epoch = next.of_session.epoch ∙ sym (epoch_after opens key request (client_at opens key.client));
          there = there;
          incarnation = next.of_session.incarnation;
        }) refl s.length c own refl,
      )

  cancel_answers : (key : Key) (after : State) (said : Answer) → FitsKey key → said ≡ Replied key Cancelled
      → FitsAnswer said × WaitsIfTold after said
  cancel_answers key after said key_fits same = (
    subst FitsAnswer (sym same) (key_fits, cancelled_fits, tt),
    subst (WaitsIfTold after) (sym same) (replied_none after key Cancelled),
  )

  module _ (none : due_at s moment ≡ []) (not_before : s.moment ≤ moment) (move : Move)
      (resumes : CanResume move.after) where
    abbrev Well : Type 0
    Well = EndsWell s moment move

    -- ---- the ends of a step's lines

    stays : (said : Answer) → FitsAnswer said → WaitsIfTold s said → move ≡ staying s said → Well
    stays said fits waits same =
        subst (EndsWell s moment) (sym same) (record {
          in_time = not_before;
          none_due = none;
          just = none_settled s;
          answers = record { fits = fits; waits = waits };
        })

    refused : (refusal : Refusal) → FitsRefusal refusal → RefusesMove s move refusal → Well
    refused refusal fits = stays (Refused refusal) fits (refused_none s refusal)

    repeats : (key : Key) (session : ClientState) → FitsKey key → IsLastOf s key session
        → RepeatsMove s key move → Well
    repeats key session key_fits of again =
        let same : session ≡ again.session = same_Some _ _ (sym of.of_session.there ∙ again.there) in
        let own = subst (IsLastOf s key) same of in
        stays (answer_told key (told_again again.session.request))
        (again_fits key s.epoch again.session.version of.of_session.epoch key_fits again.session.request
        (is.sessions key.client again.session again.there).request)
        (again_waits s is key again.session own again.session.request refl) again.is

    enters : (does : Act) (said : Answer) → NumberFits s does
        → (CanResume (following s moment does).after
        → FitsAnswer said × WaitsIfTold (following s moment does).after said)
        → move ≡ entering s moment does said → Well
    enters does said number answers same =
        let after = subst (λ (m : Move). CanResume m.after) same resumes in
        let answered = answers after in
        subst (EndsWell s moment) (sym same) (record {
          in_time = omega arith;
          none_due = none_due_now (following s moment does).after after;
          just = entry_settles s (holds s is) moment does number;
          answers = record { fits = answered.0; waits = answered.1 };
        })

    may_enter : (does : Act) (said : Answer) → NumberFits s does
        → (CanResume (following s moment does).after
        → FitsAnswer said × WaitsIfTold (following s moment does).after said)
        → EntersMove s moment does move said → Well
    may_enter does said number answers (inl lacks) = refused NoMemory tt lacks
    may_enter does said number answers (inr entered) = enters does said number answers entered

    refuse_end : (due : Refusal → Type 0) (other : Type 0) → DueFits due → (NotDue due → other → Well)
        → RefuseOr due (RefusesMove s move) other → Well
    refuse_end due other fits goes_on (inl h) = refused h.refusal (fits h.refusal h.is_due) h.refuses_it
    refuse_end due other fits goes_on (inr h) = goes_on h.0 h.1

    key_end : (key : Key) (at_last above : Type 0)
        → ((session : ClientState) → IsLastOf s key session → at_last → Well)
        → (NumberIsNext s key → above → Well)
        → StateKeyLines s key (RefusesMove s move) at_last above → Well
    key_end key at_last above first second =
        refuse_end _ _ (epoch_differs s is key) (λ epoch.
        refuse_end _ _ (session_lacks s key) (λ lacks.
        refuse_end _ _ (incarnation_old s is key.client key.incarnation) (λ old.
        refuse_end _ _ (number_old s is key) (λ number.
        where_end _ _ _ _ (λ last. first last.session (last_of s key epoch lacks old number last))
        (λ not_last.
        refuse_end _ _ (session_busy s is key) (λ busy.
        refuse_end _ _ (number_above s is key) (λ gap.
        second (is_next s key epoch lacks old number not_last busy gap))))))))

    place_end : (bound : Option ℕ) (c : Call) (other : Type 0) → (other → Well)
        → StatePlaceLine bound s c (RefusesMove s move) other → Well
    place_end None c other goes_on = goes_on
    place_end (Some most) c other goes_on = refuse_end _ _ (no_place_more most s c) (λ left. goes_on)

    -- ---- a message

    pub ends_well : (limits : StepLimits) (m : Message) → FitsMessage m
        → StateNextAtUnder limits s moment m move → Well
    ends_well limits (Hello client incarnation version) fits =
        let welcome = λ (x : State). welcome_none x s.epoch client incarnation version in
        refuse_end _ _ (incarnation_old s is client incarnation) (λ old.
        refuse_end _ _ (version_differs s client incarnation version) (λ other.
        where_end _ _ _ _ (λ again. stays (Welcome s.epoch client incarnation version)
        (is.epoch, fits.0, fits.1) (welcome s)) (λ fresh.
        refuse_end _ _ (no_client_more limits s client) (λ clients.
        refuse_end _ _ (no_entry_more limits s 1) (λ room.
        may_enter (act.Hello client incarnation version) (Welcome s.epoch client incarnation version)
        (is_new s client incarnation old fresh)
        (λ after. ((is.epoch, fits.0, fits.1), welcome _)))))))
    ends_well limits (Request key c) fits =
        key_end key _ _ (λ session last. refuse_end _ _ (call_differs s key c) (λ same.
        repeats key session fits.0 last)) (λ next.
        refuse_end _ _ (no_entry_more limits s (need_of c)) (λ room.
        place_end limits.open_places c _
        (may_enter (act.Arrive key c) (answer_told key (following s moment (act.Arrive key c)).reply) next
        (arrival_answers key c fits.0 next))))
    ends_well limits (Cancel key) fits =
        key_end key _ _ (λ session last. where_end _ _ _ _ (λ waits.
        enters (act.Cancel key) (Replied key Cancelled) (inl waits)
        (λ after. cancel_answers key _ (Replied key Cancelled) fits refl))
        (λ over. repeats key session fits last)) (λ next.
        refuse_end _ _ (no_entry_more limits s 1) (λ room.
        may_enter (act.Cancel key) (answer_told key (following s moment (act.Cancel key)).reply) (inr next)
        (λ after. cancel_answers key _ _ fits
        (ap (answer_told key) (cancel_reply s key (client_waits s key.client))))))
