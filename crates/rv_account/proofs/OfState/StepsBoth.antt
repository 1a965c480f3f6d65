-- The step of a message by an account, at a moment, is one by its state, and the other way round.
use Rattle.rv_account.proofs.OfState.Words.{◌≡◌, ◌≤◌, ◌∙◌, inl, inr, ℕ, [], refl, sym, ap, subst}
use Rattle.rv_account.proofs.OfState.Words.{cases_order, Answer}
use Rattle.rv_account.proofs.OfState.Words.{Replied, Refusal, OldIncarnation, Cancelled, Call, Key, Message}
use Rattle.rv_account.proofs.OfState.Words.{Version}
use Rattle.rv_account.proofs.OfState.Words.{Act, Account, with_entry, Legal, Answers, State, due_at}
use Rattle.rv_account.proofs.OfState.Words.{NumberIsNext}
use Rattle.rv_account.proofs.OfState.Words.{IncarnationOld, Move, entering, staying, IsStateOf}
use Rattle.rv_text.specs.declared.answer.Answer.TheVariants.{Refused, Welcome}
use Rattle.rv_text.specs.declared.answer.Refusal.TheVariants.{NoMemory}
use Rattle.rv_text.specs.declared.message.Message.TheVariants.{Cancel, Hello, Request}
use Rattle.rv_account.specs.Calls.{need_of}
use Rattle.rv_account.specs.rules.StepLimits.{StepLimits}
use Rattle.rv_account.specs.rules.Steps.{Adds, EntersOrNoMemory, NextAtUnder, Refuses, Replies}
use Rattle.rv_account.specs.state.Follows.{IsNewIncarnation}
use Rattle.rv_account.specs.state.Moves.{EntersMove, HasSessionOf, RefusesMove, StateNextAtUnder}
use Rattle.rv_account.specs.state.Moves.{answer_after}
use Rattle.rv_account.proofs.OfState.AtLast.{call_from, call_to, repeats_from, repeats_to}
use Rattle.rv_account.proofs.OfState.CarriedLines.{Done, carried_condition, carried_refusal}
use Rattle.rv_account.proofs.OfState.Coming.{Comes}
use Rattle.rv_account.proofs.OfState.EntersBoth.{Entered, adds_own, comes_adds, own_comes, own_entry}
use Rattle.rv_account.proofs.OfState.KeyLinesBoth.{key_lines_from, key_lines_to, place_line_from}
use Rattle.rv_account.proofs.OfState.KeyLinesBoth.{place_line_to}
use Rattle.rv_account.proofs.OfState.ClientParts.{session_to_account}
use Rattle.rv_account.proofs.OfState.Leading.{IsMoveTo, entered_legal, entering_leads, staying_leads}
use Rattle.rv_account.proofs.OfState.NumbersBoth.{next_to_account, waits_to_account, waits_to_state}
use Rattle.rv_account.proofs.OfState.OneTold.{one_told}
use Rattle.rv_account.proofs.OfState.OwnAnswers.{cancel_answer, first_replies, own_answers}
use Rattle.rv_account.proofs.OfState.RefusalsBoth.{clients_from, clients_to, full_from, full_to, has_from}
use Rattle.rv_account.proofs.OfState.RefusalsBoth.{has_to}
use Rattle.rv_account.proofs.OfState.RefusalsBoth.{incarnation_from, incarnation_to, version_from, version_to}
use Rattle.rv_account.specs.declared.entry.Act.TheVariants as act

module _ (limits : StepLimits) (a : Account) (s : State) (moment : ℕ) (legal : Legal a)
    (state : IsStateOf a s) where
  -- ---- from the account to its state

  module _ (b : Account) (answer : Answer) where
    abbrev ToMove : (Move → Type 0) → Type 0
    ToMove = Done Move (IsMoveTo a b answer)

    refused_to : (p : Refusal) → Refuses a b answer p → ToMove (λ x. RefusesMove s x p)
    refused_to p refuses =
        record {
          what = staying s (Refused p);
          how = refl;
          wanted = staying_leads a b s answer (Refused p) legal state refuses.0 refuses.1;
        }

    -- an entry whose answer is the state's
    entered_to : (does : Act) (said : Answer) (A : Type 0) → (Entered a s moment does b → A → answer ≡ said)
        → EntersOrNoMemory a moment does b answer A → ToMove (λ x. EntersMove s moment does x said)
    entered_to does said A same (inl refuses) =
        let done = refused_to NoMemory refuses in
        record { what = done.what; how = inl done.how; wanted = done.wanted }
    entered_to does said A same (inr adds) =
        let entered = adds_own a b s moment does legal state adds.0 in
        record {
          what = entering s moment does said;
          how = inr refl;
          wanted = entering_leads a b s moment does answer said entered (same entered adds.1);
        }

    request_answer : (key : Key) (call : Call) → Entered a s moment (act.Arrive key call) b
        → Answers b key answer → answer ≡ answer_after s moment key (act.Arrive key call)
    request_answer key call entered answers =
        let said = subst (λ (x : Account). Answers x key (answer_after s moment key (act.Arrive key call)))
        (sym entered.is)
        (own_answers a s (own_entry s moment (act.Arrive key call)) key call entered.comes refl) in
        one_told b key (answer_after s moment key (act.Arrive key call)) answer
        (entered_legal a b s moment (act.Arrive key call) entered) said answers

    cancel_told : (key : Key) → NumberIsNext s key → Entered a s moment (act.Cancel key) b
        → Replies b key answer → answer ≡ answer_after s moment key (act.Cancel key)
    cancel_told key next entered replies =
        let session = session_to_account a s key next.session state next.of_session in
        let first = first_replies a (own_entry s moment (act.Cancel key)) key legal session.1
        (next_to_account a s key legal state next) refl in
        let said = subst (λ (x : Account). Answers x key (Replied key Cancelled)) (sym entered.is)
        (inl first) in
        one_told b key (Replied key Cancelled) answer (entered_legal a b s moment (act.Cancel key) entered)
        said (inl replies) ∙ sym (cancel_answer s moment key)

    pub next_at_to : (m : Message) → NextAtUnder limits a moment m b answer
        → ToMove (StateNextAtUnder limits s moment m)
    next_at_to (Hello client incarnation version) lines =
        let W = IsMoveTo a b answer in
        carried_refusal Move W _ _ (Refuses a b answer) _ (RefusesMove s) _
        (incarnation_to a s legal state client incarnation)
        (incarnation_from a s legal state client incarnation) refused_to (λ no_newer.
        carried_refusal Move W _ _ (Refuses a b answer) _ (RefusesMove s) _
        (version_to a s legal state client incarnation version)
        (version_from a s legal state client incarnation version) refused_to (λ one_version.
        carried_condition Move W _ _ _ _ _ _ (has_to a s legal state client incarnation)
        (has_from a s legal state client incarnation)
        (λ has same. record {
          what = staying s (Welcome s.epoch client incarnation version);
          how = refl;
          wanted = staying_leads a b s answer (Welcome s.epoch client incarnation version) legal state same.0
              (same.1 ∙ ap (λ n. Welcome n client incarnation version) (sym state.epoch));
        }) (λ new_one.
        carried_refusal Move W _ _ (Refuses a b answer) _ (RefusesMove s) _
        (clients_to a s legal state limits client) (clients_from a s legal state limits client) refused_to
        (λ few.
        carried_refusal Move W _ _ (Refuses a b answer) _ (RefusesMove s) _ (full_to a s legal state limits 1)
        (full_from a s legal state limits 1) refused_to (λ room.
        entered_to (act.Hello client incarnation version) (Welcome s.epoch client incarnation version)
        (answer ≡ Welcome a.epoch client incarnation version)
        (λ entered same. same ∙ ap (λ n. Welcome n client incarnation version) (sym state.epoch)))))))
        lines
    next_at_to (Request key call) lines =
        let W = IsMoveTo a b answer in
        key_lines_to Move W a s legal state key (Refuses a b answer) (RefusesMove s) _ _ _ _ refused_to
        (λ at. carried_refusal Move W _ _ (Refuses a b answer) _ (RefusesMove s) _
        (call_to a s key legal state at call) (call_from a s key legal state at call) refused_to
        (λ same. repeats_to a s key legal state at b answer))
        (λ next. carried_refusal Move W _ _ (Refuses a b answer) _ (RefusesMove s) _
        (full_to a s legal state limits (need_of call)) (full_from a s legal state limits (need_of call))
        refused_to (λ room.
        place_line_to Move W a s legal state call (Refuses a b answer) (RefusesMove s) _ _ refused_to
        limits.open_places (
        entered_to (act.Arrive key call) (answer_after s moment key (act.Arrive key call))
        (Answers b key answer) (request_answer key call))))
        lines
    next_at_to (Cancel key) lines =
        let W = IsMoveTo a b answer in
        key_lines_to Move W a s legal state key (Refuses a b answer) (RefusesMove s) _ _ _ _ refused_to
        (λ at. carried_condition Move W _ _ _ _ _ _ (waits_to_state a s key legal state)
        (waits_to_account a s key legal state)
        (λ waits ends. record {
          what = entering s moment (act.Cancel key) (Replied key Cancelled);
          how = refl;
          wanted = entering_leads a b s moment (act.Cancel key) answer (Replied key Cancelled)
              (adds_own a b s moment (act.Cancel key) legal state ends.0) ends.1;
        }) (λ idle. repeats_to a s key legal state at b answer))
        (λ next. carried_refusal Move W _ _ (Refuses a b answer) _ (RefusesMove s) _
        (full_to a s legal state limits 1) (full_from a s legal state limits 1) refused_to (λ room.
        entered_to (act.Cancel key) (answer_after s moment key (act.Cancel key)) (Replies b key answer)
        (cancel_told key next)))
        lines

  -- ---- from the state to its account

  module _ (not_before : s.moment ≤ moment) (none : due_at s moment ≡ []) (move : Move) where
    abbrev Outcome : Type 0
    Outcome = Account × Answer

    abbrev Led : Outcome → Type 0
    Led x = IsMoveTo a x.0 x.1 move

    refused_from : (p : Refusal) → RefusesMove s move p → Done Outcome Led (λ x. Refuses a x.0 x.1 p)
    refused_from p is =
        record {
          what = (a, Refused p);
          how = (refl, refl);
          wanted =
              subst (IsMoveTo a a (Refused p)) (sym is)
              (staying_leads a a s (Refused p) (Refused p) legal state refl refl);
        }

    -- the account with the own entry, and an answer
    entered_leads : (does : Act) (said : Answer) → Comes a s (own_entry s moment does)
        → move ≡ entering s moment does said → IsMoveTo a (with_entry a (own_entry s moment does)) said move
    entered_leads does said comes is =
        let b : Account = with_entry a (own_entry s moment does) in
        subst (IsMoveTo a b said) (sym is)
        (entering_leads a b s moment does said said (record { comes = comes; is = refl }) refl)

    entered_from : (does : Act) (said : Answer) (A : Outcome → Type 0) → Comes a s (own_entry s moment does)
        → A (with_entry a (own_entry s moment does), said) → EntersMove s moment does move said
        → Done Outcome Led (λ x. EntersOrNoMemory a moment does x.0 x.1 (A x))
    entered_from does said A comes answers (inl refuses) =
        let done = refused_from NoMemory refuses in
        record { what = done.what; how = inl done.how; wanted = done.wanted }
    entered_from does said A comes answers (inr is) = record {
      what = (with_entry a (own_entry s moment does), said);
      how = inr (comes_adds a s moment does comes, answers);
      wanted = entered_leads does said comes is;
    }

    welcomed : (client incarnation : ℕ) (version : Version)
        → move ≡ staying s (Welcome s.epoch client incarnation version)
        → Done Outcome Led (λ x. (x.0 ≡ a) × (x.1 ≡ Welcome a.epoch client incarnation version))
    welcomed client incarnation version is =
        let said : Answer = Welcome a.epoch client incarnation version in
        record {
          what = (a, said);
          how = (refl, refl);
          wanted = subst (IsMoveTo a a said) (sym is)
              (staying_leads a a s said (Welcome s.epoch client incarnation version) legal state refl
              (ap (λ n. Welcome n client incarnation version) (sym state.epoch)));
        }

    -- a cancel of what waits
    ended : (key : Key) → Comes a s (own_entry s moment (act.Cancel key))
        → move ≡ entering s moment (act.Cancel key) (Replied key Cancelled)
        → Done Outcome Led (λ x. Adds a moment (act.Cancel key) x.0 × (x.1 ≡ Replied key Cancelled))
    ended key comes is = record {
      what = (with_entry a (own_entry s moment (act.Cancel key)), Replied key Cancelled);
      how = (comes_adds a s moment (act.Cancel key) comes, refl);
      wanted = entered_leads (act.Cancel key) (Replied key Cancelled) comes is;
    }

    cancel_replies : (key : Key) → NumberIsNext s key
        → Replies (with_entry a (own_entry s moment (act.Cancel key))) key
        (answer_after s moment key (act.Cancel key))
    cancel_replies key next =
        let session = session_to_account a s key next.session state next.of_session in
        subst (Replies (with_entry a (own_entry s moment (act.Cancel key))) key)
        (sym (cancel_answer s moment key))
        (first_replies a (own_entry s moment (act.Cancel key)) key legal session.1
        (next_to_account a s key legal state next) refl)

    is_above : (client incarnation : ℕ) → ((p : Refusal) → IncarnationOld s client incarnation p → ⊥)
        → (HasSessionOf s client incarnation → ⊥) → IsNewIncarnation s client incarnation
    is_above client incarnation no_newer new_one session there =
        elim (cases_order session.incarnation incarnation) [
          | inl same ↦ absurd (new_one (record { session = session; there = there; same = same }))
          | inr differ ↦ elim differ [
            | inl lower ↦ lower
            | inr higher ↦ absurd
                (no_newer (OldIncarnation session.incarnation)
                (record { session = session; there = there; lower = higher; is = refl }))
          ]
        ]

    pub next_at_from : (m : Message) → StateNextAtUnder limits s moment m move
        → Done Outcome Led (λ x. NextAtUnder limits a moment m x.0 x.1)
    next_at_from (Hello client incarnation version) lines =
        carried_refusal Outcome Led _ _ (RefusesMove s move) _ (λ x. Refuses a x.0 x.1) _
        (incarnation_from a s legal state client incarnation)
        (incarnation_to a s legal state client incarnation) refused_from (λ no_newer.
        carried_refusal Outcome Led _ _ (RefusesMove s move) _ (λ x. Refuses a x.0 x.1) _
        (version_from a s legal state client incarnation version)
        (version_to a s legal state client incarnation version) refused_from (λ one_version.
        carried_condition Outcome Led _ _ _ _ _ _ (has_from a s legal state client incarnation)
        (has_to a s legal state client incarnation)
        (λ has is. welcomed client incarnation version is) (λ new_one.
        carried_refusal Outcome Led _ _ (RefusesMove s move) _ (λ x. Refuses a x.0 x.1) _
        (clients_from a s legal state limits client) (clients_to a s legal state limits client) refused_from
        (λ few.
        carried_refusal Outcome Led _ _ (RefusesMove s move) _ (λ x. Refuses a x.0 x.1) _
        (full_from a s legal state limits 1) (full_to a s legal state limits 1) refused_from (λ room.
        let above : IsNewIncarnation s client incarnation = is_above client incarnation no_newer new_one in
        let comes = own_comes a s moment (act.Hello client incarnation version) legal state
        (record { not_before = not_before; due = none }) above in
        entered_from (act.Hello client incarnation version) (Welcome s.epoch client incarnation version)
        (λ x. x.1 ≡ Welcome a.epoch client incarnation version) comes
        (ap (λ n. Welcome n client incarnation version) state.epoch))))))
        lines
    next_at_from (Request key call) lines =
        key_lines_from Outcome Led a s legal state key (RefusesMove s move) (λ x. Refuses a x.0 x.1) _ _ _ _
        refused_from
        (λ at. carried_refusal Outcome Led _ _ (RefusesMove s move) _ (λ x. Refuses a x.0 x.1) _
        (call_from a s key legal state at call) (call_to a s key legal state at call) refused_from
        (λ same. repeats_from a s key legal state at move))
        (λ next. carried_refusal Outcome Led _ _ (RefusesMove s move) _ (λ x. Refuses a x.0 x.1) _
        (full_from a s legal state limits (need_of call)) (full_to a s legal state limits (need_of call))
        refused_from (λ room.
        place_line_from Outcome Led a s legal state call (RefusesMove s move) (λ x. Refuses a x.0 x.1) _ _
        refused_from limits.open_places (
        let comes = own_comes a s moment (act.Arrive key call) legal state
        (record { not_before = not_before; due = none }) next in
        entered_from (act.Arrive key call) (answer_after s moment key (act.Arrive key call))
        (λ x. Answers x.0 key x.1) comes
        (own_answers a s (own_entry s moment (act.Arrive key call)) key call comes refl))))
        lines
    next_at_from (Cancel key) lines =
        key_lines_from Outcome Led a s legal state key (RefusesMove s move) (λ x. Refuses a x.0 x.1) _ _ _ _
        refused_from
        (λ at. carried_condition Outcome Led _ _ _ _ _ _ (waits_to_account a s key legal state)
        (waits_to_state a s key legal state)
        (λ waits is. ended key
        (own_comes a s moment (act.Cancel key) legal state
        (record { not_before = not_before; due = none }) (inl waits)) is)
        (λ idle. repeats_from a s key legal state at move))
        (λ next. carried_refusal Outcome Led _ _ (RefusesMove s move) _ (λ x. Refuses a x.0 x.1) _
        (full_from a s legal state limits 1) (full_to a s legal state limits 1) refused_from (λ room.
        entered_from (act.Cancel key) (answer_after s moment key (act.Cancel key)) (λ x. Replies x.0 key x.1)
        (own_comes a s moment (act.Cancel key) legal state (record { not_before = not_before; due = none })
        (inr next)) (cancel_replies key next)))
        lines
