-- What a request or a cancel of the session's last number is told again, by the account and by the state.
use Rattle.rv_account.proofs.OfState.Words.{◌≡◌, ◌∙◌, inl, inr, ℕ, List, Some, refl, sym, ap, subst}
use Rattle.rv_account.proofs.OfState.Words.{none-some}
use Rattle.rv_account.proofs.OfState.Words.{same_Some, Answer, Refusal, Cancelled, Call, Key, Arrive, Entry}
use Rattle.rv_account.proofs.OfState.Words.{Account}
use Rattle.rv_account.proofs.OfState.Words.{act_at, Legal, Answers, arrives_once, ClientState, LastRequest}
use Rattle.rv_account.proofs.OfState.Words.{State}
use Rattle.rv_account.proofs.OfState.Words.{client_at, CancelledUnseen, Fresh, RepliedTo, Waits, Move}
use Rattle.rv_account.proofs.OfState.Words.{staying}
use Rattle.rv_account.proofs.OfState.Words.{BecameOf, IsStateOf}
use Rattle.rv_account.specs.rules.Steps.{OtherCallDue, Repeats}
use Rattle.rv_account.specs.state.Moves.{CallDiffers, RepeatsMove, answer_told, call_asked, told_again}
use Rattle.rv_account.proofs.OfState.CarriedLines.{Done}
use Rattle.rv_account.proofs.OfState.Leading.{IsMoveTo, staying_leads}
use Rattle.rv_account.proofs.OfState.OneTold.{one_call, one_told}

-- the key is that of its session's last number, which a request or a cancel had
pub record AtLast (a : Account) (s : State) (key : Key) : Type 0 where
  pub session : ClientState
  pub there : client_at s key.client ≡ Some session
  pub became : BecameOf a.entries key session.request
  pub positive : key.number ≡ 0 → ⊥

-- ---- what is told

told_by : (a : Account) (key : Key) (request : LastRequest) → BecameOf a.entries key request
    → (key.number ≡ 0 → ⊥) → Answers a key (answer_told key (told_again request))
told_by a key Fresh became positive = absurd (positive became)
told_by a key (Waits place call) became positive =
    inr (record { place = place; call = call; arrived = became.arrived; waits = became.waits }, refl)
told_by a key (RepliedTo call reply) became positive =
    inl (record { reply = reply; has = inl became.replies; is = refl })
told_by a key CancelledUnseen became positive =
    inl (record { reply = Cancelled; has = inr (became, refl); is = refl })

-- ---- the call that came

-- where a request came, its call is that which came
came_there : (es : List Entry) (key : Key) (request : LastRequest) (came : Call) → BecameOf es key request
    → call_asked request ≡ Some came → (place : ℕ) × (act_at es place ≡ Some (Arrive key came))
came_there es key Fresh came became is = absurd (none-some came is)
came_there es key (Waits place call) came became is =
    (place, became.arrived ∙ ap (λ c. Some (Arrive key c)) (same_Some _ _ is))
came_there es key (RepliedTo call reply) came became is = (
  became.replies.place,
  became.replies.arrived
      ∙ ap (λ c. Some (Arrive key c)) (became.with_call ∙ same_Some _ _ is),
)
came_there es key CancelledUnseen came became is = absurd (none-some came is)

one_came : (a : Account) (key : Key) (p q : ℕ) (c d : Call) → Legal a
    → act_at a.entries p ≡ Some (Arrive key c) → act_at a.entries q ≡ Some (Arrive key d) → c ≡ d
one_came a key p q c d legal first second =
    one_call key c d
    (sym first ∙ ap (act_at a.entries) (arrives_once a p q key c d legal first second) ∙ second)

there_came : (a : Account) (key : Key) (request : LastRequest) (place : ℕ) (came : Call) → Legal a
    → BecameOf a.entries key request → (key.number ≡ 0 → ⊥) → act_at a.entries place ≡ Some (Arrive key came)
    → call_asked request ≡ Some came
there_came a key Fresh place came legal became positive arrived = absurd (positive became)
there_came a key (Waits other call) place came legal became positive arrived =
    ap Some (one_came a key other place call came legal became.arrived arrived)
there_came a key (RepliedTo call reply) place came legal became positive arrived =
    ap Some (sym became.with_call
    ∙ one_came a key became.replies.place place became.replies.call came legal became.replies.arrived
    arrived)
there_came a key CancelledUnseen place came legal became positive arrived =
    absurd (became.not_arrived place came arrived)

module _ (a : Account) (s : State) (key : Key) (legal : Legal a) (state : IsStateOf a s) (at : AtLast a s key)
  where
    pub call_to : (call : Call) (refusal : Refusal) → OtherCallDue a key call refusal
        → CallDiffers s key call refusal
    call_to call refusal due = record {
      session = at.session;
      there = at.there;
      came = due.other;
      with_call = there_came a key at.session.request due.place due.other legal at.became at.positive
          due.arrived;
      other = due.differs;
      is = due.is;
    }

    pub call_from : (call : Call) (refusal : Refusal) → CallDiffers s key call refusal
        → OtherCallDue a key call refusal
    call_from call refusal due =
        let same : due.session ≡ at.session = same_Some _ _ (sym due.there ∙ at.there) in
        let came = came_there a.entries key at.session.request due.came at.became
        (ap (λ (c : ClientState). call_asked c.request) (sym same) ∙ due.with_call) in
        record { place = came.0; other = due.came; arrived = came.1; differs = due.other; is = due.is }

    -- ---- repeats

    pub again : Answers a key (answer_told key (told_again at.session.request))
    again = told_by a key at.session.request at.became at.positive

    pub repeats_to : (b : Account) (answer : Answer) → Repeats a b key answer
        → Done Move (IsMoveTo a b answer) (RepeatsMove s key)
    repeats_to b answer repeats = record {
      what = staying s (answer_told key (told_again at.session.request));
      how = record { session = at.session; there = at.there; is = refl };
      wanted = staying_leads a b s answer (answer_told key (told_again at.session.request)) legal state
          repeats.account (sym (repeats.only (answer_told key (told_again at.session.request)) again));
    }

    pub repeats_from : (move : Move) → RepeatsMove s key move
        → Done (Account × Answer) (λ x. IsMoveTo a x.0 x.1 move) (λ x. Repeats a x.0 key x.1)
    repeats_from move repeats =
        let said : Answer = answer_told key (told_again at.session.request) in
        let same : repeats.session ≡ at.session = same_Some _ _ (sym repeats.there ∙ at.there) in
        let is : move ≡ staying s said =
        repeats.is ∙ ap (λ (c : ClientState). staying s (answer_told key (told_again c.request))) same in
        record {
          what = (a, said);
          how = record {
            account = refl;
            answers = again;
            only = λ other also. one_told a key said other legal again also;
          };
          wanted = subst (IsMoveTo a a said) (sym is) (staying_leads a a s said said legal state refl refl);
        }
