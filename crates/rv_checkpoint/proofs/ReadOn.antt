-- What was read of a checkpoint's lines, line after line.
use Rattle.std.proofs.Common.{◌≡◌, ◌∷◌, [], ◌++◌, ◌∙◌, ℕ, Bool, true, false, List, Option, Some, None, length}
use Rattle.std.proofs.Common.{append_assoc, refl, sym, ap, subst}
use Rattle.std.specs.List.{AllZip}
use Rattle.rv_account.specs.state.State.{State}
use Rattle.rv_account.specs.state.resume.Checking.{ClientsRise, state_by}
use Rattle.rv_account.specs.state.resume.Resuming.{CanResume}
use Rattle.rv_checkpoint.specs.Reading.{BeginsNoState, HasReadAfter, IsNoNextOf, SaysState, all_said}
use Rattle.rv_checkpoint.specs.Reading.{end_said, parts_said}
use Rattle.rv_checkpoint.specs.Saying.{SaysHead, SaysOneLine}
use Rattle.rv_checkpoint.specs.declared.head.StateHead.{StateHead}
use Rattle.rv_checkpoint.specs.declared.line.StateLine.{StateLine}
use Rattle.rv_checkpoint.proofs.AllSaid.{not_all, parts_once}
use Rattle.rv_checkpoint.proofs.SaidOnce.{head_once, line_once}
use Rattle.rv_session.specs.declared.client.ClientState.{ClientState}
use Rattle.rv_session.specs.declared.open.OpenPlace.{OpenPlace}

-- ---- lists

module _ (epoch : ℕ) where
  pub zip_on : (lines : List (List ℕ)) (said : List StateLine) (line : List ℕ) (item : StateLine)
      → AllZip (SaysOneLine epoch) lines said → SaysOneLine epoch line item
      → AllZip (SaysOneLine epoch) (lines ++ line ∷ []) (said ++ item ∷ [])
  zip_on [] [] line item all says = (says, tt)
  zip_on [] (x ∷ said) line item all says = absurd all
  zip_on (l ∷ lines) [] line item all says = absurd all
  zip_on (l ∷ lines) (x ∷ said) line item all says = (all.0, zip_on lines said line item all.1 says)

  -- what more lines say comes after what the first say
  pub record SaysMore (more : List (List ℕ)) (said all : List StateLine) : Type 0 where
    pub later : List StateLine
    pub parts : all ≡ said ++ later
    pub says : AllZip (SaysOneLine epoch) more later

  pub zip_front : (lines more : List (List ℕ)) (said all : List StateLine)
      → AllZip (SaysOneLine epoch) lines said
      → AllZip (SaysOneLine epoch) (lines ++ more) all → SaysMore more said all
  zip_front [] more [] all some whole = record { later = all; parts = refl; says = whole }
  zip_front [] more (x ∷ said) all some whole = absurd some
  zip_front (l ∷ lines) more [] all some whole = absurd some
  zip_front (l ∷ lines) more (x ∷ said) [] some whole = absurd whole
  zip_front (l ∷ lines) more (x ∷ said) (y ∷ all) some whole =
      let one = line_once epoch l x y some.0 whole.0 in
      let rest = zip_front lines more said all some.1 whole.1 in
      record { later = rest.later; parts = λ i. sym one i ∷ rest.parts i; says = rest.says }

  zip_once : (lines : List (List ℕ)) (said other : List StateLine) → AllZip (SaysOneLine epoch) lines said
      → AllZip (SaysOneLine epoch) lines other → said ≡ other
  zip_once [] [] [] some whole = refl
  zip_once [] [] (y ∷ other) some whole = absurd whole
  zip_once [] (x ∷ said) other some whole = absurd some
  zip_once (l ∷ lines) [] other some whole = absurd some
  zip_once (l ∷ lines) (x ∷ said) [] some whole = absurd whole
  zip_once (l ∷ lines) (x ∷ said) (y ∷ other) some whole =
      let one = line_once epoch l x y some.0 whole.0 in
      let rest = zip_once lines said other some.1 whole.1 in
      λ i. one i ∷ rest i

first_of : (first other : List ℕ) (rest more : List (List ℕ)) → first ∷ rest ≡ other ∷ more
    → (first ≡ other) × (rest ≡ more)
first_of first other rest more same = (cc, cc)

-- ---- one more line

pub take_on : (was now : Option StateHead) (head : StateHead) (lines : List (List ℕ)) (line : List ℕ)
    (said after : List StateLine) (item : StateLine) → was ≡ Some head → now ≡ was → after ≡ said ++ item ∷ []
    → SaysOneLine head.epoch line item → HasReadAfter was lines said
    → HasReadAfter now (lines ++ line ∷ []) after
take_on was now head lines line said after item is same adds says has =
    let before : HasReadAfter (Some head) lines said = subst (λ w. HasReadAfter w lines said) is has in
    let later : HasReadAfter (Some head) (lines ++ line ∷ []) (said ++ item ∷ []) = (
      before.0,
      before.1 ++ line ∷ [],
      ap (λ l. l ++ line ∷ []) before.2,
      before.3,
      zip_on head.epoch before.1 said line item before.4 says,
    ) in
    subst (λ w. HasReadAfter w (lines ++ line ∷ []) after) (sym (same ∙ is))
    (subst (λ s. HasReadAfter (Some head) (lines ++ line ∷ []) s) (sym adds) later)

-- the line says nothing that may come next
abbrev pub IsStuck : StateHead → List ℕ → List StateLine → Type 0
IsStuck head line said = (item : StateLine) → SaysOneLine head.epoch line item → IsNoNextOf said item

stuck_here : (head : StateHead) (line : List ℕ) (more : List (List ℕ)) (said later : List StateLine)
    (opens : List OpenPlace) (clients : List (ℕ × ClientState)) → IsStuck head line said
    → all_said opens clients ≡ said ++ later → AllZip (SaysOneLine head.epoch) (line ∷ more) later → ⊥
stuck_here head line more said [] opens clients none parts says = absurd says
stuck_here head line more said (item ∷ later) opens clients none parts says =
    none item says.0 opens clients later parts

pub stuck : (was : Option StateHead) (head : StateHead) (lines : List (List ℕ)) (line : List ℕ)
    (said : List StateLine) → was ≡ Some head → IsStuck head line said → HasReadAfter was lines said
    → BeginsNoState (lines ++ line ∷ [])
stuck was head lines line said is none has more s says =
    let before : HasReadAfter (Some head) lines said = subst (λ w. HasReadAfter w lines said) is has in
    let whole : says.first ∷ says.rest ≡ before.0 ∷ (before.1 ++ line ∷ more) =
    sym says.parts ∙ append_assoc lines (line ∷ []) more ∙ ap (λ l. l ++ line ∷ more) before.2 in
    let parts = first_of says.first before.0 says.rest (before.1 ++ line ∷ more) whole in
    let heads = head_once (subst (λ l. SaysHead l says.head) parts.0 says.says_head) before.3 in
    let all = subst (λ r. AllZip (SaysOneLine head.epoch) r (all_said says.opens says.clients)) parts.1
    (subst (λ h. AllZip (SaysOneLine h.epoch) says.rest (all_said says.opens says.clients)) heads says.says)
    in
    let front = zip_front head.epoch before.1 (line ∷ more) said (all_said says.opens says.clients) before.4
    all in
    stuck_here head line more said front.later says.opens says.clients none front.parts front.says

-- no first line
pub no_first : (was : Option StateHead) (lines : List (List ℕ)) (line : List ℕ) (said : List StateLine)
    → was ≡ None → ((head : StateHead) → ¬ SaysHead line head) → HasReadAfter was lines said
    → BeginsNoState (lines ++ line ∷ [])
no_first was lines line said is none has more s says =
    let before : HasReadAfter None lines said = subst (λ w. HasReadAfter w lines said) is has in
    let whole : says.first ∷ says.rest ≡ line ∷ more = sym says.parts ∙ ap (λ l. l ++ line ∷ [] ++ more)
    before.0 in
    none says.head (subst (λ l. SaysHead l says.head) (first_of says.first line says.rest more whole).0
    says.says_head)

-- ---- all that was read

-- what a state's lines say is what was read of them
pub record SaysRead (head : StateHead) (said : List StateLine) (lines : List (List ℕ)) (s : State)
    (says : SaysState lines s) : Type 0
  where
    pub heads : says.head ≡ head
    pub all : all_said says.opens says.clients ≡ said

pub says_read : (was : Option StateHead) (head : StateHead) (lines : List (List ℕ)) (said : List StateLine)
    (s : State) → was ≡ Some head → HasReadAfter was lines said → (says : SaysState lines s)
    → SaysRead head said lines s says
says_read was head lines said s is has says =
    let before : HasReadAfter (Some head) lines said = subst (λ w. HasReadAfter w lines said) is has in
    let parts = first_of says.first before.0 says.rest before.1 (sym says.parts ∙ before.2) in
    let heads = head_once (subst (λ l. SaysHead l says.head) parts.0 says.says_head) before.3 in
    let all = subst (λ r. AllZip (SaysOneLine head.epoch) r (all_said says.opens says.clients)) parts.1
    (subst (λ h. AllZip (SaysOneLine h.epoch) says.rest (all_said says.opens says.clients)) heads says.says)
    in
    record { heads = heads; all = zip_once head.epoch before.1 _ said all before.4 }

-- lines say one state
pub state_once : (lines : List (List ℕ)) (s t : State) → SaysState lines s → SaysState lines t → s ≡ t
state_once lines s t x y =
    let has : HasReadAfter (Some x.head) lines (all_said x.opens x.clients) =
    (x.first, x.rest, x.parts, x.says_head, x.says) in
    let read = says_read (Some x.head) x.head lines (all_said x.opens x.clients) t refl has y in
    let once = parts_once y.opens x.opens y.clients x.clients read.all in
    x.state ∙ (λ i. state_by (sym read.heads i).epoch (sym read.heads i).moment (sym read.heads i).length
    (sym once.0 i) (sym once.1 i)) ∙ sym y.state

-- ---- its end

-- the reader of a checkpoint that has no end
pub no_end : (was : Option StateHead) (head : StateHead) (opens : List OpenPlace)
    (clients : List (ℕ × ClientState)) (ended : Bool) (n m : ℕ) (lines : List (List ℕ)) (s : State)
    → was ≡ Some head → ended ≡ false
    → HasReadAfter was lines (parts_said opens clients ++ end_said ended n m)
    → ¬ SaysState lines s
no_end was head opens clients ended n m lines s is none has says =
    not_all says.opens opens says.clients clients ended n m none
    (says_read was head lines (parts_said opens clients ++ end_said ended n m) s is has says).all

pub no_lines : (was : Option StateHead) (lines : List (List ℕ)) (said : List StateLine) (s : State)
    → was ≡ None → HasReadAfter was lines said → ¬ SaysState lines s
no_lines was lines said s is has says =
    let before : HasReadAfter None lines said = subst (λ w. HasReadAfter w lines said) is has in
    let whole : says.first ∷ says.rest ≡ [] = sym says.parts ∙ before.0 in absurd (cc)

-- of one that has its end
module _ (was : Option StateHead) (head : StateHead) (opens : List OpenPlace)
    (clients : List (ℕ × ClientState)) (ended : Bool) (lines : List (List ℕ)) (s : State)
    (is : was ≡ Some head) (has_end : ended ≡ true)
    (has : HasReadAfter was lines (parts_said opens clients ++ end_said ended (length opens)
    (length clients)))
  where
    all_read : HasReadAfter (Some head) lines (all_said opens clients)
    all_read = subst (λ e. HasReadAfter (Some head) lines
        (parts_said opens clients ++ end_said e (length opens) (length clients))) has_end
        (subst (λ w. HasReadAfter w lines
        (parts_said opens clients ++ end_said ended (length opens) (length clients))) is has)

    pub state_read : s ≡ state_by head.epoch head.moment head.length opens clients → ClientsRise clients
        → CanResume s → SaysState lines s
    state_read state rise resumes = record {
      head = head;
      first = all_read.0;
      rest = all_read.1;
      parts = all_read.2;
      says_head = all_read.3;
      opens = opens;
      clients = clients;
      says = all_read.4;
      rise = rise;
      state = state;
      resumes = resumes;
    }

    -- what a state's lines say
    pub read_clients : (says : SaysState lines s) → ClientsRise clients
    read_clients says =
        let read = says_read (Some head) head lines (all_said opens clients) s refl all_read says in
        subst ClientsRise (parts_once says.opens opens says.clients clients read.all).1 says.rise

    pub read_state : (says : SaysState lines s)
        → s ≡ state_by head.epoch head.moment head.length opens clients
    read_state says =
        let read = says_read (Some head) head lines (all_said opens clients) s refl all_read says in
        let once = parts_once says.opens opens says.clients clients read.all in
        says.state ∙ (λ i. state_by (read.heads i).epoch (read.heads i).moment (read.heads i).length
        (once.0 i)
        (once.1 i))

-- a reader of a state's lines has read all, of clients in their order
pub is_no_whole : (was : Option StateHead) (head : StateHead) (opens : List OpenPlace)
    (clients : List (ℕ × ClientState)) (ended : Bool) (lines : List (List ℕ)) (s : State) → was ≡ Some head
    → HasReadAfter was lines (parts_said opens clients ++ end_said ended (length opens) (length clients))
    → SaysState lines s → (ended ≡ true) × ClientsRise clients
is_no_whole was head opens clients false lines s is has says =
    absurd (no_end was head opens clients false (length opens) (length clients) lines s is refl has says)
is_no_whole was head opens clients true lines s is has says =
    (refl, read_clients was head opens clients true lines s is refl has says)
