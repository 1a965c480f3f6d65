-- Where what the machine made of a message leads: nowhere, or to one entry that the account lacks.
use Rattle.std.proofs.Common.{◌≡◌, ◌⊎◌, ◌<◌, ◌≤◌, ◌∷◌, ◌++◌, ◌∙◌, inl, inr, ℕ, List, [], length, Some}
use Rattle.std.proofs.Common.{None, refl}
use Rattle.std.proofs.Common.{sym, ap, subst, arith, append-nil, option_to_list}
use Rattle.std.proofs.lemmas.Option.{none-some, same_Some}
use Rattle.std.specs.FinMap.{get}
use Rattle.rv_text.specs.declared.answer.Answer.{Answer}
use Rattle.rv_text.specs.declared.answer.Answer.TheVariants.{Refused}
use Rattle.rv_text.specs.declared.answer.Refusal.TheVariants.{NoMemory}
use Rattle.rv_text.specs.declared.message.Key.{Key}
use Rattle.rv_text.specs.declared.message.Message.{Message}
use Rattle.rv_text.specs.declared.message.Message.TheVariants.{Cancel, Hello, Request}
use Rattle.rv_text.specs.Limits.{FitsMessage}
use Rattle.rv_account.specs.declared.entry.Entry.{Entry}
use Rattle.rv_account.specs.Account.{Account, entry, key_in, with_entry}
use Rattle.rv_account.specs.Limits.{FitsAct, FitsEntry, max_moment}
use Rattle.rv_account.specs.rules.Legal.{Legal, MayFollow}
use Rattle.rv_account.specs.rules.Sessions.{SaidHello}
use Rattle.rv_account.specs.rules.Limits.{FitsAccount}
use Rattle.rv_account.specs.rules.StepLimits.{StepLimits, book_limits, max_clients, max_entries}
use Rattle.rv_account.specs.rules.Steps.{NextAt}
use Rattle.rv_account.proofs.OfRules.FewClients.{ClientsAtMost}
use Rattle.rv_account.proofs.OfRules.Legality.{follows_itself}
use Rattle.rv_account.proofs.OfRules.RoomKept.{RoomAtMost, clients_behind, room_behind}
use Rattle.rv_account.specs.state.Agreement.{IsStateOf}
use Rattle.rv_account.specs.state.After.{Following, following}
use Rattle.rv_account.specs.state.Follows.{partners_of}
use Rattle.rv_account.specs.state.Moves.{Move, StateNextAt, staying}
use Rattle.rv_account.specs.state.State.{State, client_at, waiting_count}
use Rattle.rv_account.proofs.OfState.KnownClients.{has_client}
use Rattle.rv_account.proofs.OfState.Leading.{IsMoveTo}
use Rattle.rv_account.proofs.OfState.StepsBoth.{next_at_from}
use Rattle.rv_book.specs.reply_cache.Keeping.{AreKept, client_of}
use Rattle.rv_machine.specs.Machines.{Says, keys_settled, state_in}
use Rattle.rv_machine.specs.Needing.{IsHello, act_of}
use Rattle.rv_machine.specs.Stepping.{IsHearing}
use Rattle.rv_machine.specs.declared.machine.Machine.{Machine}
use Rattle.rv_machine.specs.declared.steps.Heard.{Heard as HeardOf}
use Rattle.rv_machine.proofs.RoomTaken.{move_kinds}
use Rattle.rv_book.specs.declared.state.BookState.{BookState}
use Rattle.rv_book.specs.declared.verdict.KeptAnswer.{KeptAnswer}
use Rattle.rv_book.specs.declared.verdict.KeptAnswer as said
use Rattle.rv_book.specs.Operations.{Becomes, HasRoomFor, IsAhead, IsQuiet, MakesNone}
use Rattle.rv_book.specs.Saying.{answer_of}
use Rattle.rv_book.specs.Tables.{IsSound, account_of, state_of_machine}
use Rattle.rv_book.proofs.KnownToMachine.{has_said}
use Rattle.rv_book.proofs.FitsBehind.{act_of_fits, fits_behind}

-- what a step becomes by what is said of it
becomes_said : (a b : Account) (moment : ℕ) (m : Message) (x : Answer) (said : KeptAnswer)
    → NextAt a moment m b x → answer_of b.entries said ≡ Some x → Becomes a moment m b said
becomes_said a b moment m x said next is = record { answer = x; is = is; step = next }

-- an account is its epoch, its opening moment and its entries
pub same_account : (a b : Account) → b.epoch ≡ a.epoch → b.opened ≡ a.opened → b.entries ≡ a.entries → b ≡ a
same_account a b epoch opened entries =
    λ i. record { epoch = epoch i; opened = opened i; entries = entries i }

-- the book with another machine
abbrev pub with_machine : BookState → Machine → BookState
with_machine book m = record { account = book.account; machine = m; kept = book.kept }

module _ (book : BookState) (moment : ℕ) (quiet : IsQuiet book moment) (m : Message) where
  abbrev a : Account
  a = account_of book

  abbrev s : State
  s = state_of_machine book

  -- ---- a move that the machine made

  module _ (move : Move) (steps : StateNextAt s moment m move) where
    -- where it leads
    pub record Leads : Type 0 where
      pub after : Account
      pub next : NextAt a moment m after move.answer
      pub epoch : after.epoch ≡ a.epoch
      pub opened : after.opened ≡ a.opened
      pub entries : after.entries ≡ a.entries ++ move.entries
      pub legal : Legal after
      pub state : IsStateOf after move.after

    pub leads : Leads
    leads =
        let done = next_at_from book_limits a s moment quiet.sound.legal quiet.sound.stands quiet.not_before
        quiet.none_due move m steps in
        let is : IsMoveTo a done.what.0 done.what.1 move = done.wanted in
        record {
          after = done.what.0;
          next = subst (λ (x : Answer). NextAt a moment m done.what.0 x) is.answer done.how;
          epoch = is.epoch;
          opened = is.opened;
          entries = is.entries;
          legal = is.legal;
          state = is.state;
        }

    -- with no entry
    pub stays_there : move.entries ≡ [] → NextAt a moment m a move.answer
    stays_there none =
        let same : leads.after ≡ a = same_account a leads.after leads.epoch leads.opened
        (leads.entries ∙ ap (λ (l : List Entry). a.entries ++ l) none ∙ append-nil a.entries) in
        subst (λ (x : Account). NextAt a moment m x move.answer) same leads.next

    some_entry : (l : List Entry) (e : Entry) → l ≡ [] → l ≡ e ∷ [] → ⊥
    some_entry l e none some =
        let zero : length l ≡ 0 = ap length none in
        let one : length l ≡ 1 = ap length some in
        omega (arith, zero, one)

    pub stays_so : move.entries ≡ [] → move.after ≡ s
    stays_so none = elim (move_kinds book_limits s moment m move steps) [
      | inl stays ↦ ap (λ (x : Move). x.after) stays
      | inr enters ↦ absurd (some_entry move.entries _ none (ap (λ (x : Move). x.entries) enters))
    ]

    -- with an entry
    abbrev own : Entry
    own = entry moment (act_of m) (partners_of s (act_of m))

    pub record Enters (e : Entry) : Type 0 where
      pub is : own ≡ e
      pub after : move.after ≡ (following s moment (act_of m)).after
      pub settles : move.settles ≡ (following s moment (act_of m)).settles

    head_is : (x y : Entry) → x ∷ [] ≡ y ∷ [] → x ≡ y
    head_is x y same = cc

    pub enters : (e : Entry) → move.entries ≡ e ∷ [] → Enters e
    enters e some = elim (move_kinds book_limits s moment m move steps) [
      | inl stays ↦ absurd (some_entry move.entries e (ap (λ (x : Move). x.entries) stays) some)
      | inr does ↦ record {
        is = head_is own e (sym (ap (λ (x : Move). x.entries) does) ∙ some);
        after = ap (λ (x : Move). x.after) does;
        settles = ap (λ (x : Move). x.settles) does;
      }
    ]

    pub goes_there : (e : Entry) → move.entries ≡ e ∷ [] → leads.after ≡ with_entry a e
    goes_there e some =
        same_account (with_entry a e) leads.after leads.epoch leads.opened
        (leads.entries ∙ ap (λ (l : List Entry). a.entries ++ l) some)

  -- a message that may lack memory is refused so
  pub becomes_lacking : StateNextAt s moment m (staying s (Refused NoMemory))
      → Becomes a moment m a (said.TheVariants.Refused NoMemory)
  becomes_lacking steps =
      becomes_said a a moment m (Refused NoMemory) (said.TheVariants.Refused NoMemory)
      (stays_there (staying s (Refused NoMemory)) steps refl) refl

  -- ---- the book with the machine after the message

  module _ (new : Machine) (made : HeardOf)
      (limits : StepLimits) (is_book : limits ≡ book_limits)
      (under : IsHearing limits book.machine new moment m made) where
    abbrev heard : IsHearing book_limits book.machine new moment m made
    heard = subst (λ (l : StepLimits). IsHearing l book.machine new moment m made) is_book under

    abbrev move : Move
    move = heard.move

    -- the machine made no entry
    module _ (none : made.entry ≡ None) where
      no_entries : move.entries ≡ []
      no_entries = sym heard.makes ∙ ap option_to_list none

      still : state_in new ≡ s
      still = heard.after ∙ stays_so move heard.moves no_entries

      pub still_sound : IsSound (with_machine book new)
      still_sound = record {
        legal = quiet.sound.legal;
        fits = quiet.sound.fits;
        stands = subst (IsStateOf a) (sym still) quiet.sound.stands;
        kept = subst (λ (t : State). AreKept a.entries t.clients book.kept.replies) (sym still)
            quiet.sound.kept;
        spare = subst (λ (t : State). waiting_count t ≤ book.account.room) (sym still) quiet.sound.spare;
      }

      pub becomes_still : (said : KeptAnswer) → ((x : Answer) → Says (state_in new) made.said x
          → answer_of a.entries said ≡ Some x) → Becomes a moment m a said
      becomes_still said tells =
          becomes_said a a moment m move.answer said (stays_there move heard.moves no_entries)
          (tells move.answer heard.says)

    -- it made one
    module _ (e : Entry) (some : made.entry ≡ Some e) (fits : FitsMessage m) (room : HasRoomFor book m) where
      one_entry : move.entries ≡ e ∷ []
      one_entry = sym heard.makes ∙ ap option_to_list some

      abbrev led : Leads move heard.moves
      led = leads move heard.moves

      abbrev entered : Enters move heard.moves e
      entered = enters move heard.moves e one_entry

      there : led.after ≡ with_entry a e
      there = goes_there move heard.moves e one_entry

      legal_there : Legal (with_entry a e)
      legal_there = subst Legal there led.legal

      state_there : IsStateOf (with_entry a e) (state_in new)
      state_there = subst (λ (x : Account). IsStateOf x (state_in new)) there
          (subst (IsStateOf led.after) (sym heard.after) led.state)

      act_is : e.act ≡ act_of m
      act_is = ap (λ (x : Entry). x.act) (sym entered.is)

      moment_is : e.moment ≡ moment
      moment_is = ap (λ (x : Entry). x.moment) (sym entered.is)

      own_fits : FitsEntry e
      own_fits = (
        subst (λ n. n ≤ max_moment) (sym moment_is) quiet.fits,
        subst FitsAct (sym act_is) (act_of_fits m fits),
      )

      account_fits : FitsAccount (with_entry a e)
      account_fits =
          fits_behind a e quiet.sound.fits own_fits
          (subst (λ (x : Account). RoomAtMost max_entries x.entries) there
          (room_behind book_limits max_entries a led.after moment m move.answer led.next (omega arith)
          quiet.sound.fits.room))
          (subst (λ (x : Account). ClientsAtMost max_clients x.entries) there
          (clients_behind book_limits max_clients a led.after moment m move.answer led.next (omega arith)
          quiet.sound.fits.clients))

      follows_so : (following s moment (act_of m)) ≡ (following s e.moment e.act)
      follows_so = ap (λ (x : Entry). following s x.moment x.act) entered.is

      -- a client of which nothing is kept is a new one, for which there is room
      known_before : (client : ℕ) → SaidHello a.entries client → get book.kept.replies client ≡ None → ⊥
      known_before client said none =
          let known = has_client a client (client_at s client) (quiet.sound.stands.clients client) said in
          none-some _ (sym none ∙ (quiet.sound.kept client known.0 known.1).there)

      follows_it : MayFollow a e
      follows_it = follows_itself a e legal_there

      named_before : (key : Key) (client : ℕ) → key_in e.act ≡ Some key → key.client ≡ client
          → get book.kept.replies client ≡ None → ⊥
      named_before key client is same =
          known_before client (subst (SaidHello a.entries) same
          (has_said a.entries key.client key.incarnation (follows_it.numbers.of_session key is).1))

      place_for : (n : Message) → e.act ≡ act_of n
          → (IsHello n → MakesNone s m ⊎ (0 < book.kept.room)) → (MakesNone s m → ⊥)
          → (client : ℕ) → client_of e.act ≡ Some client → get book.kept.replies client ≡ None
          → 0 < book.kept.room
      place_for (Hello c i v) is room_of some client its none = elim (room_of tt) [
        | inl makes_none ↦ absurd (some makes_none)
        | inr more ↦ more
      ]
      place_for (Request key call) is room_of some client its none =
          absurd (named_before key client (ap key_in is) (same_Some _ _ (sym (ap client_of is) ∙ its)) none)
      place_for (Cancel key) is room_of some client its none =
          absurd (named_before key client (ap key_in is) (same_Some _ _ (sym (ap client_of is) ∙ its)) none)

      pub ahead : IsAhead (with_machine book new) e
      ahead = record {
        state = s;
        legal = quiet.sound.legal;
        stood = quiet.sound.stands;
        follows = follows_itself a e legal_there;
        partners = ap (λ (x : Entry). x.partners) (sym entered.is) ∙ ap (partners_of s) (sym act_is);
        after = heard.after ∙ entered.after ∙ ap (λ (x : Following). x.after) follows_so;
        settles = heard.settles
            ∙ ap keys_settled (entered.settles ∙ ap (λ (x : Following). x.settles) follows_so);
        fits = account_fits;
        kept = quiet.sound.kept;
        room =
            let enough = room.entries moment move heard.moves in
            let one : length move.entries ≡ 1 = ap length one_entry in
            let same : waiting_count (state_in new) ≡ waiting_count move.after =
            ap waiting_count heard.after in
            omega (arith, enough, one, same);
        place = place_for m act_is (room.client) (λ none. some_entry move heard.moves move.entries e
            (none moment move heard.moves) one_entry);
      }

      pub next_there : NextAt a moment m (with_entry a e) move.answer
      next_there = subst (λ (x : Account). NextAt a moment m x move.answer) there led.next

      -- once it is recorded, and what is said of it is by what is kept then
      pub becomes_there : (then : BookState) → account_of then ≡ with_entry a e → then.machine ≡ new
          → (said : KeptAnswer) → ((x : Answer) → Says (state_of_machine then) made.said x
          → answer_of (account_of then).entries said ≡ Some x) → Becomes a moment m (account_of then) said
      becomes_there then is same said tells =
          becomes_said a (account_of then) moment m move.answer said
          (subst (λ (x : Account). NextAt a moment m x move.answer) (sym is) next_there)
          (tells move.answer
          (subst (λ (n : Machine). Says (state_in n) made.said move.answer) (sym same) heard.says))
