-- What each operation of the book's state finds and what it leaves, and what became of a message.
use Rattle.std.specs.Prelude.{◌≡◌, ◌⊎◌, ◌<◌, ◌≤◌, ◌+◌, [], ℕ, List, length, Option, Some, None}
use Rattle.std.specs.Prelude.{IsSome, fold, option_and_then, slice_get}
use Rattle.std.specs.FinMap.{FinMap, get, insert}
use Rattle.std.specs.Ordering.{nat_cmp}
use Rattle.rv_text.specs.declared.message.Key.{Key}
use Rattle.rv_text.specs.declared.message.Message.{Message}
use Rattle.rv_text.specs.declared.answer.Answer.{Answer}
use Rattle.rv_session.specs.declared.kept.Kept.{Kept}
use Rattle.rv_account.specs.declared.entry.Entry.{Entry}
use Rattle.rv_account.specs.Account.{Account, with_entry}
use Rattle.rv_account.specs.state.State.{State, client_at, waiting_count}
use Rattle.rv_account.specs.state.After.{due_at, following}
use Rattle.rv_account.specs.state.Agreement.{IsStateOf}
use Rattle.rv_account.specs.state.Follows.{partners_of}
use Rattle.rv_account.specs.state.Moves.{Move, StateNextAt}
use Rattle.rv_account.specs.Limits.{FitsAct}
use Rattle.rv_book.specs.reply_cache.Keeping.{AreKept, client_of, front_of, kept_again, source_of}
use Rattle.rv_book.specs.reply_cache.Table.{KeptTable}
use Rattle.rv_machine.specs.Machines.{keys_settled, state_in}
use Rattle.rv_machine.specs.Needing.{IsHello}
use Rattle.rv_machine.specs.declared.machine.Machine.{Machine}
use Rattle.rv_book.specs.declared.state.BookState.{BookState}
use Rattle.rv_book.specs.declared.verdict.KeptAnswer.{KeptAnswer}
use Rattle.rv_book.specs.Legal.{Legal, MayFollow}
use Rattle.rv_book.specs.Limits.{FitsAccount}
use Rattle.rv_book.specs.Saying.{answer_of}
use Rattle.rv_book.specs.Steps.{NextAt, Ticks, max_moment, step_moment}
use Rattle.rv_book.specs.Tables.{IsSound, account_of, state_of_machine}

-- ---- what is kept of replies

abbrev pub Kepts : Type 0
Kepts = FinMap nat_cmp (Option Kept)

-- what is kept of the reply of a client's last request, whose text or consumer is at a place
abbrev pub kept_in : State → ℕ → ℕ → Option Kept
kept_in s place client = option_and_then (λ c. kept_again place c.request) (client_at s client)

-- that of a client is kept
abbrev pub keeping : State → ℕ → Kepts → ℕ → Kepts
keeping s place kepts client = insert kepts client (kept_in s place client)

-- it is kept for the clients of these keys
abbrev pub keeping_all : State → ℕ → Kepts → List Key → Kepts
keeping_all s place kepts keys = fold (λ all key. keeping s place all key.client) kepts keys

-- each of these keys is of a client that is known, and for which something is kept
pub record AreKnown (s : State) (kepts : Kepts) (keys : List Key) : Type 0 where
  pub sessions : (i : ℕ) (key : Key) → slice_get keys i ≡ Some key → IsSome (client_at s key.client)
  pub kept : (i : ℕ) (key : Key) → slice_get keys i ≡ Some key → IsSome (get kepts key.client)

-- it is kept for a client, if there is one
abbrev pub keeping_own : Option ℕ → State → ℕ → Kepts → Kepts
keeping_own None s place kepts = kepts
keeping_own (Some client) s place kepts = keeping s place kepts client

-- the replies of an entry at a place are kept: those of the requests that it settled, and that of its own
-- client
abbrev pub kept_after : State → ℕ → Entry → List Key → Kepts → Kepts
kept_after s place e keys kepts =
    keeping_own (client_of e.act) s (source_of place (front_of s e.act) e) (keeping_all s place kepts keys)

-- the machine knows all clients that get a reply by the entry, and for each something is kept, or there is
-- room for it
pub record MayKeep (m : Machine) (kept : KeptTable) (e : Entry) : Type 0 where
  pub fits : FitsAct e.act
  pub settled : AreKnown (state_in m) kept.replies m.settled.items
  pub known : (client : ℕ) → client_of e.act ≡ Some client → IsSome (client_at (state_in m) client)
  pub place : (client : ℕ) → client_of e.act ≡ Some client → get kept.replies client ≡ None → 0 < kept.room

-- ---- an entry that the machine made

-- the machine is one entry ahead of the account, and that entry is legal there: what it settled is listed,
-- none of its replies is kept yet, and there is room for the entry and for what waits after it
pub record IsAhead (book : BookState) (e : Entry) : Type 0 where
  pub state : State
  pub legal : Legal (account_of book)
  pub stood : IsStateOf (account_of book) state
  pub follows : MayFollow (account_of book) e
  pub partners : e.partners ≡ partners_of state e.act
  pub after : state_of_machine book ≡ (following state e.moment e.act).after
  pub settles : book.machine.settled.items ≡ keys_settled (following state e.moment e.act).settles
  pub fits : FitsAccount (with_entry (account_of book) e)
  pub kept : AreKept (account_of book).entries state.clients book.kept.replies
  pub room : 1 + waiting_count (state_of_machine book) ≤ book.account.room
  pub place : (client : ℕ) → client_of e.act ≡ Some client → get book.kept.replies client ≡ None
      → 0 < book.kept.room

-- ---- room

-- a message makes no entry
abbrev pub MakesNone : State → Message → Type 0
MakesNone s m = (moment : ℕ) (move : Move) → StateNextAt s moment m move → move.entries ≡ []

-- whatever a message makes, there is room for it
pub record HasRoomFor (book : BookState) (m : Message) : Type 0 where
  pub entries : (moment : ℕ) (move : Move) → StateNextAt (state_of_machine book) moment m move
      → length move.entries + waiting_count move.after ≤ book.account.room
  pub client : IsHello m → MakesNone (state_of_machine book) m ⊎ (0 < book.kept.room)

-- nothing changed but room
pub record IsSame (old new : BookState) : Type 0 where
  pub account : account_of new ≡ account_of old
  pub machine : new.machine ≡ old.machine
  pub replies : new.kept.replies ≡ old.kept.replies

-- ---- what became of a message

-- a moment at which nothing is due comes to a sound book
pub record IsQuiet (book : BookState) (moment : ℕ) : Type 0 where
  pub sound : IsSound book
  pub not_before : (state_of_machine book).moment ≤ moment
  pub fits : moment ≤ max_moment
  pub none_due : due_at (state_of_machine book) moment ≡ []

-- what became of a message: this answer, by one step from the one account to the other
pub record Becomes (a : Account) (moment : ℕ) (m : Message) (b : Account) (said : KeptAnswer) : Type 0 where
  pub answer : Answer
  pub is : answer_of b.entries said ≡ Some answer
  pub step : NextAt a moment m b answer

-- what became of a message that came with this moment: this answer, by the time-outs that were due and one
-- step
pub record BecomesAfterTicks (a : Account) (now : ℕ) (m : Message) (b : Account) (said : KeptAnswer)
    : Type 0 where
  pub ticked : Account
  pub ticks : Ticks a (step_moment a now) ticked
  pub fits : FitsAccount ticked
  pub becomes : Becomes ticked (step_moment a now) m b said
