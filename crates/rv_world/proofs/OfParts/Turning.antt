-- The clients' processes: what an event says of one leaves those of the others as they are.
use Rattle.rv_world.proofs.OfParts.Words.{◌≡◌, ◌∙◌, inl, inr, ℕ, Option, Some, None, sym, subst}
use Rattle.rv_world.proofs.OfParts.Words.{option_and_then, lookup, Contains, Key, Call, Reply, same_or_not}
use Rattle.rv_world.proofs.OfParts.Words.{Process, New, Idle, Outstanding, World, IsHeld, WasAsked}
use Rattle.rv_world.proofs.OfParts.Words.{process_of, OnlyChangesProcess}
use Rattle.std.specs.Prelude.{◌≢◌, List, nat_eq}
use Rattle.rv_world.specs.parts.Sound.{IsLastStart, IsProcessOf}

-- each process is that of its client
abbrev pub AreOwn : World → Type 0
AreOwn w = (client : ℕ) (process : Process) → process_of w client ≡ Some process
    → IsProcessOf w client process

-- what was started, asked and held by a client is the same in both worlds, as far as its process goes
pub record SameFor (w v : World) (client : ℕ) : Type 0 where
  pub started_on : (n : ℕ) → Contains w.started (client, n) → Contains v.started (client, n)
  pub started_back : (n : ℕ) → Contains v.started (client, n) → Contains w.started (client, n)
  pub asked_on : (key : Key) (call : Call) → WasAsked w key call → WasAsked v key call
  pub asked_back : (key : Key) (call : Call) → key.client ≡ client → WasAsked v key call → WasAsked w key call
  pub held_back : (key : Key) (told : Reply) → key.client ≡ client → IsHeld v key told → IsHeld w key told

pub same_for : (w v : World) (client : ℕ) → v.started ≡ w.started → v.asked ≡ w.asked → v.held ≡ w.held
    → SameFor w v client
same_for w v client started asked held = record {
  started_on = λ n there. subst (λ list. Contains list (client, n)) (sym started) there;
  started_back = λ n there. subst (λ list. Contains list (client, n)) started there;
  asked_on = λ key call there. subst (λ list. Contains list (key, call)) (sym asked) there;
  asked_back = λ key call own there. subst (λ list. Contains list (key, call)) asked there;
  held_back = λ key told own there. subst (λ list. Contains list (key, told)) held there;
}

still_last : (w v : World) (client incarnation : ℕ) → SameFor w v client → IsLastStart w client incarnation
    → IsLastStart v client incarnation
still_last w v client incarnation same last = record {
  there = same.started_on incarnation last.there;
  greatest = λ other there. last.greatest other (same.started_back other there);
}

pub still_own : (w v : World) (client : ℕ) (process : Process) → SameFor w v client
    → IsProcessOf w client process → IsProcessOf v client process
still_own w v client (New starting) same own = record {
  client_is = own.client_is;
  last_start = still_last w v client starting.incarnation same own.last_start;
  nothing = λ key call asked is. own.nothing key call (same.asked_back key call is.0 asked) is;
}
still_own w v client (Idle None) same own = tt
still_own w v client (Idle (Some next)) same own = record {
  client_is = own.client_is;
  last_start = still_last w v client next.incarnation same own.last_start;
  below = λ key call asked is. own.below key call (same.asked_back key call (is.0 ∙ own.client_is) asked) is;
}
still_own w v client (Outstanding asking) same own = record {
  client_is = own.client_is;
  last_start = still_last w v client asking.key.incarnation same own.last_start;
  asked = same.asked_on asking.key asking.call own.asked;
  last = λ key call asked is. own.last key call (same.asked_back key call (is.0 ∙ own.client_is) asked) is;
  not_held = λ told held. own.not_held told (same.held_back asking.key told own.client_is held);
}

-- of the processes one alone is another, and is its client's own
pub turned_own : (w v : World) (client : ℕ) (process : Option Process) → AreOwn w
    → OnlyChangesProcess w v client process → ((other : ℕ) → other ≢ client → SameFor w v other)
    → ((turned : Process) → process ≡ Some turned → IsProcessOf v client turned) → AreOwn v
turned_own w v client process own changes same turned other is there = elim (same_or_not other client) [
  | inl equal ↦
      let here : process_of v client ≡ Some is = subst (λ c. process_of v c ≡ Some is) equal there in
      subst (λ c. IsProcessOf v c is) (sym equal) (turned is (sym changes.own ∙ here))
  | inr differ ↦ still_own w v other is (same other differ) (own other is (sym (changes.others other differ)
      ∙ there))
]

-- the same, where no process is another
pub all_own : (w v : World) → AreOwn w → v.clients ≡ w.clients → v.started ≡ w.started → v.asked ≡ w.asked
    → v.held ≡ w.held → AreOwn v
all_own w v own clients started asked held client process there =
    still_own w v client process (same_for w v client started asked held)
    (own client process (subst (λ (list : List (ℕ × Option Process)). process_in_list list client ≡ Some
    process) clients there))
  where
    process_in_list : List (ℕ × Option Process) → ℕ → Option Process
    process_in_list list client = option_and_then (λ process. process) (lookup (nat_eq client) list)
