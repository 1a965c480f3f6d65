-- A table in which one client's process is another: what runs there, and what is put back.
use Rattle.rv_world.proofs.OfParts.Words.{◌≡◌, ◌≢◌, ◌∷◌, ◌∙◌, ℕ, Bool, true, false, cond, nat_eq, List, []}
use Rattle.rv_world.proofs.OfParts.Words.{Option, Some, None, option_map, refl, sym, ap, subst, arith}
use Rattle.rv_world.proofs.OfParts.Words.{option_and_then, lookup, nat_tests, none-some, Key, Call, Process}
use Rattle.rv_world.proofs.OfParts.Words.{Asking, Running, process_in, request_under, World}
use Rattle.rv_world.proofs.OfParts.Words.{OnlyChangesProcess, ClientTable, running_of, with_process}
use Rattle.rv_world.proofs.OfParts.Words.{StandsInTable}
use Rattle.std.proofs.Common.{IsSome}
use Rattle.std.specs.Map.{set_value}
use Rattle.std.proofs.lemmas.Bool.{false≢true}
use Rattle.std.proofs.lemmas.Map.Steps.{set_value_same}

-- ---- lists

pub apart_from : (client other n : ℕ) → other ≢ client → nat_eq client n ≡ true → nat_eq other n ≡ false
apart_from client other n apart is = grind (arith, nat_tests)

module _ {X : Type 0} (client : ℕ) where
  own_step : (b : Bool) (e : ℕ × X) (es rest : List (ℕ × X)) (w : X) → nat_eq client e.0 ≡ b
      → (IsSome (lookup (nat_eq client) es) → lookup (nat_eq client) rest ≡ Some w)
      → IsSome (cond b (Some e.1) (lookup (nat_eq client) es))
      → lookup (nat_eq client) (cond b ((e.0, w) ∷ es) (e ∷ rest)) ≡ Some w
  own_step true e es rest w is later there = ap (λ b. cond b (Some w) (lookup (nat_eq client) es)) is
  own_step false e es rest w is later there = ap (λ b. cond b (Some e.1) (lookup (nat_eq client) rest)) is
      ∙ later there

  -- what was written is found
  pub own_set : (es : List (ℕ × X)) (w : X) → IsSome (lookup (nat_eq client) es)
      → lookup (nat_eq client) (set_value (nat_eq client) es w) ≡ Some w
  own_set [] w there = absurd (false≢true there)
  own_set (e ∷ es) w there = own_step (nat_eq client e.0) e es (set_value (nat_eq client) es w) w refl
      (own_set es w) there

  other_step : (other : ℕ) (b : Bool) (e : ℕ × X) (es rest : List (ℕ × X)) (w : X)
      → (b ≡ true → nat_eq other e.0 ≡ false)
      → lookup (nat_eq other) rest ≡ lookup (nat_eq other) es
      → lookup (nat_eq other) (cond b ((e.0, w) ∷ es) (e ∷ rest)) ≡ lookup (nat_eq other) (e ∷ es)
  other_step other true e es rest w apart later =
      ap (λ b. cond b (Some w) (lookup (nat_eq other) es)) (apart refl)
      ∙ sym (ap (λ b. cond b (Some e.1) (lookup (nat_eq other) es)) (apart refl))
  other_step other false e es rest w apart later = ap (λ o. cond (nat_eq other e.0) (Some e.1) o) later

  -- and another client finds what it found
  pub other_set : (other : ℕ) (es : List (ℕ × X)) (w : X) → other ≢ client
      → lookup (nat_eq other) (set_value (nat_eq client) es w) ≡ lookup (nat_eq other) es
  other_set other [] w apart = refl
  other_set other (e ∷ es) w apart =
      other_step other (nat_eq client e.0) e es (set_value (nat_eq client) es w) w (apart_from client other
      e.0 apart) (other_set other es w apart)

  twice_step : (b : Bool) (e : ℕ × X) (es rest : List (ℕ × X)) (v w : X) (whole : List (ℕ × X))
      → nat_eq client e.0 ≡ b
      → set_value (nat_eq client) rest w ≡ whole
      → set_value (nat_eq client) (cond b ((e.0, v) ∷ es) (e ∷ rest)) w ≡ cond b ((e.0, w) ∷ es) (e ∷ whole)
  twice_step true e es rest v w whole is later =
      ap (λ b. cond b ((e.0, w) ∷ es) ((e.0, v) ∷ set_value (nat_eq client) es w)) is
  twice_step false e es rest v w whole is later =
      ap (λ b. cond b ((e.0, w) ∷ rest) (e ∷ set_value (nat_eq client) rest w)) is ∙ ap (λ l. e ∷ l) later

  -- of two writes the later is left
  pub twice_set : (es : List (ℕ × X)) (v w : X) → set_value (nat_eq client) (set_value (nat_eq client) es v)
      w ≡ set_value (nat_eq client) es w
  twice_set [] v w = refl
  twice_set (e ∷ es) v w = twice_step (nat_eq client e.0) e es (set_value (nat_eq client) es v) v w
      (set_value (nat_eq client) es w) refl (twice_set es v w)

-- ---- tables

some_inside : (found : Option (Option Process)) (process : Process)
    → option_and_then (λ (p : Option Process). p) found ≡ Some process → found ≡ Some (Some process)
some_inside None process is = absurd (none-some _ is)
some_inside (Some p) process is = ap (λ (o : Option Process). Some o) is

-- who runs stands in the table
pub runs_there : (table : ClientTable) (client : ℕ) (process : Process)
    → running_of table client ≡ Some process
    → lookup (nat_eq client) table.processes ≡ Some (Some process)
runs_there table client process runs = some_inside _ process runs

pub runs_stands : (table : ClientTable) (client : ℕ) (process : Process)
    → running_of table client ≡ Some process → StandsInTable table client
runs_stands table client process runs = subst (λ (o : Option (Option Process)). IsSome o)
    (sym (runs_there table client process runs)) refl

pub turned_stands : (table : ClientTable) (client : ℕ) (process : Option Process) → StandsInTable table client
    → StandsInTable (with_process table client process) client
turned_stands table client process stands =
    subst (λ (o : Option (Option Process)). IsSome o) (sym (own_set client table.processes process stands))
    refl

pub turned_own : (table : ClientTable) (client : ℕ) (process : Option Process) → StandsInTable table client
    → running_of (with_process table client process) client ≡ process
turned_own table client process stands =
    ap (λ (o : Option (Option Process)). option_and_then (λ (p : Option Process). p) o)
    (own_set client table.processes process stands)

pub turned_other : (table : ClientTable) (client other : ℕ) (process : Option Process) → other ≢ client
    → running_of (with_process table client process) other ≡ running_of table other
turned_other table client other process apart =
    ap (λ (o : Option (Option Process)). option_and_then (λ (p : Option Process). p) o)
    (other_set client other table.processes process apart)

pub turned_twice : (table : ClientTable) (client : ℕ) (one two : Option Process)
    → with_process (with_process table client one) client two ≡ with_process table client two
turned_twice table client one two =
    ap (λ (l : List (ℕ × Option Process)). record table { processes = l }) (twice_set client table.processes
    one two)

-- a process that is put back where it ran changes nothing
pub turned_back : (table : ClientTable) (client : ℕ) (process : Process)
    → running_of table client ≡ Some process
    → with_process table client (Some process) ≡ table
turned_back table client process runs =
    ap (λ (l : List (ℕ × Option Process)). record table { processes = l })
    (set_value_same (nat_eq client) table.processes (Some process) (runs_there table client process runs))

some_mapped : (taken : Option Running) → IsSome (option_map process_in taken) → IsSome taken
some_mapped None some = some
some_mapped (Some running) some = refl

-- of a client whose process runs one is taken out, and it is that
pub taken_is : (taken : Option Running) {runs : Option Process} → option_map process_in taken ≡ runs
    → IsSome runs → IsSome taken
taken_is taken is some = some_mapped taken (subst (λ (o : Option Process). IsSome o) (sym is) some)

pub taken_out : {taken : Option Running} {running : Running} {runs : Option Process} → taken ≡ Some running
    → option_map process_in taken ≡ runs → Some (process_in running) ≡ runs
taken_out found is = sym (ap (λ (o : Option Running). option_map process_in o) found) ∙ is

-- who was taken out has a place to be put back to
pub taken_stands : (table : ClientTable) (client : ℕ) {taken : ClientTable} {process : Process}
    → running_of table client ≡ Some process → taken ≡ with_process table client None
    → StandsInTable taken client
taken_stands table client {process = process} runs is =
    subst (λ (t : ClientTable). StandsInTable t client) (sym is) (turned_stands table client None
    (runs_stands table client process runs))

-- who was taken out and is put back changes nothing
pub put_back : (table : ClientTable) (client : ℕ) {taken last : ClientTable} {process : Process}
    → running_of table client ≡ Some process → taken ≡ with_process table client None
    → last ≡ with_process taken client (Some process) → last ≡ table
put_back table client {process = process} runs is put =
    put ∙ ap (λ (t : ClientTable). with_process t client (Some process)) is ∙ turned_twice table client None
    (Some process) ∙ turned_back table client process runs

-- ---- worlds

-- where the table of the one world is that of the other with another process, only this client's process
-- changes
pub only_turns : (w v : World) (old new : ClientTable) (client : ℕ) (process : Option Process)
    → w.clients ≡ old.processes → v.clients ≡ new.processes
    → new ≡ with_process old client process → StandsInTable old client → OnlyChangesProcess w v client process
only_turns w v old new client process before after is stands =
    let left : v.clients ≡ set_value (nat_eq client) old.processes process = after
    ∙ ap (λ (t : ClientTable). t.processes) is in
    record {
      own = ap (λ (l : List (ℕ × Option Process)). option_and_then (λ (p : Option Process). p)
          (lookup (nat_eq client) l)) left ∙ turned_own old client process stands;
      others = λ other apart. ap (λ (l : List (ℕ × Option Process)). option_and_then
          (λ (p : Option Process). p) (lookup (nat_eq other) l)) left
          ∙ turned_other old client other process apart
          ∙ sym (ap (λ (l : List (ℕ × Option Process)). option_and_then (λ (p : Option Process). p)
          (lookup (nat_eq other) l)) before);
    }

-- ---- requests

pub same_asking : (one : Asking) (key : Key) (call : Call) → one.key ≡ key → one.call ≡ call
    → one ≡ request_under key call
same_asking one key call keys calls = ap (λ (k : Key). request_under k one.call) keys
    ∙ ap (λ (c : Call). request_under key c) calls

-- ---- made of parts

-- two worlds with the same parts are the same
pub same_world : (v w : World) → v.earlier ≡ w.earlier → v.present ≡ w.present → v.started ≡ w.started
    → v.clients ≡ w.clients
    → v.asked ≡ w.asked → v.held ≡ w.held → v.to_server ≡ w.to_server → v.to_client ≡ w.to_client → v ≡ w
same_world v w e p s c a h m t =
    ap (λ x. record v { earlier = x }) e
    ∙ ap (λ x. record v { earlier = w.earlier; present = x }) p
    ∙ ap (λ x. record v { earlier = w.earlier; present = w.present; started = x }) s
    ∙ ap (λ x. record v { earlier = w.earlier; present = w.present; started = w.started; clients = x }) c
    ∙ ap (λ x. record w { asked = x; held = v.held; to_server = v.to_server; to_client = v.to_client }) a
    ∙ ap (λ x. record w { held = x; to_server = v.to_server; to_client = v.to_client }) h
    ∙ ap (λ x. record w { to_server = x; to_client = v.to_client }) m
    ∙ ap (λ x. record w { to_client = x }) t
