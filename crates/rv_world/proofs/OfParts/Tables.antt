-- The table of clients as lists: what a look-up finds there, and what a write at a client leaves of it.
use Rattle.rv_world.proofs.OfParts.Words.{◌≡◌, ◌≢◌, ◌∷◌, ◌∙◌, ℕ, Bool, true, false, cond, nat_eq, List, []}
use Rattle.rv_world.proofs.OfParts.Words.{Option, Some, None, option_map, refl, sym, ap, subst, arith}
use Rattle.rv_world.proofs.OfParts.Words.{option_and_then, lookup, nat_tests, Process, process_in}
use Rattle.rv_world.proofs.OfParts.Words.{ClientTable, running_of, with_process, StandsInTable, EntersClient}
use Rattle.rv_world.proofs.OfParts.Words.{Client, Running}
use Rattle.std.proofs.Common.{map, Bor, IsSome}
use Rattle.std.specs.Option.{option_copied}
use Rattle.std.specs.Map.{set_value}
use Rattle.std.proofs.lemmas.Bool.{false≢true}
use Rattle.std.proofs.lemmas.Map.Made.{lookup-map_values}
use Rattle.std.proofs.lemmas.Map.Steps.{set_value_same}
use Rattle.rv_world.specs.parts.Table.{processes_in, newest_in, newest_of}

abbrev pub table_of : List (ℕ × Client) → ClientTable
table_of clients = record { processes = processes_in clients; newest = newest_in clients }

abbrev pub kept_process : Client → Option Process
kept_process client = option_map process_in client.process

pub newest_found : (clients : List (ℕ × Client)) (client : ℕ)
    → newest_of (table_of clients) client ≡ option_map (λ (c : Client). c.newest) (lookup (nat_eq client)
    clients)
newest_found clients client = lookup-map_values (λ (c : Client). c.newest) (nat_eq client) clients

flat : (found : Option Client)
    → option_and_then (λ (process : Option Process). process) (option_map kept_process found) ≡
    option_and_then kept_process found
flat None = refl
flat (Some c) = refl

pub running_found : (clients : List (ℕ × Client)) (client : ℕ)
    → running_of (table_of clients) client ≡ option_and_then kept_process (lookup (nat_eq client) clients)
running_found clients client =
    ap (λ (o : Option (Option Process)). option_and_then (λ (process : Option Process). process) o)
    (lookup-map_values kept_process (nat_eq client) clients)
    ∙ flat (lookup (nat_eq client) clients)

pub mapped_copied : (lent : Option (Bor Running))
    → option_map process_in (option_copied lent) ≡ option_map (λ (process : Bor Running). process_in
    process.now) lent
mapped_copied None = refl
mapped_copied (Some r) = refl

-- who stands in the table stands in the list
pub stands_found : (clients : List (ℕ × Client)) (client : ℕ) → StandsInTable (table_of clients) client
    → None ≢ lookup (nat_eq client) clients
stands_found clients client stands none =
    let read : lookup (nat_eq client) (processes_in clients) ≡ None = lookup-map_values kept_process
    (nat_eq client) clients ∙ ap (λ (o : Option Client). option_map kept_process o) (sym none) in
    false≢true (subst (λ (o : Option (Option Process)). IsSome o) read stands)

-- ---- writes

module _ {K X Y : Type 0} (g : X → Y) (test : K → Bool) where
  set_step : (b : Bool) (e : K × X) (es rest : List (K × X)) (w : X) (mapped : List (K × Y))
      → map (λ (f : K × X). (f.0, g f.1)) rest ≡ mapped
      → map (λ (f : K × X). (f.0, g f.1)) (cond b ((e.0, w) ∷ es) (e ∷ rest))
      ≡ cond b ((e.0, g w) ∷ map (λ (f : K × X). (f.0, g f.1)) es) ((e.0, g e.1) ∷ mapped)
  set_step true e es rest w mapped same = refl
  set_step false e es rest w mapped same = ap (λ (l : List (K × Y)). (e.0, g e.1) ∷ l) same

  -- a write and then a map of the values is a map and then a write
  pub map_set : (es : List (K × X)) (w : X) → map (λ (f : K × X). (f.0, g f.1)) (set_value test es w)
      ≡ set_value test (map (λ (f : K × X). (f.0, g f.1)) es) (g w)
  map_set [] w = refl
  map_set (e ∷ es) w = set_step (test e.0) e es (set_value test es w) w _ (map_set es w)

-- a client's process is replaced, and its greatest incarnation stays
pub table_set : (clients : List (ℕ × Client)) (client : ℕ) (old : Client) (process : Option Running)
    → lookup (nat_eq client) clients ≡ Some old
    → table_of (set_value (nat_eq client) clients (record { newest = old.newest; process = process }))
    ≡ with_process (table_of clients) client (option_map process_in process)
table_set clients client old process there =
    let own : lookup (nat_eq client) (newest_in clients) ≡ Some old.newest = newest_found clients client
    ∙ ap (λ (o : Option Client). option_map (λ (c : Client). c.newest) o) there in
    let newest : newest_in (set_value (nat_eq client) clients (record {
      newest = old.newest;
      process =
          process;
    })) ≡ newest_in clients =
    map_set (λ (c : Client). c.newest) (nat_eq client) clients _ ∙ set_value_same (nat_eq client)
    (newest_in clients) old.newest own in
    let processes : processes_in (set_value (nat_eq client) clients (record {
      newest = old.newest;
      process =
          process;
    })) ≡ set_value (nat_eq client) (processes_in clients) (option_map process_in process) =
    map_set kept_process (nat_eq client) clients _ in
    cc (newest, processes)

-- ---- insertions

other_key : (client other : ℕ) → other ≢ client → nat_eq client other ≡ false
other_key client other apart = grind (arith, nat_tests)

-- a client that is entered has what it is entered with, and the others what they had
pub entered : (old new : List (ℕ × Client)) (client newest : ℕ) (process : Running)
    → lookup (nat_eq client) new ≡ Some (record { newest = newest; process = Some process })
    → ((other : ℕ) → nat_eq client other ≡ false → lookup (nat_eq other) new ≡ lookup (nat_eq other) old)
    → EntersClient (table_of old) (table_of new) client newest (process_in process)
entered old new client newest process own others = record {
  own = running_found new client ∙ ap (λ (o : Option Client). option_and_then kept_process o) own;
  others = λ other apart. running_found new other
      ∙ ap (λ (o : Option Client). option_and_then kept_process o)
      (others other (other_key client other apart)) ∙ sym (running_found old other);
  newest = newest_found new client ∙ ap (λ (o : Option Client). option_map (λ (c : Client). c.newest) o) own;
  other_newest = λ other apart. newest_found new other
      ∙ ap (λ (o : Option Client). option_map (λ (c : Client). c.newest) o)
      (others other (other_key client other apart)) ∙ sym (newest_found old other);
}
