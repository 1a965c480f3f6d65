-- The table of clients: each one's process, and the greatest incarnation in which it was started.
use Rattle.std.specs.Prelude.{◌≡◌, ◌≢◌, ◌≤◌, ℕ, List, Option, Some, None, nat_eq, map, option_map}
use Rattle.std.specs.Prelude.{IsSome, option_and_then}
use Rattle.std.specs.List.{Contains}
use Rattle.std.specs.Map.{lookup, set_value}
use Rattle.rv_text.specs.declared.message.Message.{Message}
use Rattle.rv_client.specs.Process.{Process, Asking, Outstanding}
use Rattle.rv_world.specs.parts.Events.{IsAsking, IsReady}
use Rattle.rv_world.specs.parts.Processes.{process_in}
use Rattle.rv_world.specs.declared.parts.clients.Client.{Client}

-- each client's process, and each one's greatest incarnation, read off what the table keeps
abbrev pub processes_in : List (ℕ × Client) → List (ℕ × Option Process)
processes_in clients = map (λ entry. (entry.0, option_map process_in entry.1.process)) clients

abbrev pub newest_in : List (ℕ × Client) → List (ℕ × ℕ)
newest_in clients = map (λ entry. (entry.0, entry.1.newest)) clients

pub record ClientTable : Type 0 where
  pub processes : List (ℕ × Option Process)
  pub newest : List (ℕ × ℕ)

-- the client's process, if one runs
abbrev pub running_of : ClientTable → ℕ → Option Process
running_of table client = option_and_then (λ process. process) (lookup (nat_eq client) table.processes)

-- the client's process is outstanding; the client's process has a next key
abbrev pub IsAskingIn : ClientTable → ℕ → Type 0
IsAskingIn table client = (process : Process) × (running_of table client ≡ Some process) × IsAsking process

abbrev pub IsReadyIn : ClientTable → ℕ → Type 0
IsReadyIn table client = (process : Process) × (running_of table client ≡ Some process) × IsReady process

-- the client's process is outstanding, and this is what it says
pub record SaysIn (table : ClientTable) (client : ℕ) (says : Asking → Message) (message : Message)
    : Type 0 where
  pub asking : Asking
  pub outstanding : running_of table client ≡ Some (Outstanding asking)
  pub is : message ≡ says asking

-- the client is in the table
abbrev pub StandsInTable : ClientTable → ℕ → Type 0
StandsInTable table client = IsSome (lookup (nat_eq client) table.processes)

-- the client's greatest incarnation, if it was started
abbrev pub newest_of : ClientTable → ℕ → Option ℕ
newest_of table client = lookup (nat_eq client) table.newest

-- the table with another process for a client that is in it
abbrev pub with_process : ClientTable → ℕ → Option Process → ClientTable
with_process table client process =
    record table { processes = set_value (nat_eq client) table.processes process }

-- the client has this process and this greatest incarnation, and all others have what they had
pub record EntersClient (old new : ClientTable) (client incarnation : ℕ) (process : Process) : Type 0 where
  pub own : running_of new client ≡ Some process
  pub others : (other : ℕ) → other ≢ client → running_of new other ≡ running_of old other
  pub newest : newest_of new client ≡ Some incarnation
  pub other_newest : (other : ℕ) → other ≢ client → newest_of new other ≡ newest_of old other

-- the client was last started in this incarnation
pub record IsGreatest (started : List (ℕ × ℕ)) (client newest : ℕ) : Type 0 where
  pub there : Contains started (client, newest)
  pub greatest : (other : ℕ) → Contains started (client, other) → other ≤ newest

-- these are the clients that were started, each with its last incarnation
pub record AreNewest (newest started : List (ℕ × ℕ)) : Type 0 where
  pub known : (client last : ℕ) → lookup (nat_eq client) newest ≡ Some last → IsGreatest started client last
  pub unknown : (client any : ℕ) → lookup (nat_eq client) newest ≡ None → ¬ Contains started (client, any)
