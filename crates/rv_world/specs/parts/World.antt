-- The network world: servers, clients, and a link that loses, repeats and reorders what was sent.
use Rattle.std.specs.Prelude.{◌≡◌, ◌++◌, ◌∷◌, [], ℕ, List, Option, nat_eq, option_and_then}
use Rattle.std.specs.List.{Contains}
use Rattle.std.specs.Map.{lookup}
use Rattle.rv_text.specs.declared.message.Key.{Key}
use Rattle.rv_text.specs.declared.message.Message.{Message}
use Rattle.rv_text.specs.declared.call.Call.{Call}
use Rattle.rv_text.specs.declared.answer.Reply.{Reply}
use Rattle.rv_account.specs.Account.{Account}
use Rattle.rv_client.specs.Process.{Process}
use Rattle.rv_world.specs.declared.parts.packet.Packet.{Packet}

pub record World : Type 0 where
  -- the accounts of the epochs that were opened, in this order; the present one comes last
  pub earlier : List Account
  pub present : Account
  -- each client and incarnation that was started
  pub started : List (ℕ × ℕ)
  -- each client that was started, with its process, if one runs
  pub clients : List (ℕ × Option Process)
  -- each call that was begun, with its key
  pub asked : List (Key × Call)
  -- each reply that a client took as final, with its key
  pub held : List (Key × Reply)
  -- each message and each answer that was ever sent: the packets of each direction, numbered from 0
  pub to_server : List Message
  pub to_client : List Packet

-- an account in which nothing happened yet
abbrev pub empty_account : ℕ → Account
empty_account epoch = record { epoch = epoch; opened = 0; entries = [] }

-- the world that begins in an epoch
abbrev pub first_world : ℕ → World
first_world epoch = record {
  earlier = [];
  present = empty_account epoch;
  started = [];
  clients = [];
  asked = [];
  held = [];
  to_server = [];
  to_client = [];
}

-- the accounts of all epochs that were opened
abbrev pub accounts : World → List Account
accounts w = w.earlier ++ w.present ∷ []

-- the process of a client, if one runs
abbrev pub process_of : World → ℕ → Option Process
process_of w client = option_and_then (λ process. process) (lookup (nat_eq client) w.clients)

-- the account of an epoch
pub record IsAccountOf (w : World) (epoch : ℕ) (a : Account) : Type 0 where
  pub is_there : Contains (accounts w) a
  pub epoch_is : a.epoch ≡ epoch

-- the call was begun with this key
abbrev pub WasAsked : World → Key → Call → Type 0
WasAsked w key call = Contains w.asked (key, call)

-- a client took the reply as that of the request with this key
abbrev pub IsHeld : World → Key → Reply → Type 0
IsHeld w key reply = Contains w.held (key, reply)
