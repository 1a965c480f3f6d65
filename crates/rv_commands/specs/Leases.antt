-- Where a user leases a client number: an address and a port.
use Rattle.std.specs.Prelude.{List, ℕ, [], ◌∷◌, ◌+◌, ◌*◌, ◌/◌, ◌%◌}

-- the place of the address among those from 127.64.0.0 on, of which there are 2 ^ 22
abbrev pub lease_host : ℕ → ℕ → ℕ
lease_host user client = (user + 2654435761 * (client / 4096)) % 4194304

-- the address of this place
abbrev pub octets : ℕ → List ℕ
octets host = 127 ∷ (64 + host / 65536) ∷ ((host / 256) % 256) ∷ (host % 256) ∷ []

-- the port
abbrev pub lease_port : ℕ → ℕ
lease_port client = 61000 + client % 4096
