-- What follows the bytes that lack a given one: for private clauses and proofs.
use Rattle.std.specs.Prelude.{ℕ, List, ◌++◌, ◌≡◌, ◌≢◌}
use Rattle.std.specs.List.{All}

-- the bytes are some that are not this one, and then the rest
abbrev pub BehindLacking : ℕ → List ℕ → List ℕ → Type 0
BehindLacking byte bytes rest = (front : List ℕ) × (bytes ≡ front ++ rest) × All (λ b. b ≢ byte) front
