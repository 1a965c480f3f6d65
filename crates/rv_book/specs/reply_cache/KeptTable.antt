-- A table of what is kept of each client's reply, and the room for more clients.
use Rattle.std.specs.Prelude.{ℕ, Option, refl}
use Rattle.std.specs.Ordering.{nat_cmp}
use Rattle.std.specs.Coded.{Coded, code_by, coded×, coded_ℕ, coded_option}
use Rattle.std.specs.FinMap.{FinMap}
use Rattle.std.specs.FinMap as map
use Rattle.rv_session.specs.declared.kept.Kept.{Kept}

pub record KeptTable : Type 0 where
  -- for each client what is kept of its last request's reply, if it has one
  pub replies : FinMap nat_cmp (Option Kept)
  -- how many more clients can enter before the table takes memory
  pub room : ℕ

-- a table is stored as its fields
abbrev pub kept_code : Coded Kept → Coded KeptTable
kept_code code = code_by (FinMap nat_cmp (Option Kept) × ℕ)
    (coded× (map.code coded_ℕ (coded_option code)) coded_ℕ)
    (λ t. (t.replies, t.room))
    (λ p. record { replies = p.0; room = p.1 }) (λ _. refl)
