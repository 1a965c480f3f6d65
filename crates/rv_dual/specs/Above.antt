-- The first of a list of places that is above another.
use Rattle.std.specs.Prelude.{ℕ, List, Option}
use Rattle.std.specs.List.{find}
pub use Rattle.rv_session.specs.ClientOrder.{is_above}

-- the first of these places that is above another, or of them all
abbrev pub first_above : Option ℕ → List ℕ → Option ℕ
first_above after places = find (is_above after) places
