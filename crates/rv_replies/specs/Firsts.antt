-- The first line of each key, and whether another line of that key has another reply or repeats it.
use Rattle.std.specs.Prelude.{◌≡◌, ◌≢◌, ◌⊎◌, ◌≤◌, ℕ, List, Option, None, Some, IsSome, slice_get, unwrap_or}
use Rattle.std.specs.Map.{lookup}
use Rattle.rv_text.specs.declared.message.Key.{Key}
use Rattle.rv_replies.specs.findings.Names.{is_named}
use Rattle.rv_replies.specs.declared.findings.Told.{Told}
use Rattle.rv_replies.specs.declared.firsts.Firsts.{Firsts}
use Rattle.rv_replies.specs.declared.records.Line.{Line}
use Rattle.rv_replies.specs.declared.records.Line.TheVariants as line
use Rattle.rv_replies.specs.declared.records.Beside.{Beside}
use Rattle.rv_replies.specs.declared.records.Beside.TheVariants.{Differs, Repeats}

-- the line of this index has this reply to the key, and no line before it has one
pub record IsFirstOf (lines : List Line) (key : Key) (index : ℕ) (told : Told) : Type 0 where
  pub there : slice_get lines index ≡ Some (line.Told told)
  pub of_key : told.key ≡ key
  pub least : (i : ℕ) (other : Told) → slice_get lines i ≡ Some (line.Told other) → other.key ≡ key
      → index ≤ i

-- how a line compares with the first one of its key: it has another reply; or it repeats request and reply,
-- and isn't that first line; or neither
abbrev pub IsBeside : Told → ℕ → Told → ℕ → Option (Beside × ℕ) → Type 0
IsBeside told index own first result =
    ((own.reply ≢ told.reply) × (result ≡ Some (Differs, first)))
    ⊎ ((own ≡ told) × (first ≢ index) × (result ≡ Some (Repeats, first)))
    ⊎ ((own.reply ≡ told.reply) × (own ≡ told → first ≡ index) × (result ≡ None))

-- how the line with an index, which has this reply, compares with the first one of its key
pub record StandsBeside (lines : List Line) (index : ℕ) (told : Told) (result : Option (Beside × ℕ))
    : Type 0 where
  pub first : ℕ
  pub own : Told
  pub is_first : IsFirstOf lines told.key first own
  pub beside : IsBeside told index own first result

-- the first line of the key, as it is known
abbrev pub first_in : Firsts → Key → Option ℕ
first_in f key = lookup (is_named key) f.firsts.entries

-- this line is the key's first, if there was none; the other keys' first lines stay
pub record NotesFirst (old new : Firsts) (key : Key) (index : ℕ) : Type 0 where
  pub own : first_in new key ≡ Some (unwrap_or (first_in old key) index)
  pub others : (other : Key) → (other ≡ key → ⊥) → first_in new other ≡ first_in old other

-- the first line is known of each key that a line names
pub record KnowsFirsts (lines : List Line) (f : Firsts) : Type 0 where
  pub first : (key : Key) (index : ℕ) → first_in f key ≡ Some index
      → (told : Told) × IsFirstOf lines key index told
  pub known : (i : ℕ) (told : Told) → slice_get lines i ≡ Some (line.Told told) → IsSome (first_in f told.key)
