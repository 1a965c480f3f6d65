-- A line has one kind, by its first byte.
use Rattle.std.proofs.Common.{◌≡◌, ◌==◌, ◌++◌, ◌∙◌, ℕ, List, Option, Some, None, if◌then◌else◌, get_or, drop}
use Rattle.std.proofs.Common.{length, refl, sym, ap}
use Rattle.rv_checkpoint.specs.Kinds.{initial_of, word_before}
use Rattle.rv_checkpoint.specs.declared.kind.LineKind.{LineKind}
use Rattle.rv_checkpoint.specs.declared.kind.LineKind.TheVariants.{Lies, Waits, Fresh, Asks, Replied, Unseen}
use Rattle.rv_checkpoint.specs.declared.kind.LineKind.TheVariants.{End}

abbrev kind_by : ℕ → Option LineKind
kind_by b =
    if b == 108 then Some Lies else
    if b == 119 then Some Waits else
    if b == 102 then Some Fresh else
    if b == 97 then Some Asks else
    if b == 114 then Some Replied else
    if b == 117 then Some Unseen else
    if b == 101 then Some End else None

by_initial : (kind : LineKind) → kind_by (initial_of kind) ≡ Some kind
by_initial Lies = refl
by_initial Waits = refl
by_initial Fresh = refl
by_initial Asks = refl
by_initial Replied = refl
by_initial Unseen = refl
by_initial End = refl

pub first_byte : (kind : LineKind) (fields : List ℕ)
    → get_or (word_before kind ++ fields) 0 0 ≡ initial_of kind
first_byte Lies fields = refl
first_byte Waits fields = refl
first_byte Fresh fields = refl
first_byte Asks fields = refl
first_byte Replied fields = refl
first_byte Unseen fields = refl
first_byte End fields = refl

past_word : (kind : LineKind) (fields : List ℕ)
    → drop (length (word_before kind)) (word_before kind ++ fields) ≡ fields
past_word Lies fields = refl
past_word Waits fields = refl
past_word Fresh fields = refl
past_word Asks fields = refl
past_word Replied fields = refl
past_word Unseen fields = refl
past_word End fields = refl

-- kinds with the same first byte are one
pub same_initial : (kind other : LineKind) → initial_of kind ≡ initial_of other → kind ≡ other
same_initial kind other same = let told : Some kind ≡ Some other = sym (by_initial kind) ∙ ap kind_by same
    ∙ by_initial other in cc

-- the bytes after one word
pub same_fields : (kind : LineKind) (fields other : List ℕ)
    → word_before kind ++ fields ≡ word_before kind ++ other
    → fields ≡ other
same_fields kind fields other same = sym (past_word kind fields)
    ∙ ap (λ line. drop (length (word_before kind)) line) same ∙ past_word kind other

-- a line of two kinds
pub one_kind : (kind other : LineKind) (fields more : List ℕ)
    → word_before kind ++ fields ≡ word_before other ++ more
    → kind ≡ other
one_kind kind other fields more same = same_initial kind other
    (sym (first_byte kind fields) ∙ ap (λ line. get_or line 0 0) same ∙ first_byte other more)
