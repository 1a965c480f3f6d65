-- What was read and what went out: bytes that were gathered, and texts printed one after the other.
use Rattle.std.proofs.Common.{◌≡◌, ◌<◌, ◌≤◌, ◌+◌, ◌-◌, ℕ, List, [], ◌∷◌, ◌++◌, Option, Some, None, IfSome}
use Rattle.std.proofs.Common.{refl, sym, ap, subst, ◌∙◌, length, take, arith, append_assoc, length-append}
use Rattle.std.proofs.Math.Seq.{take-append-add}
use Rattle.std.specs.Io.KnownBytes.{Appends, append_known}
use Rattle.rv_book.specs.lines.Lines.{printed_lines}

-- what holds of the bytes that were read holds of those that the source had
pub read_bytes : (o : Option (List ℕ)) (items : List ℕ) (P : List ℕ → Type 0)
    → IfSome o (λ bytes. items ≡ bytes) → P items → IfSome o P
read_bytes None items P same has = tt
read_bytes (Some bytes) items P same has = subst P same has

-- ---- texts

pub printed_append : (bodies others : List (List ℕ))
    → printed_lines (bodies ++ others) ≡ printed_lines bodies ++ printed_lines others
printed_append [] others = refl
printed_append (body ∷ bodies) others = ap (λ rest. body ++ 10 ∷ rest) (printed_append bodies others)
    ∙ sym (append_assoc body (10 ∷ printed_lines bodies) (printed_lines others))

-- ---- what went out

-- what is gathered after the rest is promised after it
pub promised_on : (now : Option (List ℕ)) (waiting more : List ℕ)
    → Appends (append_known now waiting) (append_known now (waiting ++ more)) more
promised_on None waiting more = tt
promised_on (Some xs) waiting more = sym (append_assoc xs waiting more)

-- where all that was gathered went out, all that was promised did
pub all_out : (contents now now' : Option (List ℕ)) (gathered output : List ℕ)
    → Appends contents (append_known now gathered) output → Appends now now' gathered
    → Appends contents now' output
all_out None now now' gathered output promised out = tt
all_out (Some xs) None now' gathered output promised out = absurd promised
all_out (Some xs) (Some ys) None gathered output promised out = absurd out
all_out (Some xs) (Some ys) (Some zs) gathered output promised out = out ∙ promised

-- a front of what was gathered ends a front of what was promised
pub part_out : (contents now now' : Option (List ℕ)) (gathered output : List ℕ) (sent out : ℕ)
    → Appends contents (append_known now gathered) output → sent + length gathered ≡ length output
    → sent ≤ out → out < sent + length gathered → Appends now now' (take (out - sent) gathered)
    → Appends contents now' (take out output)
part_out None now now' gathered output sent out promised count from before part = tt
part_out (Some xs) None now' gathered output sent out promised count from before part = absurd promised
part_out (Some xs) (Some ys) None gathered output sent out promised count from before part = absurd part
part_out (Some xs) (Some ys) (Some zs) gathered output sent out promised count from before part =
    let places : length ys + (out - sent) ≡ length xs + out = omega (
      arith,
      ap length promised,
      length-append
          ys gathered,
      length-append xs output,
      count,
      from,
    ) in
    part ∙ sym (take-append-add ys gathered (out - sent)) ∙ ap (λ n. take n (ys ++ gathered)) places
    ∙ ap (take (length xs + out)) promised ∙ take-append-add xs output out

pub Appends-nothing : (contents : Option (List ℕ)) (gathered : List ℕ) → gathered ≡ []
    → Appends contents (append_known contents gathered) []
Appends-nothing None gathered none = tt
Appends-nothing (Some xs) gathered none = ap (λ g. xs ++ g) none
