-- What a crash leaves of lines that are written after a gathering.
use Rattle.std.proofs.Common.{◌≡◌, ◌∙◌, ◌∷◌, ◌++◌, ℕ, List, [], ap, append_assoc, inl, inr, refl, suc, sym}
use Rattle.std.proofs.Common.{take, zero, ⊎_elim}
use Rattle.rv_account.specs.declared.entry.Entry.{Entry}
use Rattle.rv_frame.specs.Lasting.{HasFrontAfter, LastingDevice, LeavesFront}
use Rattle.rv_engine.specs.Engines.{EngineState}
use Rattle.rv_engine.specs.Handing.{Gathers, entry_lines, unwritten}
use Rattle.rv_engine.proofs.Gathered.{lines_append}

front_of : (n : ℕ) (bytes rest : List ℕ) → (m : ℕ) × (take n bytes ≡ take m (bytes ++ rest))
front_of zero bytes rest = (0, refl)
front_of (suc n) [] rest = (0, refl)
front_of (suc n) (b ∷ bytes) rest =
    let more = front_of n bytes rest in (suc more.0, ap (λ (l : List ℕ). b ∷ l) more.1)

has_more : (held bytes rest whole left : List ℕ) → whole ≡ bytes ++ rest → HasFrontAfter held bytes left
    → HasFrontAfter held whole left
has_more held bytes rest whole left is has =
    let front = front_of has.0 bytes rest in (
      front.0,
      has.1 ∙ ap (λ (l : List ℕ). held ++ l) front.1
          ∙ ap (λ (l : List ℕ). held ++ take front.0 l) (sym is),
    )

-- what was not written before is what is gathered now, and what is left
still_unwritten : (old mid : EngineState) → Gathers old mid
    → unwritten old ≡ mid.lines ++ entry_lines mid.left
still_unwritten old mid gathers =
    let front = gathers.gathers in
    ap (λ (l : List Entry). old.lines ++ entry_lines l) front.parts
    ∙ ap (λ (l : List ℕ). old.lines ++ l) (lines_append front.front mid.left)
    ∙ sym (append_assoc old.lines (entry_lines front.front) (entry_lines mid.left))
    ∙ ap (λ (l : List ℕ). l ++ entry_lines mid.left) (sym front.gathered)

-- a front of what is gathered is one of all that wasn't written
pub leaves_front : {L : Type 0} (lasts : LastingDevice L) (before after : L) (old mid : EngineState)
    → Gathers old mid → LeavesFront lasts before mid.lines after
    → LeavesFront lasts before (unwritten old) after
leaves_front lasts before after old mid gathers leaves held contents works =
    let only = leaves held contents works in
    let more : (left : List ℕ) → HasFrontAfter held mid.lines left → HasFrontAfter held (unwritten old) left =
    λ left has. has_more held mid.lines (entry_lines mid.left) (unwritten old) left
    (still_unwritten old mid gathers) has in
    record {
      later = only.later;
      each = λ left since. more left (only.each left since);
      before = λ t left le since. ⊎_elim (λ (was : lasts.left_since before t left). inl was)
          (λ (has : HasFrontAfter held mid.lines left). inr (more left has)) (only.before t left le since);
    }
