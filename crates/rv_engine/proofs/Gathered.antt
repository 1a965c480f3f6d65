-- Lines of the first of some entries, one gathering after another.
use Rattle.std.proofs.Common.{◌≡◌, ◌<◌, ◌≤◌, ◌+◌, ◌-◌, ◌∙◌, ℕ, List, [], ◌∷◌, ◌++◌, Bool, true, false}
use Rattle.std.proofs.Common.{append-nil, ap, arith}
use Rattle.std.proofs.Common.{append_assoc, drop, get_or, length, refl, subst, suc, sym, take, zero}
use Rattle.std.proofs.Math.Seq.{drop-nil, take-suc}
use Rattle.std.proofs.lemmas.List.{take-append-drop, take_all, take_rest}
use Rattle.rv_account.specs.declared.entry.Entry.{Entry}
use Rattle.rv_book.specs.lines.Written.{entry_text}
use Rattle.rv_engine.specs.Handing.{GathersFront, entries_kept, entry_lines}

pub lines_append : (front more : List Entry) → entry_lines (front ++ more) ≡ entry_lines front ++ entry_lines
    more
lines_append [] more = refl
lines_append (e ∷ front) more = ap (λ (l : List ℕ). entry_text e ++ 10 ∷ l) (lines_append front more)
    ∙ sym (append_assoc (entry_text e) (10 ∷ entry_lines front) (entry_lines more))

-- one line more is gathered
pub gathered_next : (start now new : List ℕ) (entries : List Entry) (i : ℕ) (e : Entry) → i < length entries
    → now ≡ start ++ entry_lines (take i entries)
    → new ≡ now ++ (entry_text (get_or entries i e) ++ 10 ∷ [])
    → new ≡ start ++ entry_lines (take (i + 1) entries)
gathered_next start now new entries i e within so_far is =
    let next : i + 1 ≡ suc i = omega arith in
    is ∙ ap (λ (l : List ℕ). l ++ (entry_text (get_or entries i e) ++ 10 ∷ [])) so_far
    ∙ append_assoc start (entry_lines (take i entries)) (entry_text (get_or entries i e) ++ 10 ∷ [])
    ∙ ap (λ (l : List ℕ). start ++ l) (sym (lines_append (take i entries) (get_or entries i e ∷ [])))
    ∙ ap (λ (l : List Entry). start ++ entry_lines l) (sym (take-suc entries i e within))
    ∙ ap (λ (n : ℕ). start ++ entry_lines (take n entries)) (sym next)

pub gathered_all : (start now : List ℕ) (entries : List Entry) (i : ℕ) → length entries ≤ i
    → now ≡ start ++ entry_lines (take i entries) → now ≡ start ++ entry_lines (take (length entries) entries)
gathered_all start now entries i past is =
    is ∙ ap (λ (l : List Entry). start ++ entry_lines l) (take_all i entries past
    ∙ sym (take_all (length entries) entries (omega arith)))

-- the first so many entries are gathered
pub gathers_first : (entries left : List Entry) (before lines : List ℕ) (count : ℕ)
    → left ≡ drop count entries
    → lines ≡ before ++ entry_lines (take count entries) → GathersFront entries before left lines
gathers_first entries left before lines count rest is = record {
  front = take count entries;
  parts = sym (take-append-drop count entries) ∙ ap (λ (l : List Entry). take count entries ++ l) (sym rest);
  gathered = is;
}

-- no entry is, and none is left
pub gathers_none : (left : List Entry) (before lines : List ℕ) → left ≡ [] → lines ≡ before
    → GathersFront [] before left lines
gathers_none left before lines none same = record {
  front = [];
  parts = sym none;
  gathered = same ∙ sym (append-nil before);
}

-- ---- one after another

pub gathers_then : (entries more left later : List Entry) (before lines after : List ℕ)
    → GathersFront entries before left lines → GathersFront (left ++ more) lines later after
    → GathersFront (entries ++ more) before later after
gathers_then entries more left later before lines after first second = record {
  front = first.front ++ second.front;
  parts = ap (λ (l : List Entry). l ++ more) first.parts ∙ append_assoc first.front left more
      ∙ ap (λ (l : List Entry). first.front ++ l) second.parts
      ∙ sym (append_assoc first.front second.front later);
  gathered = second.gathered ∙ ap (λ (l : List ℕ). l ++ entry_lines second.front) first.gathered
      ∙ append_assoc before (entry_lines first.front) (entry_lines second.front)
      ∙ ap (λ (l : List ℕ). before ++ l) (sym (lines_append first.front second.front));
}

-- the same after other lines
pub gathers_shift : (entries left : List Entry) (bytes before lines : List ℕ)
    → GathersFront entries before left lines → GathersFront entries (bytes ++ before) left (bytes ++ lines)
gathers_shift entries left bytes before lines is = record {
  front = is.front;
  parts = is.parts;
  gathered = ap (λ (l : List ℕ). bytes ++ l) is.gathered
      ∙ sym (append_assoc bytes before (entry_lines is.front));
}

-- all that were left are gathered, and then a front of others
pub gathers_behind : (entries made left : List Entry) (before lines : List ℕ)
    → GathersFront made (before ++ entry_lines entries) left lines
    → GathersFront (entries ++ made) before left lines
gathers_behind entries made left before lines later = record {
  front = entries ++ later.front;
  parts = ap (λ (l : List Entry). entries ++ l) later.parts ∙ sym (append_assoc entries later.front left);
  gathered = later.gathered ∙ append_assoc before (entry_lines entries) (entry_lines later.front)
      ∙ ap (λ (l : List ℕ). before ++ l) (sym (lines_append entries later.front));
}

-- all that were left are gathered
pub gathers_all : (entries left : List Entry) (before lines : List ℕ) → left ≡ []
    → lines ≡ before ++ entry_lines entries → GathersFront entries before left lines
gathers_all entries left before lines none is = record {
  front = entries;
  parts = sym (append-nil entries) ∙ ap (λ (l : List Entry). entries ++ l) (sym none);
  gathered = is;
}

-- where none is left all lines are gathered
pub none_left : (entries left : List Entry) (before lines : List ℕ) → GathersFront entries before left lines
    → left ≡ [] → lines ≡ before ++ entry_lines entries
none_left entries left before lines gathers none =
    gathers.gathered ∙ ap (λ (l : List Entry). before ++ entry_lines l) (sym (gathers.parts
    ∙ ap (λ (l : List Entry). gathers.front ++ l) none ∙ append-nil gathers.front))

pub kept_append : (journal : Bool) (made more : List Entry)
    → entries_kept journal (made ++ more) ≡ entries_kept journal made ++ entries_kept journal more
kept_append true made more = refl
kept_append false made more = refl

-- ---- the parts of an engine

drop_add : (entries : List Entry) (g count : ℕ) → drop (g + count) entries ≡ drop count (drop g entries)
drop_add entries zero count = ap (λ (n : ℕ). drop n entries) (omega arith)
drop_add [] (suc g) count = drop-nil (suc g + count) ∙ sym (drop-nil count)
drop_add (e ∷ entries) (suc g) count =
    let next : suc g + count ≡ suc (g + count) = omega arith in
    ap (λ (n : ℕ). drop n (e ∷ entries)) next ∙ drop_add entries g count

-- so many more of those after some are gathered
pub gathers_rest : (entries same : List Entry) (g count : ℕ) (before lines : List ℕ) → same ≡ entries
    → lines ≡ before ++ entry_lines (take count (take (length same - g) (drop g same)))
    → GathersFront (drop g entries) before (drop (g + count) entries) lines
gathers_rest entries same g count before lines own is =
    gathers_first (drop g entries) (drop (g + count) entries) before lines count (drop_add entries g count)
    (is ∙ ap (λ (l : List Entry). before ++ entry_lines (take count (take (length l - g) (drop g l)))) own
    ∙ ap (λ (l : List Entry). before ++ entry_lines (take count l)) (take_rest entries g))

-- those of an event are, where none were left
pub gathers_made : (journal account : Bool) (made left later : List Entry) (before lines : List ℕ)
    → journal ≡ account → left ≡ [] → GathersFront (entries_kept account made) before later lines
    → GathersFront (entries_kept journal made) (before ++ entry_lines left) later lines
gathers_made journal account made left later before lines keeps none gathers =
    let kept : GathersFront (entries_kept journal made) before later lines =
    subst (λ (b : Bool). GathersFront (entries_kept b made) before later lines) (sym keeps) gathers in
    subst (λ (l : List ℕ). GathersFront (entries_kept journal made) l later lines)
    (sym (ap (λ (l : List Entry). before ++ entry_lines l) none ∙ append-nil before)) kept
