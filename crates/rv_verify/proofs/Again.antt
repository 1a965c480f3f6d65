-- What the entries of a second reading tell.
use Rattle.std.proofs.Common.{◌≡◌, ◌<◌, ◌≤◌, ◌+◌, ◌∷◌, ◌∙◌, ℕ, zero, suc, List, [], Bool}
use Rattle.std.proofs.Common.{true}
use Rattle.std.proofs.Common.{false, Option, Some, None, inl, inr, length, take, refl, sym, ap, subst, arith}
use Rattle.std.proofs.Common.{slice_get, length-take}
use Rattle.std.proofs.Common.{Result, Ok, Err, IfOk, IsOk}
use Rattle.std.specs.List.{AllZip}
use Rattle.std.proofs.lemmas.Bool.{cases_lt}
use Rattle.rv_account.specs.declared.entry.Entry.{Entry}
use Rattle.rv_account.specs.Account.{call_in}
use Rattle.rv_account.proofs.OfRules.Places.{get-take, within}
use Rattle.rv_text.specs.Calls.{side_of}
use Rattle.rv_text.specs.declared.call.Call.{Call}
use Rattle.rv_audit.specs.declared.rule.Rule.{Rule}
use Rattle.rv_audit.specs.declared.rule.Rule.TheVariants.{P1}
use Rattle.rv_book.specs.lines.Lines.{lines}
use Rattle.rv_book.specs.declared.lines.fault.LineFault.{LineFault}
use Rattle.rv_book.proofs.OfLines.Cutting.{lines_cut, lines_last}
use Rattle.rv_book.proofs.OfLines.Entering.{entry_one}
use Rattle.rv_text.specs.Members.{max_identifier}
use Rattle.rv_verify.specs.Naming.{AreReadAs, BeginAlike, HaveMet, MeetsOne}
use Rattle.rv_verify.specs.Naming.{rule_by_side}
use Rattle.rv_verify.specs.Reading.{HasNextPart, IsPiece}
use Rattle.rv_verify.specs.Verdicts.{AuditTells, ReadsLongEntry, TellsFaultAt, TellsNotOpen}
use Rattle.rv_verify.specs.declared.parts.NextPart.TheVariants as next
use Rattle.rv_verify.proofs.Meeting.{told_met, told_unmet}

pub same_some : {X : Type 0} (x y : X) → Some x ≡ Some y → x ≡ y
same_some x y same = cc

pub none_some : {X : Type 0} (x : X) → None ≡ Some x → ⊥
none_some x same = cc

-- ---- how far it is

-- none of the first so many entries met a named place
abbrev pub NoneMet : List ℕ → List Entry → ℕ → Type 0
NoneMet named es i = (r : ℕ) (x : Entry) → r < i → slice_get es r ≡ Some x → ¬ MeetsOne named r x.partners

-- the others are read of the lines of the rest, after which another line stands
pub record Again (named : List ℕ) (es : List Entry) (i : ℕ) (left : Option (List ℕ)) : Type 0 where
  pub rest : List ℕ
  pub is_left : left ≡ Some rest
  pub reads : (k : ℕ) (x : Entry) → slice_get es (i + k) ≡ Some x
      → (line : List ℕ) × (slice_get (lines rest) k ≡ Some line) × ReadsLongEntry line x
  pub more : length es < i + length (lines rest)
  pub none_met : NoneMet named es i

pub again_from : (named : List ℕ) (es : List Entry) (bytes : List ℕ) (left : Option (List ℕ))
    → left ≡ Some bytes → AreReadAs (lines bytes) es → length es < length (lines bytes)
    → Again named es 0 left
again_from named es bytes left is reads more = record {
  rest = bytes;
  is_left = is;
  reads = λ k x there. reads k x (ap (λ n. slice_get es n) (omega arith) ∙ there);
  more = omega (arith, more);
  none_met = λ r x less. absurd (omega arith);
}

there_is : (es : List Entry) (i : ℕ) → i < length es → (x : Entry) × (slice_get es i ≡ Some x)
there_is [] i less = absurd (omega arith)
there_is (x ∷ es) zero less = (x, refl)
there_is (x ∷ es) (suc i) less = there_is es i (omega arith)

last_one : (piece : List ℕ) → IsPiece piece → lines piece ≡ piece ∷ []
last_one [] is = absurd (is.some refl)
last_one (x ∷ xs) is = lines_last x xs is.no_lf

-- what comes after the first
behind_first : (line : List ℕ) (others : List (List ℕ)) (k : ℕ)
    → slice_get (line ∷ others) (k + 1) ≡ slice_get others k
behind_first line others k = ap (slice_get (line ∷ others)) (plus_one k)
  where
    plus_one : (n : ℕ) → n + 1 ≡ suc n
    plus_one n = omega arith

module _ {named : List ℕ} {es : List Entry} {i : ℕ} {left : Option (List ℕ)}
    (again : Again named es i left) (less : i < length es) {left' : Option (List ℕ)} {line : List ℕ} where
  pub no_end : HasNextPart again.rest left' line next.End → ⊥
  no_end has = omega (arith, again.more, less, ap (λ b. length (lines b)) has.is_next.0)

  pub no_piece : HasNextPart again.rest left' line next.Piece → ⊥
  no_piece has = omega (
    arith,
    again.more,
    less,
    ap (λ b. length (lines b)) has.is_next.0,
    ap length (last_one line has.is_next.1),
  )

  cut : (has : HasNextPart again.rest left' line next.Line) → lines again.rest ≡ line ∷ lines has.rest
  cut has = ap lines has.is_next.0 ∙ lines_cut line has.rest has.is_next.1

  -- the line is that of the entry at this index
  pub here : HasNextPart again.rest left' line next.Line
      → (x : Entry) × (slice_get es i ≡ Some x) × ReadsLongEntry line x
  here has =
      let found = there_is es i less in
      let at : slice_get es (i + 0) ≡ Some found.0 =
      ap (λ n. slice_get es n) (omega arith) ∙ found.1 in
      let read = again.reads 0 found.0 at in
      let is : line ≡ read.0 = same_some line read.0 (sym (ap (λ ls. slice_get ls 0) (cut has)) ∙ read.1) in
      (found.0, found.1, subst (λ l. ReadsLongEntry l found.0) (sym is) read.2)

  pub again_on : (has : HasNextPart again.rest left' line next.Line) → (x : Entry)
      → slice_get es i ≡ Some x → ¬ MeetsOne named i x.partners → Again named es (i + 1) left'
  again_on has x there unmet = record {
    rest = has.rest;
    is_left = has.is_left;
    reads = λ k y is.
        let read = again.reads (k + 1) y (ap (λ n. slice_get es n) (omega arith) ∙ is) in (
          read.0,
          sym (ap (λ ls. slice_get ls (k + 1)) (cut has) ∙ behind_first line (lines has.rest) k) ∙ read.1,
          read.2,
        );
    more = omega (arith, again.more, ap length (cut has));
    none_met = λ r y below is. elim (cases_lt r i) [
      | inl before ↦ again.none_met r y before is
      | inr last ↦
          let at : r ≡ i = omega arith in
          let same : x ≡ y = same_some x y (sym there ∙ ap (λ n. slice_get es n) (sym at) ∙ is) in
          subst (λ n. ¬ MeetsOne named n y.partners) (sym at)
          (subst (λ e. ¬ MeetsOne named i e.partners) same unmet)
    ];
  }

-- ---- what is told

-- an entry that met one is among them
pub met_there : (named : List ℕ) (es : List Entry) (i : ℕ) (x : Entry) → slice_get es i ≡ Some x
    → MeetsOne named i x.partners → HaveMet es named
met_there named es i x there meets = record { place = i; other = x; there = there; meets = meets }

pub none_met : (named : List ℕ) (es : List Entry) (i : ℕ) (left : Option (List ℕ))
    → Again named es i left → length es ≤ i → ¬ HaveMet es named
none_met named es i left again all met =
    again.none_met met.place met.other (omega (arith, within es met.place met.other met.there)) met.there
    met.meets

-- ---- the lines of an account

zip_get : (ls : List (List ℕ)) (es : List Entry) (k : ℕ) (x : Entry) → AllZip ReadsLongEntry ls es
    → slice_get es k ≡ Some x → (line : List ℕ) × (slice_get ls k ≡ Some line) × ReadsLongEntry line x
zip_get [] [] k x reads there = absurd (nothing k x there)
  where
    nothing : (j : ℕ) (y : Entry) → slice_get [] j ≡ Some y → ⊥
    nothing zero y is = none_some y is
    nothing (suc j) y is = none_some y is
zip_get [] (y ∷ es) k x reads there = absurd reads
zip_get (l ∷ ls) [] k x reads there = absurd reads
zip_get (l ∷ ls) (y ∷ es) zero x reads there =
    (l, refl, subst (ReadsLongEntry l) (same_some y x there) reads.0)
zip_get (l ∷ ls) (y ∷ es) (suc k) x reads there = zip_get ls es k x reads.1 there

-- what stands at a place of both, where they begin alike
alike_at : (all others : List (List ℕ)) (n k : ℕ) (line : List ℕ) → take n all ≡ take n others → k < n
    → slice_get all k ≡ Some line → slice_get others k ≡ Some line
alike_at all others n k line same less there =
    sym (get-take others n k less) ∙ ap (λ ls. slice_get ls k) (sym same) ∙ get-take all n k less ∙ there

module _ (all : List (List ℕ)) (bytes : List ℕ) (place : ℕ) (e : Entry) (told : TellsNotOpen all place e)
    (alike : BeginAlike all (lines bytes) place) (head : List ℕ) (rest : List ℕ)
    (cut : lines bytes ≡ head ∷ lines rest) where
  at_line : (k : ℕ) (x : Entry) → k ≤ place → slice_get told.fault.account.entries k ≡ Some x
      → (line : List ℕ) × (slice_get (lines rest) k ≡ Some line) × ReadsLongEntry line x
  at_line k x few there =
      let reads = told.fault.read in
      let read = zip_get reads.rest told.fault.account.entries k x reads.says_entries.one_by_one there in
      let in_all : slice_get all (suc k) ≡ Some read.0 = ap (λ ls. slice_get ls (suc k)) reads.parts
      ∙ read.1
      in
      let there_too = alike_at all (lines bytes) (place + 2) (suc k) read.0 alike (omega arith) in_all in
      (read.0, sym (ap (λ ls. slice_get ls (suc k)) cut) ∙ there_too, read.2)

  pub are_read : AreReadAs (lines rest) (take place told.fault.account.entries)
  are_read k x there =
      let less : k < place = omega (
        arith,
        within (take place told.fault.account.entries) k x there,
        length-take place told.fault.account.entries,
      ) in
      at_line k x (omega arith) (sym (get-take told.fault.account.entries place k less) ∙ there)

  pub are_more : length (take place told.fault.account.entries) < length (lines rest)
  are_more =
      let line = at_line place e (omega arith) told.there in
      omega (
        arith,
        within (lines rest) place line.0 line.1,
        length-take place told.fault.account.entries,
      )

  pub so_many : length (take place told.fault.account.entries) ≡ place
  so_many = omega (
    arith,
    within told.fault.account.entries place e told.there,
    length-take place told.fault.account.entries,
  )

-- the lines don't end before those of the account do
module _ (all : List (List ℕ)) (bytes : List ℕ) (place : ℕ) (e : Entry) (told : TellsNotOpen all place e)
    (alike : BeginAlike all (lines bytes) place) where
  line_there : (line : List ℕ) × (slice_get (lines bytes) (suc place) ≡ Some line)
  line_there =
      let reads = told.fault.read in
      let read = zip_get reads.rest told.fault.account.entries place e reads.says_entries.one_by_one
      told.there
      in
      let in_all : slice_get all (suc place) ≡ Some read.0 =
      ap (λ ls. slice_get ls (suc place)) reads.parts ∙ read.1 in
      (read.0, alike_at all (lines bytes) (place + 2) (suc place) read.0 alike (omega arith) in_all)

  two_there : suc place < length (lines bytes)
  two_there = within (lines bytes) (suc place) line_there.0 line_there.1

  pub first_end : {left : Option (List ℕ)} {line : List ℕ} → HasNextPart bytes left line next.End → ⊥
  first_end has = omega (arith, two_there, ap (λ b. length (lines b)) has.is_next.0)

  pub first_piece : {left : Option (List ℕ)} {line : List ℕ} → HasNextPart bytes left line next.Piece → ⊥
  first_piece {line = line} has = omega (
    arith,
    two_there,
    ap (λ b. length (lines b)) has.is_next.0,
    ap length (last_one line has.is_next.1),
  )

pub first_cut : (bytes : List ℕ) {left : Option (List ℕ)} {line : List ℕ}
    → (has : HasNextPart bytes left line next.Line) → lines bytes ≡ line ∷ lines has.rest
first_cut bytes {line = line} has = ap lines has.is_next.0 ∙ lines_cut line has.rest has.is_next.1

-- ---- the rule

module _ (all : List (List ℕ)) (place : ℕ) (e : Entry) (told : TellsNotOpen all place e) where
  named_fault : (rule : Rule) → AuditTells told.fault.account place (λ other. other ≡ rule)
      → TellsFaultAt all place rule
  named_fault rule tells = record {
    account = told.fault.account;
    read = told.fault.read;
    legal_before = told.fault.legal_before;
    had_room = told.fault.had_room;
    illegal = told.fault.illegal;
    told = tells;
  }

  pub by_met : (met : Bool) (rule : Rule)
      → (met ≡ true → HaveMet (take place told.fault.account.entries) e.partners)
      → (met ≡ false → ¬ HaveMet (take place told.fault.account.entries) e.partners)
      → (met ≡ true → rule ≡ P1)
      → (met ≡ false → (call : Call) → call_in e.act ≡ Some call → rule ≡ rule_by_side (side_of call))
      → TellsFaultAt all place rule
  by_met true rule have none first by_side =
      let fault = told.fault in
      subst (TellsFaultAt all place) (sym (first refl)) (named_fault P1
      (told_met fault.account place e told.there fault.legal_before told.closed fault.told (have refl)))
  by_met false rule have none first by_side =
      let fault = told.fault in
      let call = (told.closed.kept P1 (omega arith)).meets told.closed.place told.closed.names in
      subst (TellsFaultAt all place) (sym (by_side refl call.0 call.1))
      (named_fault (rule_by_side (side_of call.0))
      (told_unmet fault.account place e told.there fault.legal_before told.closed fault.told (none refl)
      call.0
      call.1))

-- what was read of a line is what the line says
pub read_same : (read : Result Entry LineFault) (line : List ℕ) (Holds : Entry → Type 0) → IsOk read
    → IfOk read (ReadsLongEntry line) → IfOk read Holds → (e : Entry) → ReadsLongEntry line e → Holds e
read_same (Ok x) line Holds there reads holds e says =
    subst Holds (entry_one max_identifier line x e reads says) holds
read_same (Err fault) line Holds there reads holds e says = absurd (cc)
