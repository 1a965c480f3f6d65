-- Lines are read as one account, or have one first bad line.
use Rattle.std.proofs.Common.{◌≡◌, ◌≤◌, ◌<◌, ◌-◌, ℕ, zero, suc, List, [], ◌∷◌, refl, sym, ap, subst, inl, inr}
use Rattle.std.proofs.Common.{◌∙◌, take, arith, length-take}
use Rattle.std.specs.List.{AllZip}
use Rattle.std.proofs.lemmas.Bool.{cases_order}
use Rattle.rv_account.specs.declared.entry.Entry.{Entry}
use Rattle.rv_account.specs.Account.{Account}
use Rattle.rv_book.specs.lines.Reading.{FirstBadLineUnder, LineLimits, ReadsAccountUnder, ReadsEntryUpTo}
use Rattle.rv_book.specs.lines.Reading.{ReadsHead}
use Rattle.rv_book.proofs.OfLines.Entering.{entry_one}
use Rattle.rv_book.proofs.OfLines.Heads.{head_one}

entries_one : (most : ℕ) (lines : List (List ℕ)) (a b : List Entry) → AllZip (ReadsEntryUpTo most) lines a
    → AllZip (ReadsEntryUpTo most) lines b → a ≡ b
entries_one most [] [] [] reads reads' = refl
entries_one most [] [] (y ∷ b) reads reads' = absurd reads'
entries_one most [] (x ∷ a) b reads reads' = absurd reads
entries_one most (line ∷ lines) [] b reads reads' = absurd reads
entries_one most (line ∷ lines) (x ∷ a) [] reads reads' = absurd reads'
entries_one most (line ∷ lines) (x ∷ a) (y ∷ b) reads reads' =
    let first = entry_one most line x y reads.0 reads'.0 in
    let later = entries_one most lines a b reads.1 reads'.1 in
    cc

-- what is read of one head and of one list of lines
pub parts_one : (head head' : List ℕ) (rest rest' : List (List ℕ)) → head ∷ rest ≡ head' ∷ rest'
    → (head ≡ head') × (rest ≡ rest')
parts_one head head' rest rest' same = (cc, cc)

pub account_one : (limits : LineLimits) (lines : List (List ℕ)) (a b : Account)
    → ReadsAccountUnder limits lines a
    → ReadsAccountUnder limits lines b → a ≡ b
account_one limits lines a b reads reads' =
    let parts = parts_one reads.head reads'.head reads.rest reads'.rest (sym reads.parts ∙ reads'.parts) in
    let head = head_one (subst (λ h. ReadsHead h a.epoch a.opened) parts.0 reads.says_head) reads'.says_head
    in
    let entries = entries_one limits.greatest_place reads'.rest a.entries b.entries
    (subst (λ r. AllZip (ReadsEntryUpTo limits.greatest_place) r a.entries)
    parts.1 reads.says_entries.one_by_one) reads'.says_entries.one_by_one in
    λ i. record { epoch = head.0 i; opened = head.1 i; entries = entries i }

-- ---- fronts

front_zip : (most n : ℕ) (lines : List (List ℕ)) (entries : List Entry)
    → AllZip (ReadsEntryUpTo most) lines entries
    → AllZip (ReadsEntryUpTo most) (take n lines) (take n entries)
front_zip most zero lines entries reads = tt
front_zip most (suc n) [] [] reads = tt
front_zip most (suc n) [] (e ∷ entries) reads = absurd reads
front_zip most (suc n) (line ∷ lines) [] reads = absurd reads
front_zip most (suc n) (line ∷ lines) (e ∷ entries) reads = (reads.0, front_zip most n lines entries reads.1)

pub front_of_front : (m n : ℕ) (xs : List (List ℕ)) → m ≤ n → take m (take n xs) ≡ take m xs
front_of_front zero n xs within = refl
front_of_front (suc m) zero xs within = absurd (omega arith)
front_of_front (suc m) (suc n) [] within = refl
front_of_front (suc m) (suc n) (x ∷ xs) within = ap (λ l. x ∷ l) (front_of_front m n xs (omega arith))

-- some first lines of those that are read as an account are read as a front of it
pub front_read_as : (limits : LineLimits) (k : ℕ) (lines : List (List ℕ)) (a : Account)
    → ReadsAccountUnder limits lines a
    → ReadsAccountUnder limits (take (suc k) lines)
    (record { epoch = a.epoch; opened = a.opened; entries = take k a.entries })
front_read_as limits k lines a reads = record {
  head = reads.head;
  rest = take k reads.rest;
  parts = ap (take (suc k)) reads.parts;
  says_head = reads.says_head;
  says_entries = record {
    one_by_one = front_zip limits.greatest_place k reads.rest a.entries reads.says_entries.one_by_one;
    not_too_many = omega (arith, length-take k reads.rest, reads.says_entries.not_too_many);
  };
}

pub front_read : (limits : LineLimits) (n : ℕ) (lines : List (List ℕ)) (a : Account) → 1 ≤ n
    → ReadsAccountUnder limits lines a → (b : Account) × ReadsAccountUnder limits (take n lines) b
front_read limits zero lines a some reads = absurd (omega arith)
front_read limits (suc k) lines a some reads = (
  record { epoch = a.epoch; opened = a.opened; entries = take k a.entries },
  front_read_as limits k lines a
      reads,
)

pub read_has_no_bad : (limits : LineLimits) (lines : List (List ℕ)) (a : Account) (n : ℕ)
    → ReadsAccountUnder limits lines a → ¬ FirstBadLineUnder limits lines n
read_has_no_bad limits lines a n reads bad = let front = front_read limits n lines a bad.from_one reads in
    bad.read_no_more
    front.0 front.1

-- ---- one bad line

earlier_bad : (limits : LineLimits) (lines : List (List ℕ)) (m n : ℕ) → m < n
    → FirstBadLineUnder limits lines m → FirstBadLineUnder limits lines n → ⊥
earlier_bad limits lines m n less first second = elim second.read_before [
  | inl one ↦ omega (arith, first.from_one)
  | inr before ↦
      let front = front_read limits m (take (n - 1) lines) before.0 first.from_one before.1 in
      first.read_no_more front.0 (subst (λ l. ReadsAccountUnder limits l front.0) (front_of_front m (n - 1)
      lines
      (omega arith)) front.1)
]

pub bad_one : (limits : LineLimits) (lines : List (List ℕ)) (m n : ℕ) → FirstBadLineUnder limits lines m
    → FirstBadLineUnder limits lines n → m ≡ n
bad_one limits lines m n first second = elim (cases_order m n) [
  | inl same ↦ same
  | inr apart ↦ elim apart [
    | inl less ↦ absurd (earlier_bad limits lines m n less first second)
    | inr more ↦ absurd
        (earlier_bad limits lines n m more second first)
  ]
]
