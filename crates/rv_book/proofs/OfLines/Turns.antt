-- How far the lines of entries are read.
use Rattle.std.proofs.Common.{◌≡◌, ◌⊎◌, ◌≤◌, ◌+◌, ◌-◌, ℕ, suc, List, [], ◌∷◌, ◌++◌, refl, sym, ap, subst, inl}
use Rattle.std.proofs.Common.{inr}
use Rattle.std.proofs.Common.{◌∙◌, length, take, arith, length-append, append_assoc, append-nil}
use Rattle.std.proofs.Math.Seq.{take-append-add}
use Rattle.std.proofs.lemmas.List.{take-append-le}
use Rattle.std.specs.List.{AllZip}
use Rattle.rv_account.specs.declared.entry.Entry.{Entry}
use Rattle.rv_account.specs.Account.{Account, with_entry}
use Rattle.rv_book.specs.lines.Entries.{IsNoNext, StopsAtLine}
use Rattle.rv_book.specs.lines.Lines.{lines}
use Rattle.rv_book.proofs.OfLines.OneReading.{parts_one}
use Rattle.rv_book.specs.lines.Reading.{FirstBadLineUnder, LineLimits, ReadsAccountUnder, ReadsEntriesUnder}
use Rattle.rv_book.specs.lines.Reading.{ReadsEntryUpTo, ReadsHead}

-- ---- two lists side by side

pub zip_length : (most : ℕ) (xs : List (List ℕ)) (es : List Entry) → AllZip (ReadsEntryUpTo most) xs es
    → length xs ≡ length es
zip_length most [] [] reads = refl
zip_length most [] (e ∷ es) reads = absurd reads
zip_length most (x ∷ xs) [] reads = absurd reads
zip_length most (x ∷ xs) (e ∷ es) reads = omega (arith, zip_length most xs es reads.1)

zip_more : (most : ℕ) (xs : List (List ℕ)) (es : List Entry) (x : List ℕ) (e : Entry)
    → AllZip (ReadsEntryUpTo most) xs es
    → ReadsEntryUpTo most x e → AllZip (ReadsEntryUpTo most) (xs ++ x ∷ []) (es ++ e ∷ [])
zip_more most [] [] x e reads last = (last, tt)
zip_more most [] (f ∷ es) x e reads last = absurd reads
zip_more most (y ∷ xs) [] x e reads last = absurd reads
zip_more most (y ∷ xs) (f ∷ es) x e reads last = (reads.0, zip_more most xs es x e reads.1 last)

-- of the lines those before the rest are read as these entries
pub record Read (limits : LineLimits) (input rest : List ℕ) (entries : List Entry) : Type 0 where
  pub front : List (List ℕ)
  pub cut : lines input ≡ front ++ lines rest
  pub read : ReadsEntriesUnder limits front entries

module _ {limits : LineLimits} {input rest : List ℕ} {entries : List Entry} (so_far : Read limits input rest
    entries)
  where
    pub so_many : length entries ≤ limits.most_entries
    so_many = omega (
      arith,
      zip_length limits.greatest_place so_far.front entries so_far.read.one_by_one,
      so_far.read.not_too_many,
    )

    pub read_more : (line after : List ℕ) (e : Entry) → lines rest ≡ line ∷ lines after
        → ReadsEntryUpTo limits.greatest_place line e
        → length entries + 1 ≤ limits.most_entries → Read limits input after (entries ++ e ∷ [])
    read_more line after e cut reads room = record {
      front = so_far.front ++ line ∷ [];
      cut = so_far.cut ∙ ap (λ l. so_far.front ++ l) cut ∙ sym (append_assoc so_far.front (line ∷ [])
          (lines after));
      read = record {
        one_by_one = zip_more limits.greatest_place so_far.front entries line e so_far.read.one_by_one reads;
        not_too_many = omega (
          arith,
          length-append so_far.front (line ∷ []),
          zip_length limits.greatest_place so_far.front entries
              so_far.read.one_by_one,
        );
      };
    }

    pub stops_at : (line after : List ℕ) (n : ℕ) → lines rest ≡ line ∷ lines after
        → IsNoNext limits (length entries) line → n ≡ length entries + 2 → StopsAtLine limits (lines input) n
    stops_at line after n cut stops counted =
        let many = zip_length limits.greatest_place so_far.front entries so_far.read.one_by_one in
        record {
          front = so_far.front;
          line = line;
          rest = lines after;
          entries = entries;
          parts = so_far.cut ∙ ap (λ l. so_far.front ++ l) cut;
          read = so_far.read;
          stops = subst (λ k. IsNoNext limits k line) (sym many) stops;
          counted = omega (arith, many, counted);
        }

-- ---- the first bad line

zip_last : (most : ℕ) (xs : List (List ℕ)) (x : List ℕ) (es : List Entry)
    → AllZip (ReadsEntryUpTo most) (xs ++ x ∷ []) es
    → (e : Entry) × ReadsEntryUpTo most x e
zip_last most [] x [] reads = absurd reads
zip_last most [] x (e ∷ es) reads = (e, reads.0)
zip_last most (y ∷ xs) x [] reads = absurd reads
zip_last most (y ∷ xs) x (e ∷ es) reads = zip_last most xs x es reads.1

next_is_none : (limits : LineLimits) (front : List (List ℕ)) (line : List ℕ) (es : List Entry)
    → IsNoNext limits (length front) line
    → ReadsEntriesUnder limits (front ++ line ∷ []) es → ⊥
next_is_none limits front line es stops reads = elim stops [
  | inl full ↦ omega (arith, full, reads.not_too_many, length-append front (line ∷ []))
  | inr none ↦ let last = zip_last limits.greatest_place front line es reads.one_by_one in none last.0 last.1
]

-- what is read of a first line and of the others
rest_read : (limits : LineLimits) (head : List ℕ) (rest : List (List ℕ)) (a : Account)
    → ReadsAccountUnder limits (head ∷ rest) a
    → ReadsHead head a.epoch a.opened × ReadsEntriesUnder limits rest a.entries
rest_read limits head rest a reads =
    let parts = parts_one head reads.head rest reads.rest reads.parts in (
      subst (λ h. ReadsHead h a.epoch a.opened) (sym parts.0) reads.says_head,
      subst
          (λ r. ReadsEntriesUnder limits r a.entries) (sym parts.1) reads.says_entries,
    )

pub bad_head : (limits : LineLimits) (all rest : List (List ℕ)) (head : List ℕ) (n : ℕ) → all ≡ head ∷ rest
    → ((epoch opened : ℕ) → ¬ ReadsHead head epoch opened) → n ≡ 1 → FirstBadLineUnder limits all n
bad_head limits all rest head n cut none one = record {
  from_one = omega arith;
  read_before = inl one;
  read_no_more = λ a reads. none a.epoch a.opened (rest_read limits head [] a
      (subst (λ l. ReadsAccountUnder limits l a)
      (ap (take n) cut ∙ ap (λ k. take k (head ∷ rest)) one) reads)).0;
}

module _ {limits : LineLimits} {rest : List (List ℕ)} {n : ℕ} (stops : StopsAtLine limits rest n) where
  -- the lines before the one where the reading stops, and so many of those from it on
  front_of : (all : List (List ℕ)) (head : List ℕ) (k m : ℕ) → all ≡ head ∷ rest
      → m ≡ suc (length stops.front + k)
      → take m all ≡ head ∷ (stops.front ++ take k (stops.line ∷ stops.rest))
  front_of all head k m cut is =
      ap (take m) (cut ∙ ap (λ r. head ∷ r) stops.parts)
      ∙ ap (λ j. take j (head ∷ (stops.front ++ stops.line ∷ stops.rest))) is
      ∙ ap (λ r. head ∷ r) (take-append-add stops.front (stops.line ∷ stops.rest) k)

  pub bad_line : (all : List (List ℕ)) (head : List ℕ) (epoch opened : ℕ) → all ≡ head ∷ rest
      → ReadsHead head epoch opened → FirstBadLineUnder limits all n
  bad_line all head epoch opened cut says =
      let before = front_of all head 0 (n - 1) cut (omega (arith, stops.counted)) ∙ ap (λ r. head ∷ r)
      (append-nil stops.front) in
      let with_it = front_of all head 1 n cut (omega (arith, stops.counted)) in
      let a : Account = record { epoch = epoch; opened = opened; entries = stops.entries } in
      record {
        from_one = omega (arith, stops.counted);
        read_before = inr (
          a,
          subst (λ l. ReadsAccountUnder limits l a) (sym before) (record {
            head = head;
            rest =
                stops.front;
            parts = refl;
            says_head = says;
            says_entries = stops.read;
          }),
        );
        read_no_more = λ b reads.
            next_is_none limits stops.front stops.line b.entries stops.stops
            (rest_read limits head (stops.front ++ stops.line ∷ []) b
            (subst (λ l. ReadsAccountUnder limits l b) with_it
            reads)).1;
      }

-- ---- one line more

module _ (limits : LineLimits) (all : List (List ℕ)) (a : Account) (reads : ReadsAccountUnder limits all a)
  where
    -- lines that are read as an account, and the line of an entry more
    pub account_more : (line : List ℕ) (e : Entry) → ReadsEntryUpTo limits.greatest_place line e
        → length a.entries + 1 ≤ limits.most_entries
        → ReadsAccountUnder limits (all ++ line ∷ []) (with_entry a e)
    account_more line e says room =
        let entries = reads.says_entries in
        record {
          head = reads.head;
          rest = reads.rest ++ line ∷ [];
          parts = ap (λ l. l ++ line ∷ []) reads.parts;
          says_head = reads.says_head;
          says_entries = record {
            one_by_one = zip_more limits.greatest_place reads.rest a.entries line e entries.one_by_one says;
            not_too_many = omega (
              arith,
              length-append reads.rest (line ∷ []),
              zip_length limits.greatest_place reads.rest a.entries entries.one_by_one,
              room,
            );
          };
        }

    -- or the first bad one
    pub bad_next : (line : List ℕ) → IsNoNext limits (length a.entries) line
        → FirstBadLineUnder limits (all ++ line ∷ []) (length a.entries + 2)
    bad_next line stops =
        let many = zip_length limits.greatest_place reads.rest a.entries reads.says_entries.one_by_one in
        let at : StopsAtLine limits (reads.rest ++ line ∷ []) (length a.entries + 2) = record {
          front = reads.rest;
          line = line;
          rest = [];
          entries = a.entries;
          parts = refl;
          read = reads.says_entries;
          stops = subst (λ k. IsNoNext limits k line) (sym many) stops;
          counted = omega (arith, many);
        } in
        bad_line at (all ++ line ∷ []) reads.head a.epoch a.opened (ap (λ l. l ++ line ∷ []) reads.parts)
        reads.says_head

    -- an account has a line before those of its entries
    pub so_many_lines : length all ≡ length a.entries + 1
    so_many_lines =
        let many = zip_length limits.greatest_place reads.rest a.entries reads.says_entries.one_by_one in
        ap length reads.parts ∙ omega (arith, many)

-- a bad line stays the first, whatever follows
pub bad_kept : (limits : LineLimits) (all more : List (List ℕ)) (n : ℕ) → n ≤ length all
    → FirstBadLineUnder limits all n → FirstBadLineUnder limits (all ++ more) n
bad_kept limits all more n among bad =
    let before = take-append-le (n - 1) all more (omega arith) in
    let with_it = take-append-le n all more among in
    record {
      from_one = bad.from_one;
      read_before = subst (λ l. (n ≡ 1) ⊎ ((b : Account) × ReadsAccountUnder limits l b)) (sym before)
          bad.read_before;
      read_no_more = λ b reads. bad.read_no_more b (subst (λ l. ReadsAccountUnder limits l b) with_it reads);
    }

-- no line is an account's first
pub bad_none : (limits : LineLimits) → FirstBadLineUnder limits [] 1
bad_none limits = record {
  from_one = omega arith;
  read_before = inl refl;
  read_no_more = λ a reads. absurd (nothing reads.head reads.rest reads.parts);
}
  where
    nothing : (head : List ℕ) (rest : List (List ℕ)) → [] ≡ head ∷ rest → ⊥
    nothing head rest same = cc
