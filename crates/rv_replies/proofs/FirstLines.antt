-- Which line is the first of its key, with one line more.
use Rattle.rv_replies.proofs.Words.{◌++◌, ◌≡◌, ◌∙◌, ◌∷◌, [], List, None, Option, Some, ap, arith}
use Rattle.rv_replies.proofs.Words.{inl, inr}
use Rattle.rv_replies.proofs.Words.{length, refl, same_Some, slice_get, subst, sym, ℕ, Key}
use Rattle.std.proofs.Common.{◌&&◌, Bool, IsSome, cond, false, is_some, nat_eq, true, unwrap_or}
use Rattle.std.proofs.lemmas.Bool.{false≢true}
use Rattle.std.specs.Map.{lookup}
use Rattle.rv_account.proofs.OfRules.Deciding.{key_or_other}
use Rattle.rv_account.proofs.OfRules.Places.{get-append, get-append_cases, get-append_end, within}
use Rattle.rv_replies.specs.Firsts.{IsBeside, IsFirstOf, KnowsFirsts, NotesFirst, StandsBeside, first_in}
use Rattle.rv_replies.specs.declared.records.Beside.{Beside}
use Rattle.rv_text.specs.declared.answer.Reply.{Reply}
use Rattle.rv_text.specs.declared.call.Call.{Call}
use Rattle.rv_replies.specs.findings.Names.{key_name}
use Rattle.rv_replies.specs.declared.findings.name.Name.{Name}
use Rattle.rv_replies.specs.declared.findings.Told.{Told}
use Rattle.rv_replies.specs.declared.firsts.Firsts.{Firsts}
use Rattle.rv_replies.specs.declared.reading.Flaw.{Flaw}
use Rattle.rv_replies.specs.declared.records.Line.{Line}
use Rattle.rv_replies.specs.declared.records.Line.TheVariants as line
use Rattle.rv_replies.proofs.OfFindings.Names.{named_apart, named_own}

pub same_told : (told other : Told) → line.Told told ≡ line.Told other → told ≡ other
same_told told other is = cc

pub no_told : (flaw : Flaw) (told : Told) → line.Flawed flaw ≡ line.Told told → ⊥
no_told flaw told is = absurd (let no : ⊥ = cc in no)

-- ---- the table

abbrev same : Name → Name → Bool
same a b =
    nat_eq a.epoch b.epoch
    && (nat_eq a.client b.client && (nat_eq a.incarnation b.incarnation && nat_eq a.number b.number))

or_first : (o : Option ℕ) (index : ℕ) → is_some o ≡ false → Some index ≡ Some (unwrap_or o index)
or_first None index none = refl
or_first (Some i) index none = absurd (let no : ⊥ = cc in no)

was_first : (o : Option ℕ) (index : ℕ) → is_some o ≡ true → o ≡ Some (unwrap_or o index)
was_first None index some = absurd (let no : ⊥ = cc in no)
was_first (Some i) index some = refl

-- a key that was known stays so
pub notes_known : (f : Firsts) (key : Key) (index : ℕ) → is_some (first_in f key) ≡ true
    → NotesFirst f f key index
notes_known f key index some =
    record { own = was_first (first_in f key) index some; others = λ other apart. refl }

-- one that wasn't is put in
pub notes_new : (old new : Firsts) (key : Key) (index : ℕ) (name : Name) → name ≡ key_name key
    → is_some (first_in old key) ≡ false
    → ((q : Name) → lookup (same q) new.firsts.entries
    ≡ cond (same name q) (Some index) (lookup (same q) old.firsts.entries))
    → NotesFirst old new key index
notes_new old new key index name is none puts = record {
  own = puts (key_name key)
      ∙ ap (λ b. cond b (Some index) (first_in old key))
      (subst (λ n. same n (key_name key) ≡ true) (sym is) (named_own key))
      ∙ or_first (first_in old key) index none;
  others = λ other apart. puts (key_name other)
      ∙ ap (λ b. cond b (Some index) (first_in old other))
      (subst (λ n. same n (key_name other) ≡ false) (sym is) (named_apart key other (λ e. apart (sym e))));
}

-- ---- one line more

module _ (lines : List Line) (last : Line) where
  -- a first line stays first
  more : (key : Key) (index : ℕ) (told : Told) → IsFirstOf lines key index told
      → IsFirstOf (lines ++ last ∷ []) key index told
  more key index told is = record {
    there = get-append lines (last ∷ []) index (line.Told told) is.there;
    of_key = is.of_key;
    least = λ i other there of_key. elim (get-append_cases lines last (line.Told other) i there) [
      | inl inside ↦ is.least i other inside.1 of_key
      | inr end ↦ omega (arith, end.0, within lines index (line.Told told) is.there)
    ];
  }

  abbrev IsFirst : Key → ℕ → Type 0
  IsFirst key index = (told : Told) × IsFirstOf (lines ++ last ∷ []) key index told

  module _ (old : Firsts) (knows : KnowsFirsts lines old) where
    kept : (key : Key) (index : ℕ) → first_in old key ≡ Some index → IsFirst key index
    kept key index is = let first = knows.first key index is in (first.0, more key index first.0 first.1)

    pub flawed_more : (flaw : Flaw) → last ≡ line.Flawed flaw → KnowsFirsts (lines ++ last ∷ []) old
    flawed_more flaw is = record {
      first = kept;
      known = λ i told there. elim (get-append_cases lines last (line.Told told) i there) [
        | inl inside ↦ knows.known i told inside.1
        | inr end ↦ absurd (no_told flaw told (sym is ∙ end.1))
      ];
    }

    module _ (new : Firsts) (own : Told) (is : last ≡ line.Told own)
        (notes : NotesFirst old new own.key (length lines)) where
      -- a key that no line named has the last line
      last_first : (o : Option ℕ) → first_in old own.key ≡ o → IsFirst own.key (unwrap_or o (length lines))
      last_first (Some i) was = kept own.key i was
      last_first None was = (
        own,
        record {
          there = get-append_end lines last ∙ ap Some is;
          of_key = refl;
          least = λ i other there of_key. elim (get-append_cases lines last (line.Told other) i there) [
            | inl inside ↦
                let known = subst (λ (k : Key). IsSome (first_in old k)) of_key (knows.known i other inside.1)
                in
                absurd (false≢true (sym (ap is_some was) ∙ known))
            | inr end ↦ omega (arith, end.0)
          ];
        },
      )

      first_more : (key : Key) (index : ℕ) → first_in new key ≡ Some index → IsFirst key index
      first_more key index there = elim (key_or_other key own.key) [
        | inl same_key ↦
            let at : first_in new own.key ≡ Some index =
            subst (λ (k : Key). first_in new k ≡ Some index) same_key there in
            subst (λ (k : Key). IsFirst k index) (sym same_key)
            (subst (IsFirst own.key) (same_Some _ _ (sym notes.own ∙ at)) (last_first (first_in old own.key)
            refl))
        | inr apart ↦ kept key index (sym (notes.others key apart) ∙ there)
      ]

      known_more : (key : Key) → IsSome (first_in old key) → IsSome (first_in new key)
      known_more key known = elim (key_or_other key own.key) [
        | inl same_key ↦
            subst (λ (k : Key). IsSome (first_in new k)) (sym same_key) (ap is_some notes.own)
        | inr apart ↦ ap is_some (notes.others key apart) ∙ known
      ]

      pub told_more : KnowsFirsts (lines ++ last ∷ []) new
      told_more = record {
        first = first_more;
        known = λ i told there. elim (get-append_cases lines last (line.Told told) i there) [
          | inl inside ↦ known_more told.key (knows.known i told inside.1)
          | inr end ↦
              subst (λ (t : Told). IsSome (first_in new t.key)) (same_told own told (sym is ∙ end.1))
              (ap is_some notes.own)
        ];
      }

-- ---- the first line of a key, and what it tells

module _ (lines : List Line) (f : Firsts) (knows : KnowsFirsts lines f) (i : ℕ) (told : Told)
    (there : slice_get lines i ≡ Some (line.Told told)) where
  -- it is known
  pub first_known : first_in f told.key ≡ None → ⊥
  first_known none = false≢true (sym (ap is_some none) ∙ knows.known i told there)

  -- how the line stands to it is known by what that one tells
  pub stands : (first : ℕ) (result : Option (Beside × ℕ)) → first_in f told.key ≡ Some first
      → ((own : Told) → slice_get lines first ≡ Some (line.Told own) → own.key ≡ told.key
      → IsBeside told i own first result) → StandsBeside lines i told result
  stands first result is beside =
      let known = knows.first told.key first is in
      record {
        first = first;
        own = known.0;
        is_first = known.1;
        beside = beside known.0 known.1.there known.1.of_key;
      }

-- the line tells one reply
pub beside_one : (lines : List Line) (first index : ℕ) (own other told : Told) (result : Option (Beside × ℕ))
    → slice_get lines first ≡ Some (line.Told own) → slice_get lines first ≡ Some (line.Told other)
    → (own.key ≡ told.key → IsBeside told index own first result) → other.key ≡ told.key
    → IsBeside told index other first result
beside_one lines first index own other told result at again is =
    subst (λ (t : Told). t.key ≡ told.key → IsBeside told index t first result)
    (same_told own other (same_Some _ _ (sym at ∙ again))) is

-- how a line stands is so of the reply that it tells
pub stands_one : (lines : List Line) (index : ℕ) (own other : Told) (result : Option (Beside × ℕ))
    → slice_get lines index ≡ Some (line.Told own) → slice_get lines index ≡ Some (line.Told other)
    → StandsBeside lines index own result → StandsBeside lines index other result
stands_one lines index own other result at again is =
    subst (λ (t : Told). StandsBeside lines index t result)
    (same_told own other (same_Some _ _ (sym at ∙ again))) is

-- two replies with one key, call and word are the same
pub one_told : (own told : Told) → own.key ≡ told.key → own.call ≡ told.call → own.reply ≡ told.reply
    → own ≡ told
one_told own told key call reply =
    let at : Key → Call → Reply → Told = λ k c r. record { key = k; call = c; reply = r } in
    ap (λ (k : Key). at k own.call own.reply) key ∙ ap (λ (c : Call). at told.key c own.reply) call
    ∙ ap (λ (r : Reply). at told.key told.call r) reply
