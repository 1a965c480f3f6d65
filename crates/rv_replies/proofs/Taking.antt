-- A record with one line more, before any entry.
use Rattle.rv_replies.proofs.Words.{◌++◌, ◌≡◌, ◌∙◌, ◌∷◌, [], List, None, Option, Some, ap, inl, inr, refl}
use Rattle.rv_replies.proofs.Words.{subst, sym, same_Some, none-some, slice_get, Account}
use Rattle.rv_replies.proofs.Words.{is_named, length, Key, IsFateOf, NamesNowhere, IsAbout, fate_in, Entry}
use Rattle.rv_replies.proofs.Words.{Fate, Fates}
use Rattle.std.proofs.Common.{IsSome, Ok, Err, OnOk, Result, is_some, unwrap_or}
use Rattle.rv_account.specs.Account.{key_at}
use Rattle.rv_account.proofs.OfRules.Deciding.{key_or_other}
use Rattle.rv_account.proofs.OfRules.Places.{get-append_cases}
use Rattle.rv_replies.specs.Known.{AsksAbout}
use Rattle.rv_replies.specs.Firsts.{KnowsFirsts, NotesFirst}
use Rattle.rv_replies.specs.Standing.{AsksNothing, HasNoted}
use Rattle.rv_replies.proofs.FirstLines.{flawed_more, no_told, same_told, told_more}
use Rattle.rv_replies.specs.declared.findings.fate.Fate.TheVariants.{Unnamed}
use Rattle.rv_replies.specs.declared.reading.Flaw.{Flaw}
use Rattle.std.proofs.lemmas.Bool.{false≢true}
use Rattle.std.specs.Map.{lookup}
use Rattle.rv_replies.proofs.Words.{ℕ}
use Rattle.rv_replies.specs.declared.records.Line.{Line}
use Rattle.rv_replies.specs.declared.records.Line.TheVariants as line
use Rattle.rv_replies.specs.declared.records.Records.{Records}
use Rattle.rv_replies.specs.declared.findings.Told.{Told}

-- two facts of what came out well give a third, and three a fourth
pub on_ok_two : {A E : Type 0} {P Q S : Type 0} (r : Result A E) → (P → Q → S) → OnOk r P → OnOk r Q
    → OnOk r S
on_ok_two (Ok x) gives p q = gives p q
on_ok_two (Err e) gives p q = tt

pub on_ok_three : {A E : Type 0} {P Q R S : Type 0} (r : Result A E) → (P → Q → R → S) → OnOk r P
    → OnOk r Q → OnOk r R → OnOk r S
on_ok_three (Ok x) gives p q s = gives p q s
on_ok_three (Err e) gives p q s = tt

nowhere : (es : List Entry) (key : Key) → es ≡ [] → NamesNowhere es key
nowhere es key is place named =
    let none : key_at [] place ≡ Some key = subst (λ l. key_at l place ≡ Some key) is named in
    none-some key none

module _ (a : Account) (empty : a.entries ≡ []) where
  or_unnamed : (o : Option Fate) (key : Key) → ((fate : Fate) → o ≡ Some fate → IsFateOf a.entries key fate)
      → IsFateOf a.entries key (unwrap_or o Unnamed)
  or_unnamed None key is = nowhere a.entries key empty
  or_unnamed (Some fate) key is = is fate refl

  asks_about : (old new : Fates) (own : Key) → AsksAbout old new own → IsAbout old a → IsAbout new a
  asks_about old new own asks about key fate there = elim (key_or_other key own) [
    | inl same ↦
        let at : fate_in new own ≡ Some fate = subst (λ (k : Key). fate_in new k ≡ Some fate) same there in
        let is : IsFateOf a.entries own (unwrap_or (fate_in old own) Unnamed) =
        or_unnamed (fate_in old own) own (about own) in
        subst (λ (k : Key). IsFateOf a.entries k fate) (sym same)
        (subst (IsFateOf a.entries own) (same_Some _ _ (sym asks.own ∙ at)) is)
    | inr apart ↦ about key fate (sym (asks.others key apart) ∙ there)
  ]

  asks_known : (old new : Fates) (own key : Key) → AsksAbout old new own → IsSome (fate_in old key)
      → IsSome (fate_in new key)
  asks_known old new own key asks known = elim (key_or_other key own) [
    | inl same ↦ subst (λ (k : Key). IsSome (fate_in new k)) (sym same) (ap is_some asks.own)
    | inr apart ↦ ap is_some (asks.others key apart) ∙ known
  ]

  pub takes_told : (old new : Records) (told : Told) → HasNoted old a
      → new.lines.items ≡ old.lines.items ++ line.Told told ∷ [] → AsksAbout old.fates new.fates told.key
      → NotesFirst old.firsts new.firsts told.key (length old.lines.items) → HasNoted new a
  takes_told old new told stands lines asks notes = record {
    firsts = subst (λ l. KnowsFirsts l new.firsts) (sym lines)
        (told_more old.lines.items (line.Told told) old.firsts stands.firsts new.firsts told refl notes);
    about = asks_about old.fates new.fates told.key asks stands.about;
    known = λ i other at.
        let there : slice_get (old.lines.items ++ line.Told told ∷ []) i ≡ Some (line.Told other) =
        subst (λ l. slice_get l i ≡ Some (line.Told other)) lines at in
        elim (get-append_cases old.lines.items (line.Told told) (line.Told other) i there) [
          | inl inside ↦
              asks_known old.fates new.fates told.key other.key asks (stands.known i other inside.1)
          | inr last ↦
              subst (λ (t : Told). IsSome (fate_in new.fates t.key)) (same_told told other last.1)
              (ap is_some asks.own)
        ];
  }

  pub takes_flawed : (old new : Records) (flaw : Flaw) → HasNoted old a
      → new.lines.items ≡ old.lines.items ++ line.Flawed flaw ∷ [] → new.fates ≡ old.fates
      → new.firsts ≡ old.firsts → HasNoted new a
  takes_flawed old new flaw stands lines fates firsts = record {
    firsts = subst (λ f. KnowsFirsts new.lines.items f) (sym firsts)
        (subst (λ l. KnowsFirsts l old.firsts) (sym lines)
        (flawed_more old.lines.items (line.Flawed flaw) old.firsts stands.firsts flaw refl));
    about = subst (λ f. IsAbout f a) (sym fates) stands.about;
    known = λ i other at.
        let there : slice_get (old.lines.items ++ line.Flawed flaw ∷ []) i ≡ Some (line.Told other) =
        subst (λ l. slice_get l i ≡ Some (line.Told other)) lines at in
        subst (λ (f : Fates). IsSome (fate_in f other.key)) (sym fates)
        (elim (get-append_cases old.lines.items (line.Flawed flaw) (line.Told other) i there) [
          | inl inside ↦ stands.known i other inside.1
          | inr last ↦ absurd (no_told flaw other last.1)
        ]);
  }

-- where no key is known, all accounts are noted alike
pub notes_any : (r : Records) (a b : Account) → AsksNothing r → HasNoted r a → HasNoted r b
notes_any r a b none noted = record {
  about = λ key fate there. absurd (none-some fate
      (sym (ap (lookup (is_named key)) none) ∙ there));
  known = noted.known;
  firsts = noted.firsts;
}

-- ---- what is known of a line

noted_fate : (r : Records) (a : Account) (i : ℕ) (told : Told) → HasNoted r a
    → slice_get r.lines.items i ≡ Some (line.Told told) → (o : Option Fate) → o ≡ fate_in r.fates told.key
    → (fate : Fate) × (o ≡ Some fate) × IsFateOf a.entries told.key fate
noted_fate r a i told noted at None is = absurd (false≢true (ap is_some is ∙ noted.known i told at))
noted_fate r a i told noted at (Some fate) is = (fate, refl, noted.about told.key fate (sym is))

one_line : (it : Line) (own told : Told) → it ≡ line.Told own → it ≡ line.Told told → own ≡ told
one_line it own told first second = same_lines own told (sym first ∙ second)
  where
    same_lines : (x y : Told) → line.Told x ≡ line.Told y → x ≡ y
    same_lines x y is = cc

pub noted_line : (r : Records) (a : Account) (i : ℕ) (it : Line) (own told : Told)
    → slice_get r.lines.items i ≡ Some it → it ≡ line.Told own
    → slice_get r.lines.items i ≡ Some (line.Told told) → HasNoted r a → (o : Option Fate)
    → o ≡ fate_in r.fates own.key → (fate : Fate) × (o ≡ Some fate) × IsFateOf a.entries told.key fate
noted_line r a i it own told there is at noted o found =
    let same : own ≡ told = one_line it own told is (same_Some _ _ (sym there ∙ at)) in
    noted_fate r a i told noted at o (found ∙ ap (λ (t : Told). fate_in r.fates t.key) same)
