-- What a front of an account's entries and the whole say of one another.
use Rattle.rv_account.proofs.OfRules.Words.{◌≡◌, ◌<◌, ◌≤◌, ◌∷◌, ◌++◌, ◌∙◌, ℕ, zero, suc, List, [], length}
use Rattle.rv_account.proofs.OfRules.Words.{take, Option}
use Rattle.rv_account.proofs.OfRules.Words.{Some, None, refl, sym, ap, subst, arith, length-take, slice_get}
use Rattle.rv_account.proofs.OfRules.Words.{Entry}
use Rattle.rv_account.proofs.OfRules.Words.{Account, Names, NamesAt, Met, NamesPartner, Open, Stopped}
use Rattle.rv_account.proofs.OfRules.Words.{Waiting, Legal}
use Rattle.rv_account.proofs.OfRules.Words.{MayFollow, before}
use Rattle.std.proofs.Common.{drop}
use Rattle.rv_account.proofs.OfRules.Places.{get-take}
use Rattle.std.proofs.lemmas.List.{take-append-drop}
use Rattle.rv_account.proofs.OfRules.Growing.{Met-on, Open-back, Stopped-on, call_read, reads_within}

-- a front and what follows it up to a longer front
pub longer_front : {X : Type 0} (xs : List X) (m n : ℕ) → m ≤ n → take m xs ++ drop m (take n xs) ≡ take n xs
longer_front [] zero zero h = refl
longer_front [] zero (suc n) h = refl
longer_front [] (suc m) zero h = refl
longer_front [] (suc m) (suc n) h = refl
longer_front (x ∷ xs) zero zero h = refl
longer_front (x ∷ xs) zero (suc n) h = refl
longer_front (x ∷ xs) (suc m) zero h = absurd (omega arith)
longer_front (x ∷ xs) (suc m) (suc n) h = ap (λ ys. x ∷ ys) (longer_front xs m n (omega arith))

-- what is read in a front is read in the whole, and the other way round
pub read_front : {B : Type 0} (F : Option Entry → Option B) (es : List Entry) (n r : ℕ) (y : B) → r < n
    → F (slice_get es r) ≡ Some y → F (slice_get (take n es) r) ≡ Some y
read_front F es n r y h there = ap F (get-take es n r h) ∙ there

pub read_whole : {B : Type 0} (F : Option Entry → Option B) → F None ≡ None
    → (es : List Entry) (n r : ℕ) (y : B) → F (slice_get (take n es) r) ≡ Some y
    → (r < n) × (F (slice_get es r) ≡ Some y)
read_whole F none es n r y there =
    let inside : r < length (take n es) = reads_within F none (take n es) r y there in
    let below : r < n = omega (arith, length-take n es) in
    (below, ap F (sym (get-take es n r below)) ∙ there)

pub named_in_front : (es : List Entry) (n p q : ℕ) → p < n → NamesAt es p q → NamesAt (take n es) p q
named_in_front es n p q h at = record {
  entry = at.entry;
  there = get-take es n p h ∙ at.there;
  names =
      at.names;
}

pub names_in_front : (es : List Entry) (n p q : ℕ) → p < n → NamesPartner es p q
    → NamesPartner (take n es) p q
names_in_front es n p q h names = record {
  call = names.call;
  arrived = read_front call_read es n p names.call h names.arrived;
  meets = names.meets;
  named = named_in_front es n p q h names.named;
}

-- who is open in a longer front and stands in a shorter one is open there
pub open_in_shorter : (es : List Entry) (m n r : ℕ) → m ≤ n → r < m → Open (take n es) r → Open (take m es) r
open_in_shorter es m n r less inside opened =
    let longer : Open (take m es ++ drop m (take n es)) r = subst (λ (xs : List Entry). Open xs r)
    (sym (longer_front es m n less)) opened in
    let whole = read_whole call_read refl es n r opened.call opened.arrived in
    Open-back (take m es) (drop m (take n es)) r longer (read_front call_read es m r opened.call inside
    whole.1)

-- who is open in the whole is open in each front that has it
unfoldable pub open_in_front : (es : List Entry) (n r : ℕ) → r < n → Open es r → Open (take n es) r
open_in_front es n r inside opened = record {
  call = opened.call;
  arrived = read_front call_read es n r opened.call inside opened.arrived;
  stays = opened.stays;
  unmet = λ met. opened.unmet (subst (λ (xs : List Entry). Met xs r) (take-append-drop n es)
      (Met-on (take n es) (drop n es) r met));
  unstopped = λ stopped. opened.unstopped (subst (λ (xs : List Entry). Stopped xs r) (take-append-drop n es)
      (Stopped-on (take n es) (drop n es) r stopped));
}

pub waiting_in_front : (es : List Entry) (n r : ℕ) → r < n → Waiting es r → Waiting (take n es) r
unfolding open_in_front
waiting_in_front es n r inside w = record {
  is_open = open_in_front es n r inside w.is_open;
  no_put =
      w.no_put;
}

-- the entry that names a partner, and that it may follow those before it
pub record Naming (a : Account) (p q : ℕ) : Type 0 where
  pub entry : Entry
  pub there : slice_get a.entries p ≡ Some entry
  pub named : Names entry q
  pub follows : MayFollow (before a p) entry

pub naming : (a : Account) (p q : ℕ) → Legal a → NamesPartner a.entries p q → Naming a p q
naming a p q legal names =
    let at = names.named in
    record { entry = at.entry; there = at.there; named = at.names; follows = legal p at.entry at.there }

-- ---- a front of a legal account is legal

front_of_front : {X : Type 0} (xs : List X) (m n : ℕ) → m ≤ n → take m (take n xs) ≡ take m xs
front_of_front xs zero n h = refl
front_of_front [] (suc m) zero h = refl
front_of_front [] (suc m) (suc n) h = refl
front_of_front (x ∷ xs) (suc m) zero h = absurd (omega arith)
front_of_front (x ∷ xs) (suc m) (suc n) h = ap (λ ys. x ∷ ys) (front_of_front xs m n (omega arith))

pub Legal-before : (a : Account) (n : ℕ) → Legal a → Legal (before a n)
Legal-before a n legal j e there =
    let whole = read_whole (λ (o : Option Entry). o) refl a.entries n j e there in
    let same : take j (take n a.entries) ≡ take j a.entries = front_of_front a.entries j n (omega arith) in
    let P : List Entry
    → Type 0 = λ entries. MayFollow (record { epoch = a.epoch; opened = a.opened; entries = entries }) e
    in
    subst P (sym same) (legal j e whole.1)
