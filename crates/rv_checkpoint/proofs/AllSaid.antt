-- What is said of a state, place by place and client by client.
use Rattle.std.proofs.Common.{◌≡◌, ◌≢◌, ◌⊎◌, ◌∷◌, [], ◌++◌, ◌∙◌, ℕ, Bool, true, false, List, length, inl, inr}
use Rattle.std.proofs.Common.{refl, sym, ap, append-nil}
use Rattle.rv_checkpoint.specs.Reading.{IsNoNextOf, all_said, end_said, parts_said}
use Rattle.rv_checkpoint.specs.declared.line.StateLine.{StateLine}
use Rattle.rv_checkpoint.specs.declared.line.StateLine.TheVariants.{Open, End}
use Rattle.rv_session.specs.declared.client.ClientState.{ClientState}
use Rattle.rv_session.specs.declared.open.OpenPlace.{OpenPlace}

abbrev Known : Type 0
Known = List (ℕ × ClientState)

-- what is said after the first places and clients of a state
record Tail (opens : List OpenPlace) (clients : Known) (front : List OpenPlace) (known : Known)
    (rest : List StateLine) (n m : ℕ) : Type 0
  where
    pub later : List OpenPlace
    pub others : Known
    pub opens_are : opens ≡ front ++ later
    pub clients_are : clients ≡ known ++ others
    pub rest_is : rest ≡ parts_said later others ++ End n m ∷ []
    pub order : (known ≡ []) ⊎ (later ≡ [])

tail_of : (opens : List OpenPlace) (clients : Known) (front : List OpenPlace) (known : Known)
    (rest : List StateLine) (n m : ℕ)
    → parts_said opens clients ++ End n m ∷ [] ≡ parts_said front known ++ rest
    → Tail opens clients front known rest n m
tail_of opens clients [] [] rest n m same = record {
  later = opens;
  others = clients;
  opens_are = refl;
  clients_are = refl;
  rest_is = sym same;
  order = inl refl;
}
tail_of (a ∷ opens) clients (b ∷ front) known rest n m same =
    let one : a ≡ b = cc in
    let more : parts_said opens clients ++ End n m ∷ [] ≡ parts_said front known ++ rest = cc in
    let tail = tail_of opens clients front known rest n m more in record {
      later = tail.later;
      others = tail.others;
      opens_are = λ i. one i ∷ tail.opens_are i;
      clients_are = tail.clients_are;
      rest_is = tail.rest_is;
      order = tail.order;
    }
tail_of [] [] (b ∷ front) known rest n m same = absurd (cc)
tail_of [] (k ∷ clients) (b ∷ front) known rest n m same = absurd (cc)
tail_of (a ∷ opens) clients [] (k ∷ known) rest n m same = absurd (cc)
tail_of [] [] [] (k ∷ known) rest n m same = absurd (cc)
tail_of [] (l ∷ clients) [] (k ∷ known) rest n m same =
    let number : l.0 ≡ k.0 = cc in
    let session : l.1 ≡ k.1 = cc in
    let more : parts_said [] clients ++ End n m ∷ [] ≡ parts_said [] known ++ rest = cc in
    let tail = tail_of [] clients [] known rest n m more in record {
      later = tail.later;
      others = tail.others;
      opens_are = tail.opens_are;
      clients_are = λ i. (number i, session i) ∷ tail.clients_are i;
      rest_is = tail.rest_is;
      order = inr (sym tail.opens_are);
    }

-- ---- what is next

-- after a client no place is said
no_open : (later : List OpenPlace) (others : Known) (n m : ℕ) (there : OpenPlace) (more : List StateLine)
    → later ≡ [] → Open there ∷ more ≡ parts_said later others ++ End n m ∷ [] → ⊥
no_open [] [] n m there more none same = absurd (cc)
no_open [] (k ∷ others) n m there more none same = absurd (cc)
no_open (a ∷ later) others n m there more none same = absurd (cc)

-- the end comes last, with the numbers of what was said
pub record Ends (opens front : List OpenPlace) (clients known : Known) (n m o c : ℕ) (more : List StateLine) :
    Type 0
  where
    pub opens_are : opens ≡ front
    pub clients_are : clients ≡ known
    pub places : n ≡ o
    pub numbers : m ≡ c
    pub last : more ≡ []

only_end : (later : List OpenPlace) (others : Known) (n m o c : ℕ) (more : List StateLine)
    → End o c ∷ more ≡ parts_said later others ++ End n m ∷ []
    → (later ≡ []) × (others ≡ []) × (n ≡ o) × (m ≡ c) × (more ≡ [])
only_end [] [] n m o c more same = (refl, refl, cc, cc, cc)
only_end [] (k ∷ others) n m o c more same = absurd (cc)
only_end (a ∷ later) others n m o c more same = absurd (cc)

pub ends_so : (opens front : List OpenPlace) (clients known : Known) (o c : ℕ) (more : List StateLine)
    → all_said opens clients ≡ parts_said front known ++ End o c ∷ more
    → Ends opens front clients known (length opens) (length clients) o c more
ends_so opens front clients known o c more same =
    let tail = tail_of opens clients front known (End o c ∷ more) (length opens) (length clients) same in
    let only = only_end tail.later tail.others (length opens) (length clients) o c more tail.rest_is in
    record {
      opens_are = tail.opens_are ∙ ap (λ l. front ++ l) only.0 ∙ append-nil front;
      clients_are = tail.clients_are ∙ ap (λ l. known ++ l) only.1 ∙ append-nil known;
      places = only.2;
      numbers = only.3;
      last = only.4;
    }

pub no_place_next : (front : List OpenPlace) (known : Known) (ended : Bool) (n m : ℕ) (there : OpenPlace)
    → ended ≡ false → known ≢ [] → IsNoNextOf (parts_said front known ++ end_said ended n m) (Open there)
no_place_next front known true n m there so some opens clients more same = absurd (cc)
no_place_next front known false n m there so some opens clients more same =
    let whole = same ∙ ap (λ l. l ++ Open there ∷ more) (append-nil (parts_said front known)) in
    let tail = tail_of opens clients front known (Open there ∷ more) (length opens) (length clients) whole in
    elim tail.order [
      | inl none ↦ some none
      | inr none ↦ no_open tail.later tail.others (length opens) (length clients) there more none tail.rest_is
    ]

pub no_end_next : (front : List OpenPlace) (known : Known) (ended : Bool) (n m o c : ℕ) → ended ≡ false
    → ((o ≡ length front) → (c ≡ length known) → ⊥)
    → IsNoNextOf (parts_said front known ++ end_said ended n m) (End o c)
no_end_next front known true n m o c so other opens clients more same = absurd (cc)
no_end_next front known false n m o c so other opens clients more same =
    let whole = same ∙ ap (λ l. l ++ End o c ∷ more) (append-nil (parts_said front known)) in
    let ends = ends_so opens front clients known o c more whole in
    other (sym ends.places ∙ ap length ends.opens_are) (sym ends.numbers ∙ ap length ends.clients_are)

-- nothing comes after the end
some_more : (x : StateLine) (xs : List StateLine) → x ∷ xs ≡ [] → ⊥
some_more x xs same = absurd (cc)

joined_end : (front : List StateLine) (n m : ℕ) (x : StateLine) (more : List StateLine)
    → (front ++ End n m ∷ []) ++ x ∷ more ≡ front ++ End n m ∷ x ∷ more
joined_end [] n m x more = refl
joined_end (y ∷ front) n m x more = ap (λ l. y ∷ l) (joined_end front n m x more)

pub nothing_next : (front : List OpenPlace) (known : Known) (ended : Bool) (n m : ℕ) (said : StateLine)
    → ended ≡ true → IsNoNextOf (parts_said front known ++ end_said ended n m) said
nothing_next front known false n m said so opens clients more same = absurd (cc)
nothing_next front known true n m said so opens clients more same =
    let whole = same ∙ joined_end (parts_said front known) n m said more in
    some_more said more (ends_so opens front clients known n m (said ∷ more) whole).last

-- ---- all of it

-- without its end it isn't all
pub not_all : (opens front : List OpenPlace) (clients known : Known) (ended : Bool) (n m : ℕ) → ended ≡ false
    → all_said opens clients ≡ parts_said front known ++ end_said ended n m → ⊥
not_all opens front clients known true n m so same = absurd (cc)
not_all opens front clients known false n m so same =
    let tail = tail_of opens clients front known [] (length opens) (length clients) same in
    nothing tail.later tail.others (length opens) (length clients) tail.rest_is
  where
    nothing : (later : List OpenPlace) (others : Known) (n m : ℕ)
        → [] ≡ parts_said later others ++ End n m ∷ [] → ⊥
    nothing [] [] n m same = absurd (cc)
    nothing [] (k ∷ others) n m same = absurd (cc)
    nothing (a ∷ later) others n m same = absurd (cc)

-- what is said is said of one list of places and one of clients
pub parts_once : (opens front : List OpenPlace) (clients known : Known)
    → all_said opens clients ≡ all_said front known → (opens ≡ front) × (clients ≡ known)
parts_once opens front clients known same =
    let ends = ends_so opens front clients known (length front) (length known) [] same in
    (ends.opens_are, ends.clients_are)
