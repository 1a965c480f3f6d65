-- What the table says of a key, it says for the reason that its meaning names.
use Rattle.std.proofs.Common.{◌≡◌, ◌≢◌, inl, inr, ℕ, ◌<◌, ◌≤◌, ◌==◌, ◌+◌, [], ◌∷◌, Bool, true, false, cond}
use Rattle.std.proofs.Common.{Option, Some, None, is_some, option_and_then, nat_lt, refl, sym, ap, ◌∙◌, arith}
use Rattle.std.proofs.lemmas.Bool.{false≢true}
use Rattle.std.proofs.lemmas.Bool.Decides.{nat_tests}
use Rattle.rv_text.specs.declared.message.Key.{Key}
use Rattle.rv_text.specs.declared.answer.Refusal.TheVariants.{OldNumber, Busy, Gap}
use Rattle.rv_session.specs.declared.standing.Standing.TheVariants.{Refused, Next}
use Rattle.rv_session.specs.declared.session.Session.{Session}
use Rattle.rv_session.specs.declared.session.RequestState.{RequestState}
use Rattle.rv_session.specs.declared.session.RequestState.TheVariants.{Fresh, Waits, Settled}
use Rattle.rv_session.specs.Table.{Table, session_of, waiting_place}
use Rattle.rv_session.specs.Standings.{first_that_holds, standing_last, standing_in}
use Rattle.rv_session.specs.Meanings.{OfSession, StandingMeans}

-- a line: what holds where its condition holds, and where it doesn't, holds of what it decides
pub by_line : {A : Type 0} (Means : A → Type 0) (b : Bool) (x y : A) → (b ≡ true → Means x)
    → (b ≡ false → Means y) → Means (cond b x y)
by_line Means true x y there not_there = there refl
by_line Means false x y there not_there = not_there refl

pub less : (a b : ℕ) → nat_lt a b ≡ true → a < b
less a b e = grind (arith, nat_tests)

pub not_less : (a b : ℕ) → nat_lt a b ≡ false → b ≤ a
not_less a b e = grind (arith, nat_tests)

pub same : (a b : ℕ) → (a == b) ≡ true → a ≡ b
same a b e = grind (arith, nat_tests)

pub not_same : (a b : ℕ) → (a == b) ≡ false → a ≢ b
not_same a b e = grind (arith, nat_tests)

pub some_of : (o : Option ℕ) → is_some o ≡ true → (x : ℕ) × (o ≡ Some x)
some_of None e = absurd (false≢true e)
some_of (Some x) e = (x, refl)

pub none_of : (o : Option ℕ) → is_some o ≡ false → o ≡ None
none_of None e = refl
none_of (Some x) e = absurd (false≢true (sym e))

standing_last_means : (t : Table) (key : Key) (s : Session) (stands : RequestState) → OfSession t key s
    → key.number ≡ s.last → s.state ≡ stands → StandingMeans t key (standing_last s.last stands)
standing_last_means t key s Fresh of_key number is = record {
  session = s;
  of_key = of_key;
  last_is = refl;
  old = inr (number, is);
}
standing_last_means t key s (Waits place) of_key number is = record {
  session = s;
  of_key = of_key;
  number =
      number;
  state = is;
}
standing_last_means t key s (Settled place kept) of_key number is = record {
  session = s;
  of_key = of_key;
  number = number;
  state = is;
}

where_waiting : (o : Option Session) (s : Session) → o ≡ Some s → is_some (waiting_place s.state) ≡ true
    → (place : ℕ) × (option_and_then (λ (x : Session). waiting_place x.state) o ≡ Some place)
where_waiting o s there waits =
    let at = some_of (waiting_place s.state) waits in
    (at.0, ap (option_and_then (λ (x : Session). waiting_place x.state)) there ∙ at.1)

where_idle : (o : Option Session) (s : Session) → o ≡ Some s → is_some (waiting_place s.state) ≡ false
    → option_and_then (λ (x : Session). waiting_place x.state) o ≡ None
where_idle o s there idle = ap (option_and_then (λ (x : Session). waiting_place x.state)) there
    ∙ none_of (waiting_place s.state) idle

-- the lines for a key of the session's incarnation
number_means : (t : Table) (key : Key) (s : Session) → OfSession t key s
    → StandingMeans t key (first_that_holds
    ((nat_lt key.number s.last, Refused (OldNumber s.last))
    ∷ (key.number == s.last, standing_last s.last s.state)
    ∷ (is_some (waiting_place s.state), Refused (Busy s.last))
    ∷ (nat_lt (s.last + 1) key.number, Refused (Gap s.last))
    ∷ []) Next)
number_means t key s of_key =
    by_line (StandingMeans t key) (nat_lt key.number s.last) _ _
    (λ below. record {
      session = s;
      of_key = of_key;
      last_is = refl;
      old = inl (less key.number s.last below);
    })
    (λ not_below. by_line (StandingMeans t key) (key.number == s.last) _ _
    (λ is. standing_last_means t key s s.state of_key (same key.number s.last is) refl)
    (λ apart.
    let above : s.last < key.number = omega (
      arith,
      not_less key.number s.last not_below,
      not_same key.number
          s.last apart,
    ) in
    by_line (StandingMeans t key) (is_some (waiting_place s.state)) _ _
    (λ waits.
    let at = where_waiting (session_of t key.client) s of_key.there waits in
    record { session = s; of_key = of_key; last_is = refl; above = above; place = at.0; waits = at.1 })
    (λ idle. by_line (StandingMeans t key) (nat_lt (s.last + 1) key.number) _ _
    (λ gap. record {
      session = s;
      of_key = of_key;
      last_is = refl;
      above = less (s.last + 1) key.number gap;
      idle = where_idle (session_of t key.client) s of_key.there idle;
    })
    (λ next. record {
      session = s;
      of_key = of_key;
      number = omega (arith, not_less (s.last + 1) key.number next);
      idle = where_idle (session_of t key.client) s of_key.there idle;
    }))))

pub standing_in_means : (t : Table) (key : Key) (s : Session) → key.epoch ≡ t.epoch
    → session_of t key.client ≡ Some s → StandingMeans t key (standing_in s key)
standing_in_means t key s epoch there =
    by_line (StandingMeans t key) (nat_lt s.incarnation key.incarnation) _ _
    (λ lower. record { epoch = epoch; lacks = inr (s, there, less s.incarnation key.incarnation lower) })
    (λ not_lower. by_line (StandingMeans t key) (nat_lt key.incarnation s.incarnation) _ _
    (λ greater. record {
      session = s;
      of_key = record { epoch = epoch; there = there };
      current_is = refl;
      greater = less key.incarnation s.incarnation greater;
    })
    (λ not_greater.
    let same_incarnation : s.incarnation ≡ key.incarnation =
    omega (
      arith,
      not_less s.incarnation key.incarnation not_lower,
      not_less key.incarnation s.incarnation
          not_greater,
    ) in
    number_means t key s (record { epoch = epoch; there = there; incarnation = same_incarnation })))
