-- The clients of a table as a rising list: it has each client with a session, no other, and its length is the
-- number of sessions.
use Rattle.std.proofs.Common.{◌≡◌, ℕ, zero, suc, add-one, Bool, true, false, ◌&&◌, T, ◌<◌, List, [], ◌∷◌}
use Rattle.std.proofs.Common.{map, IsSome, refl, sym, ◌∙◌, arith}
use Rattle.std.specs.Prelude.{Contains, ◌↔◌}
use Rattle.std.specs.List.Sorted.{IsStrictlyIncreasing}
use Rattle.std.specs.declared.cmp.Ordering.{Ordering}
use Rattle.std.specs.declared.cmp.Ordering.TheVariants.{Less, Equal, Greater}
use Rattle.std.specs.Ordering.{nat_cmp, is_lt}
use Rattle.std.specs.Cmp.{ranked, nat_cmp_total}
use Rattle.std.proofs.lemmas.Cmp.{eq_by_cmp_equiv}
use Rattle.std.proofs.lemmas.Map.Views.{list_any-from_Contains, Contains-from_any}
use Rattle.std.specs.FinMap.{keys, contains_key-keys, is_sorted}
use Rattle.rv_session.specs.declared.session.Session.{Session}
use Rattle.rv_session.specs.Table.{Table, session_of}
use Rattle.rv_session.proofs.Mapping.{are_same}

abbrev pub clients_of : Table → List ℕ
clients_of t = keys t.sessions

first_holds : (a b : Bool) → T (a && b) → T a
first_holds true b h = tt
first_holds false b h = absurd h

second_holds : (a b : Bool) → T (a && b) → T b
second_holds true b h = h
second_holds false b h = absurd h

is_less : (r : Ordering) → T (is_lt r) → r ≡ Less
is_less Less h = refl
is_less Equal h = absurd h
is_less Greater h = absurd h

less_by_cmp : (x y : ℕ) → T (is_lt (nat_cmp x y)) → x < y
less_by_cmp x y h = ranked x y Less (sym (is_less (nat_cmp x y) h))

rises : (es : List (ℕ × Session)) → T (is_sorted nat_cmp es) → IsStrictlyIncreasing (map (λ e. e.0) es)
rises [] h k below = absurd (omega arith)
rises (e ∷ []) h k below = absurd (omega arith)
rises (e ∷ f ∷ es) h zero below = less_by_cmp e.0 f.0 (first_holds _ _ (first_holds _ _ h))
rises (e ∷ f ∷ es) h (suc k) below =
    rw (add-one (suc k)) (rw (add-one k) at (rises (f ∷ es) (second_holds _ _ h) k (omega arith)))

pub clients_are : (t : Table) (client : ℕ) → Contains (clients_of t) client ↔ IsSome (session_of t client)
clients_are t client = (
  λ in_list. contains_key-keys t.sessions client ∙ list_any-from_Contains (eq_by_cmp_equiv nat_cmp_total)
      client (clients_of t) in_list,
  λ known. Contains-from_any are_same client (clients_of t) (sym (contains_key-keys t.sessions client)
      ∙ known),
)
