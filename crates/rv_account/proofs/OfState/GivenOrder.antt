-- What a function gives of a list, and what a front of it has, stands in the list's order.
use Rattle.rv_account.proofs.OfState.Words.{◌≡◌, ◌<◌, ◌∷◌, ◌∙◌, ℕ, zero, suc, List, [], take, Option, Some}
use Rattle.rv_account.proofs.OfState.Words.{None, refl}
use Rattle.rv_account.proofs.OfState.Words.{arith, cons_option, slice_get, none-some}
use Rattle.std.specs.List.{filter_map}
use Rattle.rv_account.proofs.OfState.Filtered.{InOrder, filter_map_get, take_get}

-- two elements of a list, the one before the other, of which a function gives these
pub record GivesBoth {X Y : Type 0} (h : X → Option Y) (xs : List X) (u v : Y) : Type 0 where
  pub x : X
  pub y : X
  pub order : InOrder xs x y
  pub gives : h x ≡ Some u
  pub gives_later : h y ≡ Some v

module _ {X Y : Type 0} (h : X → Option Y) where
  both_later : (z : X) (xs : List X) (u v : Y) → GivesBoth h xs u v → GivesBoth h (z ∷ xs) u v
  both_later z xs u v both =
      record {
        x = both.x;
        y = both.y;
        order = (suc both.order.0, suc both.order.1, omega (arith, both.order.2), both.order.3, both.order.4);
        gives = both.gives;
        gives_later = both.gives_later;
      }

  both_of_head : (z : X) (xs : List X) (u v : Y)
      → ((i j : ℕ) → i < j → slice_get (filter_map h xs) i ≡ Some u → slice_get (filter_map h xs) j ≡ Some v
      → GivesBoth h xs u v)
      → (o : Option Y) → h z ≡ o → (i j : ℕ) → i < j
      → slice_get (cons_option o (filter_map h xs)) i ≡ Some u
      → slice_get (cons_option o (filter_map h xs)) j ≡ Some v → GivesBoth h (z ∷ xs) u v
  both_of_head z xs u v rest None is i j less first second =
      both_later z xs u v (rest i j less first second)
  both_of_head z xs u v rest (Some w) is i zero less first second = absurd (omega arith)
  both_of_head z xs u v rest (Some w) is zero (suc j) less first second =
      let found = filter_map_get h xs j v second in
      record {
        x = z;
        y = found.1;
        order = (0, suc found.0, omega arith, refl, found.2);
        gives = is ∙ first;
        gives_later = found.3;
      }
  both_of_head z xs u v rest (Some w) is (suc i) (suc j) less first second =
      both_later z xs u v (rest i j (omega arith) first second)

  pub filter_map_order : (xs : List X) (i j : ℕ) (u v : Y) → i < j → slice_get (filter_map h xs) i ≡ Some u
      → slice_get (filter_map h xs) j ≡ Some v → GivesBoth h xs u v
  filter_map_order [] i j u v less first second = absurd (none-some u first)
  filter_map_order (z ∷ xs) i j u v less first second =
      both_of_head z xs u v (λ k l. filter_map_order xs k l u v) (h z) refl i j less first second

pub take_order : {X : Type 0} (xs : List X) (n : ℕ) (x y : X) → InOrder (take n xs) x y → InOrder xs x y
take_order xs n x y order =
    (order.0, order.1, order.2, take_get xs n order.0 x order.3, take_get xs n order.1 y order.4)
