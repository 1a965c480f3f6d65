-- What is written to a connection.
use Rattle.std.proofs.Common.{◌≡◌, ◌<◌, ◌≤◌, ℕ, IsSome, List, None, Option, Some, arith, false, length}
use Rattle.std.proofs.Common.{◌∷◌, [], inl, inr, nat_eq, true}
use Rattle.std.proofs.Common.{option_map, refl, suc, subst, sym, take, zero}
use Rattle.std.proofs.lemmas.Bool.{eqb-true, false≢true}
use Rattle.rv_traffic.specs.declared.links.link.Socket.{Socket}
use Rattle.rv_traffic.specs.declared.links.link.WriteOutcome.TheVariants as output
use Rattle.rv_traffic.specs.links.Table.{ChangesOne, IsWritable, WritesSlot, link_at, rested}
use Rattle.rv_traffic.specs.Calls.{ChangesLink, TookNone, TookSome}
use Rattle.rv_traffic.proofs.Tables.{keeps_same}

-- a list that isn't empty has a member
some_count : (count : ℕ) → nat_eq count 0 ≡ false → 0 < count
some_count zero is = absurd (false≢true (sym is))
some_count (suc n) is = omega arith

pub none_ready : (ready : List ℕ) → nat_eq (length ready) 0 ≡ true → ready ≡ []
none_ready [] is = refl
none_ready (b ∷ ready) is =
    let zero_long : suc (length ready) ≡ 0 = eqb-true (length (b ∷ ready)) 0 is in
    absurd (omega (arith, zero_long))

pub some_ready : (ready : List ℕ) → nat_eq (length ready) 0 ≡ false → 0 < length ready
some_ready ready is = some_count (length ready) is

module _ {S : Type 0} where
  -- a socket to which a write failed may be written to
  pub broken_writable : (contents : S → Option (List ℕ)) (now : ℕ) (o : Option (Socket S)) (ready : List ℕ)
      (new : Option (Socket S)) → WritesSlot contents now o ready output.Broken new → IsWritable o
  broken_writable contents now None ready new (nothing, is) =
      absurd (let differ : output.Broken ≡ output.Nothing = nothing in cc)
  broken_writable contents now (Some link) ready new (after, wrote, is) = wrote.takes.0

  pub took_within : (contents : S → Option (List ℕ)) (now : ℕ) (o : Option (Socket S)) (ready : List ℕ)
      (count : ℕ) (new : Option (Socket S)) → WritesSlot contents now o ready (output.Took count) new
      → (0 < count) × (count ≤ length ready)
  took_within contents now None ready count new (nothing, is) =
      absurd (let differ : output.Took count ≡ output.Nothing = nothing in cc)
  took_within contents now (Some link) ready count new (after, writes, is) =
      (writes.takes.0, writes.takes.1)

  took_some : (contents : S → Option (List ℕ)) (now : ℕ) (old new : List (Option (Socket S))) (n : ℕ)
      (ready : List ℕ) (count : ℕ)
      → WritesSlot contents now (link_at old n) ready (output.Took count) (link_at new n)
      → ChangesOne old n new → ChangesLink old n (TookSome contents now (take count ready)) new
  took_some contents now old new n ready count writes others = at (link_at old n) refl writes
    where
      at : (o : Option (Socket S)) → link_at old n ≡ o
          → WritesSlot contents now o ready (output.Took count) (link_at new n)
          → ChangesLink old n (TookSome contents now (take count ready)) new
      at None is (nothing, is_new) = absurd (let differ : output.Took count ≡ output.Nothing = nothing in cc)
      at (Some link) is (after, wrote, is_new) = record {
        link = link;
        after = after;
        there = is;
        changes = record {
          appends = wrote.takes.3;
          rest = wrote.rest;
          writable = wrote.writable;
          moved = wrote.moved;
          sent = wrote.sent;
        };
        is = is_new;
        others = others;
      }

  pub took_none : (contents : S → Option (List ℕ)) (now : ℕ) (old new : List (Option (Socket S))) (n : ℕ)
      (ready : List ℕ) → IsSome (link_at old n) → 0 < length ready
      → WritesSlot contents now (link_at old n) ready output.Nothing (link_at new n) → ChangesOne old n new
      → ChangesLink old n (TookNone contents now ready) new
  took_none contents now old new n ready there some_bytes writes others = at (link_at old n) refl there writes
    where
      at : (o : Option (Socket S)) → link_at old n ≡ o → IsSome o
          → WritesSlot contents now o ready output.Nothing (link_at new n)
          → ChangesLink old n (TookNone contents now ready) new
      at None is some none = absurd (false≢true some)
      at (Some link) is some (after, wrote, is_new) = record {
        link = link;
        after = after;
        there = is;
        changes = record { keeps = wrote.takes; rest = wrote.rest; why = inr (some_bytes, wrote) };
        is = is_new;
        others = others;
      }

  -- nothing was there to leave
  pub rested_none : (contents : S → Option (List ℕ)) (old new : List (Option (Socket S))) (n now : ℕ)
      (ready : List ℕ) → ready ≡ [] → IsSome (link_at old n)
      → link_at new n ≡ option_map (λ link. rested link now) (link_at old n)
      → ChangesOne old n new → ChangesLink old n (TookNone contents now ready) new
  rested_none contents old new n now ready none_left there rests others = at (link_at old n) refl there rests
    where
      at : (o : Option (Socket S)) → link_at old n ≡ o → IsSome o
          → link_at new n ≡ option_map (λ link. rested link now) o
          → ChangesLink old n (TookNone contents now ready) new
      at None is some none = absurd (false≢true some)
      at (Some link) is some is_new = record {
        link = link;
        after = rested link now;
        there = is;
        changes = record {
          keeps = keeps_same (contents link.stream);
          rest = record { pending = refl; readable = refl; heard = refl };
          why = inl (none_left, refl);
        };
        is = is_new;
        others = others;
      }

  -- the bytes that a connection has ready
  pub took_ready : (contents : S → Option (List ℕ)) (now : ℕ) (old new : List (Option (Socket S))) (n : ℕ)
      (ready same : List ℕ) (count : ℕ) → ready ≡ same
      → WritesSlot contents now (link_at old n) ready (output.Took count) (link_at new n)
      → ChangesOne old n new → ChangesLink old n (TookSome contents now (take count same)) new
  took_ready contents now old new n ready same count is writes others =
      subst (λ (l : List ℕ). ChangesLink old n (TookSome contents now (take count l)) new) is
      (took_some contents now old new n ready count writes others)
