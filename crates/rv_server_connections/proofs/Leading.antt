-- To which connections the index leads, and what is so once each was looked at.
use Rattle.std.proofs.Common.{◌≡◌, ◌≢◌, ◌<◌, ◌≤◌, ◌+◌, ◌∷◌, ◌∙◌, ℕ, List, [], true, Option, None, Some}
use Rattle.std.proofs.Common.{arith, refl, sym, ap, subst, IsSome, Contains, length, nat_eq, unwrap_or}
use Rattle.std.proofs.Common.{vec_capacity}
use Rattle.std.specs.List.{AllPairs}
use Rattle.std.proofs.lemmas.Bool.{false≢true}
use Rattle.rv_server_connections.specs.Table.{TableState, get}
use Rattle.rv_server_connections.specs.connection.Traffic.{Traffic}
use Rattle.rv_server_connections.specs.connection.Steps.{HoldsBack, Releases}
use Rattle.rv_server_connections.specs.declared.subscribers.pairs.Pairs.{Pairs}
use Rattle.rv_server_connections.specs.subscribers.Pairs.{ListsUpTo, StandOnce, StandsUpTo, pair_count}
use Rattle.rv_server_connections.specs.declared.table.WireSlot.{WireSlot}
use Rattle.rv_server_connections.specs.declared.slots.Slots.{Slots}
use Rattle.rv_server_connections.specs.Connections.{IsReleased, ReleasesAll, ReleasesOpen}
use Rattle.rv_server_connections.specs.Fields.{IsIndexOf, IsReaching, IsReleasedAt, IsSoundSlot}
use Rattle.rv_server_connections.specs.Fields.{IsSoundSlots, has_mark, is_slot_marked, slots_state, wire_of}
use Rattle.rv_server_connections.specs.Fields.{wires_at}
use Rattle.rv_server_connections.proofs.Freeing.{first_later, holds_back, releases_none}
use Rattle.rv_server_connections.proofs.Sound.{same_Some, same_counted}

abbrev Table : Type 0
Table = ℕ → Option WireSlot

none_some : {A : Type 0} (x : A) → None ≡ Some x → ⊥
none_some x is = cc

-- ---- a mark is one number

same_number : (k n : ℕ) → nat_eq k n ≡ true → k ≡ n
same_number = grind arith

mark_at : (mark : Option ℕ) (n : ℕ) → has_mark mark n ≡ true → mark ≡ Some n
mark_at None n is = absurd (false≢true is)
mark_at (Some k) n is = ap Some (same_number k n is)

one_mark : (o : Option WireSlot) (m n : ℕ) → is_slot_marked o m ≡ true → is_slot_marked o n ≡ true → m ≡ n
one_mark None m n first second = absurd (false≢true first)
one_mark (Some slot) m n first second =
    same_Some m n (sym (mark_at slot.mark m first) ∙ mark_at slot.mark n second)

some_marked : (o : Option WireSlot) (n : ℕ) → is_slot_marked o n ≡ true → IsSome o
some_marked None n is = absurd (false≢true is)
some_marked (Some slot) n is = refl

stand_once : (index : Pairs) (slots : Table) → IsIndexOf index slots → StandOnce index
stand_once index slots indexed m n c first second =
    one_mark (slots c) m n (sym (indexed m c) ∙ first) (sym (indexed n c) ∙ second)

opens : (index : Pairs) (slots : Table) (written c : ℕ) → IsIndexOf index slots → StandsUpTo index written c
    → IsSome (slots c)
opens index slots written c indexed stands =
    some_marked (slots c) stands.number (sym (indexed stands.number c) ∙ stands.there)

-- ---- what the index doesn't lead to holds back what isn't written

above : (a b : ℕ) → (a ≤ b → ⊥) → b < a
above = grind arith

own_number : (k : ℕ) → nat_eq k k ≡ true
own_number = grind arith

marked_later : (mark : Option ℕ) (written e : ℕ) → unwrap_or mark (e + 1) ≤ e
    → ((k : ℕ) → has_mark mark k ≡ true → k ≤ written → ⊥) → written < e
marked_later None written e low never = absurd (omega arith)
marked_later (Some k) written e low never =
    let over : written < k = above k written (never k (own_number k)) in
    omega (arith, over, low)

stays_open : (index : Pairs) (slots : Table) (written c : ℕ) → IsIndexOf index slots
    → (StandsUpTo index written c → ⊥) → (o : Option WireSlot) → slots c ≡ o
    → ((slot : WireSlot) → o ≡ Some slot → IsSoundSlot slot) → ReleasesOpen written (wire_of o) (wire_of o)
stays_open index slots written c indexed out None is sound = refl
stays_open index slots written c indexed out (Some slot) is sound =
    releases_none written slot.wire (holds_back written slot.wire.behind (λ e first.
    marked_later slot.mark written e ((sound slot refl).marked e first) (λ k marked low. out (record {
      number = k;
      up_to = low;
      there = indexed k c ∙ ap (λ (x : Option WireSlot). is_slot_marked x k) is ∙ marked;
    }))))

-- nor is anything let go of it
not_released : (slots : Table) (written c : ℕ) → IsReleasedAt slots written c
    → ReleasesOpen written (wires_at slots c) (wires_at slots c) → ⊥
not_released slots written c is opened =
    let releases : Releases written is.wire is.wire =
    subst (λ (o : Option Traffic). ReleasesOpen written o o) is.there opened in
    let held : HoldsBack written (is.first ∷ is.more) =
    subst (HoldsBack written) is.behind releases.frees.held_back in
    omega (arith, held, is.free)

-- ---- before the first is looked at

pub reaching_starts : (written : ℕ) (s t : Slots) → IsSoundSlots s → t.slots ≡ s.slots → t.index ≡ s.index
    → t.held ≡ s.held → t.released.items ≡ [] → vec_capacity t.released ≡ vec_capacity s.released
    → vec_capacity t.reached ≡ vec_capacity s.reached → ListsUpTo s.index written t.reached.items
    → length t.reached.items ≤ pair_count s.index → IsReaching written (get s.slots) t
reaching_starts written s t sound slots index held none room looks lists few =
    let indexed = sound.indexed.indexed in
    let count : pair_count t.index ≡ pair_count s.index = ap pair_count index in
    let same = λ (c : ℕ). ap (λ (x : TableState). get x c) slots in
    let stays = λ (c : ℕ) (out : Contains t.reached.items c → ⊥).
    stays_open s.index (get s.slots) written c indexed (λ stands. out ((lists.each c).1 stands))
    (get s.slots c)
    refl (λ slot is. sound.indexed.counted.each c slot is) in
    record {
      indexed = record {
        counted = same_counted s t sound.indexed.counted slots held;
        indexed = subst (λ (p : Pairs). IsIndexOf p (get t.slots)) (sym index)
            (subst (λ (x : TableState). IsIndexOf s.index (get x)) (sym slots) indexed);
        room = omega (arith, count, room, sound.indexed.room);
        looks = omega (arith, count, looks, sound.indexed.looks);
      };
      apart = lists.once (stand_once s.index (get s.slots) indexed);
      opens = λ c there. opens s.index (get s.slots) written c indexed ((lists.each c).0 there);
      left = λ c there. same c;
      done = λ c out. subst (λ (o : Option WireSlot). ReleasesOpen written (wires_at (get s.slots) c)
          (wire_of o))
          (sym (same c)) (stays c out);
      once = subst (λ (l : List ℕ). AllPairs (λ one other. one ≢ other) l) (sym none)
          (λ i j d less within is. absurd (omega (arith, less, within)));
      listed = λ c there. absurd (nothing c (subst (λ (l : List ℕ). Contains l c) none there));
      all_listed = λ c is out. absurd (not_released (get s.slots) written c is (stays c out));
      fits = omega (arith, ap length none, few, sound.indexed.room, room);
    }
  where
    nothing : (c : ℕ) → Contains [] c → ⊥
    nothing c there = omega (arith, there.1)

-- ---- once each was looked at

held_after : (written : ℕ) (before : Option Traffic) (slot : WireSlot)
    → ReleasesOpen written before (Some slot.wire) → HoldsBack written slot.wire.behind
held_after written None slot opened = absurd (none_some slot.wire (sym opened))
held_after written (Some wire) slot opened =
    let releases : Releases written wire slot.wire = opened in
    releases.frees.held_back

module _ (written : ℕ) (s t : Slots) (was : IsReaching written (get s.slots) t)
    (none : t.reached.items ≡ []) where
  out : (c : ℕ) → Contains t.reached.items c → ⊥
  out c there = nothing (subst (λ (l : List ℕ). Contains l c) none there)
    where
      nothing : Contains [] c → ⊥
      nothing has = omega (arith, has.1)

  pub reached_sound : IsSoundSlots (record t { written = written })
  reached_sound = record {
    indexed = record {
      counted = record { each = was.indexed.counted.each; held = was.indexed.counted.held };
      indexed = was.indexed.indexed;
      room = was.indexed.room;
      looks = was.indexed.looks;
    };
    held_back = λ c slot there. first_later written slot.wire.behind
        (held_after written (wires_at (get s.slots) c) slot
        (subst (λ (o : Option WireSlot). ReleasesOpen written (wires_at (get s.slots) c) (wire_of o)) there
        (was.done c (out c))));
  }

  pub reached_all : ReleasesAll (slots_state s) written (slots_state (record t { written = written }))
  reached_all = record {
    each = λ c. was.done c (out c);
    written_is = refl;
    listed = λ c. (λ there. is_so c (was.listed c there).0, λ is. was.all_listed c (was_so c is) (out c));
    once = was.once;
  }
    where
      is_so : (c : ℕ) → IsReleasedAt (get s.slots) written c → IsReleased (slots_state s) written c
      is_so c is = record {
        wire = is.wire;
        there = is.there;
        first = is.first;
        more = is.more;
        behind = is.behind;
        free = is.free;
      }

      was_so : (c : ℕ) → IsReleased (slots_state s) written c → IsReleasedAt (get s.slots) written c
      was_so c is = record {
        wire = is.wire;
        there = is.there;
        first = is.first;
        more = is.more;
        behind = is.behind;
        free = is.free;
      }
