-- One connection of which what may leave leaves.
use Rattle.std.proofs.Common.{◌≡◌, ◌⊎◌, ◌<◌, ◌≤◌, ◌+◌, ◌∷◌, ◌∙◌, ℕ, List, [], Option}
use Rattle.std.proofs.Common.{None, Some}
use Rattle.std.proofs.Common.{arith, refl, sym, ap, subst, inl, inr, IsSome, unwrap_or}
use Rattle.std.specs.Option.{IsSomeAnd}
use Rattle.rv_server_connections.specs.Table.{get, with_slot}
use Rattle.rv_server_connections.specs.connection.Traffic.{AnswerByte, Traffic, first_rests_on, held_count}
use Rattle.rv_server_connections.specs.connection.Steps.{Releases}
use Rattle.rv_server_connections.specs.declared.subscribers.pairs.Pairs.{Pairs}
use Rattle.rv_server_connections.specs.subscribers.Pairs.{pair_count}
use Rattle.rv_server_connections.specs.declared.table.WireSlot.{WireSlot}
use Rattle.rv_server_connections.specs.declared.slots.Slots.{Slots}
use Rattle.rv_server_connections.specs.Connections.{IsReleased, ReleasesOpen, count_at}
use Rattle.rv_server_connections.specs.Fields.{HasIndex, IsSoundSlot, ReleasesOne, Remarks, slots_state}
use Rattle.rv_server_connections.specs.Fields.{wire_of}
use Rattle.rv_server_connections.proofs.Changing.{each_set, held_set, index_set, within_room, written}
use Rattle.rv_server_connections.proofs.Freeing.{first_later, holds_back, mark_higher, mark_low, mark_of_none}
use Rattle.rv_server_connections.proofs.Freeing.{mark_there, released_count, releases_none}
use Rattle.rv_server_connections.proofs.Sound.{same_Some}

some_none : (x : ℕ) → Some x ≡ None → ⊥
some_none x is = cc

-- ---- whether something is written

some_and : (o : Option ℕ) (written : ℕ) → IsSomeAnd o (λ e. e ≤ written)
    → (e : ℕ) × (o ≡ Some e) × (e ≤ written)
some_and None written never = absurd never
some_and (Some e) written low = (e, refl, low)

pub written_first : (o first : Option ℕ) (written : ℕ) → o ≡ first → IsSomeAnd o (λ e. e ≤ written)
    → (e : ℕ) × (first ≡ Some e) × (e ≤ written)
written_first o first written same low =
    let found = some_and o written low in
    (found.0, sym same ∙ found.1, found.2)

pub later_first : (o first : Option ℕ) (written : ℕ) → o ≡ first → (IsSomeAnd o (λ e. e ≤ written) → ⊥)
    → (e : ℕ)
    → first ≡ Some e → written < e
later_first o first written same never e is = above e written (λ low. never
    (subst (λ (x : Option ℕ). IsSomeAnd x (λ n. n ≤ written)) (sym (same ∙ is)) low))
  where
    above : (a b : ℕ) → (a ≤ b → ⊥) → b < a
    above = grind arith

-- ---- nothing is let go

pub stays_released : (s : Slots) (c written : ℕ) (slot : WireSlot) → get s.slots c ≡ Some slot
    → ((e : ℕ) → first_rests_on slot.wire.behind ≡ Some e → written < e) → ReleasesOne written s c s
stays_released s c written slot there later = record {
  own = subst (λ (o : Option WireSlot). ReleasesOpen written (wire_of o) (wire_of o)) (sym there)
      (releases_none written slot.wire (holds_back written slot.wire.behind later));
  others = λ other apart. refl;
}

-- ---- something is

module _ (s : Slots) (c now e : ℕ) (slot : WireSlot) (wire : Traffic) (indexed : HasIndex s)
    (there : get s.slots c ≡ Some slot) (releases : Releases now slot.wire wire)
    (first : first_rests_on slot.wire.behind ≡ Some e) (low : e ≤ now) where
  abbrev was : IsSoundSlot slot
  was = indexed.counted.each c slot there

  later : (n : ℕ) → first_rests_on wire.behind ≡ Some n → now < n
  later = first_later now wire.behind releases.frees.held_back

  pub was_marked : IsSome slot.mark
  was_marked = mark_there slot.mark e (was.marked e first)

  differs : (o : Option ℕ) → first_rests_on wire.behind ≡ o → o ≡ slot.mark → ⊥
  differs None none same = mark_of_none slot.mark e (sym same) (was.marked e first)
  differs (Some k) some same =
      let under : k ≤ e = mark_low slot.mark e k (sym same) (was.marked e first) in
      let above : now < k = later k some in
      omega (arith, under, above, low)

  pub mark_differs : (next : Option ℕ) → next ≡ first_rests_on wire.behind → next ≡ slot.mark → ⊥
  mark_differs next is same = differs next (sym is) same

  module _ (mark next : Option ℕ) (index : Pairs) (next_is : next ≡ first_rests_on wire.behind)
      (moved : Remarks s.index c mark index) (which : (mark ≡ next) ⊎ ((mark ≡ slot.mark) × IsSome next))
      (count : pair_count index ≤ pair_count s.index) where
    abbrev new : WireSlot
    new = record { wire = wire; mark = mark }

    marks : (n : ℕ) → first_rests_on wire.behind ≡ Some n → unwrap_or mark (n + 1) ≤ n
    marks n some = elim which [
      | inl same ↦
          let is : unwrap_or mark (n + 1) ≡ n =
          ap (λ (m : Option ℕ). unwrap_or m (n + 1)) (same ∙ next_is ∙ some) in
          omega (arith, is)
      | inr old ↦ subst (λ (m : Option ℕ). unwrap_or m (n + 1) ≤ n) (sym old.0)
          (mark_higher slot.mark e n (was.marked e first) (let above : now < n = later n some in
          omega (arith, above, low)))
    ]

    none_is : (o : Option ℕ) → IsSome o → o ≡ None → ⊥
    none_is None some none = absurd (cc)
    none_is (Some k) some none = some_none k none

    unmarks : first_rests_on wire.behind ≡ None → mark ≡ None
    unmarks none = elim which [
      | inl same ↦ same ∙ next_is ∙ none
      | inr old ↦ absurd (none_is next old.1 (next_is ∙ none))
    ]

    pub released_indexed : HasIndex (record s { slots = with_slot s.slots c new; index = index })
    released_indexed =
        let sets = written s.slots c slot new there in
        let within = within_room (get s.slots) c s.slots.room slot indexed.counted.held.all_below there in
        let same : held_count wire ≡ held_count slot.wire = released_count now slot.wire wire releases in
        record {
          counted = record {
            each = each_set IsSoundSlot (get s.slots) _ c (Some new) sets indexed.counted.each
                (λ x is. subst IsSoundSlot (same_Some new x is)
                (record { marked = marks; unmarked = unmarks; short = omega (arith, was.short, same) }));
            held = held_set (get s.slots) _ c s.slots.room s.slots.room s.held s.held (Some new) sets
                indexed.counted.held (omega arith) within
                (ap (λ k. s.held + k) (ap (λ (o : Option WireSlot). count_at held_count (wire_of o)) there
                ∙ sym same));
          };
          indexed = index_set s.index index (get s.slots) _ c (Some new) mark sets indexed.indexed moved
              (λ n. refl);
          room = omega (arith, count, indexed.room);
          looks = omega (arith, count, indexed.looks);
        }

  split_behind : (behind : List AnswerByte) → first_rests_on behind ≡ Some e
      → (b : AnswerByte) × (more : List AnswerByte) × (behind ≡ b ∷ more) × (b.rests_on ≡ e)
  split_behind [] is = absurd (some_none e (sym is))
  split_behind (b ∷ more) is = (b, more, refl, same_Some b.rests_on e is)

  pub is_released : IsReleased (slots_state s) now c
  is_released =
      let parts = split_behind slot.wire.behind first in
      let same : parts.0.rests_on ≡ e = parts.3 in
      record {
        wire = slot.wire;
        there = ap wire_of there;
        first = parts.0;
        more = parts.1;
        behind = parts.2;
        free = omega (arith, same, low);
      }
