-- The slots stay sound where a connection was given an answer.
use Rattle.std.proofs.Common.{◌≡◌, ◌⊎◌, ◌<◌, ◌≤◌, ◌+◌, ◌∙◌, ℕ, List, Option, None, Some, arith, refl}
use Rattle.std.proofs.Common.{sym, ap, subst}
use Rattle.std.proofs.Common.{true, false, inl, inr, IsSome, unwrap_or, vec_capacity}
use Rattle.rv_server_connections.specs.Table.{TableState, get, with_slot}
use Rattle.rv_server_connections.specs.connection.Traffic.{Traffic, first_rests_on, held_count}
use Rattle.rv_server_connections.specs.connection.Steps.{AnswersBy, owing}
use Rattle.rv_server_connections.specs.declared.connection.AnswerTo.{AnswerTo}
use Rattle.rv_server_connections.specs.declared.connection.AnswerTo.TheVariants as to
use Rattle.rv_server_connections.specs.declared.slots.Given.{Given}
use Rattle.rv_server_connections.specs.declared.subscribers.pairs.Pairs.{Pairs}
use Rattle.rv_server_connections.specs.subscribers.Pairs.{ChangesPairs, SamePairs, pair_count}
use Rattle.rv_server_connections.specs.declared.table.WireSlot.{WireSlot}
use Rattle.rv_server_connections.specs.declared.slots.Slots.{Slots}
use Rattle.rv_server_connections.specs.Connections.{count_at}
use Rattle.rv_server_connections.specs.Fields.{AreHeldBack, Gives, IsHeldBack, IsHeldIn, IsIndexOf, HasIndex}
use Rattle.rv_server_connections.specs.Fields.{IsSoundSlot, IsSoundSlots, StandsToo, has_mark, is_slot_marked}
use Rattle.rv_server_connections.specs.Fields.{wire_of}
use Rattle.rv_server_connections.proofs.Changing.{each_set, held_set, index_set, index_stays, within_room}
use Rattle.rv_server_connections.proofs.Changing.{unwritten, written}
use Rattle.rv_server_connections.proofs.Marks.{added_alone, added_removed}
use Rattle.rv_server_connections.proofs.Freeing.{answered_behind, answered_first, answered_free, mark_of_none}
use Rattle.rv_server_connections.proofs.Sound.{same_Some, same_counted, same_sound, stands_at}

-- the mark fits what the held-back bytes rest on
pub record MarkFits (written : ℕ) (mark : Option ℕ) (wire : Traffic) : Type 0 where
  pub marked : (e : ℕ) → first_rests_on wire.behind ≡ Some e → unwrap_or mark (e + 1) ≤ e
  pub unmarked : first_rests_on wire.behind ≡ None → mark ≡ None
  pub later : (e : ℕ) → first_rests_on wire.behind ≡ Some e → written < e

given : (u : Slots) (c entries held : ℕ) (body : List ℕ) (mark : Option ℕ) (slot : WireSlot) (wire : Traffic)
    → IsHeldIn u → AreHeldBack u.written (get u.slots) → pair_count u.index ≤ vec_capacity u.released
    → pair_count u.index ≤ vec_capacity u.reached → get u.slots c ≡ Some slot → held_count wire ≤ 131071
    → held + held_count slot.wire ≡ u.held + held_count wire → MarkFits u.written mark wire
    → IsIndexOf u.index (get (with_slot u.slots c (record { wire = wire; mark = mark })))
    → IsSoundSlots (record u {
      slots = with_slot u.slots c (record { wire = wire; mark = mark });
      held = held;
    })
given u c entries held body mark slot wire counted held_back room looks there short counts fits indexed =
    let new : WireSlot = record { wire = wire; mark = mark } in
    let sets = written u.slots c slot new there in
    let within = within_room (get u.slots) c u.slots.room slot counted.held.all_below there in
    record {
      indexed = record {
        counted = record {
          each = each_set IsSoundSlot (get u.slots) _ c (Some new) sets counted.each
              (λ x same. subst IsSoundSlot (same_Some new x same)
              (record { marked = fits.marked; unmarked = fits.unmarked; short = short }));
          held = held_set (get u.slots) _ c u.slots.room u.slots.room u.held held (Some new) sets
              counted.held (omega arith) within
              (ap (λ k. held + k) (ap (λ (o : Option WireSlot). count_at held_count (wire_of o)) there)
              ∙ counts);
        };
        indexed = indexed;
        room = room;
        looks = looks;
      };
      held_back = each_set (IsHeldBack u.written) (get u.slots) _ c (Some new) sets held_back
          (λ x same. subst (IsHeldBack u.written) (same_Some new x same) fits.later);
    }

-- ---- an answer to a connection that keeps its mark

-- taking the frame changes nothing of what is held back
same_behind : (to : AnswerTo) (t : Traffic) → (owing to t).behind ≡ t.behind
same_behind to.Unread t = refl
same_behind to.Taken t = refl

kept_mark : (s : Slots) (c entries : ℕ) (body : List ℕ) (slot : WireSlot) (from wire : Traffic)
    → IsSoundSlots s
    → get s.slots c ≡ Some slot → from.behind ≡ slot.wire.behind → AnswersBy s.written from entries body wire
    → IsSome slot.mark ⊎ (entries ≤ s.written) → (o : Option ℕ) → first_rests_on slot.wire.behind ≡ o
    → MarkFits s.written slot.mark wire
kept_mark s c entries body slot from wire sound there same answers which (Some e) is =
    let was = sound.indexed.counted.each c slot there in
    let later = sound.held_back c slot there e is in
    let first = answered_behind s.written entries e from wire body answers (ap first_rests_on same ∙ is) later
    in
    record {
      marked = λ n now. subst (λ k. unwrap_or slot.mark (k + 1) ≤ k) (same_Some e n (sym first ∙ now))
          (was.marked e is);
      unmarked = λ none. absurd (some_none e (sym first ∙ none));
      later = λ n now. subst (λ k. s.written < k) (same_Some e n (sym first ∙ now)) later;
    }
  where
    some_none : (x : ℕ) → Some x ≡ None → ⊥
    some_none x is = cc
kept_mark s c entries body slot from wire sound there same answers (inl marked) None is =
    absurd (is_none slot.mark marked ((sound.indexed.counted.each c slot there).unmarked is))
  where
    is_none : (mark : Option ℕ) → IsSome mark → mark ≡ None → ⊥
    is_none None marked none = absurd (cc)
    is_none (Some k) marked none = cc
kept_mark s c entries body slot from wire sound there same answers (inr free) None is =
    let none = answered_free s.written entries from wire body answers (ap first_rests_on same ∙ is) free in
    record {
      marked = λ n now. absurd (some_none n (sym now ∙ none));
      unmarked = λ again. (sound.indexed.counted.each c slot there).unmarked is;
      later = λ n now. absurd (some_none n (sym now ∙ none));
    }
  where
    some_none : (x : ℕ) → Some x ≡ None → ⊥
    some_none x is = cc

same_slot_index : (s : Slots) (c : ℕ) (slot new : WireSlot) → HasIndex s → get s.slots c ≡ Some slot
    → new.mark ≡ slot.mark → IsIndexOf s.index (get (with_slot s.slots c new))
same_slot_index s c slot new indexed there same =
    index_stays s.index (get s.slots) _ c (Some new) (written s.slots c slot new there) indexed.indexed
    (λ e. ap (λ (o : Option WireSlot). is_slot_marked o e) there ∙ ap (λ (m : Option ℕ). has_mark m e)
    (sym same))

pub gave_sound : (s : Slots) (c entries held : ℕ) (body : List ℕ) (to : AnswerTo) (slot new : WireSlot)
    (given_is : Given) → IsSoundSlots s → get s.slots c ≡ Some slot
    → Gives slot to s.written entries body slot.mark given_is new → IsSome slot.mark ⊎ (entries ≤ s.written)
    → held ≡ s.held + given_is.more
    → IsSoundSlots (record s { slots = with_slot s.slots c new; held = held })
gave_sound s c entries held body to slot new given_is sound there gives which held_is =
    given s c entries held body new.mark slot new.wire sound.indexed.counted sound.held_back
    sound.indexed.room sound.indexed.looks there gives.short (omega (arith, held_is, gives.more))
    (subst (λ (m : Option ℕ). MarkFits s.written m new.wire) (sym gives.mark_is)
    (kept_mark s c entries body slot (owing to slot.wire) new.wire sound there (same_behind to slot.wire)
    gives.answers which (first_rests_on slot.wire.behind) refl))
    (same_slot_index s c slot new sound.indexed there gives.mark_is)

-- ---- the first answer of a connection that may not leave

first_mark : (s : Slots) (c entries : ℕ) (body : List ℕ) (slot : WireSlot) (from wire : Traffic)
    → IsSoundSlots s
    → get s.slots c ≡ Some slot → from.behind ≡ slot.wire.behind → AnswersBy s.written from entries body wire
    → slot.mark ≡ None
    → s.written < entries → (o : Option ℕ) → first_rests_on slot.wire.behind ≡ o
    → MarkFits s.written (Some entries) wire
first_mark s c entries body slot from wire sound there same answers unmarked later (Some e) is =
    absurd (mark_of_none slot.mark e unmarked ((sound.indexed.counted.each c slot there).marked e is))
first_mark s c entries body slot from wire sound there same answers unmarked later None is =
    let first = answered_first s.written entries from wire body answers (ap first_rests_on same ∙ is) later in
    record {
      marked = λ n now. let is_it : entries ≡ n = same_Some entries n (sym first ∙ now) in
          omega (arith, is_it);
      unmarked = λ none. absurd (some_none entries (sym first ∙ none));
      later = λ n now. subst (λ k. s.written < k) (same_Some entries n (sym first ∙ now)) later;
    }
  where
    some_none : (x : ℕ) → Some x ≡ None → ⊥
    some_none x is = cc

pub held_sound : (s u : Slots) (c entries held : ℕ) (body : List ℕ) (to : AnswerTo) (slot new : WireSlot)
    (given_is : Given) → IsSoundSlots s → u.slots ≡ s.slots → u.written ≡ s.written → u.held ≡ s.held
    → StandsToo s.index entries c u.index (vec_capacity u.released) (vec_capacity u.reached)
    → get s.slots c ≡ Some slot → slot.mark ≡ None → s.written < entries
    → Gives slot to s.written entries body (Some entries) given_is new → held ≡ s.held + given_is.more
    → IsSoundSlots (record u { slots = with_slot u.slots c new; held = held })
held_sound s u c entries held body to slot new given_is sound slots written_is held_was stands there unmarked
    later gives held_is =
    let there_too : get u.slots c ≡ Some slot = ap (λ (x : TableState). get x c) slots ∙ there in
    let fits = first_mark s c entries body slot (owing to slot.wire) new.wire sound there
    (same_behind to slot.wire) gives.answers unmarked later (first_rests_on slot.wire.behind) refl in
    let fits_mark : MarkFits s.written new.mark new.wire =
    subst (λ (m : Option ℕ). MarkFits s.written m new.wire) (sym gives.mark_is) fits in
    given u c entries held body new.mark slot new.wire
    (same_counted s u sound.indexed.counted slots held_was)
    (subst (λ n. AreHeldBack n (get u.slots)) (sym written_is)
    (subst (λ (x : TableState). AreHeldBack s.written (get x)) (sym slots) sound.held_back))
    stands.room stands.looks there_too gives.short (omega (arith, held_is, held_was, gives.more))
    (subst (λ n. MarkFits n new.mark new.wire) (sym written_is) fits_mark)
    (index_set s.index u.index (get u.slots) _ c (Some new) (Some entries)
    (written u.slots c slot new there_too)
    (subst (λ (x : TableState). IsIndexOf s.index (get x)) (sym slots) sound.indexed.indexed)
    (added_alone s.index u.index c entries
    (λ e. stands_at s sound.indexed c slot there e ∙ ap (λ (m : Option ℕ). has_mark m e) unmarked)
    stands.adds)
    (λ e. ap (λ (m : Option ℕ). has_mark m e) (sym gives.mark_is)))

-- ---- none was given

-- the slot is as it was, and what stands in the index too
pub none_given : (s t : Slots) (c : ℕ) (slot new : WireSlot) → IsSoundSlots s → get s.slots c ≡ Some slot
    → new ≡ slot → t.slots ≡ with_slot s.slots c new → t.written ≡ s.written → t.held ≡ s.held
    → SamePairs s.index t.index → pair_count t.index ≤ pair_count s.index
    → vec_capacity s.released ≤ vec_capacity t.released → vec_capacity s.reached ≤ vec_capacity t.reached
    → IsSoundSlots t
none_given s t c slot new sound there same slots written_is held pairs count released reached =
    let all : t.slots ≡ s.slots = slots ∙ ap (with_slot s.slots c) same ∙ unwritten s.slots c slot there in
    let room : t.slots.room ≡ s.slots.room = ap (λ (x : TableState). x.room) all in
    same_sound s t sound (λ k. ap (λ (x : TableState). get x k) all) (omega (arith, room)) written_is held
    pairs count released reached

-- and the mark that it got for it is gone
pub unmarked_again : (s : Slots) (index last : Pairs) (c entries : ℕ) (slot : WireSlot) → IsSoundSlots s
    → get s.slots c ≡ Some slot → slot.mark ≡ None → ChangesPairs s.index index entries c true
    → ChangesPairs index last entries c false → SamePairs s.index last
unmarked_again s index last c entries slot sound there unmarked adds removes =
    added_removed s.index index last entries c (stands_at s sound.indexed c slot there entries
    ∙ ap (λ (m : Option ℕ). has_mark m entries) unmarked) adds removes

-- a connection whose bytes are there has a slot
pub slot_of : (o : Option WireSlot) (wire : Traffic) → wire_of o ≡ Some wire
    → (slot : WireSlot) × (o ≡ Some slot)
slot_of None wire is = absurd (some_none wire (sym is))
  where
    some_none : (x : Traffic) → Some x ≡ None → ⊥
    some_none x is = cc
slot_of (Some slot) wire is = (slot, refl)
