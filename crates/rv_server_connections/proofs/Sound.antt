-- The slots stay sound where a connection's bytes change, and where one is opened or closed.
use mathlib.Core.Path.{fun_ext}
use Rattle.std.proofs.Common.{◌≡◌, ◌<◌, ◌≤◌, ◌+◌, ◌∙◌, ℕ, Option, None, Some, arith, refl, sym, ap, subst}
use Rattle.std.proofs.Common.{List, Result, Ok, Err, IfOk, OnErr, ◌-◌, ◌*◌, ◌++◌, drop, length, vec_capacity}
use Rattle.std.proofs.Common.{inl, inr, length-append, length-drop}
use Rattle.std.proofs.lemmas.Bool.{cases_eq}
use Rattle.std.proofs.lemmas.List.{length-map}
use Rattle.rv_server_connections.specs.Table.{SetsSlot, TableState, get, with_slot}
use Rattle.rv_server_connections.specs.connection.Traffic.{AnswerByte, Traffic, bytes_of, first_rests_on}
use Rattle.rv_server_connections.specs.connection.Traffic.{held_count, resting}
use Rattle.rv_frame.specs.Cut.{frame_bytes}
use Rattle.rv_server_connections.specs.connection.Steps.{AnswersBy, TakesIn, fresh_traffic, left_by}
use Rattle.rv_server_connections.specs.declared.subscribers.pairs.Pairs.{Pairs}
use Rattle.rv_server_connections.specs.subscribers.Pairs.{SamePairs, pair_count}
use Rattle.rv_server_connections.specs.declared.table.WireSlot.{WireSlot}
use Rattle.rv_server_connections.specs.declared.slots.Slots.{Slots}
use Rattle.rv_server_connections.specs.Fields.{AreHeld, Drops, IsHeldBack, HasIndex, IsSoundSlot}
use Rattle.rv_server_connections.specs.Fields.{IsSoundSlots, AreSound, IsHeldIn, StandsByMark, is_slot_marked}
use Rattle.rv_server_connections.specs.Fields.{mark_count, slots_state, wire_of, wires_at}
use Rattle.rv_server_connections.specs.Connections.{HasWire, count_at}
use Rattle.rv_server_connections.proofs.Changing.{each_set, held_part, held_set, index_set, index_stays}
use Rattle.rv_server_connections.proofs.Changing.{within_room, written}
use Rattle.rv_server_connections.proofs.Marks.{moves_none}
use Rattle.rv_server_connections.proofs.Totals.{bounded, totals}

none-some : {A : Type 0} (x : A) → None ≡ Some x → ⊥
none-some x is = cc

pub same_Some : {A : Type 0} (x y : A) → Some x ≡ Some y → x ≡ y
same_Some x y is = cc

pub stands_at : (s : Slots) → HasIndex s → (c : ℕ) (slot : WireSlot) → get s.slots c ≡ Some slot
    → StandsByMark s.index c slot.mark
stands_at s indexed c slot there e = indexed.indexed e c ∙ ap (λ (o : Option WireSlot). is_slot_marked o e)
    there

-- ---- one slot

-- a slot whose held-back bytes stay
pub same_slot : (slot : WireSlot) (wire : Traffic) → IsSoundSlot slot → wire.behind ≡ slot.wire.behind
    → held_count wire ≤ 131071 → IsSoundSlot (record { wire = wire; mark = slot.mark })
same_slot slot wire sound behind short = record {
  marked = λ entries first. sound.marked entries (ap first_rests_on (sym behind) ∙ first);
  unmarked = λ none. sound.unmarked (ap first_rests_on (sym behind) ∙ none);
  short = short;
}

pub fresh_slot : (wire : Traffic) → wire ≡ fresh_traffic → IsSoundSlot (record { wire = wire; mark = None })
fresh_slot wire fresh = subst (λ (t : Traffic). IsSoundSlot (record { wire = t; mark = None })) (sym fresh)
    (record {
      marked = λ entries first. absurd (none-some entries first);
      unmarked = λ none. refl;
      short = omega arith;
    })

-- ---- all slots

-- one slot has other bytes, with as many or fewer of answers, and what is held back stays
pub kept_sound : (s : Slots) (c : ℕ) (slot : WireSlot) (wire : Traffic) (held : ℕ) → IsSoundSlots s
    → get s.slots c ≡ Some slot → wire.behind ≡ slot.wire.behind → held_count wire ≤ held_count slot.wire
    → held + held_count slot.wire ≡ s.held + held_count wire
    → IsSoundSlots (record s {
      slots = with_slot s.slots c (record { wire = wire; mark = slot.mark });
      held = held;
    })
kept_sound s c slot wire held sound there behind fewer counts =
    let new : WireSlot = record { wire = wire; mark = slot.mark } in
    let sets = written s.slots c slot new there in
    let was = sound.indexed.counted.each c slot there in
    let room = within_room (get s.slots) c s.slots.room slot sound.indexed.counted.held.all_below there in
    record {
      indexed = record {
        counted = record {
          each = each_set IsSoundSlot (get s.slots) _ c (Some new) sets sound.indexed.counted.each
              (λ x same. subst IsSoundSlot (same_Some new x same)
              (same_slot slot wire was behind (omega (arith, was.short, fewer))));
          held = held_set (get s.slots) _ c s.slots.room s.slots.room s.held held (Some new) sets
              sound.indexed.counted.held (omega arith) room
              (ap (λ k. held + k) (ap (λ (o : Option WireSlot). count_at held_count (wire_of o)) there)
              ∙ counts);
        };
        indexed = index_stays s.index (get s.slots) _ c (Some new) sets sound.indexed.indexed
            (λ e. ap (λ (o : Option WireSlot). is_slot_marked o e) there);
        room = sound.indexed.room;
        looks = sound.indexed.looks;
      };
      held_back = each_set (IsHeldBack s.written) (get s.slots) _ c (Some new) sets sound.held_back
          (λ x same. subst (IsHeldBack s.written) (same_Some new x same)
          (λ entries first. sound.held_back c slot there entries (ap first_rests_on (sym behind) ∙ first)));
    }

-- a connection was opened
pub opened_sound : (s : Slots) (new : TableState) (c : ℕ) (wire : Traffic) → IsSoundSlots s
    → SetsSlot (get s.slots) c (Some (record { wire = wire; mark = None })) (get new)
    → get s.slots c ≡ None → wire ≡ fresh_traffic → c < s.slots.room → new.room ≡ s.slots.room
    → IsSoundSlots (record s { slots = new })
opened_sound s new c wire sound sets none fresh within room =
    let slot : WireSlot = record { wire = wire; mark = None } in
    record {
      indexed = record {
        counted = record {
          each = each_set IsSoundSlot (get s.slots) (get new) c (Some slot) sets sound.indexed.counted.each
              (λ x is. subst IsSoundSlot (same_Some slot x is) (fresh_slot wire fresh));
          held = held_set (get s.slots) (get new) c s.slots.room new.room s.held s.held (Some slot)
              sets sound.indexed.counted.held (omega (arith, room)) (omega (arith, within, room))
              (ap (λ k. s.held + k) (ap (λ (o : Option WireSlot). count_at held_count (wire_of o)) none)
              ∙ ap (λ k. s.held + k) (sym (ap held_count fresh)));
        };
        indexed = index_stays s.index (get s.slots) (get new) c (Some slot) sets sound.indexed.indexed
            (λ e. ap (λ (o : Option WireSlot). is_slot_marked o e) none);
        room = sound.indexed.room;
        looks = sound.indexed.looks;
      };
      held_back = each_set (IsHeldBack s.written) (get s.slots) (get new) c (Some slot) sets sound.held_back
          (λ x is. subst (IsHeldBack s.written) (same_Some slot x is)
          (λ entries first. absurd (none-some entries (sym (ap (λ (t : Traffic). first_rests_on t.behind)
          fresh) ∙ first))));
    }

-- a connection was closed
pub closed_sound : (s : Slots) (new : TableState) (index : Pairs) (c held : ℕ) (slot : WireSlot)
    → IsSoundSlots s
    → get s.slots c ≡ Some slot → SetsSlot (get s.slots) c None (get new) → new.room ≡ s.slots.room
    → Drops s.index c slot.mark index → pair_count index + mark_count slot.mark ≡ pair_count s.index
    → held + held_count slot.wire ≡ s.held
    → IsSoundSlots (record s { slots = new; index = index; held = held })
closed_sound s new index c held slot sound there sets same_room drops count counts =
    let stood = stands_at s sound.indexed c slot there in
    let room = within_room (get s.slots) c s.slots.room slot sound.indexed.counted.held.all_below there in
    record {
      indexed = record {
        counted = record {
          each = each_set IsSoundSlot (get s.slots) (get new) c None sets sound.indexed.counted.each
              (λ x is. absurd (none-some x is));
          held = held_set (get s.slots) (get new) c s.slots.room new.room s.held held None sets
              sound.indexed.counted.held (omega (arith, same_room)) (omega (arith, same_room, room))
              (ap (λ k. held + k) (ap (λ (o : Option WireSlot). count_at held_count (wire_of o)) there)
              ∙ counts
              ∙ plus_none s.held);
        };
        indexed = index_set s.index index (get s.slots) (get new) c None None sets sound.indexed.indexed
            (moves_none s.index s.index index c slot.mark stood drops) (λ e. refl);
        room = omega (arith, count, sound.indexed.room);
        looks = omega (arith, count, sound.indexed.looks);
      };
      held_back = each_set (IsHeldBack s.written) (get s.slots) (get new) c None sets sound.held_back
          (λ x is. absurd (none-some x is));
    }
  where
    plus_none : (n : ℕ) → n ≡ n + 0
    plus_none n = omega arith

-- ---- what calls leave

-- bytes of a piece leave all answers as they are
pub took_in : {E : Type 0} (r : Result ℕ E) (old new : Traffic) (piece : List ℕ)
    → IfOk r (λ count. TakesIn old piece count new) → OnErr r (new ≡ old)
    → (new.behind ≡ old.behind) × (held_count new ≡ held_count old)
took_in (Ok count) old new piece takes refused =
    (ap (λ (t : Traffic). t.behind) takes.unread, ap held_count takes.unread)
took_in (Err e) old new piece takes refused = (ap (λ (t : Traffic). t.behind) refused, ap held_count refused)

-- ---- bytes that left

-- they were held
pub took_within : (s : Slots) (c count : ℕ) → IsSoundSlots s
    → HasWire (slots_state s) c (λ w. count ≤ length w.ready) → count ≤ s.held
took_within s c count sound has =
    let part = held_part (get s.slots) c s.slots.room s.held sound.indexed.counted.held in
    let own : count_at held_count (wires_at (get s.slots) c) ≡ held_count has.wire =
    ap (count_at held_count) has.there in
    let ready : count ≤ length has.wire.ready = has.so in
    omega (arith, part, own, ready)

pub took_sound : (s : Slots) (c count : ℕ) (slot : WireSlot) (wire : Traffic) → IsSoundSlots s
    → get s.slots c ≡ Some slot → wire ≡ left_by slot.wire count
    → HasWire (slots_state s) c (λ w. count ≤ length w.ready)
    → IsSoundSlots (record s {
      slots = with_slot s.slots c (record { wire = wire; mark = slot.mark });
      held = s.held - count;
    })
took_sound s c count slot wire sound there left has =
    let same : has.wire ≡ slot.wire = same_Some has.wire slot.wire (sym has.there ∙ ap wire_of there) in
    let ready : count ≤ length slot.wire.ready =
    subst (λ (w : Traffic). count ≤ length w.ready) same has.so in
    let within = took_within s c count sound has in
    let held : held_count wire ≡ length (drop count slot.wire.ready) + length slot.wire.behind =
    ap held_count left in
    let long : length (drop count slot.wire.ready) ≡ length slot.wire.ready - count =
    length-drop count slot.wire.ready in
    kept_sound s c slot wire (s.held - count) sound there (ap (λ (t : Traffic). t.behind) left)
    (omega (arith, held, long)) (omega (arith, held, long, ready, within))

-- ---- how many are held at most

short_at : (slots : ℕ → Option WireSlot) → AreSound slots → (k : ℕ) (x : Option WireSlot) → slots k ≡ x
    → count_at held_count (wire_of x) ≤ 131071
short_at slots each k None is = omega arith
short_at slots each k (Some slot) is = (each k slot is).short

pub held_small : (s : Slots) → IsHeldIn s → s.held ≤ 131071 * s.slots.room
held_small s counted =
    omega (
      arith,
      counted.held.total_is,
      bounded held_count (wires_at (get s.slots)) s.slots.room
          (λ k. short_at (get s.slots) counted.each k (get s.slots k) refl),
    )

-- ---- an answer

pub answered_count : (written entries : ℕ) (old new : Traffic) (body : List ℕ)
    → AnswersBy written old entries body new → held_count new ≡ held_count old + (length body + 2)
answered_count written entries old new body answers =
    let goes : held_count new ≡ length (old.ready ++ bytes_of answers.front) + length new.behind =
    ap (λ (t : Traffic). length t.ready + length new.behind) answers.goes in
    let front : length (bytes_of answers.front) ≡ length answers.front =
    length-map answers.front (λ (b : AnswerByte). b.byte) in
    let frame : length (resting entries (frame_bytes body)) ≡ length (frame_bytes body) =
    length-map (frame_bytes body) (λ byte. record { byte = byte; rests_on = entries }) in
    let parts : length old.behind + length (resting entries (frame_bytes body))
    ≡ length answers.front + length new.behind =
    sym (length-append old.behind (resting entries (frame_bytes body))) ∙ ap length answers.frees.parts
    ∙ length-append answers.front new.behind in
    let long : length (frame_bytes body) ≡ length body + 2 = omega arith in
    omega (arith, goes, front, frame, parts, long, length-append old.ready (bytes_of answers.front))

-- ---- nothing but room changed

pub same_sound : (s t : Slots) → IsSoundSlots s → ((k : ℕ) → get t.slots k ≡ get s.slots k)
    → s.slots.room ≤ t.slots.room → t.written ≡ s.written → t.held ≡ s.held
    → SamePairs s.index t.index → pair_count t.index ≤ pair_count s.index
    → vec_capacity s.released ≤ vec_capacity t.released → vec_capacity s.reached ≤ vec_capacity t.reached
    → IsSoundSlots t
same_sound s t sound same grows written held pairs count released reached =
    let counted = sound.indexed.counted in
    let below = λ (k : ℕ) (past : t.slots.room ≤ k). same k ∙ counted.held.all_below k
    (omega (
      arith,
      grows,
      past,
    )) in
    let sum = totals held_count (wires_at (get s.slots)) (wires_at (get t.slots)) 0 s.slots.room
    t.slots.room (λ k past. ap wire_of (counted.held.all_below k past)) (λ k past. ap wire_of
    (below k past))
    (λ k apart. ap wire_of (same k)) in
    let first : count_at held_count (wires_at (get t.slots) 0) ≡ count_at held_count (wires_at (get s.slots)
    0) =
    ap (λ (o : Option WireSlot). count_at held_count (wire_of o)) (same 0) in
    record {
      indexed = record {
        counted = record {
          each = λ k slot there. counted.each k slot (sym (same k) ∙ there);
          held = record {
            all_below = below;
            total_is = omega (arith, sum, first, held, counted.held.total_is);
          };
        };
        indexed = λ e k. pairs e k ∙ sound.indexed.indexed e k
            ∙ ap (λ (o : Option WireSlot). is_slot_marked o e) (sym (same k));
        room = omega (arith, count, released, sound.indexed.room);
        looks = omega (arith, count, reached, sound.indexed.looks);
      };
      held_back = λ k slot there. subst (λ n. IsHeldBack n slot) (sym written)
          (sound.held_back k slot (sym (same k) ∙ there));
    }

-- nothing was there
pub none_left : (o : Option WireSlot) → ((slot : WireSlot) → o ≡ Some slot → ⊥) → o ≡ None
none_left None never = refl
none_left (Some slot) never = absurd (never slot refl)

pub none_set : (f g : ℕ → Option WireSlot) (c : ℕ) → SetsSlot f c None g → f c ≡ None → (k : ℕ) → g k ≡ f k
none_set f g c sets none k = elim (cases_eq k c) [
  | inl same ↦ ap g same ∙ sets.own ∙ sym none ∙ ap f (sym same)
  | inr apart ↦ sets.others k apart
]

pub same_state : (s : Slots) (t : TableState) → ((k : ℕ) → get t k ≡ get s.slots k)
    → slots_state (record s { slots = t }) ≡ slots_state s
same_state s t same =
    ap (λ (wires : ℕ → Option Traffic). record {
      wires = wires;
      written = s.written;
      released = s.released.items;
    }) (fun_ext (λ k. ap wire_of (same k)))

pub same_counted : (s t : Slots) → IsHeldIn s → t.slots ≡ s.slots → t.held ≡ s.held → IsHeldIn t
same_counted s t counted slots held = record {
  each = subst (λ (x : TableState). AreSound (get x)) (sym slots) counted.each;
  held = subst (λ (x : TableState). AreHeld (get x) x.room t.held) (sym slots)
      (subst (λ n. AreHeld (get s.slots) s.slots.room n) (sym held) counted.held);
}
