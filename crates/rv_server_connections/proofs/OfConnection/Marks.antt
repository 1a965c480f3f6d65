-- The bytes after those that may leave: one answer more, and the first one less.
use Rattle.std.proofs.Common.{◌≡◌, ◌<◌, ◌≤◌, ◌+◌, ◌∙◌, ℕ, List, [], ◌∷◌, ◌++◌, refl, sym, ap, subst}
use Rattle.std.proofs.Common.{append-nil, append_assoc, arith, drop, length, length-append, length-drop, take}
use Rattle.std.proofs.Common.{Bool, None, Some, false, get_or, inl, inr, not, suc, true, zero, ◌==◌, ◌⊎◌}
use Rattle.std.specs.Bool.{OnFalse}
use Rattle.std.proofs.lemmas.Bool.{eqb-true}
use Rattle.std.specs.List.{All}
use Rattle.std.proofs.lemmas.List.{drop-append-le, drop-drop, length-map, length-take-le, map-append}
use Rattle.std.proofs.lemmas.List.{take-append-le}
use Rattle.std.proofs.lemmas.List.{nil_from_length, take_all}
use Rattle.std.proofs.Math.Seq.{take-add}
use Rattle.std.proofs.lemmas.List.Elements.{All-append, All-cons, All-nil}
use Rattle.rv_server_connections.specs.declared.connection.answers.Outgoing.{Outgoing}
use Rattle.rv_server_connections.specs.declared.connection.answers.Mark.{Mark}
use Rattle.rv_frame.specs.Cut.{IsFrameBody, frame_bytes}
use Rattle.rv_server_connections.specs.connection.Traffic.{AnswerByte, bytes_of, first_rests_on, most_held}
use Rattle.rv_server_connections.specs.connection.Traffic.{resting}
use Rattle.rv_server_connections.specs.declared.connection.AnswerTo.{AnswerTo}
use Rattle.rv_server_connections.specs.declared.connection.AnswerTo.TheVariants as to
use Rattle.rv_server_connections.specs.declared.connection.buffers.Buffers.{Buffers}
use Rattle.rv_server_connections.specs.connection.Steps.{CanAnswer, HoldsBack}
use Rattle.rv_server_connections.specs.connection.Fields.{IsSoundOutgoing, IsSoundWire, NoneEmpty, behind_in}
use Rattle.rv_server_connections.specs.connection.Fields.{marked_bytes, marked_count, ready_in, traffic_of}
use Rattle.rv_server_connections.specs.connection.Answering.{FreesFirst, FreesSome, Pushes, ReleasesIn}

-- ---- bytes with the number of entries that they rest on

pub bytes_resting : (entries : ℕ) (bytes : List ℕ) → bytes_of (resting entries bytes) ≡ bytes
bytes_resting entries [] = refl
bytes_resting entries (b ∷ bytes) = ap (λ l. b ∷ l) (bytes_resting entries bytes)

pub all_rest : (written entries : ℕ) (bytes : List ℕ) → entries ≤ written
    → All (λ b. b.rests_on ≤ written) (resting entries bytes)
all_rest written entries [] few = All-nil (λ (b : AnswerByte). b.rests_on ≤ written)
all_rest written entries (b ∷ bytes) few =
    All-cons (λ (b : AnswerByte). b.rests_on ≤ written) (record { byte = b; rests_on = entries })
    (resting entries bytes) few (all_rest written entries bytes few)

-- ---- an answer more

pub count_pushed : (marks : List Mark) (m : Mark)
    → marked_count (marks ++ m ∷ []) ≡ marked_count marks + m.bytes
count_pushed [] m = omega arith
count_pushed (n ∷ marks) m = omega (arith, count_pushed marks m)

pub none_empty_pushed : (marks : List Mark) (m : Mark) → NoneEmpty marks → 0 < m.bytes
    → NoneEmpty (marks ++ m ∷ [])
none_empty_pushed [] m none more = (more, tt)
none_empty_pushed (n ∷ marks) m none more = (none.0, none_empty_pushed marks m none.1 more)

pub marked_pushed : (marks : List Mark) (m : Mark) (rest frame : List ℕ) → marked_count marks ≡ length rest
    → m.bytes ≡ length frame
    → marked_bytes (marks ++ m ∷ []) (rest ++ frame) ≡ marked_bytes marks rest ++ resting m.entries frame
marked_pushed [] m rest frame all long =
    let none : rest ≡ [] = nil_from_length rest (sym all) in
    let front : take m.bytes (rest ++ frame) ≡ frame =
    ap (λ l. take m.bytes (l ++ frame)) none ∙ take_all m.bytes frame (omega arith) in
    append-nil (resting m.entries (take m.bytes (rest ++ frame))) ∙ ap (resting m.entries) front
marked_pushed (n ∷ marks) m rest frame all long =
    let within : n.bytes ≤ length rest = omega arith in
    let first : take n.bytes (rest ++ frame) ≡ take n.bytes rest = take-append-le n.bytes rest frame within in
    let after : drop n.bytes (rest ++ frame) ≡ drop n.bytes rest ++ frame =
    drop-append-le n.bytes rest frame within in
    let left : marked_count marks ≡ length (drop n.bytes rest) = omega (arith, length-drop n.bytes rest) in
    let more = marked_pushed marks m (drop n.bytes rest) frame left long in
    ap (λ l. resting n.entries l ++ marked_bytes (marks ++ m ∷ []) (drop n.bytes (rest ++ frame))) first
    ∙ ap (λ l. resting n.entries (take n.bytes rest) ++ marked_bytes (marks ++ m ∷ []) l) after
    ∙ ap (λ l. resting n.entries (take n.bytes rest) ++ l) more
    ∙ sym (append_assoc (resting n.entries (take n.bytes rest)) (marked_bytes marks (drop n.bytes rest))
    (resting m.entries frame))

-- what is held back stays so with more after it
pub holds_more : (written : ℕ) (held more : List AnswerByte) → 0 < length held → HoldsBack written held
    → HoldsBack written (held ++ more)
holds_more written [] more some held_back = absurd (omega arith)
holds_more written (b ∷ held) more some held_back = held_back

-- the held-back bytes are as many as the marks tell
pub marked_long : (marks : List Mark) (rest : List ℕ) → marked_count marks ≡ length rest
    → length (marked_bytes marks rest) ≡ length rest
marked_long [] rest all = all
marked_long (n ∷ marks) rest all =
    let within : n.bytes ≤ length rest = omega arith in
    let left : marked_count marks ≡ length (drop n.bytes rest) = omega (arith, length-drop n.bytes rest) in
    length-append (resting n.entries (take n.bytes rest)) (marked_bytes marks (drop n.bytes rest))
    ∙ ap (λ k. k + length (marked_bytes marks (drop n.bytes rest))) (length-map (take n.bytes rest)
    (λ byte. record { byte = byte; rests_on = n.entries }) ∙ length-take-le n.bytes rest within)
    ∙ ap (λ k. n.bytes + k) (marked_long marks (drop n.bytes rest) left)
    ∙ omega (arith, length-drop n.bytes rest)

-- the first mark is that of the first byte
pub first_held : (written : ℕ) (m : Mark) (marks : List Mark) (rest : List ℕ) → NoneEmpty (m ∷ marks)
    → marked_count (m ∷ marks) ≡ length rest → written < m.entries
    → HoldsBack written (marked_bytes (m ∷ marks) rest)
first_held written m marks [] none all more = absurd (omega (arith, none.0))
first_held written m marks (b ∷ rest) none all more = begins m.bytes none.0
  where
    begins : (n : ℕ) → 0 < n
        → HoldsBack written (resting m.entries (take n (b ∷ rest)) ++ marked_bytes marks (drop n (b
        ∷ rest)))
    begins zero some = absurd (omega arith)
    begins (suc n) some = more

-- what it rests on is what the first byte does
first_waits : (m : Mark) (marks : List Mark) (rest : List ℕ) → NoneEmpty (m ∷ marks)
    → marked_count (m ∷ marks) ≡ length rest → first_rests_on (marked_bytes (m ∷ marks) rest) ≡ Some m.entries
first_waits m marks [] none all = absurd (omega (arith, none.0))
first_waits m marks (b ∷ rest) none all = begins m.bytes none.0
  where
    begins : (n : ℕ) → 0 < n
        → first_rests_on (resting m.entries (take n (b ∷ rest)) ++ marked_bytes marks (drop n (b ∷ rest)))
        ≡ Some m.entries
    begins zero some = absurd (omega arith)
    begins (suc n) some = refl

pub waits_first : (m : Mark) (marks more : List Mark) (rest : List ℕ) → marks ≡ m ∷ more → NoneEmpty marks
    → marked_count marks ≡ length rest → first_rests_on (marked_bytes marks rest) ≡ Some m.entries
waits_first m marks more rest is none all = ap (λ l. first_rests_on (marked_bytes l rest)) is
    ∙ first_waits m more rest (subst NoneEmpty is none) (ap marked_count (sym is) ∙ all)

-- nothing waits where there is no mark
pub waits_none : (marks : List Mark) (rest : List ℕ) → marks ≡ []
    → first_rests_on (marked_bytes marks rest) ≡ None
waits_none marks rest none = ap (λ l. first_rests_on (marked_bytes l rest)) none

-- no bytes are left, and so no marks
pub no_marks : (marks : List Mark) → NoneEmpty marks → marked_count marks ≡ 0 → marks ≡ []
no_marks [] none all = refl
no_marks (m ∷ marks) none all = absurd (omega (arith, none.0))

-- who has nothing to wait for rests on what is written, and has nothing before it
pub may_leave : (written entries : ℕ) (marks : List Mark) (empty : Bool) → entries ≤ written
    → empty ≡ (length marks == 0) → OnFalse (not empty) ((entries ≤ written) × (marks ≡ []))
may_leave written entries marks false few is = tt
may_leave written entries marks true few is =
    (few, nil_from_length marks (eqb-true (length marks) 0 (sym is)))

-- ---- what is freed in two parts

pub freed_twice : (written : ℕ) (held front more rest last : List AnswerByte) → held ≡ front ++ rest
    → rest ≡ more ++ last → held ≡ (front ++ more) ++ last
freed_twice written held front more rest last first second = first ∙ ap (λ l. front ++ l) second
    ∙ sym (append_assoc front more last)

-- ---- what the calls do

-- the marks tell how many bytes are held back
pub rest_long : (a : Outgoing) → IsSoundOutgoing a
    → marked_count a.marks.items ≡ length (drop a.ready a.bytes.items)
rest_long a sound = omega (arith, sound.all, length-drop a.ready a.bytes.items)

pub is_first : (marks : List Mark) (m : Mark) → 0 < length marks → m ≡ get_or marks 0 m
    → marks ≡ m ∷ drop 1 marks
is_first [] m some same = absurd (omega arith)
is_first (n ∷ marks) m some same = ap (λ x. x ∷ marks) (sym same)

pub count_first : (marks rest : List Mark) (m : Mark) → marks ≡ m ∷ rest → marked_count marks ≡ m.bytes
    + marked_count rest
count_first marks rest m same = ap marked_count same

pub holds_first : (written : ℕ) (m : Mark) (marks more : List Mark) (rest : List ℕ) → marks ≡ m ∷ more
    → NoneEmpty marks → marked_count marks ≡ length rest → written < m.entries
    → HoldsBack written (marked_bytes marks rest)
holds_first written m marks more rest same none all later =
    subst (λ (l : List Mark). HoldsBack written (marked_bytes l rest)) (sym same)
    (first_held written m more rest (subst NoneEmpty same none) (sym (ap marked_count same) ∙ all) later)

-- a frame that is held back
still_held : (written entries : ℕ) (marks : List Mark) (rest frame : List ℕ) → NoneEmpty marks
    → marked_count marks ≡ length rest → 0 < length frame → HoldsBack written (marked_bytes marks rest)
    → (written < entries) ⊎ (0 < length marks)
    → HoldsBack written (marked_bytes marks rest ++ resting entries frame)
still_held written entries [] rest [] none all some held waits = absurd (omega arith)
still_held written entries [] rest (b ∷ frame) none all some held (inl later) = later
still_held written entries [] rest (b ∷ frame) none all some held (inr more) = absurd (omega arith)
still_held written entries (m ∷ marks) rest frame none all some held waits =
    holds_more written (marked_bytes (m ∷ marks) rest) (resting entries frame)
    (omega (arith, marked_long (m ∷ marks) rest all, none.0)) held

pub pushed_sound : (old new : Outgoing) (entries : ℕ) (body : List ℕ) → IsSoundOutgoing old
    → length old.bytes.items ≤ most_held → IsFrameBody body
    → new.bytes.items ≡ old.bytes.items ++ frame_bytes body → new.ready ≡ old.ready
    → new.marks.items ≡ old.marks.items ++ (record { entries = entries; bytes = length body + 2 }) ∷ []
    → IsSoundOutgoing new
pushed_sound old new entries body sound room fits bytes ready marks =
    let m : Mark = record { entries = entries; bytes = length body + 2 } in
    let long : length new.bytes.items ≡ length old.bytes.items + length (frame_bytes body) =
    ap (λ l. length l) bytes ∙ length-append old.bytes.items (frame_bytes body) in
    let count : marked_count new.marks.items ≡ marked_count old.marks.items + m.bytes =
    ap marked_count marks ∙ count_pushed old.marks.items m in
    record {
      all = omega (arith, long, count, ready, sound.all);
      none_empty = subst NoneEmpty (sym marks) (none_empty_pushed old.marks.items m sound.none_empty
          (omega arith));
      short = omega (arith, long, room, fits.1);
    }

pub pushed_behind : (old new : Outgoing) (written entries : ℕ) (body : List ℕ) → IsSoundOutgoing old
    → HoldsBack written (behind_in old) → (written < entries) ⊎ (0 < length old.marks.items)
    → new.bytes.items ≡ old.bytes.items ++ frame_bytes body → new.ready ≡ old.ready
    → new.marks.items ≡ old.marks.items ++ (record { entries = entries; bytes = length body + 2 }) ∷ []
    → Pushes written old entries body new
pushed_behind old new written entries body sound held waits bytes ready marks =
    let frame = frame_bytes body in
    let m : Mark = record { entries = entries; bytes = length body + 2 } in
    let within : old.ready ≤ length old.bytes.items = omega (arith, sound.all) in
    let rest : drop new.ready new.bytes.items ≡ drop old.ready old.bytes.items ++ frame =
    (λ i. drop (ready i) (bytes i)) ∙ drop-append-le old.ready old.bytes.items frame within in
    let long : m.bytes ≡ length frame = omega arith in
    let behind : behind_in new ≡ behind_in old ++ resting entries frame =
    (λ i. marked_bytes (marks i) (rest i)) ∙ marked_pushed old.marks.items m (drop old.ready old.bytes.items)
    frame
    (rest_long old sound) long in
    record {
      goes = record {
        front = [];
        frees = record {
          parts = sym behind;
          free = All-nil (λ (b : AnswerByte). b.rests_on ≤ written);
          held_back = subst (HoldsBack written) (sym behind)
              (still_held written entries old.marks.items (drop old.ready old.bytes.items) frame
              sound.none_empty
              (rest_long old sound) (omega arith) held waits);
        };
        ready = (λ i. take (ready i) (bytes i)) ∙ take-append-le old.ready old.bytes.items frame within
            ∙ sym (append-nil (ready_in old));
      };
      longer = ap (λ l. length l) bytes ∙ length-append old.bytes.items frame ∙ omega arith;
    }

pub pushed_ready : (old new : Outgoing) (written entries : ℕ) (body : List ℕ) → IsSoundOutgoing old
    → entries ≤ written → old.marks.items ≡ []
    → new.bytes.items ≡ old.bytes.items ++ frame_bytes body → new.ready ≡ old.ready + (length body + 2)
    → new.marks.items ≡ old.marks.items → Pushes written old entries body new
pushed_ready old new written entries body sound few none bytes ready marks =
    let frame = frame_bytes body in
    let before : behind_in old ≡ [] = ap (λ l. marked_bytes l (drop old.ready old.bytes.items)) none in
    let after : behind_in new ≡ [] = ap (λ l. marked_bytes l (drop new.ready new.bytes.items)) (marks ∙ none)
    in
    let all : old.ready ≡ length old.bytes.items = omega (arith, sound.all, ap marked_count none) in
    let long : length new.bytes.items ≡ length old.bytes.items + length frame =
    ap (λ l. length l) bytes ∙ length-append old.bytes.items frame in
    record {
      goes = record {
        front = resting entries frame;
        frees = record {
          parts = ap (λ l. l ++ resting entries frame) before ∙ sym (append-nil (resting entries frame))
              ∙ ap (λ l. resting entries frame ++ l) (sym after);
          free = all_rest written entries frame few;
          held_back = subst (HoldsBack written) (sym after) tt;
        };
        ready = take_all new.ready new.bytes.items (omega (arith, ready, all, long)) ∙ bytes
            ∙ ap (λ l. l ++ frame) (sym (take_all old.ready old.bytes.items (omega (arith, all))))
            ∙ ap (λ l. ready_in old ++ l) (sym (bytes_resting entries frame));
      };
      longer = long ∙ omega arith;
    }

-- the first that is held back goes
pub freed_more : (written : ℕ) (first old new : Outgoing) → IsSoundOutgoing old → FreesSome written first old
    → FreesFirst written old new → FreesSome written first new
freed_more written first old new sound before frees =
    let m = frees.first in
    let rest = drop old.ready old.bytes.items in
    let count = count_first old.marks.items new.marks.items m frees.marks in
    let long : m.bytes ≤ length rest = omega (arith, count, rest_long old sound) in
    let more = resting m.entries (take m.bytes rest) in
    let after : drop new.ready new.bytes.items ≡ drop m.bytes rest =
    (λ i. drop (frees.ready i) (frees.bytes i)) ∙ sym (drop-drop m.bytes old.ready old.bytes.items) in
    let parts : behind_in old ≡ more ++ behind_in new =
    ap (λ l. marked_bytes l rest) frees.marks ∙ ap (λ l. more ++ marked_bytes new.marks.items l) (sym after)
    in
    record {
      front = before.front ++ more;
      parts = freed_twice written (behind_in first) before.front more (behind_in old) (behind_in new)
          before.parts
          parts;
      free = All-append (λ (b : AnswerByte). b.rests_on ≤ written) before.front more before.free
          (all_rest written m.entries (take m.bytes rest) frees.written_first);
      ready = (λ i. take (frees.ready i) (frees.bytes i)) ∙ take-add old.ready m.bytes old.bytes.items
          ∙ ap (λ l. l ++ take m.bytes rest) before.ready
          ∙ append_assoc (ready_in first) (bytes_of before.front) (take m.bytes rest)
          ∙ ap (λ l. ready_in first ++ (bytes_of before.front ++ l))
          (sym (bytes_resting m.entries (take m.bytes rest)))
          ∙ ap (λ l. ready_in first ++ l) (sym (map-append (λ (b : AnswerByte). b.byte) before.front more));
      bytes = frees.bytes ∙ before.bytes;
    }

pub freed_none : (written : ℕ) (a : Outgoing) → FreesSome written a a
freed_none written a = record {
  front = [];
  parts = refl;
  free = All-nil (λ (b : AnswerByte). b.rests_on ≤ written);
  ready = sym (append-nil (ready_in a));
  bytes = refl;
}

pub freed_all : (written : ℕ) (old new : Outgoing) → FreesSome written old new
    → HoldsBack written (behind_in new) → ReleasesIn written old new
freed_all written old new freed held_back = record {
  goes = record {
    front = freed.front;
    frees = record { parts = freed.parts; free = freed.free; held_back = held_back };
    ready = freed.ready;
  };
  bytes = freed.bytes;
}

-- where no byte is left there is no mark
pub none_left : (a : Outgoing) → IsSoundOutgoing a → length a.bytes.items ≡ 0
    → (a.ready ≡ 0) × (a.marks.items ≡ [])
none_left a sound none =
    (omega (arith, sound.all, none), no_marks a.marks.items sound.none_empty (omega (arith, sound.all, none)))

-- the bytes that may leave and those held back are all
pub held_is : (a : Outgoing) → IsSoundOutgoing a
    → length a.bytes.items ≡ length (ready_in a) + length (behind_in a)
held_is a sound =
    let rest = drop a.ready a.bytes.items in
    let within : a.ready ≤ length a.bytes.items = omega (arith, sound.all) in
    omega (
      arith,
      length-take-le a.ready a.bytes.items within,
      length-drop a.ready a.bytes.items,
      marked_long a.marks.items rest (rest_long a sound),
    )

-- where an answer may be given there is room for its bytes
pub room_for : (to : AnswerTo) (b : Buffers) → IsSoundWire b → CanAnswer to (traffic_of b)
    → length b.answers.bytes.items ≤ most_held
room_for to.Unread b sound due = omega (arith, held_is b.answers sound.answers, due.room)
room_for to.Taken b sound owes = sound.room owes
