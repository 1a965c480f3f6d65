-- The sum of the unread bytes is what was counted.
use Rattle.std.proofs.Common.{◌≡◌, ◌<◌, ◌≤◌, ◌+◌, ◌-◌, ◌*◌, ◌^◌, ◌∙◌, ℕ, List, Option, None, Some, arith, sym}
use Rattle.std.proofs.Common.{IfNone, IfSome, length, length-append, take, unwrap_or}
use Rattle.std.proofs.lemmas.List.{length-take-le}
use Rattle.rv_frame.specs.Cut.{IsUnfinished}
use Rattle.std.proofs.Common.{zero, suc}
use Rattle.std.proofs.Common.{ap, subst, inl, inr, IfOk, Err, Ok, OnErr, Result, [], lit<}
use Rattle.std.proofs.lemmas.Bool.{cases_eq}
use Rattle.rv_server_connections.specs.connection.Traffic.{Traffic}
use Rattle.rv_server_connections.specs.connection.Steps.{TakesIn, fresh_traffic}
use Rattle.rv_server_connections.specs.Table.{get}
use Rattle.rv_server_connections.specs.declared.noted.Noted.{Noted}
use Rattle.rv_server_connections.specs.Connections.{ChangesWire, Notes, OpensWire, SetsWire, Tally}
use Rattle.rv_server_connections.specs.Connections.{WiresState, count_at, none_open, total_below}
use Rattle.rv_server_connections.specs.Connections.{unread_count}
use Rattle.rv_server_connections.specs.Fields.{slots_state, wires_at}
use Rattle.rv_server_connections.specs.Noting.{IsUnreadIn, tally_of}

-- how many bytes of a connection are unread
abbrev count_in : Noted → ℕ → ℕ
count_in n k = count_at unread_count ((slots_state n.slots).wires k)

-- each counts as it did, and so does the sum
kept : (n m : Noted) (u : ℕ) → IsUnreadIn n u → ((k : ℕ) → count_in m k ≡ count_in n k)
    → (tally_of m).unread ≡ (tally_of n).unread → IsUnreadIn m u
kept n m u was same total = record {
  few = λ k. subst (λ x. x < 2 ^ 64) (sym (same k)) (was.few k);
  total_is = was.total_is ∙ sym total;
}

-- nothing changed
pub unread_stays_in : (n m : Noted) (u : ℕ) → IsUnreadIn n u → slots_state m.slots ≡ slots_state n.slots
    → (tally_of m).unread ≡ (tally_of n).unread → IsUnreadIn m u
unread_stays_in n m u was same total =
    kept n m u was (λ k. ap (λ (s : WiresState). count_at unread_count (s.wires k)) same) total

-- one connection changed, and has as many unread bytes as it had
set_kept : (n m : Noted) (c u : ℕ) (o : Option Traffic) → IsUnreadIn n u
    → SetsWire (slots_state n.slots) c o (slots_state m.slots)
    → Notes (slots_state n.slots) (tally_of n) c (slots_state m.slots) (tally_of m)
    → count_at unread_count o ≡ count_in n c → IsUnreadIn m u
set_kept n m c u o was sets notes same =
    let own : count_in m c ≡ count_in n c = ap (count_at unread_count) sets.own ∙ same in
    kept n m u was (each own) (omega (arith, own, notes.unread))
  where
    each : count_in m c ≡ count_in n c → (k : ℕ) → count_in m k ≡ count_in n k
    each own k = elim (cases_eq k c) [
      | inl is ↦ ap (count_in m) is ∙ own ∙ ap (count_in n) (sym is)
      | inr apart ↦ ap (count_at unread_count) (sets.others k apart)
    ]

-- one connection changed, and this many are unread of it
set_counted : (n m : Noted) (c u sum : ℕ) (o : Option Traffic) → IsUnreadIn n u
    → SetsWire (slots_state n.slots) c o (slots_state m.slots) → count_in m c < 2 ^ 64
    → sum ≡ (tally_of m).unread → IsUnreadIn m sum
set_counted n m c u sum o was sets own total = record {
  few = λ k. elim (cases_eq k c) [
    | inl is ↦ subst (λ x. x < 2 ^ 64) (ap (count_in m) (sym is)) own
    | inr apart ↦ subst (λ x. x < 2 ^ 64) (sym (ap (count_at unread_count) (sets.others k apart))) (was.few k)
  ];
  total_is = total;
}

-- bytes were taken, if it takes more
pub unread_taken : (taken : Option ℕ) (n m : Noted) (c u sum : ℕ) (piece : List ℕ) → IsUnreadIn n u
    → IfSome taken (λ count. ChangesWire (slots_state n.slots) c
    (λ wire after. IsUnfinished wire.unread × TakesIn wire piece count after) (slots_state m.slots))
    → IfSome taken (λ _. Notes (slots_state n.slots) (tally_of n) c (slots_state m.slots) (tally_of m))
    → IfSome taken (λ _. count_in m c < 2 ^ 64)
    → IfNone taken (slots_state m.slots ≡ slots_state n.slots) → IfNone taken (tally_of m ≡ tally_of n)
    → sum ≡ u + unwrap_or taken 0 → IsUnreadIn m sum
unread_taken (Some count) n m c u sum piece was takes notes few same tally is =
    let was_long : count_in n c ≡ length takes.wire.unread = ap (count_at unread_count) takes.there in
    let now_long : count_in m c ≡ length takes.after.unread = ap (count_at unread_count) takes.sets.own in
    let longer : length takes.after.unread ≡ length takes.wire.unread + length (take count piece) =
    ap (λ (t : Traffic). length t.unread) takes.changes.1.unread
    ∙ length-append takes.wire.unread (take count piece) in
    let all : length (take count piece) ≡ count = length-take-le count piece takes.changes.1.within in
    set_counted n m c u sum (Some takes.after) was takes.sets few
    (omega (arith, is, was.total_is, notes.unread, was_long, now_long, longer, all))
unread_taken None n m c u sum piece was takes notes few same tally is =
    subst (IsUnreadIn m) (plus_none u ∙ sym is)
    (unread_stays_in n m u was same (ap (λ (t : Tally). t.unread) tally))
  where
    plus_none : (k : ℕ) → k ≡ k + 0
    plus_none k = omega arith

-- so many bytes were read off
pub unread_read : (n m : Noted) (c u read : ℕ) (o : Option Traffic) → IsUnreadIn n u
    → SetsWire (slots_state n.slots) c o (slots_state m.slots)
    → Notes (slots_state n.slots) (tally_of n) c (slots_state m.slots) (tally_of m)
    → count_in m c + read ≡ count_in n c → IsUnreadIn m (u - read) × (read ≤ u)
unread_read n m c u read o was sets notes fewer =
    let within : read ≤ u = omega (arith, was.total_is, notes.unread, fewer) in (
      set_counted n m c u (u - read) o was sets (omega (arith, was.few c, fewer))
          (omega (arith, was.total_is, notes.unread, fewer, within)),
      within,
    )

pub unread_opened : {E : Type 0} (r : Result ℕ E) (n m : Noted) (u : ℕ) → IsUnreadIn n u
    → IfOk r (λ c. OpensWire (slots_state n.slots) c (slots_state m.slots))
    → IfOk r (λ c. Notes (slots_state n.slots) (tally_of n) c (slots_state m.slots) (tally_of m))
    → OnErr r (slots_state m.slots ≡ slots_state n.slots) → OnErr r (tally_of m ≡ tally_of n)
    → IsUnreadIn m u
unread_opened (Ok c) n m u was opened notes refused kept =
    set_kept n m c u (Some fresh_traffic) was opened.sets notes
    (sym (ap (count_at unread_count) opened.free))
unread_opened (Err e) n m u was opened notes refused kept =
    unread_stays_in n m u was refused (ap (λ (t : Tally). t.unread) kept)

-- no connection is open
pub unread_none : (n : Noted) (written : ℕ) → slots_state n.slots ≡ none_open written
    → tally_of n ≡ record { changed = []; unread = 0 } → IsUnreadIn n 0
unread_none n written none tally = record {
  few = λ k. subst (λ x. x < 2 ^ 64)
      (sym (ap (λ (s : WiresState). count_at unread_count (s.wires k)) none)) (lit< tt);
  total_is = sym (ap (λ (t : Tally). t.unread) tally);
}

-- fewer than 2^64 of each are fewer than so many of all
bounded_below : (w : ℕ → Option Traffic) (room : ℕ) → ((k : ℕ) → count_at unread_count (w k) < 2 ^ 64)
    → total_below unread_count w room ≤ 18446744073709551615 * room
bounded_below w zero few = omega arith
bounded_below w (suc room) few = omega (arith, few room, bounded_below w room few)

pub unread_bounded : (n : Noted) (u : ℕ) → IsUnreadIn n u → u ≤ 18446744073709551615 * n.slots.slots.room
unread_bounded n u was =
    let all = bounded_below (wires_at (get n.slots.slots)) n.slots.slots.room was.few in
    omega (arith, all, was.total_is)
