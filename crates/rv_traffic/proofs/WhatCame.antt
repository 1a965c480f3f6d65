-- What is read of a connection.
use Rattle.std.proofs.Common.{◌≡◌, ◌∙◌, ◌++◌, ℕ, Bool, IsSome, List, [], None, Option, Some, ap}
use Rattle.std.proofs.Common.{append-nil, length-append}
use Rattle.std.proofs.Common.{◌<◌, ◌≤◌, arith, drop, take, inl, inr, length, refl, subst, sym}
use Rattle.std.proofs.lemmas.List.{drop-append-le, drop_all, length-drop, set-get_or, take-append-drop}
use Rattle.std.proofs.lemmas.Bool.{false≢true}
use Rattle.std.proofs.lemmas.Option.{same_Some}
use Rattle.std.specs.Io.KnownBytes.{Consumes}
use Rattle.rv_hub.specs.dispatcher.View.{DispatcherTerms}
use Rattle.rv_hub.specs.declared.events.HubEvent.{HubEvent}
use Rattle.rv_engine.specs.Engines.{EngineState}
use Rattle.rv_engine.specs.Handing.{HandsOn}
use Rattle.rv_account.specs.declared.entry.Entry.{Entry}
use Rattle.rv_traffic.specs.declared.links.link.ReadOutcome.TheVariants as input
use Rattle.rv_traffic.specs.declared.links.link.Socket.{Socket}
use Rattle.rv_traffic.specs.links.Table.{ChangesOne, PendsSlot, ReadsSlot, link_at, pending_of}
use Rattle.rv_traffic.specs.declared.outcomes.Reading.{Reading}
use Rattle.rv_traffic.specs.declared.outcomes.Reading.TheVariants as reading
use Rattle.rv_traffic.specs.Calls.{ChangesLink, GaveEnd, GivesUp, Hands, IsReadable, KeepsUntaken, KeepsWhole}
use Rattle.rv_traffic.specs.Calls.{LosesBytes, MayBeOffered, NoneCame, OffersPiece, ReadsNew, SameFlags}
use Rattle.rv_traffic.specs.Calls.{HasRoomLeft, ReadsOne, TellsGone}
use Rattle.rv_traffic.specs.declared.traffic.TheConstants.{SHARE, SMALL}
use Rattle.rv_traffic.specs.Views.{IsPieceOf, TrafficState}
use Rattle.rv_traffic.proofs.Tables.{none_changed, one_then}

-- some of it wasn't taken
pub some_left : (bytes : List ℕ) (given count : ℕ) → drop count bytes ≡ drop given bytes
    → count < length bytes → given < length bytes
some_left bytes given count same some =
    let one = length-drop count bytes in
    let other = length-drop given bytes in
    let lengths = ap length same in
    omega (arith, one, other, lengths, some)

-- what is left of a front is in front of the rest
front_dropped : (bytes : List ℕ) (most count given : ℕ) → count ≤ length (take most bytes)
    → drop count (take most bytes) ≡ drop given (take most bytes)
    → drop count bytes ≡ drop given (take most bytes) ++ drop most bytes
front_dropped bytes most count given within same =
    ap (drop count) (sym (take-append-drop most bytes))
    ∙ drop-append-le count (take most bytes) (drop most bytes) within
    ∙ ap (λ (l : List ℕ). l ++ drop most bytes) same

-- so much of a front is no more than all
pub share_within : (bytes : List ℕ) (most count : ℕ) → count ≤ length (take most bytes)
    → count ≤ length bytes
share_within bytes most count within =
    let parts = ap length (take-append-drop most bytes) in
    let sum = length-append (take most bytes) (drop most bytes) in
    omega (arith, parts, sum, within)

module _ {S : Type 0} where
  -- a share of what is pending was offered
  pub share_offered : (old new : List (Option (Socket S))) (n : ℕ) (what : HubEvent) (given count : ℕ)
      → 0 < length (pending_of (link_at old n))
      → IsPieceOf what n (take SHARE (pending_of (link_at old n)))
      → count ≤ length (take SHARE (pending_of (link_at old n)))
      → drop count (take SHARE (pending_of (link_at old n)))
      ≡ drop given (take SHARE (pending_of (link_at old n)))
      → PendsSlot (link_at old n) (drop count (pending_of (link_at old n))) (link_at new n)
      → ChangesOne old n new
      → ChangesLink old n (λ link after. (after.stream ≡ link.stream)
      × IsPieceOf what n (take SHARE link.pending.items)
      × (after.pending.items ≡ drop given (take SHARE link.pending.items) ++ drop SHARE link.pending.items)
      × SameFlags link after) new
  share_offered old new n what given count some piece within same pends others =
      at (link_at old n) refl some piece within same pends
    where
      at : (o : Option (Socket S)) → link_at old n ≡ o → 0 < length (pending_of o)
          → IsPieceOf what n (take SHARE (pending_of o)) → count ≤ length (take SHARE (pending_of o))
          → drop count (take SHARE (pending_of o)) ≡ drop given (take SHARE (pending_of o))
          → PendsSlot o (drop count (pending_of o)) (link_at new n)
          → ChangesLink old n (λ link after. (after.stream ≡ link.stream)
          × IsPieceOf what n (take SHARE link.pending.items)
          × (after.pending.items
          ≡ drop given (take SHARE link.pending.items) ++ drop SHARE link.pending.items)
          × SameFlags link after) new
      at None is some offered short so is_new = absurd (let less : 0 < 0 = some in omega arith)
      at (Some link) is some offered short so (after, has, is_new) = record {
        link = link;
        after = after;
        there = is;
        changes = (
          has.stream,
          offered,
          has.pending ∙ front_dropped link.pending.items SHARE count given short so,
          record {
            readable = has.readable;
            writable = has.writable;
            moved = has.moved;
            sent = has.sent;
          },
        );
        is = is_new;
        others = others;
      }

  -- what the hub didn't take of a piece is pending
  pub rest_kept : (old new : List (Option (Socket S))) (n : ℕ) (bytes : List ℕ) (given count : ℕ)
      → IsSome (link_at old n) → pending_of (link_at old n) ≡ [] → drop count bytes ≡ drop given bytes
      → PendsSlot (link_at old n) (pending_of (link_at old n) ++ drop count bytes) (link_at new n)
      → ChangesOne old n new
      → ChangesLink old n (λ link after. (after.stream ≡ link.stream)
      × (after.pending.items ≡ drop given bytes) × SameFlags link after) new
  rest_kept old new n bytes given count there none same pends others =
      at (link_at old n) refl there none pends
    where
      at : (o : Option (Socket S)) → link_at old n ≡ o → IsSome o → pending_of o ≡ []
          → PendsSlot o (pending_of o ++ drop count bytes) (link_at new n)
          → ChangesLink old n (λ link after. (after.stream ≡ link.stream)
          × (after.pending.items ≡ drop given bytes) × SameFlags link after) new
      at None is some empty is_new = absurd (false≢true some)
      at (Some link) is some empty (after, has, is_new) = record {
        link = link;
        after = after;
        there = is;
        changes = (
          has.stream,
          has.pending ∙ ap (λ (l : List ℕ). l ++ drop count bytes) empty ∙ same,
          record {
            readable = has.readable;
            writable = has.writable;
            moved = has.moved;
            sent = has.sent;
          },
        );
        is = is_new;
        others = others;
      }

  some_after : (new : Option (Socket S)) (after : Socket S) → new ≡ Some after → IsSome new
  some_after new after is = subst IsSome (sym is) refl

  -- a piece came of a socket
  pub piece_there : (remaining : S → Option (List ℕ)) (now : ℕ) (o : Option (Socket S)) (bytes : List ℕ)
      (new : Option (Socket S)) → ReadsSlot remaining now o input.Piece bytes new → pending_of o ≡ []
      → IsSome new × (pending_of new ≡ [])
  piece_there remaining now None bytes new (none, empty, is) pending =
      absurd (let differ : input.Piece ≡ input.Nothing = none in cc)
  piece_there remaining now (Some link) bytes new (after, reads, is) pending = (
    some_after new after is,
    ap pending_of is ∙ ap (λ p. p.items) reads.rest.pending ∙ pending,
  )

  came_then : (remaining : S → Option (List ℕ)) (now : ℕ) (old mid new : List (Option (Socket S))) (n : ℕ)
      (bytes : List ℕ) (what : HubEvent) (given : ℕ) → pending_of (link_at old n) ≡ []
      → ReadsSlot remaining now (link_at old n) input.Piece bytes (link_at mid n) → ChangesOne old n mid
      → IsPieceOf what n bytes
      → ChangesLink mid n (λ link after. (after.stream ≡ link.stream)
      × (after.pending.items ≡ drop given bytes) × SameFlags link after) new
      → ChangesLink old n (λ link after. Consumes (remaining link.stream) (remaining after.stream) bytes
      × IsPieceOf what n (link.pending.items ++ bytes)
      × (after.pending.items ≡ drop given (link.pending.items ++ bytes)) × SameFlags link after) new
  came_then remaining now old mid new n bytes what given none reads first piece later =
      at (link_at old n) refl none reads
    where
      at : (o : Option (Socket S)) → link_at old n ≡ o → pending_of o ≡ []
          → ReadsSlot remaining now o input.Piece bytes (link_at mid n)
          → ChangesLink old n (λ link after. Consumes (remaining link.stream) (remaining after.stream) bytes
          × IsPieceOf what n (link.pending.items ++ bytes)
          × (after.pending.items ≡ drop given (link.pending.items ++ bytes)) × SameFlags link after) new
      at None is empty (nothing, no_bytes, is_mid) =
          absurd (let differ : input.Piece ≡ input.Nothing = nothing in cc)
      at (Some link) is empty (between, read, is_mid) =
          let same : later.link ≡ between = same_Some later.link between (sym later.there ∙ is_mid) in
          let all : bytes ≡ link.pending.items ++ bytes = ap (λ (l : List ℕ). l ++ bytes) (sym empty) in
          record {
            link = link;
            after = later.after;
            there = is;
            changes = (
              subst (λ (s : S). Consumes (remaining link.stream) (remaining s) bytes)
                  (sym (later.changes.0 ∙ ap (λ (l : Socket S). l.stream) same)) read.gives.2,
              subst (IsPieceOf what n) all piece,
              later.changes.1 ∙ ap (drop given) all,
              record {
                readable = later.changes.2.readable ∙ ap (λ (l : Socket S). l.is_readable) same
                    ∙ read.readable;
                writable = later.changes.2.writable ∙ ap (λ (l : Socket S). l.is_writable) same
                    ∙ read.rest.writable;
                moved = later.changes.2.moved ∙ ap (λ (l : Socket S). l.moved) same ∙ read.rest.moved;
                sent = later.changes.2.sent ∙ ap (λ (l : Socket S). l.sent) same ∙ read.rest.sent;
              },
            );
            is = later.is;
            others = one_then old mid new n first later.others;
          }

  whole_came : (remaining : S → Option (List ℕ)) (now : ℕ) (old mid new : List (Option (Socket S))) (n : ℕ)
      (bytes : List ℕ) → pending_of (link_at old n) ≡ []
      → ReadsSlot remaining now (link_at old n) input.Piece bytes (link_at mid n) → ChangesOne old n mid
      → ChangesLink mid n (λ link after. (after.stream ≡ link.stream)
      × (after.pending.items ≡ bytes) × SameFlags link after) new
      → ChangesLink old n (λ link after. Consumes (remaining link.stream) (remaining after.stream) bytes
      × (after.pending.items ≡ bytes) × SameFlags link after) new
  whole_came remaining now old mid new n bytes none reads first later = at (link_at old n) refl reads
    where
      at : (o : Option (Socket S)) → link_at old n ≡ o
          → ReadsSlot remaining now o input.Piece bytes (link_at mid n)
          → ChangesLink old n (λ link after. Consumes (remaining link.stream) (remaining after.stream) bytes
          × (after.pending.items ≡ bytes) × SameFlags link after) new
      at None is (nothing, no_bytes, is_mid) =
          absurd (let differ : input.Piece ≡ input.Nothing = nothing in cc)
      at (Some link) is (between, read, is_mid) =
          let same : later.link ≡ between = same_Some later.link between (sym later.there ∙ is_mid) in
          record {
            link = link;
            after = later.after;
            there = is;
            changes = (
              subst (λ (s : S). Consumes (remaining link.stream) (remaining s) bytes)
                  (sym (later.changes.0 ∙ ap (λ (l : Socket S). l.stream) same)) read.gives.2,
              later.changes.1,
              record {
                readable = later.changes.2.readable ∙ ap (λ (l : Socket S). l.is_readable) same
                    ∙ read.readable;
                writable = later.changes.2.writable ∙ ap (λ (l : Socket S). l.is_writable) same
                    ∙ read.rest.writable;
                moved = later.changes.2.moved ∙ ap (λ (l : Socket S). l.moved) same ∙ read.rest.moved;
                sent = later.changes.2.sent ∙ ap (λ (l : Socket S). l.sent) same ∙ read.rest.sent;
              },
            );
            is = later.is;
            others = one_then old mid new n first later.others;
          }

  piece_came : (remaining : S → Option (List ℕ)) (now : ℕ) (old new : List (Option (Socket S))) (n : ℕ)
      (bytes : List ℕ) → ReadsSlot remaining now (link_at old n) input.Piece bytes (link_at new n)
      → ChangesOne old n new
      → ChangesLink old n (λ link after. Consumes (remaining link.stream) (remaining after.stream) bytes) new
  piece_came remaining now old new n bytes reads others = at (link_at old n) refl reads
    where
      at : (o : Option (Socket S)) → link_at old n ≡ o
          → ReadsSlot remaining now o input.Piece bytes (link_at new n)
          → ChangesLink old n (λ link after. Consumes (remaining link.stream) (remaining after.stream) bytes)
          new
      at None is (nothing, no_bytes, is_new) =
          absurd (let differ : input.Piece ≡ input.Nothing = nothing in cc)
      at (Some link) is (after, read, is_new) = record {
        link = link;
        after = after;
        there = is;
        changes = read.gives.2;
        is = is_new;
        others = others;
      }

  -- a socket whose read failed may be read
  pub broken_readable : (remaining : S → Option (List ℕ)) (now : ℕ) (o : Option (Socket S)) (bytes : List ℕ)
      (new : Option (Socket S)) → ReadsSlot remaining now o input.Broken bytes new → IsReadable o
  broken_readable remaining now None bytes new (nothing, no_bytes, is) =
      absurd (let differ : input.Broken ≡ input.Nothing = nothing in cc)
  broken_readable remaining now (Some link) bytes new (after, read, is) = read.gives.1

  -- what came of a piece is what came of the read
  pub piece_read : (remaining : S → Option (List ℕ)) (journal : Bool) (terms : DispatcherTerms) (now n : ℕ)
      (old mid : TrafficState S) (bytes : List ℕ) (result : Reading) (new : TrafficState S)
      → MayBeOffered old.engine.hub n → mid.engine ≡ old.engine → pending_of (link_at old.table n) ≡ []
      → ReadsSlot remaining now (link_at old.table n) input.Piece bytes (link_at mid.table n)
      → ChangesOne old.table n mid.table → OffersPiece journal terms now n bytes mid result new
      → ReadsNew remaining journal terms now n old result new
  piece_read remaining journal terms now n old mid bytes reading.Nothing new may same none reads first is =
      absurd is
  piece_read remaining journal terms now n old mid bytes reading.Offered new may same none reads first is =
      record {
        may = may;
        none_pending = none;
        bytes = bytes;
        small = is.small;
        what = is.what;
        given = is.given;
        hands = subst (λ (e : EngineState). Hands journal terms e now is.what is.given new.engine) same
            is.hands;
        link = came_then remaining now old.table mid.table new.table n bytes is.what is.given none reads first
            is.piece
            is.link;
      }
  piece_read remaining journal terms now n old mid bytes reading.Kept new may same none reads first is =
      record {
        may = may;
        none_pending = none;
        bytes = bytes;
        many = is.many;
        engine = is.engine ∙ same;
        link = whole_came remaining now old.table mid.table new.table n bytes none reads first is.link;
      }
  piece_read remaining journal terms now n old mid bytes reading.Ended new may same none reads first is =
      absurd is
  piece_read remaining journal terms now n old mid bytes reading.Broken new may same none reads first is =
      absurd is
  piece_read remaining journal terms now n old mid bytes reading.NoMemory new may same none reads first is =
      record {
        may = may;
        none_pending = none;
        bytes = bytes;
        read = mid.table;
        came = piece_came remaining now old.table mid.table n bytes reads first;
        loses = lost_behind is;
      }
    where
      lost_behind : LosesBytes journal terms now n bytes mid new
          → LosesBytes journal terms now n bytes (record old { table = mid.table }) new
      lost_behind (inl rest) = inl (record {
        small = rest.small;
        what = rest.what;
        piece = rest.piece;
        given = rest.given;
        some = rest.some;
        between = rest.between;
        hands = subst
            (λ (e : EngineState). Hands journal terms e now rest.what rest.given rest.between.engine) same
            rest.hands;
        others = rest.others;
        gives_up = rest.gives_up;
      })
      lost_behind (inr whole) = inr (record {
        many = whole.many;
        gives_up = record {
          link = whole.gives_up.link;
          told = subst (λ (e : EngineState). TellsGone journal terms e now n new.engine) same
              whole.gives_up.told;
        };
      })

  -- what came of a read is what came of a turn, where there was room
  pub reads_within : (remaining : S → Option (List ℕ)) (room : ℕ) (journal : Bool) (terms : DispatcherTerms)
      (now n : ℕ) (old : TrafficState S) (came : Reading) (new : TrafficState S) → HasRoomLeft old room
      → pending_of (link_at old.table n) ≡ [] → ReadsNew remaining journal terms now n old came new
      → ReadsOne remaining room journal terms now n old came new
  reads_within remaining room journal terms now n old reading.Nothing new within none is = record {
    engine = is.0;
    why = inr (within, none, is.1);
  }
  reads_within remaining room journal terms now n old reading.Offered new within none is = (within, is)
  reads_within remaining room journal terms now n old reading.Kept new within none is = (within, is)
  reads_within remaining room journal terms now n old reading.Ended new within none is = (within, is)
  reads_within remaining room journal terms now n old reading.Broken new within none is = (within, is)
  reads_within remaining room journal terms now n old reading.NoMemory new within none is = (within, is)

  -- nothing came
  pub nothing_came : (remaining : S → Option (List ℕ)) (now : ℕ) (old new : List (Option (Socket S))) (n : ℕ)
      (bytes : List ℕ) → ReadsSlot remaining now (link_at old n) input.Nothing bytes (link_at new n)
      → ChangesOne old n new → NoneCame remaining n old new
  nothing_came remaining now old new n bytes reads others = at (link_at old n) refl reads
    where
      at : (o : Option (Socket S)) → link_at old n ≡ o
          → ReadsSlot remaining now o input.Nothing bytes (link_at new n) → NoneCame remaining n old new
      at None is (nothing, no_bytes, is_new) = inl (is, none_changed old new n others (is_new ∙ sym is))
      at (Some link) is (after, read, is_new) = inr (record {
        link = link;
        after = after;
        there = is;
        changes = record { keeps = read.gives.1; rest = read.rest; heard = read.heard };
        is = is_new;
        others = others;
      })

  -- the end came
  pub end_came : (remaining : S → Option (List ℕ)) (now : ℕ) (old new : List (Option (Socket S))) (n : ℕ)
      (bytes : List ℕ) → ReadsSlot remaining now (link_at old n) input.End bytes (link_at new n)
      → ChangesOne old n new → ChangesLink old n (GaveEnd remaining) new
  end_came remaining now old new n bytes reads others = at (link_at old n) refl reads
    where
      at : (o : Option (Socket S)) → link_at old n ≡ o
          → ReadsSlot remaining now o input.End bytes (link_at new n)
          → ChangesLink old n (GaveEnd remaining) new
      at None is (nothing, no_bytes, is_new) = absurd (let differ : input.End ≡ input.Nothing = nothing in cc)
      at (Some link) is (after, read, is_new) = record {
        link = link;
        after = after;
        there = is;
        changes = record {
          is_end = read.gives.2;
          none = subst (λ (l : List ℕ). Consumes (remaining link.stream) (remaining after.stream) l)
              read.gives.0
              read.gives.3;
          rest = read.rest;
          heard = read.heard;
        };
        is = is_new;
        others = others;
      }

  -- a piece was offered, and the rest is pending
  pub keeps_made : (journal : Bool) (terms : DispatcherTerms) (now n : ℕ) (bytes : List ℕ)
      (old new : TrafficState S) (what : HubEvent) (made : List Entry) (given count : ℕ)
      → HandsOn journal terms old.engine now what made given new.engine → IsSome (link_at old.table n)
      → pending_of (link_at old.table n) ≡ [] → IsPieceOf what n bytes
      → drop count bytes ≡ drop given bytes
      → PendsSlot (link_at old.table n) (pending_of (link_at old.table n) ++ drop count bytes)
      (link_at new.table n)
      → ChangesOne old.table n new.table → length bytes ≤ SMALL
      → KeepsUntaken journal terms now n bytes old new
  keeps_made journal terms now n bytes old new what made given count does there none piece same pends others
      small
      = record {
        small = small;
        what = what;
        piece = piece;
        given = given;
        hands = record { made = made; hands = does };
        link = rest_kept old.table new.table n bytes given count there none same pends others;
      }

  -- a piece that isn't small is pending
  pub whole_made : (n : ℕ) (bytes : List ℕ) (old new : TrafficState S) → IsSome (link_at old.table n)
      → pending_of (link_at old.table n) ≡ []
      → PendsSlot (link_at old.table n) (pending_of (link_at old.table n) ++ drop 0 bytes)
      (link_at new.table n)
      → ChangesOne old.table n new.table → SMALL < length bytes → new.engine ≡ old.engine
      → KeepsWhole n bytes old new
  whole_made n bytes old new there none pends others many same = record {
    many = many;
    engine = same;
    link = rest_kept old.table new.table n bytes 0 0 there none refl pends others;
  }

  pends_none : (o : Option (Socket S)) → PendsSlot o (pending_of o ++ []) o
  pends_none None = refl
  pends_none (Some link) = (
    link,
    record {
      stream = refl;
      pending = sym (append-nil link.pending.items);
      readable = refl;
      writable = refl;
      heard = refl;
      moved = refl;
      sent = refl;
    },
    refl,
  )

  -- all of it was taken
  pub kept_whole : (journal : Bool) (terms : DispatcherTerms) (now n : ℕ) (bytes : List ℕ)
      (old : TrafficState S)
      (engine : EngineState) (what : HubEvent) (made : List Entry) (given count : ℕ)
      → HandsOn journal terms old.engine now what made given engine → IsSome (link_at old.table n)
      → pending_of (link_at old.table n) ≡ [] → IsPieceOf what n bytes
      → drop count bytes ≡ drop given bytes → count ≡ length bytes → length bytes ≤ SMALL
      → KeepsUntaken journal terms now n bytes old (record old { engine = engine })
  kept_whole journal terms now n bytes old engine what made given count does there none piece same all small =
      keeps_made journal terms now n bytes old (record old { engine = engine }) what made given
      count does there none piece same
      (subst (λ (l : List ℕ). PendsSlot (link_at old.table n) (pending_of (link_at old.table n) ++ l)
      (link_at old.table n)) (sym (drop_all count bytes (omega (arith, all))))
      (pends_none (link_at old.table n))) (sym (set-get_or old.table n None)) small

  -- or the connection is given up
  pub loses_made : (journal : Bool) (terms : DispatcherTerms) (now n : ℕ) (bytes : List ℕ)
      (old between new : TrafficState S) (what : HubEvent) (made : List Entry) (given : ℕ)
      → given < length bytes → length bytes ≤ SMALL
      → HandsOn journal terms old.engine now what made given between.engine → IsPieceOf what n bytes
      → ChangesOne old.table n between.table → GivesUp journal terms now n between new
      → LosesBytes journal terms now n bytes old new
  loses_made journal terms now n bytes old between new what made given some small does piece others gives =
      inl (record {
        small = small;
        what = what;
        piece = piece;
        given = given;
        some = some;
        between = between;
        hands = record { made = made; hands = does };
        others = others;
        gives_up = gives;
      })
