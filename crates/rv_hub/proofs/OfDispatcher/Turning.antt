-- A connection goes on until it stops.
use Rattle.std.proofs.Common.{inl, inr, ◌≡◌, ◌+◌, ◌-◌, ◌<◌, ◌≤◌, ◌∙◌, ◌++◌, ◌∷◌, ◌⊎◌, ℕ, List, []}
use Rattle.std.proofs.Common.{Some, refl, sym, ap, subst, arith, append_assoc, drop, length, take}
use Rattle.std.proofs.Common.{IfNone, IfSome, None, Option, false, nat_eq, suc, unwrap_or, zero}
use Rattle.std.specs.Prelude.{All, flat_map}
use Rattle.std.proofs.lemmas.Bool.{false≢true}
use Rattle.std.proofs.Math.Seq.{take-add}
use Rattle.std.proofs.lemmas.List.{append-nil, length-append, length-drop, length-take-le, take_all}
use Rattle.std.proofs.lemmas.List.Elements.{All-append, All-cons, All-nil}
use Rattle.std.proofs.lemmas.Grind.{flat_map-append}
use Rattle.std.proofs.lemmas.Option.{none-some}
use Rattle.rv_frame.specs.Cut.{IsUnfinished}
use Rattle.rv_server_connections.specs.connection.Traffic.{IsBad, IsWholeFrame, Traffic}
use Rattle.rv_server_connections.specs.connection.Steps.{TakesIn}
use Rattle.rv_server_connections.specs.subscribers.Subscribers.{subscribers_count, subscribers_of}
use Rattle.rv_server_connections.specs.Connections.{ChangesWire, HasWire, SetsWire, Tally, WiresState}
use Rattle.rv_server_connections.specs.Connections.{WireTakesNoMore}
use Rattle.rv_server_connections.specs.Wires.{tally_in, wires_in}
use Rattle.rv_server_connections.specs.declared.wires.Wires.{Wires}
use Rattle.rv_hub.specs.declared.dispatcher.Dispatcher.{Dispatcher}
use Rattle.rv_hub.specs.dispatcher.View.{DispatcherState, DispatcherTerms}
use Rattle.rv_hub.specs.dispatcher.Effects.{Effect, DoesClose, bytes_by, bytes_in, entries_of_effect}
use Rattle.rv_hub.specs.dispatcher.Effects.{told_of_effect, told_in_effects, Closed, TookIn}
use Rattle.rv_hub.specs.dispatcher.Order.{IsOwnEffect, IsStride, MayClose, MayDo, RunsStrides, effects_of}
use Rattle.rv_hub.specs.dispatcher.Order.{left_behind}
use Rattle.rv_hub.specs.dispatcher.Rest.{TakesNoMore}
use Rattle.rv_hub.specs.dispatcher.Fields.{IsDispatcherSound, IsSteady, dispatcher_state, dispatcher_terms}
use Rattle.rv_hub.specs.dispatcher.Going.{FeedsPiece, Finishes, Goes, NotesOne, Strides, TakesItsTurn}
use Rattle.rv_hub.specs.dispatcher.Going.{unread_at, unread_of, unread_total, work_left}
use Rattle.rv_hub.proofs.OfDispatcher.Answering.{some_is, sound_wire}
use Rattle.rv_hub.proofs.OfDispatcher.Chains.{runs_append}
use Rattle.rv_hub.proofs.OfDispatcher.KeyByKey.{no_keys}
use Rattle.rv_hub.proofs.OfDispatcher.Owing.{Agree}
use Rattle.rv_hub.proofs.OfDispatcher.Rooms.{same_state}

-- ---- one connection's bytes change, and not what it owes

pub agree_same : (d : Dispatcher) (connection : ℕ) (wire after : Traffic) → IsDispatcherSound d
    → (wires_in d.wires).wires connection ≡ Some wire → after.owes ≡ wire.owes
    → Agree (Some after) (subscribers_of d.subscribers connection)
agree_same d connection wire after sound there same = record {
  owes = λ h hears.
      let owing = sound.subscribers_owe connection h hears in
      let is = some_is owing.wire wire (sym owing.there ∙ there) in
      (after, refl, same ∙ ap (λ (t : Traffic). t.owes) (sym is) ∙ owing.so);
  hears = λ t is owes.
      let its = some_is after t is in
      sound.owers_hear connection wire there (sym same ∙ ap (λ (x : Traffic). x.owes) its ∙ owes);
}

pub sound_same : (d : Dispatcher) (wires : Wires) (connection : ℕ) (wire after : Traffic)
    → IsDispatcherSound d
    → (wires_in d.wires).wires connection ≡ Some wire → after.owes ≡ wire.owes
    → SetsWire (wires_in d.wires) connection (Some after) (wires_in wires)
    → IsDispatcherSound (record d { wires = wires })
sound_same d wires connection wire after sound there same sets =
    sound_wire d wires connection (Some after) sound sets (agree_same d connection wire after sound there
    same)

-- ---- wires of which contracts see the same

pub same_sound : (d : Dispatcher) (wires : Wires) → IsDispatcherSound d → wires_in wires ≡ wires_in d.wires
    → IsDispatcherSound (record d { wires = wires })
same_sound d wires sound same = record {
  book = sound.book;
  patient = sound.patient;
  limits = sound.limits;
  subscribers_owe = λ n h there.
      let owing = sound.subscribers_owe n h there in
      record {
        wire = owing.wire;
        there = ap (λ (w : WiresState). w.wires n) same ∙ owing.there;
        so = owing.so;
      };
  owers_hear = λ n wire there owing.
      sound.owers_hear n wire (ap (λ (w : WiresState). w.wires n) (sym same) ∙ there) owing;
  tellable = sound.tellable;
}

pub same_steady : (d : Dispatcher) (wires : Wires) → IsSteady d → wires_in wires ≡ wires_in d.wires
    → IsSteady (record d { wires = wires })
same_steady d wires steady same = record {
  sound = same_sound d wires steady.sound same;
  waits = steady.waits;
  room = steady.room;
  none_due = steady.none_due;
  in_time = steady.in_time;
}

-- a piece that isn't empty has bytes
pub has_bytes : (count : ℕ) → nat_eq count 0 ≡ false → 0 < count
has_bytes zero is = absurd (false≢true (sym is))
has_bytes (suc n) is = omega arith

-- ---- what goes on beside

pub goes_further : (one two three : Dispatcher) (first second : List Effect) → Goes one first two
    → Goes two second three
    → Goes one (first ++ second) three
goes_further one two three first second before behind = record {
  made = behind.made ∙ ap (λ l. l ++ flat_map entries_of_effect second) before.made
      ∙ append_assoc one.entries.items (flat_map entries_of_effect first) (flat_map entries_of_effect second)
      ∙ ap (λ l. one.entries.items ++ l) (sym (flat_map-append entries_of_effect first second));
  freed = behind.freed ∙ ap (λ l. l ++ told_in_effects second) before.freed
      ∙ append_assoc one.freed.items (told_in_effects first) (told_in_effects second)
      ∙ ap (λ l. one.freed.items ++ l) (sym (flat_map-append told_of_effect first second));
  terms = behind.terms ∙ before.terms;
}

-- an effect of its own, which makes no entry and tells nobody
one_stride : (terms : DispatcherTerms) (s t : DispatcherState) (left : List ℕ) (effect : Effect)
    → MayDo s left effect
    → IsStride terms s effect [] t → RunsStrides terms s left ((effect, []) ∷ []) t
one_stride terms s t left effect may stride = (t, may, stride, refl)

may_close_more : (left : List ℕ) (wire : Traffic) → MayClose [] wire → MayClose left wire
may_close_more left wire (inl finished) = inl finished
may_close_more left wire (inr (inl due)) = inr (inl due)
may_close_more left wire (inr (inr (part, some))) = absurd (let more = some in omega arith)

-- what may be done where nothing of a piece is left, may be done where something is
pub may_more : (s : DispatcherState) (left : List ℕ) (effect : Effect) → MayDo s [] effect
    → MayDo s left effect
may_more s left (Closed n) may =
    record { wire = may.wire; there = may.there; so = may_close_more left may.wire may.so }
may_more s left effect may = may

-- ---- bytes of a piece

-- none, in wires of which contracts see the same
fed_none : (d : Dispatcher) (wires : Wires) (connection : ℕ) (piece : List ℕ)
    → wires_in wires ≡ wires_in d.wires → tally_in wires ≡ tally_in d.wires
    → FeedsPiece d connection piece 0 (record d { wires = wires })
fed_none d wires connection piece same tally =
    let state = same_state d (record d { wires = wires }) (record {
      wires = same;
      tally = tally;
      rest = refl;
    }) in
    let unread : unread_total wires ≡ unread_total d.wires = ap (λ (t : Tally). t.unread) tally in
    let here : unread_of ((wires_in wires).wires connection)
    ≡ unread_of ((wires_in d.wires).wires connection) =
    ap (λ (w : WiresState). unread_of (w.wires connection)) same in
    record {
      strides = [];
      own = All-nil (λ (s : Effect × List Effect). IsOwnEffect connection s.0);
      runs = state;
      goes = record {
        made = sym (append-nil d.entries.items);
        freed = sym (append-nil d.freed.items);
        terms = refl;
      };
      within = omega arith;
      bytes = refl;
      unread = omega arith;
      work = omega arith;
    }

-- bytes that are all taken
takes_all : (wire after : Traffic) (piece : List ℕ) (count : ℕ) → TakesIn wire piece count after
    → TakesIn wire (take count piece) (length (take count piece)) after
takes_all wire after piece count takes =
    let bytes = take count piece in
    let whole : take (length bytes) bytes ≡ bytes = take_all (length bytes) bytes (omega arith) in
    record {
      within = omega arith;
      unread = takes.unread ∙ ap (λ l. record wire { unread = wire.unread ++ l }) (sym whole);
      one = takes.one;
      stops = λ less. absurd (let l = less in omega arith);
    }

fed_some : (d : Dispatcher) (wires : Wires) (connection : ℕ) (piece : List ℕ) (count : ℕ) → IsSteady d
    → (takes : ChangesWire (wires_in d.wires) connection (λ wire after. TakesIn wire piece count after)
    (wires_in wires))
    → NotesOne d.wires connection wires
    → IsSteady (record d { wires = wires }) × FeedsPiece d connection piece count (record d { wires = wires })
    × (count < length piece → TakesNoMore (dispatcher_state (record d { wires = wires })) connection)
fed_some d wires connection piece count steady takes noted =
    let unread : unread_total wires + unread_of ((wires_in d.wires).wires connection)
    ≡ unread_total d.wires + unread_of ((wires_in wires).wires connection) = noted.unread in
    let changes = takes.changes in
    let bytes = take count piece in
    let new = record d { wires = wires } in
    let long : length takes.after.unread ≡ length takes.wire.unread + length bytes =
    ap (λ (t : Traffic). length t.unread) changes.unread ∙ length-append takes.wire.unread bytes in
    let was : unread_of ((wires_in d.wires).wires connection) ≡ length takes.wire.unread =
    ap unread_of takes.there in
    let now : unread_of ((wires_in wires).wires connection) ≡ length takes.after.unread =
    ap unread_of takes.sets.own in
    let counted : length bytes ≡ count = length-take-le count piece changes.within in (
      record {
        sound = sound_same d wires connection takes.wire takes.after steady.sound takes.there
            (ap (λ (t : Traffic). t.owes) changes.unread) takes.sets;
        waits = steady.waits;
        room = steady.room;
        none_due = steady.none_due;
        in_time = steady.in_time;
      },
      record {
        strides = (TookIn connection bytes, []) ∷ [];
        own = All-cons (λ (s : Effect × List Effect). IsOwnEffect connection s.0) (
          TookIn connection bytes,
          [],
        ) []
            refl
            (All-nil (λ (s : Effect × List Effect). IsOwnEffect connection s.0));
        runs = one_stride (dispatcher_terms d) (dispatcher_state d) (dispatcher_state new) piece
            (TookIn connection bytes) tt
            (record {
              between = dispatcher_state new;
              does = record {
                changes = record {
                  wire = takes.wire;
                  after = takes.after;
                  there = takes.there;
                  changes = takes_all takes.wire takes.after piece count changes;
                  sets = takes.sets;
                };
                lists = noted.changed;
                rest = refl;
              };
              told = no_keys (dispatcher_terms d) (dispatcher_state new);
            });
        goes = record {
          made = sym (append-nil d.entries.items);
          freed = sym (append-nil d.freed.items);
          terms = refl;
        };
        within = changes.within;
        bytes = append-nil bytes;
        unread = omega arith;
        work = omega arith;
      },
      λ less wire there.
          let same = some_is takes.after wire (sym takes.sets.own ∙ there) in
          subst (λ (t : Traffic). IsWholeFrame t.unread ⊎ IsBad t.unread) same (changes.stops less),
    )

-- as many as the connection takes, if it takes more
pub fed : (d : Dispatcher) (wires : Wires) (connection : ℕ) (piece : List ℕ) (fed_count : Option ℕ)
    (count : ℕ) → count ≡ unwrap_or fed_count 0 → IsSteady d
    → IfSome fed_count (λ n. ChangesWire (wires_in d.wires) connection
    (λ wire after. IsUnfinished wire.unread × TakesIn wire piece n after) (wires_in wires))
    → IfSome fed_count (λ _. NotesOne d.wires connection wires)
    → IfNone fed_count (WireTakesNoMore (wires_in d.wires) connection)
    → IfNone fed_count (wires_in wires ≡ wires_in d.wires)
    → IfNone fed_count (tally_in wires ≡ tally_in d.wires)
    → IsSteady (record d { wires = wires }) × FeedsPiece d connection piece count (record d { wires = wires })
    × (count < length piece → TakesNoMore (dispatcher_state (record d { wires = wires })) connection)
fed d wires connection piece (Some n) count is steady takes noted no_more same tally =
    subst (λ k. IsSteady (record d { wires = wires }) × FeedsPiece d connection piece k (record d
    { wires = wires }) × (k < length piece → TakesNoMore (dispatcher_state (record d { wires = wires }))
    connection)) (sym is)
    (fed_some d wires connection piece n steady (record {
      wire = takes.wire;
      after = takes.after;
      there = takes.there;
      changes = takes.changes.1;
      sets = takes.sets;
    }) noted)
fed d wires connection piece None count is steady takes noted no_more same tally = (
  same_steady d wires steady same,
  subst (λ k. FeedsPiece d connection piece k (record d { wires = wires })) (sym is)
      (fed_none d wires connection piece same tally),
  λ less. subst (λ (w : WiresState). WireTakesNoMore w connection) (sym same) no_more,
)

pub fed_closed : (d mid new : Dispatcher) (connection : ℕ) (piece : List ℕ) → 0 < length piece
    → HasWire (wires_in d.wires) connection (λ wire. IsUnfinished wire.unread)
    → mid ≡ record d { wires = mid.wires }
    → wires_in mid.wires ≡ wires_in d.wires
    → tally_in mid.wires ≡ tally_in d.wires
    → DoesClose (dispatcher_state mid) connection (dispatcher_state new)
    → new ≡ record mid { wires = new.wires; subscribers = new.subscribers } → work_left new ≤ work_left mid
    → FeedsPiece d connection piece 0 new × TakesNoMore (dispatcher_state new) connection
fed_closed d mid new connection piece some more same wires tally closes rest less =
    let unread : unread_total mid.wires ≡ unread_total d.wires = ap (λ (t : Tally). t.unread) tally in
    let state : dispatcher_state mid ≡ dispatcher_state d =
    ap dispatcher_state same
    ∙ ap (λ w. record (dispatcher_state d) { open_wires = w; changed = (tally_in mid.wires).changed }) wires
    ∙ ap (λ (t : Tally). record (dispatcher_state d) { changed = t.changed }) tally in
    let closing = subst (λ s. DoesClose s connection (dispatcher_state new)) state closes in
    let gone : unread_at new connection ≡ 0 = ap unread_of closes.sets.own in
    let entries : new.entries.items ≡ d.entries.items =
    ap (λ (x : Dispatcher). x.entries.items) rest ∙ ap (λ (x : Dispatcher). x.entries.items) same in
    let freed : new.freed.items ≡ d.freed.items =
    ap (λ (x : Dispatcher). x.freed.items) rest ∙ ap (λ (x : Dispatcher). x.freed.items) same in
    let worked : work_left mid ≡ work_left d = ap work_left same
    ∙ ap (λ n. n + subscribers_count d.subscribers + length d.freed.items) unread in (
      record {
        strides = (Closed connection, []) ∷ [];
        own = All-cons (λ (s : Effect × List Effect). IsOwnEffect connection s.0) (Closed connection, []) []
            refl
            (All-nil (λ (s : Effect × List Effect). IsOwnEffect connection s.0));
        runs = one_stride (dispatcher_terms d) (dispatcher_state d) (dispatcher_state new) piece
            (Closed connection)
            (record { wire = more.wire; there = more.there; so = inr (inr (more.so, some)) })
            (record {
              between = dispatcher_state new;
              does = closing;
              told = no_keys (dispatcher_terms d) (dispatcher_state new);
            });
        goes = record {
          made = entries ∙ sym (append-nil d.entries.items);
          freed = freed ∙ sym (append-nil d.freed.items);
          terms = ap dispatcher_terms rest ∙ ap dispatcher_terms same;
        };
        within = omega arith;
        bytes = refl;
        unread = omega arith;
        work = omega arith;
      },
      λ wire there. absurd (none-some wire (sym closes.sets.own ∙ there)),
    )

-- ---- the whole turn

pub record TurnSoFar (old : Dispatcher) (connection : ℕ) (piece : List ℕ) (taken : ℕ) (now : Dispatcher) :
    Type 0 where
  pub strides : List (Effect × List Effect)
  pub own : All (λ s. IsOwnEffect connection s.0) strides
  pub runs : RunsStrides (dispatcher_terms old) (dispatcher_state old) piece strides (dispatcher_state now)
  pub goes : Goes old (effects_of strides) now
  pub within : taken ≤ length piece
  pub bytes : bytes_in (effects_of strides) ≡ take taken piece
  pub work : work_left now ≤ work_left old + taken
  pub stops : taken < length piece → TakesNoMore (dispatcher_state now) connection

effects_append : (xs ys : List (Effect × List Effect))
    → effects_of (xs ++ ys) ≡ effects_of xs ++ effects_of ys
effects_append xs ys = flat_map-append (λ (s : Effect × List Effect). s.0 ∷ s.1) xs ys

bytes_append : (xs ys : List Effect) → bytes_in (xs ++ ys) ≡ bytes_in xs ++ bytes_in ys
bytes_append xs ys = flat_map-append bytes_by xs ys

left_taken : (taken : ℕ) (piece : List ℕ) (effects : List Effect) → taken ≤ length piece
    → bytes_in effects ≡ take taken piece → left_behind piece effects ≡ drop taken piece
left_taken taken piece effects within bytes =
    ap (λ n. drop n piece) (ap length bytes ∙ length-take-le taken piece within)

-- strides, and others after them, whose dispatcher's terms are those before
further : (old now new : Dispatcher) (connection taken : ℕ) (piece : List ℕ) (xs ys :
    List (Effect × List Effect))
    → taken ≤ length piece → bytes_in (effects_of xs) ≡ take taken piece → Goes old (effects_of xs) now
    → RunsStrides (dispatcher_terms old) (dispatcher_state old) piece xs (dispatcher_state now)
    → RunsStrides (dispatcher_terms now) (dispatcher_state now) (drop taken piece) ys (dispatcher_state new)
    → Goes now (effects_of ys) new
    → RunsStrides (dispatcher_terms old) (dispatcher_state old) piece (xs ++ ys) (dispatcher_state new)
    × Goes old (effects_of (xs ++ ys)) new
further old now new connection taken piece xs ys within bytes goes runs more behind = (
  runs_append (dispatcher_terms old) xs ys (dispatcher_state old) (dispatcher_state now)
      (dispatcher_state new) piece runs
      (subst (λ left. RunsStrides (dispatcher_terms old) (dispatcher_state now) left ys
      (dispatcher_state new))
      (sym (left_taken taken piece (effects_of xs) within bytes))
      (subst (λ t. RunsStrides t (dispatcher_state now) (drop taken piece) ys (dispatcher_state new))
      goes.terms more)),
  subst (λ ds. Goes old ds new) (sym (effects_append xs ys))
      (goes_further old now new (effects_of xs) (effects_of ys) goes behind),
)

pub turn_begun : (old now : Dispatcher) (connection : ℕ) (piece : List ℕ) (count : ℕ)
    → FeedsPiece old connection piece count now
    → (count < length piece → TakesNoMore (dispatcher_state now) connection)
    → TurnSoFar old connection piece count now
turn_begun old now connection piece count feeds stops = record {
  strides = feeds.strides;
  own = feeds.own;
  runs = feeds.runs;
  goes = feeds.goes;
  within = feeds.within;
  bytes = feeds.bytes;
  work = feeds.work;
  stops = stops;
}

pub turn_on : (old now mid new : Dispatcher) (connection : ℕ) (piece : List ℕ) (taken count : ℕ)
    → TurnSoFar old connection piece taken now → Strides now connection mid
    → FeedsPiece mid connection (drop taken piece) count new
    → (count < length (drop taken piece) → TakesNoMore (dispatcher_state new) connection)
    → TurnSoFar old connection piece (taken + count) new
turn_on old now mid new connection piece taken count far strides feeds stops =
    let one : List (Effect × List Effect) = (strides.effect, strides.tells) ∷ [] in
    let mid_bytes : bytes_in (effects_of (far.strides ++ one)) ≡ take taken piece =
    ap bytes_in (effects_append far.strides one) ∙ bytes_append (effects_of far.strides) (effects_of one)
    ∙ ap (λ l. bytes_in (effects_of far.strides) ++ l)
    (ap bytes_in (append-nil (strides.effect ∷ strides.tells)) ∙ strides.bytes)
    ∙ append-nil (bytes_in (effects_of far.strides)) ∙ far.bytes in
    let mid_runs = further old now mid connection taken piece far.strides one far.within far.bytes far.goes
    far.runs (
      dispatcher_state mid,
      may_more (dispatcher_state now) (drop taken piece) strides.effect strides.may,
      strides.stride,
      refl,
    )
    (subst (λ ds. Goes now ds mid) (sym (append-nil (strides.effect ∷ strides.tells))) strides.goes) in
    let all_runs = further old mid new connection taken piece (far.strides ++ one) feeds.strides far.within
    mid_bytes mid_runs.1 mid_runs.0 feeds.runs feeds.goes in
    let long = length-drop taken piece in
    let within = feeds.within in
    let before = far.within in
    let work1 = far.work in
    let work2 = strides.work in
    let work3 = feeds.work in
    let P = λ (s : Effect × List Effect). IsOwnEffect connection s.0 in
    record {
      strides = (far.strides ++ one) ++ feeds.strides;
      own = All-append P (far.strides ++ one) feeds.strides
          (All-append P far.strides one far.own (All-cons P (strides.effect, strides.tells) [] strides.own
          (All-nil P)))
          feeds.own;
      runs = all_runs.0;
      goes = all_runs.1;
      within = omega arith;
      bytes = ap bytes_in (effects_append (far.strides ++ one) feeds.strides)
          ∙ bytes_append (effects_of (far.strides ++ one)) (effects_of feeds.strides)
          ∙ ap (λ l. l ++ bytes_in (effects_of feeds.strides)) mid_bytes ∙ ap (λ l. take taken piece ++ l)
          feeds.bytes ∙ sym (take-add taken count piece);
      work = omega arith;
      stops = λ less. stops (let l = less in omega arith);
    }

-- it is closed where nothing is left to do
pub turn_ended : (old now new : Dispatcher) (connection : ℕ) (piece : List ℕ) (taken : ℕ)
    → TurnSoFar old connection piece taken now → Finishes now connection new
    → TakesItsTurn old connection piece taken new
turn_ended old now new connection piece taken far finishes =
    elim finishes.did [
      | inl same ↦ subst (λ d. TakesItsTurn old connection piece taken d) (sym same) (record {
        effects = effects_of far.strides;
        turn = record {
          strides = far.strides;
          effects_are = refl;
          own = far.own;
          runs = far.runs;
          within = far.within;
          bytes = far.bytes;
        };
        goes = far.goes;
        work = far.work;
      })
      | inr (finished, closed) ↦
          let one : List (Effect × List Effect) = (Closed connection, []) ∷ [] in
          let rest = finishes.rest in
          let less = finishes.work in
          let before = far.work in
          let P = λ (s : Effect × List Effect). IsOwnEffect connection s.0 in
          let ends : Goes now (effects_of one) new = record {
            made = ap (λ (x : Dispatcher). x.entries.items) rest ∙ sym (append-nil now.entries.items);
            freed = ap (λ (x : Dispatcher). x.freed.items) rest ∙ sym (append-nil now.freed.items);
            terms = ap dispatcher_terms rest;
          } in
          let both = further old now new connection taken piece far.strides one far.within far.bytes far.goes
          far.runs
          (one_stride (dispatcher_terms now) (dispatcher_state now) (dispatcher_state new) (drop taken piece)
          (Closed connection)
          (record { wire = finished.wire; there = finished.there; so = inl finished.so })
          (record {
            between = dispatcher_state new;
            does = closed;
            told = no_keys (dispatcher_terms now) (dispatcher_state new);
          })) ends in
          record {
            effects = effects_of (far.strides ++ one);
            turn = record {
              strides = far.strides ++ one;
              effects_are = refl;
              own = All-append P far.strides one far.own (All-cons P (Closed connection, []) [] refl
                  (All-nil P));
              runs = both.0;
              within = far.within;
              bytes = ap bytes_in (effects_append far.strides one)
                  ∙ bytes_append (effects_of far.strides) (effects_of one)
                  ∙ append-nil (bytes_in (effects_of far.strides)) ∙ far.bytes;
            };
            goes = both.1;
            work = omega arith;
          }
    ]

-- less is unread, of the connection and of the piece, after a frame and more bytes
pub smaller : (now mid new : Dispatcher) (connection : ℕ) (piece : List ℕ) (taken count : ℕ)
    → Strides now connection mid
    → FeedsPiece mid connection (drop taken piece) count new
    → unread_at new connection + (length piece - (taken + count)) < unread_at now connection +
    (length piece - taken)
smaller now mid new connection piece taken count strides feeds =
    let had = strides.had in
    let emptied = strides.emptied in
    let more = feeds.unread in
    let within = feeds.within in
    let long = length-drop taken piece in
    omega arith
