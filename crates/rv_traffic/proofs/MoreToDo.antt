-- Whether more can be done of a connection at once.
use Rattle.std.proofs.Common.{◌≡◌, ◌<◌, ◌⊎◌, ◌∙◌, ℕ, Bool, None, Some, [], inl, inr, length, refl}
use Rattle.std.proofs.Common.{false, subst, sym, true}
use Rattle.std.specs.Prelude.{◌↔◌, IsTrue}
use Rattle.std.specs.Bool.{OnFalse, OnTrue}
use Rattle.std.proofs.lemmas.Bool.{OnFalse_at, OnFalse_from, OnTrue_at, OnTrue_from}
use Rattle.std.proofs.lemmas.Option.{none-some, same_Some}
use Rattle.rv_server_connections.specs.connection.Traffic.{MayOffer, Traffic}
use Rattle.rv_traffic.specs.links.Table.{HasInput, IsWritable, link_at, pending_of}
use Rattle.rv_traffic.specs.Rounds.{CanDoMore}
use Rattle.rv_traffic.specs.Views.{TrafficState}

is_so : (b : Bool) (P : Type 0) → OnFalse b (¬ P) → P → IsTrue b
is_so true P not holds = refl
is_so false P not holds = absurd (not holds)

-- what an open connection goes on by
abbrev pub GoesOn : Bool → Bool → Traffic → Type 0
GoesOn has_more is_writable wire =
    (IsTrue has_more × MayOffer wire) ⊎ (IsTrue is_writable × (0 < length wire.ready))

-- there may be more of its input, of which nothing is pending
abbrev pub HasMore : {S : Type 0} → TrafficState S → ℕ → Type 0
HasMore s n = HasInput (link_at s.table n) × (pending_of (link_at s.table n) ≡ [])

module _ {S : Type 0} where
  does_more : (s : TrafficState S) (n : ℕ) (more writable : Bool) (wire : Traffic)
      → s.engine.hub.open_wires.wires n ≡ Some wire → OnTrue more (HasMore s n)
      → IsTrue writable ↔ IsWritable (link_at s.table n) → GoesOn more writable wire → CanDoMore s n
  does_more s n more writable wire there has writes (inl reads) =
      let input : HasMore s n = OnTrue_at reads.0 has in
      inl (record { wire = wire; there = there; so = reads.1 }, input.0, input.1)
  does_more s n more writable wire there has writes (inr gives) =
      inr (record { wire = wire; there = there; so = gives.1 }, writes.0 gives.0)

  goes_by : (s : TrafficState S) (n : ℕ) (more writable : Bool) (wire : Traffic)
      → s.engine.hub.open_wires.wires n ≡ Some wire → OnFalse more (¬ HasMore s n)
      → IsTrue writable ↔ IsWritable (link_at s.table n) → CanDoMore s n → GoesOn more writable wire
  goes_by s n more writable wire there has writes (inl (may, input, none)) =
      inl (
        is_so more (HasMore s n) has (input, none),
        subst MayOffer (same_Some may.wire wire (sym may.there ∙ there)) may.so,
      )
  goes_by s n more writable wire there has writes (inr (ready, output)) =
      inr (
        writes.1 output,
        subst (λ (w : Traffic). 0 < length w.ready) (same_Some ready.wire wire (sym ready.there ∙ there))
            ready.so,
      )

  pub more_yes : (s : TrafficState S) (n : ℕ) (more writable goes : Bool) (wire : Traffic)
      → s.engine.hub.open_wires.wires n ≡ Some wire → OnTrue more (HasMore s n)
      → IsTrue writable ↔ IsWritable (link_at s.table n) → OnTrue goes (GoesOn more writable wire)
      → OnTrue goes (CanDoMore s n)
  more_yes s n more writable goes wire there has writes told =
      OnTrue_from goes (CanDoMore s n) (λ so. does_more s n more writable wire there has writes
      (OnTrue_at so told))

  pub more_no : (s : TrafficState S) (n : ℕ) (more writable goes : Bool) (wire : Traffic)
      → s.engine.hub.open_wires.wires n ≡ Some wire → OnFalse more (¬ HasMore s n)
      → IsTrue writable ↔ IsWritable (link_at s.table n) → OnFalse goes (¬ GoesOn more writable wire)
      → OnFalse goes (¬ CanDoMore s n)
  more_no s n more writable goes wire there has writes told =
      OnFalse_from goes (¬ CanDoMore s n) (λ not can. OnFalse_at not told (goes_by s n more writable wire
      there has writes can))

  -- of one that isn't open none can
  pub none_more : (s : TrafficState S) (n : ℕ) → s.engine.hub.open_wires.wires n ≡ None → ¬ CanDoMore s n
  none_more s n closed (inl (may, input, none)) = none-some may.wire (sym closed ∙ may.there)
  none_more s n closed (inr (ready, output)) = none-some ready.wire (sym closed ∙ ready.there)
