-- A socket that is there.
use Rattle.std.proofs.Common.{◌≡◌, ◌++◌, ℕ, List, Option, Some, ap, drop, refl, subst, sym}
use Rattle.rv_traffic.specs.declared.links.link.ReadOutcome.{ReadOutcome}
use Rattle.rv_traffic.specs.declared.links.link.Socket.{Socket}
use Rattle.rv_traffic.specs.declared.links.link.WriteOutcome.{WriteOutcome}
use Rattle.rv_traffic.specs.links.Reading.{ReadsOnce}
use Rattle.rv_traffic.specs.links.Writing.{WritesOnce}
use Rattle.rv_traffic.specs.links.Table.{HasPending, PendsSlot, ReadsSlot, WritesSlot, pending_of}

module _ {S : Type 0} where
  pub read_some : (remaining : S → Option (List ℕ)) (now : ℕ) (o : Option (Socket S)) (link : Socket S)
      (came : ReadOutcome) (bytes : List ℕ) (after : Socket S) → o ≡ Some link
      → ReadsOnce remaining now link came bytes after → ReadsSlot remaining now o came bytes (Some after)
  read_some remaining now o link came bytes after is reads =
      subst (λ (x : Option (Socket S)). ReadsSlot remaining now x came bytes (Some after)) (sym is)
      (after, reads, refl)

  pub write_some : (contents : S → Option (List ℕ)) (now : ℕ) (o : Option (Socket S)) (link : Socket S)
      (ready : List ℕ) (what : WriteOutcome) (after : Socket S) → o ≡ Some link
      → WritesOnce contents now link ready what after → WritesSlot contents now o ready what (Some after)
  write_some contents now o link ready what after is writes =
      subst (λ (x : Option (Socket S)). WritesSlot contents now x ready what (Some after)) (sym is)
      (after, writes, refl)

  pub same_pending : (o : Option (Socket S)) (link after : Socket S) → o ≡ Some link
      → HasPending link link.pending.items after → PendsSlot o (pending_of o) (Some after)
  same_pending o link after is has =
      subst (λ (x : Option (Socket S)). PendsSlot x (pending_of x) (Some after)) (sym is) (after, has, refl)

  pub more_pending : (o : Option (Socket S)) (link after : Socket S) (rest : List ℕ) → o ≡ Some link
      → HasPending link (link.pending.items ++ rest) after
      → PendsSlot o (pending_of o ++ rest) (Some after)
  more_pending o link after rest is has =
      subst (λ (x : Option (Socket S)). PendsSlot x (pending_of x ++ rest) (Some after)) (sym is)
      (after, has, refl)

  pub less_pending : (o : Option (Socket S)) (link after : Socket S) (count : ℕ) → o ≡ Some link
      → HasPending link (drop count link.pending.items) after
      → PendsSlot o (drop count (pending_of o)) (Some after)
  less_pending o link after count is has =
      subst (λ (x : Option (Socket S)). PendsSlot x (drop count (pending_of x)) (Some after)) (sym is)
      (after, has, refl)
