-- How much a source gave: what was kept of it, and the last piece.
use Rattle.std.proofs.Common.{◌≤◌, ◌+◌, ◌++◌, ℕ, List, Option, take, length, length-append, length-take}
use Rattle.std.proofs.Common.{arith}
use Rattle.std.proofs.KnownBytes.{Consumes-trans}
use Rattle.rv_frame.specs.declared.source.Source.{Source}
use Rattle.rv_frame.specs.Source.{SourceGives}
use Rattle.rv_run.specs.Input.{GaveBetween}

module _ {R : Type 0} (remaining : R → Option (List ℕ)) where
  pub gave_piece : (least most count : ℕ) (kept piece : List ℕ) (start before after : Source R)
      → SourceGives remaining start before kept → SourceGives remaining before after (take count piece)
      → count ≤ length piece → least ≤ length kept + count → length kept + count ≤ most
      → GaveBetween remaining least most start after
  gave_piece least most count kept piece start before after gave more within at_least at_most = record {
    bytes = kept ++ take count piece;
    gave = Consumes-trans _ _ _ kept (take count piece) gave more;
    at_least = omega (
      arith,
      length-append kept (take count piece),
      length-take count piece,
      within,
      at_least,
    );
    at_most = omega (arith, length-append kept (take count piece), length-take count piece, within, at_most);
  }
