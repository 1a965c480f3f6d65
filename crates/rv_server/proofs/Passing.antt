-- What is said of a sink holds of another one whose contents are the same, up to what it was given up with.
use Rattle.std.proofs.Common.{inl, inr, ◌≡◌, ◌∙◌, [], ℕ, List, None, Option, Some, ap, refl, subst}
use Rattle.std.proofs.Common.{sym}
use Rattle.std.proofs.Common.{true}
use Rattle.std.specs.Io.Buffered.{writer_buffer, writer_contents, writer_inner}
use Rattle.std.specs.Io.KnownBytes.{Appends, Keeps}
use Rattle.std.specs.declared.io.buffered.BufWriter.{BufWriter}
use Rattle.std.proofs.KnownBytes.{Appends-kept}
use Rattle.std.proofs.lemmas.List.Elements.{All-nil}
use Rattle.rv_frame.specs.Cut.{End, Open}
use Rattle.rv_frame.specs.Sink.{SinkTakes, sink_contents, sink_device, sink_failed}
use Rattle.rv_frame.specs.declared.sink.Sink.{Sink}
use Rattle.rv_frame.specs.declared.source.Source.{Source}
use Rattle.rv_server.specs.Sending.{IsFirstFault, held_behind}
use Rattle.rv_server.specs.locked.FrameStamps.{IsWaiting}
use Rattle.rv_server.specs.locked.Stamps.{Numbered}
use Rattle.rv_server.specs.Works.{AnswerBreaksOff, Listed, StopsBetween, Worked, Works, connection}
use Rattle.rv_server.specs.declared.fault.WorkFault.{WorkFault}
use Rattle.rv_server.specs.declared.fault.WorkFault.TheVariants.{BadLength, CutFrame, NoMemory, ReadFault}
use Rattle.rv_server.specs.declared.fault.WorkFault.TheVariants.{TooLong, WriteFault}

module _ {R V W : Type 0} (remaining : R → Option (List ℕ)) (contents : V → Option (List ℕ)) (contents' : W
    → Option (List ℕ)) (source source' : Source R)
    (old new : Sink V) (old' new' : Sink W) (share share' : ℕ) (list : Listed) (same : sink_contents contents
    old ≡ sink_contents contents' old')
    (kept : Keeps (sink_contents contents new) (sink_contents contents' new')) (failed : sink_failed new' ≡
    true) where
  takes_along : (bytes : List ℕ) → SinkTakes contents old new bytes → SinkTakes contents' old' new' bytes
  takes_along bytes takes = Appends-kept _ _ _ bytes
      (subst (λ (o : Option (List ℕ)). Appends o (sink_contents contents new) bytes) same takes) kept

  worked_along : (more : List (List ℕ)) (end : End) (pending : List Numbered) (broken : List ℕ)
      → Worked remaining contents (connection source old share) (connection source' new share') list more end
      pending broken
      → Worked remaining contents' (connection source old' share) (connection source' new' share') list more
      end pending broken
  worked_along more end pending broken worked = record {
    bytes = worked.bytes;
    answered = worked.answered;
    read = worked.read;
    cut = worked.cut;
    right = worked.right;
    items = worked.items;
    stamps = worked.stamps;
    pending_are = worked.pending_are;
    written = takes_along _ worked.written;
    share = worked.share;
    cover = worked.cover;
    few = worked.few;
  }

  abbrev between_along : StopsBetween remaining contents (connection source old share) (connection source' new
      share') list
      → StopsBetween remaining contents' (connection source old' share) (connection source' new' share') list
  between_along stops = record {
    more = stops.more;
    end = stops.end;
    pending = stops.pending;
    few = stops.few;
    worked = worked_along _ _ _ _ stops.worked;
  }

  breaks_along : (sent : ℕ) → AnswerBreaksOff remaining contents (connection source old share)
      (connection source' new share') list sent
      → AnswerBreaksOff remaining contents' (connection source old' share) (connection source' new' share')
      list sent
  breaks_along sent breaks = record {
    frame = breaks.frame;
    is = breaks.is;
    few = breaks.few;
    later = breaks.later;
    end = breaks.end;
    part = breaks.part;
    worked = worked_along _ _ _ _ breaks.worked;
  }

  works_along : (fault : Option WorkFault)
      → Works remaining contents (connection source old share) (connection source' new share') list fault
      → Works remaining contents' (connection source old' share) (connection source' new' share') list fault
  works_along None works = (worked_along _ _ _ _ works.0, works.1)
  works_along (Some ReadFault) works = (works.0, worked_along _ _ _ _ works.1, works.2)
  works_along (Some (WriteFault sent)) fails = record {
    how = elim fails.how [
      | inl breaks ↦ inl (breaks_along sent breaks)
      | inr flush ↦ inr (record {
        none = flush.none;
        stops = between_along flush.stops;
        waited = flush.waited;
      })
    ];
    failed = failed;
  }
  works_along (Some CutFrame) works = (works.0, worked_along _ _ _ _ works.1, works.2, works.3)
  works_along (Some (BadLength n)) works = worked_along _ _ _ _ works
  works_along (Some NoMemory) works = between_along works
  works_along (Some TooLong) works = (works.0, works.1, works.2, worked_along _ _ _ _ works.3, works.4)

  -- all was answered, and not all was sent
  unsent : Works remaining contents (connection source old share) (connection source' new share') list None
      → Works remaining contents' (connection source old' share) (connection source' new' share') list
      (Some (WriteFault 0))
  unsent works = record {
    how = inr (record {
      none = refl;
      stops = record {
        more = [];
        end = Open [];
        pending = [];
        few = inl refl;
        worked = worked_along _ _ _ _ works.0;
      };
      waited = All-nil (λ (stamp : Numbered). IsWaiting stamp.1.said);
    });
    failed = failed;
  }

  -- with the fault that is told of it
  pub told_along : (fault told : Option WorkFault) (held : List ℕ) → IsFirstFault fault told held
      → Works remaining contents (connection source old share) (connection source' new share') list fault
      → Works remaining contents' (connection source old' share) (connection source' new' share') list told
  told_along (Some fault) told held is works =
      subst (λ (f : Option WorkFault). Works remaining contents' (connection source old' share)
      (connection source' new' share') list f) (sym is) (works_along (Some fault) works)
  told_along None None held is works = works_along None works
  told_along None (Some fault) held is works =
      subst (λ (f : WorkFault). Works remaining contents' (connection source old' share)
      (connection source' new' share') list (Some f)) (sym is) (unsent works)

-- over a writer that holds nothing back yet
pub begins_empty : {W A : Type 0} (contents : W → Option (List ℕ)) (buffered : BufWriter W A) (writer : W)
    (sink : Sink (BufWriter W A)) → sink_device sink ≡ buffered
    → writer_inner buffered ≡ writer → writer_buffer buffered ≡ []
    → sink_contents (writer_contents contents) sink ≡ held_behind (contents writer) []
begins_empty contents buffered writer sink device inner empty =
    ap (writer_contents contents) device ∙ ap (λ w. held_behind (contents w) (writer_buffer buffered)) inner
    ∙ ap (held_behind (contents writer)) empty
