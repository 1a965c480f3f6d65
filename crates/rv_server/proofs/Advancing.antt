-- A worker answers frame after frame: how far it has come, and what stands where it ends.
use Rattle.std.proofs.Common.{inl, inr, ◌≡◌, ◌∙◌, ◌+◌, ◌++◌, ◌∷◌, ◌<◌, ◌≤◌, [], ℕ, List, None, Ok, Err}
use Rattle.std.proofs.Common.{Option, Some, add-zero, add_assoc, ap, append-nil, append_assoc, arith, length}
use Rattle.std.proofs.Common.{length-append, map, refl, subst, sym, take, zero-add, IfErr, OnOk, Result}
use Rattle.std.proofs.KnownBytes.{Appends-nil, Appends-trans, Consumes-nil, Consumes-trans}
use Rattle.std.proofs.lemmas.List.{length-map, map-append}
use Rattle.std.proofs.lemmas.List.Elements.{All-nil}
use Rattle.rv_frame.specs.Cut.{Cut, End, frame_bytes, row_bytes}
use Rattle.rv_frame.specs.Sink.{SinkTakes, sink_failed}
use Rattle.rv_frame.specs.Stream.{HasFed, Stream}
use Rattle.rv_frame.specs.declared.source.Source.{Source}
use Rattle.rv_frame.specs.declared.sink.Sink.{Sink}
use Rattle.rv_frame.proofs.Cuts.{row_append}
use Rattle.rv_server.specs.locked.Asking.{Cover, GetsStamps}
use Rattle.rv_server.specs.Progress.{AnswersFrame, Out, Progress, StopsAtFrame, out}
use Rattle.rv_server.specs.Reading.{FailsAtSink, MeetsNoEnd, ReadsOn, ReadsOut, TakesFrame}
use Rattle.rv_server.specs.locked.Stamps.{Numbered, added_entries}
use Rattle.rv_server.specs.locked.FrameStamps.{AreFor, IsFor, IsWaiting}
use Rattle.rv_server.specs.AnsweredFrames.{AnsweredFrame, AreAnsweredFrames, IsAnsweredFrame, stamps_of}
use Rattle.rv_server.specs.Works.{AreForNext, Connection, Listed, StopsBetween, Worked, Works, connection}
use Rattle.rv_server.specs.Works.{max_frames, nothing}
use Rattle.rv_server.specs.declared.fault.WorkFault.{WorkFault}
use Rattle.rv_server.specs.declared.fault.WorkFault.TheVariants.{BadLength, CutFrame, NoMemory, ReadFault}
use Rattle.rv_server.specs.declared.fault.WorkFault.TheVariants.{TooLong, WriteFault}
use Rattle.rv_server.proofs.Getting.{added_append, cover_append, covers_all}

-- ---- answered frames, one after the others

abbrev body_of : AnsweredFrame → List ℕ
body_of frame = frame.body

abbrev answer_bytes : AnsweredFrame → List ℕ
answer_bytes frame = frame.answer

answered_more : (number : ℕ) (answered : List AnsweredFrame) (frame : AnsweredFrame)
    → AreAnsweredFrames number answered → IsAnsweredFrame (number + length answered) frame
    → AreAnsweredFrames number (answered ++ frame ∷ [])
answered_more number [] frame are is = (subst (λ (n : ℕ). IsAnsweredFrame n frame) (add-zero number) is, tt)
answered_more number (first ∷ answered) frame are is =
    let same : number + length (first ∷ answered) ≡ (number + 1) + length answered = omega arith in (
      are.0,
      answered_more (number + 1) answered frame are.1 (subst (λ (n : ℕ). IsAnsweredFrame n frame) same
          is),
    )

stamps_more : (answered : List AnsweredFrame) (frame : AnsweredFrame)
    → stamps_of (answered ++ frame ∷ []) ≡ stamps_of answered ++ frame.stamps
stamps_more [] frame = append-nil frame.stamps
stamps_more (first ∷ answered) frame = ap (λ (l : List Numbered). first.stamps ++ l) (stamps_more answered
    frame) ∙ sym (append_assoc first.stamps (stamps_of answered) frame.stamps)

row_more : (answered : List AnsweredFrame) (frame : AnsweredFrame)
    → row_bytes (map answer_bytes answered) ++ frame_bytes frame.answer ≡ row_bytes
    (map answer_bytes (answered ++ frame ∷ []))
row_more answered frame =
    ap (λ (l : List ℕ). row_bytes (map answer_bytes answered) ++ l)
    (sym (append-nil (frame_bytes frame.answer)))
    ∙ sym (row_append (map answer_bytes answered) (frame.answer ∷ [])) ∙ ap row_bytes
    (sym (map-append answer_bytes answered (frame ∷ [])))

-- ---- the share, with the stamps of one frame more

share_on : (own share share' number : ℕ) (body : List ℕ) (old new got : List Numbered)
    → share ≡ own + added_entries old → GetsStamps number body share old share' new got
    → share' ≡ own + added_entries new
share_on own share share' number body old new got before gets =
    let sum = added_append old got in
    gets.adds ∙ ap (λ (n : ℕ). n + added_entries got) before ∙ add_assoc own (added_entries old)
    (added_entries got) ∙ ap (λ (n : ℕ). own + n) (sym sum)
    ∙ ap (λ (l : List Numbered). own + added_entries l) (sym gets.behind)

cover_on : (own share share' number : ℕ) (body : List ℕ) (old new got : List Numbered)
    → share ≡ own + added_entries old → Cover own old
    → GetsStamps number body share old share' new got → Cover own new
cover_on own share share' number body old new got before covers gets =
    subst (λ (l : List Numbered). Cover own l) (sym gets.behind) (cover_append own old got covers
    (subst (λ (n : ℕ). Cover n got) before gets.cover))

-- ---- how far a worker has come

no_stamps : (number : ℕ) (bodies : List (List ℕ)) → AreForNext number bodies []
no_stamps number [] = refl
no_stamps number (body ∷ bodies) = record { each = All-nil (IsFor number body); waited = tt }

module _ {R W : Type 0} (remaining : R → Option (List ℕ)) (contents : W → Option (List ℕ)) where
  pub begin : (before : Connection R W) (listed : Listed) (stream : Stream) → listed ≡ nothing
      → HasFed [] [] stream
      → Progress remaining contents before before listed stream 0
  begin before listed stream none fed = subst (λ (l : Listed). Progress remaining contents before before l
      stream 0) (sym none) (record {
        bytes = [];
        answered = [];
        count = refl;
        read = Consumes-nil _;
        fed = fed;
        right = tt;
        items = refl;
        stamps = refl;
        written = Appends-nil _;
        share = sym (add-zero before.share);
        cover = tt;
      })

  pub advance : (before mid : Connection R W) (listed listed' : Listed) (old new : Stream) (number : ℕ)
      (body : List ℕ) (source : Source R) (after : Out W)
      → Progress remaining contents before mid listed old number
      → ReadsOn remaining mid.source source old new (body ∷ [])
      → AnswersFrame contents number body (out mid.sink mid.share) after listed listed'
      → Progress remaining contents before (connection source after.sink after.share) listed' new (number + 1)
  advance before mid listed listed' old new number body source after so_far reads made =
      let answered = so_far.answered in
      let frame = made.frame in
      let bodies : map body_of (answered ++ frame ∷ []) ≡ map body_of answered ++ body ∷ [] =
      map-append body_of answered (frame ∷ []) ∙ ap (λ (b : List ℕ). map body_of answered ++ b ∷ []) made.of
      in
      record {
        bytes = so_far.bytes ++ reads.bytes;
        answered = answered ++ frame ∷ [];
        count = length-append answered (frame ∷ []) ∙ ap (λ (n : ℕ). n + 1) so_far.count;
        read = Consumes-trans _ _ _ _ _ so_far.read reads.gives;
        fed = subst (λ (l : List (List ℕ)). HasFed (so_far.bytes ++ reads.bytes) l new) (sym bodies)
            (reads.fed so_far.bytes (map body_of answered) so_far.fed);
        right = answered_more 0 answered frame so_far.right (subst (λ (n : ℕ). IsAnsweredFrame n frame)
            (sym (zero-add (length answered) ∙ so_far.count)) made.is);
        items = made.items ∙ ap (λ l. l ++ frame.item ∷ []) so_far.items
            ∙ sym (map-append (λ (t : AnsweredFrame). t.item) answered (frame ∷ []));
        stamps = made.stamps.behind ∙ ap (λ (l : List Numbered). l ++ frame.stamps) so_far.stamps
            ∙ sym (stamps_more answered frame);
        written = subst (λ (l : List ℕ). SinkTakes contents before.sink after.sink l)
            (row_more answered frame) (Appends-trans _ _ _ _ _ so_far.written made.written);
        share = share_on before.share mid.share after.share number body listed.stamps listed'.stamps
            frame.stamps so_far.share made.stamps;
        cover = cover_on before.share mid.share after.share number body listed.stamps listed'.stamps
            frame.stamps so_far.share so_far.cover made.stamps;
      }

  -- a flush of the sink changes nothing
  pub flushed : (before mid : Connection R W) (listed : Listed) (stream : Stream) (number : ℕ) (sink : Sink W)
      → Progress remaining contents before mid listed stream number
      → SinkTakes contents mid.sink sink []
      → Progress remaining contents before (connection mid.source sink mid.share) listed stream number
  flushed before mid listed stream number sink so_far none = record {
    bytes = so_far.bytes;
    answered = so_far.answered;
    count = so_far.count;
    read = so_far.read;
    fed = so_far.fed;
    right = so_far.right;
    items = so_far.items;
    stamps = so_far.stamps;
    written = subst (λ (l : List ℕ). SinkTakes contents before.sink sink l) (append-nil _)
        (Appends-trans _ _ _ _ _ so_far.written none);
    share = so_far.share;
    cover = so_far.cover;
  }

  -- the cut of all that was read: the frames that were answered, and these more
  cut_to : (before mid : Connection R W) (listed : Listed) (old new : Stream) (number : ℕ) (source : Source R)
      (taken more : List (List ℕ))
      → (so_far : Progress remaining contents before mid listed old number)
      → (reads : ReadsOn remaining mid.source source old new taken)
      → taken ++ new.frames ≡ more → Cut (so_far.bytes ++ reads.bytes) (map body_of so_far.answered ++ more)
      new.end
  cut_to before mid listed old new number source taken more so_far reads rest =
      let bodies = map body_of so_far.answered in
      subst (λ (l : List (List ℕ)). Cut (so_far.bytes ++ reads.bytes) l new.end)
      (append_assoc bodies taken new.frames ∙ ap (λ (l : List (List ℕ)). bodies ++ l) rest)
      (reads.fed so_far.bytes bodies so_far.fed)

  -- nothing more was written or got since; this is what the bytes hold beyond the frames that were answered
  worked_to : (before mid : Connection R W) (listed : Listed) (old new : Stream) (number : ℕ) (source :
      Source R) (taken more : List (List ℕ))
      → Progress remaining contents before mid listed old number → number ≤ max_frames
      → ReadsOn remaining mid.source source old new taken
      → taken ++ new.frames ≡ more → Worked remaining contents before (connection source mid.sink mid.share)
      listed more new.end [] []
  worked_to before mid listed old new number source taken more so_far few reads rest = record {
    bytes = so_far.bytes ++ reads.bytes;
    answered = so_far.answered;
    read = Consumes-trans _ _ _ _ _ so_far.read reads.gives;
    cut = cut_to before mid listed old new number source taken more so_far reads rest;
    right = so_far.right;
    items = so_far.items;
    stamps = so_far.stamps ∙ sym (append-nil (stamps_of so_far.answered));
    pending_are = no_stamps (length so_far.answered) more;
    written = subst (λ (l : List ℕ). SinkTakes contents before.sink mid.sink l)
        (sym (append-nil (row_bytes (map answer_bytes so_far.answered)))) so_far.written;
    share = so_far.share;
    cover = covers_all before.share listed.stamps so_far.cover;
    few = subst (λ (n : ℕ). n ≤ max_frames) (sym so_far.count) few;
  }

  worked_out : (before mid : Connection R W) (listed : Listed) (old new : Stream) (number : ℕ) (source :
      Source R) (IsLeft : End → Type 0)
      → Progress remaining contents before mid listed old number → number ≤ max_frames
      → ReadsOut remaining mid.source source old new IsLeft
      → Worked remaining contents before (connection source mid.sink mid.share) listed [] new.end [] []
  worked_out before mid listed old new number source IsLeft so_far few out_of =
      worked_to before mid listed old new number source [] [] so_far few out_of.reads out_of.all_taken

  pub ends : (before mid : Connection R W) (listed : Listed) (old new : Stream) (number : ℕ) (source :
      Source R)
      → Progress remaining contents before mid listed old number → number ≤ max_frames
      → TakesFrame remaining mid.source source old new (Ok None)
      → Works remaining contents before (connection source mid.sink mid.share) listed None
  ends before mid listed old new number source so_far few took = (
    subst (λ (e : End). Worked remaining contents before (connection source mid.sink mid.share) listed [] e []
        []) took.0.left
        (worked_out before mid listed old new number source _ so_far few took.0),
    took.1,
  )

  pub stops_reading : (before mid : Connection R W) (listed : Listed) (old new : Stream) (number : ℕ)
      (source :
      Source R) (fault : WorkFault)
      → Progress remaining contents before mid listed old number → number ≤ max_frames
      → TakesFrame remaining mid.source source old new (Err fault)
      → FailsAtSink (sink_failed mid.sink) fault
      → Works remaining contents before (connection source mid.sink mid.share) listed (Some fault)
  stops_reading before mid listed old new number source ReadFault so_far few took failed =
      (new.end, worked_out before mid listed old new number source _ so_far few took.0, took.1)
  stops_reading before mid listed old new number source CutFrame so_far few took failed =
      (new.end, worked_out before mid listed old new number source _ so_far few took.0, took.0.left, took.1)
  stops_reading before mid listed old new number source (BadLength n) so_far few took failed =
      subst (λ (e : End). Worked remaining contents before (connection source mid.sink mid.share) listed [] e
      [] []) took.left
      (worked_out before mid listed old new number source _ so_far few took)
  stops_reading before mid listed old new number source NoMemory so_far few took failed = record {
    more = took.0.frames;
    end = took.0.end;
    pending = [];
    few = inl refl;
    worked = worked_to before mid listed old took.0 number source [] took.0.frames so_far few took.1 refl;
  }
  stops_reading before mid listed old new number source (WriteFault sent) so_far few took failed = record {
    how = inr (record {
      none = took.0;
      stops = record {
        more = [];
        end = new.end;
        pending = [];
        few = inl refl;
        worked = worked_out before mid listed old new number source _ so_far few took.1;
      };
      waited = All-nil (λ (stamp : Numbered). IsWaiting stamp.1.said);
    });
    failed = failed;
  }
  stops_reading before mid listed old new number source TooLong so_far few took failed = absurd took

  too_long : (before mid : Connection R W) (listed : Listed) (old new : Stream) (number : ℕ) (source :
      Source R) (body : List ℕ)
      → number ≡ max_frames → Progress remaining contents before mid listed old number
      → ReadsOn remaining mid.source source old new (body ∷ [])
      → Works remaining contents before (connection source mid.sink mid.share) listed (Some TooLong)
  too_long before mid listed old new number source body whole so_far reads = (
    body,
    new.frames,
    new.end,
    worked_to before mid listed old new number source (body ∷ []) (body ∷ new.frames) so_far
        (omega (arith, whole)) reads refl,
    ap length so_far.items ∙ length-map so_far.answered (λ (t : AnsweredFrame). t.item) ∙ so_far.count
        ∙ whole,
  )

  -- where no further frame may follow
  stops_whole : (before mid : Connection R W) (listed : Listed) (old new : Stream) (number : ℕ) (source :
      Source R) (fault : WorkFault)
      → number ≡ max_frames → Progress remaining contents before mid listed old number
      → MeetsNoEnd remaining mid.source source old new fault → FailsAtSink (sink_failed mid.sink) fault
      → Works remaining contents before (connection source mid.sink mid.share) listed (Some fault)
  stops_whole before mid listed old new number source TooLong whole so_far stops failed =
      too_long before mid listed old new number source stops.0 whole so_far stops.1
  stops_whole before mid listed old new number source ReadFault whole so_far stops failed =
      stops_reading before mid listed old new number source ReadFault so_far (omega (arith, whole)) stops
      failed
  stops_whole before mid listed old new number source CutFrame whole so_far stops failed =
      stops_reading before mid listed old new number source CutFrame so_far (omega (arith, whole)) stops
      failed
  stops_whole before mid listed old new number source NoMemory whole so_far stops failed =
      stops_reading before mid listed old new number source NoMemory so_far (omega (arith, whole)) stops
      failed
  stops_whole before mid listed old new number source (BadLength n) whole so_far stops failed =
      stops_reading before mid listed old new number source (BadLength n) so_far (omega (arith, whole)) stops
      failed
  stops_whole before mid listed old new number source (WriteFault sent) whole so_far stops failed =
      stops_reading before mid listed old new number source (WriteFault sent) so_far (omega (arith, whole))
      stops failed

  pub stopped_whole : {X : Type 0} (before mid : Connection R W) (listed : Listed) (old new : Stream)
      (number : ℕ) (source : Source R) (r : Result X WorkFault)
      → number ≡ max_frames → Progress remaining contents before mid listed old number
      → IfErr r (MeetsNoEnd remaining mid.source source old new)
      → IfErr r (FailsAtSink (sink_failed mid.sink))
      → IfErr r (λ fault. Works remaining contents before (connection source mid.sink mid.share) listed
      (Some fault))
  stopped_whole before mid listed old new number source (Ok x) whole so_far stops failed = tt
  stopped_whole before mid listed old new number source (Err fault) whole so_far stops failed =
      stops_whole before mid listed old new number source fault whole so_far stops failed

  pub ended_whole : {X : Type 0} (before mid : Connection R W) (listed : Listed) (old new : Stream)
      (number : ℕ) (source : Source R) (r : Result X WorkFault)
      → number ≡ max_frames → Progress remaining contents before mid listed old number
      → OnOk r (TakesFrame remaining mid.source source old new (Ok None))
      → OnOk r (Works remaining contents before (connection source mid.sink mid.share) listed None)
  ended_whole before mid listed old new number source (Ok x) whole so_far took =
      ends before mid listed old new number source so_far (omega (arith, whole)) took
  ended_whole before mid listed old new number source (Err fault) whole so_far took = tt

  -- stamps were got for the next frame, and these bytes of an answer went out
  stopped_at : (before mid : Connection R W) (listed listed' : Listed) (old new : Stream) (number : ℕ) (body :
      List ℕ) (source : Source R) (after : Out W)
      (got : List Numbered) (broken : List ℕ)
      → Progress remaining contents before mid listed old number → number ≤ max_frames
      → ReadsOn remaining mid.source source old new (body ∷ [])
      → listed'.items ≡ listed.items → GetsStamps number body mid.share listed.stamps after.share
      listed'.stamps got
      → SinkTakes contents mid.sink after.sink broken
      → Worked remaining contents before (connection source after.sink after.share) listed'
      (body ∷ new.frames) new.end got broken
  stopped_at before mid listed listed' old new number body source after got broken so_far few reads items gets
      wrote =
      record {
        bytes = so_far.bytes ++ reads.bytes;
        answered = so_far.answered;
        read = Consumes-trans _ _ _ _ _ so_far.read reads.gives;
        cut = cut_to before mid listed old new number source (body ∷ []) (body ∷ new.frames) so_far reads
            refl;
        right = so_far.right;
        items = items ∙ so_far.items;
        stamps = gets.behind ∙ ap (λ (l : List Numbered). l ++ got) so_far.stamps;
        pending_are = subst (λ (n : ℕ). AreFor n body got) (sym so_far.count) gets.own;
        written = Appends-trans _ _ _ _ _ so_far.written wrote;
        share = share_on before.share mid.share after.share number body listed.stamps listed'.stamps got
            so_far.share gets;
        cover = covers_all before.share listed'.stamps
            (cover_on before.share mid.share after.share number body listed.stamps listed'.stamps got
            so_far.share so_far.cover gets);
        few = subst (λ (n : ℕ). n ≤ max_frames) (sym so_far.count) few;
      }

  as_many : (before mid : Connection R W) (listed listed' : Listed) (stream : Stream) (number : ℕ)
      → Progress remaining contents before mid listed stream number
      → listed'.items ≡ listed.items → length listed'.items ≡ number
  as_many before mid listed listed' stream number so_far items =
      ap length (items ∙ so_far.items) ∙ length-map so_far.answered (λ (t : AnsweredFrame). t.item)
      ∙ so_far.count

  -- stamps were got for the next frame, and nothing of its answer was written
  abbrev between : (before mid : Connection R W) (listed listed' : Listed) (old new : Stream) (number : ℕ)
      (body : List ℕ) (source : Source R) (after : Out W) (got : List Numbered)
      → Progress remaining contents before mid listed old number → number < max_frames
      → ReadsOn remaining mid.source source old new (body ∷ [])
      → listed'.items ≡ listed.items → GetsStamps number body mid.share listed.stamps after.share
      listed'.stamps got → SinkTakes contents mid.sink after.sink []
      → StopsBetween remaining contents before (connection source after.sink after.share) listed'
  between before mid listed listed' old new number body source after got so_far few reads items stamps none =
      record {
        more = body ∷ new.frames;
        end = new.end;
        pending = got;
        few = inr (subst (λ (n : ℕ). n < max_frames) (sym (as_many before mid listed listed' old number so_far
            items)) few);
        worked = stopped_at before mid listed listed' old new number body source after got [] so_far
            (omega (arith, few)) reads items stamps none;
      }

  stops_frame : (before mid : Connection R W) (listed listed' : Listed) (old new : Stream) (number : ℕ)
      (body : List ℕ) (source : Source R) (after : Out W)
      (fault : WorkFault)
      → Progress remaining contents before mid listed old number → number < max_frames
      → ReadsOn remaining mid.source source old new (body ∷ [])
      → StopsAtFrame contents number body (out mid.sink mid.share) after listed listed' fault
      → Works remaining contents before (connection source after.sink after.share) listed' (Some fault)
  stops_frame before mid listed listed' old new number body source after (WriteFault sent) so_far few reads
      (inl broke) = record {
        how = inl (record {
          frame = broke.frame;
          is = subst (λ (n : ℕ). IsAnsweredFrame n broke.frame) (sym (as_many before mid listed listed' old
              number
              so_far broke.items)) broke.is;
          few = subst (λ (n : ℕ). n < max_frames) (sym (as_many before mid listed listed' old number so_far
              broke.items)) few;
          later = new.frames;
          end = new.end;
          part = broke.part;
          worked =
              subst (λ (b : List ℕ). Worked remaining contents before (connection source after.sink
              after.share)
              listed' (b ∷ new.frames) new.end broke.frame.stamps
              (take sent (frame_bytes broke.frame.answer))) (sym broke.of)
              (stopped_at before mid listed listed' old new number body source after broke.frame.stamps _
              so_far
              (omega (arith, few)) reads broke.items broke.stamps broke.written);
        });
        failed = broke.failed;
      }
  stops_frame before mid listed listed' old new number body source after (WriteFault sent) so_far few reads
      (inr fails) = record {
        how = inr (record {
          none = fails.none;
          stops = between before mid listed listed' old new number body source after fails.waited.got so_far
              few reads fails.items fails.waited.gets fails.none_written;
          waited = fails.waited.waited;
        });
        failed = fails.failed;
      }
  stops_frame before mid listed listed' old new number body source after NoMemory so_far few reads lacks =
      between before mid listed listed' old new number body source after lacks.got so_far few reads
      lacks.items lacks.stamps lacks.none_written
  stops_frame before mid listed listed' old new number body source after ReadFault so_far few reads none =
      absurd none
  stops_frame before mid listed listed' old new number body source after CutFrame so_far few reads none =
      absurd none
  stops_frame before mid listed listed' old new number body source after (BadLength n) so_far few reads none =
      absurd none
  stops_frame before mid listed listed' old new number body source after TooLong so_far few reads none =
      absurd none

  -- ---- with the fault as a `?` hands it on

  pub stopped_frame : (before mid : Connection R W) (listed listed' : Listed) (old new : Stream) (number : ℕ)
      (body : List ℕ) (source : Source R) (after : Out W)
      (cause fault : WorkFault) → fault ≡ cause
      → Progress remaining contents before mid listed old number → number < max_frames
      → ReadsOn remaining mid.source source old new (body ∷ [])
      → StopsAtFrame contents number body (out mid.sink mid.share) after listed listed' cause
      → Works remaining contents before (connection source after.sink after.share) listed' (Some fault)
  stopped_frame before mid listed listed' old new number body source after cause fault is so_far few reads
      stops =
      subst (λ (f : WorkFault). Works remaining contents before (connection source after.sink after.share)
      listed' (Some f)) (sym is)
      (stops_frame before mid listed listed' old new number body source after cause so_far few reads stops)
