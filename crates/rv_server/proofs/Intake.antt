-- How the pieces that an inlet reads lead to frames.
use Rattle.std.proofs.Common.{◌≡◌, ◌∙◌, ◌-◌, ◌∷◌, ◌++◌, [], ℕ, Bool, Err, IsErrAnd, List, Ok, Option, Result}
use Rattle.std.proofs.Common.{Vec, ap, append-nil, append_assoc, false, length, subst, suc, sym, true, IfErr}
use Rattle.std.proofs.Common.{IfOk, None, Some}
use Rattle.std.proofs.Common.{◌+◌, ◌<◌, arith, length-append}
use Rattle.std.specs.Io.KnownBytes.{Consumes}
use Rattle.std.specs.declared.alloc.Global.{Global}
use Rattle.std.proofs.KnownBytes.{Consumes-kept, Consumes-nil, Consumes-trans}
use Rattle.rv_frame.specs.Cut.{Bad, Cut, End, Open, row_bytes}
use Rattle.rv_frame.specs.Source.{source_remaining}
use Rattle.rv_frame.specs.Stream.{Feeds, FeedsAt, HasFed, IsOpen, Stream, rest_length}
use Rattle.rv_frame.specs.declared.source.Source.{Source}
use Rattle.rv_frame.proofs.Cuts.{fed_is_cut}
use Rattle.rv_server.specs.Reading.{FailsAtSink, ReadsOn, ReadsPiece, TakesFrame, TakesWhole}
use Rattle.rv_server.specs.Works.{IsCut}
use Rattle.rv_server.specs.declared.fault.WorkFault.{WorkFault}
use Rattle.rv_server.specs.declared.fault.WorkFault.TheVariants.{BadLength, CutFrame, NoMemory, ReadFault}
use Rattle.rv_server.specs.declared.fault.WorkFault.TheVariants.{TooLong, WriteFault}
use Rattle.rv_server.proofs.Rests.{feeds_at}

-- how many more bytes the next frame can want, and one more
abbrev pub wanted_behind : List (List ℕ) → End → ℕ
wanted_behind [] (Open rest) = suc (65537 - length rest)
wanted_behind [] (Bad n) = 0
wanted_behind (body ∷ bodies) end = 0

abbrev pub wanted : Stream → ℕ
wanted stream = wanted_behind stream.frames stream.end

-- what follows frames of which none is left is longer by what was fed, and stays short
fewer_behind : (frames more : List (List ℕ)) (end : End) (rest piece : List ℕ) → frames ≡ more
    → Cut (rest ++ piece) more end → 0 < length piece → rest_length end < 65537
    → wanted_behind frames end < suc (65537 - length rest)
fewer_behind [] more (Open left) rest piece same cut some short =
    let whole : rest ++ piece ≡ left = subst (λ (m : List (List ℕ)). rest ++ piece ≡ row_bytes m ++ cut.after)
    (sym same) cut.parts ∙ cut.ends.0 in
    let sum : length rest + length piece ≡ length left = sym (length-append rest piece) ∙ ap length whole in
    omega (arith, sum, some, short)
fewer_behind [] more (Bad n) rest piece same cut some short = omega arith
fewer_behind (body ∷ bodies) more end rest piece same cut some short = omega arith

fewer_at : (end : End) (t u : Stream) (piece : List ℕ) → t.frames ≡ [] → IsOpen end → FeedsAt end t piece u
    → 0 < length piece → rest_length u.end < 65537 → wanted u < wanted_behind [] end
fewer_at (Open rest) t u piece none follows grows some short =
    fewer_behind u.frames grows.more u.end rest piece
    (grows.frames ∙ ap (λ (l : List (List ℕ)). l ++ grows.more) none) grows.cut some short
fewer_at (Bad n) t u piece none follows grows some short = absurd follows

fewer_wanted : (t u : Stream) (piece : List ℕ) → t.frames ≡ [] → IsOpen t.end → Feeds t piece u
    → 0 < length piece → rest_length u.end < 65537 → wanted u < wanted t
fewer_wanted t u piece none follows feeds some short =
    subst (λ (l : List (List ℕ)). wanted u < wanted_behind l t.end) (sym none)
    (fewer_at t.end t u piece none follows feeds some short)

-- the fault of a frame that can't be taken is no write fault
pub whole_fails : (failed : Bool) (t u : Stream) (cause : WorkFault) → TakesWhole t u (Err cause)
    → FailsAtSink failed cause
whole_fails failed t u (WriteFault sent) lacks = absurd lacks
whole_fails failed t u ReadFault lacks = tt
whole_fails failed t u CutFrame lacks = tt
whole_fails failed t u (BadLength n) lacks = tt
whole_fails failed t u NoMemory lacks = tt
whole_fails failed t u TooLong lacks = tt

-- no byte more was fed, and no frame taken
rests_at : (all : List ℕ) (taken : List (List ℕ)) (s : Stream) → HasFed all taken s
    → HasFed (all ++ []) (taken ++ []) s
rests_at all taken s fed =
    subst (λ (l : List ℕ). HasFed l (taken ++ []) s) (sym (append-nil all))
    (subst (λ (l : List (List ℕ)). HasFed all l s) (sym (append-nil taken)) fed)

module _ {R : Type 0} (remaining : R → Option (List ℕ)) where
  -- what was read before any frame was taken, and then more
  reads_then : (a b c : Source R) (s t u : Stream) (more : List (List ℕ)) → ReadsOn remaining a b s t []
      → ReadsOn remaining b c t u more → ReadsOn remaining a c s u more
  reads_then a b c s t u more first next = record {
    bytes = first.bytes ++ next.bytes;
    gives = Consumes-trans _ _ _ _ _ first.gives next.gives;
    fed = λ all taken fed.
        let between : HasFed (all ++ first.bytes) taken t = subst (λ (l : List (List ℕ)). HasFed
        (all ++ first.bytes) l t) (append-nil taken) (first.fed all taken fed) in
        subst (λ (l : List ℕ). HasFed l (taken ++ more) u) (append_assoc all first.bytes next.bytes)
        (next.fed (all ++ first.bytes) taken between);
  }

  -- nothing was read yet
  pub none_read : (a : Source R) (s : Stream) → ReadsOn remaining a a s s []
  none_read a s = record {
    bytes = [];
    gives = Consumes-nil _;
    fed = λ all taken fed. rests_at all taken s fed;
  }

  -- the oldest whole frame was taken, after what was read before
  pub whole_then : (a b : Source R) (s t u : Stream) (body : Vec ℕ Global) → ReadsOn remaining a b s t []
      → TakesWhole t u (Ok (Some body)) → TakesFrame remaining a b s u (Ok (Some body))
  whole_then a b s t u body first took = (
    record {
      bytes = first.bytes;
      gives = first.gives;
      fed = λ all taken fed.
          let before : HasFed (all ++ first.bytes) taken t = subst (λ (l : List (List ℕ)). HasFed
          (all ++ first.bytes) l t) (append-nil taken) (first.fed all taken fed) in
          subst (λ (e : End). Cut (all ++ first.bytes) ((taken ++ body.items ∷ []) ++ u.frames) e)
          (sym took.1)
          (subst (λ (l : List (List ℕ)). Cut (all ++ first.bytes) l t.end)
          (ap (λ (l : List (List ℕ)). taken ++ l) took.0
          ∙ sym (append_assoc taken (body.items ∷ []) u.frames)) before);
    },
    took.2,
  )

  lacks_whole : (a b : Source R) (s t u : Stream) (cause : WorkFault) → ReadsOn remaining a b s t []
      → TakesWhole t u (Err cause) → TakesFrame remaining a b s u (Err cause)
  lacks_whole a b s t u NoMemory first same = (t, first)
  lacks_whole a b s t u (BadLength n) first took = record {
    reads = subst (λ (v : Stream). ReadsOn remaining a b s v []) (sym took.0) first;
    all_taken = ap (λ (v : Stream). v.frames) took.0 ∙ took.1;
    left = ap (λ (v : Stream). v.end) took.0 ∙ took.2;
  }
  lacks_whole a b s t u ReadFault first took = absurd took
  lacks_whole a b s t u CutFrame first took = absurd took
  lacks_whole a b s t u (WriteFault sent) first took = absurd took
  lacks_whole a b s t u TooLong first took = absurd took

  -- or none could be taken, with the fault as a `?` hands it on
  pub lacks_whole_then : (a b : Source R) (s t u : Stream) (cause : WorkFault)
      (r : Result (Option (Vec ℕ Global)) WorkFault) → IsErrAnd r (λ fault. fault ≡ cause)
      → ReadsOn remaining a b s t [] → TakesWhole t u (Err cause) → TakesFrame remaining a b s u r
  lacks_whole_then a b s t u cause (Ok took) is first lacks = absurd is
  lacks_whole_then a b s t u cause (Err fault) is first lacks =
      subst (λ (f : WorkFault). TakesFrame remaining a b s u (Err f)) (sym is)
      (lacks_whole a b s t u cause first lacks)

  piece_read : (a b : Source R) (old new : Stream) (piece : List ℕ)
      → Consumes (source_remaining remaining a) (source_remaining remaining b) piece
      → Feeds old piece new → ReadsOn remaining a b old new []
  piece_read a b old new piece gives feeds = record {
    bytes = piece;
    gives = gives;
    fed = λ all taken fed. subst (λ (l : List (List ℕ)). HasFed (all ++ piece) l new) (sym (append-nil taken))
        (fed_is_cut all piece taken old new fed feeds);
  }

  -- and then a piece that was fed
  piece_then : (a b c : Source R) (s t u : Stream) (piece : List ℕ) → ReadsOn remaining a b s t []
      → Consumes (source_remaining remaining b) (source_remaining remaining c) piece
      → Feeds t piece u → ReadsOn remaining a c s u []
  piece_then a b c s t u piece first gives feeds = reads_then a b c s t u [] first (piece_read b c t u piece
      gives feeds)

  -- and then a piece for which there was no memory
  lost_then : (a b c : Source R) (s t u : Stream) (piece : List ℕ) → ReadsOn remaining a b s t []
      → Consumes (source_remaining remaining b) (source_remaining remaining c) piece
      → TakesFrame remaining a c s u (Err NoMemory)
  lost_then a b c s t u piece first gives =
      let met = feeds_at t.end t piece in
      (met.0, piece_then a b c s t met.0 piece first gives met.1)

  pub read_then : (a b c : Source R) (s t u : Stream) (came : Bool) → came ≡ true
      → ReadsOn remaining a b s t [] → ReadsPiece remaining b c t u (Ok came)
      → ReadsOn remaining a c s u []
  read_then a b c s t u true is first read = piece_then a b c s t u read.0 first read.1 read.3
  read_then a b c s t u false is first read = absurd (cc)

  -- the source failed: what was read before it was fed
  failed_then : (a b c : Source R) (s t u : Stream) → t.frames ≡ [] → ReadsOn remaining a b s t []
      → ReadsPiece remaining b c t u (Err ReadFault)
      → TakesFrame remaining a c s u (Err ReadFault)
  failed_then a b c s t u none first read =
      let reads : ReadsOn remaining a c s t [] = record {
        bytes = first.bytes;
        gives = Consumes-kept _ _ _ _ first.gives read.0;
        fed = first.fed;
      } in (
        record {
          reads = subst (λ (v : Stream). ReadsOn remaining a c s v []) (sym read.2) reads;
          all_taken = ap (λ (v : Stream). v.frames) read.2 ∙ none;
          left = tt;
        },
        read.1,
      )

  stops_then : (a b c : Source R) (s t u : Stream) (cause : WorkFault) → t.frames ≡ []
      → ReadsOn remaining a b s t [] → ReadsPiece remaining b c t u (Err cause)
      → TakesFrame remaining a c s u (Err cause)
  stops_then a b c s t u ReadFault none first read = failed_then a b c s t u none first read
  stops_then a b c s t u NoMemory none first read = lost_then a b c s t u read.0 first read.1
  stops_then a b c s t u CutFrame none first read = absurd read
  stops_then a b c s t u (BadLength n) none first read = absurd read
  stops_then a b c s t u (WriteFault sent) none first read = absurd read
  stops_then a b c s t u TooLong none first read = absurd read

  -- with the fault as a `?` hands it on
  pub stopped_then : (a b c : Source R) (s t u : Stream) (cause : WorkFault)
      (r : Result (Option (Vec ℕ Global)) WorkFault) → IsErrAnd r (λ fault. fault ≡ cause)
      → t.frames ≡ [] → ReadsOn remaining a b s t [] → ReadsPiece remaining b c t u (Err cause)
      → TakesFrame remaining a c s u r
  stopped_then a b c s t u cause (Ok took) is none first read = absurd is
  stopped_then a b c s t u cause (Err fault) is none first read =
      subst (λ (f : WorkFault). TakesFrame remaining a c s u (Err f)) (sym is) (stops_then a b c s t u cause
      none first read)

  -- the sink failed before a read
  pub unsent_then : (a b : Source R) (s t : Stream) (sent : ℕ) (r : Result (Option (Vec ℕ Global)) WorkFault)
      → IsErrAnd r (λ fault. fault ≡ WriteFault sent)
      → sent ≡ 0 → t.frames ≡ [] → ReadsOn remaining a b s t [] → TakesFrame remaining a b s t r
  unsent_then a b s t sent (Ok took) is zero none first = absurd is
  unsent_then a b s t sent (Err fault) is zero none first =
      subst (λ (f : WorkFault). TakesFrame remaining a b s t (Err f)) (sym is) (
        zero,
        record {
          reads = first;
          all_taken = none;
          left = tt;
        },
      )

  -- nothing came any more: what is left was read before
  end_read : (a b c : Source R) (s t u : Stream) → ReadsOn remaining a b s t []
      → Consumes (source_remaining remaining b) (source_remaining remaining c) [] → u ≡ t
      → ReadsOn remaining a c s u []
  end_read a b c s t u first gives same =
      subst (λ (v : Stream). ReadsOn remaining a c s v []) (sym same) (reads_then a b c s t t [] first
      (record {
        bytes = [];
        gives = gives;
        fed = λ all taken fed. rests_at all taken t fed;
      }))

  -- at the end of the source there is no frame, or one that is cut
  pub end_then : (a b c : Source R) (s t u : Stream) (came : Bool)
      (r : Result (Option (Vec ℕ Global)) WorkFault) → came ≡ false → t.frames ≡ []
      → ReadsOn remaining a b s t [] → ReadsPiece remaining b c t u (Ok came)
      → IfOk r (λ body. (body ≡ None) × (u.end ≡ Open []))
      → IfErr r (λ fault. (fault ≡ CutFrame) × IsCut u.end) → TakesFrame remaining a c s u r
  end_then a b c s t u true r is none first read whole cut = absurd (cc)
  end_then a b c s t u false (Ok body) is none first read whole cut =
      subst (λ (o : Option (Vec ℕ Global)). TakesFrame remaining a c s u (Ok o)) (sym whole.0) (
        record {
          reads = end_read a b c s t u first read.0 read.2;
          all_taken = ap (λ (v : Stream). v.frames) read.2 ∙ none;
          left = whole.1;
        },
        read.1,
      )
  end_then a b c s t u false (Err fault) is none first read whole cut =
      subst (λ (f : WorkFault). TakesFrame remaining a c s u (Err f)) (sym cut.0) (
        record {
          reads = end_read a b c s t u first read.0 read.2;
          all_taken = ap (λ (v : Stream). v.frames) read.2 ∙ none;
          left = cut.1;
        },
        read.1,
      )

  -- a piece that came leaves less that the next frame can want
  pub wants_less : (b c : Source R) (t u : Stream) (came : Bool) → came ≡ true → t.frames ≡ []
      → IsOpen t.end → ReadsPiece remaining b c t u (Ok came) → wanted u < wanted t
  wants_less b c t u true is none follows read = fewer_wanted t u read.0 none follows read.3 read.2 read.4
  wants_less b c t u false is none follows read = absurd (cc)

  -- nor is that of a read
  pub read_fails : (failed : Bool) (b c : Source R) (t u : Stream) (cause : WorkFault)
      → ReadsPiece remaining b c t u (Err cause) → FailsAtSink failed cause
  read_fails failed b c t u (WriteFault sent) lacks = absurd lacks
  read_fails failed b c t u ReadFault lacks = tt
  read_fails failed b c t u CutFrame lacks = tt
  read_fails failed b c t u (BadLength n) lacks = tt
  read_fails failed b c t u NoMemory lacks = tt
  read_fails failed b c t u TooLong lacks = tt
