-- One frame is answered: from what was got and told of it to the answered frame.
use Rattle.std.proofs.Common.{inl, inr, ◌≡◌, ◌++◌, ◌∷◌, [], ℕ, List, Err, IsErrAnd, IfErr, Ok}
use Rattle.std.proofs.Common.{Option, Result, refl, subst, sym}
use Rattle.rv_frame.specs.Cut.{IsFrameBody}
use Rattle.rv_frame.specs.Sink.{SinkTakes, sink_failed}
use Rattle.rv_frame.specs.declared.sink.Sink.{Sink}
use Rattle.std.proofs.KnownBytes.{Appends-nil, Appends-trans}
use Rattle.rv_server.specs.locked.Asking.{GetsStamps, GetsTold, TellsFrame}
use Rattle.rv_server.specs.Asking.{StopsAsking}
use Rattle.rv_server.specs.Progress.{AnswersFrame, Out, StopsAtFrame}
use Rattle.rv_server.specs.locked.Stamps.{Numbered}
use Rattle.rv_server.specs.AnsweredFrames.{AnsweredFrame, BodySays, IsAnsweredFrame}
use Rattle.rv_server.specs.Works.{Listed}
use Rattle.rv_server.specs.locked.Writing.{IsAnswer, WritesAnswer, WritesPart}
use Rattle.rv_server.specs.declared.locked.asking.FrameAnswer.{FrameAnswer}
use Rattle.rv_server.specs.declared.locked.asking.FrameAnswer.TheVariants as told
use Rattle.rv_server.specs.declared.fault.WorkFault.{WorkFault}
use Rattle.rv_server.specs.declared.fault.WorkFault.TheVariants.{BadLength, CutFrame, NoMemory, ReadFault}
use Rattle.rv_server.specs.declared.fault.WorkFault.TheVariants.{TooLong, WriteFault}
use Rattle.rv_server.proofs.OfLocked.Getting.{nothing_got}
use Rattle.rv_server.specs.declared.locked.item.Item.{Item}
use Rattle.rv_server.specs.declared.locked.item.Item.TheVariants as item

-- what is told of a frame and the item that stands for it say what the answer says
says_of : (body : List ℕ) (got : List Numbered) (t : FrameAnswer) (i : Item) (answer : List ℕ)
    → TellsFrame body got t → IsAnswer t i answer → BodySays i body got answer
says_of body got told.BadText item.BadText answer tells is = (tells, is)
says_of body got told.BadText item.NoMemory answer tells is = is
says_of body got told.BadText item.Said answer tells is = absurd is
says_of body got told.NoMemory item.BadText answer tells is = absurd is
says_of body got told.NoMemory item.NoMemory answer tells is = is
says_of body got told.NoMemory item.Said answer tells is = absurd is
says_of body got (told.Said said) item.BadText answer tells is = absurd is
says_of body got (told.Said said) item.NoMemory answer tells is = is
says_of body got (told.Said said) item.Said answer tells is = (said, tells.0, is)

abbrev frame_of : (body : List ℕ) (got : List Numbered) (i : Item) (answer : List ℕ) → AnsweredFrame
frame_of body got i answer = record { body = body; stamps = got; item = i; answer = answer }

frame_is : (number : ℕ) (body : List ℕ) (share share' : ℕ) (old new : List Numbered) (t : FrameAnswer)
    (i : Item) (answer : List ℕ)
    → (told : GetsTold number body share old share' new t) → IsAnswer t i answer → IsFrameBody answer
    → IsAnsweredFrame number (frame_of body told.got i answer)
frame_is number body share share' old new t i answer told is fits = record {
  own = told.gets.own;
  fits = fits;
  says = says_of body told.got t i answer told.tells is;
}

-- a fault that a `?` made
pub fault_gives : {X : Type 0} (r : Result X WorkFault) (P Q : WorkFault → Type 0) → IsErrAnd r P
    → ((fault : WorkFault) → P fault → Q fault) → IfErr r Q
fault_gives (Ok x) P Q h f = tt
fault_gives (Err fault) P Q h f = f fault h

module _ {W : Type 0} (contents : W → Option (List ℕ)) where
  pub lacks_room : (number : ℕ) (body : List ℕ) (at : Out W) (old new : Listed) (fault : WorkFault)
      → fault ≡ NoMemory → new.items ≡ old.items
      → new.stamps ≡ old.stamps → StopsAtFrame contents number body at at old new fault
  lacks_room number body at old new fault is items stamps =
      subst (λ (f : WorkFault). StopsAtFrame contents number body at at old new f) (sym is) (record {
        got = [];
        items = items;
        stamps = subst (λ (l : List Numbered). GetsStamps number body at.share old.stamps at.share l [])
            (sym stamps) (nothing_got number body at.share old.stamps);
        none_written = Appends-nil _;
      })

  pub answers_frame : (number : ℕ) (body : List ℕ) (before after : Out W) (old new : Listed) (mid : Sink W)
      (t : FrameAnswer) (i : Item)
      → SinkTakes contents before.sink mid [] → GetsTold number body before.share old.stamps after.share
      new.stamps t → WritesAnswer contents mid after.sink t i
      → new.items ≡ old.items ++ i ∷ [] → AnswersFrame contents number body before after old new
  answers_frame number body before after old new mid t i none told writes items = record {
    frame = frame_of body told.got i writes.answer;
    of = refl;
    is = frame_is number body before.share after.share old.stamps new.stamps t i writes.answer told writes.is
        writes.fits;
    items = items;
    stamps = told.gets;
    written = Appends-trans _ _ _ _ _ none writes.written;
  }

  pub breaks_frame : (number : ℕ) (body : List ℕ) (before after : Out W) (old new : Listed) (mid : Sink W)
      (t : FrameAnswer) (sent : ℕ) (fault : WorkFault)
      → fault ≡ WriteFault sent → SinkTakes contents before.sink mid []
      → GetsTold number body before.share old.stamps after.share new.stamps t
      → WritesPart contents mid after.sink t sent → new.items ≡ old.items
      → StopsAtFrame contents number body before after old new fault
  breaks_frame number body before after old new mid t sent fault is none told writes items =
      subst (λ (f : WorkFault). StopsAtFrame contents number body before after old new f) (sym is)
      (inl (record {
        frame = frame_of body told.got writes.item writes.answer;
        of = refl;
        is = frame_is number body before.share after.share old.stamps new.stamps t writes.item writes.answer
            told writes.is writes.fits;
        items = items;
        stamps = told.gets;
        part = writes.part;
        written = Appends-trans _ _ _ _ _ none writes.written;
        failed = writes.failed;
      }))

  -- asking stopped before there was an answer
  stops_asking : (number : ℕ) (body : List ℕ) (before after : Out W) (old new : Listed) (fault : WorkFault)
      → SinkTakes contents before.sink after.sink [] → new.items ≡ old.items
      → StopsAsking number body before.share old.stamps after.share new.stamps (sink_failed after.sink) fault
      → StopsAtFrame contents number body before after old new fault
  stops_asking number body before after old new NoMemory none items stops = record {
    got = stops.got;
    items =
        items;
    stamps = stops.gets;
    none_written = none;
  }
  stops_asking number body before after old new (WriteFault sent) none items stops = inr (record {
    none = stops.0;
    items = items;
    waited = stops.1;
    none_written = none;
    failed = stops.2;
  })
  stops_asking number body before after old new ReadFault none items stops = absurd stops
  stops_asking number body before after old new CutFrame none items stops = absurd stops
  stops_asking number body before after old new (BadLength n) none items stops = absurd stops
  stops_asking number body before after old new TooLong none items stops = absurd stops

  pub stopped_asking : (number : ℕ) (body : List ℕ) (before after : Out W) (old new : Listed) (cause fault :
      WorkFault) → fault ≡ cause
      → SinkTakes contents before.sink after.sink [] → new.items ≡ old.items
      → StopsAsking number body before.share old.stamps after.share new.stamps (sink_failed after.sink) cause
      → StopsAtFrame contents number body before after old new fault
  stopped_asking number body before after old new cause fault is none items stops =
      subst (λ (f : WorkFault). StopsAtFrame contents number body before after old new f) (sym is)
      (stops_asking number body before after old new cause none items stops)
