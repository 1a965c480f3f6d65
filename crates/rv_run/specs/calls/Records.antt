-- A run of calls that keeps a record: the record's lines, and what the run leaves behind.
use Rattle.std.specs.Prelude.{ℕ, ◌≡◌, ◌+◌, ◌⊎◌, [], ◌∷◌, ◌++◌, List, Option, IfSome, Result, Ok, Err}
use Rattle.std.specs.Prelude.{codes, length, true, false}
use Rattle.rv_text.specs.Bodies.{IsCallBody, answer_text, message_text}
use Rattle.rv_text.specs.declared.answer.Answer.TheVariants as answers
use Rattle.rv_text.specs.declared.answer.Reply.{Reply}
use Rattle.rv_text.specs.declared.call.Call.{Call}
use Rattle.rv_text.specs.declared.message.Key.{Key}
use Rattle.rv_text.specs.declared.message.Message.TheVariants as messages
use Rattle.rv_frame.specs.declared.sink.Sink.{Sink}
use Rattle.rv_frame.specs.declared.source.Source.{Source}
use Rattle.rv_frame.specs.Source.{source_failed, source_remaining}
use Rattle.rv_client.specs.Link.{Link}
use Rattle.rv_client.specs.Process.{Starting}
use Rattle.rv_book.specs.lines.Lines.{lines, printed_lines}
use Rattle.rv_run.specs.Input.{FoundTooLong, ReadsAll}
use Rattle.rv_run.specs.declared.fault.RunFault.TheVariants as run
use Rattle.rv_run.specs.declared.calls.CallSaid.{CallSaid}
use Rattle.rv_run.specs.declared.calls.CallSaid.TheVariants.{Stopped, Whole}
use Rattle.rv_run.specs.declared.calls.end_word.EndWord.{EndWord}
use Rattle.rv_run.specs.declared.calls.recording.RecordFault.{RecordFault}
use Rattle.rv_run.specs.declared.calls.recording.RecordFault.TheVariants as fails
use Rattle.rv_run.specs.declared.calls.recording.RecordingFault.{RecordingFault}
use Rattle.rv_run.specs.declared.calls.recording.RecordingFault.TheVariants.{Record, Run}
use Rattle.rv_run.specs.calls.CallRuns.{CutsLine, CutsText, DidNothing, SettlesAll, SettlesFirst, Stops}
use Rattle.rv_run.specs.calls.CallRuns.{StopsText, TakesLines, TakesText, TextComesNext}
use Rattle.rv_run.specs.calls.EndWord.{word_text}

-- ---- the record's lines

-- the line that says a request's body and that of its reply
abbrev pub record_text : List ℕ → List ℕ → List ℕ
record_text asked told = codes "{\"asked\":" ++ (asked ++ (codes ",\"told\":" ++ (told ++ codes "}")))

-- the body is that of the request of this key with the call that the line says
pub record IsRequestBody (key : Key) (line body : List ℕ) : Type 0 where
  pub call : Call
  pub said : IsCallBody line call
  pub body_is : body ≡ message_text (messages.Request key call)

-- the entry says the text of a reply, and the request of the reply's key with the call that the line says
pub record IsRecorded (line text entry : List ℕ) : Type 0 where
  pub key : Key
  pub reply : Reply
  pub told : text ≡ answer_text (answers.Replied key reply)
  pub body : List ℕ
  pub asked : IsRequestBody key line body
  pub entry_is : entry ≡ record_text body text

-- the entries are those of the first lines, which have these texts, in order
abbrev pub AreRecorded : List (List ℕ) → List (List ℕ) → List (List ℕ) → Type 0
AreRecorded all [] [] = Unit {0}
AreRecorded (line ∷ all) (text ∷ texts) (entry ∷ entries) =
    IsRecorded line text entry × AreRecorded all texts entries
AreRecorded all _ _ = ⊥

-- ---- what the record took

module _ {F : Type 0} (contents : F → Option (List ℕ)) where
  -- the entries of the first lines, which have these texts
  pub record Entered (all texts : List (List ℕ)) (old new : Sink F) : Type 0 where
    pub entries : List (List ℕ)
    pub recorded : AreRecorded all texts entries
    pub took : TakesLines contents entries old new

  -- those, and a part of the entry of one more line: so many of its bytes
  pub record RecordsPart (all texts : List (List ℕ)) (text : List ℕ) (sent : ℕ) (old new : Sink F)
      : Type 0 where
    pub entries : List (List ℕ)
    pub entry : List ℕ
    pub recorded : AreRecorded all (texts ++ text ∷ []) (entries ++ entry ∷ [])
    pub cut : CutsLine contents entries entry (length (printed_lines entries) + sent) old new

  -- the entry of one more line isn't there, for this fault
  abbrev pub LacksEntry : List (List ℕ) → List (List ℕ) → List ℕ → RecordFault → Sink F → Sink F → Type 0
  LacksEntry all texts text (fails.WriteFault sent) old new = RecordsPart all texts text sent old new
  LacksEntry all texts text fails.NoMemory old new = Entered all texts old new

  -- for private clauses: an entry was not taken, for this fault
  abbrev pub StopsEntry : List ℕ → RecordFault → Sink F → Sink F → Type 0
  StopsEntry entry (fails.WriteFault sent) old new = CutsText contents entry 0 sent old new
  StopsEntry entry fails.NoMemory old new = new ≡ old

-- ---- the run over the lines of an input

-- the output of a run, and its record
pub record Outlets (O F : Type 0) : Type 0 where
  pub out : Sink O
  pub file : Sink F

abbrev pub outlets : {O F : Type 0} → Sink O → Sink F → Outlets O F
outlets out file = record { out = out; file = file }

module _ {O R W F : Type 0} (taken : O → Option (List ℕ)) (remaining : R → Option (List ℕ))
    (contents : W → Option (List ℕ)) (kept : F → Option (List ℕ)) (starting : Starting) (tries : ℕ) where
  -- each line is settled, has its entry and its text
  pub record RecordsWhole (all : List (List ℕ)) (before after : Link R W) (old new : Outlets O F)
      : Type 0 where
    pub texts : List (List ℕ)
    pub settles : SettlesAll remaining contents starting tries all texts before after
    pub recorded : Entered kept all texts old.file new.file
    pub printed : TakesLines taken texts old.out new.out

  -- the lines before the last have the entries and the texts of settled ones, and the last is a word
  pub record RecordsToWord (all : List (List ℕ)) (before after : Link R W) (old new : Outlets O F)
      : Type 0 where
    pub texts : List (List ℕ)
    pub word : EndWord
    pub stops : Stops remaining contents starting tries all texts word before after
    pub recorded : Entered kept all texts old.file new.file
    pub printed : TakesLines taken (texts ++ word_text word ∷ []) old.out new.out

  -- this text comes next: that of one more settled line, which has its entry, or a word
  abbrev pub ComesRecorded : List (List ℕ) → List (List ℕ) → List ℕ → Link R W → Link R W → Sink F → Sink F
      → Type 0
  ComesRecorded all texts text before after old new =
      (SettlesFirst remaining contents starting tries all (texts ++ text ∷ []) before after
      × Entered kept all (texts ++ text ∷ []) old new)
      ⊎ ((word : EndWord) × Stops remaining contents starting tries all texts word before after
      × (text ≡ word_text word) × Entered kept all texts old new)

  -- a text was cut after so many bytes of the output, and nothing was asked after that
  pub record RecordsToCut (all : List (List ℕ)) (before after : Link R W) (old new : Outlets O F) (sent : ℕ)
      : Type 0 where
    pub texts : List (List ℕ)
    pub text : List ℕ
    pub says : ComesRecorded all texts text before after old.file new.file
    pub cut : CutsLine taken texts text sent old.out new.out

  -- memory was refused after lines that were settled and have these texts and their entries: to read the
  -- line after them, for which nothing was asked then, or for the text that comes next, which has no entry
  pub record RecordsShort (all : List (List ℕ)) (before after : Link R W) (old new : Outlets O F)
      : Type 0 where
    pub texts : List (List ℕ)
    pub leaves : SettlesFirst remaining contents starting tries all texts before after
        ⊎ ((text : List ℕ) × TextComesNext remaining contents starting tries all texts text before after)
    pub recorded : Entered kept all texts old.file new.file
    pub printed : TakesLines taken texts old.out new.out

  -- the last line that was settled lacks its entry; its text went out, unless the output failed too
  pub record RecordsNoMore (all : List (List ℕ)) (before after : Link R W) (old new : Outlets O F)
      (fault : RecordFault) : Type 0 where
    pub texts : List (List ℕ)
    pub text : List ℕ
    pub settles : SettlesFirst remaining contents starting tries all (texts ++ text ∷ []) before after
    pub lacks : LacksEntry kept all texts text fault old.file new.file
    pub printed : TakesLines taken (texts ++ text ∷ []) old.out new.out
        ⊎ ((sent : ℕ) × CutsLine taken texts text sent old.out new.out)

  -- what a run over the lines leaves, by what it answers
  abbrev pub RecordsCalls : List (List ℕ) → Link R W → Link R W → Outlets O F → Outlets O F
      → Result CallSaid RecordingFault → Type 0
  RecordsCalls all before after old new (Ok Whole) = RecordsWhole all before after old new
  RecordsCalls all before after old new (Ok Stopped) = RecordsToWord all before after old new
  RecordsCalls all before after old new (Err (Run (run.WriteFault fault))) =
      RecordsToCut all before after old new fault.sent
  RecordsCalls all before after old new (Err (Run run.NoMemory)) = RecordsShort all before after old new
  RecordsCalls all before after old new (Err (Run run.ReadFault)) = ⊥
  RecordsCalls all before after old new (Err (Run run.TooLong)) = ⊥
  RecordsCalls all before after old new (Err (Record fault)) = RecordsNoMore all before after old new fault

-- ---- the whole run

module _ {L O R W F : Type 0} (given : L → Option (List ℕ)) (taken : O → Option (List ℕ))
    (remaining : R → Option (List ℕ)) (contents : W → Option (List ℕ)) (kept : F → Option (List ℕ))
    (starting : Starting) (tries : ℕ) where
  -- the whole input was read, and over its lines the run leaves this
  pub record RanRecording (source source' : Source L) (before after : Link R W) (old new : Outlets O F)
      (result : Result CallSaid RecordingFault) : Type 0 where
    pub whole_input : ReadsAll given source source'
    pub runs : IfSome (source_remaining given source)
        (λ input. RecordsCalls taken remaining contents kept starting tries (lines input) before after old new
        result)

  -- nothing was asked, printed or recorded
  pub record LeftAll (before after : Link R W) (old new : Outlets O F) : Type 0 where
    pub nothing : DidNothing before after old.out new.out
    pub recorded_nothing : new.file ≡ old.file

  -- what a run leaves, for each of its results; if reading the input ends it, nothing was done
  abbrev pub RecordsRun : Source L → Source L → Link R W → Link R W → Outlets O F → Outlets O F
      → Result CallSaid RecordingFault → Type 0
  RecordsRun source source' before after old new (Ok said) =
      RanRecording source source' before after old new (Ok said)
  RecordsRun source source' before after old new (Err (Record fault)) =
      RanRecording source source' before after old new (Err (Record fault))
  RecordsRun source source' before after old new (Err (Run (run.WriteFault fault))) =
      RanRecording source source' before after old new (Err (Run (run.WriteFault fault)))
  RecordsRun source source' before after old new (Err (Run run.NoMemory)) =
      ((source_failed source' ≡ false) × LeftAll before after old new)
      ⊎ RanRecording source source' before after old new (Err (Run run.NoMemory))
  RecordsRun source source' before after old new (Err (Run run.ReadFault)) =
      (source_failed source' ≡ true) × LeftAll before after old new
  RecordsRun source source' before after old new (Err (Run run.TooLong)) =
      FoundTooLong given source source' old.out new.out × LeftAll before after old new

-- ---- for private clauses: one line

module _ {O F : Type 0} (taken : O → Option (List ℕ)) (kept : F → Option (List ℕ)) where
  -- a settled line's entry, and its text after so many bytes of the output
  abbrev pub TellsCall : List ℕ → List ℕ → ℕ → Outlets O F → Outlets O F → Result ℕ RecordingFault → Type 0
  TellsCall entry text before old new (Ok count) = (count ≡ before + length text + 1)
      × TakesText kept entry old.file new.file × TakesText taken text old.out new.out
  TellsCall entry text before old new (Err (Run (run.WriteFault fault))) =
      TakesText kept entry old.file new.file × CutsText taken text before fault.sent old.out new.out
  TellsCall entry text before old new (Err (Run run.NoMemory)) =
      (new.file ≡ old.file) × (new.out ≡ old.out)
  TellsCall entry text before old new (Err (Run run.ReadFault)) = ⊥
  TellsCall entry text before old new (Err (Run run.TooLong)) = ⊥
  TellsCall entry text before old new (Err (Record fault)) =
      StopsEntry kept entry fault old.file new.file
      × (TakesText taken text old.out new.out
      ⊎ ((sent : ℕ) × CutsText taken text before sent old.out new.out))

module _ {O : Type 0} (taken : O → Option (List ℕ)) where
  -- the word that ends the run, after so many bytes of the output
  abbrev pub SaysWord : List ℕ → ℕ → Sink O → Sink O → Result CallSaid RecordingFault → Type 0
  SaysWord text before old new (Ok Stopped) = TakesText taken text old new
  SaysWord text before old new (Ok Whole) = ⊥
  SaysWord text before old new (Err (Run fault)) = StopsText taken text before old new fault
  SaysWord text before old new (Err (Record fault)) = ⊥
