-- A run of calls over the lines of an input: what came of them, what was printed, and what is left behind.
use Rattle.std.specs.Prelude.{ℕ, ◌≡◌, ◌<◌, ◌≤◌, ◌+◌, ◌-◌, ◌⊎◌, [], ◌∷◌, ◌++◌, List, Option}
use Rattle.std.specs.Prelude.{IfSome, Result, Ok, Err, length, take, true}
use Rattle.rv_frame.specs.declared.sink.Sink.{Sink}
use Rattle.rv_frame.specs.declared.source.Source.{Source}
use Rattle.rv_frame.specs.Sink.{SinkTakes, sink_failed}
use Rattle.rv_frame.specs.Source.{source_remaining}
use Rattle.rv_client.specs.Link.{Link}
use Rattle.rv_client.specs.Process.{Starting, first_key}
use Rattle.rv_run.specs.declared.calls.CallSaid.{CallSaid}
use Rattle.rv_run.specs.declared.calls.CallSaid.TheVariants.{Stopped, Whole}
use Rattle.rv_run.specs.declared.fault.RunFault.{RunFault}
use Rattle.rv_run.specs.declared.fault.RunFault.TheVariants.{NoMemory, ReadFault, TooLong, WriteFault}
use Rattle.rv_run.specs.declared.calls.end_word.EndWord.{EndWord}
use Rattle.rv_run.specs.calls.Calling.{IsTurnedAway, IsWelcomed, SettlesLines, StopsWithWord, key_behind}
use Rattle.rv_book.specs.lines.Lines.{lines}
use Rattle.rv_run.specs.Input.{ReadsAll}
use Rattle.rv_book.specs.lines.Lines.{printed_lines}
use Rattle.rv_run.specs.calls.EndWord.{word_text}

-- ---- what came of the lines

module _ {R W : Type 0} (remaining : R → Option (List ℕ)) (contents : W → Option (List ℕ))
    (starting : Starting) (tries : ℕ) where
  -- the client is welcome, and the calls of these lines were settled with these texts, from number 1 on
  pub record SettlesAll (all texts : List (List ℕ)) (before after : Link R W) : Type 0 where
    pub epoch : ℕ
    pub greeted : Link R W
    pub welcomed : IsWelcomed remaining contents starting tries epoch before greeted
    pub settled : SettlesLines remaining contents tries (first_key starting epoch) all texts greeted after

  -- some first lines were settled so, and the word says why the line after them was not
  pub record CallsStopAtLine (all texts : List (List ℕ)) (word : EndWord) (before after : Link R W)
      : Type 0 where
    pub first : List (List ℕ)
    pub line : List ℕ
    pub later : List (List ℕ)
    pub cut : all ≡ first ++ line ∷ later
    pub epoch : ℕ
    pub greeted : Link R W
    pub welcomed : IsWelcomed remaining contents starting tries epoch before greeted
    pub between : Link R W
    pub settled : SettlesLines remaining contents tries (first_key starting epoch) first texts greeted between
    pub stops : StopsWithWord remaining contents tries
        (key_behind (first_key starting epoch) (length texts)) line
        word between after

  -- the word says why the client is not welcome, and no line was looked at
  pub record StopsAtOnce (texts : List (List ℕ)) (word : EndWord) (before after : Link R W) : Type 0 where
    pub no_text : texts ≡ []
    pub turned_away : IsTurnedAway remaining contents starting tries word before after

  -- the word ends the run after the lines that were settled with these texts
  abbrev pub Stops : List (List ℕ) → List (List ℕ) → EndWord → Link R W → Link R W → Type 0
  Stops all texts word before after = StopsAtOnce texts word before after
      ⊎ CallsStopAtLine all texts word before after

  -- some first lines were settled with these texts
  pub record SettlesFirst (all texts : List (List ℕ)) (before after : Link R W) : Type 0 where
    pub first : List (List ℕ)
    pub later : List (List ℕ)
    pub cut : all ≡ first ++ later
    pub settles : SettlesAll first texts before after

  -- after these texts comes this one: that of one more settled line, or the word that ends the run
  abbrev pub TextComesNext : List (List ℕ) → List (List ℕ) → List ℕ → Link R W → Link R W → Type 0
  TextComesNext all texts text before after = SettlesFirst all (texts ++ text ∷ []) before after
      ⊎ ((word : EndWord) × Stops all texts word before after × (text ≡ word_text word))

-- ---- what the output took

module _ {O : Type 0} (contents : O → Option (List ℕ)) where
  -- these lines, whole
  pub record TakesLines (texts : List (List ℕ)) (old new : Sink O) : Type 0 where
    pub went_out : SinkTakes contents old new (printed_lines texts)
    pub sink_stays : sink_failed new ≡ sink_failed old

  -- these lines, and a part of one more: so many bytes in all
  pub record CutsLine (texts : List (List ℕ)) (text : List ℕ) (sent : ℕ) (old new : Sink O) : Type 0 where
    pub past_others : length (printed_lines texts) ≤ sent
    pub not_all : sent < length (printed_lines (texts ++ text ∷ []))
    pub went_out : SinkTakes contents old new (take sent (printed_lines (texts ++ text ∷ [])))
    pub sink_fails : sink_failed new ≡ true

  -- ---- for private clauses: one line after others

  -- a text, with LF after it
  pub record TakesText (text : List ℕ) (old new : Sink O) : Type 0 where
    pub went_out : SinkTakes contents old new (text ++ 10 ∷ [])
    pub sink_stays : sink_failed new ≡ sink_failed old

  -- a part of one, after so many bytes: this makes so many bytes in all
  pub record CutsText (text : List ℕ) (before sent : ℕ) (old new : Sink O) : Type 0 where
    pub past_others : before ≤ sent
    pub not_all : sent < before + length text + 1
    pub went_out : SinkTakes contents old new (take (sent - before) (text ++ 10 ∷ []))
    pub sink_fails : sink_failed new ≡ true

  -- a text did not go out, for this fault
  abbrev pub StopsText : List ℕ → ℕ → Sink O → Sink O → RunFault → Type 0
  StopsText text before old new (WriteFault fault) = CutsText text before fault.sent old new
  StopsText text before old new NoMemory = new ≡ old
  StopsText text before old new ReadFault = ⊥
  StopsText text before old new TooLong = ⊥

-- ---- the run over the lines of an input

module _ {O R W : Type 0} (taken : O → Option (List ℕ)) (remaining : R → Option (List ℕ))
    (contents : W → Option (List ℕ)) (starting : Starting) (tries : ℕ) where
  -- each line is settled and has its text
  pub record RunsWhole (all : List (List ℕ)) (before after : Link R W) (out out' : Sink O) : Type 0 where
    pub texts : List (List ℕ)
    pub settles : SettlesAll remaining contents starting tries all texts before after
    pub took : TakesLines taken texts out out'

  -- the lines before the last have the texts of settled ones, and the last is a word
  pub record RunsToWord (all : List (List ℕ)) (before after : Link R W) (out out' : Sink O) : Type 0 where
    pub texts : List (List ℕ)
    pub word : EndWord
    pub stops : Stops remaining contents starting tries all texts word before after
    pub took : TakesLines taken (texts ++ word_text word ∷ []) out out'

  -- a line was cut after so many bytes in all, and nothing was asked after that
  pub record RunsToCut (all : List (List ℕ)) (before after : Link R W) (out out' : Sink O) (sent : ℕ)
      : Type 0 where
    pub texts : List (List ℕ)
    pub text : List ℕ
    pub says : TextComesNext remaining contents starting tries all texts text before after
    pub cut : CutsLine taken texts text sent out out'

  -- memory was refused after lines that were settled and have these texts: to read the line after them, for
  -- which nothing was asked then, or for the text that comes next
  pub record RunsShort (all : List (List ℕ)) (before after : Link R W) (out out' : Sink O) : Type 0 where
    pub texts : List (List ℕ)
    pub leaves : SettlesFirst remaining contents starting tries all texts before after
        ⊎ ((text : List ℕ) × TextComesNext remaining contents starting tries all texts text before after)
    pub took : TakesLines taken texts out out'

  -- what a run over the lines leaves, for each of its results
  abbrev pub RunsCalls : List (List ℕ) → Link R W → Link R W → Sink O → Sink O
      → Result CallSaid RunFault → Type 0
  RunsCalls all before after out out' (Ok Whole) = RunsWhole all before after out out'
  RunsCalls all before after out out' (Ok Stopped) = RunsToWord all before after out out'
  RunsCalls all before after out out' (Err (WriteFault fault)) =
      RunsToCut all before after out out' fault.sent
  RunsCalls all before after out out' (Err NoMemory) = RunsShort all before after out out'
  RunsCalls all before after out out' (Err ReadFault) = ⊥
  RunsCalls all before after out out' (Err TooLong) = ⊥

-- ---- the whole run

module _ {L O R W : Type 0} (given : L → Option (List ℕ)) (taken : O → Option (List ℕ))
    (remaining : R → Option (List ℕ)) (contents : W → Option (List ℕ)) (starting : Starting) (tries : ℕ) where
  -- the whole input was read, and over its lines the run leaves this
  pub record RanCalls (source source' : Source L) (before after : Link R W) (out out' : Sink O)
      (result : Result CallSaid RunFault) : Type 0 where
    pub whole_input : ReadsAll given source source'
    pub runs : IfSome (source_remaining given source)
        (λ input. RunsCalls taken remaining contents starting tries (lines input) before after
        out out' result)

module _ {O R W : Type 0} where
  -- nothing was asked and nothing printed
  pub record DidNothing (before after : Link R W) (out out' : Sink O) : Type 0 where
    pub asked_nothing : after ≡ before
    pub printed_nothing : out' ≡ out
