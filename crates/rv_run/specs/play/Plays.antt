-- What a play leaves behind, for each of its outcomes.
use Rattle.std.specs.Prelude.{ℕ, ◌≡◌, ◌<◌, ◌⊎◌, ◌∷◌, ◌++◌, [], true, false, length, take}
use Rattle.std.specs.Prelude.{IfSome, List, Option}
use Rattle.rv_frame.specs.declared.sink.Sink.{Sink}
use Rattle.rv_frame.specs.declared.source.Source.{Source}
use Rattle.rv_frame.specs.Sink.{SinkTakes, sink_failed}
use Rattle.rv_frame.specs.Source.{source_failed, source_remaining}
use Rattle.rv_book.specs.lines.Lines.{lines, printed_lines}
use Rattle.rv_run.specs.Input.{ReadsAll}
use Rattle.rv_run.specs.declared.fault.RunFault.{RunFault}
use Rattle.rv_run.specs.declared.fault.RunFault.TheVariants.{NoMemory, ReadFault, TooLong, WriteFault}
use Rattle.rv_world.specs.parts.World.{World, first_world}
use Rattle.rv_run.specs.play.Turns.{LineTurn, Plays, lines_of, turn_texts}

-- the turns play the first lines of the input, from a world that begins in epoch 1, and these lines are left
pub record PlaysFirst (input : List ℕ) (turns : List LineTurn) (left : List (List ℕ)) : Type 0 where
  pub cut : lines input ≡ lines_of turns ++ left
  pub last : World
  pub plays : Plays (first_world 1) turns last

-- ---- what the sink took

module _ {W : Type 0} (contents : W → Option (List ℕ)) where
  -- the text of a turn for each line of the input
  pub record PrintsAll (input : List ℕ) (old new : Sink W) : Type 0 where
    pub turns : List LineTurn
    pub plays : PlaysFirst input turns []
    pub went_out : SinkTakes contents old new (printed_lines (turn_texts turns))
    pub sink_stays : sink_failed new ≡ sink_failed old

  -- exactly this many bytes of the texts of the turns of some first lines, and not all
  pub record PrintsFront (input : List ℕ) (old new : Sink W) (sent : ℕ) : Type 0 where
    pub turns : List LineTurn
    pub left : List (List ℕ)
    pub plays : PlaysFirst input turns left
    pub not_all : sent < length (printed_lines (turn_texts turns))
    pub went_out : SinkTakes contents old new (take sent (printed_lines (turn_texts turns)))
    pub sink_fails : sink_failed new ≡ true

  -- the texts of the turns of some first lines, whole, and not of all
  pub record PrintsSome (input : List ℕ) (old new : Sink W) : Type 0 where
    pub turns : List LineTurn
    pub line : List ℕ
    pub left : List (List ℕ)
    pub plays : PlaysFirst input turns (line ∷ left)
    pub went_out : SinkTakes contents old new (printed_lines (turn_texts turns))
    pub sink_stays : sink_failed new ≡ sink_failed old

  -- not every line has its result, for this fault
  abbrev pub StopsPlaying : List ℕ → Sink W → Sink W → RunFault → Type 0
  StopsPlaying input old new ReadFault = ⊥
  StopsPlaying input old new (WriteFault fault) = PrintsFront input old new fault.sent
  StopsPlaying input old new NoMemory = PrintsSome input old new
  StopsPlaying input old new TooLong = ⊥

-- ---- the whole play

module _ {R W : Type 0} (remaining : R → Option (List ℕ)) (contents : W → Option (List ℕ)) where
  -- the play came to its end: each line of the input has its result
  pub record Played (source source' : Source R) (sink sink' : Sink W) : Type 0 where
    pub whole_input : ReadsAll remaining source source'
    pub whole_output : IfSome (source_remaining remaining source)
        (λ input. PrintsAll contents input sink sink')

  -- a write failed after so many bytes of the results
  pub record StoppedPrinting (source source' : Source R) (sink sink' : Sink W) (sent : ℕ) : Type 0 where
    pub whole_input : ReadsAll remaining source source'
    pub front_of_output : IfSome (source_remaining remaining source)
        (λ input. PrintsFront contents input sink sink' sent)

  -- memory was refused at a line, and those before it have their results
  pub record StoppedAtLine (source source' : Source R) (sink sink' : Sink W) : Type 0 where
    pub whole_input : ReadsAll remaining source source'
    pub some_output : IfSome (source_remaining remaining source)
        (λ input. PrintsSome contents input sink sink')

  -- memory was refused: at a line, or before the first was looked at, and then nothing was written
  abbrev pub StoppedForMemory : Source R → Source R → Sink W → Sink W → Type 0
  StoppedForMemory source source' sink sink' =
      ((source_failed source' ≡ false) × (sink' ≡ sink)) ⊎ StoppedAtLine source source' sink sink'
