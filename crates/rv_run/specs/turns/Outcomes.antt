-- What a run leaves behind, for each of its outcomes.
use Rattle.std.specs.Prelude.{ℕ, ◌≡◌, ◌<◌, true, IfSome, List, Option, length, take}
use Rattle.rv_frame.specs.declared.sink.Sink.{Sink}
use Rattle.rv_frame.specs.declared.source.Source.{Source}
use Rattle.rv_frame.specs.Sink.{SinkTakes, sink_failed}
use Rattle.rv_frame.specs.Source.{source_remaining}
use Rattle.rv_account.specs.Account.{Account}
pub use Rattle.rv_run.specs.Input.{FailedReading, FoundTooLong, LackedMemory, ReadsAll, max_input}
use Rattle.rv_run.specs.turns.Run.{Prints, opened_account}

module _ {W : Type 0} (contents : W → Option (List ℕ)) where
  -- the sink took all that one run over the input prints, from this account on
  pub record SendsAll (a : Account) (input : List ℕ) (old new : Sink W) : Type 0 where
    pub output : List ℕ
    pub is_printed : Prints a input output
    pub went_out : SinkTakes contents old new output

  -- the sink took exactly this many bytes of what one run over the input prints, and not all
  pub record SendsFront (a : Account) (input : List ℕ) (old new : Sink W) (sent : ℕ) : Type 0 where
    pub output : List ℕ
    pub is_printed : Prints a input output
    pub not_all : sent < length output
    pub went_out : SinkTakes contents old new (take sent output)

module _ {R W : Type 0} (remaining : R → Option (List ℕ)) (contents : W → Option (List ℕ)) where
  -- the run came to its end: each line of the input is answered
  pub record Ran (epoch : ℕ) (source source' : Source R) (sink sink' : Sink W) : Type 0 where
    pub whole_input : ReadsAll remaining source source'
    pub whole_output : IfSome (source_remaining remaining source)
        (λ input. SendsAll contents (opened_account epoch 0) input sink sink')
    pub sink_stays : sink_failed sink' ≡ sink_failed sink

  -- a write failed after so many bytes of the output
  pub record StoppedWriting (epoch : ℕ) (source source' : Source R) (sink sink' : Sink W) (sent : ℕ)
      : Type 0 where
    pub whole_input : ReadsAll remaining source source'
    pub front_of_output : IfSome (source_remaining remaining source)
        (λ input. SendsFront contents (opened_account epoch 0) input sink sink' sent)
    pub sink_fails : sink_failed sink' ≡ true
