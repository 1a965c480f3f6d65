-- The words that end a run of calls, as they are printed.
use Rattle.std.specs.Prelude.{ℕ, List, codes, ◌++◌}
use Rattle.std.specs.Fmt.{decimal}
use Rattle.rv_text.specs.Rows.{code_of}
use Rattle.rv_run.specs.declared.calls.end_word.EndWord.{EndWord}
use Rattle.rv_run.specs.declared.calls.end_word.EndWord.TheVariants.{BadLine, EpochEnded, NotWelcome, Refused}
use Rattle.rv_run.specs.declared.calls.end_word.EndWord.TheVariants.{Replaced, Unsettled}

abbrev pub word_text : EndWord → List ℕ
word_text NotWelcome = codes "not welcome"
word_text (Refused refusal) = codes "refused " ++ decimal (code_of refusal)
word_text (Unsettled number) = codes "unsettled " ++ decimal number
word_text (EpochEnded current) = codes "epoch ended " ++ decimal current
word_text (Replaced current) = codes "replaced " ++ decimal current
word_text BadLine = codes "bad line"
