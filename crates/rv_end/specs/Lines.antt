-- The lines that say what came of requests.
use Rattle.std.specs.Prelude.{ℕ, ◌≡◌, ◌-◌, ◌/◌, ◌++◌, ◌∷◌, [], codes, Err, List, None, Ok}
use Rattle.std.specs.Prelude.{Option}
use Rattle.std.specs.Prelude.{Result, Some, take}
use Rattle.std.specs.Fmt.{decimal}
use Rattle.rv_frame.specs.Sink.{SinkTakes}
use Rattle.rv_frame.specs.declared.sink.Sink.{Sink}
use Rattle.rv_run.specs.declared.fault.RunFault.{RunFault}
use Rattle.rv_run.specs.declared.fault.RunFault.TheVariants.{NoMemory, ReadFault, TooLong, WriteFault}
use Rattle.rv_status.specs.Values.{call_word}
use Rattle.rv_status.specs.declared.status.WaitingRow.{WaitingRow}
use Rattle.rv_text.specs.Rows.{code_of}
use Rattle.rv_end.specs.declared.ending.Ending.{Ending}
use Rattle.rv_end.specs.declared.ending.Ending.TheVariants.{Ended, Kept, NoAnswer, Refused, Replaced}

abbrev pub ending_text : Ending → List ℕ
ending_text Ended = codes "ended"
ending_text (Replaced current) = codes "replaced " ++ decimal current
ending_text (Refused refusal) = codes "refused " ++ decimal (code_of refusal)
ending_text Kept = codes "kept"
ending_text NoAnswer = codes "no answer"

-- for how many seconds it had no connection, if the server is this many seconds old
abbrev pub seconds_alone : Option ℕ → ℕ → ℕ
seconds_alone None uptime = 0
seconds_alone (Some since) uptime = uptime - since / 1000

-- a text and a space
abbrev pub spaced : List ℕ → List ℕ → List ℕ
spaced text rest = text ++ 32 ∷ rest

-- client, incarnation and number
abbrev pub key_text : WaitingRow → List ℕ
key_text row = spaced (decimal row.client) (spaced (decimal row.incarnation) (decimal row.number))

-- the call, its queue or exchanger, and the seconds
abbrev pub place_text : WaitingRow → ℕ → List ℕ
place_text row uptime =
    spaced (call_word row.call) (spaced (decimal row.at) (decimal (seconds_alone row.unheard uptime)))

-- these, and what came of it
abbrev pub line_text : WaitingRow → ℕ → Ending → List ℕ
line_text row uptime ending =
    spaced (key_text row) (spaced (place_text row uptime) (ending_text ending ++ 10 ∷ []))

-- the line went out; or a part of it, at a fault; or nothing, without memory
abbrev pub PrintsLine : {W : Type 0} → (W → Option (List ℕ)) → List ℕ → Sink W → Sink W
    → Result (Unit {0}) RunFault → Type 0
PrintsLine contents line old new (Ok done) = SinkTakes contents old new line
PrintsLine contents line old new (Err (WriteFault fault)) = SinkTakes contents old new (take fault.sent line)
PrintsLine contents line old new (Err NoMemory) = new ≡ old
PrintsLine contents line old new (Err ReadFault) = ⊥
PrintsLine contents line old new (Err TooLong) = ⊥
