-- The line of a record that tells one reply.
use Rattle.std.specs.Prelude.{List, ℕ, [], ◌∷◌, ◌++◌}
use Rattle.rv_text.specs.Bodies.{answer_text, message_text}
use Rattle.rv_text.specs.declared.answer.Answer.TheVariants.{Replied}
use Rattle.rv_text.specs.declared.answer.Reply.{Reply}
use Rattle.rv_text.specs.declared.call.Call.{Call}
use Rattle.rv_text.specs.declared.message.Key.{Key}
use Rattle.rv_text.specs.declared.message.Message.TheVariants.{Request}
use Rattle.rv_run.specs.calls.Records.{record_text}

-- the request of this key with this call, its reply, and LF
abbrev pub reply_line : Key → Call → Reply → List ℕ
reply_line key call reply = record_text (message_text (Request key call)) (answer_text (Replied key reply)) ++
    10 ∷ []
