-- What the book's private words for an answer stand for, and the stamp that a verdict shows for them.
use Rattle.std.specs.Prelude.{List, Option, Some, None, length, option_map, unwrap_or}
use Rattle.rv_text.specs.declared.message.Key.{Key}
use Rattle.rv_text.specs.declared.message.Message.{Message}
use Rattle.rv_text.specs.declared.answer.Answer.{Answer}
use Rattle.rv_text.specs.declared.answer.Answer as answer
use Rattle.rv_text.specs.declared.answer.Refusal.TheVariants as refusal
use Rattle.rv_session.specs.declared.kept.Kept.{Kept}
use Rattle.rv_account.specs.declared.entry.Entry.{Entry}
use Rattle.rv_account.specs.Account.{Account}
use Rattle.rv_book.specs.declared.verdict.KeptAnswer.{KeptAnswer}
use Rattle.rv_book.specs.declared.verdict.KeptAnswer.TheVariants.{Welcome, Replied, Waiting, Refused}
use Rattle.rv_book.specs.Verdicts.{VerdictView, reply_of}

-- what is said to a request: the reply that is kept for it, or that it waits
abbrev pub said_of : Key → Option Kept → KeptAnswer
said_of key None = Waiting key
said_of key (Some kept) = Replied key kept

-- the answer that these words stand for; none where the reply that is kept has none
abbrev pub answer_of : List Entry → KeptAnswer → Option Answer
answer_of entries (Welcome epoch client incarnation version) =
    Some (answer.TheVariants.Welcome epoch client incarnation version)
answer_of entries (Replied key kept) = option_map (answer.TheVariants.Replied key) (reply_of entries kept)
answer_of entries (Waiting key) = Some (answer.TheVariants.Waiting key)
answer_of entries (Refused refusal) = Some (answer.TheVariants.Refused refusal)

-- the same; the refusal stands only where there is no answer, which is so for no verdict
abbrev pub said_in : Account → KeptAnswer → Answer
said_in a said = unwrap_or (answer_of a.entries said) (answer.TheVariants.Refused refusal.NoMemory)

-- what is kept of the reply, if it is one
abbrev pub kept_of : KeptAnswer → Option Kept
kept_of (Welcome epoch client incarnation version) = None
kept_of (Replied key kept) = Some kept
kept_of (Waiting key) = None
kept_of (Refused refusal) = None

-- the stamp of a message, between two accounts
abbrev pub stamp_of : Message → Account → Account → KeptAnswer → VerdictView
stamp_of m a b said = record {
  asked = m;
  said = said_in b said;
  before = length a.entries;
  length = length b.entries;
  kept = kept_of said;
}
