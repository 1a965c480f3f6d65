-- What is printed of a reply, and its status.
use Rattle.std.specs.Prelude.{List, ℕ, codes, map, [], ◌∷◌, ◌++◌}
use Rattle.std.specs.List.{concat}
use Rattle.std.specs.Fmt.{decimal}
use Rattle.rv_text.specs.Bodies.{answer_text}
use Rattle.rv_text.specs.declared.answer.Answer.TheVariants.{Replied}
use Rattle.rv_text.specs.declared.answer.Reply.{Reply}
use Rattle.rv_text.specs.declared.answer.Reply.TheVariants as reply
use Rattle.rv_text.specs.declared.message.Key.{Key}
use Rattle.rv_commands.specs.declared.reply.ReplyForm.{ReplyForm}
use Rattle.rv_commands.specs.declared.reply.ReplyForm.TheVariants as form

-- items, each with what ends it
abbrev pub ended_items : List (List ℕ) → List ℕ → List ℕ
ended_items items end = concat (map (λ item. item ++ end) items)

-- two words with a space between them
abbrev pub two_words : List ℕ → List ℕ → List ℕ
two_words word rest = word ++ 32 ∷ rest

-- a key's client, incarnation and number, with spaces between them
abbrev pub key_words : Key → List ℕ
key_words key = two_words (decimal key.client) (two_words (decimal key.incarnation) (decimal key.number))

-- the text of a reply, each part of which ends so
abbrev pub ended_text : Reply → List ℕ → List ℕ
ended_text reply.Done end = codes "done" ++ end
ended_text reply.Received end = codes "received" ++ end
ended_text (reply.ReceivedBy taker) end = two_words (codes "received") (key_words taker ++ end)
ended_text (reply.Item item) end = item ++ end
ended_text (reply.Swapped item) end = item ++ end
ended_text (reply.Peeked item) end = item ++ end
ended_text (reply.Counted items consumers) end = two_words (decimal items) (decimal consumers ++ end)
ended_text (reply.Drained items) end = ended_items items end
ended_text _ end = []

-- what is printed
abbrev pub printed : ReplyForm → Key → Reply → List ℕ
printed form.Lines key reply = ended_text reply (10 ∷ [])
printed form.Zeros key reply = ended_text reply (0 ∷ [])
printed form.Json key reply = answer_text (Replied key reply) ++ 10 ∷ []

-- 0 where it took place, 3 where nobody or no item was there, 4 where the wait ended, 5 where it was
-- cancelled
abbrev pub reply_status : Reply → ℕ
reply_status reply.Nobody = 3
reply_status reply.Empty = 3
reply_status (reply.Drained []) = 3
reply_status reply.TimedOut = 4
reply_status reply.Cancelled = 5
reply_status _ = 0
