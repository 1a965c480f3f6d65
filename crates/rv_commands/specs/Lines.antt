-- The lines of an input that are put as items, each settled before the next is read.
use Rattle.std.specs.Prelude.{IfSome, IsSomeAnd, List, ℕ, MatchOption, None, Option, Result, Ok, Err, Some}
use Rattle.std.specs.Prelude.{◌≡◌, ◌<◌, ◌+◌, length}
use Rattle.std.specs.Io.BufRead.{DropsThrough, first_piece}
use Rattle.std.specs.Io.Iter.{split_known_bytes, u64_saturate}
use Rattle.std.specs.Io.KnownBytes.{IsAtEnd}
use Rattle.rv_text.specs.Limits.{FitsCall}
use Rattle.rv_text.specs.declared.answer.Reply.{Reply}
use Rattle.rv_text.specs.declared.call.Call.{Call}
use Rattle.rv_text.specs.declared.call.Call.TheVariants.{Put}
use Rattle.rv_text.specs.declared.message.Key.{Key}
use Rattle.rv_client.specs.Link.{Link}
use Rattle.rv_client.specs.Process.{Starting}
use Rattle.rv_commands.specs.Asking.{EndsCall, key_asked}
use Rattle.rv_commands.specs.declared.asking.CallEnd.{CallEnd}
use Rattle.rv_commands.specs.declared.asking.CallEnd.TheVariants as ends
use Rattle.rv_commands.specs.declared.lines.LineEnd.{LineEnd}
use Rattle.rv_commands.specs.declared.lines.LineEnd.TheVariants as line
use Rattle.rv_commands.specs.declared.lines.LinePuts.{LinePuts}
use Rattle.rv_commands.specs.declared.lines.input.LineInput.{LineInput}
use Rattle.rv_commands.specs.declared.open.OpenCall.{OpenCall}

-- the put of the item with these bytes, which wasn't asked
abbrev pub IsNewPut : ℕ → List ℕ → OpenCall → Type 0
IsNewPut queue text put = (put.call ≡ Put queue text) × (put.asked ≡ None)

-- no item that can be put there has these bytes
abbrev pub IsNoPut : ℕ → List ℕ → Type 0
IsNoPut queue text = ¬ FitsCall (Put queue text)

-- the key of the request that is open, if it was asked
abbrev pub key_open : Option OpenCall → Option Key
key_open (Some put) = put.asked
key_open None = None

-- the bytes of the input that no line was read of, where they are known
abbrev pub unread : {B : Type 0} → (B → Option (List ℕ)) → LineInput B → Option (List ℕ)
unread bytes input = split_known_bytes bytes input.pieces

module _ {B : Type 0} (bytes : B → Option (List ℕ)) where
  -- one more line was read: where the input's bytes are known, those before the first LF, or all that are
  -- left
  pub record ReadsOneLine (old new : LineInput B) (Has : List ℕ → Type 0) : Type 0 where
    pub line : IfSome (unread bytes old) (λ left. (0 < length left) × Has (first_piece 10 left))
    pub rest : DropsThrough (unread bytes old) (unread bytes new) 10
    pub count : new.read ≡ u64_saturate (old.read + 1)

  -- the put that was open, of which nothing more was read, or else that of the next line
  abbrev pub IsNextPut : LinePuts B → LinePuts B → OpenCall → Type 0
  IsNextPut old new put = MatchOption old.open_put
      (ReadsOneLine old.input new.input (λ text. IsNewPut old.queue text put))
      (λ before. (put ≡ before) × (new.input ≡ old.input))

  -- none was open, and there is no line, or the next one is no item, or it can't be read
  abbrev pub FindsNoPut : LinePuts B → LinePuts B → LineEnd → Type 0
  FindsNoPut old new line.Over = (old.open_put ≡ None) × IsAtEnd (unread bytes old.input)
  FindsNoPut old new (line.NoItem number) = (old.open_put ≡ None) × (number ≡ new.input.read)
      × ReadsOneLine old.input new.input (IsNoPut old.queue)
  FindsNoPut old new line.ReadFault = old.open_put ≡ None
  FindsNoPut old new _ = ⊥

  -- for a private clause: a put is taken, and none is open then
  abbrev pub TakesOpen : LinePuts B → LinePuts B → Result OpenCall LineEnd → Type 0
  TakesOpen old new (Ok put) = (new.queue ≡ old.queue) × (new.open_put ≡ None) × IsNextPut old new put
  TakesOpen old new (Err end) = (new.queue ≡ old.queue) × (new.open_put ≡ None) × FindsNoPut old new end

-- for a private clause: what the end of a put tells, and whether it stays open
abbrev pub KeepsOpen : OpenCall → CallEnd → Option OpenCall → LineEnd → Type 0
KeepsOpen put (ends.Replied key reply) open_put end =
    (end ≡ line.Settled put.call key reply) × (open_put ≡ None)
KeepsOpen put other open_put end = (end ≡ line.Open other) × (open_put ≡ Some put)

module _ {B R W : Type 0} (bytes : B → Option (List ℕ)) (remaining : R → Option (List ℕ))
    (contents : W → Option (List ℕ)) where
  -- the next put was asked over the link, by its own request if it was asked before, and this came of it
  pub record AsksPut (starting : Starting) (old new : LinePuts B) (before after : Link R W) (put : OpenCall)
      (end : CallEnd) : Type 0 where
    pub is_next : IsNextPut bytes old new put
    pub ended : EndsCall remaining contents starting put.call put.asked before after end

  -- the next put has this reply, and none is open then
  pub record SettlesPut (starting : Starting) (old new : LinePuts B) (before after : Link R W)
      (call : Call) (key : Key) (reply : Reply) : Type 0 where
    pub put : OpenCall
    pub call_is : put.call ≡ call
    pub asks : AsksPut starting old new before after put (ends.Replied key reply)
    pub none_open : new.open_put ≡ None

  -- the next put has no reply, but came to this end, and stays open with its request's key
  pub record LeavesOpen (starting : Starting) (old new : LinePuts B) (before after : Link R W)
      (end : CallEnd) : Type 0 where
    pub put : OpenCall
    pub no_reply : (key : Key) (reply : Reply) → ¬ (end ≡ ends.Replied key reply)
    pub asks : AsksPut starting old new before after put end
    pub stays : IsSomeAnd new.open_put (λ left. (left.call ≡ put.call)
        × (left.asked ≡ key_asked end put.asked))

  -- what came of the next line
  abbrev pub TakesStep : Starting → LinePuts B → LinePuts B → Link R W → Link R W → LineEnd → Type 0
  TakesStep starting old new before after (line.Settled call key reply) =
      SettlesPut starting old new before after call key reply
  TakesStep starting old new before after (line.Open end) = LeavesOpen starting old new before after end
  TakesStep starting old new before after end =
      (after ≡ before) × FindsNoPut bytes old new end × (new.open_put ≡ None)
