-- A reply whose text, texts or consumer stand at a place is had again from that place.
use Rattle.rv_account.proofs.OfState.Words.{◌≡◌, ℕ, List, Some, option_map, refl, ap, Reply}
use Rattle.rv_account.proofs.OfState.Words.{LastRequest}
use Rattle.rv_account.specs.declared.entry.Entry.{Entry}
use Rattle.rv_account.specs.Account.{item_at, key_at, partners_items}
use Rattle.rv_account.specs.state.Moves.{told_again}
use Rattle.rv_text.specs.declared.answer.Reply.TheVariants as reply
use Rattle.rv_book.specs.reply_cache.Keeping.{IsKeptAs, kept_again, kept_from, reply_of}

-- the text, the texts or the consumer of the reply stand at the place
abbrev pub HasTextAt : List Entry → ℕ → Reply → Type 0
HasTextAt es place reply.Done = Unit {0}
HasTextAt es place reply.Received = Unit {0}
HasTextAt es place (reply.ReceivedBy key) = key_at es place ≡ Some key
HasTextAt es place reply.Nobody = Unit {0}
HasTextAt es place (reply.Item text) = item_at es place ≡ Some text
HasTextAt es place reply.Empty = Unit {0}
HasTextAt es place (reply.Swapped text) = item_at es place ≡ Some text
HasTextAt es place reply.Cancelled = Unit {0}
HasTextAt es place reply.TimedOut = Unit {0}
HasTextAt es place (reply.Counted items consumers) = Unit {0}
HasTextAt es place (reply.Peeked text) = item_at es place ≡ Some text
HasTextAt es place (reply.Drained texts) = partners_items es place ≡ Some texts

pub had_again : (es : List Entry) (place : ℕ) (told : Reply) → HasTextAt es place told
    → reply_of es (kept_from place told) ≡ Some told
had_again es place reply.Done has = refl
had_again es place reply.Received has = refl
had_again es place (reply.ReceivedBy key) has = ap (option_map reply.ReceivedBy) has
had_again es place reply.Nobody has = refl
had_again es place (reply.Item text) has = ap (option_map reply.Item) has
had_again es place reply.Empty has = refl
had_again es place (reply.Swapped text) has = ap (option_map reply.Swapped) has
had_again es place reply.Cancelled has = refl
had_again es place reply.TimedOut has = refl
had_again es place (reply.Counted items consumers) has = refl
had_again es place (reply.Peeked text) has = ap (option_map reply.Peeked) has
had_again es place (reply.Drained texts) has = ap (option_map reply.Drained) has

-- what is kept, by this place, of what a request is told again is that
abbrev pub KeepsAt : List Entry → ℕ → LastRequest → Type 0
KeepsAt es place request = IsKeptAs es (kept_again place request) (told_again request)
