-- What is kept of a reply stays where more entries follow.
use Rattle.rv_account.proofs.OfState.Words.{◌++◌, ◌∙◌, ◌≡◌, ℕ, List, Option, Some, None, ap, option_and_then}
use Rattle.rv_account.proofs.OfState.Words.{option_map}
use Rattle.rv_account.proofs.OfState.Words.{refl, Reply, item_of, call_read, reads_on}
use Rattle.rv_account.specs.declared.entry.Entry.{Entry}
use Rattle.rv_account.proofs.OfRules.Keys.{key_read}
use Rattle.rv_account.specs.Account.{item_at, key_at, partners_items}
use Rattle.rv_session.specs.declared.kept.Kept.{Kept}
use Rattle.rv_session.specs.declared.kept.Kept.TheVariants as kept
use Rattle.rv_text.specs.declared.answer.Reply.TheVariants as reply
use Rattle.rv_account.proofs.OfState.Filtered.{mapped_there}
use Rattle.rv_book.specs.reply_cache.Keeping.{IsKeptAs, reply_of}
use Rattle.rv_account.proofs.OfState.StayingReplies.{drains_on}

item_on : (es more : List Entry) (place : ℕ) (told_with : List ℕ → Reply) (told : Reply)
    → option_map told_with (item_at es place) ≡ Some told
    → option_map told_with (item_at (es ++ more) place) ≡ Some told
item_on es more place told_with told is =
    let item = mapped_there told_with (item_at es place) told is in
    let there : item_at (es ++ more) place ≡ Some item.0 =
    reads_on (λ o. option_and_then item_of (call_read o)) refl es more place item.0 item.1 in
    ap (option_map told_with) there ∙ ap Some item.2

pub told_on : (es more : List Entry) (k : Kept) (told : Reply) → reply_of es k ≡ Some told
    → reply_of (es ++ more) k ≡ Some told
told_on es more (kept.Item place) told is = item_on es more place reply.Item told is
told_on es more (kept.Peeked place) told is = item_on es more place reply.Peeked told is
told_on es more (kept.Swapped place) told is = item_on es more place reply.Swapped told is
told_on es more (kept.Drained place) told is =
    let items = mapped_there reply.Drained (partners_items es place) told is in
    ap (option_map reply.Drained) (drains_on es more place items.0 items.1) ∙ ap Some items.2
told_on es more (kept.ReceivedBy place) told is =
    let key = mapped_there reply.ReceivedBy (key_at es place) told is in
    let there : key_at (es ++ more) place ≡ Some key.0 =
    reads_on key_read refl es more place key.0 key.1 in
    ap (option_map reply.ReceivedBy) there ∙ ap Some key.2
told_on es more k told is = is

pub kept_on : (es more : List Entry) (k : Option Kept) (told : Option Reply) → IsKeptAs es k told
    → IsKeptAs (es ++ more) k told
kept_on es more (Some k) (Some told) is = told_on es more k told is
kept_on es more None None is = tt
kept_on es more (Some k) None is = absurd is
kept_on es more None (Some told) is = absurd is
