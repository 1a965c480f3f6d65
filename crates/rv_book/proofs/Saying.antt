-- What is said to a message, and what is kept of its reply: the one gives the other.
use Rattle.rv_book.proofs.Words.{◌≡◌, ◌∙◌, List, Option, Some, None, option_map, refl, sym, ap, subst}
use Rattle.rv_book.proofs.Words.{unwrap_or, same_Some, Key, Answer, Reply, Kept, Entry, Account, said_in}
use Rattle.rv_book.proofs.Words.{IsAsKept, Message, reply_of}
use Rattle.std.proofs.Common.{IfSome, IsSome, is_some}
use Rattle.rv_text.specs.declared.answer.Refusal.TheVariants.{NoMemory}
use Rattle.rv_book.specs.declared.verdict.KeptAnswer.{KeptAnswer}
use Rattle.rv_book.specs.declared.verdict.KeptAnswer.TheVariants.{Welcome, Replied, Waiting, Refused}
use Rattle.rv_book.specs.Saying.{answer_of, kept_of, stamp_of}
use Rattle.rv_book.specs.Verdicts.{HasText, ReplyHasText, VerdictView}
use Rattle.rv_book.proofs.Staying.{mapped}
use Rattle.rv_text.specs.declared.answer.Answer.TheVariants as answer

-- what is said to a message is as it is kept
pub said_kept : (entries : List Entry) (said : KeptAnswer) (told : Answer)
    → answer_of entries said ≡ Some told → IsAsKept entries (kept_of said) told
said_kept entries (Welcome epoch client incarnation version) told is = subst (IsAsKept entries None)
    (same_Some _ _ is) tt
said_kept entries (Replied key kept) told is =
    let reply = mapped (answer.Replied key) (reply_of entries kept) told is in
    subst (IsAsKept entries (Some kept)) (same_Some _ _ (sym (ap (option_map (answer.Replied key)) reply.1)
    ∙ is)) reply.1
said_kept entries (Waiting key) told is = subst (IsAsKept entries None) (same_Some _ _ is) tt
said_kept entries (Refused refusal) told is = subst (IsAsKept entries None) (same_Some _ _ is) tt

-- a reply that is kept in the account, where the answer is as it is kept
pub record TellsKept (entries : List Entry) (key : Key) (kept : Kept) (told : Answer) : Type 0 where
  pub reply : Reply
  pub is : reply_of entries kept ≡ Some reply
  pub tells : told ≡ answer.Replied key reply

told_kept : (entries : List Entry) (key : Key) (kept : Kept) (o : Option Reply)
    → IsAsKept entries (Some kept) (unwrap_or (option_map (answer.Replied key) o) (answer.Refused NoMemory))
    → TellsKept entries key kept (unwrap_or (option_map (answer.Replied key) o) (answer.Refused NoMemory))
told_kept entries key kept None is = absurd is
told_kept entries key kept (Some reply) is = record { reply = reply; is = is; tells = refl }

pub tells_kept : (entries : List Entry) (b : Account) (key : Key) (kept : Kept)
    → IsAsKept entries (Some kept) (said_in b (Replied key kept))
    → TellsKept entries key kept (said_in b (Replied key kept))
tells_kept entries b key kept is = told_kept entries key kept (reply_of b.entries kept) is

-- the reply is the one that is kept, in the entries of whoever looks it up
module _ (entries es : List Entry) (same : es ≡ entries) (key : Key) (kept : Kept) (told : Answer)
    (tells : TellsKept entries key kept told) where
  found : reply_of es kept ≡ Some tells.reply
  found = ap (λ (there : List Entry). reply_of there kept) same ∙ tells.is

  pub kept_there : IsSome (reply_of es kept)
  kept_there = ap is_some found

  pub kept_text : IfSome (reply_of es kept) ReplyHasText → HasText told
  kept_text text = subst HasText (sym tells.tells) (subst (λ o. IfSome o ReplyHasText) found text)

  pub kept_told : (reply : Reply) → reply_of es kept ≡ Some reply → answer.Replied key reply ≡ told
  kept_told reply is = ap (answer.Replied key) (same_Some _ _ (sym is ∙ found)) ∙ sym tells.tells

-- what a verdict shows of the answer that it stands for
module _ (m : Message) (a b : Account) (said : KeptAnswer) (v : VerdictView) (stamp : stamp_of m a b said ≡ v)
    (own : KeptAnswer) (is : said ≡ own) where
  pub stamp_says : said_in b own ≡ v.said
  stamp_says = ap (said_in b) (sym is) ∙ ap (λ (x : VerdictView). x.said) stamp

pub stamp_replied : (m : Message) (a b : Account) (said : KeptAnswer) (v : VerdictView)
    → stamp_of m a b said ≡ v → (key : Key) (kept : Kept) → said ≡ Replied key kept → (entries : List Entry)
    → IsAsKept entries v.kept v.said → TellsKept entries key kept v.said
stamp_replied m a b said v stamp key kept is entries says =
    let told = stamp_says m a b said v stamp (Replied key kept) is in
    let keeps : v.kept ≡ Some kept = sym (ap (λ (x : VerdictView). x.kept) stamp) ∙ ap kept_of is in
    subst (TellsKept entries key kept) told (tells_kept entries b key kept
    (subst (λ o. IsAsKept entries o (said_in b (Replied key kept))) keeps
    (subst (IsAsKept entries v.kept) (sym told) says)))
