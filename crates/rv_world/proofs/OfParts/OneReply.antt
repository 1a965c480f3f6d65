-- Each key has one reply: what an event adds to what was asked, held and answered keeps that.
use Rattle.rv_world.proofs.OfParts.Words.{◌≡◌, ◌⊎◌, ◌∙◌, inl, inr, sym, subst, Key, Call, Reply, Account}
use Rattle.rv_world.proofs.OfParts.Words.{HasReply, World, IsHeld, WasAsked, HasEachKeyOnce, IsAnswered}
use Rattle.rv_world.proofs.OfParts.Words.{OnlyGrows}
use Rattle.rv_book.proofs.Staying.{replies_stay}
use Rattle.rv_account.proofs.OfState.OneTold.{one_reply}
use Rattle.rv_world.specs.parts.Headline.{IsReplyOf, LegalAccounts, NoTwoReplies}
use Rattle.rv_world.proofs.OfParts.Listing.{still_contains}
use Rattle.rv_text.specs.declared.answer.Answer.TheVariants as answers

pub still_asked : (w v : World) (key : Key) (call : Call) → OnlyGrows w v → WasAsked w key call
    → WasAsked v key call
still_asked w v key call grows asked = still_contains w.asked v.asked (key, call) grows.asked asked

pub still_answered : (w v : World) (key : Key) (told : Reply) → OnlyGrows w v → IsAnswered w key told
    → IsAnswered v key told
still_answered w v key told grows answered = (
  answered.0,
  still_contains w.to_client v.to_client
      (record { client = answered.0; answer = answers.Replied key told }) grows.answers answered.1,
)

-- a reply of an account is the reply in the one that extends it
pub still_reply_of : (w v : World) (key : Key) (told : Reply) → OnlyGrows w v → LegalAccounts w
    → LegalAccounts v → IsReplyOf w key told → IsReplyOf v key told
still_reply_of w v key told grows before after is =
    let on = grows.accounts_extended is.account is.is_of.is_there in
    record {
      account = on.account;
      is_of = record { is_there = on.is_there; epoch_is = on.extends.epoch ∙ is.is_of.epoch_is };
      has = (replies_stay is.account on.account key told (before.legal is.account is.is_of.is_there)
          (after.legal on.account on.is_there) on.extends is.has).0;
    }

-- a key has one reply, since its epoch has one account, and that one reply of the key
same_reply : (w : World) (key : Key) (one other : Reply) → LegalAccounts w → IsReplyOf w key one
    → IsReplyOf w key other → one ≡ other
same_reply w key one other legal is also =
    let same : also.account ≡ is.account = legal.one_each also.account is.account also.is_of.is_there
    is.is_of.is_there (also.is_of.epoch_is ∙ sym is.is_of.epoch_is) in
    one_reply is.account key other one (legal.legal is.account is.is_of.is_there)
    (subst (λ (a : Account). HasReply a.entries key other) same also.has) is.has

-- what is new among the answers is the reply of a request that was asked
pub record IsNewReply (w : World) (key : Key) (told : Reply) : Type 0 where
  pub call : Call
  pub asked : WasAsked w key call
  pub is_of : IsReplyOf w key told

-- the parts together: that no key has two replies follows from the others
together : (w : World) → LegalAccounts w → HasEachKeyOnce w.asked → HasEachKeyOnce w.held
    → ((key : Key) (told : Reply) → IsHeld w key told → IsAnswered w key told)
    → ((key : Key) (told : Reply) → IsAnswered w key told → (call : Call) × WasAsked w key call)
    → ((key : Key) (told : Reply) → IsAnswered w key told → IsReplyOf w key told) → NoTwoReplies w
together w legal asked_once held_once held_answered answered_asked answered_is = record {
  asked_once = asked_once;
  held_once = held_once;
  held_answered = held_answered;
  answered_asked = answered_asked;
  answered_is = answered_is;
  one_reply = λ key one other answered also. same_reply w key one other legal (answered_is key one answered)
      (answered_is key other also);
}

pub one_reply_each : (w v : World) → OnlyGrows w v → LegalAccounts w → LegalAccounts v → NoTwoReplies w
    → HasEachKeyOnce v.asked → HasEachKeyOnce v.held
    → ((key : Key) (told : Reply) → IsHeld v key told → IsHeld w key told ⊎ IsAnswered w key told)
    → ((key : Key) (told : Reply) → IsAnswered v key told → IsAnswered w key told ⊎ IsNewReply v key told)
    → NoTwoReplies v
one_reply_each w v grows before after one asked_once held_once holds answers = together v after asked_once
    held_once
    (λ key told held. elim (holds key told held) [
      | inl was ↦ still_answered w v key told grows (one.held_answered key told was)
      | inr answered ↦ still_answered w v key told grows answered
    ])
    (λ key told answered. elim (answers key told answered) [
      | inl was ↦ let asked = one.answered_asked key told was in (
        asked.0,
        still_asked w v key asked.0 grows
            asked.1,
      )
      | inr new ↦ (new.call, new.asked)
    ])
    (λ key told answered. elim (answers key told answered) [
      | inl was ↦ still_reply_of w v key told grows before after (one.answered_is key told was)
      | inr new ↦ new.is_of
    ])
