-- A reply that is kept is had by its key, which has one; and the other way round where its request came with
-- that call.
use Rattle.std.specs.Prelude.{◌↔◌}
use Rattle.rv_account.proofs.OfState.Words.{◌≡◌, ◌∙◌, ap, arith, inl, inr, subst, sym, ℕ, Some}
use Rattle.rv_account.proofs.OfState.Words.{Account, Call, Key, Reply, act_at, arrives_once, Legal}
use Rattle.rv_account.specs.declared.entry.Act.TheVariants.{Arrive}
use Rattle.rv_replies.specs.findings.Fates.{GivesReply}
use Rattle.rv_replies.specs.findings.Findings.{IsFinding, IsKeptFinding}
use Rattle.rv_replies.specs.declared.findings.Finding.{Finding}
use Rattle.rv_replies.specs.declared.findings.Told.{Told}
use Rattle.rv_replies.specs.declared.findings.Finding.TheVariants.{Kept, KeptUnseen}
use Rattle.rv_account.specs.rules.Replies.{CancelledFirst, HasReply}
use Rattle.rv_account.proofs.OfState.OneTold.{one_call, one_reply}
use Rattle.rv_replies.specs.findings.Laws.{CameWith, KeptIsTold, OneKept}

pub gives_reply : (a : Account) (key : Key) (call : Call) (reply : Reply)
    → GivesReply a.entries key call reply → HasReply a.entries key reply
gives_reply a key call reply (inl has) = inl has.replies
gives_reply a key call reply (inr first) = inr first

-- the calls of two arrivals with one key are the same
pub came_once : (a : Account) (key : Key) (p q : ℕ) (c d : Call) → Legal a
    → act_at a.entries p ≡ Some (Arrive key c) → act_at a.entries q ≡ Some (Arrive key d) → c ≡ d
came_once a key p q c d legal first second =
    let at = arrives_once a p q key c d legal first second in
    one_call key c d (sym first ∙ ap (act_at a.entries) at ∙ second)

module _ (a : Account) (told : Told) (legal : Legal a) where
  came : IsFinding a told Kept
      ↔ (HasReply a.entries told.key told.reply × CameWith a.entries told.key told.call)
  came = (
    λ kept.
        let its = kept.says.replies in (
          inl its,
          (its.place, its.arrived ∙ ap (λ (c : Call). Some (Arrive told.key c)) kept.says.with_call),
        ),
    λ has. record {
      says = elim has.0 [
        | inl own ↦ record {
          replies = own;
          with_call = came_once a told.key own.place has.1.0 own.call told.call legal own.arrived has.1.1;
        }
        | inr first ↦ absurd (first.0.not_arrived has.1.0 told.call has.1.1)
      ];
      first = λ other less. absurd (omega arith);
    },
  )

  unseen : IsFinding a told KeptUnseen
      ↔ (HasReply a.entries told.key told.reply × CancelledFirst a.entries told.key)
  unseen = (
    λ kept. (inr kept.says, kept.says.0),
    λ has. record {
      says = elim has.0 [
        | inl own ↦ absurd (has.1.not_arrived own.place own.call own.arrived)
        | inr first ↦ first
      ];
      first = λ other less. absurd (omega arith);
    },
  )

pub kept_is_told : KeptIsTold
kept_is_told = record { came = came; unseen = unseen }

told_if : (a : Account) (told : Told) (finding : Finding) → IsFinding a told finding → IsKeptFinding finding
    → HasReply a.entries told.key told.reply
told_if a told finding is (inl kept) =
    let own : IsFinding a told Kept = subst (IsFinding a told) kept is in
    inl own.says.replies
told_if a told finding is (inr unseen) =
    let own : IsFinding a told KeptUnseen = subst (IsFinding a told) unseen is in
    inr own.says

pub one_kept : OneKept
one_kept a told other one also legal is its kept too same =
    one_reply a told.key other.reply told.reply legal
    (subst (λ (k : Key). HasReply a.entries k other.reply) (sym same) (told_if a other also its too))
    (told_if a told one is kept)
