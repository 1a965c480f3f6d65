-- What became of a request decides what its account says of a reply.
use Rattle.rv_account.proofs.OfState.Words.{◌≡◌, ◌∙◌, Some, ap, arith, inl, inr, option_and_then, refl}
use Rattle.rv_account.proofs.OfState.Words.{subst, sym, ℕ}
use Rattle.rv_account.proofs.OfState.Words.{Account, act_at, key_in, arrives_once, Legal, Call}
use Rattle.rv_account.specs.declared.entry.Act.TheVariants.{Arrive}
use Rattle.rv_account.specs.state.Agreement.{HasReplied}
use Rattle.rv_replies.specs.findings.Fates.{GivesReply, IsFateOf}
use Rattle.rv_replies.specs.declared.findings.fate.Fate.{Fate}
use Rattle.std.specs.Prelude.{◌<◌}
use Rattle.rv_account.proofs.OfState.OneTold.{one_call, one_reply, reply_or_waits}
use Rattle.rv_replies.proofs.OfFindings.KeptTold.{gives_reply}
use Rattle.rv_replies.specs.findings.Judging.{SaidInstead, TellsSame, kept_by}
use Rattle.rv_replies.specs.findings.Findings.{CameOtherwise, IsFinding, MayBeTold, IsSaid, order_of}
use Rattle.rv_replies.specs.declared.findings.fate.Fate.TheVariants.{CancelledUnseen, RepliedTo, Unnamed}
use Rattle.rv_replies.specs.declared.findings.fate.Fate.TheVariants.{Waits}
use Rattle.rv_replies.specs.declared.findings.Told.{Told}
use Rattle.rv_replies.specs.declared.findings.Finding.{Finding}
use Rattle.rv_replies.specs.declared.findings.Finding.TheVariants.{Impossible, Kept, KeptUnseen, NoRecord}
use Rattle.rv_replies.specs.declared.findings.Finding.TheVariants.{NoRequest, OtherCall, OtherEpoch}
use Rattle.rv_replies.specs.declared.findings.Finding.TheVariants.{OtherReply, Waiting}

module _ (a : Account) (told : Told) (legal : Legal a) where
  -- a reply that the account gives is what became of the request
  gives_same : (fate : Fate) → IsFateOf a.entries told.key fate
      → GivesReply a.entries told.key told.call told.reply → TellsSame told fate
  gives_same Unnamed none (inl has) =
      none has.replies.place (ap (option_and_then key_in) has.replies.arrived)
  gives_same Unnamed none (inr first) = none first.0.place (ap (option_and_then key_in) first.0.cancelled)
  gives_same (Waits call) waits gives =
      reply_or_waits a told.key told.reply legal (gives_reply a told.key told.call told.reply gives) (record {
        place = waits.0;
        call = call;
        arrived = waits.1.arrived;
        waits = waits.1.waits;
      })
  gives_same (RepliedTo call reply) is (inl has) =
      let at = arrives_once a is.replies.place has.replies.place told.key is.replies.call has.replies.call
      legal
      is.replies.arrived has.replies.arrived in
      let same : is.replies.call ≡ has.replies.call =
      one_call told.key is.replies.call has.replies.call
      (sym is.replies.arrived ∙ ap (act_at a.entries) at ∙ has.replies.arrived) in (
        sym is.with_call ∙ same ∙ has.with_call,
        one_reply a told.key told.reply reply legal (inl has.replies) (inl is.replies),
      )
  gives_same (RepliedTo call reply) is (inr first) =
      absurd (first.0.not_arrived is.replies.place is.replies.call is.replies.arrived)
  gives_same CancelledUnseen is (inl has) =
      absurd (is.not_arrived has.replies.place has.replies.call has.replies.arrived)
  gives_same CancelledUnseen is (inr first) = first.1

  same_says : (fate : Fate) → IsFateOf a.entries told.key fate → TellsSame told fate
      → IsSaid a told (kept_by fate) × (order_of (kept_by fate) ≡ 0)
  same_says Unnamed is same = absurd same
  same_says (Waits call) is same = absurd same
  same_says (RepliedTo call reply) is same = (
    subst (λ c. HasReplied a.entries told.key c told.reply) same.0
        (subst (λ r. HasReplied a.entries told.key call r) same.1 is),
    refl,
  )
  same_says CancelledUnseen is same = ((is, same), refl)

  -- what is said where the account doesn't give it
  abbrev IsSaidLast : Finding → Type 0
  IsSaidLast finding = IsSaid a told finding × (order_of finding ≡ 3)

  came_otherwise : (place : ℕ) (call : Call) → act_at a.entries place ≡ Some (Arrive told.key call)
      → (call ≡ told.call → ⊥) → CameOtherwise a.entries told.key told.call
  came_otherwise place call came differs =
      record { place = place; other = call; came = came; differs = differs }

  instead_says : (fate : Fate) (finding : Finding) → IsFateOf a.entries told.key fate
      → (TellsSame told fate → ⊥) → SaidInstead told fate finding → IsSaidLast finding
  instead_says Unnamed finding is other says = subst IsSaidLast (sym says) (is, refl)
  instead_says (Waits call) finding is other (inl same) =
      subst IsSaidLast (sym same.1)
      (subst (λ c. IsSaid a (record told { call = c }) Waiting) same.0 is, refl)
  instead_says (Waits call) finding is other (inr differs) =
      subst IsSaidLast (sym differs.1) (came_otherwise is.0 call is.1.arrived differs.0, refl)
  instead_says (RepliedTo call reply) finding is other (inl same) =
      subst IsSaidLast (sym same.1) (
        record {
          other = reply;
          gives = inl (subst (λ c. HasReplied a.entries told.key c reply) same.0 is);
          differs = λ alike. other (same.0, alike);
        },
        refl,
      )
  instead_says (RepliedTo call reply) finding is other (inr differs) =
      let came : act_at a.entries is.replies.place ≡ Some (Arrive told.key call) =
      is.replies.arrived ∙ ap (λ c. Some (Arrive told.key c)) is.with_call in
      subst IsSaidLast (sym differs.1) (came_otherwise is.replies.place call came differs.0, refl)
  instead_says CancelledUnseen finding is other says =
      subst IsSaidLast (sym says) (
        record {
          other = _;
          gives = inr (is, refl);
          differs = λ alike. other (sym alike);
        },
        refl,
      )

  -- ---- the findings

  module _ (fate : Fate) (is : IsFateOf a.entries told.key fate) where
    pub kept : TellsSame told fate → IsFinding a told (kept_by fate)
    kept same =
        let says = same_says fate is same in
        record { says = says.0; first = λ other less. absurd (omega (arith, less, says.1)) }

    pub of_other_epoch : (TellsSame told fate → ⊥) → (told.key.epoch ≡ a.epoch → ⊥)
        → IsFinding a told OtherEpoch
    of_other_epoch other differs = record { says = differs; first = first }
      where
        first : (v : Finding) → order_of v < 1 → IsSaid a told v → ⊥
        first Kept less has = other (gives_same fate is (inl has))
        first KeptUnseen less unseen = other (gives_same fate is (inr unseen))
        first OtherEpoch less says = absurd (omega arith)
        first Impossible less says = absurd (omega arith)
        first OtherReply less says = absurd (omega arith)
        first OtherCall less says = absurd (omega arith)
        first Waiting less says = absurd (omega arith)
        first NoRequest less says = absurd (omega arith)
        first NoRecord less says = says

    pub impossible : (TellsSame told fate → ⊥) → told.key.epoch ≡ a.epoch
        → (MayBeTold told.call told.reply → ⊥) → IsFinding a told Impossible
    impossible other same never = record { says = never; first = first }
      where
        first : (v : Finding) → order_of v < 2 → IsSaid a told v → ⊥
        first Kept less has = other (gives_same fate is (inl has))
        first KeptUnseen less unseen = other (gives_same fate is (inr unseen))
        first OtherEpoch less says = says same
        first Impossible less says = absurd (omega arith)
        first OtherReply less says = absurd (omega arith)
        first OtherCall less says = absurd (omega arith)
        first Waiting less says = absurd (omega arith)
        first NoRequest less says = absurd (omega arith)
        first NoRecord less says = says

    pub is_instead : (finding : Finding) → (TellsSame told fate → ⊥) → told.key.epoch ≡ a.epoch
        → MayBeTold told.call told.reply → SaidInstead told fate finding → IsFinding a told finding
    is_instead finding other same may says = record { says = last.0; first = first }
      where
        last : IsSaidLast finding
        last = instead_says fate finding is other says

        rank : order_of finding ≡ 3
        rank = last.1

        first : (v : Finding) → order_of v < order_of finding → IsSaid a told v → ⊥
        first Kept less has = other (gives_same fate is (inl has))
        first KeptUnseen less unseen = other (gives_same fate is (inr unseen))
        first OtherEpoch less says = says same
        first Impossible less never = never may
        first OtherReply less says = absurd (omega (arith, rank))
        first OtherCall less says = absurd (omega (arith, rank))
        first Waiting less says = absurd (omega (arith, rank))
        first NoRequest less says = absurd (omega (arith, rank))
        first NoRecord less says = says
