-- One finding alone is told: of those that come last no two are so at once.
use Rattle.std.proofs.lemmas.Bool.{cases_order}
use Rattle.rv_account.proofs.OfState.Words.{◌≡◌, ◌∙◌, ap, arith, inl, inr, option_and_then, refl}
use Rattle.rv_account.proofs.OfState.Words.{Account, key_in, Legal}
use Rattle.rv_account.proofs.OfState.OneTold.{reply_or_waits}
use Rattle.rv_replies.specs.findings.Fates.{NamesNowhere, WaitsWith}
use Rattle.rv_replies.specs.findings.Findings.{CameOtherwise, GivesOther, IsSaid, order_of}
use Rattle.rv_replies.specs.findings.Laws.{OneFinding}
use Rattle.rv_replies.specs.declared.findings.Told.{Told}
use Rattle.rv_replies.specs.declared.findings.Finding.{Finding}
use Rattle.rv_replies.specs.declared.findings.Finding.TheVariants.{Impossible, Kept, KeptUnseen, NoRecord}
use Rattle.rv_replies.specs.declared.findings.Finding.TheVariants.{NoRequest, OtherCall, OtherEpoch}
use Rattle.rv_replies.specs.declared.findings.Finding.TheVariants.{OtherReply, Waiting}
use Rattle.rv_replies.proofs.OfFindings.KeptTold.{came_once, gives_reply}

module _ (a : Account) (told : Told) (legal : Legal a) where
  -- ---- no two of the last

  reply_call : GivesOther a.entries told.key told.call told.reply
      → CameOtherwise a.entries told.key told.call → ⊥
  reply_call gives came = elim gives.gives [
    | inl has ↦ came.differs (came_once a told.key came.place has.replies.place came.other has.replies.call
        legal came.came has.replies.arrived ∙ has.with_call)
    | inr first ↦ first.0.not_arrived came.place came.other came.came
  ]

  reply_waits : GivesOther a.entries told.key told.call told.reply
      → WaitsWith a.entries told.key told.call → ⊥
  reply_waits gives waits =
      reply_or_waits a told.key gives.other legal
      (gives_reply a told.key told.call gives.other gives.gives) (record {
        place = waits.0;
        call = told.call;
        arrived = waits.1.arrived;
        waits = waits.1.waits;
      })

  reply_nowhere : GivesOther a.entries told.key told.call told.reply → NamesNowhere a.entries told.key → ⊥
  reply_nowhere gives none = elim gives.gives [
    | inl has ↦ none has.replies.place (ap (option_and_then key_in) has.replies.arrived)
    | inr first ↦ none first.0.place (ap (option_and_then key_in) first.0.cancelled)
  ]

  call_waits : CameOtherwise a.entries told.key told.call → WaitsWith a.entries told.key told.call → ⊥
  call_waits came waits =
      came.differs (came_once a told.key came.place waits.0 came.other told.call legal came.came
      waits.1.arrived)

  call_nowhere : CameOtherwise a.entries told.key told.call → NamesNowhere a.entries told.key → ⊥
  call_nowhere came none = none came.place (ap (option_and_then key_in) came.came)

  waits_nowhere : WaitsWith a.entries told.key told.call → NamesNowhere a.entries told.key → ⊥
  waits_nowhere waits none = none waits.0 (ap (option_and_then key_in) waits.1.arrived)

  -- ---- by the second finding

  by_reply : GivesOther a.entries told.key told.call told.reply → (y : Finding) → order_of y ≡ 3
      → IsSaid a told y → OtherReply ≡ y
  by_reply gives Kept last says = absurd (omega (arith, last))
  by_reply gives KeptUnseen last says = absurd (omega (arith, last))
  by_reply gives OtherEpoch last says = absurd (omega (arith, last))
  by_reply gives Impossible last says = absurd (omega (arith, last))
  by_reply gives OtherReply last says = refl
  by_reply gives OtherCall last says = absurd (reply_call gives says)
  by_reply gives Waiting last says = absurd (reply_waits gives says)
  by_reply gives NoRequest last says = absurd (reply_nowhere gives says)
  by_reply gives NoRecord last says = absurd says

  by_call : CameOtherwise a.entries told.key told.call → (y : Finding) → order_of y ≡ 3 → IsSaid a told y
      → OtherCall ≡ y
  by_call came Kept last says = absurd (omega (arith, last))
  by_call came KeptUnseen last says = absurd (omega (arith, last))
  by_call came OtherEpoch last says = absurd (omega (arith, last))
  by_call came Impossible last says = absurd (omega (arith, last))
  by_call came OtherReply last says = absurd (reply_call says came)
  by_call came OtherCall last says = refl
  by_call came Waiting last says = absurd (call_waits came says)
  by_call came NoRequest last says = absurd (call_nowhere came says)
  by_call came NoRecord last says = absurd says

  by_waiting : WaitsWith a.entries told.key told.call → (y : Finding) → order_of y ≡ 3 → IsSaid a told y
      → Waiting ≡ y
  by_waiting waits Kept last says = absurd (omega (arith, last))
  by_waiting waits KeptUnseen last says = absurd (omega (arith, last))
  by_waiting waits OtherEpoch last says = absurd (omega (arith, last))
  by_waiting waits Impossible last says = absurd (omega (arith, last))
  by_waiting waits OtherReply last says = absurd (reply_waits says waits)
  by_waiting waits OtherCall last says = absurd (call_waits says waits)
  by_waiting waits Waiting last says = refl
  by_waiting waits NoRequest last says = absurd (waits_nowhere waits says)
  by_waiting waits NoRecord last says = absurd says

  by_nowhere : NamesNowhere a.entries told.key → (y : Finding) → order_of y ≡ 3 → IsSaid a told y
      → NoRequest ≡ y
  by_nowhere none Kept last says = absurd (omega (arith, last))
  by_nowhere none KeptUnseen last says = absurd (omega (arith, last))
  by_nowhere none OtherEpoch last says = absurd (omega (arith, last))
  by_nowhere none Impossible last says = absurd (omega (arith, last))
  by_nowhere none OtherReply last says = absurd (reply_nowhere says none)
  by_nowhere none OtherCall last says = absurd (call_nowhere says none)
  by_nowhere none Waiting last says = absurd (waits_nowhere says none)
  by_nowhere none NoRequest last says = refl
  by_nowhere none NoRecord last says = absurd says

  -- ---- by both

  -- a request that came wasn't cancelled before
  came_unseen : IsSaid a told Kept → IsSaid a told KeptUnseen → ⊥
  came_unseen came unseen =
      unseen.0.not_arrived came.replies.place came.replies.call came.replies.arrived

  by_kept : IsSaid a told Kept → (y : Finding) → order_of y ≡ 0 → IsSaid a told y → Kept ≡ y
  by_kept came Kept first says = refl
  by_kept came KeptUnseen first says = absurd (came_unseen came says)
  by_kept came OtherEpoch first says = absurd (omega (arith, first))
  by_kept came Impossible first says = absurd (omega (arith, first))
  by_kept came OtherReply first says = absurd (omega (arith, first))
  by_kept came OtherCall first says = absurd (omega (arith, first))
  by_kept came Waiting first says = absurd (omega (arith, first))
  by_kept came NoRequest first says = absurd (omega (arith, first))
  by_kept came NoRecord first says = absurd says

  by_unseen : IsSaid a told KeptUnseen → (y : Finding) → order_of y ≡ 0 → IsSaid a told y → KeptUnseen ≡ y
  by_unseen unseen Kept first says = absurd (came_unseen says unseen)
  by_unseen unseen KeptUnseen first says = refl
  by_unseen unseen OtherEpoch first says = absurd (omega (arith, first))
  by_unseen unseen Impossible first says = absurd (omega (arith, first))
  by_unseen unseen OtherReply first says = absurd (omega (arith, first))
  by_unseen unseen OtherCall first says = absurd (omega (arith, first))
  by_unseen unseen Waiting first says = absurd (omega (arith, first))
  by_unseen unseen NoRequest first says = absurd (omega (arith, first))
  by_unseen unseen NoRecord first says = absurd says

  at_one : (y : Finding) → order_of y ≡ 1 → OtherEpoch ≡ y
  at_one Kept is = absurd (omega (arith, is))
  at_one KeptUnseen is = absurd (omega (arith, is))
  at_one OtherEpoch is = refl
  at_one Impossible is = absurd (omega (arith, is))
  at_one OtherReply is = absurd (omega (arith, is))
  at_one OtherCall is = absurd (omega (arith, is))
  at_one Waiting is = absurd (omega (arith, is))
  at_one NoRequest is = absurd (omega (arith, is))
  at_one NoRecord is = absurd (omega (arith, is))

  at_two : (y : Finding) → order_of y ≡ 2 → Impossible ≡ y
  at_two Kept is = absurd (omega (arith, is))
  at_two KeptUnseen is = absurd (omega (arith, is))
  at_two OtherEpoch is = absurd (omega (arith, is))
  at_two Impossible is = refl
  at_two OtherReply is = absurd (omega (arith, is))
  at_two OtherCall is = absurd (omega (arith, is))
  at_two Waiting is = absurd (omega (arith, is))
  at_two NoRequest is = absurd (omega (arith, is))
  at_two NoRecord is = absurd (omega (arith, is))

  same_order : (x y : Finding) → IsSaid a told x → IsSaid a told y → order_of y ≡ order_of x → x ≡ y
  same_order Kept y one other same = by_kept one y same other
  same_order KeptUnseen y one other same = by_unseen one y same other
  same_order OtherEpoch y one other same = at_one y same
  same_order Impossible y one other same = at_two y same
  same_order OtherReply y one other same = by_reply one y same other
  same_order OtherCall y one other same = by_call one y same other
  same_order Waiting y one other same = by_waiting one y same other
  same_order NoRequest y one other same = by_nowhere one y same other
  same_order NoRecord y one other same = absurd one

pub one_finding : OneFinding
one_finding a told x y legal one other = elim (cases_order (order_of y) (order_of x)) [
  | inl same ↦ same_order a told legal x y one.says other.says same
  | inr differ ↦ elim differ [
    | inl less ↦ absurd (one.first y less other.says)
    | inr more ↦ absurd (other.first x more one.says)
  ]
]
