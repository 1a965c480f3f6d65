-- An answer has one outcome, and keys keep their limits.
use Rattle.std.proofs.Common.{◌≡◌, ◌∙◌, Option, sym, ap}
use Rattle.rv_text.specs.declared.answer.Answer.{Answer}
use Rattle.rv_text.specs.declared.message.Key.{Key}
use Rattle.rv_client.specs.Laws.{OneOutcome}
use Rattle.rv_client.specs.Process.{Asking, Hears, Outcome, Starting, New, Idle, Outstanding}
use Rattle.rv_client.specs.Process.{Welcomed, TurnedAway, Settled, EpochEnded, Replaced, Ignored}

one_new : (starting : Starting) (answer : Answer) (a b : Outcome) → Hears (New starting) answer a
    → Hears (New starting) answer b → a ≡ b
one_new starting answer (Welcomed a) (Welcomed b) p q =
    let p1 = p.1 in let p2 = p.2 in let q1 = q.1 in let q2 = q.2 in cc
one_new starting answer (Welcomed a) (TurnedAway s r) p q = absurd (let p1 = p.1 in let q0 = q.0 in cc)
one_new starting answer (Welcomed a) (Ignored s) p q = absurd (q.0.no_welcome p.0 p.1)
one_new starting answer (TurnedAway s r) (Welcomed b) p q = absurd (let q1 = q.1 in let p0 = p.0 in cc)
one_new starting answer (TurnedAway s r) (TurnedAway s' r') p q =
    let p0 = p.0 in let p1 = p.1 in let q0 = q.0 in let q1 = q.1 in cc
one_new starting answer (TurnedAway s r) (Ignored s') p q = absurd (q.0.no_refusal r p.0)
one_new starting answer (Ignored s) (Welcomed b) p q = absurd (p.0.no_welcome q.0 q.1)
one_new starting answer (Ignored s) (TurnedAway s' r) p q = absurd (p.0.no_refusal r q.0)
one_new starting answer (Ignored s) (Ignored s') p q = ap Ignored (p.1 ∙ sym q.1)
one_new starting answer (Settled n r) b p q = absurd p
one_new starting answer (EpochEnded k c) b p q = absurd p
one_new starting answer (Replaced k c) b p q = absurd p
one_new starting answer a (Settled n r) p q = absurd q
one_new starting answer a (EpochEnded k c) p q = absurd q
one_new starting answer a (Replaced k c) p q = absurd q

one_outstanding : (asking : Asking) (answer : Answer) (a b : Outcome) → Hears (Outstanding asking) answer a
    → Hears (Outstanding asking) answer b → a ≡ b
one_outstanding asking answer (Settled n r) (Settled n' r') p q =
    let p0 = p.0 in let p1 = p.1 in let q0 = q.0 in let q1 = q.1 in cc
one_outstanding asking answer (Settled n r) (EpochEnded k c) p q = absurd (let p0 = p.0 in let q0 = q.0.0 in
    cc)
one_outstanding asking answer (Settled n r) (Replaced k c) p q = absurd (let p0 = p.0 in let q0 = q.0.0 in cc)
one_outstanding asking answer (Settled n r) (Ignored s) p q = absurd (q.0.no_reply r p.0)
one_outstanding asking answer (EpochEnded k c) (Settled n r) p q = absurd (let q0 = q.0 in let p0 = p.0.0 in
    cc)
one_outstanding asking answer (EpochEnded k c) (EpochEnded k' c') p q =
    let p0 = p.0.0 in let p1 = p.1 in let q0 = q.0.0 in let q1 = q.1 in cc
one_outstanding asking answer (EpochEnded k c) (Replaced k' c') p q = absurd (let p0 = p.0.0 in let q0 =
    q.0.0 in cc)
one_outstanding asking answer (EpochEnded k c) (Ignored s) p q = absurd (q.0.no_epoch c p.0)
one_outstanding asking answer (Replaced k c) (Settled n r) p q = absurd (let q0 = q.0 in let p0 = p.0.0 in cc)
one_outstanding asking answer (Replaced k c) (EpochEnded k' c') p q = absurd (let p0 = p.0.0 in let q0 =
    q.0.0 in cc)
one_outstanding asking answer (Replaced k c) (Replaced k' c') p q =
    let p0 = p.0.0 in let p1 = p.1 in let q0 = q.0.0 in let q1 = q.1 in cc
one_outstanding asking answer (Replaced k c) (Ignored s) p q = absurd (q.0.no_incarnation c p.0)
one_outstanding asking answer (Ignored s) (Settled n r) p q = absurd (p.0.no_reply r q.0)
one_outstanding asking answer (Ignored s) (EpochEnded k c) p q = absurd (p.0.no_epoch c q.0)
one_outstanding asking answer (Ignored s) (Replaced k c) p q = absurd (p.0.no_incarnation c q.0)
one_outstanding asking answer (Ignored s) (Ignored s') p q = ap Ignored (p.1 ∙ sym q.1)
one_outstanding asking answer (Welcomed n) b p q = absurd p
one_outstanding asking answer (TurnedAway s r) b p q = absurd p
one_outstanding asking answer a (Welcomed n) p q = absurd q
one_outstanding asking answer a (TurnedAway s r) p q = absurd q

one_idle : (next : Option Key) (answer : Answer) (a b : Outcome) → Hears (Idle next) answer a
    → Hears (Idle next) answer b → a ≡ b
one_idle next answer (Ignored s) (Ignored s') p q = ap Ignored (p ∙ sym q)
one_idle next answer (Ignored s) b p q = absurd q
one_idle next answer a b p q = absurd p

pub one_outcome : OneOutcome
one_outcome (New starting) answer a b p q = one_new starting answer a b p q
one_outcome (Idle next) answer a b p q = one_idle next answer a b p q
one_outcome (Outstanding asking) answer a b p q = one_outstanding asking answer a b p q
