use Rattle.std.proofs.Common.{ℕ, take, Err, List, append-nil, length, refl, sym, ◌++◌, ◌∙◌, ap, arith}
use Rattle.std.proofs.lemmas.Bool.{eqb-true, false≢true}
use Rattle.std.proofs.lemmas.List.{nil_from_length}
use Rattle.rv_journal.specs.Filled.{file_text}
use Rattle.rv_journal.specs.Text.{before_zero}
use Rattle.rv_journal.proofs.Adding.{at_rest, text_is}
use Rattle.rv_journal.specs.declared.filled.StoreFault.TheVariants as OfStore
use Rattle.rv_journal.proofs.Causes.{add_number, add_why}
use Rattle.rv_journal.proofs.journal.Parts.add.Goals as goal

pub returns-then-self-clause-any_moment : goal.returns-then-self-clause-any_moment
returns-then-self-clause-any_moment g c works = absurd (false≢true (sym works ∙ c.if-self.true))

pub returns-then-not-is_text-clause-any_moment : goal.returns-then-not-is_text-clause-any_moment
returns-then-not-is_text-clause-any_moment g c works told = at_rest g.D.Device.disk c.args.self.now.file
    c.args.piece.now ((c.requires works).filled told)

pub store-requires-clause-ready : goal.store-requires-clause-ready
store-requires-clause-ready g c = c.requires c.if-self.false

pub returns-in-Ok-clause-live : goal.returns-in-Ok-clause-live
returns-in-Ok-clause-live g c _ = c.in-Ok.ensures.ready

pub returns-in-Ok-clause-tells : goal.returns-in-Ok-clause-tells
returns-in-Ok-clause-tells g c = c.store.ensures.adds.tells

pub returns-in-Ok-clause-stored : goal.returns-in-Ok-clause-stored
returns-in-Ok-clause-stored g c = record {
  works = c.if-self.false;
  text = c.in-Ok.ensures.stored;
  durable = λ told f left.
      let is = c.in-Ok.ensures.ready.filled (c.store.ensures.adds.tells ∙ told) in
      ap before_zero (is.durable f left) ∙ text_is g.D.Device.disk c.store.new.self is;
}

pub returns-in-Ok-clause-any_moment : goal.returns-in-Ok-clause-any_moment
returns-in-Ok-clause-any_moment g c _ = c.store.ensures.adds.any_moment

pub returns-in-Err-Full-clause-live : goal.returns-in-Err-Full-clause-live
returns-in-Err-Full-clause-live g c _ = c.in-Err-Full.ensures.goes_on (ap Err c.in-Err-Full.field-0-is)

pub returns-in-Err-Full-clause-tells : goal.returns-in-Err-Full-clause-tells
returns-in-Err-Full-clause-tells g c = c.store.ensures.adds.tells

pub returns-in-Err-Full-clause-kept : goal.returns-in-Err-Full-clause-kept
returns-in-Err-Full-clause-kept g c told =
    ap (λ (n : ℕ). take n (g.D.Device.disk.seen c.store.new.self.device)) c.in-Err-Full.ensures.end
    ∙ c.store.ensures.front told

pub returns-in-Err-Full-clause-any_moment : goal.returns-in-Err-Full-clause-any_moment
returns-in-Err-Full-clause-any_moment g c _ = c.store.ensures.adds.any_moment

pub returns-in-Err-Full-clause-full : goal.returns-in-Err-Full-clause-full
returns-in-Err-Full-clause-full g c _ = c.in-Err-Full.ensures.full (ap Err c.in-Err-Full.field-0-is)

pub returns-in-Err-Device-clause-live : goal.returns-in-Err-Device-clause-live
returns-in-Err-Device-clause-live g c works = absurd (false≢true (sym works))

pub returns-in-Err-Device-clause-tells : goal.returns-in-Err-Device-clause-tells
returns-in-Err-Device-clause-tells g c = c.store.ensures.adds.tells

pub returns-in-Err-Device-clause-kept : goal.returns-in-Err-Device-clause-kept
returns-in-Err-Device-clause-kept g c told =
    ap (λ (n : ℕ). take n (g.D.Device.disk.seen c.store.new.self.device)) c.in-Err-Device.ensures.end
    ∙ c.store.ensures.front told

pub returns-in-Err-Device-clause-any_moment : goal.returns-in-Err-Device-clause-any_moment
returns-in-Err-Device-clause-any_moment g c _ = c.store.ensures.adds.any_moment

pub returns-in-Err-Device-clause-cause : goal.returns-in-Err-Device-clause-cause
returns-in-Err-Device-clause-cause g c is = c.in-Err-Device.ensures.cause (ap Err (c.in-Err-Device.field-0-is
    ∙ ap OfStore.Device (add_why c.in-Err-Device.fault is)))

pub returns-then-not-is_text-clause-not_text : goal.returns-then-not-is_text-clause-not_text
returns-then-not-is_text-clause-not_text g c is all = false≢true (sym c.if-not-is_text.true
    ∙ c.is_text.ensures.1 all)

pub returns-then-self-clause-full : goal.returns-then-self-clause-full
returns-then-self-clause-full g c is = absurd (omega (arith, ap add_number is))

pub returns-then-self-clause-not_text : goal.returns-then-self-clause-not_text
returns-then-self-clause-not_text g c is = absurd (omega (arith, ap add_number is))

pub returns-then-self-clause-cause : goal.returns-then-self-clause-cause
returns-then-self-clause-cause g c is = absurd (omega (arith, ap add_number is))

pub returns-then-not-is_text-clause-full : goal.returns-then-not-is_text-clause-full
returns-then-not-is_text-clause-full g c is = absurd (omega (arith, ap add_number is))

pub returns-then-not-is_text-clause-cause : goal.returns-then-not-is_text-clause-cause
returns-then-not-is_text-clause-cause g c is = absurd (omega (arith, ap add_number is))

pub returns-in-Err-Full-clause-not_text : goal.returns-in-Err-Full-clause-not_text
returns-in-Err-Full-clause-not_text g c is = absurd (omega (arith, ap add_number is))

pub returns-in-Err-Full-clause-cause : goal.returns-in-Err-Full-clause-cause
returns-in-Err-Full-clause-cause g c is = absurd (omega (arith, ap add_number is))

pub returns-in-Err-Device-clause-full : goal.returns-in-Err-Device-clause-full
returns-in-Err-Device-clause-full g c is = absurd (omega (arith, ap add_number is))

pub returns-in-Err-Device-clause-not_text : goal.returns-in-Err-Device-clause-not_text
returns-in-Err-Device-clause-not_text g c is = absurd (omega (arith, ap add_number is))

pub returns-then-self-clause-refused : goal.returns-then-self-clause-refused
returns-then-self-clause-refused g c = (λ _. c.if-self.true, λ _. refl)

pub returns-then-not-is_text-clause-refused : goal.returns-then-not-is_text-clause-refused
returns-then-not-is_text-clause-refused g c = (
  λ is. absurd (omega (arith, ap add_number is)),
  λ failed. absurd (false≢true (sym c.if-self.false ∙ failed)),
)

pub returns-in-Ok-clause-refused : goal.returns-in-Ok-clause-refused
returns-in-Ok-clause-refused g c = (
  λ is. absurd (omega (arith, ap add_number is)),
  λ failed. absurd (false≢true (sym c.if-self.false ∙ failed)),
)

pub returns-in-Err-Full-clause-refused : goal.returns-in-Err-Full-clause-refused
returns-in-Err-Full-clause-refused g c = (
  λ is. absurd (omega (arith, ap add_number is)),
  λ failed. absurd (false≢true (sym c.if-self.false ∙ failed)),
)

pub returns-in-Err-Device-clause-refused : goal.returns-in-Err-Device-clause-refused
returns-in-Err-Device-clause-refused g c = (
  λ is. absurd (omega (arith, ap add_number is)),
  λ failed. absurd (false≢true (sym c.if-self.false ∙ failed)),
)

pub returns-then-not-is_text-clause-same : goal.returns-then-not-is_text-clause-same
returns-then-not-is_text-clause-same g c failed = absurd (false≢true (sym c.if-self.false ∙ failed))

pub returns-in-Ok-clause-same : goal.returns-in-Ok-clause-same
returns-in-Ok-clause-same g c failed = absurd (false≢true (sym c.if-self.false ∙ failed))

pub returns-in-Err-Full-clause-same : goal.returns-in-Err-Full-clause-same
returns-in-Err-Full-clause-same g c failed = absurd (false≢true (sym c.if-self.false ∙ failed))

pub returns-in-Err-Device-clause-same : goal.returns-in-Err-Device-clause-same
returns-in-Err-Device-clause-same g c failed = absurd (false≢true (sym c.if-self.false ∙ failed))

pub returns-then-is_empty-clause-stored : goal.returns-then-is_empty-clause-stored
returns-then-is_empty-clause-stored g c = record {
  works = c.if-self.false;
  text = λ told. sym (append-nil (file_text g.D.Device.disk c.args.self.now.file))
      ∙ ap (λ (l : List ℕ). file_text g.D.Device.disk c.args.self.now.file ++ l)
      (sym (nil_from_length c.args.piece.now (eqb-true (length c.args.piece.now) 0
      (sym c.is_empty.ensures ∙ c.if-is_empty.true))));
  durable = λ told f left.
      let is = (c.requires c.if-self.false).filled told in
      ap before_zero (is.durable f left) ∙ text_is g.D.Device.disk c.args.self.now.file is;
}

pub returns-then-is_empty-clause-any_moment : goal.returns-then-is_empty-clause-any_moment
returns-then-is_empty-clause-any_moment g c works told = at_rest g.D.Device.disk c.args.self.now.file
    c.args.piece.now ((c.requires works).filled told)

pub returns-then-is_empty-clause-refused : goal.returns-then-is_empty-clause-refused
returns-then-is_empty-clause-refused g c = (
  λ is. absurd (omega (arith, ap add_number is)),
  λ failed. absurd (false≢true (sym c.if-self.false ∙ failed)),
)

pub returns-then-is_empty-clause-same : goal.returns-then-is_empty-clause-same
returns-then-is_empty-clause-same g c failed = absurd (false≢true (sym c.if-self.false ∙ failed))
