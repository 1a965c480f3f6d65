use Rattle.std.proofs.Common.{List, ℕ, ◌≡◌, ◌+◌, length, refl, sym, ◌∙◌, ap, arith}
use Rattle.rv_journal.specs.Filled.{ahead}
use Rattle.rv_journal.proofs.Filling.{filled_after, only_filled}
use Rattle.rv_journal.proofs.Zeros.{zeros_same}
use Rattle.rv_journal.proofs.filled.FilledFile.fill.Goals as goal

pub rewrite-requires : goal.rewrite-requires
rewrite-requires g c = record {
  within = λ told. let is = c.requires.ready.filled told in omega (arith, is.filled);
}

pub returns-in_err-rewrite-clause-text : goal.returns-in_err-rewrite-clause-text
returns-in_err-rewrite-clause-text g c = only_filled g.D.Device.disk c.args.self.now _ c.requires.ready
    c.deref.result.now (zeros_same c.deref.result.now _ c.deref.ensures.value c.requires.ready.zeros) refl
    c.rewrite.ensures.rewrites

pub returns-clause-text : goal.returns-clause-text
returns-clause-text g c = only_filled g.D.Device.disk c.args.self.now _ c.requires.ready
    c.deref.result.now (zeros_same c.deref.result.now _ c.deref.ensures.value c.requires.ready.zeros) refl
    c.rewrite.ensures.rewrites

length_is : (zeros vec : List ℕ) (added count size : ℕ) → zeros ≡ vec → length zeros ≡ count → added ≡ count
    → length vec ≡ size → added ≡ size
length_is zeros vec added count size same counted added_is sized = added_is ∙ sym counted ∙ ap length same
    ∙ sized

pub returns-clause-filled : goal.returns-clause-filled
returns-clause-filled g c =
    ap (λ (n : ℕ). c.args.self.now.filled + n) (length_is c.deref.result.now c.args.self.now.zeros.items _ _
    ahead c.deref.ensures.value c.deref.ensures.len c.len.ensures c.requires.ready.size)

pub returns-clause-ready : goal.returns-clause-ready
returns-clause-ready g c = record {
  zeros = c.requires.ready.zeros;
  size = c.requires.ready.size;
  behind = omega (arith, c.requires.ready.behind);
  filled = λ told_last.
      let told = sym c.rewrite.ensures.rewrites.tells ∙ told_last in
      let more = c.len.ensures ∙ sym c.deref.ensures.len in
      filled_after g.D.Device.disk c.args.self.now (c.requires.ready.filled told) c.requires.ready.behind
      c.deref.result.now (zeros_same c.deref.result.now _ c.deref.ensures.value c.requires.ready.zeros)
      c.rewrite.new.device _ refl refl (ap (λ (n : ℕ). c.args.self.now.filled + n) more)
      (c.in_ok-rewrite.ensures.stored told);
}
