-- No piece is kept; or it would be the first line; or it is read as no entry; or it is a line more.
use Rattle.std.proofs.Common.{◌≡◌, ◌≢◌, ◌∷◌, ◌++◌, ◌∙◌, List, ℕ, Ok, [], true, false, ap, arith}
use Rattle.std.proofs.Common.{inl, inr, is_some, rules, subst, sym, vec_len}
use Rattle.std.proofs.lemmas.Bool.{eqb-true}
use Rattle.std.proofs.lemmas.List.{nil_from_length}
use Rattle.rv_book.specs.lines.Lines.{lines}
use Rattle.rv_verify.specs.Verdicts.{ReadsLongEntry}
use Rattle.rv_verify.proofs.Running.{not_both}
use Rattle.rv_verify.proofs.Closing.{found_empty, found_last, found_torn}
use Rattle.rv_verify.proofs.Staging.{reads_none, reads_some}
use Rattle.rv_verify.proofs.ongoing.OngoingAudit.finish.Goals as goal

pub returns-then-is_empty-clause-found : goal.returns-then-is_empty-clause-found
returns-then-is_empty-clause-found c whole are has =
    let none = nil_from_length c.args.self.now.piece.items (omega (
      arith,
      c.args.self.now.piece.ok.0,
      eqb-true (vec_len c.args.self.now.piece) 0 (sym c.is_empty.ensures ∙ c.if-is_empty.true),
    ))
    in
    found_empty whole c.args.self.now.piece.items are has.no_lf c.args.records.now c.finding_on.result
    c.finding_on.ensures.torn none
    (c.finding_on.ensures.verdict (lines whole) c.args.records.now has.read)
    (c.finding_on.ensures.noted (lines whole) c.args.records.now has.read)

pub returns-then-is_at_head-clause-found : goal.returns-then-is_at_head-clause-found
returns-then-is_at_head-clause-found c whole are has =
    let at = c.is_at_head.ensures.0 c.if-is_at_head.true in
    let some : c.args.self.now.piece.items ≢ [] = search rules in
    let none = reads_none (lines whole) c.args.self.now.stage.verifier c.args.self.now.stage.bad
    c.args.records.now at.0 (ap is_some at.1) has.read in
    found_torn whole c.args.self.now.piece.items are has.no_lf c.args.records.now
    c.finding_on-then-is_at_head.result c.finding_on-then-is_at_head.ensures.torn
    (record { some = some; torn = inl none.0 })
    (c.finding_on-then-is_at_head.ensures.verdict (lines whole) c.args.records.now has.read)
    (c.finding_on-then-is_at_head.ensures.noted (lines whole) c.args.records.now has.read)

pub returns-then-branch-clause-found : goal.returns-then-branch-clause-found
returns-then-branch-clause-found c whole are has =
    let some : c.args.self.now.piece.items ≢ [] = search rules in
    let torn : c.is_torn.result ≡ Ok true = cc in
    found_torn whole c.args.self.now.piece.items are has.no_lf c.args.records.now
    c.finding_on-then-branch.result c.finding_on-then-branch.ensures.torn
    (record {
      some = some;
      torn = inr (λ e reads. c.is_torn.ensures.yes torn e
          (subst (λ (p : List ℕ). ReadsLongEntry p e) (sym c.deref.ensures.value) reads));
    })
    (c.finding_on-then-branch.ensures.verdict (lines whole) c.args.records.now has.read)
    (c.finding_on-then-branch.ensures.noted (lines whole) c.args.records.now has.read)

pub returns-clause-found : goal.returns-clause-found
returns-clause-found c whole are has =
    let some : c.args.self.now.piece.items ≢ [] = search rules in
    let torn : c.is_torn.result ≡ Ok false = cc in
    let says = c.is_torn.ensures.no torn in
    let behind = reads_some (lines whole) c.args.self.now.stage.verifier c.args.self.now.stage.bad
    c.args.records.now
    (λ at. not_both c.is_at_head.result (c.is_at_head.ensures.1 at) c.if-is_at_head.false) has.read in
    let read = c.in_ok-take_line.ensures.read (lines whole) has.read in
    found_last whole c.args.self.now.piece.items are has.no_lf c.take_line.new.records
    c.finding_on-2.result c.finding_on-2.ensures.torn some behind says.0
    (subst (λ (p : List ℕ). ReadsLongEntry p says.0) c.deref.ensures.value says.1)
    (c.finding_on-2.ensures.verdict (lines whole ++ c.args.self.now.piece.items ∷ [])
    c.take_line.new.records read)
    (c.finding_on-2.ensures.noted (lines whole ++ c.args.self.now.piece.items ∷ [])
    c.take_line.new.records read)
