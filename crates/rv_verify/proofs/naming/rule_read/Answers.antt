-- The entries before the place tell the rule.
use Rattle.std.proofs.Common.{◌≡◌, ◌∙◌, List, ℕ, refl, subst, sym, take}
use Rattle.rv_verify.specs.Naming.{HaveMet}
use Rattle.rv_verify.specs.Reading.{HasNextPart}
use Rattle.rv_verify.specs.declared.parts.NextPart.{NextPart}
use Rattle.rv_verify.proofs.Again.{are_more, are_read, by_met, first_cut, first_end, first_piece, none_some}
use Rattle.rv_verify.proofs.Again.{same_some, so_many}
use Rattle.rv_verify.proofs.naming.rule_read.Goals as goal

pub returns-in-Piece : goal.returns-in-Piece
returns-in-Piece g c = record {
  told = λ all bytes is named alike.
      let has = subst (λ (n : NextPart). HasNextPart bytes (g.B.Read.remaining c.next_line.new.reader)
      c.next_line.new.line.items n) c.in-Piece.is (c.in_ok-next_line.ensures.next bytes is) in
      absurd (first_piece all bytes c.args.place c.args.entry.now named alike has);
}

pub returns-in-End : goal.returns-in-End
returns-in-End g c = record {
  told = λ all bytes is named alike.
      let has = subst (λ (n : NextPart). HasNextPart bytes (g.B.Read.remaining c.next_line.new.reader)
      c.next_line.new.line.items n) c.in-End.is (c.in_ok-next_line.ensures.next bytes is) in
      absurd (first_end all bytes c.args.place c.args.entry.now named alike has);
}

pub returns-in-Some : goal.returns-in-Some
returns-in-Some g c = record {
  told = λ all bytes is named alike.
      let e = c.args.entry.now in
      let place = c.args.place in
      let line = c.next_line.new.line.items in
      let has = subst (λ (n : NextPart). HasNextPart bytes (g.B.Read.remaining c.next_line.new.reader) line n)
      c.in-Line.is (c.in_ok-next_line.ensures.next bytes is) in
      let cut = first_cut bytes has in
      let es = take place named.fault.account.entries in
      let met = c.in_ok-met.ensures.told has.rest es has.is_left
      (are_read all bytes place e named alike line has.rest cut)
      (are_more all bytes place e named alike line has.rest cut)
      (so_many all bytes place e named alike line has.rest cut) in
      let same : met.met ≡ c.in-Some.met = same_some met.met c.in-Some.met (sym met.is ∙ c.in-Some.is) in
      record {
        named = c.rule_by.result;
        is = refl;
        told = by_met all place e named c.in-Some.met c.rule_by.result
            (λ true_then. subst (HaveMet es) c.as_slice.ensures (met.yes (same ∙ true_then)))
            (λ false_then. subst (λ (p : List ℕ). ¬ HaveMet es p) c.as_slice.ensures
            (met.no (same ∙ false_then)))
            c.rule_by.ensures.met c.rule_by.ensures.unmet;
      };
}

pub returns-in-None : goal.returns-in-None
returns-in-None g c = record {
  told = λ all bytes is named alike.
      let e = c.args.entry.now in
      let place = c.args.place in
      let line = c.next_line.new.line.items in
      let has = subst (λ (n : NextPart). HasNextPart bytes (g.B.Read.remaining c.next_line.new.reader) line n)
      c.in-Line.is (c.in_ok-next_line.ensures.next bytes is) in
      let cut = first_cut bytes has in
      let met = c.in_ok-met.ensures.told has.rest (take place named.fault.account.entries) has.is_left
      (are_read all bytes place e named alike line has.rest cut)
      (are_more all bytes place e named alike line has.rest cut)
      (so_many all bytes place e named alike line has.rest cut) in
      absurd (none_some met.met (sym c.in-None.is ∙ met.is));
}
