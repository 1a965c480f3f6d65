-- The fields are found where the line has them.
use Rattle.std.proofs.Common.{refl}
use Rattle.rv_book.proofs.OfLines.Fields.{has_moment, has_second_space, has_space, parts_joined}
use Rattle.rv_book.proofs.lines.entry.cut_fields.Goals as goal

pub returns-in_err-moment-clause-none : goal.returns-in_err-moment-clause-none
returns-in_err-moment-clause-none c none moment partners field cuts = has_space cuts
    (c.in_err-moment.ensures.none refl)

pub returns-in_err-partners-clause-none : goal.returns-in_err-partners-clause-none
returns-in_err-partners-clause-none c none moment partners field cuts =
    has_second_space cuts c.in_ok-moment.moment.now c.in_ok-moment.fields.now c.in_ok-moment.ensures.first
    c.in_ok-moment.ensures.parts (c.in_err-partners.ensures.none refl)

pub returns-in_err-moment-2-clause-none : goal.returns-in_err-moment-2-clause-none
returns-in_err-moment-2-clause-none c none moment partners field cuts =
    c.in_err-moment-2.ensures.none refl moment (has_moment cuts c.in_ok-moment.moment.now
    c.in_ok-moment.fields.now c.in_ok-moment.ensures.first c.in_ok-moment.ensures.parts)

pub returns-clause-some : goal.returns-clause-some
returns-clause-some c = record {
  moment_field = c.in_ok-moment.moment.now;
  parts = parts_joined c.args.line.now c.in_ok-moment.moment.now c.in_ok-moment.fields.now
      c.in_ok-partners.partners.now c.in_ok-partners.field.now c.in_ok-moment.ensures.parts
      c.in_ok-partners.ensures.parts;
  says_moment = c.in_ok-moment-2.ensures.some;
  no_space = c.in_ok-partners.ensures.first;
}
