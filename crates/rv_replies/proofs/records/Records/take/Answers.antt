-- The line that was read comes after the others, and its key is known.
use Rattle.std.proofs.Common.{Err, ap, ◌∙◌}
use Rattle.std.proofs.lemmas.Result.{on_ok_weaker}
use Rattle.rv_replies.specs.declared.records.Line.TheVariants as line
use Rattle.rv_replies.proofs.Taking.{on_ok_three, takes_flawed, takes_told}
use Rattle.rv_replies.proofs.records.Records.take.Goals as goal

pub returns-in-Ok-clause-stands : goal.returns-in-Ok-clause-stands
returns-in-Ok-clause-stands c =
    on_ok_three c.add.result (λ lines asks first a empty stands.
    takes_told a empty c.args.self.now c.add.new.self c.in-Ok.told stands lines asks first)
    c.add.ensures.lines c.add.ensures.asks c.add.ensures.first

pub returns-in-Err-Flawed-clause-adds : goal.returns-in-Err-Flawed-clause-adds
returns-in-Err-Flawed-clause-adds c =
    on_ok_weaker c.push.result (λ lines. record {
      line = line.Flawed c.in-Err-Flawed.flaw;
      is = c.read_told.ensures.flaw c.in-Err-Flawed.flaw (c.in-Err-Flawed.is
          ∙ ap Err c.in-Err-Flawed.field-0-is);
      lines = lines;
    }) c.push.ensures.lines

pub returns-in-Err-Flawed-clause-stands : goal.returns-in-Err-Flawed-clause-stands
returns-in-Err-Flawed-clause-stands c =
    on_ok_weaker c.push.result (λ lines a empty stands.
    takes_flawed a empty c.args.self.now c.push.new.self c.in-Err-Flawed.flaw stands lines
    c.push.ensures.fates c.push.ensures.firsts) c.push.ensures.lines
