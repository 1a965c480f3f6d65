-- The side's exchanger is written.
use Rattle.std.proofs.Common.{sym, subst}
use Rattle.std.specs.Prelude.{OnOk}
use Rattle.rv_text.specs.Writing.{WritesRow, exchanger_row}
use Rattle.rv_text.proofs.encode.put_exchanger.Goals as goal

pub returns-in-Exchanges : goal.returns-in-Exchanges
returns-in-Exchanges c =
    subst (λ side. OnOk c.put_whole.result (WritesRow (exchanger_row side) c.args.body.now
    c.put_whole.new.self))
    (sym c.in-Exchanges.is) c.put_whole.ensures
