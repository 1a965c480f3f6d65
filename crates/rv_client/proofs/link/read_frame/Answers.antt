-- Where a good length came, and then the body or less.
use Rattle.std.proofs.Common.{ℕ, rules, subst, sym, ◌≡◌}
use Rattle.rv_frame.specs.Cut.{FitsLength, length_bytes}
use Rattle.rv_frame.specs.Source.{SourceGives}
use Rattle.rv_client.specs.Reading.{Unfailed}
use Rattle.rv_client.proofs.Frames.{reads_on}
use Rattle.rv_client.proofs.link.read_frame.Goals as goal

pub returns : goal.returns
returns g c =
    let size : ℕ = c.from-length.result in
    let fits : FitsLength size = search rules in
    let unfailed : Unfailed c.args.source.now c.fill.new.source = search rules in
    let said : length_bytes size ≡ c.fill.new.buffer = search rules in
    let head = subst (SourceGives g.R.Read.remaining c.args.source.now c.fill.new.source) (sym said)
    c.in_ok-fill.ensures.bytes in
    reads_on g.R.Read.remaining c.args.source.now c.fill.new.source c.fill_body.new.source
    c.fill_body.new.body.items size c.fill_body.result fits head unfailed
    c.fill_body.ensures.bytes c.fill_body.ensures.long c.fill_body.ensures.ok c.fill_body.ensures.fault
