-- The end comes after all clients, and nothing after it.
use Rattle.std.proofs.Common.{◌≡◌, ◌<◌, ◌∙◌, arith, length, refl}
use Rattle.rv_checkpoint.proofs.Given.{said_end, said_none}
use Rattle.rv_checkpoint.specs.Written.{end_text}
use Rattle.rv_checkpoint.specs.declared.line.StateLine.TheVariants.{End}
use Rattle.rv_checkpoint.proofs.writer.CheckpointWriter.last_line.Goals as goal

pub returns-then-index-len : goal.returns-then-index-len
returns-then-index-len c =
    let past : length c.args.self.now.clients.items < c.args.index =
    omega (arith, c.if-index-len.true, c.len.ensures, c.args.self.now.clients.ok.0) in
    said_none c.args.self.now.opens.items c.args.self.now.clients.items _ c.args.index refl past

pub returns : goal.returns
returns c =
    let opens = c.args.self.now.opens in
    let clients = c.args.self.now.clients in
    let here : c.args.index ≡ length clients.items =
    omega (arith, c.requires, c.if-index-len.false, c.len.ensures, clients.ok.0) in
    let places : c.len-2.result ≡ length opens.items = omega (arith, c.len-2.ensures, opens.ok.0) in
    let numbers : c.len-3.result ≡ length clients.items = omega (arith, c.len-3.ensures, clients.ok.0) in (
      End (length opens.items) (length clients.items),
      said_end opens.items clients.items _ c.args.index refl here,
      c.in_ok-end_line.ensures ∙ (λ i. end_text (places i) (numbers i)),
    )
