-- No place comes after a client.
use Rattle.std.proofs.Common.{◌≡◌, ap, arith, length}
use Rattle.std.proofs.lemmas.Bool.Decides.{nat_tests}
use Rattle.rv_checkpoint.proofs.AllSaid.{no_place_next}
use Rattle.rv_checkpoint.proofs.reader.CheckpointReader.add_open.Goals as goal

pub returns-then-not-is_empty-clause-bad : goal.returns-then-not-is_empty-clause-bad
returns-then-not-is_empty-clause-bad c told = no_place_next _ _ _ _ _ _ c.requires
    (λ none. let zero : length c.args.self.now.clients.items ≡ 0 = ap length none in
    absurd (grind (arith, nat_tests, zero, c.args.self.now.clients.ok.0)))
