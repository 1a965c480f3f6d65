-- All whole lines were read, and the last bytes are kept.
use Rattle.std.proofs.Common.{[], List, ℕ, IfOk, refl, subst, sym}
use Rattle.rv_verify.specs.Ongoing.{IsFoundOfBytes}
use Rattle.rv_verify.proofs.Closing.{reached}
use Rattle.rv_verify.proofs.ongoing.OngoingAudit.read_to_end.Goals as goal

pub returns-clause-found : goal.returns-clause-found
returns-clause-found g c bytes has none is =
    let all = reached c.args.self.now.piece.items bytes c.read_until.new.self c.read_until.new.records _ _
    none (c.in_ok-read_until.ensures.ends refl) (c.in_ok-read_until.ensures.read [] bytes has is) in
    subst (λ (l : List ℕ). IfOk c.finish.result (IsFoundOfBytes l c.finish.new.records)) (sym all.parts)
    (c.finish.ensures.found all.whole all.are_whole all.read)
