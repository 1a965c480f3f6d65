-- The bracket stands in front, and the rest is asked for.
use Rattle.std.proofs.Common.{arith, subst, sym, List, ℕ}
use Rattle.std.proofs.lemmas.Grind.{common_steps}
use Rattle.std.proofs.lemmas.List.{take_rest}
use Rattle.rv_status.specs.Hosts.{IsIpv6, up_to_byte}
use Rattle.rv_status.proofs.hosts.is_bracketed.Goals as goal

pub returns : goal.returns
returns c =
    let rest = take_rest c.args.host.now 1 in (
      λ yes. (
        grind (arith, common_steps, c.if-host-ne91.false),
        subst (λ (t : List ℕ). IsIpv6 (up_to_byte 93 t)) rest (c.is_bracketed_address.ensures.0 yes),
      ),
      λ is. c.is_bracketed_address.ensures.1
          (subst (λ (t : List ℕ). IsIpv6 (up_to_byte 93 t)) (sym rest) is.1),
    )
