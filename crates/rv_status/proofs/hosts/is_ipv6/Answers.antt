-- A text that spells none is no address.
use Rattle.rv_status.proofs.hosts.is_ipv6.Goals as goal

pub returns-in-Err : goal.returns-in-Err
returns-in-Err c = (λ wrong. absurd (cc), λ is. absurd (c.in-Err.ensures is.0 is.1))
