use Rattle.rv_audit.proofs.Words.{◌∙◌, ℕ, List, refl, subst}
use Rattle.rv_audit.proofs.Passing.{all_joined, next_free}
use Rattle.rv_audit.specs.Opens.{OpensIf}
use Rattle.rv_audit.specs.Passed.{Flags}
use Rattle.rv_audit.specs.Sessions.{EntersIf}
use Rattle.rv_audit.proofs.front.Front.join.Goals as goal

pub open_if-requires-clause-free : goal.open_if-requires-clause-free
open_if-requires-clause-free c = next_free c.args.self.now c.args.entry.now c.len-place.result c.requires
    (c.len-place.ensures ∙ c.args.self.now.taken.ok.0)

pub returns : goal.returns
returns c =
    let sessions = subst (EntersIf c.args.self.now.sessions c.enter_session.new.sessions)
    c.session_after-session.ensures c.in_ok-enter_session.ensures in
    let opens = subst (OpensIf c.args.self.now.opens c.open_if.new.self c.len-place.result)
    c.opening.ensures c.in_ok-open_if.ensures in
    let flags = subst (λ (places : List ℕ). Flags c.args.self.now.taken.items c.flag.new.taken.items places)
    c.as_slice.ensures c.in_ok-flag.ensures in
    all_joined c.args.self.now _ c.args.entry.now c.len-place.result c.requires (c.len-place.ensures
    ∙ c.args.self.now.taken.ok.0) refl flags refl opens sessions
