-- The client had waited nowhere.
use Rattle.std.proofs.Common.{ap, sym, subst, refl}
use Rattle.rv_session.specs.Clients.{ClientStates, fresh_state}
use Rattle.rv_machine.specs.Machines.{state_in}
use Rattle.rv_machine.specs.Numbering.{AreNumbered}
use Rattle.rv_machine.specs.declared.tables.Holdings.{Holdings}
use Rattle.rv_machine.proofs.Idle.{put_ready, put_state}
use Rattle.rv_machine.proofs.Numbered.{put_numbered}
use Rattle.rv_machine.proofs.tables.Holdings.reopen.Goals as goal

pub returns-clause-ready : goal.returns-clause-ready
returns-clause-ready c =
    c.welcome.ensures.ready
    (put_ready c.args.self.now c.requires.ready c.args.client (fresh_state c.args.incarnation c.args.version)
    c.renew.new.self
    (ap (λ (t : ClientStates). t.clients) c.renew.ensures)
    (ap (λ (t : ClientStates). t.epoch) c.renew.ensures)
    (ap (λ (t : ClientStates). t.most) c.renew.ensures) c.requires.reopens.idle
    refl) c.requires.time c.requires.space

pub returns-clause-numbered : goal.returns-clause-numbered
returns-clause-numbered c =
    subst (λ (m : Holdings). AreNumbered (state_in m)) (sym c.welcome.ensures.counted)
    (subst AreNumbered (sym (put_state c.args.self.now c.requires.ready c.args.client
    (fresh_state c.args.incarnation c.args.version) c.renew.new.self
    (ap (λ (t : ClientStates). t.clients) c.renew.ensures)
    (ap (λ (t : ClientStates). t.epoch) c.renew.ensures)))
    (put_numbered (state_in c.args.self.now) c.args.client (fresh_state c.args.incarnation c.args.version)
    c.requires.numbered (record { unasked = λ none. refl; zero = λ fresh. refl })))
