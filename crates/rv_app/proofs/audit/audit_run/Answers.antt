-- What went out where a write failed, by the bytes that were read.
use Rattle.std.proofs.Common.{◌≡◌, ℕ, true, List, Result, Err, ap, subst, sym}
use Rattle.std.specs.Prelude.{IsErrOf}
use Rattle.rv_frame.specs.declared.sink.WriteFault.{WriteFault}
use Rattle.rv_frame.specs.Source.{source_remaining}
use Rattle.rv_frame.specs.Sink.{sink_failed}
use Rattle.rv_app.specs.Audits.{TellsLine, WritesFrontOfLine}
use Rattle.rv_app.specs.declared.audit.AuditSaid.{AuditSaid}
use Rattle.rv_run.specs.declared.fault.RunFault.{RunFault}
use Rattle.rv_run.specs.declared.fault.RunFault.TheVariants as run
use Rattle.rv_run.proofs.Printing.{read_bytes}
use Rattle.rv_app.proofs.Telling.{not_all_sent}
use Rattle.rv_app.proofs.audit.audit_run.Goals as goal

-- how many bytes a fault counts
abbrev sent_in : Result AuditSaid RunFault → ℕ
sent_in (Err (run.WriteFault fault)) = fault.sent
sent_in _ = 0

-- and how many that of a single write does
abbrev written_in : Result (Unit {0}) WriteFault → ℕ
written_in (Err fault) = fault.sent
written_in _ = 0

none_of : (fault : WriteFault) → IsErrOf {T = Unit {0}} (Err fault) (record { sent = 0 }) → fault.sent ≡ 0
none_of fault is = ap written_in is

pub returns-clause-stopped_writing : goal.returns-clause-stopped_writing
returns-clause-stopped_writing g c fault is =
    let sink = c.args.sink.now in
    let new = c.write_all.new.self in
    let line = c.as_bytes.result.now in
    let sent = c.in-Err.fault.sent in
    let tells = subst (λ (bytes : List ℕ). TellsLine c.deref.result.now c.in_ok-said.said bytes)
    (sym c.as_bytes.ensures.value) c.in_ok-said.ensures.ok in
    let none_sent = λ (stale : sink_failed sink ≡ true). none_of c.in-Err.fault (c.in-Err.ensures.refused
    stale) in
    let front : WritesFrontOfLine g.W.Write.contents c.deref.result.now sink new sent = record {
      said = c.in_ok-said.said;
      line = line;
      tells = tells;
      not_all = not_all_sent c.deref.result.now line c.in_ok-said.said (sink_failed sink) sent tells
          c.in-Err.ensures.short none_sent;
      went_out = c.in-Err.ensures.sent;
    } in
    let part = subst (WritesFrontOfLine g.W.Write.contents c.deref.result.now sink new) (ap sent_in is) front
    in
    record {
      whole_input = c.in_ok-input.ensures.all;
      front_of_output = read_bytes (source_remaining g.R.Read.remaining c.args.source.now)
          c.in_ok-input.input.items (λ input. WritesFrontOfLine g.W.Write.contents input sink new fault.sent)
          c.in_ok-input.ensures.bytes (subst (λ input. WritesFrontOfLine g.W.Write.contents input sink new
          fault.sent) c.deref.ensures.value part);
      sink_fails = c.in-Err.ensures.fault;
    }
