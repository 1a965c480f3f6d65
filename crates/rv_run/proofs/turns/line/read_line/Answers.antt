-- A line is bad where it has no moment and body, and where the body is no message's.
use Rattle.std.proofs.Common.{◌≡◌, ◌⊎◌, inl, inr, Ok, Err, Result, sym, ◌∙◌}
use Rattle.std.proofs.lemmas.Result.{err_from_is_err_and}
use Rattle.rv_json.specs.declared.fault.TextFault.{TextFault}
use Rattle.rv_json.specs.declared.fault.TextFault.TheVariants.{NoMemory, NotJson, NotMessage}
use Rattle.rv_text.specs.declared.message.Message.{Message}
use Rattle.rv_book.specs.lines.Faults.{line_fault}
use Rattle.rv_book.specs.declared.lines.fault.LineFault.TheVariants as line
use Rattle.rv_run.proofs.OfTurns.Cutting.{bad_body}
use Rattle.rv_run.proofs.turns.line.read_line.Goals as goal

-- what is refused for another cause than memory is no message
refused : (decoded : Result Message TextFault) (fault : TextFault) (message : Message) → decoded ≡ Err fault
    → (fault ≡ NoMemory → ⊥) → (decoded ≡ Ok message) ⊎ (decoded ≡ Err NoMemory) → ⊥
refused decoded fault message is other found = elim found [ inl ok ↦ (cc) | inr none ↦ other (cc) ]

-- a fault that makes a line bad is no want of memory
no_memory_is_not_bad : (text : TextFault) → text ≡ NoMemory → line_fault text ≡ line.Bad → ⊥
no_memory_is_not_bad NotJson same bad = (cc)
no_memory_is_not_bad NotMessage same bad = (cc)
no_memory_is_not_bad NoMemory same bad = (cc)

pub returns-in_err-decode_message-clause-bad : goal.returns-in_err-decode_message-clause-bad
returns-in_err-decode_message-clause-bad c told =
    let parts = rw c.in_ok-moment.ensures.ok_part at c.moment_and_body.ensures.some in
    let fault = c.in_err-decode_message.field-0.0 in
    let exit = err_from_is_err_and c.from_residual-in_err-decode_message.result
    c.from_residual-in_err-decode_message.ensures.1 in
    let bad : line_fault fault ≡ line.Bad = sym exit.2 ∙ cc in
    bad_body c.args.line.now parts.0 c.in_ok-moment.body.now c.in_ok-moment.moment parts.1 parts.2
    (λ message is. refused c.decode_message.result fault message c.in_err-decode_message.was
    (λ same. no_memory_is_not_bad fault same bad) (c.decode_message.ensures.only message is))
