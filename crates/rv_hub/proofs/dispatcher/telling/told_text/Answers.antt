-- What is told fits, so its text does.
use Rattle.std.proofs.Common.{◌∙◌, Bor, Option, ap, sym}
use Rattle.std.specs.Option.{option_map}
use Rattle.std.specs.String.{string_bytes}
use Rattle.rv_session.specs.declared.client.ClientState.{ClientState}
use Rattle.rv_machine.specs.Machines.{state_in}
use Rattle.rv_hub.proofs.OfDispatcher.Texts.{old_again, same_again, text_told}
use Rattle.rv_hub.proofs.dispatcher.telling.told_text.Goals as goal

pub returns-then-client-key : goal.returns-then-client-key
returns-then-client-key c =
    text_told string_bytes (state_in c.args.machine.now) c.args.key _ c.request_text.result
    c.requires.resumes c.requires.tellable
    (same_again (state_in c.args.machine.now) c.args.key c.unwrap-client.result.now c.requires.tellable
    (sym c.client.ensures ∙ ap (λ (o : Option (Bor ClientState)). option_map (λ r. r.now) o)
    c.unwrap-client.ensures) c.if-client-key.true)
    c.request_text.ensures.text c.request_text.ensures.length

pub returns : goal.returns
returns c =
    text_told string_bytes (state_in c.args.machine.now) c.args.key _ c.encode_answer.result
    c.requires.resumes c.requires.tellable
    (old_again (state_in c.args.machine.now) c.args.key c.unwrap-client.result.now c.requires.tellable
    (sym c.client.ensures ∙ ap (λ (o : Option (Bor ClientState)). option_map (λ r. r.now) o)
    c.unwrap-client.ensures) c.if-client-key.false)
    c.encode_answer.ensures.text c.encode_answer.ensures.short
