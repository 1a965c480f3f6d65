use Rattle.std.proofs.Common.{Result, Ok, Err, List, refl, sym, ◌∙◌, ap}
use Rattle.std.specs.Prelude.{OnErr, OnOk}
use Rattle.rv_journal.specs.Memory.{after_calls, memory_state}
use Rattle.rv_journal.specs.declared.testing.memory.DeviceCall.{DeviceCall}
use Rattle.rv_journal.specs.declared.testing.memory.DeviceCall.TheVariants.{Sync}
use Rattle.rv_journal.proofs.Calls.{seen_after}
use Rattle.rv_journal.proofs.testing.memory.KeptCalls.sync.Goals as goal

either_way : {T E : Type 0} (r : Result T E) (P Q R : Type 0) → OnOk r P → OnErr r Q → (P → R) → (Q → R) → R
either_way (Ok x) P Q R p q of_p of_q = of_p p
either_way (Err e) P Q R p q of_p of_q = of_q q

pub returns-clause-bytes : goal.returns-clause-bytes
returns-clause-bytes c =
    let old = memory_state c.args.self.now in
    either_way c.record.result _ _ _ c.record.ensures.kept c.record.ensures.refused
    (λ kept. c.requires.bytes
    ∙ sym (seen_after old (record {
      number = old.number;
      first = old.first;
      calls = c.record.new.calls.items;
    }) Sync
    (record { number = refl; first = refl; calls = kept })))
    (λ same. c.requires.bytes ∙ ap (λ (calls : List DeviceCall). after_calls old.first calls) (sym same))
