use Rattle.std.proofs.Common.{◌≡◌, ◌+◌, ◌<◌, ℕ, List, [], ◌∷◌, ◌++◌, length, get_or, take, sym, ◌∙◌, ap}
use Rattle.std.proofs.Common.{subst, arith}
use Rattle.std.proofs.lemmas.List.{take_all, take_more}
use Rattle.rv_journal.specs.Memory.{LeavesOf}
use Rattle.rv_journal.specs.declared.testing.memory.DeviceCall.{DeviceCall}
use Rattle.rv_journal.proofs.Calls.{HasReplayed, none_replayed, one_replayed}
use Rattle.rv_journal.proofs.testing.memory.KeptCalls.left.Goals as goal

next : (calls items : List DeviceCall) → items ≡ calls → (i : ℕ) (call : DeviceCall) → i < length items
    → call ≡ get_or items i call → take i calls ++ call ∷ [] ≡ take (i + 1) calls
next calls items same i call low is = subst (λ (l : List DeviceCall). take i l ++ call ∷ [] ≡ take (i + 1) l)
    same (ap (λ (x : DeviceCall). take i items ++ x ∷ []) is ∙ sym (take_more items i call low))

pub loop-call-init : goal.loop-call-init
loop-call-init c = none_replayed c.args.self.now.first.items c.in_ok-to_vec.field-0.items
    c.in_ok-to_vec-2.field-0.items
    (c.in_ok-to_vec.ensures.items_if_clones_equal (λ y h is. is) ∙ c.deref.ensures.value)
    (c.in_ok-to_vec-2.ensures.items_if_clones_equal (λ y h is. is) ∙ c.deref-2.ensures.value)

pub loop-call-preserved : goal.loop-call-preserved
loop-call-preserved c =
    let first = c.args.self.now.first.items in
    let calls = c.args.self.now.calls.items in
    subst (λ (l : List DeviceCall). HasReplayed first l c.call.new.self.seen.items c.call.new.self.left.items)
    (next calls c.deref-call-items.result.now c.deref-call-items.ensures.value c.loop-call.call-index _
    c.loop-call-test.true c.call-item.is)
    (one_replayed first (take c.loop-call.call-index calls) c.loop-call.replay.seen.items
    c.loop-call.replay.left.items c.loop-call.invariant c.call-item.result c.call.new.self.seen.items
    c.call.new.self.left.items c.in_ok-call.ensures.seen c.in_ok-call.ensures.left)

pub returns : goal.returns
returns c =
    let calls = c.args.self.now.calls.items in
    subst (λ (l : List DeviceCall). LeavesOf c.args.self.now.first.items l c.loop-call.replay.left.items)
    (take_all c.loop-call.call-index calls (omega (
      arith,
      c.loop-call-test.false,
      ap length c.deref-call-items.ensures.value,
    )))
    c.loop-call.invariant.left_is
