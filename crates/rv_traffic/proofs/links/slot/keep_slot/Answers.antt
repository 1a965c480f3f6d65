-- More is pending, or what was.
use Rattle.std.proofs.Common.{refl}
use Rattle.std.proofs.lemmas.Result.{on_err_weaker, on_ok_weaker}
use Rattle.rv_traffic.proofs.OfLinks.Slots.{more_pending, same_pending}
use Rattle.rv_traffic.proofs.links.slot.keep_slot.Goals as goal

pub returns-in-Some-clause-kept : goal.returns-in-Some-clause-kept
returns-in-Some-clause-kept g c =
    on_ok_weaker c.extend_from_slice-kept.result (λ items. more_pending c.args.slot.now c.in-Some.link _
    c.args.rest.now c.in-Some.is
    (record {
      stream = refl;
      pending = items;
      readable = refl;
      writable = refl;
      heard = refl;
      moved = refl;
      sent = refl;
    })) c.extend_from_slice-kept.ensures.ok

pub returns-in-Some-clause-refused : goal.returns-in-Some-clause-refused
returns-in-Some-clause-refused g c =
    on_err_weaker c.extend_from_slice-kept.result (λ items. same_pending c.args.slot.now c.in-Some.link _
    c.in-Some.is
    (record {
      stream = refl;
      pending = items;
      readable = refl;
      writable = refl;
      heard = refl;
      moved = refl;
      sent = refl;
    })) c.extend_from_slice-kept.ensures.err
