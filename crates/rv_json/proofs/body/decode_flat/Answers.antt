-- What is alone among the members that the bytes read as.
use Rattle.std.proofs.Common.{take}
use Rattle.std.proofs.lemmas.Result.{IfOk-weaker}
use Rattle.rv_json.specs.Flat.{flat_members}
use Rattle.rv_json.proofs.Within.{some_in}
use Rattle.rv_json.proofs.InOrder.{flat_members_sorted}
use Rattle.rv_json.proofs.body.decode_flat.Goals as goal

pub returns-in-Some-clause-value : goal.returns-in-Some-clause-value
returns-in-Some-clause-value g c =
    let fields = take c.in-Some.count c.scan_body.new.places in
    IfOk-weaker c.read_flat.result _ _ (some_in _ g.B.Body.form c.args.bytes.now
    (flat_members fields) c.in-Some.ensures.length
    c.in-Some.ensures.value (flat_members_sorted fields)) c.read_flat.ensures
