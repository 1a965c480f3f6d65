-- What is told is of that finding, beside the record that is named, by the rule that a second reading tells.
use Rattle.std.proofs.Common.{◌≡◌, IfErr, IfOk, Option, option_map, subst}
use Rattle.rv_replies.specs.declared.records.Records.{Records}
use Rattle.rv_app.specs.declared.verify.Reread.{Reread}
use Rattle.rv_app.specs.Verifying.{IsReread, Reports, StopsReporting}
use Rattle.rv_app.proofs.Reporting.{reports, stops}
use Rattle.rv_app.proofs.verify.tell_file.Goals as goal

pub returns-in-Told-clause-told : goal.returns-in-Told-clause-told
returns-in-Told-clause-told g c =
    let again = option_map g.A.Again.bytes c.args.about.now.again in
    subst (λ (r : Option Records). IfOk c.tell_found.result (Reports g.W.Write.contents
    (λ other. other ≡ c.args.found.now) again r c.args.sink.now c.tell_found.new.sink))
    c.record_named-beside.ensures
    (reports g.W.Write.contents again _ c.args.sink.now c.tell_found.new.sink c.args.found.now c.in-Told.rule
    c.tell_found.result
    (subst (λ (x : Reread). IsReread c.args.found.now.verdict again x) c.in-Told.is c.in_ok-rule.ensures)
    c.tell_found.ensures.status c.tell_found.ensures.all)

pub returns-in-Told-clause-stopped : goal.returns-in-Told-clause-stopped
returns-in-Told-clause-stopped g c =
    let again = option_map g.A.Again.bytes c.args.about.now.again in
    subst (λ (r : Option Records). IfErr c.tell_found.result (StopsReporting g.W.Write.contents
    (λ other. other ≡ c.args.found.now) again r c.args.sink.now c.tell_found.new.sink))
    c.record_named-beside.ensures
    (stops g.W.Write.contents again _ c.args.sink.now c.tell_found.new.sink c.args.found.now c.in-Told.rule
    c.tell_found.result
    (subst (λ (x : Reread). IsReread c.args.found.now.verdict again x) c.in-Told.is c.in_ok-rule.ensures)
    c.tell_found.ensures.part)
