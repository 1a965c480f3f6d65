-- What was found of the bytes is told.
use Rattle.std.proofs.Common.{subst, sym}
use Rattle.std.proofs.lemmas.Option.{IfSome_then}
use Rattle.std.proofs.lemmas.Result.{IfErr-weaker, IfOk-weaker}
use Rattle.rv_app.specs.Verifying.{IsFoundIn}
use Rattle.rv_app.proofs.Reporting.{reports_so, stops_so}
use Rattle.rv_app.proofs.verify.verify_bytes.Goals as goal

pub returns-clause-told : goal.returns-clause-told
returns-clause-told g c =
    IfSome_then (g.F.Read.remaining c.args.input) c.in_ok-found.ensures.found
    (λ bytes is. IfOk-weaker c.tell_file.result _ _ (reports_so g.W.Write.contents _ _ c.args.sink.now
    c.tell_file.new.sink (λ found same. subst
    (IsFoundIn c.args.words.now.follow c.args.about.now.is_journal bytes c.found_by.new.records) (sym same)
    is)) c.tell_file.ensures.told)

pub returns-clause-stopped : goal.returns-clause-stopped
returns-clause-stopped g c =
    IfSome_then (g.F.Read.remaining c.args.input) c.in_ok-found.ensures.found
    (λ bytes is. IfErr-weaker c.tell_file.result _ _ (stops_so g.W.Write.contents _ _ c.args.sink.now
    c.tell_file.new.sink (λ found same. subst
    (IsFoundIn c.args.words.now.follow c.args.about.now.is_journal bytes c.found_by.new.records) (sym same)
    is)) c.tell_file.ensures.stopped)
