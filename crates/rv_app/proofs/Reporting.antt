-- What is told of a finding is told of what that is.
use Rattle.std.proofs.Common.{◌≡◌, ℕ, List, Err, IfErr, IfOk, Ok, OnOk, Option, Result, inl, inr, refl}
use Rattle.rv_audit.specs.declared.rule.Rule.{Rule}
use Rattle.rv_replies.specs.declared.findings.verdict.AccountFinding.{AccountFinding}
use Rattle.rv_frame.specs.declared.sink.Sink.{Sink}
use Rattle.rv_run.specs.inspect.Report.{BeginsReport, IsReport, StopsTaking, TookLines}
use Rattle.rv_run.specs.inspect.Statuses.{TellsFound}
use Rattle.rv_replies.specs.declared.records.Records.{Records}
use Rattle.rv_run.specs.declared.fault.RunFault.{RunFault}
use Rattle.rv_app.specs.Verifying.{IsRuleOf, Reports, StopsReporting}

module _ {W : Type 0} (contents : W → Option (List ℕ)) (again : Option (Option (List ℕ)))
    (r : Option Records) (old new : Sink W) where
  -- the finding itself
  module _ (found : AccountFinding) (rule : Option Rule) (result : Result ℕ RunFault) where
    pub reports : IsRuleOf found.verdict again rule → IfOk result (TellsFound found rule r)
        → OnOk result (TookLines contents (IsReport found rule r) old new)
        → IfOk result (Reports contents (λ other. other ≡ found) again r old new)
    reports known tells took = by result tells took
      where
        by : (result : Result ℕ RunFault) → IfOk result (TellsFound found rule r)
            → OnOk result (TookLines contents (IsReport found rule r) old new)
            → IfOk result (Reports contents (λ other. other ≡ found) again r old new)
        by (Ok status) tells took = inl (record {
          found = found;
          is = refl;
          rule = rule;
          rule_is = known;
          tells = tells;
          took = took;
        })
        by (Err fault) tells took = tt

    pub stops : IsRuleOf found.verdict again rule
        → IfErr result (StopsTaking contents (IsReport found rule r) (BeginsReport found rule r) old new)
        → IfErr result (StopsReporting contents (λ other. other ≡ found) again r old new)
    stops known part = by result part
      where
        by : (result : Result ℕ RunFault)
            → IfErr result (StopsTaking contents (IsReport found rule r) (BeginsReport found rule r) old new)
            → IfErr result (StopsReporting contents (λ other. other ≡ found) again r old new)
        by (Ok status) part = tt
        by (Err fault) part = inr (record {
          found = found;
          is = refl;
          rule = rule;
          rule_is = known;
          stops = part;
        })

  -- what the finding is
  module _ {Is Other : AccountFinding → Type 0} (to : (found : AccountFinding) → Is found → Other found) where
    pub reports_so : (status : ℕ) → Reports contents Is again r old new status
        → Reports contents Other again r old new status
    reports_so status (inl all) = inl (record {
      found = all.found;
      is = to all.found all.is;
      rule = all.rule;
      rule_is = all.rule_is;
      tells = all.tells;
      took = all.took;
    })
    reports_so status (inr none) = inr (record {
      found = none.found;
      is = to none.found none.is;
      unopened = none.unopened;
      status_is = none.status_is;
      silent = none.silent;
    })

    pub stops_so : (fault : RunFault) → StopsReporting contents Is again r old new fault
        → StopsReporting contents Other again r old new fault
    stops_so fault (inl none) = inl none
    stops_so fault (inr at) = inr (record {
      found = at.found;
      is = to at.found at.is;
      rule = at.rule;
      rule_is = at.rule_is;
      stops = at.stops;
    })
