-- What went out by some findings on a record is its report, or a front of it.
use Rattle.std.proofs.Common.{◌⊎◌, ℕ, List, Option, inl, inr, length}
use Rattle.rv_replies.specs.declared.findings.Finding.{Finding}
use Rattle.rv_frame.specs.declared.sink.Sink.{Sink}
use Rattle.rv_run.specs.inspect.Lines.{count_lines}
use Rattle.rv_run.specs.inspect.Report.{CountsBeside, FindsFirst, ReportsAll, ReportsSome, SaysAll, SaysSome}
use Rattle.rv_run.specs.inspect.Report.{StopsTaking, TookLines}
use Rattle.rv_replies.specs.declared.records.Beside.TheVariants.{Differs, Repeats}
use Rattle.rv_replies.specs.declared.records.Records.{Records}
use Rattle.rv_run.specs.declared.fault.RunFault.{RunFault}
use Rattle.rv_run.specs.declared.fault.RunFault.TheVariants.{NoMemory, ReadFault, TooLong, WriteFault}

module _ (first : List (List ℕ)) (r : Records) (epoch : ℕ) (fs : List Finding) (d n : ℕ)
    (finds : FindsFirst r epoch (length r.lines.items) fs)
    (differ : CountsBeside Differs r (length r.lines.items) d)
    (repeat : CountsBeside Repeats r (length r.lines.items) n) where
  all : (texts : List (List ℕ)) → SaysAll first r fs (count_lines fs d n) texts
      → ReportsAll first r epoch texts
  all texts says = record {
    findings = fs;
    finds = finds;
    differing = d;
    repeating = n;
    differ = differ;
    repeat = repeat;
    says = says;
  }

  some : (texts : List (List ℕ)) → SaysSome first r fs texts → ReportsSome first r epoch texts
  some texts says = record { findings = fs; finds = finds; says = says }

  either : (texts : List (List ℕ)) → SaysAll first r fs (count_lines fs d n) texts ⊎ SaysSome first r fs texts
      → ReportsAll first r epoch texts ⊎ ReportsSome first r epoch texts
  either texts (inl says) = inl (all texts says)
  either texts (inr says) = inr (some texts says)

  module _ {W : Type 0} (contents : W → Option (List ℕ)) (old new : Sink W) where
    pub reports_took : TookLines contents (SaysAll first r fs (count_lines fs d n)) old new
        → TookLines contents (ReportsAll first r epoch) old new
    reports_took took = record {
      texts = took.texts;
      are = all took.texts took.are;
      went_out = took.went_out;
      sink_stays = took.sink_stays;
    }

    pub reports_stop : (fault : RunFault)
        → StopsTaking contents (SaysAll first r fs (count_lines fs d n)) (SaysSome first r fs) old new fault
        → StopsTaking contents (ReportsAll first r epoch) (ReportsSome first r epoch) old new fault
    reports_stop ReadFault stops = stops
    reports_stop (WriteFault fault) stops = record {
      texts = stops.texts;
      are = either stops.texts stops.are;
      not_all = stops.not_all;
      went_out = stops.went_out;
      sink_fails = stops.sink_fails;
    }
    reports_stop NoMemory (inl same) = inl same
    reports_stop NoMemory (inr took) = inr (record {
      texts = took.texts;
      are = some took.texts took.are;
      went_out = took.went_out;
      sink_stays = took.sink_stays;
    })
    reports_stop TooLong stops = stops
