-- The version comes after its head.
use Rattle.std.proofs.Common.{codes}
use Rattle.std.proofs.lemmas.Result.{on_ok_weaker}
use Rattle.rv_status.specs.declared.numbers.MetricKind.TheVariants.{Gauge}
use Rattle.rv_status.specs.Texts.{family_head, version_text}
use Rattle.rv_status.proofs.Told.{headed}
use Rattle.rv_status.proofs.metrics.put_build.Goals as goal

pub returns : goal.returns
returns c =
    on_ok_weaker c.put_version.result
    (headed (family_head (codes "rv_build_info") (codes "The version of this build.") Gauge)
    (version_text c.args.version.now) _ _ _ c.in_ok-put_head.ensures) c.put_version.ensures
