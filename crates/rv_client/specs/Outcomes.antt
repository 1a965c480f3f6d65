-- What `welcome` and `hear` answer, as an outcome of the process.
use Rattle.rv_client.specs.declared.hello.WelcomeOutcome.{WelcomeOutcome}
use Rattle.rv_client.specs.declared.hello.WelcomeOutcome as greeted
use Rattle.rv_client.specs.declared.request.HearOutcome.{HearOutcome}
use Rattle.rv_client.specs.declared.request.HearOutcome as heard
use Rattle.rv_client.specs.Process.{Outcome, Welcomed, TurnedAway, Settled, EpochEnded, Replaced, Ignored}
use Rattle.rv_client.specs.Process as process

abbrev pub greeted_as : WelcomeOutcome → Outcome
greeted_as (greeted.TheVariants.Idle next) = Welcomed next
greeted_as (greeted.TheVariants.Again same) = Ignored (process.New same)
greeted_as (greeted.TheVariants.Refused same refusal) = TurnedAway same refusal

abbrev pub heard_as : HearOutcome → Outcome
heard_as (heard.TheVariants.Settled next reply) = Settled next reply
heard_as (heard.TheVariants.Still same) = Ignored (process.Outstanding same)
heard_as (heard.TheVariants.EpochEnded key current) = EpochEnded key current
heard_as (heard.TheVariants.Replaced key current) = Replaced key current
