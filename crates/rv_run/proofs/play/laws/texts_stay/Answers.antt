-- By the turns after it, which only add.
use Rattle.rv_world.proofs.OfParts.Listing.{place_of}
use Rattle.rv_run.proofs.OfPlay.Running.{text_stays}
use Rattle.rv_run.proofs.play.laws.texts_stay.Goals as goal

pub returns : goal.returns
returns c w v turns turn plays there =
    let place = place_of turns turn there in
    text_stays c.runs_only_grow.ensures turns place.0 w v turn plays place.1
