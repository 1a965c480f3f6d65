-- Each step adds the first of the options that are left.
use Rattle.rv_words.proofs.Listing.{option_added, still_local}
use Rattle.rv_words.proofs.listed.listed_command.Goals as goal

pub loop-option-preserved : goal.loop-option-preserved
loop-option-preserved c =
    let adds = c.in_ok-command.ensures in
    let local = c.listed_option.ensures.local in
    record {
      app = option_added _ _ _ _ _ _ _ c.loop-option-test.true adds c.listed_option.ensures.rule local
          c.loop-option.invariant.app;
      local = still_local _ _ _ adds local c.loop-option.invariant.local;
    }
