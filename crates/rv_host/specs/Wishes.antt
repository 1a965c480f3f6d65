-- The epochs that a server's options allow.
use Rattle.rv_store.specs.declared.wish.EpochWish.{EpochWish}
use Rattle.rv_words.specs.options.Epochs.{least_epoch, most_epoch}
use Rattle.rv_words.specs.declared.options.HostOptions.{HostOptions}

abbrev pub wish_of : HostOptions → EpochWish
wish_of options = record {
  least = least_epoch options.epoch;
  most = most_epoch options.epoch;
  is_new = options.new_epoch;
}
