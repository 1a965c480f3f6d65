-- The options that words name if they give only an address.
use Rattle.std.specs.Prelude.{codes, List, None, false, [], ◌∷◌, ◌≡◌}
use Rattle.clap.specs.Words.{Text}
use Rattle.rv_words.specs.options.Options.{NamesOptions}
use Rattle.rv_words.specs.declared.options.epoch.EpochRule.TheVariants.{Clock}
use Rattle.rv_words.specs.declared.options.HostOptions.{HostOptions}

-- `host --listen 127.0.0.1:7411`
abbrev pub bare_words : List Text
bare_words = codes "host" ∷ codes "--listen" ∷ codes "127.0.0.1:7411" ∷ []

-- the options have that address, and defaults for all others
pub record AreBare (options : HostOptions) : Type 0 where
  pub listens : options.listen.now ≡ codes "127.0.0.1:7411"
  pub by_clock : options.epoch ≡ Clock
  pub begins_none : options.new_epoch ≡ false
  pub syncs : options.no_sync ≡ false
  pub boots_none : options.boot ≡ None
  pub keeps_none : options.account ≡ None
  pub stores_none : options.store ≡ None
  pub tells_none : options.status ≡ None
  pub tells_as_none : options.status_names ≡ None
  pub clients : options.limits.clients ≡ 65536
  pub opens : options.limits.open_places ≡ 100000
  pub connects : options.limits.connections ≡ 10000
  pub connects_from : options.limits.connections_from ≡ 1000000
  pub holds : options.limits.memory ≡ 256
  pub idles : options.limits.idle ≡ 3600
  pub stalls : options.limits.stall ≡ 30
  pub speaks : options.quiet ≡ false

-- the words name such options
abbrev pub BareAreNamed : Type 0
BareAreNamed = (options : HostOptions) → AreBare options → NamesOptions bare_words options

-- and no others
abbrev pub BareAlone : Type 0
BareAlone = (options : HostOptions) → NamesOptions bare_words options → AreBare options
