-- The words are the name and `version`.
use Rattle.std.proofs.Common.{codes, refl}
use Rattle.rv_words.proofs.OwnWords.{two_words}
use Rattle.rv_words.proofs.versions.asks_version.Goals as goal

pub returns-in-version : goal.returns-in-version
returns-in-version c = (
  λ _. two_words (codes "version") c.args.words.now _ c.in-version.len_at_least c.in-version.len_below
      c.in-version.is-version,
  λ _. refl,
)
