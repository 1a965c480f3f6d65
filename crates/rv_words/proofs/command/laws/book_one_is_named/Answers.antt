-- By computing what clap makes of the words.
use Rattle.std.proofs.Common.{codes, refl, lit<, lit≤}
use Rattle.clap.proofs.OnLiterals.{clap_on_literals}
use Rattle.rv_words.specs.command.Laws.{BookOneIsNamed}
use Rattle.rv_text.proofs.Numbers.{all_in_range}
use Rattle.rv_words.proofs.command.laws.book_one_is_named.Goals as goal

named : BookOneIsNamed
unfolding clap_on_literals
named = record {
  taken = refl;
  said = (
    refl,
    (
      (
        record {
          some = lit≤ tt;
          within = lit≤ tt;
          are_digits = all_in_range (codes "1")
              (lit< tt, tt);
        },
        refl,
      ),
      (lit≤ tt, lit≤ tt),
    ),
  );
}

pub returns : goal.returns
returns c = named
