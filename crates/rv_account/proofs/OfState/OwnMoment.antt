-- The own moment of a legal account is the greatest of its moments, so a moment keeps the time exactly where
-- it isn't less.
use Rattle.rv_account.proofs.OfState.Words.{◌≡◌, ◌<◌, ◌≤◌, ◌∙◌, inl, inr, ℕ, length, Option, Some, None}
use Rattle.rv_account.proofs.OfState.Words.{option_map}
use Rattle.rv_account.proofs.OfState.Words.{refl, sym, ap, arith, slice_get, cases_lt, none-some, same_Some}
use Rattle.rv_account.proofs.OfState.Words.{Entry}
use Rattle.rv_account.proofs.OfState.Words.{Account, own_moment, Legal, reads_within}
use Rattle.std.proofs.Common.{◌-◌}
use Rattle.std.specs.Prelude.{unwrap_or}
use Rattle.std.proofs.lemmas.Option.{slice_get_cases}
use Rattle.rv_account.specs.rules.Legal.{KeepsTime}
use Rattle.rv_account.proofs.OfRules.Fronts.{read_front}
use Rattle.rv_account.proofs.OfRules.Growing.{moment_read}

-- the last entry's moment is the greatest
pub own_by : (a : Account) → Legal a → (o : Option Entry) → slice_get a.entries (length a.entries - 1) ≡ o
    → KeepsTime a (unwrap_or (option_map (λ e. e.moment) o) a.opened)
own_by a legal None last = record {
  opened = omega arith;
  since = λ r moment there.
      let inside : r < length a.entries = reads_within moment_read refl a.entries r moment there in
      elim (slice_get_cases a.entries (length a.entries - 1)).1 [
        | inl found ↦ absurd (none-some found.0 (sym last ∙ found.2))
        | inr past ↦ let short : length a.entries ≤ length a.entries - 1 = past.0 in absurd (omega arith)
      ];
}
own_by a legal (Some e) last =
    let time = (legal (length a.entries - 1) e last).moments.keeps_time in
    record {
      opened = time.opened;
      since = λ r moment there.
          let inside : r < length a.entries = reads_within moment_read refl a.entries r moment there in
          elim (cases_lt r (length a.entries - 1)) [
            | inl before ↦ time.since r moment
                (read_front moment_read a.entries (length a.entries - 1) r moment before there)
            | inr at ↦
                let is : r ≡ length a.entries - 1 = omega arith in
                let same : moment ≡ e.moment =
                same_Some _ _
                (sym there ∙ ap (λ n. moment_read (slice_get a.entries n)) is ∙ ap moment_read last) in
                omega arith
          ];
    }

pub own_keeps_time : (a : Account) → Legal a → KeepsTime a (own_moment a)
own_keeps_time a legal = own_by a legal (slice_get a.entries (length a.entries - 1)) refl

pub later_keeps_time : (a : Account) (moment : ℕ) → Legal a → own_moment a ≤ moment → KeepsTime a moment
later_keeps_time a moment legal later =
    let own = own_keeps_time a legal in
    record {
      opened = let opened : a.opened ≤ own_moment a = own.opened in omega arith;
      since = λ r earlier there. let most : earlier ≤ own_moment a = own.since r earlier there in omega arith;
    }

-- the own moment is that of an entry, or the opening's
at_least : (a : Account) (moment : ℕ) → KeepsTime a moment → (o : Option Entry)
    → slice_get a.entries (length a.entries - 1) ≡ o
    → unwrap_or (option_map (λ e. e.moment) o) a.opened ≤ moment
at_least a moment time None last = time.opened
at_least a moment time (Some e) last = time.since (length a.entries - 1) e.moment (ap moment_read last)

pub time_is_later : (a : Account) (moment : ℕ) → KeepsTime a moment → own_moment a ≤ moment
time_is_later a moment time = at_least a moment time (slice_get a.entries (length a.entries - 1)) refl
