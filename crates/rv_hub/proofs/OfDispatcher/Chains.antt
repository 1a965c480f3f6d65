-- Effects one after another.
use Rattle.std.proofs.Common.{ℕ, List, [], ◌∷◌, ◌++◌, ◌≡◌, ◌∙◌, ap, drop, length, subst, sym}
use Rattle.std.proofs.lemmas.Grind.{flat_map-append}
use Rattle.std.proofs.lemmas.List.{drop-drop, length-append}
use Rattle.rv_hub.specs.dispatcher.View.{DispatcherState, DispatcherTerms}
use Rattle.rv_hub.specs.dispatcher.Effects.{Effect, DoesAll, bytes_by, bytes_in}
use Rattle.rv_hub.specs.dispatcher.Order.{RunsStrides, effects_of, left_behind}

pub does_append : (terms : DispatcherTerms) (xs ys : List Effect) (a b c : DispatcherState)
    → DoesAll terms a xs b
    → DoesAll terms b ys c → DoesAll terms a (xs ++ ys) c
does_append terms [] ys a b c same rest = subst (λ (s : DispatcherState). DoesAll terms s ys c) same rest
does_append terms (x ∷ xs) ys a b c (between, does, more) rest = (
  between,
  does,
  does_append terms xs ys between b c more rest,
)

pub left_append : (piece : List ℕ) (xs ys : List Effect)
    → left_behind piece (xs ++ ys) ≡ left_behind (left_behind piece xs) ys
left_append piece xs ys =
    ap (λ n. drop n piece) (ap length (flat_map-append bytes_by xs ys) ∙ length-append (bytes_in xs) (bytes_in
    ys))
    ∙ sym (drop-drop (length (bytes_in ys)) (length (bytes_in xs)) piece)

pub runs_append : (terms : DispatcherTerms) (xs ys : List (Effect × List Effect)) (a b c : DispatcherState)
    (piece : List ℕ)
    → RunsStrides terms a piece xs b → RunsStrides terms b (left_behind piece (effects_of xs)) ys c
    → RunsStrides terms a piece (xs ++ ys) c
runs_append terms [] ys a b c piece same rest =
    subst (λ (s : DispatcherState). RunsStrides terms s piece ys c) same rest
runs_append terms (x ∷ xs) ys a b c piece (between, may, does, more) rest = (
  between,
  may,
  does,
  runs_append terms xs ys between b c (left_behind piece (x.0 ∷ x.1)) more
      (subst (λ left. RunsStrides terms b left ys c) (left_append piece (x.0 ∷ x.1) (effects_of xs)) rest),
)
