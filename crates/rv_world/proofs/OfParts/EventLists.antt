-- Lists of events, one event after the other.
use Rattle.rv_world.proofs.OfParts.Words.{◌≡◌, ◌<◌, ◌+◌, ◌∷◌, ◌++◌, ◌∙◌, ℕ, List, [], length, refl, sym, ap}
use Rattle.rv_world.proofs.OfParts.Words.{subst, arith, Event, Seen, World, Steps, Runs}
use Rattle.std.proofs.Common.{suc, take}
use Rattle.std.proofs.Math.Seq.{take-suc}
use Rattle.std.proofs.Math.ListN.{get_or}

-- one event more
runs_push : (w : World) (events : List Event) (e : Event) (v u : World) (shows : Seen) → Runs w events v
    → Steps v e u shows → Runs w (events ++ e ∷ []) u
runs_push w [] e v u shows runs steps = (u, shows, subst (λ (x : World). Steps x e u shows) runs steps, refl)
runs_push w (d ∷ events) e v u shows runs steps = (
  runs.0,
  runs.1,
  runs.2,
  runs_push runs.0 events e v u shows
      runs.3 steps,
)

pub runs_on : (w : World) (events : List Event) (i : ℕ) (e : Event) (v u : World) (shows : Seen)
    → i < length events → e ≡ get_or events i e
    → Runs w (take i events) v → Steps v e u shows → Runs w (take (i + 1) events) u
runs_on w events i e v u shows less is runs steps =
    let next : i + 1 ≡ suc i = omega arith in
    let front : take (i + 1) events ≡ take i events ++ e ∷ [] =
    ap (λ (n : ℕ). take n events) next ∙ take-suc events i e less ∙ ap (λ (x : Event). take i events ++ x
    ∷ []) (sym is) in
    subst (λ (l : List Event). Runs w l u) (sym front) (runs_push w (take i events) e v u shows runs steps)
