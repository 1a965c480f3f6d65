-- A connection that was visited goes after all others, or is let go.
use Rattle.std.proofs.Common.{◌≡◌, ◌∷◌, ℕ, Bool, List, Option, subst, sym}
use Rattle.http.specs.declared.request.Request.{Request}
use Rattle.http_server.specs.declared.response.Response.{Response}
use Rattle.rv_status.specs.declared.visitor.Visitor.{Visitor}
use Rattle.rv_status.specs.Visits.{StaysUnlessLeaving, IsVisit, Visits}

module _ {S P : Type 0} (remaining contents : S → Option (List ℕ))
    (answers : P → Request (List ℕ) → Response → P → Type 0) (now : ℕ) (old new : List (Visitor S))
    (before after : P) (some : Bool)
  where
    pub first_visited : (first left : Visitor S) (rest : List (Visitor S)) → old ≡ first ∷ rest
        → IsVisit remaining contents answers first left before after some
        → StaysUnlessLeaving now left rest new
        → Visits remaining contents answers now old new before after some
    first_visited first left rest is turn stays =
        subst (λ (l : List (Visitor S)). Visits remaining contents answers now l new before after some)
        (sym is)
        (left, turn, stays)
