-- A map's `remove` gives what the members have at the name, and leaves the others.
use Rattle.std.proofs.Common.{◌≡◌, ℕ, List, [], ◌∷◌, Ordering, Less, Equal, Greater, option_map, cond, is_eq}
use Rattle.std.proofs.Common.{string_bytes, refl, ap, ◌∙◌}
use Rattle.std.specs.BTreeMap.{is_at}
use Rattle.std.specs.Cmp.Lexicographic.{slice_cmp}
use Rattle.std.specs.Map.{remove_entry}
use Rattle.std.specs.Ordering.{match_ordering, nat_cmp}
use Rattle.serde_json.specs.Data.{Members, member}
use Rattle.serde_json.specs.View.{view, members_view}
use Rattle.serde_json.proofs.Views.{view-lookup, Entry}
use Rattle.rv_json.specs.Finding.{without}
use Rattle.rv_json.proofs.members.take_member.Goals as goal

kept_or : (o : Ordering) (e : Entry) (es kept : List Entry) (left : Members) → members_view kept ≡ left
    → members_view (cond (is_eq o) es (e ∷ kept))
    ≡ match_ordering o
    (member (string_bytes e.0) (view e.1) left)
    (members_view es)
    (member (string_bytes e.0) (view e.1) left)
kept_or Less e es kept left same = ap (member (string_bytes e.0) (view e.1)) same
kept_or Equal e es kept left same = refl
kept_or Greater e es kept left same = ap (member (string_bytes e.0) (view e.1)) same

view-remove_entry : (name : List ℕ) (es : List Entry)
    → members_view (remove_entry (is_at (λ k. slice_cmp nat_cmp name (string_bytes k))) es)
    ≡ without name (members_view es)
view-remove_entry name [] = refl
view-remove_entry name (e ∷ es) =
    kept_or (slice_cmp nat_cmp name (string_bytes e.0)) e es _ _ (view-remove_entry name es)

pub returns-clause-found : goal.returns-clause-found
returns-clause-found c =
    ap (option_map view) c.remove.ensures.value ∙ view-lookup c.args.name.now c.args.map.now.entries

pub returns-clause-left : goal.returns-clause-left
returns-clause-left c =
    ap members_view c.remove.ensures.entries ∙ view-remove_entry c.args.name.now c.args.map.now.entries
