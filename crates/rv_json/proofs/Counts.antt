-- A list and an object in memory have as many values as their views.
use Rattle.std.proofs.Common.{◌≡◌, List, length, String, Global}
use Rattle.serde_json.specs.View.{items_view, members_view}
use Rattle.serde_json.specs.declared.value.Value.{Value}
use Rattle.serde_json.specs.Events.{items_len, members_len}
use Rattle.serde_json.proofs.Views.{items_len-items_view, members_len-members_view}

pub items_counted : (vs : List Value) → items_len (items_view vs) ≡ length vs
items_counted = items_len-items_view

-- as many members as the map has entries
pub members_counted : (es : List (String Global × Value)) → members_len (members_view es) ≡ length es
members_counted = members_len-members_view
