-- An object in memory has as many members as its view.
use Rattle.std.proofs.Common.{◌≡◌, List, length, String, Global}
use Rattle.serde_json.specs.Events.{members_len}
use Rattle.serde_json.specs.View.{members_view}
use Rattle.serde_json.specs.declared.value.Value.{Value}
use Rattle.serde_json.proofs.Views.{members_len-members_view}

pub members_counted : (es : List (String Global × Value)) → members_len (members_view es) ≡ length es
members_counted = members_len-members_view
