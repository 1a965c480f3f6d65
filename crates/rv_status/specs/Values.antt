-- The JSON value of a status, and its tokens.
use Rattle.std.specs.Prelude.{ℕ, List, [], ◌∷◌, codes, decimal, map, option_to_list}
use Rattle.json.specs.Token as token
use Rattle.json.specs.Token.{Token, key}
use Rattle.json.specs.Tree.{json_tokens}
use Rattle.serde_json.specs.Data.{Data, Members, array, member, no_members, number, object, string, unsigned}
use Rattle.serde_json.specs.View.{items_of}
use Rattle.serde_json.specs.Written.{outline}
use Rattle.rv_status.specs.declared.status.CallKind.{CallKind}
use Rattle.rv_status.specs.declared.status.CallKind.TheVariants.{Swap, Take, Transfer}
use Rattle.rv_status.specs.declared.status.HostStatus.{HostStatus}
use Rattle.rv_status.specs.declared.status.QueueRow.{QueueRow}
use Rattle.rv_status.specs.declared.status.StatusSample.{StatusSample}
use Rattle.rv_status.specs.declared.status.WaitingRow.{WaitingRow}
use Rattle.rv_status.specs.Rows.{MetricRow, number_rows}

abbrev pub call_word : CallKind → List ℕ
call_word Transfer = codes "transfer"
call_word Take = codes "take"
call_word Swap = codes "swap"

-- a whole number
abbrev pub cell_value : ℕ → Data
cell_value n = number (unsigned n)

-- a list of values
abbrev pub listed : List Data → Data
listed values = array (items_of values)

abbrev pub sample_value : StatusSample → Data
sample_value row = listed (map cell_value (row.second ∷ row.entries ∷ row.places ∷ row.account ∷ []))

abbrev pub queue_value : QueueRow → Data
queue_value row = listed (map cell_value (row.queue ∷ row.items ∷ row.consumers ∷ []))

-- the numbers of a request's row; the last one is there if it was found with no connection
abbrev pub request_cells : WaitingRow → List ℕ
request_cells row =
    row.at ∷ row.since ∷ row.client ∷ row.incarnation ∷ row.number ∷ option_to_list row.unheard

abbrev pub waiting_value : WaitingRow → Data
waiting_value row = listed (string (call_word row.call) ∷ map cell_value (request_cells row))

-- each number under its name
abbrev pub number_members : List MetricRow → Members
number_members [] = no_members
number_members (r ∷ rows) = member r.name (cell_value r.value) (number_members rows)

abbrev pub numbers_value : List MetricRow → Data
numbers_value rows = object (number_members rows)

-- the whole object, its members in the byte order of their names
abbrev pub status_value : HostStatus → Data
status_value s =
    object
    (member (codes "history") (listed (map sample_value s.history.items))
    (member (codes "numbers") (numbers_value (number_rows s.numbers))
    (member (codes "queues") (listed (map queue_value s.queues.items))
    (member (codes "unheard") (listed (map waiting_value s.unheard.items))
    (member (codes "version") (string s.version.now)
    (member (codes "waiting") (listed (map waiting_value s.waiting.items)) no_members))))))

-- ---- for private clauses: tokens

abbrev pub tokens_of : Data → List Token
tokens_of d = json_tokens (outline d)

abbrev pub cell_token : ℕ → Token
cell_token n = token.number (decimal n)

-- a member's name and its list
abbrev pub list_tokens : List ℕ → List Data → List Token
list_tokens name values = key name ∷ tokens_of (listed values)

-- a number's name and its value
abbrev pub number_tokens : MetricRow → List Token
number_tokens r = key r.name ∷ cell_token r.value ∷ []

-- the member of the version
abbrev pub version_tokens : List ℕ → List Token
version_tokens version = key (codes "version") ∷ token.string version ∷ []
