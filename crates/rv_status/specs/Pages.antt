-- Which page a request is for, and what answers it.
use Rattle.std.specs.Prelude.{ℕ, List, [], ◌∷◌, ◌++◌, ◌||◌, ◌≡◌, Bool, String, codes, if◌then◌else◌, nat_le}
use Rattle.std.specs.Str.{bytes_eq}
use Rattle.std.specs.declared.alloc.Global.{Global}
use Rattle.http.specs.declared.request.Request.{Request}
use Rattle.http.specs.Request.{head_of}
use Rattle.http1.specs.Fields.{Header}
use Rattle.http_server.specs.declared.response.Response.{Response}
use Rattle.http_server.specs.Response.{IsResponse}
use Rattle.http_uri.specs.Uri.{uri_path}
use Rattle.serde_json.specs.Written.{compact_text}
use Rattle.rv_status.specs.Hosts.{IsOwn}
use Rattle.rv_status.specs.declared.numbers.StatusNumbers.{StatusNumbers}
use Rattle.rv_status.specs.declared.page.TheConstants.{PAGE}
use Rattle.rv_status.specs.declared.pages.StatusPage.{StatusPage}
use Rattle.rv_status.specs.declared.pages.StatusPage.TheVariants as pages
use Rattle.rv_status.specs.declared.status.HostStatus.{HostStatus}
use Rattle.rv_status.specs.Texts.{metrics_text}
use Rattle.rv_status.specs.Values.{status_value}

-- the page of a path
abbrev pub page_named : List ℕ → StatusPage
page_named path =
    if bytes_eq path (codes "/") then pages.Front
    else (if bytes_eq path (codes "/status.json") then pages.Status
    else (if bytes_eq path (codes "/metrics") then pages.Metrics
    else (if bytes_eq path (codes "/healthz") then pages.Health
    else (if bytes_eq path (codes "/readyz") then pages.Ready
    else pages.Unknown))))

-- only GET and HEAD are for a page
abbrev pub page_for : List ℕ → List ℕ → StatusPage
page_for method path =
    if bytes_eq method (codes "GET") || bytes_eq method (codes "HEAD") then page_named path else
    pages.NotAllowed

-- the page of a request: a query after its path changes nothing
abbrev pub page_of : Request (List ℕ) → StatusPage
page_of request = page_for (head_of request).method (uri_path (head_of request).uri)

-- the page with which a server of these names answers a request; a request for another host gets none
pub record IsToAnswerBy (names : List (String Global)) (request : Request (List ℕ)) (page : StatusPage) :
    Type 0 where
  pub here : IsOwn names request → page ≡ page_of request
  pub elsewhere : ¬ IsOwn names request → page ≡ pages.Elsewhere

-- new clients, items or connections find no place
abbrev pub is_full : StatusNumbers → Bool
is_full n =
    nat_le n.clients_limit n.clients || nat_le n.open_places_limit n.open_places
    || nat_le n.connections_limit n.connections

-- the HTTP status that says whether the server is full
abbrev pub ready_code : Bool → ℕ
ready_code is_full = if is_full then 503 else 200

abbrev pub ready_word : Bool → List ℕ
ready_word is_full = if is_full then codes "full" ++ 10 ∷ [] else codes "ready" ++ 10 ∷ []

-- a page's status
abbrev pub page_code : StatusNumbers → StatusPage → ℕ
page_code n pages.Front = 200
page_code n pages.Status = 200
page_code n pages.Metrics = 200
page_code n pages.Health = 200
page_code n pages.Ready = ready_code (is_full n)
page_code n pages.Elsewhere = 421
page_code n pages.Unknown = 404
page_code n pages.NotAllowed = 405

-- the content type of its body
abbrev pub page_type : StatusPage → List ℕ
page_type pages.Front = codes "text/html; charset=utf-8"
page_type pages.Status = codes "application/json"
page_type pages.Metrics = codes "text/plain; version=0.0.4"
page_type pages.Health = codes "text/plain"
page_type pages.Ready = codes "text/plain"
page_type pages.Elsewhere = codes "text/plain"
page_type pages.Unknown = codes "text/plain"
page_type pages.NotAllowed = codes "text/plain"

-- its body; the short ones end with LF (10)
abbrev pub page_body : HostStatus → StatusPage → List ℕ
page_body s pages.Front = PAGE.now
page_body s pages.Status = compact_text (status_value s)
page_body s pages.Metrics = metrics_text s
page_body s pages.Health = codes "turning" ++ 10 ∷ []
page_body s pages.Ready = ready_word (is_full s.numbers)
page_body s pages.Elsewhere = codes "no such host: --status-name" ++ 10 ∷ []
page_body s pages.Unknown = codes "no such page" ++ 10 ∷ []
page_body s pages.NotAllowed = codes "GET or HEAD" ++ 10 ∷ []

-- the fields in front of a body
abbrev pub fields_for : StatusPage → List Header
fields_for page =
    (codes "content-type", page_type page)
    ∷ (codes "cache-control", codes "no-store")
    ∷ (codes "allow", codes "GET, HEAD")
    ∷ (codes "connection", codes "close")
    ∷ []

-- what a page answers
abbrev pub IsShown : HostStatus → StatusPage → Response → Type 0
IsShown s page = IsResponse (page_code s.numbers page) (fields_for page) (page_body s page)
