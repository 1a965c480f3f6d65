-- Whose pages a request asks for: those of a host that is named by an address, by `localhost` or by a name
-- that the server was given. A page of another origin asks under its own name, wherever that leads to.
use Rattle.std.specs.Prelude.{ℕ, List, ◌≡◌, ◌==◌, ◌⊎◌, Bool, IsTrue, None, Option, Some, String, codes, drop}
use Rattle.std.specs.Prelude.{not}
use Rattle.std.specs.Prelude.{slice_index, string_bytes, take, ◌||◌}
use Rattle.std.specs.List.{list_any, prefix_len}
use Rattle.std.specs.Net.Grammar.{IsIpv4Text, IsIpv6Text}
use Rattle.std.specs.declared.net.ipv4_addr.Ipv4Addr.{Ipv4Addr}
use Rattle.std.specs.declared.net.ipv6_addr.Ipv6Addr.{Ipv6Addr}
use Rattle.std.specs.declared.alloc.Global.{Global}
use Rattle.http.specs.declared.request.Request.{Request}
use Rattle.http.specs.Request.{head_of}
use Rattle.http_header.specs.FieldValue.{FieldValue}
use Rattle.http_header.specs.HeaderMap.{get}
use Rattle.http1.specs.Text.{eq_ignore_case}

-- what stands in front of the first of these bytes
abbrev pub up_to_byte : ℕ → List ℕ → List ℕ
up_to_byte byte text = take (prefix_len (λ b. not (b == byte)) text) text

-- what stands before a port and its colon (58)
abbrev pub host_name : List ℕ → List ℕ
host_name = up_to_byte 58

-- `localhost` or one of the names, in any case
abbrev pub is_own_name : List (String Global) → List ℕ → Bool
is_own_name names name =
    eq_ignore_case name (codes "localhost") || list_any (λ own. eq_ignore_case name (string_bytes own)) names

abbrev pub IsIpv4 : List ℕ → Type 0
IsIpv4 text = (address : Ipv4Addr) × IsIpv4Text text address

abbrev pub IsIpv6 : List ℕ → Type 0
IsIpv6 text = (address : Ipv6Addr) × IsIpv6Text text address

-- an IPv6 address in brackets (91 and 93)
abbrev pub IsBracketed : List ℕ → Type 0
IsBracketed host = (slice_index host 0 ≡ 91) × IsIpv6 (up_to_byte 93 (drop 1 host))

-- a name or an address, with or without a port after it
abbrev pub IsOwnHost : List (String Global) → List ℕ → Type 0
IsOwnHost names host = IsTrue (is_own_name names (host_name host)) ⊎ (IsIpv4 (host_name host) ⊎ IsBracketed
    host)

-- the field `Host`, where there is one: in HTTP/1.0 there needn't be
abbrev pub IsOwnField : List (String Global) → Option FieldValue → Type 0
IsOwnField names None = Unit {0}
IsOwnField names (Some value) = IsOwnHost names value.bytes

abbrev pub IsOwn : List (String Global) → Request (List ℕ) → Type 0
IsOwn names request = IsOwnField names (get (head_of request).headers (codes "host"))
