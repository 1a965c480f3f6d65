-- The address from which a connection comes, and how many open ones come from one address.
use Rattle.std.specs.Prelude.{ℕ, ◌<◌, ◌&&◌, Bool, List, None, Option, Some, eqb, false, is_some}
use Rattle.std.specs.Int.{from_be_bytes, w128}
use Rattle.std.specs.List.{count_by, zip}
use Rattle.std.specs.Net.Addr.{embedded_segments, ipv6_bits, octets_of}
use Rattle.std.specs.declared.net.ip_addr.IpAddr.{IpAddr}
use Rattle.std.specs.declared.net.ip_addr.IpAddr.TheVariants as family
use Rattle.rv_traffic.specs.declared.links.link.Socket.{Socket}

-- the number of an address: that of `::ffff:a.b.c.d` for one of IPv4
abbrev pub address_number : IpAddr → ℕ
address_number (family.V4 ip) = from_be_bytes w128 (octets_of (embedded_segments 0xffff ip))
address_number (family.V6 ip) = ipv6_bits ip

-- what was noted of a connection is this address
abbrev pub is_address : ℕ → Option ℕ → Bool
is_address address None = false
is_address address (Some from) = eqb from address

-- there is a socket, and its connection came from this address
abbrev pub is_from : {S : Type 0} → ℕ → Option ℕ → Option (Socket S) → Bool
is_from address from slot = is_some slot && is_address address from

-- how many there are
abbrev pub count_from : {S : Type 0} → List (Option ℕ) → List (Option (Socket S)) → ℕ → ℕ
count_from from table address = count_by (λ pair. is_from address pair.0 pair.1) (zip from table)

-- one more may come, where this many are there
abbrev pub MayCome : Option ℕ → ℕ → Type 0
MayCome None count = Unit {0}
MayCome (Some most) count = count < most
