-- The members of a request in byte order of their names.
use Rattle.std.proofs.Common.{◌≡◌, ℕ, List, map, codes, Option, Some, None, refl}
use Rattle.serde_json.specs.Data.{string, number, unsigned, Members, member, no_members}
use Rattle.rv_json.specs.Writing.{ahead_of}
use Rattle.rv_text.specs.declared.message.Key.{Key}
use Rattle.rv_text.specs.declared.call.Wait.{Wait}
use Rattle.rv_text.specs.declared.call.Side.{Side}
use Rattle.rv_text.specs.declared.call.Side.TheVariants as side
use Rattle.rv_text.specs.Calls.{Nature}
use Rattle.rv_text.specs.Members.{Member, field_of, members_of}
use Rattle.rv_text.specs.Rows.{item_row, nature_row}
use Rattle.rv_text.specs.Writing.{exchanger_row, queue_row, max_row, wait_unless_max_row}
use Rattle.rv_text.proofs.Sound.{request_row}

abbrev ahead : List Member → Members → Members
ahead row rest = ahead_of rest (map field_of row)

abbrev whole_at : List ℕ → ℕ → Members → Members
whole_at name n rest = member name (number (unsigned n)) rest

-- as they are written
abbrev written : Key → List ℕ → Side → Option Wait → Option ℕ → Option (List ℕ) → Members
written key name at waits drains gives =
    member (codes "call") (string name)
    (whole_at (codes "client") key.client
    (whole_at (codes "epoch") key.epoch
    (ahead (exchanger_row at)
    (whole_at (codes "incarnation") key.incarnation
    (ahead (item_row gives)
    (member (codes "kind") (string (codes "request"))
    (ahead (max_row drains)
    (whole_at (codes "number") key.number
    (ahead (queue_row at)
    (ahead (wait_unless_max_row drains waits) no_members))))))))))

abbrev nature_with : List ℕ → Side → Option Wait → Option ℕ → Option (List ℕ) → Nature
nature_with name at waits drains gives =
    record { word = name; side = at; wait = waits; drains = drains; item = gives }

pub request_ordered : (key : Key) (name : List ℕ) (at : Side) (waits : Option Wait) (drains : Option ℕ)
    (gives : Option (List ℕ)) → members_of (request_row key (nature_with name at waits drains gives))
    ≡ written key name at waits drains gives
request_ordered key name (side.Exchanges exchanger) None None None = refl
request_ordered key name _ None None None = refl
request_ordered key name (side.Exchanges exchanger) None None (Some item) = refl
request_ordered key name _ None None (Some item) = refl
request_ordered key name (side.Exchanges exchanger) (Some waits) None None = refl
request_ordered key name _ (Some waits) None None = refl
request_ordered key name (side.Exchanges exchanger) (Some waits) None (Some item) = refl
request_ordered key name _ (Some waits) None (Some item) = refl
request_ordered key name (side.Exchanges exchanger) waits (Some max) None = refl
request_ordered key name _ waits (Some max) None = refl
request_ordered key name (side.Exchanges exchanger) waits (Some max) (Some item) = refl
request_ordered key name _ waits (Some max) (Some item) = refl

-- a call alone, as it is written
abbrev written_alone : List ℕ → Side → Option Wait → Option ℕ → Option (List ℕ) → Members
written_alone name at waits drains gives =
    member (codes "call") (string name)
    (ahead (exchanger_row at)
    (ahead (item_row gives)
    (ahead (max_row drains)
    (ahead (queue_row at)
    (ahead (wait_unless_max_row drains waits) no_members)))))

pub call_ordered : (name : List ℕ) (at : Side) (waits : Option Wait) (drains : Option ℕ)
    (gives : Option (List ℕ)) → members_of (nature_row (nature_with name at waits drains gives))
    ≡ written_alone name at waits drains gives
call_ordered name (side.Exchanges exchanger) None None None = refl
call_ordered name _ None None None = refl
call_ordered name (side.Exchanges exchanger) None None (Some item) = refl
call_ordered name _ None None (Some item) = refl
call_ordered name (side.Exchanges exchanger) (Some waits) None None = refl
call_ordered name _ (Some waits) None None = refl
call_ordered name (side.Exchanges exchanger) (Some waits) None (Some item) = refl
call_ordered name _ (Some waits) None (Some item) = refl
call_ordered name (side.Exchanges exchanger) waits (Some max) None = refl
call_ordered name _ waits (Some max) None = refl
call_ordered name (side.Exchanges exchanger) waits (Some max) (Some item) = refl
call_ordered name _ waits (Some max) (Some item) = refl

-- a nature is its parts
pub same_nature : (n : Nature) (name : List ℕ) (at : Side) (waits : Option Wait) (drains : Option ℕ)
    (gives : Option (List ℕ))
    → name ≡ n.word → at ≡ n.side → waits ≡ n.wait → drains ≡ n.drains → gives ≡ n.item
    → nature_with name at waits drains gives ≡ n
same_nature n name at waits drains gives a b c d e = rw a (rw b (rw c (rw d (rw e refl))))
