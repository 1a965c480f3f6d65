-- A write at a client that is known: it is there to be written, and the table is the old one with the new
-- state.
use Rattle.std.proofs.Common.{◌≡◌, ℕ, List, Option, Some, None, IsSome, is_some, refl, sym, subst, ap, ◌∙◌}
use Rattle.std.specs.Ordering.{nat_cmp}
use Rattle.std.specs.Map.{lookup}
use Rattle.std.specs.BTreeMap.{is_at}
use Rattle.std.specs.FinMap.{FinMap, get, insert}
use Rattle.std.proofs.lemmas.Bool.{false≢true}
use Rattle.rv_session.specs.declared.client.ClientState.{ClientState}
use Rattle.rv_session.specs.Entries.{map_of}
use Rattle.rv_session.specs.Clients.{ClientStates, insert_known, with_clients}
use Rattle.rv_session.proofs.OrderedMap.{get_tree}

some_of : {X Y : Type 0} (f : Option X → Option Y) → f None ≡ None → (o : Option X) → IsSome (f o) → IsSome o
some_of f none None is = absurd (false≢true (sym (ap is_some none) ∙ is))
some_of f none (Some x) is = refl

-- what a look-up lends of a client that is known
pub lent_there : {X V : Type 0} (f : Option X → Option V) → f None ≡ None → (o : Option X) (es : List (ℕ × V))
    (k : ℕ) → f o ≡ lookup (is_at (nat_cmp k)) es → IsSome (get (map_of es) k) → IsSome o
lent_there f none o es k value known =
    some_of f none o (ap is_some value ∙ subst IsSome (get_tree es k) known)

-- a table with this map
pub same_but_clients : (t : ClientStates) (clients becomes : FinMap nat_cmp ClientState) → clients ≡ becomes
    → record { epoch = t.epoch; most = t.most; clients = clients } ≡ with_clients t becomes
same_but_clients t clients becomes is = ap (with_clients t) is

-- the state of a client that is known was changed
pub changes_known : (t : ClientStates) (k : ℕ) (f : ClientState → ClientState) (s v : ClientState)
    (clients : FinMap nat_cmp ClientState) → get t.clients k ≡ Some s → v ≡ f s
    → clients ≡ insert t.clients k v
    → record { epoch = t.epoch; most = t.most; clients = clients }
    ≡ with_clients t (insert_known t.clients k f (get t.clients k))
changes_known t k f s v clients there is put =
    same_but_clients t clients (insert_known t.clients k f (get t.clients k))
    (put ∙ ap (insert t.clients k) is ∙ sym (ap (insert_known t.clients k f) there))
