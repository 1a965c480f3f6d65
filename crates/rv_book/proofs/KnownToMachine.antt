-- The state after an entry knows all whom the entry tells.
use Rattle.std.proofs.Common.{◌≡◌, ◌∷◌, ◌++◌, ◌∙◌, ℕ, List, [], length, Some, IsSome, refl, sym, ap, subst}
use Rattle.std.proofs.Common.{is_some}
use Rattle.std.proofs.lemmas.Option.{none-some, same_Some, slice_get-map}
use Rattle.std.specs.List.{slice_get}
use Rattle.rv_text.specs.declared.message.Key.{Key}
use Rattle.rv_text.specs.declared.call.Call.{Call}
use Rattle.rv_account.specs.declared.entry.Act.{Act}
use Rattle.rv_account.specs.declared.entry.Act.TheVariants.{Arrive, Cancel, Hello, Tick}
use Rattle.rv_account.specs.declared.entry.Entry.{Entry}
use Rattle.rv_account.specs.Account.{Account, act_at, key_in, with_entry}
use Rattle.rv_account.specs.rules.Legal.{Legal, MayFollow}
use Rattle.rv_account.specs.rules.Sessions.{HasIncarnation, SaidHello}
use Rattle.rv_account.proofs.OfRules.Fronts.{read_whole}
use Rattle.rv_account.proofs.OfRules.Growing.{act_read, reads_on}
use Rattle.rv_account.proofs.OfRules.Places.{get-append_end}
use Rattle.rv_account.proofs.OfRules.Waits.{arrival}
use Rattle.rv_account.specs.state.Agreement.{IsStateOf}
use Rattle.rv_account.specs.state.State.{State, client_at}
use Rattle.rv_account.specs.state.After.{Settled, following}
use Rattle.rv_account.proofs.OfState.Coming.{Comes}
use Rattle.rv_account.proofs.OfState.KnownClients.{has_client}
use Rattle.rv_account.proofs.OfState.Stated.{stated}
use Rattle.rv_account.proofs.OfState.Telling.{settled_replies}
use Rattle.rv_book.specs.reply_cache.Keeping.{AreKept, client_of}
use Rattle.rv_machine.specs.Machines.{keys_settled}
use Rattle.rv_book.specs.Operations.{AreKnown, Kepts}
use Rattle.rv_book.proofs.KeptAfter.{came_of}

-- ---- who said a hello

asked_said : (a : Account) (r : ℕ) (key : Key) (call : Call) → Legal a
    → act_at a.entries r ≡ Some (Arrive key call) → SaidHello a.entries key.client
asked_said a r key call legal arrived =
    let own = (arrival a r key call legal arrived).incarnation in (
      own.0,
      key.incarnation,
      own.1.version,
      (read_whole act_read refl a.entries r own.0 _ own.1.hello).1,
    )

said_on : (es : List Entry) (e : Entry) (client : ℕ) → SaidHello es client → SaidHello (es ++ e ∷ []) client
said_on es e client said = (said.0, said.1, said.2, reads_on act_read refl es (e ∷ []) said.0 _ said.3)

pub has_said : (es : List Entry) (client incarnation : ℕ) → HasIncarnation es client incarnation
    → SaidHello es client
has_said es client incarnation has = (has.0, incarnation, has.1.version, has.1.hello)

-- the client of an entry's act said a hello, with that entry
own_said : (a : Account) (e : Entry) (client : ℕ) (does : Act) → MayFollow a e → e.act ≡ does
    → client_of does ≡ Some client → SaidHello (a.entries ++ e ∷ []) client
own_said a e client (Hello other incarnation version) follows is own = (
  length a.entries,
  incarnation,
  version,
  ap act_read (get-append_end a.entries e)
      ∙ ap Some (is ∙ ap (λ c. Hello c incarnation version) (same_Some _ _ own)),
)
own_said a e client (Arrive key call) follows is own =
    said_on a.entries e client
    (subst (SaidHello a.entries) (same_Some _ _ own)
    (has_said a.entries key.client key.incarnation (follows.numbers.of_session key (ap key_in is)).1))
own_said a e client (Cancel key) follows is own =
    said_on a.entries e client
    (subst (SaidHello a.entries) (same_Some _ _ own)
    (has_said a.entries key.client key.incarnation (follows.numbers.of_session key (ap key_in is)).1))
own_said a e client Tick follows is own = absurd (none-some client own)

-- ---- who is known

known_by : (a : Account) (s : State) (client : ℕ) → IsStateOf a s → SaidHello a.entries client
    → IsSome (client_at s client)
known_by a s client state said =
    ap is_some (has_client a client (client_at s client) (state.clients client) said).1

module _ (a : Account) (s : State) (e : Entry) (comes : Comes a s e) where
  abbrev after : State
  after = (following s e.moment e.act).after

  abbrev settles : List Settled
  settles = (following s e.moment e.act).settles

  stands_after : IsStateOf (with_entry a e) after
  stands_after = stated a s e comes

  pub own_known : (client : ℕ) → client_of e.act ≡ Some client → IsSome (client_at after client)
  own_known client own =
      known_by (with_entry a e) after client stands_after
      (own_said a e client e.act comes.follows refl own)

  -- whom it settles said a hello before it
  settled_said : (i : ℕ) (x : Settled) → slice_get settles i ≡ Some x → SaidHello a.entries x.key.client
  settled_said i x at =
      let by = settled_replies a s e comes i x at in
      asked_said a by.place x.key by.call comes.legal by.waited.arrived

  settled_known : (i : ℕ) (key : Key) → slice_get (keys_settled settles) i ≡ Some key
      → SaidHello a.entries key.client
  settled_known i key at =
      let from = came_of (λ (x : Settled). x.key) (slice_get settles i) key
      (sym (slice_get-map (λ (x : Settled). x.key) settles i) ∙ at) in
      subst (λ (k : Key). SaidHello a.entries k.client) from.2 (settled_said i from.0 from.1)

  pub all_known : (kepts : Kepts) → AreKept a.entries s.clients kepts
      → AreKnown after kepts (keys_settled settles)
  all_known kepts are = record {
    sessions = λ i key at. known_by (with_entry a e) after key.client stands_after
        (said_on a.entries e key.client (settled_known i key at));
    kept = λ i key at.
        let there = has_client a key.client (client_at s key.client) (comes.state.clients key.client)
        (settled_known i key at) in
        ap is_some (are key.client there.0 there.1).there;
  }
