-- Of each client that an entry settles, what is kept after it by the entry's place is what its last request
-- is told again.
use Rattle.rv_account.proofs.OfState.Words.{◌++◌, ◌≡◌, ◌⊎◌, ◌∷◌, ◌∙◌, [], inl, inr, ℕ, List, length, Option}
use Rattle.rv_account.proofs.OfState.Words.{Some, None}
use Rattle.rv_account.proofs.OfState.Words.{option_and_then, option_map, refl, sym, ap, subst, none-some}
use Rattle.rv_account.proofs.OfState.Words.{same_Some}
use Rattle.rv_account.proofs.OfState.Words.{slice_get, Account}
use Rattle.rv_account.proofs.OfState.Words.{key_in}
use Rattle.rv_account.proofs.OfState.Words.{HasWaiting, ClientState, State, Settled, client_at}
use Rattle.rv_account.proofs.OfState.Words.{client_waits, Waits}
use Rattle.rv_account.proofs.OfState.Words.{acted, following}
use Rattle.rv_account.specs.declared.entry.Entry.{Entry}
use Rattle.rv_account.specs.declared.entry.Act.{Act}
use Rattle.rv_account.specs.declared.entry.Act.TheVariants.{Arrive, Cancel, Hello, Tick}
use Rattle.rv_account.proofs.OfRules.Numbers.{same_or_not}
use Rattle.rv_account.specs.state.Moves.{told_again}
use Rattle.rv_account.proofs.OfState.Coming.{Comes, more}
use Rattle.rv_account.proofs.OfState.Sessions.{waits_in_state}
use Rattle.rv_account.proofs.OfState.Telling.{IsSettledBy, settled_replies}
use Rattle.rv_account.proofs.OfState.ToldClients.{told_client, told_request}
use Rattle.rv_book.specs.reply_cache.Keeping.{IsKeptAs, client_of, kept_again}
use Rattle.rv_book.proofs.KeptReplies.OwnKept.{cancel_kept, hello_kept}
use Rattle.rv_book.proofs.KeptReplies.RequestsAfter.{others_told}
use Rattle.rv_book.proofs.KeptReplies.SettledTexts.{told_keeps}
use Rattle.rv_book.proofs.KeptReplies.TextsAt.{KeepsAt}

pub names_or_not : (o : Option ℕ) (client : ℕ) → (o ≡ Some client) ⊎ (o ≡ Some client → ⊥)
names_or_not None client = inr (λ is. none-some client is)
names_or_not (Some c) client = elim (same_or_not c client) [
  | inl same ↦ inl (ap Some same)
  | inr other ↦ inr (λ is. other (same_Some _ _ is))
]

module _ (a : Account) (s : State) (e : Entry) (comes : Comes a s e) (x : Settled)
    (by : IsSettledBy a e x) (session : ClientState) where
  abbrev es : List Entry
  es = more a e

  abbrev n : ℕ
  n = length a.entries

  abbrev client : ℕ
  client = x.key.client

  -- one that the entry names
  named_kept : (does : Act) → e.act ≡ does → client_of does ≡ Some client
      → client_at (acted s e.moment does).after client ≡ Some session → KeepsAt es n session.request
  named_kept (Hello c i v) says names there = hello_kept a s e comes client session c i v names there n
  named_kept (Arrive key its) says names there =
      let waiting : HasWaiting a.entries key.client = record {
        place = by.place;
        key = x.key;
        waits = by.waited.waits;
        names = record {
          named = ap (option_and_then key_in) by.waited.arrived;
          of_client = sym (same_Some _ _ names);
        };
      } in
      absurd ((comes.follows.numbers.counts_up key its says).idle waiting)
  named_kept (Cancel key) says names there =
      cancel_kept a s e comes client session key says names (client_waits s key.client) refl there
  named_kept Tick says names there = absurd (none-some client names)

  -- any other is told, for it waited
  other_told : (client_of e.act ≡ Some client → ⊥)
      → client_at (acted s e.moment e.act).after client ≡ Some session → KeepsAt es n session.request
  other_told other there =
      let settles : List Settled = (acted s e.moment e.act).settles in
      let was = waits_in_state a s x.key by.call by.place comes.legal comes.state by.waited.arrived
      by.waited.waits in
      let told : Some (told_client settles client was.session) ≡ Some session =
      sym (ap (option_map (told_client settles client)) was.there)
      ∙ sym (others_told s e.moment e.act client other)
      ∙ there in
      let is : told_request settles client (Waits by.place was.call) ≡ session.request =
      ap (told_request settles client) (sym was.request)
      ∙ ap (λ (c : ClientState). c.request) (same_Some _ _ told) in
      subst (KeepsAt es n) is (told_keeps a s e comes settles refl client by.place was.call)

  each_kept : client_at (acted s e.moment e.act).after client ≡ Some session → KeepsAt es n session.request
  each_kept there = elim (names_or_not (client_of e.act) client) [
    | inl names ↦ named_kept e.act refl names there
    | inr other ↦ other_told other there
  ]

pub settled_kept : (a : Account) (s : State) (e : Entry) → Comes a s e → (i : ℕ) (x : Settled)
    → slice_get (following s e.moment e.act).settles i ≡ Some x → (session : ClientState)
    → client_at (following s e.moment e.act).after x.key.client ≡ Some session
    → IsKeptAs (a.entries ++ e ∷ []) (kept_again (length a.entries) session.request)
    (told_again session.request)
settled_kept a s e comes i x at session there =
    each_kept a s e comes x (settled_replies a s e comes i x at) session there
