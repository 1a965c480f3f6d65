-- What an entry tells those whom it settles stands at its own place.
use Rattle.rv_account.proofs.OfState.Words.{◌≡◌, ◌∙◌, inl, inr, ℕ, List, length, Option, Some}
use Rattle.rv_account.proofs.OfState.Words.{option_and_then, refl}
use Rattle.rv_account.proofs.OfState.Words.{sym, ap, subst, slice_get, same_Some, Key, Call, Reply, item_of}
use Rattle.rv_account.proofs.OfState.Words.{Account, ClientState, OpenPlace}
use Rattle.rv_account.proofs.OfState.Words.{State}
use Rattle.rv_account.proofs.OfState.Words.{Settled}
use Rattle.rv_account.proofs.OfState.Words.{client_at, Waits, acted, told_met}
use Rattle.rv_account.specs.declared.entry.Entry.{Entry}
use Rattle.rv_account.specs.declared.entry.Act.{Act}
use Rattle.rv_account.specs.declared.entry.Act.TheVariants.{Arrive, Cancel, Hello, Tick}
use Rattle.rv_account.specs.state.State.{call_waiting}
use Rattle.rv_account.proofs.OfState.Coming.{Comes, more}
use Rattle.rv_account.proofs.OfState.Filtered.{chained_there}
use Rattle.rv_account.proofs.OfState.Settling.{tells, was_settled}
use Rattle.rv_account.proofs.OfState.ToldClients.{told_or_waits, told_request}
use Rattle.rv_book.proofs.KeptReplies.MetTexts.{met_text}
use Rattle.rv_book.proofs.KeptReplies.OwnTexts.{last_item, last_key}
use Rattle.rv_book.proofs.KeptReplies.TextsAt.{HasTextAt, KeepsAt, had_again}

module _ (a : Account) (s : State) (e : Entry) (comes : Comes a s e) where
  abbrev es : List Entry
  es = more a e

  abbrev n : ℕ
  n = length a.entries

  -- a partner is told the item or the key of the arrival that it meets
  tells_text : (does : Act) → e.act ≡ does → (there : OpenPlace) (waits : Key) (told : Reply)
      → tells s does there waits ≡ Some told → HasTextAt es n told
  tells_text (Hello client incarnation version) says there waits told is =
      subst (HasTextAt es n) (same_Some _ _ is) tt
  tells_text (Arrive key its) says there waits told is =
      let calls : Option Call =
      option_and_then (λ (c : ClientState). call_waiting c.request) (client_at s waits.client) in
      let by = chained_there (λ (c : Call). told_met s waits c (Some key) (item_of its)) calls told is in
      met_text es n (Some key) (item_of its) told (λ k same. last_key a e key its says ∙ same)
      (λ item has. last_item a e key its item says has) s waits by.0 by.2
  tells_text (Cancel key) says there waits told is = subst (HasTextAt es n) (same_Some _ _ is) tt
  tells_text Tick says there waits told is = subst (HasTextAt es n) (same_Some _ _ is) tt

  pub settled_text : (i : ℕ) (x : Settled) → slice_get (acted s e.moment e.act).settles i ≡ Some x
      → HasTextAt es n x.reply
  settled_text i x is =
      let by = was_settled a s e comes i x is in
      tells_text e.act refl by.there x.key x.reply by.is

  -- so what is kept by that place of a request that waited is what it is told, if it is
  pub told_keeps : (settles : List Settled) → (acted s e.moment e.act).settles ≡ settles
      → (client place : ℕ) (call : Call) → KeepsAt es n (told_request settles client (Waits place call))
  told_keeps settles made client place call = elim (told_or_waits settles client place call) [
    | inl untold ↦ subst (KeepsAt es n) (sym untold.is) tt
    | inr told ↦
        let there = ap (λ (l : List Settled). slice_get l told.i) made ∙ told.there in
        subst (KeepsAt es n) (sym told.is)
        (had_again es n told.settled.reply (settled_text told.i told.settled there))
  ]
