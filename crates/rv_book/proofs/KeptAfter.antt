-- What is kept of each client fits the account with one entry more, once what that told was kept.
use Rattle.std.proofs.Common.{◌≡◌, ◌∷◌, ◌++◌, ◌∙◌, inl, inr, ℕ, List, [], length, Option, Some, None, refl}
use Rattle.std.proofs.Common.{sym, ap, subst}
use Rattle.std.proofs.Common.{option_and_then, option_map}
use Rattle.std.proofs.lemmas.Option.{none-some, same_Some, slice_get-map}
use Rattle.std.specs.List.{slice_get}
use Rattle.rv_text.specs.declared.message.Key.{Key}
use Rattle.rv_account.specs.declared.entry.Entry.{Entry}
use Rattle.rv_account.specs.Account.{Account}
use Rattle.rv_account.proofs.OfRules.Numbers.{same_or_not}
use Rattle.rv_account.specs.state.State.{ClientState, State, client_at}
use Rattle.rv_account.specs.state.After.{Settled, following}
use Rattle.rv_account.specs.state.Moves.{told_again}
use Rattle.rv_account.proofs.OfState.Coming.{Comes}
use Rattle.rv_account.proofs.OfState.ToldClients.{get_own, get_other}
use Rattle.rv_book.specs.reply_cache.Keeping.{AreKept, IsKept, IsKeptAs, client_of, front_of, kept_again}
use Rattle.rv_book.specs.reply_cache.Keeping.{source_of}
use Rattle.rv_book.proofs.KeptReplies.OwnKept.{own_kept}
use Rattle.rv_book.proofs.KeptReplies.SettledKept.{settled_kept}
use Rattle.rv_book.proofs.KeptReplies.OtherKept.{other_kept}
use Rattle.rv_book.proofs.KeptReplies.KeptOn.{kept_on}
use Rattle.rv_machine.specs.Machines.{keys_settled}
use Rattle.rv_book.specs.Operations.{Kepts, kept_after, kept_in, keeping_all, keeping_own}
use Rattle.rv_book.proofs.KeepingAll.{IsAmong, kept_or_was}

-- what is kept of a known client is what its last request was told
kept_of_known : (s : State) (place client : ℕ) (session : ClientState) → client_at s client ≡ Some session
    → kept_in s place client ≡ kept_again place session.request
kept_of_known s place client session there = ap (option_and_then (λ c. kept_again place c.request)) there

-- one of a mapped list comes of one of the list
pub came_of : {A B : Type 0} (f : A → B) (o : Option A) (y : B) → option_map f o ≡ Some y
    → (x : A) × (o ≡ Some x) × (f x ≡ y)
came_of f None y is = absurd (none-some y is)
came_of f (Some x) y is = (x, refl, same_Some _ _ is)

module _ (a : Account) (s : State) (e : Entry) (comes : Comes a s e) (kepts : Kepts)
    (are : AreKept a.entries s.clients kepts) where
  abbrev n : ℕ
  n = length a.entries

  abbrev after : State
  after = (following s e.moment e.act).after

  abbrev settles : List Settled
  settles = (following s e.moment e.act).settles

  abbrev es : List Entry
  es = a.entries ++ e ∷ []

  abbrev told_all : Kepts
  told_all = keeping_all after n kepts (keys_settled settles)

  abbrev own_place : ℕ
  own_place = source_of n (front_of after e.act) e

  -- of a client that the entry settled
  of_settled : (client : ℕ) (session : ClientState) → client_at after client ≡ Some session
      → IsAmong (keys_settled settles) client
      → IsKeptAs es (kept_again n session.request) (told_again session.request)
  of_settled client session there (i, key, at, same) =
      let from = came_of (λ (x : Settled). x.key) (slice_get settles i) key
      (sym (slice_get-map (λ (x : Settled). x.key) settles i) ∙ at) in
      let its : from.0.key.client ≡ client = ap (λ (k : Key). k.client) from.2 ∙ same in
      settled_kept a s e comes i from.0 from.1 session (ap (client_at after) its ∙ there)

  -- of one that it told nothing
  of_other : (client : ℕ) (session : ClientState) → client_at after client ≡ Some session
      → (client_of e.act ≡ Some client → ⊥) → (IsAmong (keys_settled settles) client → ⊥)
      → IsKept es kepts client session.request
  of_other client session there not_own not_among =
      let was = other_kept s e client not_own (λ i x at same. not_among (
        i,
        x.key,
        slice_get-map (λ (y : Settled). y.key) settles i ∙ ap (option_map (λ (y : Settled). y.key)) at,
        same,
      )) session there in
      let old = are client was.0 was.1 in
      record {
        kept = old.kept;
        there = old.there;
        stands = kept_on a.entries (e ∷ []) old.kept (told_again session.request)
            (subst (IsKeptAs a.entries old.kept) (sym was.2) old.stands);
      }

  -- once those who were settled were told
  of_told : (client : ℕ) (session : ClientState) → client_at after client ≡ Some session
      → (client_of e.act ≡ Some client → ⊥) → IsKept es told_all client session.request
  of_told client session there not_own = elim (kept_or_was after n (keys_settled settles) kepts client) [
    | inl now ↦ record {
      kept = kept_again n session.request;
      there = now.1 ∙ ap Some (kept_of_known after n client session there);
      stands = of_settled client session there now.0;
    }
    | inr still ↦
        let old = of_other client session there not_own still.0 in
        record { kept = old.kept; there = still.1 ∙ old.there; stands = old.stands }
  ]

  by_own : (own : Option ℕ) → client_of e.act ≡ own
      → AreKept es after.clients (keeping_own own after own_place told_all)
  by_own None is client session there =
      of_told client session there (λ also. none-some client (sym is ∙ also))
  by_own (Some own) is client session there = elim (same_or_not client own) [
    | inl same ↦ record {
      kept = kept_again own_place session.request;
      there = get_own told_all own (kept_in after own_place own) client same
          ∙ ap Some (ap (kept_in after own_place) (sym same)
          ∙ kept_of_known after own_place client session there);
      stands = own_kept a s e comes client session (is ∙ ap Some (sym same)) there;
    }
    | inr other ↦
        let told = of_told client session there (λ also. other (same_Some _ _ (sym also ∙ is))) in
        record {
          kept = told.kept;
          there = get_other told_all own (kept_in after own_place own) client other ∙ told.there;
          stands = told.stands;
        }
  ]

  pub kept_fits : AreKept es after.clients (kept_after after n e (keys_settled settles) kepts)
  kept_fits = by_own (client_of e.act) refl
