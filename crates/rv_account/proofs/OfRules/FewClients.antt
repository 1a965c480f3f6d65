-- That at most so many clients said a hello stays so, entry by entry.
use Rattle.rv_account.proofs.OfRules.Words.{◌≡◌, ◌+◌, ◌≤◌, ◌∷◌, ◌++◌, ◌∙◌, inl, inr, ℕ, List, [], length}
use Rattle.rv_account.proofs.OfRules.Words.{Some, refl}
use Rattle.rv_account.proofs.OfRules.Words.{sym, ap, subst, arith, cases_lt, none-some, Version, Hello}
use Rattle.rv_account.proofs.OfRules.Words.{Entry, Account}
use Rattle.rv_account.proofs.OfRules.Words.{act_at, NumberOf}
use Rattle.rv_text.specs.declared.answer.Refusal.{Refusal}
use Rattle.rv_text.specs.declared.answer.Refusal.TheVariants.{ClientsFull}
use Rattle.rv_account.specs.rules.Sessions.{SaidHello}
use Rattle.rv_account.specs.rules.StepLimits.{StepLimits, max_clients}
use Rattle.rv_account.specs.rules.Steps.{ClientsFullDueUnder}
use Rattle.rv_account.proofs.OfRules.Counting.{number_at_most, number_below, number_drop}
use Rattle.rv_account.proofs.OfRules.Deciding.{find_clients, said_or_not}
use Rattle.rv_account.proofs.OfRules.Growing.{act_read, reads_back, reads_on}
use Rattle.rv_account.proofs.OfRules.Keys.{hello_is_own}
use Rattle.rv_account.proofs.OfRules.Places.{get-append_end}

-- at most so many clients said a hello
abbrev pub ClientsAtMost : ℕ → List Entry → Type 0
ClientsAtMost most es = (clients : ℕ) → NumberOf (SaidHello es) clients → clients ≤ most

-- as many as a book may have
abbrev pub FewClients : List Entry → Type 0
FewClients = ClientsAtMost max_clients

-- with no entry
pub few_none : (most : ℕ) (es : List Entry) → es ≡ [] → ClientsAtMost most es
few_none most es none clients count =
    let zero : clients ≤ 0 = number_below (SaidHello es) clients 0
    (λ c said. absurd (none-some _ (sym (ap (λ (l : List Entry). act_at l said.0) none) ∙ said.3))) count
    in
    omega arith

-- after an entry that is no hello of a new client
pub few_still : (most : ℕ) (es : List Entry) (e : Entry)
    → ((client incarnation : ℕ) (v : Version) → Some e.act ≡ Some (Hello client incarnation v) → SaidHello es
    client) → ClientsAtMost most es → ClientsAtMost most (es ++ e ∷ [])
few_still most es e known few clients count =
    let found = find_clients es in
    let no_more : clients ≤ found.0 = number_at_most (SaidHello (es ++ e ∷ [])) (SaidHello es) clients found.0
    (λ c said. elim (reads_back act_read refl es e said.0 _ said.3) [
      | inl before ↦ (said.0, said.1, said.2, before.1)
      | inr last ↦ known c said.1 said.2 last.1
    ]) count found.1 in
    let bound : found.0 ≤ most = few found.0 found.1 in
    omega arith

-- after a hello for whose client there is room
module _ (a : Account) (e : Entry) (client incarnation : ℕ) (v : Version) (says : Some e.act ≡ Some
    (Hello client incarnation v)) where
  own_client : (c i : ℕ) (w : Version) → Some e.act ≡ Some (Hello c i w) → client ≡ c
  own_client c i w own = sym (hello_is_own e.act client incarnation v says) ∙ hello_is_own e.act c i w own

  pub few_with : (limits : StepLimits) (most : ℕ) → limits.clients ≤ most
      → ((refusal : Refusal) → ClientsFullDueUnder limits a client refusal → ⊥)
      → ClientsAtMost most a.entries → ClientsAtMost most (a.entries ++ e ∷ [])
  few_with limits most no_less room few clients count = elim (said_or_not a.entries client) [
    | inl known ↦ few_still most a.entries e (λ c i w own. subst (SaidHello a.entries) (own_client c i w own)
        known) few clients count
    | inr new ↦
        let own : SaidHello (a.entries ++ e ∷ []) client = (
          length a.entries,
          incarnation,
          v,
          ap act_read
              (get-append_end a.entries e) ∙ says,
        ) in
        let rest = number_drop (SaidHello (a.entries ++ e ∷ [])) (SaidHello a.entries) clients client count
        own (λ c. (
          (λ said. (
            (said.0, said.1, said.2, reads_on act_read refl a.entries (e ∷ []) said.0 _ said.3),
            λ same. new (subst (SaidHello a.entries) same said),
          )),
          (λ other. elim (reads_back act_read refl a.entries e other.0.0 _ other.0.3) [
            | inl before ↦ (other.0.0, other.0.1, other.0.2, before.1)
            | inr last ↦ absurd (other.1 (sym (own_client c other.0.1 other.0.2 last.1)))
          ]),
        )) in
        let is : clients ≡ rest.0 + 1 = rest.1 in
        elim (cases_lt rest.0 limits.clients) [
          | inl less ↦ omega arith
          | inr full ↦ absurd (room ClientsFull (record {
            is_new = new;
            clients = rest.0;
            count = rest.2;
            full = full;
            is = refl;
          }))
        ]
  ]
