-- How many places are open after one entry more.
use Rattle.rv_account.proofs.OfRules.Words.{◌≡◌, ◌⊎◌, ◌+◌, ◌<◌, ◌≤◌, ◌∷◌, ◌++◌, inl, inr, ℕ, List, []}
use Rattle.rv_account.proofs.OfRules.Words.{length, Some}
use Rattle.rv_account.proofs.OfRules.Words.{None, refl, sym, ap, subst, arith, cases_lt, none-some}
use Rattle.rv_account.proofs.OfRules.Words.{same_Some, Call}
use Rattle.rv_account.proofs.OfRules.Words.{◌∙◌, Entry, Account, call_in, may_name, Legal, NumberOf, Open}
use Rattle.std.specs.Prelude.{max}
use Rattle.rv_text.specs.declared.answer.Refusal.{Refusal}
use Rattle.rv_text.specs.declared.answer.Refusal.TheVariants.{EpochFull}
use Rattle.rv_account.specs.Account.{with_entry}
use Rattle.rv_account.specs.rules.Steps.{PlacesFullDue, WouldStay}
use Rattle.rv_account.proofs.OfRules.CallKinds.{staying_single}
use Rattle.rv_account.proofs.OfRules.Deciding.{open_or_not}
use Rattle.rv_account.proofs.OfRules.Growing.{Open-back, call_read, reads_back, reads_within}
use Rattle.rv_account.proofs.OfRules.Legality.{follows_itself}
use Rattle.rv_account.proofs.OfRules.Naming.{among_none, first_among}
use Rattle.rv_account.proofs.OfRules.NumbersBehind.{no_more, one_more}
use Rattle.rv_account.proofs.OfRules.Sides.{named_not_open}

open_below : (es : List Entry) (r : ℕ) → Open es r → r < length es
open_below es r opened = reads_within call_read refl es r opened.call opened.arrived

module _ (a : Account) (e : Entry) where
  abbrev Behind : ℕ → Type 0
  Behind r = Open (a.entries ++ e ∷ []) r

  back : (r : ℕ) → Behind r → Open a.entries r ⊎ (r ≡ length a.entries)
  back r opened = elim (reads_back call_read refl a.entries e r opened.call opened.arrived) [
    | inl inside ↦ inl (Open-back a.entries (e ∷ []) r opened inside.1)
    | inr last ↦ inr last.0
  ]

  own_call : (opened : Behind (length a.entries)) → call_in e.act ≡ Some opened.call
  own_call opened =
      elim (reads_back call_read refl a.entries e (length a.entries) opened.call opened.arrived) [
        | inl inside ↦ let within = inside.0 in absurd (omega arith)
        | inr last ↦ last.1
      ]

  -- an arrival that is open met nobody, since nobody was there to meet
  stays_alone : Legal (with_entry a e) → (opened : Behind (length a.entries))
      → WouldStay a.entries opened.call
  stays_alone legal opened = record {
    stays = opened.stays;
    alone = λ p partner. elim (first_among e.partners) [
      | inl named ↦ named_not_open a.entries e named.0 named.1 opened
      | inr none ↦
          let few : length e.partners ≡ 0 = ap length none in
          let single : may_name opened.call ≡ 1 = staying_single opened.call opened.stays in
          among_none e.partners p none
          ((follows_itself a e legal).pairs.pairs_where_possible p opened.call (own_call opened) (omega arith)
          partner)
    ];
  }

  module _ (n m : ℕ) (before : NumberOf (Open a.entries) n)
      (after : NumberOf (Open (a.entries ++ e ∷ [])) m) where
    no_more_open : (Behind (length a.entries) → ⊥) → m ≤ n
    no_more_open =
        no_more (Open a.entries) Behind (length a.entries) n m before after (open_below a.entries) back

    -- no more, after an entry that is no arrival
    pub calm_open : call_in e.act ≡ None → m ≤ n
    calm_open says = no_more_open (λ opened. none-some opened.call (sym says ∙ own_call opened))

    -- after an arrival that wasn't refused no more than the bound, or than before
    pub arrival_open : Legal (with_entry a e) → (bound : ℕ) (call : Call) → call_in e.act ≡ Some call
        → ((p : Refusal) → PlacesFullDue bound a call p → ⊥) → m ≤ max bound n
    arrival_open legal bound call says room =
        elim (open_or_not (a.entries ++ e ∷ []) (length a.entries)) [
          | inr closed ↦ let most : m ≤ n = no_more_open closed in omega arith
          | inl opened ↦
              let most : m ≤ n + 1 = one_more (Open a.entries) Behind (length a.entries) n m before after
              (open_below a.entries) back in
              elim (cases_lt n bound) [
                | inl less ↦ omega arith
                | inr full ↦ absurd
                    (room EpochFull (record {
                      would_stay = subst (WouldStay a.entries)
                          (same_Some _ _ (sym (own_call opened) ∙ says)) (stays_alone legal opened);
                      places = n;
                      count = before;
                      full = full;
                      is = refl;
                    }))
              ]
        ]
