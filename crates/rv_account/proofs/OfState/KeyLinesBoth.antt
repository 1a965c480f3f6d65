-- The lines for a key, and that of a bound on open places, decide alike by an account and by its state.
use Rattle.rv_account.proofs.OfState.Words.{◌≡◌, ◌+◌, ◌<◌, ◌∙◌, inl, inr, ℕ, Option, Some, None, refl, sym}
use Rattle.rv_account.proofs.OfState.Words.{ap, subst}
use Rattle.rv_account.proofs.OfState.Words.{arith, cases_lt, cases_order, none-some, same_Some, Call, Refusal}
use Rattle.rv_account.proofs.OfState.Words.{OldIncarnation}
use Rattle.rv_account.proofs.OfState.Words.{Key, Account, Legal, same_key, ClientState, State, client_at}
use Rattle.rv_account.proofs.OfState.Words.{place_waiting}
use Rattle.rv_account.proofs.OfState.Words.{InSession, NumberIsNext, IncarnationOld, BecameOf, IsStateOf}
use Rattle.rv_account.proofs.OfState.Words.{last_key_of}
use Rattle.rv_text.specs.declared.answer.Refusal.TheVariants.{Busy, Gap, NoSession, OldNumber, OtherEpoch}
use Rattle.rv_account.specs.rules.Steps.{KeyLines, PlaceLine}
use Rattle.rv_account.proofs.OfRules.Numbers.{same_or_not}
use Rattle.rv_account.specs.state.Moves.{EpochDiffers, NumberAbove, NumberIsLast, NumberOld, SessionBusy}
use Rattle.rv_account.specs.state.Moves.{SessionLacks, StateKeyLines, StatePlaceLine}
use Rattle.rv_account.proofs.OfState.AtLast.{AtLast}
use Rattle.rv_account.proofs.OfState.CarriedLines.{Done, carried_condition, carried_refusal}
use Rattle.rv_account.proofs.OfState.ClientParts.{client_known}
use Rattle.rv_account.proofs.OfState.RefusalsBoth.{busy_from, busy_to, epoch_from, epoch_to, gap_from, gap_to}
use Rattle.rv_account.proofs.OfState.RefusalsBoth.{incarnation_from, incarnation_to, lacks_from, lacks_to}
use Rattle.rv_account.proofs.OfState.RefusalsBoth.{last_from}
use Rattle.rv_account.proofs.OfState.RefusalsBoth.{last_to, old_from, old_to, places_from, places_to}

-- ---- what the first lines leave

-- no refusal of this kind is due
abbrev None_due : (Refusal → Type 0) → Type 0
None_due due = (refusal : Refusal) → due refusal → ⊥

module _ (s : State) (key : Key) where
  session_by : (o : Option ClientState) → client_at s key.client ≡ o → key.epoch ≡ s.epoch
      → None_due (SessionLacks s key) → None_due (IncarnationOld s key.client key.incarnation)
      → (session : ClientState) × InSession s key session
  session_by None is epoch known no_newer =
      absurd (known NoSession ((λ session there. absurd (none-some session (sym is ∙ there))), refl))
  session_by (Some session) is epoch known no_newer = elim (cases_order session.incarnation key.incarnation) [
    | inl same ↦ (session, record { epoch = epoch; there = is; incarnation = same })
    | inr differ ↦ elim differ [
      | inl lower ↦ absurd
          (known NoSession (
            (λ other there. subst (λ (c : ClientState). c.incarnation < key.incarnation)
                (same_Some _ _ (sym is ∙ there)) lower),
            refl,
          ))
      | inr higher ↦ absurd
          (no_newer (OldIncarnation session.incarnation)
          (record { session = session; there = is; lower = higher; is = refl }))
    ]
  ]

  -- a session of the key's incarnation
  pub in_session : None_due (EpochDiffers s key) → None_due (SessionLacks s key)
      → None_due (IncarnationOld s key.client key.incarnation)
      → (session : ClientState) × InSession s key session
  in_session own known no_newer = elim (same_or_not key.epoch s.epoch) [
    | inl epoch ↦ session_by (client_at s key.client) refl epoch known no_newer
    | inr other ↦ absurd (own (OtherEpoch s.epoch) (other, refl))
  ]

  idle_by : (session : ClientState) (o : Option ℕ) → client_at s key.client ≡ Some session
      → place_waiting session.request ≡ o → None_due (SessionBusy s key) → o ≡ None
  idle_by session None there is idle = refl
  idle_by session (Some place) there is idle =
      absurd (idle (Busy session.last)
      (record { session = session; there = there; place = place; waits = is; is = refl }))

  -- the next number
  pub number_is_next : (session : ClientState) → InSession s key session → None_due (NumberOld s key)
      → (NumberIsLast s key → ⊥) → None_due (SessionBusy s key) → None_due (NumberAbove s key)
      → NumberIsNext s key
  number_is_next session own not_old not_last idle no_gap = record {
    session = session;
    of_session = own;
    next = elim (cases_order key.number session.last) [
      | inl same ↦ absurd (not_last (record { session = session; there = own.there; last = same }))
      | inr differ ↦ elim differ [
        | inl below ↦ absurd
            (not_old (OldNumber session.last)
            (record { session = session; there = own.there; old = inl below; is = refl }))
        | inr above ↦ elim (cases_lt (session.last + 1) key.number) [
          | inl gap ↦ absurd
              (no_gap (Gap session.last)
              (record { session = session; there = own.there; above = gap; is = refl }))
          | inr most ↦ omega arith
        ]
      ]
    ];
    idle = idle_by session (place_waiting session.request) own.there refl idle;
  }

-- the last number
pub at_last : (a : Account) (s : State) (key : Key) (session : ClientState) → IsStateOf a s
    → InSession s key session → None_due (NumberOld s key) → NumberIsLast s key → AtLast a s key
at_last a s key session state own not_old last =
    let one : last.session ≡ session = same_Some _ _ (sym last.there ∙ own.there) in
    let same : last_key_of a.epoch key.client session ≡ key =
    same_key _ _ (sym (own.epoch ∙ state.epoch)) refl own.incarnation
    (sym (last.last ∙ ap (λ (c : ClientState). c.last) one)) in
    record {
      session = session;
      there = own.there;
      became = subst (λ k. BecameOf a.entries k session.request) same
          (client_known a s key.client session state own.there).request;
      positive = λ zero_number. not_old (OldNumber session.last)
          (record { session = session; there = own.there; old = inr zero_number; is = refl });
    }

-- ---- the lines, from the account to the state and back

module _ (X : Type 0) (W : X → Type 0) (a : Account) (s : State) (legal : Legal a) (state : IsStateOf a s)
    (key : Key) where
  pub key_lines_to : (R : Refusal → Type 0) (S : X → Refusal → Type 0) (L G : Type 0) (M H : X → Type 0)
      → ((p : Refusal) → R p → Done X W (λ x. S x p)) → (AtLast a s key → L → Done X W M)
      → (NumberIsNext s key → G → Done X W H)
      → KeyLines a key R L G → Done X W (λ x. StateKeyLines s key (S x) (M x) (H x))
  key_lines_to R S L G M H refused again above lines =
      carried_refusal X W _ _ R _ S _ (epoch_to a s legal state key) (epoch_from a s legal state key) refused
      (λ own.
      carried_refusal X W _ _ R _ S _ (lacks_to a s legal state key) (lacks_from a s legal state key) refused
      (λ known.
      carried_refusal X W _ _ R _ S _ (incarnation_to a s legal state key.client key.incarnation)
      (incarnation_from a s legal state key.client key.incarnation) refused (λ no_newer.
      let session = in_session s key (λ p due. own p (epoch_from a s legal state key p due))
      (λ p due. known p (lacks_from a s legal state key p due))
      (λ p due. no_newer p (incarnation_from a s legal state key.client key.incarnation p due)) in
      carried_refusal X W _ _ R _ S _ (old_to a s legal state key) (old_from a s legal state key) refused
      (λ not_old.
      let not_old_there : None_due (NumberOld s key) =
      λ p due. not_old p (old_from a s legal state key p due) in
      carried_condition X W _ _ _ _ _ _ (last_to a s legal state key) (last_from a s legal state key)
      (λ last. again (at_last a s key session.0 state session.1 not_old_there
      (last_to a s legal state key last))) (λ not_last.
      carried_refusal X W _ _ R _ S _ (busy_to a s legal state key) (busy_from a s legal state key) refused
      (λ idle.
      carried_refusal X W _ _ R _ S _ (gap_to a s legal state key) (gap_from a s legal state key) refused
      (λ no_gap.
      above (number_is_next s key session.0 session.1 not_old_there
      (λ last. not_last (last_from a s legal state key last))
      (λ p due. idle p (busy_from a s legal state key p due))
      (λ p due. no_gap p (gap_from a s legal state key p due))))))))))
      lines

  pub key_lines_from : (R : Refusal → Type 0) (S : X → Refusal → Type 0) (L G : Type 0) (M H : X → Type 0)
      → ((p : Refusal) → R p → Done X W (λ x. S x p)) → (AtLast a s key → L → Done X W M)
      → (NumberIsNext s key → G → Done X W H)
      → StateKeyLines s key R L G → Done X W (λ x. KeyLines a key (S x) (M x) (H x))
  key_lines_from R S L G M H refused again above lines =
      carried_refusal X W _ _ R _ S _ (epoch_from a s legal state key) (epoch_to a s legal state key) refused
      (λ own.
      carried_refusal X W _ _ R _ S _ (lacks_from a s legal state key) (lacks_to a s legal state key) refused
      (λ known.
      carried_refusal X W _ _ R _ S _ (incarnation_from a s legal state key.client key.incarnation)
      (incarnation_to a s legal state key.client key.incarnation) refused (λ no_newer.
      let session = in_session s key own known no_newer in
      carried_refusal X W _ _ R _ S _ (old_from a s legal state key) (old_to a s legal state key) refused
      (λ not_old.
      carried_condition X W _ _ _ _ _ _ (last_from a s legal state key) (last_to a s legal state key)
      (λ last. again (at_last a s key session.0 state session.1 not_old last)) (λ not_last.
      carried_refusal X W _ _ R _ S _ (busy_from a s legal state key) (busy_to a s legal state key) refused
      (λ idle.
      carried_refusal X W _ _ R _ S _ (gap_from a s legal state key) (gap_to a s legal state key) refused
      (λ no_gap.
      above (number_is_next s key session.0 session.1 not_old not_last idle no_gap))))))))
      lines

-- ---- the line of a bound on open places

module _ (X : Type 0) (W : X → Type 0) (a : Account) (s : State) (legal : Legal a) (state : IsStateOf a s)
    (call : Call) where
  pub place_line_to : (R : Refusal → Type 0) (S : X → Refusal → Type 0) (G : Type 0) (H : X → Type 0)
      → ((p : Refusal) → R p → Done X W (λ x. S x p)) → (bound : Option ℕ) → (G → Done X W H)
      → PlaceLine bound a call R G → Done X W (λ x. StatePlaceLine bound s call (S x) (H x))
  place_line_to R S G H refused None goes_on = goes_on
  place_line_to R S G H refused (Some most) goes_on =
      carried_refusal X W _ _ R _ S _ (places_to a s legal state most call)
      (places_from a s legal state most call) refused (λ some. goes_on)

  pub place_line_from : (R : Refusal → Type 0) (S : X → Refusal → Type 0) (G : Type 0) (H : X → Type 0)
      → ((p : Refusal) → R p → Done X W (λ x. S x p)) → (bound : Option ℕ) → (G → Done X W H)
      → StatePlaceLine bound s call R G → Done X W (λ x. PlaceLine bound a call (S x) (H x))
  place_line_from R S G H refused None goes_on = goes_on
  place_line_from R S G H refused (Some most) goes_on =
      carried_refusal X W _ _ R _ S _ (places_from a s legal state most call)
      (places_to a s legal state most call) refused (λ some. goes_on)
