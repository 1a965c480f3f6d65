-- The rules on an entry's partners, each kept by the account exactly where it is kept by the state.
use Rattle.rv_account.proofs.OfState.Words.{◌≡◌, ◌<◌, ◌∙◌, ℕ, Option, Some, None, refl, sym, subst, arith}
use Rattle.rv_account.proofs.OfState.Words.{same_Some}
use Rattle.rv_account.proofs.OfState.Words.{Call, Side, side_of, Entry, Account, Among, opposite, OpenAt}
use Rattle.rv_account.proofs.OfState.Words.{State}
use Rattle.rv_account.proofs.OfState.Words.{line_of, place_list, IsStateOf}
use Rattle.std.specs.Prelude.{length}
use Rattle.rv_account.specs.Calls.{MayMeet}
use Rattle.rv_account.specs.rules.Legal.{IsOpenOpposite, NamesFreePartners, PairsOldest, PairsOpposites}
use Rattle.rv_account.specs.rules.Legal.{PairsWherePossible}
use Rattle.rv_account.specs.rules.Waiting.{SideAt}
use Rattle.rv_account.proofs.OfRules.Naming.{among_none}
use Rattle.rv_account.proofs.OfRules.Sides.{one_side}
use Rattle.rv_account.specs.state.Kept.{IsOpposite, NamesAll, NamesOldest, NamesOpen, NamesOpposites}
use Rattle.rv_account.specs.state.Kept.{NamesWell}
use Rattle.rv_account.proofs.OfState.SideLines.{line_is}

module _ (a : Account) (s : State) (state : IsStateOf a s) where
  -- ---- whom a call might meet

  pub opposite_to : (call : Call) (p : ℕ) → IsOpenOpposite a.entries call p → IsOpposite s call p
  opposite_to call p partner =
      subst (λ o. Among (place_list (line_of s o)) p) (sym partner.opposes)
      ((line_is a s state partner.side).each p partner.there)

  opposite_by : (call : Call) (p : ℕ) (o : Option Side) → opposite (side_of call) ≡ o
      → Among (place_list (line_of s o)) p → IsOpenOpposite a.entries call p
  opposite_by call p None alone at = absurd (among_none (place_list (line_of s None)) p refl at)
  opposite_by call p (Some side) opposes at =
      record { side = side; opposes = opposes; there = (line_is a s state side).are at.0 p at.1 }

  pub opposite_from : (call : Call) (p : ℕ) → IsOpposite s call p → IsOpenOpposite a.entries call p
  opposite_from call p at = opposite_by call p (opposite (side_of call)) refl at

  -- whom it might meet stands on the side that opposes its own
  opposite_side : (call : Call) (p : ℕ) (side : Side) → opposite (side_of call) ≡ Some side
      → IsOpposite s call p → SideAt a.entries side p
  opposite_side call p side opposes at =
      let partner = opposite_from call p at in
      subst (λ t. SideAt a.entries t p) (same_Some _ _ (sym partner.opposes ∙ opposes)) partner.there.of_side

  module _ (e : Entry) where
    -- ---- free partners

    pub free_to_well : NamesFreePartners a.entries e → NamesWell s e
    free_to_well free = record {
      rising = free.rising;
      few = free.few;
      meets = λ p names. let partner = free.free p names in (partner.call, partner.arrives, partner.meets);
      earlier = λ p names.
          let partner = free.free p names in
          let earlier : p < length a.entries = partner.earlier in
          let all : s.length ≡ length a.entries = state.length in
          omega arith;
    }

    pub open_to_free : NamesWell s e → NamesOpen s e → NamesFreePartners a.entries e
    open_to_free well opened = record {
      rising = well.rising;
      few = well.few;
      free = λ p names.
          let met = well.meets p names in
          let at = opened p names in
          record {
            call = met.0;
            arrives = met.1;
            meets = met.2;
            earlier =
                let earlier : p < s.length = well.earlier p names in
                let all : s.length ≡ length a.entries = state.length in
                omega arith;
            unmet = (state.in_order.are at.0 p at.1).unmet;
          };
    }

    pub opposites_open : NamesFreePartners a.entries e → PairsOpposites a.entries e → NamesOpen s e
    opposites_open free opposes p names =
        let partner = free.free p names in
        state.in_order.each p (opposes p partner.call names partner.arrives partner.meets).there.is_open

    -- ---- opposites

    pub opposites_to : NamesWell s e → PairsOpposites a.entries e → NamesOpposites s e
    opposites_to well opposes p call names calls =
        let met = well.meets p names in
        let meets : MayMeet call = subst MayMeet (same_Some _ _ (sym met.1 ∙ calls)) met.2 in
        opposite_to call p (opposes p call names calls meets)

    pub opposites_from : NamesOpposites s e → PairsOpposites a.entries e
    opposites_from named p call names calls meets = opposite_from call p (named p call names calls)

    -- ---- the oldest

    pub oldest_to : NamesOpposites s e → PairsOldest a.entries e → NamesOldest s e
    oldest_to named oldest p r call calls names at less =
        let partner = opposite_from call r at in
        oldest p r partner.side names
        (opposite_side call p partner.side partner.opposes (named p call names calls)) less partner.there

    pub oldest_from : NamesWell s e → NamesOpposites s e → NamesOldest s e → PairsOldest a.entries e
    oldest_from well named oldest p r side names of_side less there =
        let met = well.meets p names in
        let partner = opposite_from met.0 p (named p met.0 names met.1) in
        let same : side ≡ partner.side =
        one_side a.entries side partner.side p of_side partner.there.of_side in
        oldest p r met.0 met.1 names
        (opposite_to met.0 r (record {
          side = partner.side;
          opposes = partner.opposes;
          there = subst (λ t. OpenAt a.entries t r) same there;
        }))
        less

    -- ---- all that there are

    pub possible_to : PairsWherePossible a.entries e → NamesAll s e
    possible_to possible r call calls fewer at = possible r call calls fewer (opposite_from call r at)

    pub possible_from : NamesAll s e → PairsWherePossible a.entries e
    possible_from named r call calls fewer partner = named r call calls fewer (opposite_to call r partner)
