-- A book's account is within the limits of lines, and is read back from them.
use Rattle.std.proofs.Common.{◌≡◌, ◌≤◌, ◌<◌, ℕ, List, [], ◌∷◌, Option, Some, None, refl, ap, subst, length}
use Rattle.std.proofs.Common.{take, arith, length-take}
use Rattle.std.specs.Prelude.{slice_get, unwrap_or}
use Rattle.std.proofs.lemmas.Option.{none-some, same_Some}
use Rattle.rv_text.specs.declared.call.Call.{Call}
use Rattle.rv_text.specs.Calls.{drains_of}
use Rattle.rv_text.specs.Limits.{FitsCall}
use Rattle.rv_text.proofs.Kept.{max_fits}
use Rattle.rv_account.specs.declared.entry.Act.{Act}
use Rattle.rv_account.specs.declared.entry.Act.TheVariants as act
use Rattle.rv_account.specs.declared.entry.Entry.{Entry}
use Rattle.rv_account.specs.Account.{Account, call_in}
use Rattle.rv_account.specs.Calls.{may_name}
use Rattle.rv_book.specs.Legal.{Legal, NamesFreePartners}
use Rattle.rv_book.specs.Limits.{FitsAct}
use Rattle.rv_book.specs.Steps.{max_entries}
use Rattle.rv_account.proofs.OfRules.Deciding.{find_waiting}
use Rattle.rv_account.proofs.OfRules.Places.{within}
use Rattle.rv_book.specs.lines.Laws.{BookFitsLines, WrittenAccount}
use Rattle.rv_book.specs.lines.Reading.{account_limits}
use Rattle.rv_book.specs.lines.Written.{FitPartners, max_partners}
use Rattle.rv_book.proofs.OfLines.ReadBack.{lines_again}

-- a call within its limits may name few partners
few_by : (call : Call) (drains : Option ℕ) → FitsCall call → drains_of call ≡ drains
    → unwrap_or drains 1 ≤ max_partners
few_by call None fits is = omega arith
few_by call (Some max) fits is = (max_fits call max fits is).1

few_named : (call : Call) → FitsCall call → may_name call ≤ max_partners
few_named call fits = few_by call (drains_of call) fits refl

fits_call : (does : Act) (call : Call) → call_in does ≡ Some call → FitsAct does → FitsCall call
fits_call (act.Arrive key own) call is fits = subst FitsCall (same_Some own call is) fits.1
fits_call (act.Hello client incarnation version) call is fits = absurd (none-some call is)
fits_call (act.Cancel key) call is fits = absurd (none-some call is)
fits_call act.Tick call is fits = absurd (none-some call is)

-- only an arrival names partners
few_partners : (before : List Entry) (e : Entry) (partners : List ℕ) → e.partners ≡ partners
    → NamesFreePartners before e → FitsAct e.act → length partners ≤ max_partners
few_partners before e [] is names fits = omega arith
few_partners before e (p ∷ partners) is names fits =
    let free = names.free p (0, ap (λ (l : List ℕ). slice_get l 0) is) in
    let few = names.few free.call free.arrives in
    omega (arith, few, ap length is, few_named free.call (fits_call e.act free.call free.arrives fits))

-- a partner stands before its place
partners_fit : (a : Account) (r : ℕ) (e : Entry) → Legal a → slice_get a.entries r ≡ Some e → r < 100000
    → FitsAct e.act → FitPartners e
partners_fit a r e legal there small fits =
    let names = (legal r e there).pairs.names_free_partners in
    record {
      places = λ p named. omega (arith, (names.free p named).earlier, length-take r a.entries);
      few = few_partners (take r a.entries) e e.partners refl names fits;
    }

pub book_fits_lines : BookFitsLines
book_fits_lines a legal fits =
    let waiting = find_waiting a.entries in
    let few : length a.entries ≤ max_entries = omega (arith, fits.room waiting.0 waiting.1) in
    let partners : (r : ℕ) (e : Entry) → slice_get a.entries r ≡ Some e → FitPartners e =
    λ r e there. partners_fit a r e legal there (omega (arith, within a.entries r e there, few))
    (fits.entries r e there).1 in (
      record {
        epoch = fits.epoch;
        opened = fits.opened;
        entries = fits.entries;
        places = λ r e there. (partners r e there).places;
        few = few;
      },
      partners,
    )

pub account_again : WrittenAccount
account_again a legal fits = lines_again account_limits a (omega arith) (book_fits_lines a legal fits).0
