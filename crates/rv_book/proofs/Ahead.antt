-- Where the machine is ahead by an entry, what that told can be kept, and recording it leaves a sound book.
-- recorded.
use Rattle.std.proofs.Common.{◌≡◌, ◌+◌, ◌∙◌, List, length, IsSome, sym, subst}
use Rattle.std.proofs.Common.{arith}
use Rattle.rv_account.specs.declared.entry.Entry.{Entry}
use Rattle.rv_account.specs.Account.{Account, Stored, with_entry}
use Rattle.rv_account.specs.rules.Limits.{FitsAccount}
use Rattle.rv_account.specs.rules.Legal.{Legal}
use Rattle.rv_account.proofs.OfRules.Legality.{Legal-with_entry}
use Rattle.rv_account.proofs.OfRules.Places.{get-append_end}
use Rattle.rv_account.specs.state.Agreement.{IsStateOf}
use Rattle.rv_account.specs.state.After.{following}
use Rattle.rv_account.specs.state.State.{State, client_at}
use Rattle.rv_account.proofs.OfState.Coming.{Comes}
use Rattle.rv_account.proofs.OfState.Stated.{stated}
use Rattle.rv_text.specs.declared.message.Key.{Key}
use Rattle.rv_book.specs.reply_cache.Keeping.{AreKept}
use Rattle.rv_book.specs.reply_cache.Table.{KeptTable}
use Rattle.rv_machine.specs.Machines.{keys_settled}
use Rattle.rv_book.specs.declared.state.BookState.{BookState}
use Rattle.rv_book.specs.Operations.{AreKnown, IsAhead, Kepts, MayKeep, kept_after}
use Rattle.rv_book.specs.Tables.{IsSound, account_of, state_of_machine}
use Rattle.rv_book.proofs.KeptAfter.{kept_fits}
use Rattle.rv_book.proofs.KnownToMachine.{all_known, own_known}

module _ (book : BookState) (e : Entry) (ahead : IsAhead book e) where
  abbrev a : Account
  a = account_of book

  abbrev s : State
  s = ahead.state

  comes : Comes a s e
  comes = record {
    legal = ahead.legal;
    state = ahead.stood;
    follows = ahead.follows;
    partners = ahead.partners;
  }

  pub may_keep : MayKeep book.machine book.kept e
  may_keep = record {
    fits = (ahead.fits.entries (length a.entries) e (get-append_end a.entries e)).1;
    settled = subst (λ (l : List Key). AreKnown (state_of_machine book) book.kept.replies l)
        (sym ahead.settles)
        (subst (λ (t : State). AreKnown t book.kept.replies
        (keys_settled (following s e.moment e.act).settles)) (sym ahead.after)
        (all_known a s e comes book.kept.replies ahead.kept));
    known = λ client own. subst (λ (t : State). IsSome (client_at t client)) (sym ahead.after)
        (own_known a s e comes client own);
    place = ahead.place;
  }

  -- what is kept then
  are_kept : (kepts : Kepts)
      → kepts ≡ kept_after (state_of_machine book) (length a.entries) e book.machine.settled.items
      book.kept.replies
      → AreKept (with_entry a e).entries (state_of_machine book).clients kepts
  are_kept kepts is =
      let same : kept_after (following s e.moment e.act).after (length a.entries) e
      (keys_settled (following s e.moment e.act).settles) book.kept.replies ≡ kepts =
      (λ i. kept_after (sym ahead.after i) (length a.entries) e (sym ahead.settles i) book.kept.replies)
      ∙ sym is in
      subst (AreKept (with_entry a e).entries (state_of_machine book).clients) same
      (subst (λ (t : State). AreKept (with_entry a e).entries t.clients
      (kept_after (following s e.moment e.act).after (length a.entries) e
      (keys_settled (following s e.moment e.act).settles) book.kept.replies)) (sym ahead.after)
      (kept_fits a s e comes book.kept.replies ahead.kept))

  pub recorded_sound : (stored : Stored) (table : KeptTable) → stored.account ≡ with_entry a e
      → book.account.room ≡ stored.room + 1
      → table.replies ≡ kept_after (state_of_machine book) (length a.entries) e book.machine.settled.items
      book.kept.replies
      → IsSound (record { account = stored; machine = book.machine; kept = table })
  recorded_sound stored table is room keeps = record {
    legal = subst Legal (sym is) (Legal-with_entry a e ahead.legal ahead.follows);
    fits = subst FitsAccount (sym is) ahead.fits;
    stands = subst (λ (x : Account). IsStateOf x (state_of_machine book)) (sym is)
        (subst (IsStateOf (with_entry a e)) (sym ahead.after) (stated a s e comes));
    kept = subst (λ (x : Account). AreKept x.entries (state_of_machine book).clients table.replies) (sym is)
        (are_kept table.replies keeps);
    spare = omega (arith, ahead.room, room);
  }
