-- There is room for whatever a message makes where there is as much as it may need.
use Rattle.std.proofs.Common.{◌≡◌, ◌<◌, ◌≤◌, ◌+◌, inr, ℕ, sym, subst, arith, leb, true}
use Rattle.std.proofs.lemmas.Bool.Decides.{nat_tests}
use Rattle.rv_text.specs.declared.message.Message.{Message}
use Rattle.rv_account.specs.Account.{Account, Stored}
use Rattle.rv_account.specs.rules.Legal.{Legal}
use Rattle.rv_account.specs.rules.Limits.{FitsAccount}
use Rattle.rv_account.specs.rules.StepLimits.{book_limits}
use Rattle.rv_account.specs.state.Agreement.{IsStateOf}
use Rattle.rv_account.specs.state.State.{waiting_count}
use Rattle.rv_book.specs.reply_cache.Keeping.{AreKept}
use Rattle.rv_book.specs.reply_cache.Table.{KeptTable}
use Rattle.rv_machine.specs.Needing.{IsHello, message_need}
use Rattle.rv_machine.proofs.RoomTaken.{moves_within}
use Rattle.rv_book.specs.declared.state.BookState.{BookState}
use Rattle.rv_book.specs.Operations.{HasRoomFor}
use Rattle.rv_book.specs.Tables.{IsSound, account_of, state_of_machine}

pub room_for_need : (book : BookState) (m : Message)
    → waiting_count (state_of_machine book) + message_need m ≤ book.account.room
    → (IsHello m → 0 < book.kept.room) → HasRoomFor book m
room_for_need book m enough more = record {
  entries = λ moment move steps.
      let within = moves_within book_limits (state_of_machine book) moment m move steps in
      omega (arith, within, enough);
  client = λ hello. inr (more hello);
}

-- the same by a test
pub room_by_test : (book : BookState) (m : Message) (more room : ℕ)
    → more ≡ waiting_count (state_of_machine book) + message_need m → room ≡ book.account.room
    → leb more room ≡ true → (IsHello m → ⊥) → HasRoomFor book m
room_by_test book m more room is all test none =
    let enough : more ≤ room = grind (arith, nat_tests) in
    room_for_need book m (omega (arith, is, all, enough)) (λ hello. absurd (none hello))

-- a book with more room is as sound
pub roomier_sound : (book : BookState) → IsSound book → (stored : Stored) (table : KeptTable)
    → stored.account ≡ account_of book → book.account.room ≤ stored.room → table.replies ≡ book.kept.replies
    → IsSound (record { account = stored; machine = book.machine; kept = table })
roomier_sound book sound stored table same more replies = record {
  legal = subst Legal (sym same) sound.legal;
  fits = subst FitsAccount (sym same) sound.fits;
  stands = subst (λ (x : Account). IsStateOf x (state_of_machine book)) (sym same) sound.stands;
  kept = subst (λ (x : Account). AreKept x.entries (state_of_machine book).clients table.replies) (sym same)
      (subst (AreKept (account_of book).entries (state_of_machine book).clients) (sym replies) sound.kept);
  spare = let spare = sound.spare in omega (arith, spare, more);
}
