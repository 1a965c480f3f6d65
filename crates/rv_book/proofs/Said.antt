-- What is said of a request by what is kept of it is what its session was told.
use Rattle.std.proofs.Common.{◌≡◌, ◌∙◌, List, Option, Some, None, option_and_then, option_map, refl, sym, ap}
use Rattle.std.specs.FinMap.{get}
use Rattle.rv_text.specs.declared.message.Key.{Key}
use Rattle.rv_text.specs.declared.answer.Answer.{Answer}
use Rattle.rv_text.specs.declared.answer.Answer.TheVariants as answer
use Rattle.rv_text.specs.declared.answer.Reply.{Reply}
use Rattle.rv_session.specs.declared.kept.Kept.{Kept}
use Rattle.rv_account.specs.declared.entry.Entry.{Entry}
use Rattle.rv_account.specs.state.Moves.{answer_told, told_again}
use Rattle.rv_account.specs.state.State.{State}
use Rattle.rv_book.specs.reply_cache.Keeping.{AreKept, IsKeptAs}
use Rattle.rv_machine.specs.Machines.{Says}
use Rattle.rv_machine.specs.declared.machine.Said.TheVariants.{Told}
use Rattle.rv_book.specs.Operations.{Kepts}
use Rattle.rv_book.specs.Saying.{answer_of, said_of}

by_kept : (entries : List Entry) (key : Key) (kept : Option Kept) (told : Option Reply)
    → IsKeptAs entries kept told → answer_of entries (said_of key kept) ≡ Some (answer_told key told)
by_kept entries key (Some kept) (Some told) is = ap (option_map (answer.Replied key)) is
by_kept entries key None None is = refl
by_kept entries key (Some kept) None is = absurd is
by_kept entries key None (Some told) is = absurd is

-- what a look-up finds
abbrev found : Kepts → Key → Option Kept
found kepts key = option_and_then (λ (k : Option Kept). k) (get kepts key.client)

pub told_as_kept : (entries : List Entry) (s : State) (kepts : Kepts) (key : Key) (a : Answer)
    → AreKept entries s.clients kepts → Says s (Told key) a
    → answer_of entries (said_of key (found kepts key)) ≡ Some a
told_as_kept entries s kepts key a are (session, there, is) =
    let its = are key.client session there in
    ap (λ o. answer_of entries (said_of key (option_and_then (λ (k : Option Kept). k) o))) its.there
    ∙ by_kept entries key its.kept (told_again session.request) its.stands ∙ ap Some (sym is)
