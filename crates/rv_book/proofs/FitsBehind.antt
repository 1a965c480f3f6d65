-- An account with one entry more is within the limits, where the entry fits, and entries, waiting requests
-- and
-- clients are few enough.
use Rattle.std.proofs.Common.{◌∷◌, ◌++◌, inl, inr, List, [], subst}
use Rattle.rv_text.specs.declared.message.Message.{Message}
use Rattle.rv_text.specs.declared.message.Message.TheVariants.{Cancel, Hello, Request}
use Rattle.rv_text.specs.Limits.{FitsMessage}
use Rattle.rv_account.specs.declared.entry.Entry.{Entry}
use Rattle.rv_account.specs.Account.{Account, with_entry}
use Rattle.rv_account.specs.Limits.{FitEntries, FitsAct, FitsEntry}
use Rattle.rv_account.specs.rules.Limits.{FitsAccount}
use Rattle.rv_account.specs.rules.StepLimits.{max_clients, max_entries}
use Rattle.rv_account.proofs.OfRules.FewClients.{ClientsAtMost}
use Rattle.rv_account.proofs.OfRules.Places.{get-append_cases}
use Rattle.rv_account.proofs.OfRules.RoomKept.{RoomAtMost}
use Rattle.rv_machine.specs.Needing.{act_of}

entries_fit : (es : List Entry) (e : Entry) → FitEntries es → FitsEntry e → FitEntries (es ++ e ∷ [])
entries_fit es e fit own r other there = elim (get-append_cases es e other r there) [
  | inl inside ↦ fit r other inside.1
  | inr last ↦ subst FitsEntry last.1 own
]

pub fits_behind : (a : Account) (e : Entry) → FitsAccount a → FitsEntry e
    → RoomAtMost max_entries (with_entry a e).entries → ClientsAtMost max_clients (with_entry a e).entries
    → FitsAccount (with_entry a e)
fits_behind a e fits own room few = record {
  epoch = fits.epoch;
  opened = fits.opened;
  entries = entries_fit a.entries e fits.entries own;
  room = room;
  clients = few;
}

-- a message's own act fits where the message does
pub act_of_fits : (m : Message) → FitsMessage m → FitsAct (act_of m)
act_of_fits (Hello client incarnation v) fits = fits
act_of_fits (Request key call) fits = fits
act_of_fits (Cancel key) fits = fits
