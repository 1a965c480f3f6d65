-- An account stays within its limits by a step of the book.
use Rattle.rv_world.proofs.OfParts.Words.{◌≡◌, ◌≤◌, inl, inr, ℕ, length, Option, Some, None, refl, sym, subst}
use Rattle.rv_world.proofs.OfParts.Words.{arith, slice_get, Message, Answer, Act, Entry, Account, Legal}
use Rattle.rv_world.proofs.OfParts.Words.{book_limits, Adds, Ticks, step_moment, get-append_cases}
use Rattle.std.proofs.Common.{◌-◌}
use Rattle.std.specs.Prelude.{option_map, unwrap_or}
use Rattle.rv_text.specs.declared.message.Message.TheVariants.{Cancel, Hello, Request}
use Rattle.rv_text.specs.Limits.{FitsAnswer, FitsMessage}
use Rattle.rv_book.specs.Limits.{FitsAccount, FitsAct, FitsEntry}
use Rattle.rv_book.specs.Steps.{Next, max_clients, max_entries, max_moment, own_moment}
use Rattle.rv_book.proofs.Fitting.{step_fits}
use Rattle.rv_account.proofs.OfRules.FewClients.{ClientsAtMost}
use Rattle.rv_account.proofs.OfRules.RoomKept.{RoomAtMost, clients_behind, room_behind, ticked_clients}
use Rattle.rv_account.proofs.OfRules.RoomKept.{ticked_room}
use Rattle.rv_account.proofs.OfRules.StepLeaves.{own_act}
use Rattle.rv_world.proofs.OfParts.Answered.{became_at, next_legal}
use Rattle.rv_account.specs.declared.entry.Act.TheVariants as act

act_fits : (m : Message) → FitsMessage m → FitsAct (own_act m)
act_fits (Hello client incarnation version) fits = fits
act_fits (Request key call) fits = fits
act_fits (Cancel key) fits = fits

own_moment_fits : (a : Account) → FitsAccount a → own_moment a ≤ max_moment
own_moment_fits a fits = by_last (slice_get a.entries (length a.entries - 1)) refl
  where
    by_last : (last : Option Entry) → slice_get a.entries (length a.entries - 1) ≡ last
        → own_moment a ≤ max_moment
    by_last None none = subst (λ (o : Option Entry). unwrap_or (option_map (λ e. e.moment) o) a.opened ≤
        max_moment) (sym none) fits.opened
    by_last (Some e) there = subst (λ (o : Option Entry). unwrap_or (option_map (λ e. e.moment) o) a.opened ≤
        max_moment) (sym there) (fits.entries (length a.entries - 1) e there).0

step_moment_fits : (a : Account) (now : ℕ) → FitsAccount a → step_moment a now ≤ max_moment
step_moment_fits a now fits = let own : own_moment a ≤ max_moment = own_moment_fits a fits in omega arith

-- with one entry more that fits, after which there is room and not too many clients
added_fits : (a b : Account) (moment : ℕ) (does : Act) (added : Adds a moment does b) → FitsAccount a
    → moment ≤ max_moment → FitsAct does → RoomAtMost max_entries b.entries
    → ClientsAtMost max_clients b.entries → FitsAccount b
added_fits a b moment does added fits moment_fits does_fits room few =
    let entry_fits : FitsEntry added.entry = (
      subst (λ n. n ≤ max_moment) (sym added.moment_is) moment_fits,
      subst FitsAct (sym added.act_is) does_fits,
    ) in
    subst FitsAccount (sym added.follows)
    (record {
      epoch = fits.epoch;
      opened = fits.opened;
      entries = λ r e there. elim (get-append_cases a.entries added.entry e r there) [
        | inl inside ↦ fits.entries r e inside.1
        | inr last ↦ subst FitsEntry last.1 entry_fits
      ];
      room = subst (λ (c : Account). RoomAtMost max_entries c.entries) added.follows room;
      clients = subst (λ (c : Account). ClientsAtMost max_clients c.entries) added.follows few;
    })

ticked_fits : (a t : Account) (moment : ℕ) → FitsAccount a → moment ≤ max_moment → Ticks a moment t
    → FitsAccount t
ticked_fits a t moment fits moment_fits (inr same) = subst FitsAccount (sym same.1) fits
ticked_fits a t moment fits moment_fits (inl ticks) =
    added_fits a t moment act.Tick ticks.1 fits moment_fits tt
    (ticked_room max_entries a t moment (inl ticks) fits.room)
    (ticked_clients max_clients a t moment (inl ticks) fits.clients)

-- the account and the answer are within the limits
pub next_fits : (a b : Account) (now : ℕ) (m : Message) (x : Answer) → Legal a → FitsAccount a → FitsMessage m
    → Next a now m b x → FitsAccount b × FitsAnswer x
next_fits a b now m x legal fits message_fits next =
    let t = next.ticked in
    let moment : ℕ = step_moment a now in
    let moment_fits : moment ≤ max_moment = step_moment_fits a now fits in
    let ticked = ticked_fits a t moment fits moment_fits next.ticks in
    let after : FitsAccount b = elim (became_at book_limits t b moment m x next.steps).account [
      | inl same ↦ subst FitsAccount (sym same) ticked
      | inr added ↦
          added_fits t b moment (own_act m) added ticked moment_fits (act_fits m message_fits)
          (room_behind book_limits max_entries t b moment m x next.steps (omega arith) ticked.room)
          (clients_behind book_limits max_clients t b moment m x next.steps (omega arith) ticked.clients)
    ] in (
      after,
      step_fits t b moment m x (next_legal book_limits a b now m x legal next) ticked after message_fits
          next.steps,
    )
