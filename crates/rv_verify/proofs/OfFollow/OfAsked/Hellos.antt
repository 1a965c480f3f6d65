-- The room after a hello, a cancel and a tick.
use Rattle.std.proofs.Common.{◌≡◌, ◌≢◌, ◌<◌, ◌≤◌, ◌+◌, ◌∙◌, ◌⊎◌, ◌∷◌, ℕ, List, [], Bool, true, false, cond}
use Rattle.std.proofs.Common.{Option, Some, None, is_some, refl, sym, ap, subst, arith, IsTrue}
use Rattle.std.specs.Cmp.{nat_cmp_total}
use Rattle.std.specs.FinMap.{insert, len, len-insert}
use Rattle.std.proofs.lemmas.Bool.{false≢true}
use Rattle.std.proofs.lemmas.Option.{none-some}
use Rattle.rv_text.specs.declared.message.Key.{Key}
use Rattle.rv_text.specs.declared.version.Version.{Version}
use Rattle.rv_account.specs.Limits.{max_moment}
use Rattle.rv_account.specs.declared.entry.Act.TheVariants.{Cancel, Hello, Tick}
use Rattle.rv_session.specs.Clients.{fresh_state}
use Rattle.rv_machine.proofs.HelloMoves.{greeted_idle}
use Rattle.rv_account.specs.state.resume.Resuming.{CanResume, StaysInRoom}
use Rattle.rv_account.proofs.OfState.Resumed.Counts.{cancelled_len, greeted_len}
use Rattle.rv_account.proofs.OfState.Resumed.Rooms.{tick_room}
use Rattle.rv_account.specs.state.After.{due_at, following}
use Rattle.rv_account.specs.state.State.{ClientState, OpenPlace, State, client_at}
use Rattle.rv_verify.specs.follow.state_rules.Rooming.{AwaitsNothing, HasAwaiting, HasSpace}
use Rattle.rv_verify.proofs.OfFollow.OfAsked.Calm.{no_place, place_there, told_by}
use Rattle.rv_verify.proofs.OfFollow.OfAsked.DueNow.{Iff}

module _ (s : State) (is : CanResume s) (moment : ℕ) (time : moment ≤ max_moment) where
  pub cancel_told : (key : Key) (b : Bool) → (b ≡ true → HasSpace s 1 ⊎ HasAwaiting s key.client)
      → (b ≡ false → HasSpace s 1 → ⊥) → (b ≡ false → AwaitsNothing s key.client)
      → Iff (IsTrue b) (StaysInRoom (following s moment (Cancel key)).after)
  cancel_told key =
      told_by s is moment time (Cancel key) key.client refl refl
      (subst (λ n. n ≤ 100000) (sym (cancelled_len s moment key)) is.room.clients)

  tick_by : (due : List OpenPlace) → due_at s moment ≡ due → due ≢ []
      → StaysInRoom (following s moment Tick).after
  tick_by [] none some = absurd (some refl)
  tick_by (first ∷ others) due some = tick_room s is moment time first others due

  pub tick_stays : due_at s moment ≢ [] → StaysInRoom (following s moment Tick).after
  tick_stays some = tick_by (due_at s moment) refl some

  module _ (client incarnation : ℕ) (version : Version) where
    abbrev hello_after : State
    hello_after = (following s moment (Hello client incarnation version)).after

    pub hello_room : HasSpace s 1 ⊎ HasAwaiting s client
        → (client_at s client ≡ None → len s.clients < 100000) → StaysInRoom hello_after
    hello_room place room =
        place_there s is moment time (Hello client incarnation version) client refl refl
        (greeted_len s moment client incarnation version 100000 is.room.clients room) place

    pub hello_clients : StaysInRoom hello_after → client_at s client ≡ None → len s.clients < 100000
    hello_clients room unknown =
        let fresh = fresh_state incarnation version in
        let idle = λ (x : ClientState) (there : client_at s client ≡ Some x).
        absurd (none-some x (sym unknown ∙ there)) in
        let after : len (insert s.clients client fresh) ≤ 100000 =
        subst (λ (t : State). len t.clients ≤ 100000) (greeted_idle s client fresh idle) room.clients in
        let more : len (insert s.clients client fresh) ≡ len s.clients + 1 =
        len-insert nat_cmp_total s.clients client fresh
        ∙ ap (λ (o : Option ClientState). cond (is_some o) (len s.clients) (len s.clients + 1)) unknown in
        omega (arith, after, more)

    pub hello_not : (HasSpace s 1 → ⊥) → AwaitsNothing s client → StaysInRoom hello_after → ⊥
    hello_not full idle room =
        no_place s is moment time (Hello client incarnation version) client refl refl room.clients full idle
        room

    pub hello_told : (b : Bool) → HasSpace s 1 ⊎ HasAwaiting s client
        → Iff (IsTrue b) (client_at s client ≡ None → len s.clients < 100000)
        → Iff (IsTrue b) (StaysInRoom hello_after)
    hello_told b place room =
        (λ t. hello_room place (room.0 t), λ stays. room.1 (hello_clients stays))

    pub hello_refused : (HasSpace s 1 → ⊥) → AwaitsNothing s client
        → Iff (IsTrue false) (StaysInRoom hello_after)
    hello_refused full idle = (λ t. absurd (false≢true t), λ room. absurd (hello_not full idle room))
