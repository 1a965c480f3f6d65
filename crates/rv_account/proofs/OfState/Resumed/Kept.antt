-- What a state to resume from has, but for its room and its moment: the steps of an entry keep this one by
-- one.
use Rattle.std.proofs.Common.{◌≡◌, ◌≢◌, ◌<◌, ◌+◌, ◌∙◌, ℕ, Some, None, inl, inr, sym, ap, arith}
use Rattle.std.proofs.Common.{slice_get}
use Rattle.std.proofs.lemmas.Bool.{cases_order}
use Rattle.rv_text.specs.Limits.{FitsIdentifier}
use Rattle.rv_session.specs.declared.client.LastRequest.TheVariants.{Waits}
use Rattle.rv_session.specs.Clients.{place_waiting}
use Rattle.rv_account.specs.Calls.{opposite}
use Rattle.rv_account.specs.state.After.{advanced}
use Rattle.rv_account.specs.state.State.{ClientState, OpenPlace, State, Waiter, client_at}
use Rattle.rv_account.proofs.OfState.Words.{same_Some}
use Rattle.rv_text.specs.declared.call.Call.{Call}
use Rattle.rv_account.specs.state.resume.Resuming.{CanResume, FitsSession, IsAwaitedBy, IsLastAt, IsOpenIn}
use Rattle.rv_account.specs.state.resume.Resuming.{LiesOpen}

pub record HoldsTogether (s : State) : Type 0 where
  pub epoch : FitsIdentifier s.epoch
  pub rise : (i j : ℕ) (one other : OpenPlace) → i < j → slice_get s.open_places i ≡ Some one
      → slice_get s.open_places j ≡ Some other → one.place < other.place
  pub below : (there : OpenPlace) → IsOpenIn s there → there.place < s.length
  pub apart : (one other : OpenPlace) → IsOpenIn s one → IsOpenIn s other → one.place ≢ other.place
      → opposite one.side ≢ Some other.side
  pub awaited : (there : OpenPlace) (w : Waiter) → IsOpenIn s there → there.waiter ≡ Some w
      → IsLastAt s there w
  pub lies : (there : OpenPlace) → IsOpenIn s there → there.waiter ≡ None → LiesOpen there
  pub standing : (client : ℕ) (session : ClientState) (place : ℕ) (call : Call)
      → client_at s client ≡ Some session → session.request ≡ Waits place call → IsAwaitedBy s client place
  pub sessions : (client : ℕ) (session : ClientState) → client_at s client ≡ Some session
      → FitsSession s.epoch client session

-- no request of the client waits
abbrev pub IsIdle : State → ℕ → Type 0
IsIdle s client = (session : ClientState) → client_at s client ≡ Some session
    → place_waiting session.request ≡ None

pub holds : (s : State) → CanResume s → HoldsTogether s
holds s is = record {
  epoch = is.epoch;
  rise = is.rise;
  below = is.below;
  apart = is.apart;
  awaited = is.awaited;
  lies = is.lies;
  standing = is.standing;
  sessions = is.sessions;
}

-- one at a place
pub one_at : (s : State) → HoldsTogether s → (one other : OpenPlace) → IsOpenIn s one → IsOpenIn s other
    → one.place ≡ other.place → one ≡ other
one_at s is one other first second same = elim (cases_order first.0 second.0) [
  | inl equal ↦ same_Some _ _ (sym first.1 ∙ ap (slice_get s.open_places) equal ∙ second.1)
  | inr differ ↦ elim differ [
    | inl less ↦
        let below : one.place < other.place = is.rise first.0 second.0 one other less first.1 second.1 in
        absurd (omega (arith, same))
    | inr above ↦
        let below : other.place < one.place = is.rise second.0 first.0 other one above second.1 first.1 in
        absurd (omega (arith, same))
  ]
]

-- one entry more
pub longer : (s : State) (moment : ℕ) → HoldsTogether s → HoldsTogether (advanced s moment)
longer s moment is = record {
  epoch = is.epoch;
  rise = is.rise;
  below = λ there at. let less : there.place < s.length = is.below there at in grow there.place less;
  apart = is.apart;
  awaited = λ there w at has. let own = is.awaited there w at has in record {
    session = own.session;
    known = own.known;
    key_is = own.key_is;
    call = own.call;
    waits = own.waits;
    side = own.side;
    item = own.item;
    limit = own.limit;
    may_wait = own.may_wait;
    lasts = own.lasts;
  };
  lies = is.lies;
  standing = λ client session place call known waits.
      let own = is.standing client session place call known waits in record {
        there = own.there;
        is_open = own.is_open;
        at_place = own.at_place;
        waiter = own.waiter;
        waits = own.waits;
        client_is = own.client_is;
      };
  sessions = is.sessions;
}
  where
    grow : (p : ℕ) → p < s.length → p < s.length + 1
    grow p less = omega (arith, less)
