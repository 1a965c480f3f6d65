-- A state in which a client that waits nowhere has another session, and perhaps one place more is open.
use Rattle.std.proofs.Common.{◌≡◌, ◌≢◌, ◌⊎◌, ◌<◌, ◌++◌, ◌∷◌, ◌∙◌, ℕ, zero, suc, List, [], Some, None, inl}
use Rattle.std.proofs.Common.{inr}
use Rattle.std.proofs.Common.{sym, ap, subst, slice_get}
use Rattle.std.proofs.lemmas.Bool.{cases_eq}
use Rattle.std.proofs.lemmas.List.{append-nil}
use Rattle.rv_text.specs.declared.call.Call.{Call}
use Rattle.rv_session.specs.declared.client.LastRequest.TheVariants.{Waits}
use Rattle.rv_session.specs.Clients.{place_waiting}
use Rattle.rv_account.specs.Calls.{opposite}
use Rattle.rv_account.proofs.OfRules.Opposites.{opposite_back}
use Rattle.rv_account.specs.state.After.{with_client, with_open}
use Rattle.rv_account.specs.state.State.{ClientState, OpenPlace, State, Waiter, client_at}
use Rattle.rv_account.proofs.OfState.Words.{none-some, same_Some}
use Rattle.rv_account.proofs.OfState.Filtered.{append_get}
use Rattle.rv_account.specs.state.resume.Resuming.{FitsSession, IsAwaitedBy, IsLastAt, IsOpenIn, LiesOpen}
use Rattle.rv_account.proofs.OfState.Resumed.Kept.{HoldsTogether, IsIdle}
use Rattle.rv_account.proofs.OfState.Resumed.Sessions.{put_other, put_own, waits_nowhere}

pub front_get : {X : Type 0} (xs ys : List X) (i : ℕ) (x : X) → slice_get xs i ≡ Some x
    → slice_get (xs ++ ys) i ≡ Some x
front_get [] ys i x at = absurd (none-some x at)
front_get (y ∷ xs) ys zero x at = at
front_get (y ∷ xs) ys (suc i) x at = front_get xs ys i x at

pub back_get : {X : Type 0} (xs ys : List X) (j : ℕ) (y : X) → slice_get ys j ≡ Some y
    → (i : ℕ) × (slice_get (xs ++ ys) i ≡ Some y)
back_get [] ys j y at = (j, at)
back_get (x ∷ xs) ys j y at = let rest = back_get xs ys j y at in (suc rest.0, rest.1)

-- it is one of these
abbrev pub IsOneOf : List OpenPlace → OpenPlace → Type 0
IsOneOf more there = (j : ℕ) × (slice_get more j ≡ Some there)

abbrev pub entered : State → ℕ → ClientState → List OpenPlace → State
entered s client x more = with_client (with_open s more) client x

-- what opens with the client's new session
pub record Joins (s : State) (client : ℕ) (x : ClientState) (more : List OpenPlace) : Type 0 where
  pub rise : (i j : ℕ) (one other : OpenPlace) → i < j → slice_get (s.open_places ++ more) i ≡ Some one
      → slice_get (s.open_places ++ more) j ≡ Some other → one.place < other.place
  pub below : (there : OpenPlace) → IsOneOf more there → there.place < s.length
  pub faces : (one other : OpenPlace) → IsOpenIn s one → IsOneOf more other
      → opposite one.side ≢ Some other.side
  pub single : (one other : OpenPlace) → IsOneOf more one → IsOneOf more other → one.place ≡ other.place
  pub awaited : (there : OpenPlace) (w : Waiter) → IsOneOf more there → there.waiter ≡ Some w
      → IsLastAt (entered s client x more) there w
  pub lies : (there : OpenPlace) → IsOneOf more there → there.waiter ≡ None → LiesOpen there
  pub standing : (place : ℕ) (call : Call) → x.request ≡ Waits place call
      → IsAwaitedBy (entered s client x more) client place

-- nothing opens
pub joins_none : (s : State) (client : ℕ) (x : ClientState) → HoldsTogether s → place_waiting x.request ≡ None
    → Joins s client x []
joins_none s client x is idle = record {
  rise = λ i j one other less first second.
      let same : s.open_places ++ [] ≡ s.open_places = append-nil s.open_places in
      is.rise i j one other less (ap (λ (l : List OpenPlace). slice_get l i) (sym same) ∙ first)
      (ap (λ (l : List OpenPlace). slice_get l j) (sym same) ∙ second);
  below = λ there at. absurd (none-some there at.1);
  faces = λ one other first second. absurd (none-some other second.1);
  single = λ one other first second. absurd (none-some one first.1);
  awaited = λ there w at. absurd (none-some there at.1);
  lies = λ there at. absurd (none-some there at.1);
  standing = λ place call waits. absurd (waits_nowhere x.request place call waits idle);
}

module _ (s : State) (is : HoldsTogether s) (client : ℕ) (x : ClientState) (more : List OpenPlace)
    (idle : IsIdle s client) (fits : FitsSession s.epoch client x) (joins : Joins s client x more) where
  abbrev now : State
  now = entered s client x more

  opened : (there : OpenPlace) → IsOpenIn now there → IsOpenIn s there ⊎ IsOneOf more there
  opened there at = elim (append_get s.open_places more at.0 there at.1) [
    | inl before ↦ inl (before.0, before.1)
    | inr new ↦ inr (new.0, new.1)
  ]

  open_still : (there : OpenPlace) → IsOpenIn s there → IsOpenIn now there
  open_still there at = (at.0, front_get s.open_places more at.0 there at.1)

  differs : (there : OpenPlace) (w : Waiter) → IsLastAt s there w → w.key.client ≢ client
  differs there w own same =
      waits_nowhere own.session.request there.place own.call own.waits
      (idle own.session (ap (client_at s) (sym same) ∙ own.known))

  still_last : (there : OpenPlace) (w : Waiter) → IsLastAt s there w → IsLastAt now there w
  still_last there w own = record {
    session = own.session;
    known = put_other s.clients client w.key.client x (differs there w own) ∙ own.known;
    key_is = own.key_is;
    call = own.call;
    waits = own.waits;
    side = own.side;
    item = own.item;
    limit = own.limit;
    may_wait = own.may_wait;
    lasts = own.lasts;
  }

  session_now : (other : ℕ) (session : ClientState) → client_at now other ≡ Some session
      → ((other ≡ client) × (x ≡ session)) ⊎ (client_at s other ≡ Some session)
  session_now other session known = elim (cases_eq other client) [
    | inl same ↦ inl (
      same,
      same_Some _ _ (sym (put_own s.clients client x) ∙ ap (client_at now) (sym same)
          ∙ known),
    )
    | inr apart ↦ inr (sym (put_other s.clients client other x apart) ∙ known)
  ]

  stands : (other : ℕ) (session : ClientState) (place : ℕ) (call : Call)
      → ((other ≡ client) × (x ≡ session)) ⊎ (client_at s other ≡ Some session)
      → session.request ≡ Waits place call → IsAwaitedBy now other place
  stands other session place call (inl own) waits =
      subst (λ n. IsAwaitedBy now n place) (sym own.0)
      (joins.standing place call (ap (λ (c : ClientState). c.request) own.1 ∙ waits))
  stands other session place call (inr known) waits =
      let was = is.standing other session place call known waits in
      record {
        there = was.there;
        is_open = open_still was.there was.is_open;
        at_place = was.at_place;
        waiter = was.waiter;
        waits = was.waits;
        client_is = was.client_is;
      }

  fit : (other : ℕ) (session : ClientState)
      → ((other ≡ client) × (x ≡ session)) ⊎ (client_at s other ≡ Some session)
      → FitsSession s.epoch other session
  fit other session (inl own) =
      subst (λ n. FitsSession s.epoch n session) (sym own.0) (subst (FitsSession s.epoch client) own.1 fits)
  fit other session (inr known) = is.sessions other session known

  below : (there : OpenPlace) → IsOpenIn s there ⊎ IsOneOf more there → there.place < s.length
  below there (inl at) = is.below there at
  below there (inr at) = joins.below there at

  faced : (one other : OpenPlace) → IsOpenIn s one ⊎ IsOneOf more one → IsOpenIn s other ⊎ IsOneOf more other
      → one.place ≢ other.place → opposite one.side ≢ Some other.side
  faced one other (inl first) (inl second) apart = is.apart one other first second apart
  faced one other (inl first) (inr second) apart = joins.faces one other first second
  faced one other (inr first) (inl second) apart = λ opposes.
      joins.faces other one second first (opposite_back one.side other.side opposes)
  faced one other (inr first) (inr second) apart = absurd (apart (joins.single one other first second))

  awaits : (there : OpenPlace) (w : Waiter) → IsOpenIn s there ⊎ IsOneOf more there → there.waiter ≡ Some w
      → IsLastAt now there w
  awaits there w (inl at) has = still_last there w (is.awaited there w at has)
  awaits there w (inr at) has = joins.awaited there w at has

  lying : (there : OpenPlace) → IsOpenIn s there ⊎ IsOneOf more there → there.waiter ≡ None → LiesOpen there
  lying there (inl at) = is.lies there at
  lying there (inr at) = joins.lies there at

  pub entered_holds : HoldsTogether now
  entered_holds = record {
    epoch = is.epoch;
    rise = joins.rise;
    below = λ there at. below there (opened there at);
    apart = λ one other first second. faced one other (opened one first) (opened other second);
    awaited = λ there w at. awaits there w (opened there at);
    lies = λ there at. lying there (opened there at);
    standing = λ other session place call known.
        stands other session place call (session_now other session known);
    sessions = λ other session known. fit other session (session_now other session known);
  }

-- a client that waits nowhere has another session, of which nothing waits
pub renewed_holds : (s : State) → HoldsTogether s → (client : ℕ) (x : ClientState) → IsIdle s client
    → FitsSession s.epoch client x → place_waiting x.request ≡ None → HoldsTogether (with_client s client x)
renewed_holds s is client x idle fits quiet =
    subst (λ (l : List OpenPlace). HoldsTogether (with_client (record {
      epoch = s.epoch;
      moment = s.moment;
      length = s.length;
      open_places = l;
      clients = s.clients;
    }) client x)) (append-nil s.open_places)
    (entered_holds s is client x [] idle fits (joins_none s client x is quiet))
