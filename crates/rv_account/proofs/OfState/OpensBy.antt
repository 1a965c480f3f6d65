-- The open place that an entry adds: its own, where it is an arrival that meets nobody and stays.
use Rattle.rv_account.proofs.OfState.Words.{◌≡◌, ◌⊎◌, ◌∷◌, ◌++◌, ◌∙◌, inl, inr, ℕ, Bool, true, false, cond}
use Rattle.rv_account.proofs.OfState.Words.{List, []}
use Rattle.rv_account.proofs.OfState.Words.{Option, Some, None, length, option_and_then, refl, sym, ap, subst}
use Rattle.rv_account.proofs.OfState.Words.{true≢false, none-some, same_Some, Key, Call, Wait, Now, Millis}
use Rattle.rv_account.proofs.OfState.Words.{Forever}
use Rattle.rv_account.proofs.OfState.Words.{side_of, wait_of, Entry, Act, Hello, Arrive, Cancel, Tick}
use Rattle.rv_account.proofs.OfState.Words.{Account, Among}
use Rattle.rv_account.proofs.OfState.Words.{act_at, call_at, call_in, limit_at, limit_in, Lasts, Stays}
use Rattle.rv_account.proofs.OfState.Words.{limit_of, Open}
use Rattle.rv_account.proofs.OfState.Words.{act_read, call_read, reads_on, get-append_end, OpenPlace, State}
use Rattle.rv_account.proofs.OfState.Words.{place_list}
use Rattle.rv_account.proofs.OfState.Words.{met_by, IsArrival, partners_of}
use Rattle.std.specs.Prelude.{Decides}
use Rattle.std.proofs.lemmas.Bool.Decides.{Decides-and, Decides-ltb}
use Rattle.rv_account.specs.Account.{moment_at}
use Rattle.rv_account.proofs.OfRules.Growing.{limit_on, moment_read}
use Rattle.rv_account.proofs.OfRules.Sides.{OpenAt-last, named_not_open}
use Rattle.rv_account.specs.state.After.{lasts_by, opened_by, parked, stays_open}
use Rattle.rv_account.proofs.OfState.Coming.{Comes, more}

-- the open places that an act of a moment adds
abbrev pub opens_by : State → ℕ → Act → List OpenPlace
opens_by s moment (Hello client incarnation version) = []
opens_by s moment (Arrive key call) = parked s moment key call (met_by s call)
opens_by s moment (Cancel key) = []
opens_by s moment Tick = []

-- ---- arrivals

pub arrival_on : (es : List Entry) (e : Entry) (there : OpenPlace) → IsArrival es there
    → IsArrival (es ++ e ∷ []) there
arrival_on es e there is =
    let does : Act = Arrive is.key is.call in
    record {
      key = is.key;
      call = is.call;
      moment = is.moment;
      arrived = reads_on act_read refl es (e ∷ []) there.place does is.arrived;
      came = reads_on moment_read refl es (e ∷ []) there.place is.moment is.came;
      side = is.side;
      item = is.item;
      limit = is.limit ∙ sym (limit_on es (e ∷ []) there.place does is.arrived);
      waiter = is.waiter;
    }

pub own_arrival : (a : Account) (s : State) (e : Entry) (key : Key) (call : Call)
    → s.length ≡ length a.entries → e.act ≡ Arrive key call
    → IsArrival (more a e) (opened_by s e.moment key call)
own_arrival a s e key call long is =
    let last = get-append_end a.entries e in
    record {
      key = key;
      call = call;
      moment = e.moment;
      arrived = ap (act_at (more a e)) long ∙ ap act_read last ∙ ap Some is;
      came = ap (moment_at (more a e)) long ∙ ap moment_read last;
      side = refl;
      item = refl;
      limit = sym (ap (limit_at (more a e)) long
          ∙ ap (option_and_then limit_in) last
          ∙ ap (λ d. option_and_then (limit_of e.moment) (call_in d)) is);
      waiter = refl;
    }

-- ---- who stays

lasts_decides : (wait : Option Wait) → Decides (lasts_by wait) (Lasts wait)
lasts_decides None = (λ lasts. tt, λ lasts. refl)
lasts_decides (Some Now) = (λ lasts. true≢false (sym lasts), λ lasts. absurd lasts)
lasts_decides (Some (Millis n)) = Decides-ltb 0 n
lasts_decides (Some Forever) = (λ lasts. tt, λ lasts. refl)

pub stays_decides : (call : Call) → Decides (stays_open call []) (Stays call)
stays_decides call = Decides-and _ _ (λ meets. meets, λ meets. meets) (lasts_decides (wait_of call))

-- ---- the entry's own place

-- this is the open place of the entry
pub record OpensLast (a : Account) (e : Entry) (there : OpenPlace) : Type 0 where
  pub at_place : there.place ≡ length a.entries
  pub is_open : Open (more a e) (length a.entries)
  pub arrival : IsArrival (more a e) there

-- nothing is added and the entry isn't open, or its open place is
abbrev pub EndsWith : Account → Entry → List OpenPlace → Type 0
EndsWith a e opens =
    ((opens ≡ []) × (Open (more a e) (length a.entries) → ⊥))
    ⊎ ((there : OpenPlace) × (opens ≡ there ∷ []) × OpensLast a e there)

own_call : (a : Account) (e : Entry) → call_at (more a e) (length a.entries) ≡ call_in e.act
own_call a e = ap call_read (get-append_end a.entries e)

no_arrival : (a : Account) (e : Entry) → call_in e.act ≡ None → Open (more a e) (length a.entries) → ⊥
no_arrival a e none opened = none-some opened.call (sym (own_call a e ∙ none) ∙ opened.arrived)

module _ (a : Account) (s : State) (e : Entry) (comes : Comes a s e) where
  own_stays : (key : Key) (call : Call) → e.act ≡ Arrive key call → Open (more a e) (length a.entries)
      → Stays call
  own_stays key call is opened =
      subst Stays (same_Some _ _ (sym opened.arrived ∙ own_call a e ∙ ap call_in is)) opened.stays

  own_opens : (key : Key) (call : Call) → e.act ≡ Arrive key call → e.partners ≡ [] → Stays call
      → OpensLast a e (opened_by s e.moment key call)
  own_opens key call is none stays =
      record {
        at_place = comes.state.length;
        is_open = (OpenAt-last a e (side_of call) comes.legal none
            (record { call = call; arrives = ap call_in is; is = refl; stays = stays })).is_open;
        arrival = own_arrival a s e key call comes.state.length is;
      }

  arrival_ends : (key : Key) (call : Call) → e.act ≡ Arrive key call → (met : List OpenPlace)
      → e.partners ≡ place_list met → (b : Bool) → stays_open call met ≡ b
      → EndsWith a e (cond b (opened_by s e.moment key call ∷ []) [])
  arrival_ends key call is [] none true stays =
      inr (opened_by s e.moment key call, refl, own_opens key call is none ((stays_decides call).0 stays))
  arrival_ends key call is [] none false goes =
      inl (refl, λ opened. true≢false (sym ((stays_decides call).1 (own_stays key call is opened)) ∙ goes))
  arrival_ends key call is (first ∷ others) met true stays = absurd (true≢false (sym stays))
  arrival_ends key call is (first ∷ others) met false goes =
      let names = subst (λ places. Among places first.place) (sym met) (0, refl) in
      inl (refl, named_not_open a.entries e first.place names)

  ends_by : (does : Act) → e.act ≡ does → EndsWith a e (opens_by s e.moment does)
  ends_by (Hello client incarnation version) is = inl (refl, no_arrival a e (ap call_in is))
  ends_by (Arrive key call) is =
      arrival_ends key call is (met_by s call) (comes.partners ∙ ap (partners_of s) is)
      (stays_open call (met_by s call)) refl
  ends_by (Cancel key) is = inl (refl, no_arrival a e (ap call_in is))
  ends_by Tick is = inl (refl, no_arrival a e (ap call_in is))

  pub ends_with : EndsWith a e (opens_by s e.moment e.act)
  ends_with = ends_by e.act refl
