-- What stands on a side, with one entry more: who was open there before, and whether the entry is.
use Rattle.rv_account.proofs.OfRules.Words.{◌≡◌, ◌⊎◌, ◌<◌, ◌≤◌, ◌∷◌, ◌++◌, ◌∙◌, inl, inr, ℕ, List, []}
use Rattle.rv_account.proofs.OfRules.Words.{length, take}
use Rattle.rv_account.proofs.OfRules.Words.{Option, Some, None, option_and_then, refl, sym, ap, subst, arith}
use Rattle.rv_account.proofs.OfRules.Words.{length-take, Account, Names, act_at, call_at, call_in, Call}
use Rattle.rv_account.proofs.OfRules.Words.{Version, Entry}
use Rattle.rv_account.proofs.OfRules.Words.{Side, same_Some, side_of, Legal, EndsWait, Met, NamesPartner}
use Rattle.rv_account.proofs.OfRules.Words.{Open, OpenAt}
use Rattle.rv_account.proofs.OfRules.Words.{Stopped, StoppedAt, Waiting, limit_at, IsPut, Stays, Arrive}
use Rattle.rv_account.proofs.OfRules.Words.{Cancel, Hello}
use Rattle.rv_account.proofs.OfRules.Words.{Tick, Key}
use Rattle.rv_account.specs.Account.{just}
use Rattle.rv_account.specs.rules.Legal.{IsDueAt, NamesFreePartners, WaitsUnder}
use Rattle.rv_account.specs.rules.Waiting.{HasElapsed, SideAt}
use Rattle.rv_account.proofs.OfRules.Growing.{NamesAt-last, NamesPartner-back, Open-back, Open-on, act_read}
use Rattle.rv_account.proofs.OfRules.Growing.{call_read}
use Rattle.rv_account.proofs.OfRules.Growing.{limit_on, reads_back, reads_on, reads_within}
use Rattle.rv_account.proofs.OfRules.Keys.{act_called}
use Rattle.rv_account.proofs.OfRules.Naming.{just_none}
use Rattle.rv_account.proofs.OfRules.Places.{get-append_cases, get-append_end}

pub SideAt-on : (es more : List Entry) (side : Side) (r : ℕ) → SideAt es side r → SideAt (es ++ more) side r
SideAt-on es more side r h = record {
  call = h.call;
  arrived = reads_on call_read refl es more r h.call
      h.arrived;
  is = h.is;
}

-- an arrival is of one side
pub one_side : (es : List Entry) (s t : Side) (r : ℕ) → SideAt es s r → SideAt es t r → s ≡ t
one_side es s t r first second =
    let call : first.call ≡ second.call = same_Some _ _ (sym first.arrived ∙ second.arrived) in
    sym first.is ∙ ap side_of call ∙ second.is

-- the entry arrives on this side, and stays
pub record ComesOn (e : Entry) (side : Side) : Type 0 where
  pub call : Call
  pub arrives : call_in e.act ≡ Some call
  pub is : side_of call ≡ side
  pub stays : Stays call

-- ---- whom an entry stops

-- an arrival stops nobody
pub arrival_stops_nobody : (es : List Entry) (e : Entry) (key : Key) (call : Call) (r : ℕ)
    → e.act ≡ Arrive key call → StoppedAt (es ++ e ∷ []) r (length es) → ⊥
arrival_stops_nobody es e key call r arrives stopped =
    let own : e ≡ stopped.stopper = same_Some _ _ (sym (get-append_end es e) ∙ stopped.there) in
    subst (λ act. EndsWait act stopped.stopper.moment stopped.key (limit_at (es ++ e ∷ []) r))
    (sym (ap (λ (x : Entry). x.act) own) ∙ arrives) stopped.ends

-- a request of the client other than a put arrived at r
pub record IsRequestOf (es : List Entry) (client r : ℕ) : Type 0 where
  pub key : Key
  pub call : Call
  pub arrived : act_at es r ≡ Some (Arrive key call)
  pub of_client : client ≡ key.client
  pub no_put : IsPut call → ⊥

-- a hello stops the requests of its client that are no puts
pub hello_stops : (es : List Entry) (e : Entry) (client incarnation r : ℕ) (v : Version)
    → e.act ≡ Hello client incarnation v → IsRequestOf es client r → StoppedAt (es ++ e ∷ []) r (length es)
hello_stops es e client incarnation r v says request = record {
  key = request.key;
  call = request.call;
  stopper = e;
  arrived = reads_on act_read refl es (e ∷ []) r (Arrive request.key request.call) request.arrived;
  no_put = request.no_put;
  later = reads_within act_read refl es r (Arrive request.key request.call) request.arrived;
  there = get-append_end es e;
  ends = subst (λ act. EndsWait act e.moment request.key (limit_at (es ++ e ∷ []) r)) (sym says)
      request.of_client;
}

-- and no others
pub stopped_by_hello : (es : List Entry) (e : Entry) (client incarnation r : ℕ) (v : Version)
    → e.act ≡ Hello client incarnation v → StoppedAt (es ++ e ∷ []) r (length es) → IsRequestOf es client r
stopped_by_hello es e client incarnation r v says stopped =
    let own : e ≡ stopped.stopper = same_Some _ _ (sym (get-append_end es e) ∙ stopped.there) in
    let later : r < length es = stopped.later in
    record {
      key = stopped.key;
      call = stopped.call;
      arrived = elim (reads_back act_read refl es e r (Arrive stopped.key stopped.call) stopped.arrived)
          [ inl inside ↦ inside.1 | inr last ↦ absurd (omega arith) ];
      of_client = subst (λ act. EndsWait act stopped.stopper.moment stopped.key (limit_at (es ++ e ∷ []) r))
          (sym (ap (λ (x : Entry). x.act) own) ∙ says) stopped.ends;
      no_put = stopped.no_put;
    }

-- the request with this key arrived at r, and it is no put
pub record IsRequestUnder (es : List Entry) (key : Key) (r : ℕ) : Type 0 where
  pub call : Call
  pub arrived : act_at es r ≡ Some (Arrive key call)
  pub no_put : IsPut call → ⊥

-- as does one that waits under it
pub is_under : (es : List Entry) (key : Key) (waits : WaitsUnder es key) → IsRequestUnder es key waits.place
is_under es key waits =
    let same : waits.waits.is_open.call ≡ waits.call =
    same_Some _ _ (sym waits.waits.is_open.arrived ∙ ap (option_and_then call_in) waits.arrived) in
    record {
      call = waits.call;
      arrived = waits.arrived;
      no_put = λ put. waits.waits.no_put (subst IsPut (sym same) put);
    }

-- a cancel stops the request with its key, but no put
pub cancel_stops : (es : List Entry) (e : Entry) (key : Key) (r : ℕ) → e.act ≡ Cancel key
    → IsRequestUnder es key r → StoppedAt (es ++ e ∷ []) r (length es)
cancel_stops es e key r says request = record {
  key = key;
  call = request.call;
  stopper = e;
  arrived = reads_on act_read refl es (e ∷ []) r (Arrive key request.call) request.arrived;
  no_put = request.no_put;
  later = reads_within act_read refl es r (Arrive key request.call) request.arrived;
  there = get-append_end es e;
  ends = subst (λ act. EndsWait act e.moment key (limit_at (es ++ e ∷ []) r)) (sym says) refl;
}

-- and no other
pub stopped_by_cancel : (es : List Entry) (e : Entry) (key : Key) (r : ℕ) → e.act ≡ Cancel key
    → StoppedAt (es ++ e ∷ []) r (length es) → IsRequestUnder es key r
stopped_by_cancel es e key r says stopped =
    let own : e ≡ stopped.stopper = same_Some _ _ (sym (get-append_end es e) ∙ stopped.there) in
    let later : r < length es = stopped.later in
    let named : key ≡ stopped.key = subst (λ act. EndsWait act stopped.stopper.moment stopped.key
    (limit_at (es ++ e ∷ []) r)) (sym (ap (λ (x : Entry). x.act) own) ∙ says) stopped.ends in
    let arrived : act_at es r ≡ Some (Arrive stopped.key stopped.call) = elim (reads_back act_read refl es e r
    (Arrive stopped.key stopped.call) stopped.arrived) [
      | inl inside ↦ inside.1
      | inr last ↦ absurd
          (omega arith)
    ] in
    record {
      call = stopped.call;
      arrived = subst (λ (k : Key). act_at es r ≡ Some (Arrive k stopped.call)) (sym named) arrived;
      no_put = stopped.no_put;
    }

-- a request other than a put, whose limit is at or below the moment, arrived at r
pub record IsRequestUntil (es : List Entry) (moment r : ℕ) : Type 0 where
  pub key : Key
  pub call : Call
  pub arrived : act_at es r ≡ Some (Arrive key call)
  pub no_put : IsPut call → ⊥
  pub limit : ℕ
  pub has : limit_at es r ≡ Some limit
  pub elapsed : limit ≤ moment

-- a tick stops the requests whose limit is at or below its moment
pub tick_stops : (es : List Entry) (e : Entry) (r : ℕ) → e.act ≡ Tick → IsRequestUntil es e.moment r
    → StoppedAt (es ++ e ∷ []) r (length es)
tick_stops es e r says request =
    let limit : limit_at (es ++ e ∷ []) r ≡ Some request.limit = limit_on es (e ∷ []) r
    (Arrive request.key request.call) request.arrived ∙ request.has in
    let over : HasElapsed (limit_at (es ++ e ∷ []) r) e.moment = subst (λ o. HasElapsed o e.moment)
    (sym limit) request.elapsed in
    record {
      key = request.key;
      call = request.call;
      stopper = e;
      arrived = reads_on act_read refl es (e ∷ []) r (Arrive request.key request.call) request.arrived;
      no_put = request.no_put;
      later = reads_within act_read refl es r (Arrive request.key request.call) request.arrived;
      there = get-append_end es e;
      ends = subst (λ act. EndsWait act e.moment request.key (limit_at (es ++ e ∷ []) r)) (sym says) over;
    }

elapsed_limit : (limit : Option ℕ) (moment : ℕ) → HasElapsed limit moment
    → (n : ℕ) × (limit ≡ Some n) × (n ≤ moment)
elapsed_limit None moment over = absurd over
elapsed_limit (Some n) moment over = (n, refl, over)

-- and no others
pub stopped_by_tick : (es : List Entry) (e : Entry) (r : ℕ) → e.act ≡ Tick
    → StoppedAt (es ++ e ∷ []) r (length es) → IsRequestUntil es e.moment r
stopped_by_tick es e r says stopped =
    let own : e ≡ stopped.stopper = same_Some _ _ (sym (get-append_end es e) ∙ stopped.there) in
    let later : r < length es = stopped.later in
    let arrived : act_at es r ≡ Some (Arrive stopped.key stopped.call) = elim (reads_back act_read refl es e r
    (Arrive stopped.key stopped.call) stopped.arrived) [
      | inl inside ↦ inside.1
      | inr last ↦ absurd
          (omega arith)
    ] in
    let ends : EndsWait e.act e.moment stopped.key (limit_at (es ++ e ∷ []) r) =
    subst (λ (x : Entry). EndsWait x.act x.moment stopped.key (limit_at (es ++ e ∷ []) r)) (sym own)
    stopped.ends in
    let over : HasElapsed (limit_at (es ++ e ∷ []) r) e.moment = subst (λ act. EndsWait act e.moment
    stopped.key (limit_at (es ++ e ∷ []) r)) says ends in
    let limit = elapsed_limit (limit_at (es ++ e ∷ []) r) e.moment over in
    record {
      key = stopped.key;
      call = stopped.call;
      arrived = arrived;
      no_put = stopped.no_put;
      limit = limit.0;
      has = sym (limit_on es (e ∷ []) r (Arrive stopped.key stopped.call) arrived) ∙ limit.1;
      elapsed = limit.2;
    }

-- who is due is such a request
pub due_until : (es : List Entry) (moment r : ℕ) → IsDueAt es moment r → IsRequestUntil es moment r
due_until es moment r due =
    let opened = due.waits.is_open in
    let arrives = act_called (act_at es r) opened.call opened.arrived in
    record {
      key = arrives.0;
      call = opened.call;
      arrived = arrives.1;
      no_put = due.waits.no_put;
      limit = due.limit;
      has = due.has;
      elapsed = due.elapsed;
    }

-- and an open one is due
pub until_due : (es : List Entry) (moment r : ℕ) → Open es r → IsRequestUntil es moment r
    → IsDueAt es moment r
until_due es moment r opened request =
    let same : request.call ≡ opened.call = same_Some _ _ (sym (ap (option_and_then call_in) request.arrived)
    ∙ opened.arrived) in
    record {
      waits = record { is_open = opened; no_put = subst (λ c. IsPut c → ⊥) same request.no_put };
      limit = request.limit;
      has = request.has;
      elapsed = request.elapsed;
    }

-- ---- who stays open, and who was

-- an open arrival that the entry neither names nor stops stays open
pub OpenAt-on : (es : List Entry) (e : Entry) (side : Side) (r : ℕ) → OpenAt es side r → (Names e r → ⊥)
    → (StoppedAt (es ++ e ∷ []) r (length es) → ⊥) → OpenAt (es ++ e ∷ []) side r
OpenAt-on es e side r h unnamed unstopped = record {
  of_side = SideAt-on es (e ∷ []) side r h.of_side;
  is_open = Open-on es e r h.is_open unnamed unstopped;
}

-- each partner of the last entry is met
pub names_last : (es : List Entry) (e : Entry) (p : ℕ) → NamesFreePartners es e → Names e p
    → Met (es ++ e ∷ []) p
names_last es e p free named =
    let partner = free.free p named in
    record {
      later = length es;
      earlier = p;
      names = record {
        call = partner.call;
        arrived = ap call_read (get-append_end es e) ∙ partner.arrives;
        meets = partner.meets;
        named = NamesAt-last es e p named;
      };
      part = inr refl;
    }

-- the open arrival was so before, and the entry neither names nor stops it
pub record WasOpen (es : List Entry) (e : Entry) (side : Side) (r : ℕ) : Type 0 where
  pub there : OpenAt es side r
  pub unnamed : Names e r → ⊥
  pub unstopped : StoppedAt (es ++ e ∷ []) r (length es) → ⊥

-- who is open on a side with one entry more was so before, or is that entry
pub OpenAt-back : (es : List Entry) (e : Entry) (side : Side) (r : ℕ) → NamesFreePartners es e
    → OpenAt (es ++ e ∷ []) side r → WasOpen es e side r ⊎ ((r ≡ length es) × ComesOn e side)
OpenAt-back es e side r free h =
    let opened = h.is_open in
    let at = h.of_side in
    let same : at.call ≡ opened.call = same_Some _ _ (sym at.arrived ∙ opened.arrived) in
    elim (reads_back call_read refl es e r at.call at.arrived) [
      | inl inside ↦ inl (record {
        there = record {
          of_side = record { call = at.call; arrived = inside.1; is = at.is };
          is_open = Open-back es (e ∷ []) r opened (inside.1 ∙ ap Some same);
        };
        unnamed = λ named. opened.unmet (names_last es e r free named);
        unstopped = λ stopped. opened.unstopped (length es, stopped);
      })
      | inr last ↦ inr (
        last.0,
        record {
          call = at.call;
          arrives = last.1;
          is = at.is;
          stays =
              subst Stays (sym same) opened.stays;
        },
      )
    ]

-- ---- a legal account's partners stand before the entries that name them

pub partner_before : (a : Account) (p q : ℕ) → Legal a → NamesPartner a.entries p q → q < p
partner_before a p q legal names =
    let at = names.named in
    let free = (legal p at.entry at.there).pairs.names_free_partners.free q at.names in
    let earlier : q < length (take p a.entries) = free.earlier in
    omega (arith, length-take p a.entries)

-- a last entry without a partner is not met
pub last_unmet : (a : Account) (e : Entry) → Legal a → e.partners ≡ just None
    → Met (a.entries ++ e ∷ []) (length a.entries) → ⊥
last_unmet a e legal none met =
    elim (NamesPartner-back a.entries e met.later met.earlier met.names) [
      | inl names ↦
          let inside : met.later < length a.entries = reads_within call_read refl a.entries met.later
          names.call names.arrived in
          let below : met.earlier < met.later = partner_before a met.later met.earlier legal names in
          elim met.part [ inl is ↦ omega arith | inr is ↦ omega arith ]
      | inr new ↦ just_none e met.earlier none new.1
    ]

last_unstopped : (es : List Entry) (e : Entry) → Stopped (es ++ e ∷ []) (length es) → ⊥
last_unstopped es e stopped =
    let later : length es < stopped.0 = stopped.1.later in
    elim (get-append_cases es e stopped.1.stopper stopped.0 stopped.1.there) [
      | inl inside ↦ omega arith
      | inr
          last ↦ omega arith
    ]

-- an entry that arrives, stays and names nobody is open
pub OpenAt-last : (a : Account) (e : Entry) (side : Side) → Legal a → e.partners ≡ just None → ComesOn e side
    → OpenAt (a.entries ++ e ∷ []) side (length a.entries)
OpenAt-last a e side legal none new =
    let es : List Entry = a.entries in
    let arrived : call_at (es ++ e ∷ []) (length es) ≡ Some new.call = ap call_read (get-append_end es e)
    ∙ new.arrives in
    record {
      of_side = record { call = new.call; arrived = arrived; is = new.is };
      is_open = record {
        call = new.call;
        arrived = arrived;
        stays = new.stays;
        unmet = last_unmet a e legal
            none;
        unstopped = last_unstopped es e;
      };
    }

-- one that names somebody is met, and not open
pub named_not_open : (es : List Entry) (e : Entry) (p : ℕ) → Names e p → Open (es ++ e ∷ []) (length es) → ⊥
named_not_open es e p names opened =
    opened.unmet
    (record {
      later = length es;
      earlier = p;
      names = record {
        call = opened.call;
        arrived = opened.arrived;
        meets = opened.stays.0;
        named = NamesAt-last es e p names;
      };
      part = inl refl;
    })

-- ---- who waits

-- the entry arrives, stays, and is no put
pub record ComesToWait (e : Entry) : Type 0 where
  pub call : Call
  pub arrives : call_in e.act ≡ Some call
  pub stays : Stays call
  pub no_put : IsPut call → ⊥

-- a waiting request that the entry neither names nor stops still waits
pub Waiting-on : (es : List Entry) (e : Entry) (r : ℕ) → Waiting es r → (Names e r → ⊥)
    → (StoppedAt (es ++ e ∷ []) r (length es) → ⊥) → Waiting (es ++ e ∷ []) r
unfolding Open-on
Waiting-on es e r h unnamed unstopped = record {
  is_open = Open-on es e r h.is_open unnamed unstopped;
  no_put = h.no_put;
}

-- the request waited before, and the entry neither names nor stops it
pub record WasWaiting (es : List Entry) (e : Entry) (r : ℕ) : Type 0 where
  pub there : Waiting es r
  pub unnamed : Names e r → ⊥
  pub unstopped : StoppedAt (es ++ e ∷ []) r (length es) → ⊥

-- who waits with one entry more waited before, or is that entry
pub Waiting-back : (es : List Entry) (e : Entry) (r : ℕ) → NamesFreePartners es e → Waiting (es ++ e ∷ []) r
    → WasWaiting es e r ⊎ ((r ≡ length es) × ComesToWait e)
unfolding Open-back
Waiting-back es e r free h =
    let opened = h.is_open in
    elim (reads_back call_read refl es e r opened.call opened.arrived) [
      | inl inside ↦ inl (record {
        there = record { is_open = Open-back es (e ∷ []) r opened inside.1; no_put = h.no_put };
        unnamed = λ named. opened.unmet (names_last es e r free named);
        unstopped = λ stopped. opened.unstopped (length es, stopped);
      })
      | inr last ↦ inr (
        last.0,
        record {
          call = opened.call;
          arrives = last.1;
          stays = opened.stays;
          no_put =
              h.no_put;
        },
      )
    ]

-- a request that arrives, stays and names nobody waits
pub Waiting-last : (a : Account) (e : Entry) → Legal a → e.partners ≡ just None → ComesToWait e
    → Waiting (a.entries ++ e ∷ []) (length a.entries)
Waiting-last a e legal none new =
    let es : List Entry = a.entries in
    let arrived : call_at (es ++ e ∷ []) (length es) ≡ Some new.call = ap call_read (get-append_end es e)
    ∙ new.arrives in
    let opened : Open (es ++ e ∷ []) (length es) = record {
      call = new.call;
      arrived = arrived;
      stays =
          new.stays;
      unmet = last_unmet a e legal none;
      unstopped = last_unstopped es e;
    } in
    record { is_open = opened; no_put = new.no_put }

-- a waiting request is open on its call's side
pub waiting_is_open : (es : List Entry) (r : ℕ) (w : Waiting es r) → OpenAt es (side_of w.is_open.call) r
waiting_is_open es r w = record {
  of_side = record { call = w.is_open.call; arrived = w.is_open.arrived; is = refl };
  is_open = w.is_open;
}
