-- What a legal account says of the requests that wait: each is its session's last, and a client has one at
-- most.
use Rattle.rv_account.proofs.OfRules.Words.{◌≡◌, ◌⊎◌, ◌+◌, ◌<◌, ◌≤◌, ◌∙◌, inl, inr, ℕ, take, Some}
use Rattle.rv_account.proofs.OfRules.Words.{option_and_then}
use Rattle.rv_account.proofs.OfRules.Words.{refl, sym, ap, subst, arith, slice_get, cases_order, same_Some}
use Rattle.rv_account.proofs.OfRules.Words.{Key, Call}
use Rattle.rv_account.proofs.OfRules.Words.{Version, Hello, Arrive, Cancel, Account, act_at, key_in}
use Rattle.rv_account.proofs.OfRules.Words.{call_in, IsPut}
use Rattle.rv_account.proofs.OfRules.Words.{HasIncarnation, LastHello, LastNumber, NamesKey, Legal, before}
use Rattle.rv_account.proofs.OfRules.Words.{EndsWait}
use Rattle.rv_account.proofs.OfRules.Words.{Waiting, limit_at}
use Rattle.rv_account.specs.rules.Legal.{IsNextNumber, WaitsUnder}
use Rattle.rv_account.proofs.OfRules.Growing.{act_read, read_there}
use Rattle.rv_account.proofs.OfRules.Keys.{act_arrives, act_named, key_read, no_hello}
use Rattle.rv_account.proofs.OfRules.Fronts.{Legal-before, read_front, read_whole, waiting_in_front}

-- what a legal account says of the arrival at r, of those before it
pub record IsArrival (a : Account) (r : ℕ) (key : Key) : Type 0 where
  pub epoch : key.epoch ≡ a.epoch
  pub incarnation : HasIncarnation (take r a.entries) key.client key.incarnation
  pub next : IsNextNumber (take r a.entries) key

pub arrival : (a : Account) (r : ℕ) (key : Key) (call : Call) → Legal a
    → act_at a.entries r ≡ Some (Arrive key call) → IsArrival a r key
arrival a r key call legal arrived =
    let at = read_there act_read refl (slice_get a.entries r) (Arrive key call) arrived in
    let does = same_Some _ _ at.2 in
    let numbers = (legal r at.0 at.1).numbers in
    let session = numbers.of_session key (ap key_in does) in
    record { epoch = session.0; incarnation = session.1; next = numbers.counts_up key call does }

-- what a legal account says of the cancel at r, of those before it
pub record IsCancel (a : Account) (r : ℕ) (key : Key) : Type 0 where
  pub epoch : key.epoch ≡ a.epoch
  pub incarnation : HasIncarnation (take r a.entries) key.client key.incarnation
  pub turn : WaitsUnder (take r a.entries) key ⊎ IsNextNumber (take r a.entries) key

pub cancel : (a : Account) (r : ℕ) (key : Key) → Legal a → act_at a.entries r ≡ Some (Cancel key)
    → IsCancel a r key
cancel a r key legal cancelled =
    let at = read_there act_read refl (slice_get a.entries r) (Cancel key) cancelled in
    let does = same_Some _ _ at.2 in
    let numbers = (legal r at.0 at.1).numbers in
    let session = numbers.of_session key (ap key_in does) in
    record { epoch = session.0; incarnation = session.1; turn = numbers.cancels key does }

-- ---- what comes after a request that waits

-- no hello of its client, which would have stopped it
pub no_hello_behind : (a : Account) (r h : ℕ) (key : Key) (call : Call) (incarnation : ℕ) (v : Version)
    → Waiting a.entries r → act_at a.entries r ≡ Some (Arrive key call)
    → act_at a.entries h ≡ Some (Hello key.client incarnation v) → r < h → ⊥
no_hello_behind a r h key call incarnation v w arrived hello later =
    let at = read_there act_read refl (slice_get a.entries h) (Hello key.client incarnation v) hello in
    let same : w.is_open.call ≡ call = same_Some _ _ (sym w.is_open.arrived ∙ ap (option_and_then call_in)
    arrived) in
    let says : Hello key.client incarnation v ≡ at.0.act = sym (same_Some _ _ at.2) in
    w.is_open.unstopped (
      h,
      record {
        key = key;
        call = call;
        stopper = at.0;
        arrived = arrived;
        no_put = λ put. w.no_put (subst IsPut (sym same) put);
        later = later;
        there = at.1;
        ends = subst (λ act. EndsWait act at.0.moment key (limit_at a.entries r)) says refl;
      },
    )

-- no arrival of its client, which would have found it waiting
no_arrival_behind : (a : Account) (r s client : ℕ) (key other : Key) (call : Call) → Legal a
    → Waiting a.entries r → NamesKey a.entries client r key → other.client ≡ client
    → act_at a.entries s ≡ Some (Arrive other call) → r < s → ⊥
no_arrival_behind a r s client key other call legal w names of_client arrived later =
    (arrival a s other call legal arrived).next.idle (record {
      place = r;
      key = key;
      waits = waiting_in_front a.entries s r later w;
      names = record {
        named = read_front key_read a.entries s r key later names.named;
        of_client =
            names.of_client ∙ sym of_client;
      };
    })

-- a client has one at most
waits_behind : (a : Account) (client r s : ℕ) (key other : Key) → Legal a → Waiting a.entries r
    → Waiting a.entries s → NamesKey a.entries client r key → NamesKey a.entries client s other → r < s → ⊥
waits_behind a client r s key other legal first second names also later =
    no_arrival_behind a r s client key other second.is_open.call legal first names also.of_client
    (act_arrives (act_at a.entries s) other second.is_open.call also.named second.is_open.arrived) later

pub one_waits : (a : Account) (client r s : ℕ) (key other : Key) → Legal a → Waiting a.entries r
    → Waiting a.entries s → NamesKey a.entries client r key → NamesKey a.entries client s other → r ≡ s
one_waits a client r s key other legal first second names also = elim (cases_order r s) [
  | inl same ↦ same
  | inr differ ↦ elim differ [
    | inl less ↦ absurd (waits_behind a client r s key other legal first second names also less)
    | inr more ↦ absurd (waits_behind a client s r other key legal second first also names more)
  ]
]

-- a cancel of the request that waits would have stopped it
no_cancel_behind : (a : Account) (r s : ℕ) (key : Key) (call : Call) → Waiting a.entries r
    → act_at a.entries r ≡ Some (Arrive key call) → act_at a.entries s ≡ Some (Cancel key) → r < s → ⊥
no_cancel_behind a r s key call w arrived cancelled later =
    let at = read_there act_read refl (slice_get a.entries s) (Cancel key) cancelled in
    let same : w.is_open.call ≡ call = same_Some _ _ (sym w.is_open.arrived ∙ ap (option_and_then call_in)
    arrived) in
    let says : Cancel key ≡ at.0.act = sym (same_Some _ _ at.2) in
    w.is_open.unstopped (
      s,
      record {
        key = key;
        call = call;
        stopper = at.0;
        arrived = arrived;
        no_put = λ put. w.no_put (subst IsPut (sym same) put);
        later = later;
        there = at.1;
        ends = subst (λ act. EndsWait act at.0.moment key (limit_at a.entries r)) says refl;
      },
    )

-- no cancel of its client: with it waiting, that names it
cancel_names_it : (a : Account) (r s client : ℕ) (key other : Key) → Legal a → Waiting a.entries r
    → NamesKey a.entries client r key → other.client ≡ client
    → act_at a.entries s ≡ Some (Cancel other) → r < s → ⊥
cancel_names_it a r s client key other legal w names of_client cancelled later =
    let before_it : Waiting (take s a.entries) r = waiting_in_front a.entries s r later w in
    let named_before : NamesKey (take s a.entries) client r key = record {
      named = read_front key_read
          a.entries s r key later names.named;
      of_client = names.of_client;
    } in
    elim (cancel a s other legal cancelled).turn [
      | inr next ↦ next.idle (record {
        place = r;
        key = key;
        waits = before_it;
        names =
            record { named = named_before.named; of_client = names.of_client ∙ sym of_client };
      })
      | inl waits ↦
          let named_it : NamesKey (take s a.entries) client waits.place other =
          record { named = ap (option_and_then key_in) waits.arrived; of_client = of_client } in
          let same : waits.place ≡ r = one_waits (before a s) client waits.place r other key
          (Legal-before a s legal) waits.waits before_it named_it named_before in
          let arrived = read_whole act_read refl a.entries s waits.place (Arrive other waits.call)
          waits.arrived in
          no_cancel_behind a r s other waits.call w (ap (act_at a.entries) (sym same) ∙ arrived.1) cancelled
          later
    ]

-- so no key of its client
pub no_key_behind : (a : Account) (r s client : ℕ) (key other : Key) → Legal a → Waiting a.entries r
    → NamesKey a.entries client r key → NamesKey a.entries client s other → r < s → ⊥
no_key_behind a r s client key other legal w names later_names later = elim (act_named (act_at a.entries s)
    other later_names.named) [
      | inl does ↦ no_arrival_behind a r s client key other does.0 legal w names later_names.of_client does.1
          later
      | inr does ↦ cancel_names_it a r s client key other legal w names later_names.of_client does later
    ]

-- ---- its session

-- a hello before the request is its client's last
still_last : (a : Account) (r h incarnation : ℕ) (key : Key) (call : Call) → Waiting a.entries r
    → act_at a.entries r ≡ Some (Arrive key call)
    → LastHello (take r a.entries) key.client incarnation h → LastHello a.entries key.client incarnation h
still_last a r h incarnation key call w arrived last = record {
  version = last.version;
  hello = (read_whole act_read refl a.entries r h (Hello key.client incarnation last.version) last.hello).1;
  last = λ s other v behind hello. elim (cases_order s r) [
    | inl is ↦ no_hello key call key.client other v (sym arrived ∙ ap (act_at a.entries) (sym is) ∙ hello)
    | inr differ ↦ elim differ [
      | inl less ↦ last.last s other v behind (read_front act_read a.entries r s (Hello key.client other v)
          less hello)
      | inr more ↦ no_hello_behind a r s key call other v w arrived hello more
    ]
  ];
}

-- what a legal account says of a request that waits
pub record IsLast (a : Account) (key : Key) : Type 0 where
  pub epoch : key.epoch ≡ a.epoch
  pub incarnation : HasIncarnation a.entries key.client key.incarnation
  pub number : LastNumber a.entries key.client key.number

-- the request that waits is its session's last
pub waiting_is_last : (a : Account) (r : ℕ) (key : Key) (call : Call) → Legal a → Waiting a.entries r
    → act_at a.entries r ≡ Some (Arrive key call) → IsLast a key
waiting_is_last a r key call legal w arrived =
    let at = arrival a r key call legal arrived in
    let is_last = at.next.is_last in
    let hello = is_last.hello in
    let before_it : is_last.h < r = (read_whole act_read refl a.entries r is_last.h
    (Hello key.client is_last.incarnation hello.version) hello.hello).0 in
    let number : key.number ≡ at.next.last + 1 = at.next.next in
    let names : NamesKey a.entries key.client r key = record {
      named = ap (option_and_then key_in) arrived;
      of_client = refl;
    } in
    record {
      epoch = at.epoch;
      incarnation = (
        at.incarnation.0,
        still_last a r at.incarnation.0 key.incarnation key call w arrived
            at.incarnation.1,
      );
      number = record {
        incarnation = is_last.incarnation;
        h = is_last.h;
        hello = still_last a r is_last.h is_last.incarnation key call w arrived hello;
        greatest = λ s other behind also. elim (cases_order s r) [
          | inl is ↦
              let same : other ≡ key = same_Some _ _ (sym also.named
              ∙ ap (λ n. key_read (slice_get a.entries n)) is ∙ names.named) in
              let equal : other.number ≡ key.number = ap (λ (k : Key). k.number) same in
              omega arith
          | inr differ ↦ elim differ [
            | inl less ↦
                let there : NamesKey (take r a.entries) key.client s other =
                record {
                  named = read_front key_read a.entries r s other less also.named;
                  of_client =
                      also.of_client;
                } in
                let most : other.number ≤ at.next.last = is_last.greatest s other behind there in
                omega arith
            | inr more ↦ absurd (no_key_behind a r s key.client key other legal w names also more)
          ]
        ];
        reached = inr (r, key, before_it, names, refl);
      };
    }
