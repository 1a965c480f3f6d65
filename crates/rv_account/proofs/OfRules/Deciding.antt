-- What any list of entries decides: a client's last hello and last number, and who is met, stopped, open or
-- waiting.
use Rattle.rv_account.proofs.OfRules.Words.{◌<◌, ◌∙◌, ◌≡◌, ◌≤◌, ◌⊎◌, ◌+◌, ◌∷◌, Act, Arrive, Cancel, Hello}
use Rattle.rv_account.proofs.OfRules.Words.{Tick, List}
use Rattle.rv_account.proofs.OfRules.Words.{None, Option, Some, ap, arith, inl, inr, length, refl, subst}
use Rattle.rv_account.proofs.OfRules.Words.{suc, sym}
use Rattle.rv_account.proofs.OfRules.Words.{zero, ℕ, [], Call, Version, Entry, Exchanges, Gives, Looks, Takes}
use Rattle.rv_account.proofs.OfRules.Words.{HasIncarnation, LastHello, LastNumber, NamesKey, Key, IsPut}
use Rattle.rv_account.proofs.OfRules.Words.{MayMeet, Stays}
use Rattle.rv_account.proofs.OfRules.Words.{opposite, EndsWait, Met, NamesPartner, Open, OpenAt, Stopped}
use Rattle.rv_account.proofs.OfRules.Words.{StoppedAt}
use Rattle.rv_account.proofs.OfRules.Words.{Waiting, limit_at, Side, Among, act_at, call_at, key_at}
use Rattle.rv_account.proofs.OfRules.Words.{cases_lt, is_some}
use Rattle.rv_account.proofs.OfRules.Words.{none-some, same_Some, side_of, slice_get, NumberOf}
use Rattle.std.proofs.Common.{Bool, false, true}
use Rattle.rv_account.specs.rules.Sessions.{SaidHello}
use Rattle.rv_account.specs.Calls.{Lasts}
use Rattle.rv_account.specs.rules.Waiting.{HasElapsed}
use Rattle.rv_text.specs.declared.call.Wait.TheVariants.{Now, Millis, Forever}
use Rattle.rv_text.specs.declared.call.Wait.{Wait}
use Rattle.rv_account.proofs.OfRules.Growing.{act_read, call_read, reads_within}
use Rattle.rv_account.proofs.OfRules.Places.{within}
use Rattle.rv_account.proofs.OfRules.Numbers.{first_below, last_below, same_or_not}
use Rattle.rv_account.proofs.OfRules.Naming.{among_named, among_none, among_or_not, first_among, named_among}
use Rattle.rv_account.proofs.OfRules.Naming.{partners_of}
use Rattle.rv_account.proofs.OfRules.Keys.{key_read, client_of, hello_is_own, cancel_no_hello, no_hello}
use Rattle.rv_account.proofs.OfRules.Keys.{same_hello}
use Rattle.rv_account.proofs.OfRules.Keys.{tick_no_hello}
use Rattle.rv_text.specs.Calls.{wait_of}
use Rattle.rv_account.proofs.OfRules.Counting.{find_number}

-- ---- sessions

-- a hello of the client stands at r
abbrev pub HelloAt : List Entry → ℕ → ℕ → Type 0
HelloAt es c r = (i : ℕ) × (v : Version) × (act_at es r ≡ Some (Hello c i v))

hello_of : (c : ℕ) (o : Option Act) → ((i : ℕ) × (v : Version) × (o ≡ Some (Hello c i v)))
    ⊎ ((i : ℕ) × (v : Version) × (o ≡ Some (Hello c i v)) → ⊥)
hello_of c None = inr (λ h. none-some (Hello c h.0 h.1) h.2)
hello_of c (Some (Hello d j w)) = elim (same_or_not d c) [
  | inl same ↦ inl (j, w, ap (λ n. Some (Hello n j w)) same)
  | inr other ↦ inr (λ h. other (same_hello d j c h.0 w h.1 h.2))
]
hello_of c (Some (Arrive key call)) = inr (λ h. no_hello key call c h.0 h.1 h.2)
hello_of c (Some (Cancel key)) = inr (λ h. cancel_no_hello key c h.0 h.1 h.2)
hello_of c (Some Tick) = inr (λ h. tick_no_hello c h.0 h.1 h.2)

pub find_hello : (es : List Entry) (c : ℕ)
    → ((i : ℕ) × HasIncarnation es c i) ⊎ ((r i : ℕ) (v : Version) → act_at es r ≡ Some (Hello c i v) → ⊥)
find_hello es c = elim (last_below (HelloAt es c) (λ r. hello_of c (act_at es r)) (length es)) [
  | inl found ↦ inl (
    found.2.0,
    (
      found.0,
      record {
        version = found.2.1;
        hello = found.2.2;
        last = λ r j v later hello. found.3 r later (reads_within act_read refl es r (Hello c j v) hello)
            (j, v, hello);
      },
    ),
  )
  | inr none ↦ inr (λ r i v hello. none r (reads_within act_read refl es r (Hello c i v) hello) (i, v, hello))
]

pub said_or_not : (es : List Entry) (c : ℕ) → SaidHello es c ⊎ (SaidHello es c → ⊥)
said_or_not es c = elim (find_hello es c) [
  | inl found ↦ inl (found.1.0, found.0, found.1.1.version, found.1.1.hello)
  | inr none ↦ inr (λ said. none said.0 said.1 said.2 said.3)
]

-- a bound above the clients of all hellos
abbrev clients_below : List Entry → ℕ
clients_below [] = 0
clients_below (e ∷ es) = client_of e.act + 1 + clients_below es

is_below : (es : List Entry) (c r i : ℕ) (v : Version) → act_at es r ≡ Some (Hello c i v)
    → c < clients_below es
is_below [] c r i v hello = absurd (none-some _ hello)
is_below (e ∷ es) c zero i v hello = let own : client_of e.act ≡ c = hello_is_own e.act c i v hello in
    omega arith
is_below (e ∷ es) c (suc r) i v hello = let below : c < clients_below es = is_below es c r i v hello in
    omega arith

-- how many clients said a hello
pub find_clients : (es : List Entry) → (n : ℕ) × NumberOf (SaidHello es) n
find_clients es = find_number (SaidHello es) (said_or_not es) (clients_below es) (λ c said. is_below es c
    said.0 said.1 said.2 said.3)

-- the greatest number of the client's keys after h and below n
pub record Greatest (es : List Entry) (c h n m : ℕ) : Type 0 where
  pub most : (r : ℕ) (key : Key) → h < r → r < n → NamesKey es c r key → key.number ≤ m
  pub reached : (m ≡ 0) ⊎ ((r : ℕ) × (key : Key) × (h < r) × NamesKey es c r key × (key.number ≡ m))

key_of : (c : ℕ) (o : Option Key) → ((key : Key) × (o ≡ Some key) × (key.client ≡ c))
    ⊎ ((key : Key) → o ≡ Some key → key.client ≡ c → ⊥)
key_of c None = inr (λ key is own. none-some key is)
key_of c (Some key) = elim (same_or_not key.client c) [
  | inl own ↦ inl (key, refl, own)
  | inr other ↦ inr (λ k is own. other (ap (λ (x : Key). x.client) (same_Some _ _ is) ∙ own))
]

greatest_number : (es : List Entry) (c h n : ℕ) → (m : ℕ) × Greatest es c h n m
greatest_number es c h zero = (
  0,
  record {
    most = λ r key later less names. absurd (omega arith);
    reached =
        inl refl;
  },
)
greatest_number es c h (suc n) =
    let before = greatest_number es c h n in
    elim (cases_lt h n) [
      | inr early ↦ (
        before.0,
        record {
          most = λ r key later less names. absurd (omega arith);
          reached =
              before.1.reached;
        },
      )
      | inl late ↦ elim (key_of c (key_at es n)) [
        | inr none ↦ (
          before.0,
          record {
            most = λ r key later less names. elim (cases_lt r n) [
              | inl below ↦ before.1.most r key later below names
              | inr here ↦ let is : r ≡ n = omega arith in
                  absurd (none key (ap (key_at es) (sym is) ∙ names.named) names.of_client)
            ];
            reached = before.1.reached;
          },
        )
        | inl found ↦
            let key = found.0 in
            elim (cases_lt before.0 key.number) [
              | inl above ↦ (
                key.number,
                record {
                  most = λ r other later less names. elim (cases_lt r n) [
                    | inl below ↦ let most : other.number ≤ before.0 = before.1.most r other later below
                        names in omega arith
                    | inr here ↦ let is : r ≡ n = omega arith in let same : key.number ≡ other.number =
                        ap (λ (x : Key). x.number) (same_Some _ _ (sym found.1 ∙ ap (key_at es) (sym is)
                        ∙ names.named)) in omega arith
                  ];
                  reached = inr (n, key, late, record { named = found.1; of_client = found.2 }, refl);
                },
              )
              | inr below ↦ (
                before.0,
                record {
                  most = λ r other later less names. elim (cases_lt r n) [
                    | inl early ↦ before.1.most r other later early names
                    | inr here ↦ let is : r ≡ n = omega arith in let same : key.number ≡ other.number =
                        ap (λ (x : Key). x.number) (same_Some _ _ (sym found.1 ∙ ap (key_at es) (sym is)
                        ∙ names.named)) in omega arith
                  ];
                  reached = before.1.reached;
                },
              )
            ]
      ]
    ]

pub find_last : (es : List Entry) (c i h : ℕ) → LastHello es c i h → (m : ℕ) × LastNumber es c m
find_last es c i h hello =
    let found = greatest_number es c h (length es) in (
      found.0,
      record {
        incarnation = i;
        h = h;
        hello = hello;
        greatest = λ r key later names. found.1.most r key later (reads_within key_read refl es r key
            names.named) names;
        reached = found.1.reached;
      },
    )

-- ---- who is met, and who is open

some_or_none : (b : Bool) → (b ≡ true) ⊎ (b ≡ true → ⊥)
some_or_none true = inl refl
some_or_none false = inr (λ e. absurd (let no : ⊥ = cc in no))

meets_or_not : (call : Call) → MayMeet call ⊎ (MayMeet call → ⊥)
meets_or_not call = some_or_none (is_some (opposite (side_of call)))

-- the arrival at p may name partners
record CanName (es : List Entry) (p : ℕ) : Type 0 where
  call : Call
  arrived : call_at es p ≡ Some call
  meets : MayMeet call

can_name : (es : List Entry) (p : ℕ) (c : Option Call) → call_at es p ≡ c → CanName es p ⊎ (CanName es p → ⊥)
can_name es p None calls = inr (λ can. none-some can.call (sym calls ∙ can.arrived))
can_name es p (Some call) calls = elim (meets_or_not call) [
  | inl meets ↦ inl (record { call = call; arrived = calls; meets = meets })
  | inr alone ↦ inr (λ can. alone (subst MayMeet (same_Some _ _ (sym can.arrived ∙ calls)) can.meets))
]

as_named : (es : List Entry) (p q : ℕ) → CanName es p → Among (partners_of (slice_get es p)) q
    → NamesPartner es p q
as_named es p q can at = record {
  call = can.call;
  arrived = can.arrived;
  meets = can.meets;
  named =
      among_named es p q at;
}

by_name : (es : List Entry) (p q : ℕ) → NamesPartner es p q → CanName es p
by_name es p q names = record { call = names.call; arrived = names.arrived; meets = names.meets }

names_or_not : (es : List Entry) (p q : ℕ) → NamesPartner es p q ⊎ (NamesPartner es p q → ⊥)
names_or_not es p q = elim (can_name es p (call_at es p) refl) [
  | inr cannot ↦ inr (λ names. cannot (by_name es p q names))
  | inl can ↦ elim (among_or_not (partners_of (slice_get es p)) q) [
    | inl at ↦ inl (as_named es p q can at)
    | inr apart ↦ inr (λ names. apart (named_among es p q names.named))
  ]
]

-- the first that the arrival at p names, or that it names nobody
first_named : (es : List Entry) (p : ℕ) → ((q : ℕ) × NamesPartner es p q) ⊎ ((q : ℕ) → NamesPartner es p q
    → ⊥)
first_named es p = elim (can_name es p (call_at es p) refl) [
  | inr cannot ↦ inr (λ q names. cannot (by_name es p q names))
  | inl can ↦ elim (first_among (partners_of (slice_get es p))) [
    | inl first ↦ inl (first.0, as_named es p first.0 can first.1)
    | inr none ↦ inr (λ q names. among_none (partners_of (slice_get es p)) q none
        (named_among es p q names.named))
  ]
]

-- the pair whose place is p has r
abbrev pub PartAt : List Entry → ℕ → ℕ → Type 0
PartAt es r p = (q : ℕ) × NamesPartner es p q × ((r ≡ p) ⊎ (r ≡ q))

part_at : (es : List Entry) (r p : ℕ) → PartAt es r p ⊎ (PartAt es r p → ⊥)
part_at es r p = elim (names_or_not es p r) [
  | inl names ↦ inl (r, names, inr refl)
  | inr unnamed ↦ elim (same_or_not r p) [
    | inr apart ↦ inr (λ part. elim part.2 [
      | inl is ↦ apart is
      | inr is ↦ unnamed (subst (NamesPartner es p)
          (sym is) part.1)
    ])
    | inl own ↦ elim (first_named es p) [
      | inl first ↦ inl (first.0, first.1, inl own)
      | inr none ↦ inr (λ part. none part.0 part.1)
    ]
  ]
]

pub met_or_not : (es : List Entry) (r : ℕ) → Met es r ⊎ (Met es r → ⊥)
met_or_not es r = elim (first_below (PartAt es r) (part_at es r) (length es)) [
  | inl found ↦ inl (record { later = found.0; earlier = found.2.0; names = found.2.1; part = found.2.2 })
  | inr none ↦ inr (λ met. none met.later (reads_within call_read refl es met.later met.names.call
      met.names.arrived) (met.earlier, met.names, met.part))
]

-- ---- who is stopped

same_fields : (a b c d e f g h : ℕ) → a ≡ b → c ≡ d → e ≡ f → g ≡ h
    → ◌≡◌ {A = Key} (record { epoch = a; client = c; incarnation = e; number = g })
    (record { epoch = b; client = d; incarnation = f; number = h })
same_fields a b c d e f g h p q r s = cc

pub same_key : (k key : Key) → k.epoch ≡ key.epoch → k.client ≡ key.client → k.incarnation ≡ key.incarnation
    → k.number ≡ key.number → k ≡ key
same_key k key p q r s = same_fields k.epoch key.epoch k.client key.client k.incarnation key.incarnation
    k.number key.number p q r s

pub key_or_other : (k key : Key) → (k ≡ key) ⊎ (k ≡ key → ⊥)
key_or_other k key = elim (same_or_not k.epoch key.epoch) [
  | inr apart ↦ inr (λ is. apart (ap (λ (x : Key). x.epoch) is))
  | inl epoch ↦ elim (same_or_not k.client key.client) [
    | inr apart ↦ inr (λ is. apart (ap (λ (x : Key). x.client) is))
    | inl client ↦ elim (same_or_not k.incarnation key.incarnation) [
      | inr apart ↦ inr (λ is. apart (ap (λ (x : Key). x.incarnation) is))
      | inl incarnation ↦ elim (same_or_not k.number key.number) [
        | inr apart ↦ inr (λ is. apart (ap (λ (x : Key). x.number) is))
        | inl number ↦ inl (same_key k key epoch client incarnation number)
      ]
    ]
  ]
]

elapsed_or_not : (limit : Option ℕ) (moment : ℕ) → HasElapsed limit moment ⊎ (HasElapsed limit moment → ⊥)
elapsed_or_not None moment = inr (λ over. over)
elapsed_or_not (Some limit) moment = elim (cases_lt moment limit) [
  | inl early ↦ inr (λ over. omega arith)
  | inr over ↦ inl over
]

ends_or_not : (act : Act) (moment : ℕ) (key : Key) (limit : Option ℕ)
    → EndsWait act moment key limit ⊎ (EndsWait act moment key limit → ⊥)
ends_or_not (Hello client i v) moment key limit = same_or_not client key.client
ends_or_not (Arrive other call) moment key limit = inr (λ ends. ends)
ends_or_not (Cancel other) moment key limit = key_or_other other key
ends_or_not Tick moment key limit = elapsed_or_not limit moment

none_or_some : (wait : Option Wait) → (wait ≡ None) ⊎ (wait ≡ None → ⊥)
none_or_some None = inl refl
none_or_some (Some wait) = inr (λ is. none-some wait (sym is))

pub put_or_not : (call : Call) → IsPut call ⊎ (IsPut call → ⊥)
put_or_not call = elim (meets_or_not call) [
  | inr alone ↦ inr (λ put. alone put.0)
  | inl meets ↦ elim (none_or_some (wait_of call)) [
    | inl none ↦ inl (meets, none)
    | inr waits ↦ inr
        (λ put. waits put.1)
  ]
]

-- after r comes what ends a wait with this key and this limit
record EndBehind (es : List Entry) (key : Key) (limit : Option ℕ) (r s : ℕ) : Type 0 where
  later : r < s
  stopper : Entry
  there : slice_get es s ≡ Some stopper
  ends : EndsWait stopper.act stopper.moment key limit

end_of : (es : List Entry) (key : Key) (limit : Option ℕ) (r s : ℕ) (o : Option Entry) → slice_get es s ≡ o
    → r < s → EndBehind es key limit r s ⊎ (EndBehind es key limit r s → ⊥)
end_of es key limit r s None there later = inr (λ h. none-some h.stopper (sym there ∙ h.there))
end_of es key limit r s (Some e) there later = elim (ends_or_not e.act e.moment key limit) [
  | inl ends ↦ inl (record { later = later; stopper = e; there = there; ends = ends })
  | inr not_here ↦ inr (λ h. not_here (subst (λ (x : Entry). EndsWait x.act x.moment key limit)
      (same_Some _ _ (sym h.there ∙ there)) h.ends))
]

end_behind : (es : List Entry) (key : Key) (limit : Option ℕ) (r s : ℕ)
    → EndBehind es key limit r s ⊎ (EndBehind es key limit r s → ⊥)
end_behind es key limit r s = elim (cases_lt r s) [
  | inr most ↦ inr (λ h. let later : r < s = h.later in omega arith)
  | inl later ↦ end_of es key limit r s (slice_get es s) refl later
]

same_parts : (key other : Key) (call more : Call) → Some (Arrive key call) ≡ Some (Arrive other more)
    → (key ≡ other) × (call ≡ more)
same_parts key other call more e = (cc, cc)

stops_by : (es : List Entry) (r s : ℕ) (key : Key) (call : Call) → act_at es r ≡ Some (Arrive key call)
    → (IsPut call → ⊥) → StoppedAt es r s ⊎ (StoppedAt es r s → ⊥)
stops_by es r s key call arrived no_put = elim (end_behind es key (limit_at es r) r s) [
  | inl at ↦ inl (record {
    key = key;
    call = call;
    stopper = at.stopper;
    arrived = arrived;
    no_put = no_put;
    later = at.later;
    there = at.there;
    ends = at.ends;
  })
  | inr none ↦ inr (λ h.
      let own : h.key ≡ key = (same_parts h.key key h.call call (sym h.arrived ∙ arrived)).0 in
      let ends = subst (λ (k : Key). EndsWait h.stopper.act h.stopper.moment k (limit_at es r)) own h.ends in
      none (record { later = h.later; stopper = h.stopper; there = h.there; ends = ends }))
]

pub arrives_no_cancel : (key : Key) (call : Call) (other : Key) → Some (Arrive key call) ≡ Some (Cancel other)
    → ⊥
arrives_no_cancel key call other e = cc

pub arrives_no_tick : (key : Key) (call : Call) → Some (Arrive key call) ≡ Some Tick → ⊥
arrives_no_tick key call e = cc

stops_of : (es : List Entry) (r s : ℕ) (o : Option Act) → act_at es r ≡ o
    → StoppedAt es r s ⊎ (StoppedAt es r s → ⊥)
stops_of es r s None there = inr (λ h. none-some _ (sym there ∙ h.arrived))
stops_of es r s (Some (Hello client i v)) there = inr (λ h. no_hello h.key h.call client i v (sym h.arrived
    ∙ there))
stops_of es r s (Some (Cancel key)) there = inr (λ h. arrives_no_cancel h.key h.call key (sym h.arrived
    ∙ there))
stops_of es r s (Some Tick) there = inr (λ h. arrives_no_tick h.key h.call (sym h.arrived ∙ there))
stops_of es r s (Some (Arrive key call)) there = elim (put_or_not call) [
  | inr no_put ↦ stops_by es r s key call there no_put
  | inl put ↦ inr
      (λ h. h.no_put (subst IsPut (sym (same_parts h.key key h.call call (sym h.arrived ∙ there)).1) put))
]

pub stops_or_not : (es : List Entry) (r s : ℕ) → StoppedAt es r s ⊎ (StoppedAt es r s → ⊥)
stops_or_not es r s = stops_of es r s (act_at es r) refl

pub stopped_or_not : (es : List Entry) (r : ℕ) → Stopped es r ⊎ (Stopped es r → ⊥)
stopped_or_not es r = elim (first_below (StoppedAt es r) (stops_or_not es r) (length es)) [
  | inl found ↦ inl (found.0, found.2)
  | inr none ↦ inr (λ stopped. none stopped.0 (within es stopped.0 stopped.1.stopper stopped.1.there)
      stopped.1)
]

-- ---- who is open on a side

gives_apart : (p q : ℕ) → (p ≡ q → ⊥) → Gives p ≡ Gives q → ⊥
gives_apart p q apart e = apart (cc)

takes_apart : (p q : ℕ) → (p ≡ q → ⊥) → Takes p ≡ Takes q → ⊥
takes_apart p q apart e = apart (cc)

exchanges_apart : (p q : ℕ) → (p ≡ q → ⊥) → Exchanges p ≡ Exchanges q → ⊥
exchanges_apart p q apart e = apart cc

looks_apart : (p q : ℕ) → (p ≡ q → ⊥) → Looks p ≡ Looks q → ⊥
looks_apart p q apart e = apart (cc)

pub same_side : (s t : Side) → (s ≡ t) ⊎ (s ≡ t → ⊥)
same_side (Gives p) (Gives q) = elim (same_or_not p q) [
  | inl same ↦ inl (ap Gives same)
  | inr apart ↦ inr
      (gives_apart p q apart)
]
same_side (Gives p) (Takes q) = inr (λ e. let no : ⊥ = cc in no)
same_side (Gives p) (Looks q) = inr (λ e. let no : ⊥ = cc in no)
same_side (Takes p) (Gives q) = inr (λ e. let no : ⊥ = cc in no)
same_side (Takes p) (Takes q) = elim (same_or_not p q) [
  | inl same ↦ inl (ap Takes same)
  | inr apart ↦ inr
      (takes_apart p q apart)
]
same_side (Takes p) (Looks q) = inr (λ e. let no : ⊥ = cc in no)
same_side (Looks p) (Gives q) = inr (λ e. let no : ⊥ = cc in no)
same_side (Looks p) (Takes q) = inr (λ e. let no : ⊥ = cc in no)
same_side (Looks p) (Looks q) = elim (same_or_not p q) [
  | inl same ↦ inl (ap Looks same)
  | inr apart ↦ inr
      (looks_apart p q apart)
]
same_side (Gives p) (Exchanges q) = inr (λ e. let no : ⊥ = cc in no)
same_side (Takes p) (Exchanges q) = inr (λ e. let no : ⊥ = cc in no)
same_side (Looks p) (Exchanges q) = inr (λ e. let no : ⊥ = cc in no)
same_side (Exchanges p) (Gives q) = inr (λ e. let no : ⊥ = cc in no)
same_side (Exchanges p) (Takes q) = inr (λ e. let no : ⊥ = cc in no)
same_side (Exchanges p) (Looks q) = inr (λ e. let no : ⊥ = cc in no)
same_side (Exchanges p) (Exchanges q) = elim (same_or_not p q) [
  | inl same ↦ inl (ap Exchanges same)
  | inr
      apart ↦ inr (exchanges_apart p q apart)
]

pub lasts_or_not : (wait : Option Wait) → Lasts wait ⊎ (Lasts wait → ⊥)
lasts_or_not None = inl tt
lasts_or_not (Some Now) = inr (λ lasts. lasts)
lasts_or_not (Some (Millis n)) = elim (cases_lt 0 n) [
  | inl lasts ↦ inl lasts
  | inr over ↦ inr
      (λ lasts. omega arith)
]
lasts_or_not (Some Forever) = inl tt

pub stays_or_not : (call : Call) → Stays call ⊎ (Stays call → ⊥)
stays_or_not call = elim (meets_or_not call) [
  | inr alone ↦ inr (λ stays. alone stays.0)
  | inl meets ↦ elim (lasts_or_not (wait_of call)) [
    | inl lasts ↦ inl (meets, lasts)
    | inr goes ↦ inr
        (λ stays. goes stays.1)
  ]
]

-- an arrival of this call is open there or not
open_of : (es : List Entry) (r : ℕ) (call : Call) → call_at es r ≡ Some call → Open es r ⊎ (Open es r → ⊥)
open_of es r call arrived = elim (stays_or_not call) [
  | inr goes ↦ inr (λ h. goes (subst Stays (same_Some _ _ (sym h.arrived ∙ arrived)) h.stays))
  | inl stays ↦ elim (met_or_not es r) [
    | inl met ↦ inr (λ h. h.unmet met)
    | inr unmet ↦ elim (stopped_or_not es r) [
      | inl stopped ↦ inr (λ h. h.unstopped stopped)
      | inr unstopped ↦ inl (record {
        call = call;
        arrived = arrived;
        stays = stays;
        unmet = unmet;
        unstopped = unstopped;
      })
    ]
  ]
]

called_or_not : (es : List Entry) (r : ℕ) (c : Option Call) → call_at es r ≡ c
    → ((call : Call) × (call_at es r ≡ Some call)) ⊎ ((call : Call) → call_at es r ≡ Some call → ⊥)
called_or_not es r None calls = inr (λ call arrived. none-some call (sym calls ∙ arrived))
called_or_not es r (Some call) calls = inl (call, calls)

pub open_or_not : (es : List Entry) (r : ℕ) → Open es r ⊎ (Open es r → ⊥)
open_or_not es r = elim (called_or_not es r (call_at es r) refl) [
  | inl called ↦ open_of es r called.0 called.1
  | inr none ↦ inr (λ h. none h.call h.arrived)
]

pub waits_or_not : (es : List Entry) (r : ℕ) → Waiting es r ⊎ (Waiting es r → ⊥)
waits_or_not es r = elim (open_or_not es r) [
  | inr closed ↦ inr (λ w. closed w.is_open)
  | inl opened ↦ elim (put_or_not opened.call) [
    | inl put ↦ inr (λ w. w.no_put (subst IsPut (same_Some _ _ (sym opened.arrived ∙ w.is_open.arrived)) put))
    | inr no_put ↦ inl (record { is_open = opened; no_put = no_put })
  ]
]

-- how many places are open
pub find_open : (es : List Entry) → (n : ℕ) × NumberOf (Open es) n
find_open es =
    find_number (Open es) (open_or_not es) (length es)
    (λ r o. reads_within call_read refl es r o.call o.arrived)

-- how many requests wait
pub find_waiting : (es : List Entry) → (n : ℕ) × NumberOf (Waiting es) n
find_waiting es = find_number (Waiting es) (waits_or_not es) (length es) (λ r w. reads_within call_read refl
    es r w.is_open.call w.is_open.arrived)

pub open_by : (es : List Entry) (side : Side) (r : ℕ) (c : Option Call) → call_at es r ≡ c
    → OpenAt es side r ⊎ (OpenAt es side r → ⊥)
open_by es side r None calls = inr (λ h. none-some h.of_side.call (sym calls ∙ h.of_side.arrived))
open_by es side r (Some call) calls = elim (same_side (side_of call) side) [
  | inl same ↦ elim (open_of es r call calls) [
    | inl opened ↦ inl (record {
      of_side = record { call = call; arrived = calls; is = same };
      is_open =
          opened;
    })
    | inr closed ↦ inr (λ h. closed h.is_open)
  ]
  | inr apart ↦ inr (λ h. apart (ap side_of (same_Some _ _ (sym calls ∙ h.of_side.arrived)) ∙ h.of_side.is))
]
