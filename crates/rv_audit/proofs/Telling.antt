-- What one test on an audit's tables tells, of what the rules ask.
use Rattle.rv_audit.specs.Passed.{AreTaken}
use Rattle.rv_audit.proofs.Words.{Bool, List, ap, IsNoFreePlace}
use Rattle.rv_audit.proofs.Words.{◌≡◌, ◌≢◌, ◌+◌, ◌-◌, ◌<◌, ◌≤◌, ◌∙◌, inl, inr, ℕ, Bool, true, false, not}
use Rattle.rv_audit.proofs.Words.{nat_eq, List, length, Option, Some, None}
use Rattle.rv_audit.proofs.Words.{refl, sym, ap, subst, arith, IsTrue, false≢true}
use Rattle.rv_audit.proofs.Words.{nat_tests, same_Some, Version, Key, Call, Side, side_of, Entry}
use Rattle.rv_audit.proofs.Words.{Hello, Tick, Account, Among, act_at, may_name}
use Rattle.rv_audit.proofs.Words.{IsOpenOpposite, Legal, SomethingDue, OpenAt}
use Rattle.rv_audit.proofs.Words.{one_side}
use Rattle.rv_audit.proofs.Words.{IsPaired, MeetsWrongly, MissesPartner}
use Rattle.rv_audit.proofs.Words.{NamesTaken, PassesOver, StartsNoNewer}
use Rattle.rv_audit.proofs.Words.{is_any, AuditSession, ClientWaitsAt, HasWaiting, WaitsUnder}
use Rattle.rv_audit.proofs.Words.{Act, Arrive, Cancel, IsOutOfOrder, key_in, option_and_then, none-some}
use Rattle.rv_audit.proofs.Words.{get_or}
use Rattle.rv_audit.specs.AccountRules.{BreaksCount, NamesTooMany, NamesWrongly}
use Rattle.std.proofs.Common.{nat_lt, nat_le, is_some}
use Rattle.rv_account.specs.rules.Sessions.{LastNumber, SaidHello}
use Rattle.rv_account.proofs.OfRules.Histories.{hellos_at_most}
use Rattle.rv_audit.specs.AccountRules.{ArrivesAs, ArrivesToMeet, CountsTo, IsNotNext}
use Rattle.rv_audit.specs.AccountRules.{TicksForNothing}
use Rattle.rv_audit.specs.Passed.{IsOfSessionOf, IsOldestOpposite, LeavesOlder}
use Rattle.std.proofs.lemmas.Option.{get_or_from_slice_get, slice_get-get_or}
use Rattle.std.specs.List.Sorted.{IsStrictlyIncreasing}
use Rattle.std.specs.List.{slice_index}
use Rattle.rv_account.proofs.OfRules.Counting.{later_is_greater}
use Rattle.rv_account.proofs.OfRules.Places.{within}
use Rattle.rv_audit.proofs.RulesSuffice.{opposites_of, paired_opposite}
use Rattle.rv_audit.proofs.Words.{inl, inr, slice_get, cases_lt}
use Rattle.rv_audit.proofs.Saying.{IsKnown}
use Rattle.rv_audit.specs.Passed.{LeavesPartner}
use Rattle.rv_audit.proofs.Named.{any_among, some_among}

abbrev pub Iff : Type 0 → Type 0 → Type 0
Iff A B = (A → B) × (B → A)

-- what never holds is told by no
pub never : (A : Type 0) → (A → ⊥) → Iff (IsTrue false) A
never A none = (λ t. absurd (false≢true t), λ h. absurd (none h))

-- ---- partners

pub one_left : (es : List Entry) (call : Call) (partners : List ℕ) (found : Option ℕ)
    → length partners < may_name call → IsOldestOpposite es call partners found
    → Iff (IsTrue (is_some found)) (LeavesPartner es call partners)
one_left es call partners None fewer oldest =
    never (LeavesPartner es call partners) (λ leaves. leaves.unnamed (oldest leaves.other leaves.there))
one_left es call partners (Some first) fewer oldest = (
  λ t. record { fewer = fewer; other = first; there = oldest.0; unnamed = oldest.1 },
  λ leaves. refl,
)

module _ (es : List Entry) (call : Call) (partners : List ℕ) (rising : IsStrictlyIncreasing partners) where
  -- of places that rise the last is the greatest
  at_most_last : (p last : ℕ) → Among partners p → slice_get partners (length partners - 1) ≡ Some last
      → p ≤ last
  at_most_last p last at is =
      let inside : at.0 < length partners = within partners at.0 p at.1 in
      let p_is : slice_index partners at.0 ≡ p = get_or_from_slice_get partners at.0 p 0 at.1 in
      let last_is : slice_index partners (length partners - 1) ≡ last =
      get_or_from_slice_get partners (length partners - 1) last 0 is in
      elim (cases_lt at.0 (length partners - 1)) [
        | inl less ↦
            let below : slice_index partners at.0 < slice_index partners (length partners - 1) =
            later_is_greater partners at.0 (length partners - 1) rising less (omega arith) in
            omega arith
        | inr most ↦
            let here : at.0 ≡ length partners - 1 = omega arith in
            let same = ap (slice_index partners) here in
            omega arith
      ]

  pub older : (first last : ℕ) (b : Bool) → nat_lt first last ≡ b
      → IsOldestOpposite es call partners (Some first)
      → slice_get partners (length partners - 1) ≡ Some last → Iff (IsTrue b) (LeavesOlder es call partners)
  older first last true less oldest is = (
    λ t. record {
      partner = last;
      named = (length partners - 1, is);
      older = first;
      earlier = grind (arith, nat_tests);
      there = oldest.0;
      unnamed = oldest.1;
    },
    λ leaves. refl,
  )
  older first last false more oldest is = never (LeavesOlder es call partners) (λ leaves.
      let most : last ≤ first = grind (arith, nat_tests) in
      let up_to = at_most_last leaves.partner last leaves.named is in
      let earlier : leaves.older < leaves.partner = leaves.earlier in
      leaves.unnamed (oldest.2 leaves.older (omega arith) leaves.there))

pub no_partner : (es : List Entry) (call : Call) (partners : List ℕ)
    → slice_get partners (length partners - 1) ≡ None → Iff (IsTrue false) (LeavesOlder es call partners)
no_partner es call partners none = never (LeavesOlder es call partners) (λ leaves.
    let inside = within partners leaves.named.0 leaves.partner leaves.named.1 in
    none-some (get_or partners (length partners - 1) 0)
    (sym none ∙ slice_get-get_or partners (length partners - 1) 0 (omega arith)))

pub none_older : (es : List Entry) (call : Call) (partners : List ℕ) → IsOldestOpposite es call partners None
    → Iff (IsTrue false) (LeavesOlder es call partners)
none_older es call partners oldest = never (LeavesOlder es call partners) (λ leaves. leaves.unnamed
    (oldest leaves.older leaves.there))

pub over : (es : List Entry) (e : Entry) (call : Call) (b : Bool) → ArrivesAs IsPaired e call
    → (MeetsWrongly IsPaired es e → ⊥) → Iff (IsTrue b) (LeavesOlder es call e.partners)
    → Iff (IsTrue b) (PassesOver es e)
over es e call b arrives meets is = (
  λ t.
      let leaves = is.0 t in
      let m = opposites_of IsPaired es e meets call arrives leaves.partner leaves.named in
      record {
        call = call;
        arrives = arrives;
        partner = leaves.partner;
        names = leaves.named;
        side = m.side;
        of_queue = paired_opposite (side_of call) m.side m.opposes arrives.is;
        is_partners = m.there.of_side;
        passed = leaves.older;
        earlier = leaves.earlier;
        there = subst (λ s. OpenAt es s leaves.older) (same_Some _ _ (sym leaves.there.opposes ∙ m.opposes))
            leaves.there.there;
        unnamed = leaves.unnamed;
      },
  λ passes.
      let m = opposites_of IsPaired es e meets call arrives passes.partner passes.names in
      is.1 (record {
        partner = passes.partner;
        named = passes.names;
        older = passes.passed;
        earlier = passes.earlier;
        there = record {
          side = m.side;
          opposes = m.opposes;
          there = subst (λ s. OpenAt es s passes.passed)
              (one_side es passes.side m.side passes.partner passes.is_partners m.there.of_side) passes.there;
        };
        unnamed = passes.unnamed;
      }),
)

module _ (Is : Side → Type 0) (es : List Entry) (e : Entry) (call : Call) (b : Bool) (arrives : ArrivesAs Is e
    call) where
  own_call : (other : Call) → ArrivesAs Is e other → other ≡ call
  own_call other is = same_Some _ _ (sym is.arrives ∙ arrives.arrives)

  pub nobody_met : Iff (IsTrue b) (LeavesPartner es call e.partners) → Iff (IsTrue b) (MissesPartner Is es e)
  nobody_met is = (
    λ t. let leaves = is.0 t in record {
      call = call;
      arrives = arrives;
      fewer = leaves.fewer;
      other =
          leaves.other;
      opposite_there = leaves.there;
      unnamed = leaves.unnamed;
    },
    λ breaks.
        let same = own_call breaks.call breaks.arrives in
        is.1 (record {
          fewer = subst (λ c. length e.partners < may_name c) same breaks.fewer;
          other = breaks.other;
          there = subst (λ c. IsOpenOpposite es c breaks.other) same breaks.opposite_there;
          unnamed = breaks.unnamed;
        }),
  )

pub who_meets_not : (es : List Entry) (e : Entry) → (ArrivesToMeet e → ⊥)
    → Iff (IsTrue (is_any e.partners)) (NamesTaken es e)
who_meets_not es e meets_not = (
  λ t. let one = some_among e.partners t in record { partner = one.0; names = one.1; wrong = inl meets_not },
  λ breaks. any_among e.partners breaks.partner breaks.names,
)

-- whether an entry whose partners are free and few names wrongly
pub rises_or_not : (es : List Entry) (e : Entry) (partners : List ℕ) (b : Bool) → partners ≡ e.partners
    → (NamesTaken es e → ⊥) → (NamesTooMany e → ⊥) → Iff (IsTrue b) (IsStrictlyIncreasing partners)
    → Iff (IsTrue (not b)) (NamesWrongly es e)
rises_or_not es e partners true same free few told = (
  λ t. absurd (false≢true t),
  λ wrongly. elim wrongly [
    | inl taken ↦ absurd (free taken)
    | inr rest ↦ elim rest [
      | inl many ↦ absurd (few many)
      | inr falls ↦ absurd (falls (subst IsStrictlyIncreasing same (told.0 refl)))
    ]
  ],
)
rises_or_not es e partners false same free few told = (
  λ t. inr (inr (λ rises. false≢true (told.1 (subst IsStrictlyIncreasing (sym same) rises)))),
  λ wrongly. refl,
)

-- the flag of a place tells whether it is taken
pub taken_there : (es : List Entry) (flags : List Bool) (place : ℕ) (flag : Bool) → AreTaken es flags
    → slice_get flags place ≡ Some flag → Iff (IsTrue flag) (IsNoFreePlace es place)
taken_there es flags place flag are at = (
  λ t. inr ((are.flags place).0 (at ∙ ap Some t)),
  λ taken. elim taken [
    | inl past ↦
        let inside = within flags place flag at in
        let count = are.count in
        absurd (omega arith)
    | inr named ↦ same_Some _ _ (sym at ∙ (are.flags place).1 named)
  ],
)

-- ---- moments

pub for_nothing : (es : List Entry) (e : Entry) (b : Bool) → e.act ≡ Tick
    → Iff (IsTrue b) (SomethingDue es e.moment) → Iff (IsTrue (not b)) (TicksForNothing es e)
for_nothing es e true ticks due = (
  λ t. absurd (false≢true t),
  λ breaks. let some = due.0 refl in
      absurd (breaks.nothing_due some.0 some.1),
)
for_nothing es e false ticks due = (
  λ t. record {
    ticks = ticks;
    nothing_due = λ r is. false≢true
        (due.1 (r, is));
  },
  λ breaks. refl,
)

-- ---- sessions

pub of_session : (a : Account) (key : Key) (t : AuditSession) → IsKnown a.entries key.client t
    → key.epoch ≡ a.epoch → Iff (IsTrue (nat_eq key.incarnation t.incarnation)) (IsOfSessionOf a key)
of_session a key t is own = grind arith

pub unknown : (a : Account) (key : Key) → IsOfSessionOf a key → (SaidHello a.entries key.client → ⊥) → ⊥
unknown a key of none = none (of.1.0, key.incarnation, of.1.1.version, of.1.1.hello)

pub no_session : (a : Account) (key : Key) → (SaidHello a.entries key.client → ⊥)
    → Iff (IsTrue false) (IsOfSessionOf a key)
no_session a key none = never (IsOfSessionOf a key) (λ of. unknown a key of none)

pub none_reached : (es : List Entry) (client incarnation : ℕ) (version : Version) → (SaidHello es client → ⊥)
    → Iff (IsTrue false) (StartsNoNewer es (Hello client incarnation version))
none_reached es client incarnation version none = grind arith

pub reached : (a : Account) (client incarnation : ℕ) (version : Version) (s : AuditSession) (b : Bool)
    → nat_le incarnation s.incarnation ≡ b → Legal a → IsKnown a.entries client s
    → Iff (IsTrue b) (StartsNoNewer a.entries (Hello client incarnation version))
reached a client incarnation version s true most legal is = (
  λ t. record {
    client = client;
    incarnation = incarnation;
    version = version;
    hello = refl;
    place = is.incarnation.0;
    reached = s.incarnation;
    earlier_version = is.incarnation.1.version;
    earlier = is.incarnation.1.hello;
    no_newer = grind (arith, nat_tests);
  },
  λ breaks. refl,
)
reached a client incarnation version s false above legal is = (
  λ t. absurd (false≢true t),
  λ breaks.
      let over : s.incarnation < incarnation = grind (arith, nat_tests) in
      let same = same_hello_parts client incarnation breaks.client breaks.incarnation version breaks.version
      breaks.hello in
      let earlier = subst (λ c. act_at a.entries breaks.place ≡ Some (Hello c breaks.reached
      breaks.earlier_version)) (sym same.0) breaks.earlier in
      let at_most : breaks.reached ≤ s.incarnation = hellos_at_most a client s.incarnation breaks.place
      breaks.reached breaks.earlier_version legal is.incarnation earlier in
      let own : incarnation ≡ breaks.incarnation = same.1 in
      let no_newer : breaks.incarnation ≤ breaks.reached = breaks.no_newer in
      absurd (omega arith),
)
  where
    same_hello_parts : (c i d j : ℕ) (v w : Version) → Hello c i v ≡ Hello d j w → (c ≡ d) × (i ≡ j)
    same_hello_parts c i d j v w e = (let f : c ≡ d = cc in f, let f : i ≡ j = cc in f)

one_count : (es : List Entry) (client m n : ℕ) → LastNumber es client m → CountsTo es client n → n ≡ m
one_count = grind arith

pub not_next : (es : List Entry) (key : Key) (s : AuditSession) (b : Bool) → IsKnown es key.client s
    → (b ≡ true → key.number ≢ s.last + 1) → (b ≡ false → key.number ≡ s.last + 1)
    → Iff (IsTrue b) (IsNotNext es key)
not_next es key s true is other own = (
  λ t. record {
    last = s.last;
    counts_to = inl is.number;
    other =
        other refl;
  },
  λ breaks. refl,
)
not_next es key s false is other own = (
  λ t. absurd (false≢true t),
  λ breaks.
      let same : breaks.last ≡ s.last = one_count es key.client s.last breaks.last is.number breaks.counts_to
      in
      absurd (breaks.other (own refl ∙ ap (λ n. n + 1) (sym same))),
)

pub not_next_low : (es : List Entry) (key : Key) (s : AuditSession) → IsKnown es key.client s
    → key.number ≤ s.last → Iff (IsTrue (nat_le key.number s.last)) (IsNotNext es key)
not_next_low es key s is low = not_next es key s (nat_le key.number s.last) is (λ t same. omega arith)
    (λ f. absurd (let over : s.last < key.number = grind (arith, nat_tests) in omega arith))

differs : (n : ℕ) → not (nat_eq n 1) ≡ true → n ≢ 1
differs n t same = grind (arith, nat_tests)

agrees : (n : ℕ) → not (nat_eq n 1) ≡ false → n ≡ 1
agrees n f = grind arith

pub not_next_high : (es : List Entry) (key : Key) (s : AuditSession) → IsKnown es key.client s
    → s.last < key.number → Iff (IsTrue (not (nat_eq (key.number - s.last) 1))) (IsNotNext es key)
not_next_high es key s is high = not_next es key s (not (nat_eq (key.number - s.last) 1)) is
    (λ t same. differs (key.number - s.last) t (omega arith))
    (λ f. let one : key.number - s.last ≡ 1 = agrees (key.number - s.last) f in omega arith)

-- ---- counts

pub waits_before : (es : List Entry) (does : Act) (key : Key) (call : Call) → does ≡ Arrive key call
    → HasWaiting es key.client → Iff (IsTrue true) (BreaksCount es does)
waits_before es does key call is waits = subst (λ act. Iff (IsTrue true) (BreaksCount es act)) (sym is)
    (λ t. inr waits, λ breaks. refl)

module _ (es : List Entry) (does : Act) (key : Key) (b : Bool) where
  module _ (idle : HasWaiting es key.client → ⊥) (told : Iff (IsTrue b) (IsNotNext es key)) where
    out_of_order : IsOutOfOrder es key → IsTrue b
    out_of_order (inl other) = told.1 other
    out_of_order (inr waits) = absurd (idle waits)

    pub arrives_in_turn : (call : Call) → does ≡ Arrive key call → Iff (IsTrue b) (BreaksCount es does)
    arrives_in_turn call is = subst (λ act. Iff (IsTrue b) (BreaksCount es act)) (sym is)
        (λ t. inl (told.0 t), out_of_order)

    pub cancels_in_turn : does ≡ Cancel key → Iff (IsTrue b) (BreaksCount es does)
    cancels_in_turn is = subst (λ act. Iff (IsTrue b) (BreaksCount es act)) (sym is) (
      λ t. (
        λ under. idle (record {
          place = under.place;
          key = key;
          waits = under.waits;
          names = record { named = ap (option_and_then key_in) under.arrived; of_client = refl };
        }),
        inl (told.0 t),
      ),
      λ breaks. out_of_order breaks.1,
    )

  pub cancels_other : does ≡ Cancel key → HasWaiting es key.client
      → Iff (IsTrue b) (WaitsUnder es key → ⊥) → Iff (IsTrue b) (BreaksCount es does)
  cancels_other is waits told = subst (λ act. Iff (IsTrue b) (BreaksCount es act)) (sym is)
      (λ t. (told.0 t, inr waits), λ breaks. told.1 breaks.0)

pub some_waits : (es : List Entry) (client place : ℕ) → ClientWaitsAt es client place → HasWaiting es client
some_waits es client place at = record { place = place; key = at.key; waits = at.waits; names = at.names }
