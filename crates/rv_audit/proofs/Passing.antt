-- What an audit's tables are when one more entry was passed.
use Rattle.std.proofs.lemmas.Grind.{common_steps}
use Rattle.rv_audit.proofs.Words.{◌≡◌, ◌⊎◌, ◌+◌, ◌<◌, ◌≤◌, ◌∷◌, ◌∙◌, inl, inr, ℕ, zero, suc, Bool, true}
use Rattle.rv_audit.proofs.Words.{false}
use Rattle.rv_audit.proofs.Words.{List, [], length, take, not, nat_eq, Option, Some, None, refl, sym, ap}
use Rattle.rv_audit.proofs.Words.{subst}
use Rattle.rv_audit.proofs.Words.{arith, slice_get, false≢true, nat_tests, none-some, same_Some}
use Rattle.rv_audit.proofs.Words.{Account, Act, Among, Arrive, Call, ClientWaitsAt, Entry}
use Rattle.rv_audit.proofs.Words.{Front, HasWaiting, IsFront, Key, Legal, MayFollow}
use Rattle.rv_audit.proofs.Words.{Opens, Tick, before, call_read, is_any}
use Rattle.rv_audit.proofs.Words.{passed_account}
use Rattle.std.proofs.Common.{append-nil, ◌++◌, ◌||◌, cond, find, length-append, option_map}
use Rattle.std.specs.List.{list_any}
use Rattle.std.proofs.lemmas.Option.{slice_get-get_or}
use Rattle.rv_audit.proofs.Words.{get_or}
use Rattle.std.specs.FinMap.{get-empty}
use Rattle.std.specs.Ordering.{nat_cmp}
use Rattle.rv_account.specs.Account.{limit_at, with_entry}
use Rattle.rv_account.proofs.OfRules.Growing.{NamesAt-back, NamesAt-last, NamesAt-on, reads_within}
use Rattle.rv_account.proofs.OfRules.Legality.{Legal-with_entry}
use Rattle.rv_account.proofs.OfRules.Places.{get-append, get-append_cases, get-append_end}
use Rattle.rv_account.specs.state.State.{OpenPlace, State, client_waits, open_at, place_list}
use Rattle.rv_account.specs.state.After.{but, due_at, just_open, state_of}
use Rattle.rv_account.specs.state.Follows.{partners_of}
use Rattle.rv_account.proofs.OfState.Agreed.{agreed, state_pushed}
use Rattle.rv_account.proofs.OfState.Due.{due_of_place}
use Rattle.rv_account.proofs.OfState.DueAt.{due_place, place_due}
use Rattle.rv_account.proofs.OfState.Filtered.{any_get, find_get, get_any}
use Rattle.rv_account.proofs.OfState.FollowsBoth.{account_to_state}
use Rattle.rv_account.proofs.OfState.GoneBy.{gone_by}
use Rattle.rv_account.proofs.OfState.OpensBy.{opens_by}
use Rattle.rv_account.proofs.OfState.PlacesAfter.{places_acted}
use Rattle.rv_account.proofs.OfState.Sessions.{found_open}
use Rattle.rv_account.proofs.OfState.StateLaws.{states_tell_waiting}
use Rattle.rv_account.proofs.OfState.Stated.{own_last}
use Rattle.rv_audit.specs.Opens.{AreTabled, ClosesEach, ClosesUntil, AuditOpen, OpensAt, OpensIf, has_come}
use Rattle.rv_audit.specs.Opens.{is_among, left_after}
use Rattle.rv_audit.specs.Opens.{opening_at}
use Rattle.rv_audit.specs.Passed.{alone_opens, AreAudited, AreOpen, AreTables, AreTaken}
use Rattle.rv_audit.specs.Passed.{closed_by, ClosesGone, fitting, Flags}
use Rattle.rv_audit.specs.Passed.{open_among, HasPassed, IsReadyFor, IsTaken, open_beside, opening_by}
use Rattle.rv_audit.specs.Passed.{opening_of, passed_state, session_after}
use Rattle.rv_audit.specs.Sessions.{EntersIf, session_in}
use Rattle.rv_audit.proofs.Audited.{audited_after}
use Rattle.rv_audit.proofs.Named.{any_among, some_among}

-- ---- what is closed

same_bool : (b c : Bool) → (b ≡ true → c ≡ true) → (c ≡ true → b ≡ true) → b ≡ c
same_bool = grind arith

map_any : (gone : List OpenPlace) (r : ℕ) → is_among (place_list gone) r
    ≡ list_any (λ (o : OpenPlace). nat_eq o.place r) gone
map_any [] r = refl
map_any (o ∷ gone) r = ap (λ b. nat_eq o.place r || b) (map_any gone r)

any_of : (places : List ℕ) (r : ℕ) → Among places r → is_among places r ≡ true
any_of = grind (arith, get_any)

among_any : (places : List ℕ) (r : ℕ) → is_among places r ≡ true → Among places r
among_any = grind (arith, any_get)

-- what is found among those that are left
left_by : (o : OpenPlace) (all gone : List OpenPlace) (r : ℕ)
    → open_among (but all gone) r ≡ cond (is_among (place_list gone) r) None (open_among all r)
    → (at went : Bool)
    → nat_eq o.place r ≡ at → list_any (λ (other : OpenPlace). nat_eq other.place o.place) gone ≡ went
    → find (λ x. nat_eq x.place r) (cond (not went) (o ∷ but all gone) (but all gone))
    ≡ cond (is_among (place_list gone) r) None (cond at (Some o) (open_among all r))
left_by = grind (arith, list_any, map_any)

but_found : (all gone : List OpenPlace) (r : ℕ)
    → open_among (but all gone) r ≡ cond (is_among (place_list gone) r) None (open_among all r)
but_found [] gone r = nothing (is_among (place_list gone) r)
  where
    nothing : (b : Bool) → None ≡ cond b None (open_among [] r)
    nothing true = refl
    nothing false = refl
but_found (o ∷ all) gone r = left_by o all gone r (but_found all gone r) (nat_eq o.place r)
    (list_any (λ other. nat_eq other.place o.place) gone) refl refl

map_cond : (b : Bool) (o : Option OpenPlace)
    → option_map opening_of (cond b None o) ≡ cond b None (option_map opening_of o)
map_cond true o = refl
map_cond false o = refl

-- a table in which these places were closed
pub closes_places : (all gone : List OpenPlace) (old new : Opens) → AreOpen all old
    → ClosesEach old new (place_list gone) → AreOpen (but all gone) new
closes_places = grind (arith, but_found, map_cond)

pub closes_one : (old new : Opens) (p : ℕ) → OpensAt old new p None → ClosesEach old new (p ∷ [])
closes_one old new p closes = grind arith

pub closes_none : (t : Opens) → AreTabled t → ClosesEach t t []
closes_none t indexed = record { indexed = indexed; are = λ r. refl }

module _ (a : Account) (legal : Legal a) where
  abbrev known : State
  known = state_of a

  -- what waits of a client
  pub one_waits_there : (client p : ℕ) → ClientWaitsAt a.entries client p
      → place_list (just_open (client_waits known client)) ≡ p ∷ []
  one_waits_there client p waits =
      let said = ((states_tell_waiting a legal).of_client client p).0 waits in
      ap (λ o. place_list (just_open o)) said.1 ∙ ap (λ n. n ∷ []) said.2

  pub none_waits_there : (client : ℕ) → (HasWaiting a.entries client → ⊥)
      → place_list (just_open (client_waits known client)) ≡ []
  none_waits_there client none = by_waits (client_waits known client) refl
    where
      by_waits : (o : Option OpenPlace) → client_waits known client ≡ o → place_list (just_open o) ≡ []
      by_waits None is = refl
      by_waits (Some there) is =
          let w = ((states_tell_waiting a legal).of_client client there.place).1 (there, is, refl) in
          absurd (none (record { place = there.place; key = w.key; waits = w.waits; names = w.names }))

  -- what is due
  come_is_due : (moment r : ℕ) (there : OpenPlace) → open_at known r ≡ Some there
      → moment < 18446744073709551616
      → has_come moment (fitting there.limit) ≡ is_among (place_list (due_at known moment)) r
  come_is_due moment r there at fits =
      same_bool _ _ (due_of there.limit refl) come_of
    where
      come : (n : ℕ) → n ≤ moment → has_come moment (fitting (Some n)) ≡ true
      come n most = grind (arith, nat_tests)

      due_of : (limit : Option ℕ) → there.limit ≡ limit → has_come moment (fitting limit) ≡ true
          → is_among (place_list (due_at known moment)) r ≡ true
      due_of None is come = absurd (false≢true come)
      due_of (Some n) is come =
          let found = find_get (λ (o : OpenPlace). nat_eq o.place r) known.open_places there at in
          let among = place_due known moment r (record {
            i = found.0;
            there = there;
            stands = found.1;
            at_place = (found_open a known r there (agreed a legal) at).0;
            limit = n;
            has = is;
            elapsed = grind (arith, nat_tests);
          }) in
          any_of (place_list (due_at known moment)) r among

      come_of : is_among (place_list (due_at known moment)) r ≡ true
          → has_come moment (fitting there.limit) ≡ true
      come_of any =
          let found = any_get (λ p. nat_eq p r) (place_list (due_at known moment)) any in
          let here : found.1 ≡ r = grind (arith, nat_tests) in
          let due = due_of_place a known moment r (agreed a legal) (due_place known moment r
          (found.0, found.2 ∙ ap Some here)) in
          let open_there = found_open a known r there (agreed a legal) at in
          let has : there.limit ≡ Some due.limit =
          open_there.2.limit ∙ ap (limit_at a.entries) open_there.0 ∙ due.has in
          ap (λ o. has_come moment (fitting o)) has ∙ come due.limit due.elapsed

  pub closes_due : (moment : ℕ) (old new : Opens) → moment < 18446744073709551616
      → AreOpen known.open_places old
      → ClosesUntil old new moment → AreOpen (but known.open_places (due_at known moment)) new
  closes_due moment old new fits are closes r =
      closes.are r ∙ ap (left_after moment) (are r) ∙ by_open (open_at known r) refl
      ∙ sym (ap (option_map opening_of) (but_found known.open_places (due_at known moment) r)
      ∙ map_cond (is_among (place_list (due_at known moment)) r) (open_at known r))
    where
      by_open : (o : Option OpenPlace) → open_at known r ≡ o → left_after moment (option_map opening_of o)
          ≡ cond (is_among (place_list (due_at known moment)) r) None (option_map opening_of o)
      by_open None at = nothing (is_among (place_list (due_at known moment)) r)
        where
          nothing : (b : Bool) → None ≡ cond b None (option_map opening_of None)
          nothing true = refl
          nothing false = refl
      by_open (Some there) at =
          ap (λ b. cond b None (Some (opening_of there))) (come_is_due moment r there at fits)

-- what an entry closes
pub gone_places : (old new : Front) (e : Entry) (places : List ℕ) → IsFront old
    → places ≡ place_list (closed_by (passed_state old) e.moment e.act)
    → ClosesEach old.opens new.opens places → ClosesGone old new e
gone_places old new e places is same closes = record {
  indexed = closes.indexed;
  opens = closes_places (passed_state old).open_places (closed_by (passed_state old) e.moment e.act) old.opens
      new.opens is.opens (subst (λ (l : List ℕ). ClosesEach old.opens new.opens l) same closes);
}

pub gone_partners : (old : Front) (e : Entry) (key : Key) (call : Call) → IsFront old
    → e.act ≡ Arrive key call
    → MayFollow (passed_account old) e → e.partners ≡ place_list (closed_by (passed_state old) e.moment e.act)
gone_partners old e key call is arrives follows =
    let s = passed_state old in
    (account_to_state (passed_account old) s e is.legal (agreed (passed_account old) is.legal)
    follows).partners
    ∙ ap (partners_of s) arrives ∙ sym (ap (λ d. place_list (closed_by s e.moment d)) arrives)

pub gone_due : (old new : Front) (e : Entry) → IsFront old → e.act ≡ Tick → e.moment < 18446744073709551616
    → ClosesUntil old.opens new.opens e.moment → ClosesGone old new e
gone_due old new e is ticks fits closes = record {
  indexed = closes.indexed;
  opens = subst (λ d. AreOpen (but (passed_state old).open_places
      (closed_by (passed_state old) e.moment d)) new.opens) (sym ticks)
      (closes_due (passed_account old) is.legal e.moment old.opens new.opens fits is.opens closes);
}

-- ---- what is opened

abbrev pub first_of : List OpenPlace → Option OpenPlace
first_of [] = None
first_of (o ∷ rest) = Some o

opens_by_act : (s : State) (moment : ℕ) (partners : List ℕ) (does : Act) → partners ≡ partners_of s does
    → alone_opens partners moment does ≡ option_map opening_of (first_of (opens_by s moment does))
opens_by_act = grind (arith, nat_tests)

-- at most one is opened, at the end
abbrev pub IsLast : State → List OpenPlace → Type 0
IsLast s opened = (opened ≡ []) ⊎ ((o : OpenPlace) × (opened ≡ o ∷ []) × (o.place ≡ s.length))

opens_last : (s : State) (moment : ℕ) (does : Act) → IsLast s (opens_by s moment does)
opens_last = grind arith

push_by : (x : OpenPlace) (all : List OpenPlace) (o : OpenPlace) (r : ℕ)
    → (open_among all o.place ≡ None
    → open_among (all ++ o ∷ []) r ≡ cond (nat_eq o.place r) (Some o) (open_among all r))
    → (b c : Bool) → nat_eq x.place o.place ≡ b → nat_eq x.place r ≡ c
    → cond b (Some x) (open_among all o.place) ≡ None
    → cond c (Some x) (open_among (all ++ o ∷ []) r)
    ≡ cond (nat_eq o.place r) (Some o) (cond c (Some x) (open_among all r))
push_by = grind arith

found_push : (all : List OpenPlace) (o : OpenPlace) (r : ℕ) → open_among all o.place ≡ None
    → open_among (all ++ o ∷ []) r ≡ cond (nat_eq o.place r) (Some o) (open_among all r)
found_push [] o r none = refl
found_push (x ∷ all) o r none = push_by x all o r (found_push all o r) (nat_eq x.place o.place)
    (nat_eq x.place r) refl refl none

pub opens_joined : (all opened : List OpenPlace) (s : State) (place : ℕ) (old new : Opens)
    (o : Option AuditOpen)
    → AreOpen all old → OpensIf old new place o → o ≡ option_map opening_of (first_of opened)
    → IsLast s opened → place ≡ s.length → open_among all place ≡ None → AreOpen (all ++ opened) new
opens_joined = grind (arith, append-nil, found_push, none-some, same_Some)

-- ---- all tables

module _ (a : Account) (e : Entry) (legal : Legal a) (follows : MayFollow a e) where
  abbrev es : List Entry
  es = a.entries

  taken_on : (r : ℕ) → IsTaken es r → IsTaken (es ++ e ∷ []) r
  taken_on r (inl named) = inl (named.0, NamesAt-on es (e ∷ []) named.0 r named.1)
  taken_on r (inr names) = inr (names.0, NamesAt-on es (e ∷ []) r names.0 names.1)

  taken_back : (r : ℕ) → IsTaken (es ++ e ∷ []) r → IsTaken es r ⊎ (Among e.partners r
      ⊎ ((r ≡ length es) × (is_any e.partners ≡ true)))
  taken_back r (inl named) = elim (NamesAt-back es e named.0 r named.1) [
    | inl was ↦ inl (inl (named.0, was.1))
    | inr own ↦ inr (inl own.1)
  ]
  taken_back r (inr names) = elim (NamesAt-back es e r names.0 names.1) [
    | inl was ↦ inl (inr (names.0, was.1))
    | inr own ↦ inr (inr (own.0, any_among e.partners names.0 own.1))
  ]

  set_flag : (o : Option Bool) (b : Bool) → option_map (λ flag. flag || b) o ≡ Some true
      → (o ≡ Some true) ⊎ (b ≡ true)
  set_flag = grind arith

  flag_set : (o : Option Bool) (b : Bool) (flag : Bool) → o ≡ Some flag → (flag ≡ true) ⊎ (b ≡ true)
      → option_map (λ flag. flag || b) o ≡ Some true
  flag_set = grind arith

  pub taken_joined : (old new : List Bool) → AreTaken es old → Flags old new e.partners
      → AreTaken (es ++ e ∷ []) new
  taken_joined old new are is = subst (λ (l : List Bool). AreTaken (es ++ e ∷ []) l) (sym is.one_more)
      (record {
        count = let all = count in let n = length-append is.flags (is_any e.partners ∷ []) in
            let m = length-append es (e ∷ []) in omega arith;
        flags = λ r. (
          λ there. elim (get-append_cases is.flags (is_any e.partners) true r there) [
            | inl inside ↦ elim (set_flag (slice_get old r) (is_among e.partners r) (sym (is.sets.flags r)
                ∙ inside.1)) [
                  | inl was ↦ taken_on r ((are.flags r).0 was)
                  | inr any ↦ inl (length es, NamesAt-last es e r (among_any e.partners r any))
                ]
            | inr last ↦
                let one = some_among e.partners last.1 in
                subst (IsTaken (es ++ e ∷ [])) (sym (last.0 ∙ count))
                (inr (one.0, NamesAt-last es e one.0 one.1))
          ],
          λ taken. elim (taken_back r taken) [
            | inl was ↦ kept r (is.sets.flags r ∙ flag_set _ (is_among e.partners r) true
                ((are.flags r).1 was)
                (inl refl))
            | inr new ↦ elim new [
              | inl named ↦
                  let inside : r < length old = let below = (follows.pairs.names_free_partners.free r
                  named).earlier in
                  let same = are.count in omega arith in
                  kept r (is.sets.flags r ∙ flag_set _ (is_among e.partners r) (get_or old r false)
                  (slice_get-get_or old r false inside) (inr (any_of e.partners r named)))
              | inr own ↦ ap (slice_get (is.flags ++ is_any e.partners ∷ [])) (own.0 ∙ sym count)
                  ∙ get-append_end is.flags (is_any e.partners) ∙ ap Some own.1
            ]
          ],
        );
      })
    where
      count : length is.flags ≡ length es
      count = is.sets.count ∙ are.count

      kept : (r : ℕ) → slice_get is.flags r ≡ Some true
          → slice_get (is.flags ++ is_any e.partners ∷ []) r ≡ Some true
      kept r there = get-append is.flags (is_any e.partners ∷ []) r true there

closed_is : (s : State) (moment : ℕ) (does : Act) → closed_by s moment does ≡ gone_by s moment does
closed_is = grind arith

take_next : {X : Type 0} (xs : List X) (n : ℕ) (x : X) → slice_get xs n ≡ Some x
    → take (suc n) xs ≡ take n xs ++ x ∷ []
take_next [] n x there = absurd (none-some x there)
take_next (y ∷ ys) zero x there = ap (λ z. z ∷ []) (same_Some y x there)
take_next (y ∷ ys) (suc n) x there = ap (λ zs. y ∷ zs) (take_next ys n x there)

-- at the next place nothing is open
free_there : (a : Account) (legal : Legal a) (gone : List OpenPlace) (place : ℕ) → place ≡ length a.entries
    → open_among (but (state_of a).open_places gone) place ≡ None
free_there a legal gone place at =
    but_found (state_of a).open_places gone place
    ∙ by_open (is_among (place_list gone) place) (open_at (state_of a) place) refl
  where
    by_open : (b : Bool) (o : Option OpenPlace) → open_at (state_of a) place ≡ o → cond b None o ≡ None
    by_open true o is = refl
    by_open false None is = refl
    by_open false (Some there) is =
        let found = (found_open a (state_of a) place there (agreed a legal) is).1 in
        let below = reads_within call_read refl a.entries place found.call found.arrived in
        absurd (omega arith)

pub next_free : (front : Front) (e : Entry) (place : ℕ) → IsReadyFor front e
    → place ≡ length front.taken.items → opening_at front.opens place ≡ None
next_free front e place ready at =
    let start = ready.start in
    let count = ap (λ (f : Front). length f.taken.items) ready.rest ∙ ready.is_front.taken.count in
    ready.closes.opens place
    ∙ ap (option_map opening_of) (free_there (passed_account start) ready.is_front.legal
    (closed_by (passed_state start) e.moment e.act) place (at ∙ count))

module _ (old new : Front) (e : Entry) (place : ℕ) (ready : IsReadyFor old e)
    (at : place ≡ length old.taken.items) (account : new.account ≡ old.account)
    (taken : Flags old.taken.items new.taken.items e.partners) where
  abbrev start : Front
  start = ready.start

  abbrev b : Account
  b = passed_account start

  abbrev before_it : State
  before_it = passed_state start

  counted : length new.taken.items ≡ length old.taken.items + 1
  counted = grind (arith, common_steps)

  same_count : length old.taken.items ≡ length start.taken.items
  same_count = ap (λ (f : Front). length f.taken.items) ready.rest

  grown : passed_account new ≡ with_entry b e
  grown =
      let next : length new.taken.items ≡ suc (length start.taken.items) =
      let c = counted in let m = same_count in omega arith in
      ap (λ x. before x.now.account (length new.taken.items))
      (account ∙ ap (λ (f : Front). f.account) ready.rest)
      ∙ ap (λ n. before start.account.now.account n) next
      ∙ ap (λ es. record { epoch = b.epoch; opened = b.opened; entries = es })
      (take_next start.account.now.account.entries (length start.taken.items) e ready.may.there)

  is_place : place ≡ before_it.length
  is_place = at ∙ same_count ∙ ready.is_front.taken.count ∙ sym (agreed b ready.is_front.legal).length

  pub all_joined : new.moment ≡ e.moment → OpensIf old.opens new.opens place (opening_by e)
      → EntersIf old.sessions new.sessions (session_after old.sessions e.act place) → HasPassed old new
  all_joined moment opens sessions =
      let follows = ready.may.follows in
      let legal = ready.is_front.legal in
      let fits = account_to_state b before_it e legal (agreed b legal) follows in
      record {
        account = account;
        count = counted;
        front = subst (λ (a : Account). AreTables a new) (sym grown) (record {
          legal = Legal-with_entry b e legal follows;
          moment = moment ∙ sym (own_last b e);
          taken = taken_joined b e legal follows start.taken.items new.taken.items ready.is_front.taken
              (subst (λ (l : List Bool). Flags l new.taken.items e.partners)
              (ap (λ (f : Front). f.taken.items) ready.rest) taken);
          indexed = opens_indexed (opening_by e) opens;
          opens = subst (λ (t : State). AreOpen t.open_places new.opens) (sym (state_pushed b e))
              (subst (λ l. AreOpen l new.opens) (ap (λ g. but before_it.open_places g ++ opens_by before_it
              e.moment e.act)
              (closed_is before_it e.moment e.act) ∙ sym (places_acted before_it e.moment e.act))
              (opens_joined (open_beside before_it e) (opens_by before_it e.moment e.act) before_it place
              old.opens new.opens
              (opening_by e) ready.closes.opens opens
              (opens_by_act before_it e.moment e.partners e.act fits.partners)
              (opens_last before_it e.moment e.act) is_place (free_there b legal (closed_by before_it e.moment
              e.act) place
              (is_place ∙ (agreed b legal).length))));
          sessions = subst (λ (t : State). AreAudited t new.sessions) (sym (state_pushed b e))
              (audited_after before_it old.sessions new.sessions
              (subst (λ (f : Front). AreAudited before_it f.sessions) (sym ready.rest)
              ready.is_front.sessions)
              e.moment place e.act is_place fits.number sessions);
        });
      }
    where
      opens_indexed : (o : Option AuditOpen) → OpensIf old.opens new.opens place o → AreTabled new.opens
      opens_indexed None same = subst AreTabled (sym same) ready.closes.indexed
      opens_indexed (Some there) opened = opened.indexed

-- ---- nothing was passed

-- before the first entry all tables are empty
pub none_passed : (front : Front) → front.moment ≡ front.account.now.account.opened
    → front.taken.items ≡ [] → AreTabled front.opens → ((r : ℕ) → opening_at front.opens r ≡ None)
    → ((client : ℕ) → session_in front.sessions client ≡ None) → IsFront front
none_passed = grind (arith, get-empty, nat_cmp, none-some)
