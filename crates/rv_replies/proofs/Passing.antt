-- What is noted of an entry is what the account with it tells.
use Rattle.rv_replies.proofs.Words.{◌≡◌, ◌⊎◌, ◌∙◌, ◌∷◌, [], List, None, Option, Some, ap, inl, inr}
use Rattle.rv_replies.proofs.Words.{refl}
use Rattle.rv_replies.proofs.Words.{option_and_then, option_map, subst, sym, ℕ, length, slice_get, same_Some}
use Rattle.rv_replies.proofs.Words.{none-some, slice_get-map, Account, act_at, key_in, with_entry, Act}
use Rattle.rv_replies.proofs.Words.{Arrive, Cancel}
use Rattle.rv_replies.proofs.Words.{Hello, Tick, Entry, act_read, key_read, reads_back, reads_on, Legal}
use Rattle.rv_replies.proofs.Words.{get-append_end, Waiting, Settled, following, state_of, WaitsThere, State}
use Rattle.rv_replies.proofs.Words.{Reply, Call, Key, told_last_by, told_now, Comes, more, buried}
use Rattle.rv_replies.proofs.Words.{ended, ended_by, own_fate, IsFateOf, NamesNowhere, IsAbout, fate_in}
use Rattle.rv_replies.proofs.Words.{Changes, EndsEach, NotesOwn, Turns, Fate, Fates}
use Rattle.rv_account.proofs.OfRules.Deciding.{key_or_other, waits_or_not}
use Rattle.rv_account.proofs.OfRules.Legality.{follows_itself}
use Rattle.rv_machine.specs.Machines.{keys_settled, state_in}
use Rattle.rv_machine.specs.declared.machine.Machine.{Machine}
use Rattle.rv_replies.specs.Known.{HasPassedBy}
use Rattle.rv_account.proofs.OfState.Agreed.{agreed, state_pushed}
use Rattle.rv_account.proofs.OfState.Becoming.{cancelled_on, replied_on}
use Rattle.rv_account.proofs.OfState.ClientsAfter.{cancel_became}
use Rattle.rv_account.proofs.OfState.EntrySays.{comes_to_state}
use Rattle.rv_account.proofs.OfState.Finding.{mapped_stands}
use Rattle.rv_account.proofs.OfState.FollowsBoth.{account_to_state}
use Rattle.rv_account.proofs.OfState.Telling.{all_settled, own_replies, own_waits, settled_replies}
use Rattle.rv_account.proofs.OfState.Telling.{settled_waits_not}
use Rattle.rv_replies.proofs.Arriving.{own_told_in}
use Rattle.rv_replies.proofs.Settled.{settled_has, settled_told}
use Rattle.rv_replies.specs.declared.findings.fate.Fate.TheVariants.{CancelledUnseen, RepliedTo, Unnamed}
use Rattle.rv_replies.specs.declared.findings.fate.Fate.TheVariants.{Waits}
use Rattle.rv_account.specs.state.Follows.{NumberFits}

-- what no reply changes stays
ended_still : (told : Option Reply) (fate : Fate) → ((reply : Reply) → ended reply fate ≡ fate)
    → ended_by told fate ≡ fate
ended_still None fate still = refl
ended_still (Some reply) fate still = still reply

-- what is found somewhere, or nowhere
pub found_or_not : {A : Type 0} (o : Option A) → (o ≡ None) ⊎ ((x : A) × (o ≡ Some x))
found_or_not None = inl refl
found_or_not (Some x) = inr (x, refl)

module _ (a : Account) (e : Entry) (before : Legal a) (legal : Legal (with_entry a e)) where
  abbrev s : State
  s = state_of a

  abbrev b : Account
  b = with_entry a e

  abbrev es : List Entry
  es = more a e

  comes : Comes a s e
  comes = comes_to_state a e before (follows_itself a e legal)

  abbrev settles : List Settled
  settles = (following s e.moment e.act).settles

  -- ---- what the entry doesn't name

  unnamed_on : (key : Key) → (key_in e.act ≡ Some key → ⊥) → NamesNowhere a.entries key
      → NamesNowhere es key
  unnamed_on key other none place named = elim (reads_back key_read refl a.entries e place key named) [
    | inl inside ↦ none place inside.1
    | inr last ↦ other last.1
  ]

  -- ---- whom it settles

  -- after those that it settled this is so; a key that nothing named may be the entry's own
  abbrev IsMid : Key → Fate → Type 0
  IsMid key Unnamed = NamesNowhere a.entries key
  IsMid key (Waits call) = IsFateOf es key (Waits call)
  IsMid key (RepliedTo call reply) = IsFateOf es key (RepliedTo call reply)
  IsMid key CancelledUnseen = IsFateOf es key CancelledUnseen

  not_listed : (key : Key) (place : ℕ) (call : Call) → WaitsThere a.entries key place call
      → Waiting es place → (i : ℕ) → slice_get (keys_settled settles) i ≡ Some key → ⊥
  not_listed key place call waited waits i at =
      let there = mapped_stands (λ (x : Settled). x.key) settles i key at in
      settled_waits_not a s e comes place key call waited (record {
        i = i;
        settled = there.0;
        there = there.1;
        key_is = there.2;
      }) waits

  module _ (old mid : Fates) (ends : EndsEach old mid (keys_settled settles) (told_now (state_of b) e.act))
      (key : Key) where
    -- what no reply changes is still known
    still_known : (fate : Fate) → ((reply : Reply) → ended reply fate ≡ fate) → fate_in old key ≡ Some fate
        → fate_in mid key ≡ Some fate
    still_known fate still was = elim (ends.either key) [
      | inl stays ↦ stays ∙ was
      | inr turns ↦
          turns ∙ ap (option_map (ended_by (told_now (state_of b) e.act key))) was
          ∙ ap Some (ended_still (told_now (state_of b) e.act key) fate still)
    ]

    abbrev IsKnownMid : Type 0
    IsKnownMid = (fate : Fate) × (fate_in mid key ≡ Some fate) × IsMid key fate

    waited_known : (call : Call) (place : ℕ) → WaitsThere a.entries key place call
        → fate_in old key ≡ Some (Waits call) → IsKnownMid
    waited_known call place waited was = elim (waits_or_not es place) [
      | inl waits ↦ (
        Waits call,
        ends.rest key (not_listed key place call waited waits) ∙ was,
        (
          place,
          record {
            arrived = reads_on act_read refl a.entries (e ∷ []) place (Arrive key call) waited.arrived;
            waits = waits;
          },
        ),
      )
      | inr over ↦
          let among = all_settled a s e comes place key call waited over in
          let listed : slice_get (keys_settled settles) among.i ≡ Some key =
          slice_get-map (λ (x : Settled). x.key) settles among.i
          ∙ ap (option_map (λ (x : Settled). x.key)) among.there ∙ ap Some among.key_is in
          let told : told_now (state_of b) e.act key ≡ Some among.settled.reply =
          subst (λ (k : Key). told_now (state_of b) e.act k ≡ Some among.settled.reply) among.key_is
          (settled_told a e comes legal among.i among.settled among.there) in (
            RepliedTo call among.settled.reply,
            ends.done among.i key listed
                ∙ ap (option_map (ended_by (told_now (state_of b) e.act key))) was
                ∙ ap (λ t. Some (ended_by t (Waits call))) told,
            settled_has a e comes legal among.settled
                (settled_replies a s e comes among.i among.settled among.there) key place call among.key_is
                waited,
          )
    ]

    mid_known : (fate : Fate) → fate_in old key ≡ Some fate → IsFateOf a.entries key fate → IsKnownMid
    mid_known Unnamed was is = (Unnamed, still_known Unnamed (λ r. refl) was, is)
    mid_known (Waits call) was is = waited_known call is.0 is.1 was
    mid_known (RepliedTo call reply) was is = (
      RepliedTo call reply,
      still_known (RepliedTo call reply) (λ r. refl) was,
      replied_on a e key call reply legal is,
    )
    mid_known CancelledUnseen was is = (
      CancelledUnseen,
      still_known CancelledUnseen (λ r. refl) was,
      cancelled_on a e key legal is,
    )

    none_known : fate_in old key ≡ None → fate_in mid key ≡ None
    none_known none = elim (ends.either key) [
      | inl stays ↦ stays ∙ none
      | inr turns ↦ turns ∙ ap (option_map (ended_by (told_now (state_of b) e.act key))) none
    ]

    mid_is : IsAbout old a → (fate : Fate) → fate_in mid key ≡ Some fate → IsMid key fate
    mid_is about fate there = elim (found_or_not (fate_in old key)) [
      | inl none ↦ absurd (none-some fate (sym (none_known none) ∙ there))
      | inr was ↦
          let it = mid_known was.0 was.1 (about key was.0 was.1) in
          subst (IsMid key) (same_Some _ _ (sym it.1 ∙ there)) it.2
    ]

  -- ---- its own key

  other_is : (key : Key) → (key_in e.act ≡ Some key → ⊥) → (fate : Fate) → IsMid key fate
      → IsFateOf es key fate
  other_is key other Unnamed is = unnamed_on key other is
  other_is key other (Waits call) is = is
  other_is key other (RepliedTo call reply) is = is
  other_is key other CancelledUnseen is = is

  buried_is : (key : Key) → e.act ≡ Cancel key → (fate : Fate) → IsMid key fate
      → IsFateOf es key (buried fate)
  buried_is key says Unnamed none = elim (comes.follows.numbers.cancels key says) [
    | inl under ↦ absurd (none under.place (ap (option_and_then key_in) under.arrived))
    | inr next ↦ cancel_became a s e key comes says next
  ]
  buried_is key says (Waits call) is = is
  buried_is key says (RepliedTo call reply) is = is
  buried_is key says CancelledUnseen is = is

  come_there : (key : Key) (call : Call) → e.act ≡ Arrive key call
      → act_at es (length a.entries) ≡ Some (Arrive key call)
  come_there key call says = ap act_read (get-append_end a.entries e) ∙ ap Some says

  come_by : (key : Key) (call : Call) → e.act ≡ Arrive key call → (told : Option Reply)
      → (following s e.moment e.act).reply ≡ told → IsFateOf es key (own_fate call told)
  come_by key call says None is = (
    length a.entries,
    record {
      arrived = come_there key call says;
      waits = own_waits a s e key call comes says is;
    },
  )
  come_by key call says (Some reply) is = record {
    replies = record {
      place = length a.entries;
      call = call;
      arrived = come_there key call says;
      replies = own_replies a s e key call reply comes says is;
    };
    with_call = refl;
  }

  come_told : (key : Key) (call : Call) → e.act ≡ Arrive key call
      → (following s e.moment e.act).reply ≡ told_last_by (state_of b) key
  come_told key call says =
      let follows = account_to_state a s e before (agreed a before) (follows_itself a e legal) in
      let number = subst (λ does. NumberFits s does) says follows.number in
      let own : told_last_by (following s e.moment e.act).after key ≡ (following s e.moment e.act).reply =
      subst (λ does. told_last_by (following s e.moment does).after key ≡ (following s e.moment does).reply)
      (sym says) (own_told_in s e.moment key call number) in
      sym (ap (λ (t : State). told_last_by t key) (state_pushed a e) ∙ own)

  come_is : (key : Key) (call : Call) → e.act ≡ Arrive key call
      → IsFateOf es key (own_fate call (told_last_by (state_of b) key))
  come_is key call says =
      come_by key call says (told_last_by (state_of b) key) (come_told key call says)

  -- ---- all together

  module _ (mid new : Fates) (is_mid : (key : Key) (fate : Fate) → fate_in mid key ≡ Some fate
      → IsMid key fate)
    where
      own_is : (key : Key) (change : Fate → Fate) → Turns mid new key change
          → ((fate : Fate) → IsMid key fate → IsFateOf es key (change fate))
          → (fate : Fate) → fate_in new key ≡ Some fate → IsFateOf es key fate
      own_is key change turns becomes fate there = elim (found_or_not (fate_in mid key)) [
        | inl none ↦ absurd (none-some fate (sym (turns ∙ ap (option_map change) none) ∙ there))
        | inr was ↦
            let now = turns ∙ ap (option_map change) was.1 in
            subst (IsFateOf es key) (same_Some _ _ (sym now ∙ there)) (becomes was.0 (is_mid key was.0 was.1))
      ]

      one_changed : (own : Key) (change : Fate → Fate) → Changes mid new own change
          → ((fate : Fate) → IsMid own fate → IsFateOf es own (change fate)) → key_in e.act ≡ Some own
          → (key : Key) (fate : Fate) → fate_in new key ≡ Some fate → IsFateOf es key fate
      one_changed own change changes becomes names key fate there = elim (key_or_other key own) [
        | inl same ↦
            subst (λ (k : Key). IsFateOf es k fate) (sym same)
            (own_is own change changes.own becomes fate
            (subst (λ (k : Key). fate_in new k ≡ Some fate) same there))
        | inr apart ↦
            other_is key (λ is. apart (same_Some _ _ (sym is ∙ names))) fate
            (is_mid key fate (sym (changes.others key apart) ∙ there))
      ]

      new_is : (does : Act) → e.act ≡ does → NotesOwn mid new (state_of b) does → (key : Key) (fate : Fate)
          → fate_in new key ≡ Some fate → IsFateOf es key fate
      new_is (Hello client incarnation version) says stays key fate there =
          other_is key (λ is. none-some key (sym (ap key_in says) ∙ is)) fate
          (is_mid key fate (sym (stays key) ∙ there))
      new_is (Arrive own call) says changes key fate there =
          one_changed own (λ was. own_fate call (told_last_by (state_of b) own)) changes
          (λ was is. come_is own call says) (ap key_in says) key fate there
      new_is (Cancel own) says changes key fate there =
          one_changed own buried changes (buried_is own says) (ap key_in says) key fate there
      new_is Tick says stays key fate there =
          other_is key (λ is. none-some key (sym (ap key_in says) ∙ is)) fate
          (is_mid key fate (sym (stays key) ∙ there))

  pub passed : (old mid new : Fates) → IsAbout old a
      → EndsEach old mid (keys_settled settles) (told_now (state_of b) e.act)
      → NotesOwn mid new (state_of b) e.act → IsAbout new b
  passed old mid new about ends notes =
      new_is mid new (λ key. mid_is old mid ends key about) e.act refl notes

-- ---- by the machine after it

pub passes : (machine : Machine) (a : Account) (e : Entry) (old mid new : Fates) → HasPassedBy machine a e
    → IsAbout old a → EndsEach old mid machine.settled.items (told_now (state_in machine) e.act)
    → NotesOwn mid new (state_in machine) e.act → IsAbout new (with_entry a e)
passes machine a e old mid new has about ends notes =
    let by_state : EndsEach old mid machine.settled.items (told_now (state_of (with_entry a e)) e.act) =
    subst (λ (t : State). EndsEach old mid machine.settled.items (told_now t e.act)) has.state ends in
    let by_keys : EndsEach old mid (keys_settled (following (state_of a) e.moment e.act).settles)
    (told_now (state_of (with_entry a e)) e.act) =
    subst (λ keys. EndsEach old mid keys (told_now (state_of (with_entry a e)) e.act)) has.settles by_state in
    passed a e has.before has.legal old mid new about by_keys
    (subst (λ (t : State). NotesOwn mid new t e.act) has.state notes)
