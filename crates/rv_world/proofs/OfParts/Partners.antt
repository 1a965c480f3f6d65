-- Who was met, by whom, and what that says of replies, in a legal account.
use Rattle.rv_world.proofs.OfParts.Words.{◌≡◌, ◌∙◌, inl, inr, ℕ, List, Some, refl, sym, ap, subst, slice_get}
use Rattle.rv_world.proofs.OfParts.Words.{none-some, same_Some, Key, Call, Reply, Act, Entry, Account}
use Rattle.rv_world.proofs.OfParts.Words.{call_at, call_in, Legal, HasReply, Meet, ArrivesAt}
use Rattle.std.proofs.Common.{zero, suc, option_and_then}
use Rattle.rv_text.specs.declared.call.Side.TheVariants.{Gives, Takes, Exchanges}
use Rattle.rv_text.specs.declared.call.Wait.{Wait}
use Rattle.rv_text.specs.declared.call.Wait.TheVariants.{Now, Millis, Forever}
use Rattle.rv_text.specs.Calls.{item_of, side_of}
use Rattle.rv_account.specs.declared.entry.Act.TheVariants.{Arrive, Cancel, Hello, Tick}
use Rattle.rv_account.specs.Account.{key_at, key_in}
use Rattle.rv_account.specs.Calls.{may_name, opposite}
use Rattle.rv_book.specs.Replies.{Drains, GetsItem, RepliesAt, RepliesMet, RepliesUnmet, ToldStopped, told_by}
use Rattle.rv_book.specs.Waiting.{Met, NamesPartner}
use Rattle.rv_account.proofs.OfRules.Fronts.{read_whole}
use Rattle.rv_account.proofs.OfRules.Growing.{act_read, call_read, read_there}
use Rattle.rv_account.proofs.OfRules.Opposites.{opposite_back}
use Rattle.rv_account.proofs.OfRules.OnePartner.{arrives_once, meets_one, partner_open}
use Rattle.rv_account.proofs.OfState.OneTold.{one_taker}
use Rattle.rv_world.specs.parts.Headline.{IsNo, IsPair, IsReceipt, IsToldItem, NamesTaker}
use Rattle.rv_world.proofs.OfParts.Drained.{told_among}
use Rattle.rv_text.specs.declared.call.Call.TheVariants as call
use Rattle.rv_text.specs.declared.answer.Reply.TheVariants as reply

-- ---- partners

-- whom an arrival met
pub record Partner (entries : List Entry) (r : ℕ) (own : Call) : Type 0 where
  pub place : ℕ
  pub other : Call
  pub arrived : call_at entries place ≡ Some other
  pub opposes : opposite (side_of own) ≡ Some (side_of other)
  pub meet : Meet entries r place

-- whom an arrival names, and so whom it meets, is of the opposite side
named_opposes : (a : Account) (r q : ℕ) (own other : Call) → Legal a → call_at a.entries r ≡ Some own
    → call_at a.entries q ≡ Some other → NamesPartner a.entries r q
    → opposite (side_of own) ≡ Some (side_of other)
named_opposes a r q own other legal arrived also names =
    let opened = partner_open a r q legal names in
    let at = opened.there.of_side in
    let whole = read_whole call_read refl a.entries r q at.call at.arrived in
    let same : names.call ≡ own = same_Some _ _ (sym names.arrived ∙ arrived) in
    let there : at.call ≡ other = same_Some _ _ (sym whole.1 ∙ also) in
    subst (λ c. opposite (side_of c) ≡ Some (side_of other)) same (opened.opposes ∙ ap Some (sym at.is)
    ∙ ap (λ c. Some (side_of c)) there)

pub meet_opposes : (a : Account) (r s : ℕ) (own other : Call) → Legal a → call_at a.entries r ≡ Some own
    → call_at a.entries s ≡ Some other → Meet a.entries r s → opposite (side_of own) ≡ Some (side_of other)
meet_opposes a r s own other legal arrived also (inl names) = named_opposes a r s own other legal arrived also
    names
meet_opposes a r s own other legal arrived also (inr names) = opposite_back (side_of other) (side_of own)
    (named_opposes a s r other own legal also arrived names)

partner_named : (a : Account) (r q : ℕ) (own : Call) → Legal a → call_at a.entries r ≡ Some own
    → NamesPartner a.entries r q → Partner a.entries r own
partner_named a r q own legal arrived names =
    let at = (partner_open a r q legal names).there.of_side in
    let whole = read_whole call_read refl a.entries r q at.call at.arrived in
    record {
      place = q;
      other = at.call;
      arrived = whole.1;
      opposes = named_opposes a r q own at.call legal
          arrived whole.1 names;
      meet = inl names;
    }

partner_naming : (a : Account) (r p : ℕ) (own : Call) → Legal a → call_at a.entries r ≡ Some own
    → NamesPartner a.entries p r → Partner a.entries r own
partner_naming a r p own legal arrived names = record {
  place = p;
  other = names.call;
  arrived = names.arrived;
  opposes = meet_opposes a r p own names.call legal arrived names.arrived (inr names);
  meet = inr names;
}

pub partner_of : (a : Account) (r : ℕ) (own : Call) → Legal a → call_at a.entries r ≡ Some own
    → Met a.entries r → Partner a.entries r own
partner_of a r own legal arrived met = elim met.part [
  | inl later ↦ partner_named a r met.earlier own legal arrived
      (subst (λ p. NamesPartner a.entries p met.earlier) (sym later) met.names)
  | inr earlier ↦ partner_naming a r met.later own legal arrived (subst (NamesPartner a.entries met.later)
      (sym earlier) met.names)
]

pub meet_back : (es : List Entry) (r s : ℕ) → Meet es r s → Meet es s r
meet_back es r s (inl names) = inr names
meet_back es r s (inr names) = inl names

-- ---- pairs

pub pair_of : (es : List Entry) (g t queue : ℕ) (gives takes : Call) → call_at es g ≡ Some gives
    → side_of gives ≡ Gives queue → call_at es t ≡ Some takes → side_of takes ≡ Takes queue
    → Meet es g t → IsPair es g t
pair_of es g t queue gives takes arrived side also other (inl names) = (
  queue,
  g,
  record {
    gives = record { call = gives; arrived = arrived; is = side };
    takes =
        record { call = takes; arrived = also; is = other };
    names = inl (refl, names);
  },
)
pair_of es g t queue gives takes arrived side also other (inr names) = (
  queue,
  t,
  record {
    gives = record { call = gives; arrived = arrived; is = side };
    takes =
        record { call = takes; arrived = also; is = other };
    names = inr (refl, names);
  },
)

pub pair_meets : (es : List Entry) (g t : ℕ) → IsPair es g t → Meet es g t
pair_meets es g t pair = elim pair.2.names [ inl names ↦ inl names.1 | inr names ↦ inr names.1 ]

-- what gives may name one partner, and so may what exchanges
pub single_giver : (call : Call) (queue : ℕ) → side_of call ≡ Gives queue → may_name call ≡ 1
single_giver (call.Drain other max) queue is = absurd (let no : ⊥ = cc in no)
single_giver _ queue is = refl

pub single_exchanger : (call : Call) (exchanger : ℕ) → side_of call ≡ Exchanges exchanger → may_name call ≡ 1
single_exchanger (call.Drain queue max) exchanger is = absurd (let no : ⊥ = cc in no)
single_exchanger _ exchanger is = refl

-- whom an arrival met that may name one is one
pub one_met : (a : Account) (r s t : ℕ) (own : Call) → Legal a → call_at a.entries r ≡ Some own
    → may_name own ≡ 1 → Meet a.entries r s → Meet a.entries r t → s ≡ t
one_met a r s t own legal arrived single first second = meets_one a r s t own legal arrived single
    (meet_back a.entries r s first) (meet_back a.entries r t second)

-- ---- replies

-- the reply of a request that met nobody
abbrev pub SaysNo : Reply → Type 0
SaysNo reply.Cancelled = Unit {0}
SaysNo reply.TimedOut = Unit {0}
SaysNo reply.Nobody = Unit {0}
SaysNo reply.Empty = Unit {0}
SaysNo _ = ⊥

pub says_no : (told : Reply) → IsNo told → SaysNo told
says_no told (inl is) = subst SaysNo (sym is) tt
says_no told (inr (inl is)) = subst SaysNo (sym is) tt
says_no told (inr (inr (inl is))) = subst SaysNo (sym is) tt
says_no told (inr (inr (inr is))) = subst SaysNo (sym is) tt

stopper_says_no : (act : Act) → SaysNo (told_by act)
stopper_says_no (Hello client incarnation version) = tt
stopper_says_no (Arrive key own) = tt
stopper_says_no (Cancel key) = tt
stopper_says_no Tick = tt

stopped_says_no : (es : List Entry) (r : ℕ) (told : Reply) → ToldStopped es r told → SaysNo told
stopped_says_no es r told stopped = subst SaysNo (sym stopped.is)
    (stopper_says_no stopped.stop.stops.stopper.act)

unmet_says_no : (wait : Wait) (es : List Entry) (r : ℕ) (at_once told : Reply) → SaysNo at_once
    → RepliesUnmet es r wait at_once told → SaysNo told
unmet_says_no Now es r at_once told says is = subst SaysNo (sym is) says
unmet_says_no (Millis zero) es r at_once told says is = subst SaysNo (sym is) tt
unmet_says_no (Millis (suc n)) es r at_once told says stopped = stopped_says_no es r told stopped
unmet_says_no Forever es r at_once told says stopped = stopped_says_no es r told stopped

-- what a transfer that was met is told is a receipt, and a receipt says no no
met_receipt : (es : List Entry) (r : ℕ) (told : Reply) → RepliesMet es r told → IsReceipt told
met_receipt es r told (inl two) = subst IsReceipt (sym two.3) tt
met_receipt es r told (inr other) = subst IsReceipt (sym other.1) tt

no_receipt : (told : Reply) → SaysNo told → IsReceipt told → ⊥
no_receipt reply.Received says receipt = says
no_receipt (reply.ReceivedBy taker) says receipt = says
no_receipt _ says receipt = receipt

no_unmet : (a : Account) (r : ℕ) (own : Call) (told : Reply) → Legal a → call_at a.entries r ≡ Some own
    → RepliesAt a.entries r own told → SaysNo told → Met a.entries r → ⊥
no_unmet a r (call.Put queue item) told legal arrived is says met = subst SaysNo is says
no_unmet a r (call.Transfer queue item wait) told legal arrived (inl got) says met = no_receipt told says
    (met_receipt a.entries r told got.1)
no_unmet a r (call.Transfer queue item wait) told legal arrived (inr unmet) says met = unmet.0 met
no_unmet a r (call.Take queue wait) told legal arrived (inl got) says met = subst SaysNo got.2 says
no_unmet a r (call.Take queue wait) told legal arrived (inr unmet) says met = unmet.0 met
no_unmet a r (call.Swap exchanger item wait) told legal arrived (inl got) says met = subst SaysNo got.2 says
no_unmet a r (call.Swap exchanger item wait) told legal arrived (inr unmet) says met = unmet.0 met
no_unmet a r (call.Count queue) told legal arrived is says met =
    none-some _ (partner_of a r (call.Count queue) legal arrived met).opposes
no_unmet a r (call.Peek queue) told legal arrived is says met = none-some _ (partner_of a r (call.Peek queue)
    legal arrived met).opposes
no_unmet a r (call.Drain queue max) told legal arrived got says met = subst SaysNo got.2 says

-- a request that is told a no was not met
pub no_means_unmet : (a : Account) (key : Key) (told : Reply) → Legal a → HasReply a.entries key told
    → IsNo told → (r : ℕ) (own : Call) → ArrivesAt a.entries key r own → Met a.entries r → ⊥
no_means_unmet a key told legal (inl has) says r own arrived met =
    let place : r ≡ has.place = arrives_once a r has.place key own has.call legal arrived has.arrived in
    no_unmet a has.place has.call told legal (ap (option_and_then call_in) has.arrived) has.replies
    (says_no told says) (subst (Met a.entries) place met)
no_means_unmet a key told legal (inr first) says r own arrived met = first.0.not_arrived r own arrived

-- who is told a receipt is a transfer that met a taker
pub received_met : (es : List Entry) (r : ℕ) (own : Call) (told : Reply) → IsReceipt told
    → RepliesAt es r own told → Met es r × ((queue : ℕ) × (side_of own ≡ Gives queue)) × RepliesMet es r told
received_met es r (call.Put queue item) told receipt is = absurd (subst IsReceipt is receipt)
received_met es r (call.Transfer queue item wait) told receipt (inl got) = (got.0, (queue, refl), got.1)
received_met es r (call.Transfer queue item wait) told receipt (inr unmet) =
    absurd (no_receipt told (unmet_says_no wait es r reply.Nobody told tt unmet.1) receipt)
received_met es r (call.Take queue wait) told receipt (inl got) = absurd (subst IsReceipt got.2 receipt)
received_met es r (call.Take queue wait) told receipt (inr unmet) =
    absurd (no_receipt told (unmet_says_no wait es r reply.Empty told tt unmet.1) receipt)
received_met es r (call.Swap exchanger item wait) told receipt (inl got) =
    absurd (subst IsReceipt got.2 receipt)
received_met es r (call.Swap exchanger item wait) told receipt (inr unmet) =
    absurd (no_receipt told (unmet_says_no wait es r reply.TimedOut told tt unmet.1) receipt)
received_met es r (call.Count queue) told receipt got = absurd (subst IsReceipt got.3 receipt)
received_met es r (call.Peek queue) told receipt (inl got) = absurd (subst IsReceipt got.2 receipt)
received_met es r (call.Peek queue) told receipt (inr none) = absurd (subst IsReceipt none.1 receipt)
received_met es r (call.Drain queue max) told receipt got = absurd (subst IsReceipt got.2 receipt)

-- whom its receipt names, if it names one, is the taker that it met
pub names_taker : (a : Account) (r place : ℕ) (own : Call) (told : Reply) (key : Key) → Legal a
    → call_at a.entries r ≡ Some own → may_name own ≡ 1 → RepliesMet a.entries r told → Meet a.entries r place
    → key_at a.entries place ≡ Some key → NamesTaker told key
names_taker a r place own told key legal arrived single (inl two) meet named =
    subst (λ t. NamesTaker t key) (sym two.3) (one_taker a r own two.1 key legal arrived single two.2
    (record { place = place; meet = meet; named = named }))
names_taker a r place own told key legal arrived single (inr other) meet named = subst (λ t. NamesTaker t key)
    (sym other.1) tt

-- who is told an item got it from whom it met, and may name one
pub item_got : (es : List Entry) (r : ℕ) (own : Call) (item : List ℕ) → RepliesAt es r own (reply.Item item)
    → GetsItem es r item × ((queue : ℕ) × (side_of own ≡ Takes queue)) × (may_name own ≡ 1)
item_got es r (call.Put queue bytes) item is = absurd (let no : ⊥ = cc in no)
item_got es r (call.Transfer queue bytes wait) item (inl got) = absurd (met_receipt es r (reply.Item item)
    got.1)
item_got es r (call.Transfer queue bytes wait) item (inr unmet) = absurd (unmet_says_no wait es r reply.Nobody
    (reply.Item item) tt unmet.1)
item_got es r (call.Take queue wait) item (inl got) = let same : got.0 ≡ item = let is = got.2 in cc in
    (subst (GetsItem es r) same got.1, (queue, refl), refl)
item_got es r (call.Take queue wait) item (inr unmet) = absurd (unmet_says_no wait es r reply.Empty
    (reply.Item item) tt unmet.1)
item_got es r (call.Swap exchanger bytes wait) item (inl got) = absurd (let is = got.2 in let no : ⊥ = cc in
    no)
item_got es r (call.Swap exchanger bytes wait) item (inr unmet) =
    absurd (unmet_says_no wait es r reply.TimedOut (reply.Item item) tt unmet.1)
item_got es r (call.Count queue) item got = absurd (let is = got.3 in let no : ⊥ = cc in no)
item_got es r (call.Peek queue) item (inl got) = absurd (let is = got.2 in let no : ⊥ = cc in no)
item_got es r (call.Peek queue) item (inr none) = absurd (let is = none.1 in let no : ⊥ = cc in no)
item_got es r (call.Drain queue max) item got = absurd (let is = got.2 in let no : ⊥ = cc in no)

-- and who is told that it swapped
pub swapped_got : (es : List Entry) (r : ℕ) (own : Call) (item : List ℕ)
    → RepliesAt es r own (reply.Swapped item)
    → GetsItem es r item × ((exchanger : ℕ) × (side_of own ≡ Exchanges exchanger))
swapped_got es r (call.Put queue bytes) item is = absurd (let no : ⊥ = cc in no)
swapped_got es r (call.Transfer queue bytes wait) item (inl got) =
    absurd (met_receipt es r (reply.Swapped item) got.1)
swapped_got es r (call.Transfer queue bytes wait) item (inr unmet) =
    absurd (unmet_says_no wait es r reply.Nobody (reply.Swapped item) tt unmet.1)
swapped_got es r (call.Take queue wait) item (inl got) = absurd (let is = got.2 in let no : ⊥ = cc in no)
swapped_got es r (call.Take queue wait) item (inr unmet) = absurd (unmet_says_no wait es r reply.Empty
    (reply.Swapped item) tt unmet.1)
swapped_got es r (call.Swap exchanger bytes wait) item (inl got) = let same : got.0 ≡ item = let is = got.2 in
    cc in (subst (GetsItem es r) same got.1, (exchanger, refl))
swapped_got es r (call.Swap exchanger bytes wait) item (inr unmet) =
    absurd (unmet_says_no wait es r reply.TimedOut (reply.Swapped item) tt unmet.1)
swapped_got es r (call.Count queue) item got = absurd (let is = got.3 in let no : ⊥ = cc in no)
swapped_got es r (call.Peek queue) item (inl got) = absurd (let is = got.2 in let no : ⊥ = cc in no)
swapped_got es r (call.Peek queue) item (inr none) = absurd (let is = none.1 in let no : ⊥ = cc in no)
swapped_got es r (call.Drain queue max) item got = absurd (let is = got.2 in let no : ⊥ = cc in no)

-- and who is told a list drains
pub drained_got : (es : List Entry) (r : ℕ) (own : Call) (items : List (List ℕ))
    → RepliesAt es r own (reply.Drained items) → (queue max : ℕ) × (own ≡ call.Drain queue max) × Drains es r
    items
drained_got es r (call.Put queue bytes) items is = absurd (let no : ⊥ = cc in no)
drained_got es r (call.Transfer queue bytes wait) items (inl got) =
    absurd (met_receipt es r (reply.Drained items) got.1)
drained_got es r (call.Transfer queue bytes wait) items (inr unmet) =
    absurd (unmet_says_no wait es r reply.Nobody (reply.Drained items) tt unmet.1)
drained_got es r (call.Take queue wait) items (inl got) = absurd (let is = got.2 in let no : ⊥ = cc in no)
drained_got es r (call.Take queue wait) items (inr unmet) = absurd (unmet_says_no wait es r reply.Empty
    (reply.Drained items) tt unmet.1)
drained_got es r (call.Swap exchanger bytes wait) items (inl got) = absurd (let is = got.2 in let no : ⊥ =
    cc in no)
drained_got es r (call.Swap exchanger bytes wait) items (inr unmet) =
    absurd (unmet_says_no wait es r reply.TimedOut (reply.Drained items) tt unmet.1)
drained_got es r (call.Count queue) items got = absurd (let is = got.3 in let no : ⊥ = cc in no)
drained_got es r (call.Peek queue) items (inl got) = absurd (let is = got.2 in let no : ⊥ = cc in no)
drained_got es r (call.Peek queue) items (inr none) = absurd (let is = none.1 in let no : ⊥ = cc in no)
drained_got es r (call.Drain queue max) items got = let same : got.0 ≡ items = let is = got.2 in cc in
    (queue, max, refl, subst (Drains es r) same got.1)

-- who takes is told the item of whom it meets, and who exchanges the other's
pub taker_told : (a : Account) (g t : ℕ) (giver taker : Call) (item : List ℕ) (key : Key) (queue : ℕ)
    → Legal a → call_at a.entries g ≡ Some giver → item_of giver ≡ Some item → ArrivesAt a.entries key t taker
    → side_of taker ≡ Takes queue → Meet a.entries g t → IsToldItem a.entries key g t item
taker_told a g t giver (call.Put other bytes) item key queue legal given hands arrived is meet =
    absurd (let no : ⊥ = cc in no)
taker_told a g t giver (call.Transfer other bytes wait) item key queue legal given hands arrived is meet =
    absurd (let no : ⊥ = cc in no)
taker_told a g t giver (call.Take other wait) item key queue legal given hands arrived is meet =
    inl (inl (record {
      place = t;
      call = call.Take other wait;
      arrived = arrived;
      replies = inl (
        item,
        record { giver = g; call = giver; meet = meet; arrived = given; hands_over = hands },
        refl,
      );
    }))
taker_told a g t giver (call.Swap other bytes wait) item key queue legal given hands arrived is meet =
    absurd (let no : ⊥ = cc in no)
taker_told a g t giver (call.Count other) item key queue legal given hands arrived is meet =
    absurd (let no : ⊥ = cc in no)
taker_told a g t giver (call.Peek other) item key queue legal given hands arrived is meet =
    absurd (let no : ⊥ = cc in no)
taker_told a g t giver (call.Drain other max) item key queue legal given hands arrived is meet =
    inr (told_among a t other max legal (ap (option_and_then call_in) arrived) g giver item key given hands
    arrived meet)

pub exchanger_told : (es : List Entry) (r : ℕ) (own : Call) (item : List ℕ) (exchanger : ℕ)
    → side_of own ≡ Exchanges exchanger → GetsItem es r item → RepliesAt es r own (reply.Swapped item)
exchanger_told es r (call.Put other bytes) item exchanger is gets = absurd (let no : ⊥ = cc in no)
exchanger_told es r (call.Transfer other bytes wait) item exchanger is gets = absurd (let no : ⊥ = cc in no)
exchanger_told es r (call.Take other wait) item exchanger is gets = absurd (let no : ⊥ = cc in no)
exchanger_told es r (call.Swap other bytes wait) item exchanger is gets = inl (item, gets, refl)
exchanger_told es r (call.Count other) item exchanger is gets = absurd (let no : ⊥ = cc in no)
exchanger_told es r (call.Peek other) item exchanger is gets = absurd (let no : ⊥ = cc in no)
exchanger_told es r (call.Drain other max) item exchanger is gets = absurd (let no : ⊥ = cc in no)

-- ---- keys

-- a key that arrived is of its account's epoch
pub arrival_epoch : (a : Account) (key : Key) (r : ℕ) (own : Call) → Legal a → ArrivesAt a.entries key r own
    → key.epoch ≡ a.epoch
arrival_epoch a key r own legal arrived =
    let there = read_there act_read refl (slice_get a.entries r) (Arrive key own) arrived in
    let says : key_in there.0.act ≡ Some key = ap (option_and_then key_in) there.2 in
    ((legal r there.0 there.1).numbers.of_session key says).0
