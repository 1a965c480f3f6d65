-- The headline holds after whatever happens: it follows from what is sound. Lists of events are its case.
use Rattle.rv_world.proofs.OfParts.Words.{◌≡◌, ◌∙◌, inl, inr, ℕ, List, Some, sym, ap, subst, same_Some, Key}
use Rattle.rv_world.proofs.OfParts.Words.{Call, Reply, Account, call_at, call_in, Legal, HasReply, Meet}
use Rattle.rv_world.proofs.OfParts.Words.{World, IsAccountOf, WasAsked, first_world, ArrivesAt, IsAnswered}
use Rattle.rv_world.proofs.OfParts.Words.{by_a_book, IsSoundWorld}
use Rattle.std.proofs.Common.{option_and_then}
use Rattle.rv_text.specs.declared.call.Call.TheVariants.{Drain}
use Rattle.rv_text.specs.declared.call.Side.{Side}
use Rattle.rv_text.specs.declared.call.Side.TheVariants.{Gives, Takes, Exchanges}
use Rattle.rv_text.specs.Calls.{side_of}
use Rattle.rv_account.specs.Account.{act_at, key_in}
use Rattle.rv_account.specs.Calls.{may_name, opposite}
use Rattle.rv_book.specs.Replies.{GetsItem, RepliesAt, RepliesMet}
use Rattle.rv_account.proofs.OfRules.CallKinds.{exchanges_item, gives_item}
use Rattle.rv_account.proofs.OfRules.Keys.{act_called}
use Rattle.rv_book.proofs.Leaving.{items_leave_in_order}
use Rattle.rv_account.proofs.OfRules.OnePartner.{arrives_once}
use Rattle.rv_world.specs.parts.Headline.{Headline, HeadlineAnyhow, IsExchanged, IsAssigned, IsDrained}
use Rattle.rv_world.specs.parts.Headline.{IsGiven, IsReceipt, IsReplyOf, NeverHandedOverAnyhow}
use Rattle.rv_world.specs.parts.Headline.{OrderOfArrival, ReceivedMeansAssigned, TrueExchange}
use Rattle.rv_world.specs.parts.Laws.{HeadlineHolds, HeadlineHoldsAnyhow}
use Rattle.rv_world.proofs.OfParts.AsHappenings.{runs_happen}
use Rattle.rv_world.proofs.OfParts.Drained.{TakesItems, as_many, hands_over_at, meets_named, names_met}
use Rattle.rv_world.proofs.OfParts.Drained.{partners_rise, takes_items}
use Rattle.rv_world.proofs.OfParts.Growth.{runs_grow_anyhow}
use Rattle.rv_world.proofs.OfParts.OneReply.{still_answered}
use Rattle.rv_world.proofs.OfParts.Partners.{Partner, arrival_epoch, drained_got, exchanger_told, item_got}
use Rattle.rv_world.proofs.OfParts.Partners.{meet_back, meet_opposes, names_taker, no_means_unmet, one_met}
use Rattle.rv_world.proofs.OfParts.Partners.{pair_meets, pair_of, partner_of, received_met, single_exchanger}
use Rattle.rv_world.proofs.OfParts.Partners.{single_giver, swapped_got, taker_told}
use Rattle.rv_world.proofs.OfParts.Soundness.{first_sound, runs_sound_anyhow}
use Rattle.rv_text.specs.declared.answer.Reply.TheVariants as reply

-- ---- a reply that is answered, as its account tells it

-- what follows from the arrival of the request, in its account, follows from the answer
told_leads : (w : World) (key : Key) (told : Reply) (G : Type 0) → IsSoundWorld w → IsAnswered w key told
    → (told ≡ reply.Cancelled → ⊥)
    → ((a : Account) (r : ℕ) (own : Call) → IsAccountOf w key.epoch a → Legal a → ArrivesAt a.entries key r
    own → RepliesAt a.entries r own told → G) → G
told_leads w key told G sound answered not_cancelled leads = by_reply (sound.no_two_replies.answered_is key
    told answered)
  where
    by_arrival : (a : Account) → IsAccountOf w key.epoch a → HasReply a.entries key told → G
    by_arrival a is_of (inl has) = leads a has.place has.call is_of (sound.legal_accounts.legal a
        is_of.is_there) has.arrived has.replies
    by_arrival a is_of (inr first) = absurd (not_cancelled first.1)

    by_reply : IsReplyOf w key told → G
    by_reply is = by_arrival is.account is.is_of is.has

-- ---- received means assigned

takes_of : (own other : Side) (queue : ℕ) → own ≡ Gives queue → opposite own ≡ Some other
    → other ≡ Takes queue
takes_of own other queue is opposes = sym (same_Some _ _ (subst (λ s. opposite s ≡ Some other) is opposes))

gives_of : (own other : Side) (queue : ℕ) → own ≡ Takes queue → opposite own ≡ Some other
    → other ≡ Gives queue
gives_of own other queue is opposes = sym (same_Some _ _ (subst (λ s. opposite s ≡ Some other) is opposes))

exchanges_of : (own other : Side) (exchanger : ℕ) → own ≡ Exchanges exchanger → opposite own ≡ Some other
    → other ≡ Exchanges exchanger
exchanges_of own other exchanger is opposes = sym (same_Some _ _ (subst (λ s. opposite s ≡ Some other) is
    opposes))

module _ (w : World) (key : Key) (sound : IsSoundWorld w) (a : Account) (r : ℕ) (own : Call) (is_of :
    IsAccountOf w key.epoch a) (legal : Legal a) (arrived : ArrivesAt a.entries key r own) where
  called : call_at a.entries r ≡ Some own
  called = ap (option_and_then call_in) arrived

  asked : WasAsked w key own
  asked = sound.legal_accounts.arrivals_asked a r key own is_of.is_there arrived

  -- the key arrived nowhere else
  arrived_there : (p : ℕ) (again : Call) → ArrivesAt a.entries key p again → p ≡ r
  arrived_there p again also = arrives_once a p r key again own legal also arrived

  -- who hands its item over to the arrival is of the opposite side
  gets_opposes : (item : List ℕ) → (gets : GetsItem a.entries r item)
      → opposite (side_of own) ≡ Some (side_of gets.call)
  gets_opposes item gets = meet_opposes a r gets.giver own gets.call legal called gets.arrived
      (meet_back a.entries gets.giver r gets.meet)

  received_assigned : (told : Reply) → IsReceipt told → RepliesAt a.entries r own told → IsAssigned w key told
  received_assigned told receipt replies =
      let met = received_met a.entries r own told receipt replies in
      assigned met.1.0 met.1.1 met.2 (partner_of a r own legal called met.0)
    where
      assigned : (queue : ℕ) → side_of own ≡ Gives queue → RepliesMet a.entries r told
          → Partner a.entries r own → IsAssigned w key told
      assigned queue gives is partner =
          let takes = takes_of (side_of own) (side_of partner.other) queue gives partner.opposes in
          let item = gives_item own queue gives in
          let taker = act_called (act_at a.entries partner.place) partner.other partner.arrived in
          let single = single_giver own queue gives in
          record {
            account = a;
            is_of = is_of;
            giver = r;
            taker = partner.place;
            pair = pair_of a.entries r partner.place queue own partner.other called gives partner.arrived
                takes partner.meet;
            call = own;
            arrived = arrived;
            asked = asked;
            item = item.0;
            hands_over = item.1;
            taker_key = taker.0;
            taker_call = partner.other;
            taker_arrived = taker.1;
            named = names_taker a r partner.place own told taker.0 legal called single is partner.meet
                (ap (option_and_then key_in) taker.1);
            taker_told = taker_told a r partner.place own partner.other item.0 taker.0 queue legal called
                item.1 taker.1 takes partner.meet;
            only = λ g t again pair also.
                let place : g ≡ r = arrived_there g again also in (
                  place,
                  one_met a r t partner.place own legal called single (subst (λ p. Meet a.entries p t)
                      place (pair_meets a.entries g t pair)) partner.meet,
                );
          }

  item_given : (item : List ℕ) → RepliesAt a.entries r own (reply.Item item) → IsGiven w key item
  item_given item replies = let got = item_got a.entries r own item replies in given got.1.0 got.1.1 got.2
      got.0
    where
      given : (queue : ℕ) → side_of own ≡ Takes queue → may_name own ≡ 1 → GetsItem a.entries r item
          → IsGiven w key item
      given queue takes single gets =
          let gives = gives_of (side_of own) (side_of gets.call) queue takes (gets_opposes item gets) in
          let giver = act_called (act_at a.entries gets.giver) gets.call gets.arrived in
          record {
            account = a;
            is_of = is_of;
            giver = gets.giver;
            taker = r;
            pair = pair_of a.entries gets.giver r queue gets.call own gets.arrived gives called takes
                gets.meet;
            call = own;
            arrived = arrived;
            giver_key = giver.0;
            giver_call = gets.call;
            giver_arrived = giver.1;
            hands_over = gets.hands_over;
            only = λ g t again pair also.
                let place : t ≡ r = arrived_there t again also in
                let meets : Meet a.entries r g = meet_back a.entries g r (subst (λ p. Meet a.entries g p)
                place (pair_meets a.entries g t pair)) in (
                  one_met a r g gets.giver own legal called single meets (meet_back a.entries gets.giver r
                      gets.meet),
                  place,
                );
          }

  drained_given : (items : List (List ℕ)) → RepliesAt a.entries r own (reply.Drained items)
      → IsDrained w key items
  drained_given items replies = let got = drained_got a.entries r own items replies in given got.0 got.1 got.2
      (takes_items a.entries r items got.3)
    where
      given : (queue max : ℕ) → own ≡ Drain queue max → TakesItems a.entries r items → IsDrained w key items
      given queue max is takes =
          let drains : call_at a.entries r ≡ Some (Drain queue max) = called ∙ ap Some is in
          record {
            account = a;
            is_of = is_of;
            taker = r;
            call = own;
            arrived = arrived;
            givers = takes.entry.partners;
            rising = partners_rise a r queue max legal drains takes.entry takes.there;
            as_many = as_many a.entries r items takes;
            pairs = λ g named.
                let over = hands_over_at a.entries r named.0 g items takes named.1 in
                let giver : call_at a.entries g ≡ Some over.call = ap (option_and_then call_in) over.arrived
                in
                let meet = meets_named a r queue max legal drains g takes.entry takes.there named in
                let opposes = meet_opposes a r g own over.call legal called giver (meet_back a.entries g r
                meet) in
                let gives = gives_of (side_of own) (side_of over.call) queue (ap side_of is) opposes in
                pair_of a.entries g r queue over.call own giver gives called (ap side_of is) meet;
            hands_over = λ place g there. hands_over_at a.entries r place g items takes there;
            only = λ g t again pair also.
                let place : t ≡ r = arrived_there t again also in
                let meet = subst (λ p. Meet a.entries g p) place (pair_meets a.entries g t pair) in
                (names_met a r queue max legal drains g takes.entry takes.there meet, place);
          }

  swapped_exchanged : (item : List ℕ) → RepliesAt a.entries r own (reply.Swapped item)
      → IsExchanged w key item
  swapped_exchanged item replies = let got = swapped_got a.entries r own item replies in exchanged got.1.0
      got.1.1 got.0
    where
      exchanged : (exchanger : ℕ) → side_of own ≡ Exchanges exchanger → GetsItem a.entries r item
          → IsExchanged w key item
      exchanged exchanger side gets =
          let meets : Meet a.entries r gets.giver = meet_back a.entries gets.giver r gets.meet in
          let exchanges = exchanges_of (side_of own) (side_of gets.call) exchanger side
          (gets_opposes item gets) in
          let own_item = exchanges_item own exchanger side in
          let other = act_called (act_at a.entries gets.giver) gets.call gets.arrived in
          let back : GetsItem a.entries gets.giver own_item.0 = record {
            giver = r;
            call = own;
            meet = meets;
            arrived = called;
            hands_over = own_item.1;
          } in
          record {
            account = a;
            is_of = is_of;
            own = r;
            other = gets.giver;
            swap = (
              exchanger,
              record { call = own; arrived = called; is = side },
              record {
                call = gets.call;
                arrived = gets.arrived;
                is = exchanges;
              },
              meets,
            );
            call = own;
            arrived = arrived;
            asked = asked;
            own_item = own_item.0;
            hands_over = own_item.1;
            other_key = other.0;
            other_call = gets.call;
            other_arrived = other.1;
            other_asked = sound.legal_accounts.arrivals_asked a gets.giver other.0 gets.call is_of.is_there
                other.1;
            other_hands_over = gets.hands_over;
            other_told = inl (record {
              place = gets.giver;
              call = gets.call;
              arrived = other.1;
              replies =
                  exchanger_told a.entries gets.giver gets.call own_item.0 exchanger exchanges back;
            });
            only = λ p s again swap also.
                let place : p ≡ r = arrived_there p again also in (
                  place,
                  one_met a r s gets.giver own legal called (single_exchanger own exchanger side)
                      (subst (λ q. Meet a.entries q s) place swap.3) meets,
                );
          }

pub received_means_assigned : (w : World) → IsSoundWorld w → ReceivedMeansAssigned w
received_means_assigned w sound = record {
  received = λ key told answered receipt. told_leads w key told (IsAssigned w key told) sound answered
      (λ is. subst IsReceipt is receipt)
      (λ a r own is_of legal arrived. received_assigned w key sound a r own is_of legal arrived told receipt);
  items = λ key item answered. told_leads w key (reply.Item item) (IsGiven w key item) sound answered
      (λ is. let no : ⊥ = cc in no)
      (λ a r own is_of legal arrived. item_given w key sound a r own is_of legal arrived item);
  drained = λ key items answered. told_leads w key (reply.Drained items) (IsDrained w key items) sound
      answered (λ is. let no : ⊥ = cc in no)
      (λ a r own is_of legal arrived. drained_given w key sound a r own is_of legal arrived items);
}

-- ---- never handed over

pub never_handed_over : (w : World) → IsSoundWorld w → NeverHandedOverAnyhow w
never_handed_over w sound key told happenings v answered is_no runs a r own there arrived =
    let after = runs_sound_anyhow w happenings v sound runs in
    let grows = runs_grow_anyhow w happenings v runs in
    let is = after.no_two_replies.answered_is key told (still_answered w v key told grows answered) in
    let legal = after.legal_accounts.legal a there in
    let same : is.account ≡ a = after.legal_accounts.one_each is.account a is.is_of.is_there there
    (is.is_of.epoch_is ∙ arrival_epoch a key r own legal arrived) in
    no_means_unmet a key told legal (subst (λ (b : Account). HasReply b.entries key told) same is.has) is_no r
    own arrived

-- ---- order of arrival

pub order_of_arrival : (w : World) → IsSoundWorld w → OrderOfArrival w
order_of_arrival w sound a there = items_leave_in_order a (sound.legal_accounts.legal a there)

-- ---- true exchange

pub true_exchange : (w : World) → IsSoundWorld w → TrueExchange w
true_exchange w sound key item answered =
    told_leads w key (reply.Swapped item) (IsExchanged w key item) sound answered (λ is. let no : ⊥ = cc in
    no)
    (λ a r own is_of legal arrived. swapped_exchanged w key sound a r own is_of legal arrived item)

-- ---- together

sound_headline_anyhow : (w : World) → IsSoundWorld w → HeadlineAnyhow w
sound_headline_anyhow w sound = record {
  no_two_replies = sound.no_two_replies;
  legal_accounts = sound.legal_accounts;
  received_means_assigned = received_means_assigned w sound;
  never_handed_over = never_handed_over w sound;
  order_of_arrival = order_of_arrival w sound;
  true_exchange = true_exchange w sound;
  only_growth = runs_grow_anyhow w;
}

pub headline_holds_anyhow : HeadlineHoldsAnyhow
headline_holds_anyhow epoch happenings w runs =
    sound_headline_anyhow w (runs_sound_anyhow (first_world epoch) happenings w (first_sound epoch) runs)

-- ---- of lists of events

of_events : (w : World) → HeadlineAnyhow w → Headline w
of_events w holds = record {
  no_two_replies = holds.no_two_replies;
  legal_accounts = holds.legal_accounts;
  received_means_assigned = holds.received_means_assigned;
  never_handed_over = λ key told events v answered is_no runs.
      holds.never_handed_over key told (by_a_book events) v answered is_no (runs_happen w events v runs);
  order_of_arrival = holds.order_of_arrival;
  true_exchange = holds.true_exchange;
  only_growth = λ events v runs. holds.only_growth (by_a_book events) v (runs_happen w events v runs);
}

pub sound_headline : (w : World) → IsSoundWorld w → Headline w
sound_headline w sound = of_events w (sound_headline_anyhow w sound)

pub headline_holds : HeadlineHolds
headline_holds epoch events w runs =
    let first = first_world epoch in
    of_events w (headline_holds_anyhow epoch (by_a_book events) w (runs_happen first events w runs))
