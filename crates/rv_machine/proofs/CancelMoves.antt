-- The moves of cancels.
use Rattle.std.proofs.Common.{◌≡◌, ◌≢◌, ◌<◌, ◌+◌, ◌++◌, ◌∷◌, ◌∙◌, ℕ, [], Option, Some, None, inl, inr}
use Rattle.std.proofs.Common.{refl, sym, ap, arith}
use Rattle.std.proofs.lemmas.List.{append-nil}
use Rattle.std.specs.FinMap.{insert}
use Rattle.rv_text.specs.declared.message.Key.{Key}
use Rattle.rv_text.specs.declared.message.Message.TheVariants.{Cancel}
use Rattle.rv_text.specs.declared.answer.Answer.TheVariants.{Replied}
use Rattle.rv_text.specs.declared.answer.Refusal.{Refusal}
use Rattle.rv_text.specs.declared.answer.Refusal.TheVariants.{EpochFull}
use Rattle.rv_text.specs.declared.answer.Reply.TheVariants.{Cancelled}
use Rattle.rv_account.specs.Account.{entry}
use Rattle.rv_account.specs.declared.entry.Act.{Act}
use Rattle.rv_account.specs.declared.entry.Act.TheVariants as act
use Rattle.rv_account.specs.rules.StepLimits.{StepLimits}
use Rattle.rv_session.specs.declared.client.LastRequest.{LastRequest}
use Rattle.rv_session.specs.declared.client.LastRequest.TheVariants.{CancelledUnseen, Fresh, Waits}
use Rattle.rv_session.specs.ClientMeanings.{AsksLast, AsksNext, RefusalSays}
use Rattle.rv_session.specs.Clients.{ClientStates, answered, clients_asked, insert_known, place_waiting}
use Rattle.rv_session.specs.Clients.{with_clients, with_last_number, with_request}
use Rattle.rv_account.specs.state.State.{ClientState, OpenPlace, State, client_at, client_waits}
use Rattle.rv_account.specs.state.After.{advanced, cancelled, with_client, with_last}
use Rattle.rv_account.specs.state.Follows.{NumberWaits}
use Rattle.rv_account.specs.state.Moves.{answer_after, answer_told, entering, told_again}
use Rattle.rv_account.proofs.OfState.Words.{none-some, same_Some}
use Rattle.rv_machine.specs.declared.tables.Holdings.{Holdings}
use Rattle.rv_machine.specs.declared.machine.Said.TheVariants as said
use Rattle.rv_machine.specs.Ending.{EndsWaiting, counted}
use Rattle.rv_machine.specs.Entering.{HasSpaceFor, WaitsForNothing, LastWaits}
use Rattle.rv_machine.specs.Machines.{IsWhole, MovesBy, keys_settled, state_in}
use Rattle.rv_machine.specs.Numbering.{AreNumbered, IsNumbered}
use Rattle.rv_machine.specs.open_places.OpenMap.{count_waiting}
use Rattle.rv_machine.proofs.EndedLast.{found_waiting, idle_waits, known_after}
use Rattle.rv_machine.proofs.KeyLines.{awaited_there, key_last, key_next, key_refused}
use Rattle.rv_machine.proofs.SpaceLines.{has_space, lacks_space}
use Rattle.rv_machine.proofs.Staying.{moves_refused, moves_staying}
use Rattle.rv_machine.proofs.Stopping.{settled_one, stopped_one}
use Rattle.rv_account.proofs.OfState.Resumed.Sessions.{put_own}

-- ---- where no entry is made

module _ (limits : StepLimits) (m : Holdings) (moment : ℕ) (key : Key) (numbered :
    AreNumbered (state_in m))
  where
    pub refuses_cancel : (refusal : Refusal) → RefusalSays m.clients key refusal
        → MovesBy limits m m moment (Cancel key) [] (said.Refused refusal)
    refuses_cancel refusal says =
        moves_refused limits m m moment _ refl refl refusal
        (key_refused m key _ _ _ numbered refusal says refl)

    not_waiting : (request : LastRequest) → place_waiting request ≡ None
        → (says : AsksLast m.clients key request)
        → NumberWaits (state_in m) key → ⊥
    not_waiting request idle says waits =
        let same : waits.session ≡ says.state = same_Some _ _ (sym waits.of_session.there ∙ says.of_key.there)
        in
        none-some waits.place
        (sym idle ∙ ap place_waiting (sym says.request_is)
        ∙ ap (λ (x : ClientState). place_waiting x.request) (sym same) ∙ waits.waits)

    -- the last number has its reply
    pub repeats_cancel : (request : LastRequest) → request ≢ Fresh → place_waiting request ≡ None
        → AsksLast m.clients key request → MovesBy limits m m moment (Cancel key) [] (said.Told key)
    repeats_cancel request asked idle says =
        moves_staying limits m m moment _ refl refl (answer_told key (told_again says.state.request))
        (said.Told key)
        (says.state, says.of_key.there, refl)
        (key_last m key _ _ _ numbered request asked says (inr (
          not_waiting request idle says,
          record { session = says.state; there = says.of_key.there; is = refl },
        )))

    -- the next number finds no space
    pub fills_cancel : AsksNext m.clients key → limits.entries < m.length + count_waiting m.table + 1
        → MovesBy limits m m moment (Cancel key) [] (said.Refused EpochFull)
    fills_cancel says full =
        moves_refused limits m m moment _ refl refl EpochFull
        (key_next m key _ _ _ numbered says
        (lacks_space limits (state_in m) 1 _ _ full refl))

-- ---- where the last request waits

module _ (limits : StepLimits) (old mid : Holdings) (ready : IsWhole old) (numbered :
    AreNumbered (state_in old)) (moment : ℕ)
    (key : Key)
    (place : ℕ) (last : LastWaits old key place) (ends : EndsWaiting old mid place Cancelled) where
  abbrev s : State
  s = state_in old

  abbrev does : Act
  does = act.Cancel key

  abbrev x : ClientState
  x = last.asks.state

  waits : place_waiting x.request ≡ Some place
  waits = ap place_waiting last.asks.request_is

  found : client_waits s key.client ≡ Some ends.there
  found = found_waiting old mid ready key.client place Cancelled x last.asks.of_key.there waits ends

  told : answer_told key (told_again (answered Cancelled x.request)) ≡ Replied key Cancelled
  told = ap (λ (r : LastRequest). answer_told key (told_again (answered Cancelled r))) last.asks.request_is

  pub ends_cancel : MovesBy limits old (counted mid moment) moment (Cancel key) (entry moment does [] ∷ [])
      (said.Told key)
  ends_cancel = record {
    move = entering s moment does (Replied key Cancelled);
    moves = key_last old key _ _ _ numbered (Waits place last.call) (λ e. cc) last.asks (inl (
      record {
        session = x;
        of_session = record {
          epoch = last.asks.of_key.epoch;
          there = last.asks.of_key.there;
          incarnation = last.asks.of_key.incarnation;
        };
        last = last.asks.number;
        place = place;
        waits = waits;
      },
      refl,
    ));
    makes = refl;
    says = (
      with_request x (answered Cancelled x.request),
      known_after old mid ready key.client place Cancelled x last.asks.of_key.there waits ends,
      sym told,
    );
    settles = ends.listed
        ∙ ap (λ l. old.settled.items ++ keys_settled l)
        (sym (settled_one s Cancelled ends.there ends.waiter ends.waits)
        ∙ ap (λ (o : Option OpenPlace). (cancelled s key o).settles) (sym found));
    after = ap (λ (t : State). advanced t moment)
        (ends.state ∙ sym (stopped_one s Cancelled ends.there ends.waiter ends.waits)
        ∙ ap (λ (o : Option OpenPlace). (cancelled s key o).after) (sym found));
  }

-- ---- where it did not come

module _ (old : Holdings) (moment : ℕ) (key : Key) (says : AsksNext old.clients key) where
  -- its client's session then
  abbrev pub buried : ClientState
  buried = with_last_number says.state key.number CancelledUnseen

  pub next_idle : WaitsForNothing (state_in old) key.client
  next_idle x there = awaited_there old.clients key.client x None there says.idle

  pub buried_numbered : IsNumbered buried
  buried_numbered = record {
    unasked = λ none. let next = says.number in absurd (omega arith);
    zero = λ fresh. cc;
  }

  pub clients_buried : (clients : ClientStates)
      → clients ≡ with_clients old.clients (clients_asked old.clients.clients key CancelledUnseen)
      → clients.clients ≡ insert old.clients.clients key.client buried
  clients_buried clients is =
      ap (λ (t : ClientStates). t.clients) is
      ∙ ap (insert_known old.clients.clients key.client (λ x. with_last_number x key.number CancelledUnseen))
      says.of_key.there

  module _ (limits : StepLimits) (mid : Holdings) (numbered : AreNumbered (state_in old)) (space :
      HasSpaceFor limits old 1)
      (is : state_in mid ≡ with_client (state_in old) key.client buried)
      (kept : mid.settled.items ≡ old.settled.items) where
    abbrev t : State
    t = state_in old

    abbrev enters : Act
    enters = act.Cancel key

    none_waits : client_waits t key.client ≡ None
    none_waits = idle_waits t key.client next_idle

    known : client_at (state_in mid) key.client ≡ Some buried
    known = ap (λ (u : State). client_at u key.client) is ∙ put_own old.clients.clients key.client buried

    answers : answer_after t moment key enters ≡ Replied key Cancelled
    answers = ap (λ (o : Option OpenPlace). answer_told key (cancelled t key o).reply) none_waits

    pub buries_cancel : MovesBy limits old (counted mid moment) moment (Cancel key) (entry moment enters []
        ∷ [])
        (said.Told key)
    buries_cancel = record {
      move = entering t moment enters (answer_after t moment key enters);
      moves = key_next old key _ _ _ numbered says (has_space limits t 1 _ _ space (inr refl));
      makes = refl;
      says = (buried, known, answers);
      settles = kept ∙ sym (append-nil _)
          ∙ ap (λ (o : Option OpenPlace). old.settled.items ++ keys_settled (cancelled t key o).settles)
          (sym none_waits);
      after = ap (λ (u : State). advanced u moment)
          (is ∙ ap (with_last t key CancelledUnseen) (sym says.of_key.there)
          ∙ ap (λ (o : Option OpenPlace). (cancelled t key o).after) (sym none_waits));
    }
