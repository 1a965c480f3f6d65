-- An arrival that finds nobody and doesn't stay: what it makes of the state.
use Rattle.std.proofs.Common.{◌≡◌, ◌∙◌, ◌++◌, ◌∷◌, ℕ, List, [], Bool, true, false, cond}
use Rattle.std.proofs.Common.{Option, Some, None, is_some, refl, sym, ap, subst, arith}
use Rattle.std.specs.Prelude.{◌&&◌, take}
use Rattle.std.proofs.lemmas.Bool.Decides.{nat_tests}
use Rattle.std.proofs.lemmas.List.{append-nil}
use Rattle.std.proofs.Math.Seq.{take-nil}
use Rattle.rv_text.specs.declared.message.Key.{Key}
use Rattle.rv_text.specs.declared.call.Call.{Call}
use Rattle.rv_text.specs.declared.call.Wait.{Wait}
use Rattle.rv_text.specs.declared.call.Wait.TheVariants.{Now, Millis, Forever}
use Rattle.rv_text.specs.declared.answer.Reply.{Reply}
use Rattle.rv_text.specs.Calls.{side_of, wait_of}
use Rattle.rv_session.specs.declared.client.LastRequest.TheVariants.{RepliedTo}
use Rattle.rv_session.specs.declared.client.LastRequest.{LastRequest}
use Rattle.rv_session.specs.Clients.{ClientStates, clients_asked, with_clients, with_last_number}
use Rattle.rv_account.specs.declared.entry.Entry.{Entry}
use Rattle.rv_account.specs.declared.entry.Act.TheVariants.{Arrive}
use Rattle.rv_account.specs.Account.{entry}
use Rattle.rv_account.specs.Calls.{Lasts, may_name, opposite}
use Rattle.rv_model_queues.specs.Meeting.{StaysBy}
use Rattle.rv_account.specs.state.State.{OpenPlace, State, opposites, place_list}
use Rattle.rv_account.specs.state.After.{Following, Settled, advanced, arrived, asked, closed, lasts_by}
use Rattle.rv_account.specs.state.After.{met_by}
use Rattle.rv_account.specs.state.After.{opened_by, parked, request_after, settled_all, stays_open}
use Rattle.rv_account.specs.state.After.{told_alone}
use Rattle.rv_account.specs.state.After.{told_own}
use Rattle.rv_account.specs.state.After.{told_partner, with_open}
use Rattle.rv_machine.specs.declared.tables.Holdings.{Holdings}
use Rattle.rv_machine.specs.Arriving.{Arrives, MayArrive}
use Rattle.rv_machine.specs.Ending.{counted}
use Rattle.rv_machine.specs.Machines.{keys_settled, state_in}
use Rattle.rv_machine.specs.open_places.OpenMap.{opposed_in}
use Rattle.rv_machine.proofs.Concluded.{asked_in, asked_state, with_states}
use Rattle.rv_machine.proofs.OfOpenPlaces.Parted.{but_none}
use Rattle.rv_machine.proofs.Told.{asked_own}

-- ---- who doesn't stay

-- a wait that lasts is one that the state's definitions let last
pub lasts_both : (wait : Option Wait) → lasts_by wait ≡ true → Lasts wait
lasts_both None is = tt
lasts_both (Some Now) is = absurd (cc)
lasts_both (Some (Millis n)) is = grind (arith, nat_tests)
lasts_both (Some Forever) is = tt

not_by : (may : Bool) (lasts : Bool) → ((may ≡ true) → (lasts ≡ true) → ⊥) → (may && lasts) ≡ false
not_by false lasts both = refl
not_by true false both = refl
not_by true true both = absurd (both refl refl)

-- who doesn't stay by its side and its wait isn't open where it meets nobody
pub not_open : (call : Call) → ¬ StaysBy (side_of call) (wait_of call) → stays_open call [] ≡ false
not_open call leaves =
    not_by (is_some (opposite (side_of call))) (lasts_by (wait_of call))
    (λ may lasts. leaves (may, lasts_both (wait_of call) lasts))

-- ---- what it makes of a state

-- what an arrival makes of a state where it meets these
abbrev pub having_met : State → ℕ → Key → Call → List OpenPlace → Following
having_met s moment key call met =
    let settles : List Settled = settled_all (told_partner s key call) met in
    let own : Option Reply = told_own s key call met in
    let open_then : State = with_open (closed s met settles) (parked s moment key call met) in
    record { after = asked open_then key (request_after s.length call own); settles = settles; reply = own }

-- nothing is closed
pub closed_none : (s : State) → closed s [] [] ≡ s
closed_none s = λ i. record {
  epoch = s.epoch;
  moment = s.moment;
  length = s.length;
  open_places = but_none s.open_places i;
  clients = s.clients;
}

-- nothing more is open
pub none_more : (x : State) → with_open x [] ≡ x
none_more x = λ i. record {
  epoch = x.epoch;
  moment = x.moment;
  length = x.length;
  open_places = append-nil x.open_places i;
  clients = x.clients;
}

module _ (s : State) (moment : ℕ) (key : Key) (call : Call) (reply : Reply)
    (alone : opposites s call ≡ []) (leaves : stays_open call [] ≡ false)
    (told : told_alone s call ≡ Some reply) where
  pub met_none : met_by s call ≡ []
  met_none = ap (take (may_name call)) alone ∙ take-nil (may_name call)

  then_open : with_open (closed s [] []) (parked s moment key call []) ≡ s
  then_open =
      ap (λ b. with_open (closed s [] []) (cond b (opened_by s moment key call ∷ []) [])) leaves
      ∙ none_more (closed s [] []) ∙ closed_none s

  pub left_is : arrived s moment key call
      ≡ record { after = asked s key (RepliedTo call reply); settles = []; reply = Some reply }
  left_is = ap (having_met s moment key call) met_none ∙ λ i. record {
    after = asked (then_open i) key (request_after s.length call (told i));
    settles = [];
    reply = told i;
  }

-- ---- what it makes of a machine

pub leaves_arrived : (m : Holdings) (moment : ℕ) (key : Key) (call : Call) (reply : Reply)
    → MayArrive m moment key call → opposed_in m.table (side_of call) ≡ []
    → ¬ StaysBy (side_of call) (wait_of call) → told_alone (state_in m) call ≡ Some reply
    → Arrives m (counted (asked_in m key (RepliedTo call reply)) moment) moment key call
    (entry moment (Arrive key call) [])
leaves_arrived m moment key call reply may alone leaves told =
    let left = left_is (state_in m) moment key call reply alone (not_open call leaves) told in
    let session = may.next.session in
    record {
      made_is = ap (λ (l : List OpenPlace). entry moment (Arrive key call) (place_list l))
          (sym (met_none (state_in m) moment key call reply alone (not_open call leaves) told));
      state = ap (λ (x : State). advanced x moment) (asked_state m key (RepliedTo call reply)
          ∙ ap (λ (f : Following). f.after) (sym left));
      settles = sym (append-nil m.settled.items)
          ∙ ap (λ (f : Following). m.settled.items ++ keys_settled f.settles) (sym left);
      session = with_last_number session key.number (RepliedTo call reply);
      known = asked_own m.clients.clients key (RepliedTo call reply) session may.next.of_session.there;
      told = ap (λ (f : Following). f.reply) (sym left);
    }

-- the same of a machine and an entry that are those
pub arrives_as : (old was now : Holdings) (moment : ℕ) (key : Key) (call : Call) (made is : Entry)
    → now ≡ was → is ≡ made → Arrives old was moment key call made → Arrives old now moment key call is
arrives_as old was now moment key call made is same entry_same arrives =
    subst (λ (m : Holdings). Arrives old m moment key call is) (sym same)
    (subst (λ (e : Entry). Arrives old was moment key call e) (sym entry_same) arrives)

-- what the table of clients and the count of entries make of a machine
pub concluded_now : (m now : Holdings) (moment : ℕ) (key : Key) (request : LastRequest) (clients :
    ClientStates)
    → clients ≡ with_clients m.clients (clients_asked m.clients.clients key request)
    → now ≡ counted (with_states m clients) moment → now ≡ counted (asked_in m key request) moment
concluded_now m now moment key request clients is counts =
    counts ∙ ap (λ (t : ClientStates). counted (with_states m t) moment) is

-- the entry of a copy of the call
pub copied_entry : (made : Entry) (moment : ℕ) (key : Key) (call copy : Call) (partners named : List ℕ)
    → made ≡ entry moment (Arrive key copy) partners → copy ≡ call → partners ≡ named
    → made ≡ entry moment (Arrive key call) named
copied_entry made moment key call copy partners named is same names =
    is ∙ λ i. entry moment (Arrive key (same i)) (names i)
