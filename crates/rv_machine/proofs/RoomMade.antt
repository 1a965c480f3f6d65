-- A machine in which only room was made to list more.
use Rattle.std.proofs.Common.{◌≡◌, ◌∙◌, ◌++◌, ℕ, List, arith, ap, subst, sym}
use Rattle.rv_text.specs.declared.message.Key.{Key}
use Rattle.rv_text.specs.declared.call.Call.{Call}
use Rattle.rv_account.specs.declared.entry.Act.TheVariants.{Arrive}
use Rattle.rv_account.specs.declared.entry.Entry.{Entry}
use Rattle.rv_account.specs.Account.{entry}
use Rattle.rv_session.specs.Clients.{ClientStates}
use Rattle.rv_account.specs.state.After.{following}
use Rattle.rv_account.specs.state.Follows.{NumberIsNext, partners_of}
use Rattle.rv_account.specs.state.State.{OpenPlace, State}
use Rattle.rv_account.specs.state.Moves.{told_again}
use Rattle.rv_machine.specs.Arriving.{Arrives, DiffersInRoom, IsAsBefore, MayArrive}
use Rattle.rv_machine.specs.declared.tables.Holdings.{Holdings}
use Rattle.rv_machine.specs.Machines.{IsConsistent, IsWhole, keys_settled, state_in}
use Rattle.rv_machine.specs.open_places.OpenMap.{count_waiting}

module _ (old new : Holdings) (made : DiffersInRoom old new) where
  pub same_state : state_in new ≡ state_in old
  same_state = λ i. record {
    epoch = (made.clients i).epoch;
    moment = made.moment i;
    length = made.length i;
    open_places = made.table i;
    clients = (made.clients i).clients;
  }

  still_whole : IsWhole old → IsWhole new
  still_whole ready = record {
    consistent = subst IsConsistent (sym same_state) ready.consistent;
    most = ap (λ (t : ClientStates). t.most) made.clients ∙ ready.most;
    room = omega (
      arith,
      ap (λ (all : List OpenPlace). count_waiting all) made.table,
      made.listed,
      made.room,
      ready.room,
    );
  }

  pub may_still : (moment : ℕ) (key : Key) (call : Call) → MayArrive old moment key call
      → MayArrive new moment key call
  may_still moment key call may = record {
    ready = still_whole may.ready;
    later = omega (arith, made.moment, may.later);
    time = may.time;
    fits = may.fits;
    next = subst (λ (s : State). NumberIsNext s key) (sym same_state) may.next;
    space = omega (
      arith,
      ap (λ (all : List OpenPlace). count_waiting all) made.table,
      made.length,
      may.space,
    );
  }

  pub arrives_since : (moment : ℕ) (key : Key) (call : Call) (last : Holdings) (made_entry : Entry)
      → Arrives new last moment key call made_entry → Arrives old last moment key call made_entry
  arrives_since moment key call last made_entry arrives =
      let before = same_state in
      record {
        made_is = subst (λ (s : State). made_entry ≡ entry moment (Arrive key call) (partners_of s
            (Arrive key call))) before arrives.made_is;
        state = subst (λ (s : State). state_in last ≡ (following s moment (Arrive key call)).after) before
            arrives.state;
        settles = subst (λ (s : State). last.settled.items
            ≡ old.settled.items ++ keys_settled (following s moment (Arrive key call)).settles) before
            (arrives.settles
            ∙ ap (λ (l : List Key). l ++ keys_settled (following (state_in new) moment
            (Arrive key call)).settles)
            made.items);
        session = arrives.session;
        known = arrives.known;
        told = subst (λ (s : State). told_again arrives.session.request ≡ (following s moment
            (Arrive key call)).reply) before arrives.told;
      }

  pub as_before_since : (last : Holdings) → IsAsBefore new last → IsAsBefore old last
  as_before_since last before = record {
    state = before.state ∙ same_state;
    settled = before.settled ∙ made.items;
  }
