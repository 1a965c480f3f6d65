-- What a machine that did an entry again holds, and that it can go on.
use Rattle.std.proofs.Common.{◌≡◌, ◌∙◌, ℕ, List, Option, Some, None, refl, sym, ap, subst, option_map}
use Rattle.rv_text.specs.declared.call.Call.{Call}
use Rattle.rv_text.specs.declared.answer.Reply.{Reply}
use Rattle.rv_text.specs.declared.message.Key.{Key}
use Rattle.rv_account.specs.declared.entry.Act.{Act}
use Rattle.rv_account.specs.declared.entry.Act.TheVariants.{Arrive, Cancel, Hello, Tick}
use Rattle.rv_account.specs.declared.entry.Entry.{Entry}
use Rattle.rv_account.specs.Limits.{FitsEntry}
use Rattle.rv_machine.specs.Machines.{state_in}
use Rattle.rv_machine.specs.Redoing.{IsRedone}
use Rattle.rv_machine.specs.declared.machine.Machine.{Machine}
use Rattle.rv_account.specs.state.resume.Resuming.{CanResume, StaysInRoom}
use Rattle.rv_account.proofs.OfState.Resumed.ResumeLaws.{entries_resume}
use Rattle.rv_session.specs.declared.client.LastRequest.{LastRequest}
use Rattle.rv_account.specs.state.After.{Settled, closed, following, met_by, parked, request_after}
use Rattle.rv_account.specs.state.After.{settled_all}
use Rattle.rv_account.specs.state.After.{state_after, told_own, told_partner, with_last, with_open}
use Rattle.rv_account.specs.state.Follows.{FollowsState, NumberFits, NumberIsNext}
use Rattle.rv_account.specs.state.Moves.{told_again}
use Rattle.rv_account.specs.state.State.{ClientState, OpenPlace, State, client_at}
use Rattle.rv_account.proofs.OfState.ToldClients.{get_own, get_tell_all, told_client}
use Rattle.rv_verify.specs.follow.Outcomes.{HasFollowed, TellsOwn}

-- ---- the own reply

told_after : (place : ℕ) (call : Call) (told : Option Reply)
    → told_again (request_after place call told) ≡ told
told_after place call None = refl
told_after place call (Some reply) = refl

last_told : (s : State) (key : Key) (request : LastRequest) (told : Option Reply) → told_again request ≡ told
    → (o : Option ClientState) (session : ClientState) → o ≡ Some session
    → (x : ClientState) × (client_at (with_last s key request o) key.client ≡ Some x)
    × (told_again x.request ≡ told)
last_told s key request told is None session known = absurd (let no : ⊥ = cc in no)
last_told s key request told is (Some was) session known = (
  record { incarnation = was.incarnation; version = was.version; last = key.number; request = request },
  get_own s.clients key.client _ key.client refl,
  is,
)

module _ (s : State) (moment : ℕ) (key : Key) (call : Call) (next : NumberIsNext s key) where
  own_told : TellsOwn (following s moment (Arrive key call)).after (Arrive key call)
      (following s moment (Arrive key call)).reply
  own_told =
      let met : List OpenPlace = met_by s call in
      let settles : List Settled = settled_all (told_partner s key call) met in
      let opens : State = with_open (closed s met settles) (parked s moment key call met) in
      let own : Option Reply = told_own s key call met in
      last_told opens key (request_after s.length call own) own (told_after s.length call own)
      (client_at opens key.client) (told_client settles key.client next.session)
      (get_tell_all settles s.clients key.client
      ∙ ap (option_map (told_client settles key.client)) next.of_session.there)

tells_own : (s : State) (moment : ℕ) (does : Act) → NumberFits s does
    → TellsOwn (following s moment does).after does (following s moment does).reply
tells_own s moment (Hello client incarnation version) number = tt
tells_own s moment (Arrive key call) number = own_told s moment key call number
tells_own s moment (Cancel key) number = tt
tells_own s moment Tick number = tt

-- ---- the machine

module _ (old new : Machine) (e : Entry) (is : CanResume (state_in old)) (fits : FitsEntry e)
    (follows : FollowsState (state_in old) e) (room : StaysInRoom (state_after (state_in old) e)) where
  pub resumes_done : IsRedone old new e.moment e.act → CanResume (state_in new)
  resumes_done done = subst CanResume (sym done.after) (entries_resume (state_in old) e is fits follows room)

  pub has_followed : IsRedone old new e.moment e.act → HasFollowed old new e
  has_followed done = record {
    follows = record { follows = follows; room = room };
    after = done.after;
    settles = done.settles;
    own = subst (λ (s : State). TellsOwn s e.act (following (state_in old) e.moment e.act).reply)
        (sym done.after) (tells_own (state_in old) e.moment e.act follows.number);
  }
