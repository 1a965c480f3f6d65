-- Who waits in a state waits in each in which its client has the same session.
use Rattle.std.proofs.Common.{◌≡◌, ◌∙◌, inl, inr, List, sym}
use Rattle.rv_text.specs.declared.message.Key.{Key}
use Rattle.rv_account.specs.state.After.{Settled}
use Rattle.rv_account.specs.state.State.{State, client_at}
use Rattle.rv_account.specs.state.waiting.Waiting.{IsOver, SettlesJust, WaitsOn}

pub record IsSameOf (x y : State) (key : Key) : Type 0 where
  pub epoch : y.epoch ≡ x.epoch
  pub session : client_at y key.client ≡ client_at x key.client

pub waits_on : (x y : State) (key : Key) → IsSameOf x y key → WaitsOn x key → WaitsOn y key
waits_on x y key same w = record {
  epoch = w.epoch ∙ sym same.epoch;
  session = w.session;
  there = same.session ∙ w.there;
  incarnation = w.incarnation;
  last = w.last;
  place = w.place;
  call = w.call;
  waits = w.waits;
}

pub over_on : (x y : State) (key : Key) → IsSameOf x y key → IsOver x key → IsOver y key
over_on x y key same o = record {
  epoch = o.epoch ∙ sym same.epoch;
  session = o.session;
  there = same.session ∙ o.there;
  over = o.over;
}

-- if the session of no request that waited differs after a move, it settles the same
pub just_on : (s x y : State) (settles : List Settled) → ((key : Key) → WaitsOn s key → IsSameOf x y key)
    → SettlesJust s x settles → SettlesJust s y settles
just_on s x y settles same just = record {
  waits = λ key w. elim (just.waits key w) [
    | inl still ↦ inl (waits_on x y key (same key w) still)
    | inr over ↦ inr (over_on x y key (same key w) over.0, over.1)
  ];
  settled = λ key at.
      let is = just.settled key at in (is.0, over_on x y key (same key is.0) is.1);
}
