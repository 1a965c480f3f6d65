-- What a turn leaves as it is: the round, and all other sockets.
use Rattle.std.proofs.Common.{◌≡◌, ◌∙◌, ℕ, Bool, List, None, Option, Some, ap, inl, inr, slice_set}
use Rattle.std.proofs.Common.{false, subst, sym, true}
use Rattle.std.proofs.lemmas.List.{set-get_or}
use Rattle.rv_hub.specs.dispatcher.View.{DispatcherTerms}
use Rattle.rv_engine.specs.Engines.{EngineState}
use Rattle.rv_traffic.specs.declared.links.link.Socket.{Socket}
use Rattle.rv_traffic.specs.links.Table.{ChangesOne, link_at}
use Rattle.rv_traffic.specs.declared.outcomes.Reading.{Reading}
use Rattle.rv_traffic.specs.declared.outcomes.Reading.TheVariants as reading
use Rattle.rv_traffic.specs.declared.outcomes.Writing.{Writing}
use Rattle.rv_traffic.specs.declared.outcomes.Writing.TheVariants as writing
use Rattle.rv_traffic.specs.Calls.{LosesBytes, NoneCame, OffersOne, ReadsNothing, ReadsOne, SendsNothing}
use Rattle.rv_traffic.specs.Calls.{TellsGone, WritesOne}
use Rattle.rv_traffic.specs.Rounds.{DoesIfReady, DoesWhere, LooksAgain, LooksForMore, ReadsTurn, Turn}
use Rattle.rv_traffic.specs.Rounds.{ComesToRest, MakesTurn, WaitsForMore, WritesTurn}
use Rattle.rv_traffic.specs.Views.{TrafficState, WaitLists}
use Rattle.rv_traffic.proofs.Tables.{one_then}

gone_keeps : (journal : Bool) (terms : DispatcherTerms) (s : EngineState) (now n : ℕ) (t : EngineState)
    → TellsGone journal terms s now n t → t.round ≡ s.round
gone_keeps journal terms s now n t (inl told) = told.1.hands.looks.round
gone_keeps journal terms s now n t (inr later) = later.looks.round ∙ later.gathers.looks.round

pub record StaysBut {S : Type 0} (old : TrafficState S) (n : ℕ) (new : TrafficState S) : Type 0 where
  pub round : new.engine.round ≡ old.engine.round
  pub others : ChangesOne old.table n new.table

module _ {S : Type 0} where
  same_one : (old new : List (Option (Socket S))) (n : ℕ) → new ≡ old → ChangesOne old n new
  same_one old new n same =
      subst (λ (t : List (Option (Socket S))). t ≡ slice_set old n (link_at t n)) (sym same)
      (sym (set-get_or old n None))

  stays_then : (old mid new : TrafficState S) (n : ℕ) → StaysBut old n mid → StaysBut mid n new
      → StaysBut old n new
  stays_then old mid new n first second = record {
    round = second.round ∙ first.round;
    others = one_then old.table mid.table new.table n first.others second.others;
  }

  -- ---- a read

  none_keeps : (remaining : S → Option (List ℕ)) (n : ℕ) (old new : List (Option (Socket S)))
      → NoneCame remaining n old new → ChangesOne old n new
  none_keeps remaining n old new (inl (none, same)) = same_one old new n same
  none_keeps remaining n old new (inr changes) = changes.others

  nothing_keeps : (remaining : S → Option (List ℕ)) (room n : ℕ) (old new : TrafficState S)
      → ReadsNothing remaining room n old new → ChangesOne old.table n new.table
  nothing_keeps remaining room n old new is =
      elim is.why [
        | inl refused ↦ same_one old.table new.table n refused.1
        | inr none ↦ none_keeps remaining n old.table new.table none.2
      ]

  loses_keeps : (journal : Bool) (terms : DispatcherTerms) (now n : ℕ) (bytes : List ℕ) (old new :
      TrafficState S)
      → LosesBytes journal terms now n bytes old new → StaysBut old n new
  loses_keeps journal terms now n bytes old new (inl rest) = record {
    round = gone_keeps journal terms rest.between.engine now n new.engine rest.gives_up.told
        ∙ rest.hands.hands.looks.round;
    others = one_then old.table rest.between.table new.table n rest.others rest.gives_up.link.others;
  }
  loses_keeps journal terms now n bytes old new (inr whole) = record {
    round = gone_keeps journal terms old.engine now n new.engine whole.gives_up.told;
    others = whole.gives_up.link.others;
  }

  pub reads_keep : (remaining : S → Option (List ℕ)) (room : ℕ) (journal : Bool) (terms : DispatcherTerms)
      (now n : ℕ) (old : TrafficState S) (came : Reading) (new : TrafficState S)
      → ReadsOne remaining room journal terms now n old came new → StaysBut old n new
  reads_keep remaining room journal terms now n old reading.Nothing new is = record {
    round = ap (λ (e : EngineState). e.round) is.engine;
    others = nothing_keeps remaining room n old new is;
  }
  reads_keep remaining room journal terms now n old reading.Offered new (within, is) = record {
    round = is.hands.hands.looks.round;
    others = is.link.others;
  }
  reads_keep remaining room journal terms now n old reading.Kept new (within, is) = record {
    round = ap (λ (e : EngineState). e.round) is.engine;
    others = is.link.others;
  }
  reads_keep remaining room journal terms now n old reading.Ended new (within, is) = record {
    round = is.hands.hands.looks.round;
    others = is.link.others;
  }
  reads_keep remaining room journal terms now n old reading.Broken new (within, is) = record {
    round = gone_keeps journal terms old.engine now n new.engine is.gives_up.told;
    others = is.gives_up.link.others;
  }
  reads_keep remaining room journal terms now n old reading.NoMemory new (within, is) =
      let lost = loses_keeps journal terms now n is.bytes (record old { table = is.read }) new is.loses in
      record {
        round = lost.round;
        others = one_then old.table is.read new.table n is.came.others lost.others;
      }

  -- ---- a share

  pub offers_keep : (journal : Bool) (terms : DispatcherTerms) (now n : ℕ) (old : TrafficState S) (came :
      Bool)
      (new : TrafficState S) → OffersOne journal terms now n old came new → StaysBut old n new
  offers_keep journal terms now n old true new is = record {
    round = is.hands.hands.looks.round;
    others = is.link.others;
  }
  offers_keep journal terms now n old false new is = record {
    round = ap (λ (e : EngineState). e.round) is.engine;
    others = same_one old.table new.table n is.table;
  }

  -- ---- a write

  unsent_keeps : (contents : S → Option (List ℕ)) (now n : ℕ) (old new : TrafficState S)
      → SendsNothing contents now n old new → ChangesOne old.table n new.table
  unsent_keeps contents now n old new is =
      elim is.why [
        | inl none ↦ same_one old.table new.table n none.1
        | inr changes ↦ changes.so.others
      ]

  pub writes_keep : (contents : S → Option (List ℕ)) (journal : Bool) (terms : DispatcherTerms) (now n : ℕ)
      (old : TrafficState S) (what : Writing) (new : TrafficState S)
      → WritesOne contents journal terms now n old what new → StaysBut old n new
  writes_keep contents journal terms now n old writing.Nothing new is = record {
    round = ap (λ (e : EngineState). e.round) is.engine;
    others = unsent_keeps contents now n old new is;
  }
  writes_keep contents journal terms now n old writing.Sent new is = record {
    round = is.hands.hands.looks.round;
    others = is.link.others;
  }
  writes_keep contents journal terms now n old writing.Closed new is = record {
    round = ap (λ (e : EngineState). e.round) is.engine;
    others = is.link.others;
  }
  writes_keep contents journal terms now n old writing.Gone new (none, same, given, hands) = record {
    round = hands.hands.looks.round;
    others = same_one old.table new.table n same;
  }
  writes_keep contents journal terms now n old writing.Broken new is = record {
    round = gone_keeps journal terms old.engine now n new.engine is.gives_up.told;
    others = is.gives_up.link.others;
  }

  -- ---- a turn

  where_keeps : {A : Type 0} (does : TrafficState S → A → TrafficState S → Type 0) (n : ℕ)
      → ((s : TrafficState S) (a : A) (t : TrafficState S) → does s a t → StaysBut s n t)
      → (old : TrafficState S) (came : Option A) (new : TrafficState S) → DoesWhere does old came new
      → StaysBut old n new
  where_keeps does n keeps old None new is = record {
    round = ap (λ (s : TrafficState S). s.engine.round) is.1;
    others = same_one old.table new.table n (ap (λ (s : TrafficState S). s.table) is.1);
  }
  where_keeps does n keeps old (Some a) new is = keeps old a new is.1

  ready_keeps : {A : Type 0} (does : TrafficState S → A → TrafficState S → Type 0) (n : ℕ)
      → ((s : TrafficState S) (a : A) (t : TrafficState S) → does s a t → StaysBut s n t)
      → (old : TrafficState S) (came : Option A) (new : TrafficState S) → DoesIfReady does old came new
      → StaysBut old n new
  ready_keeps does n keeps old came new is =
      let stays = where_keeps does n keeps (record old { engine = is.ready }) came new is.made in
      record { round = stays.round ∙ is.gathers.looks.round; others = stays.others }

  again_keeps : (old : TrafficState S) (n : ℕ) (new : TrafficState S) → LooksAgain old n new
      → StaysBut old n new
  again_keeps old n new is = record {
    round = is.looks.round;
    others = same_one old.table new.table n is.table;
  }

  more_keeps : (what : Option Writing) (old : TrafficState S) (n : ℕ) (new : TrafficState S)
      → LooksForMore what old n new → StaysBut old n new
  more_keeps None old n new is = again_keeps old n new is
  more_keeps (Some what) old n new (inl (busy, is)) = again_keeps old n new is
  more_keeps (Some what) old n new (inr (rests, same)) = record {
    round = ap (λ (s : TrafficState S). s.engine.round) same;
    others = same_one old.table new.table n (ap (λ (s : TrafficState S). s.table) same);
  }

  waits_keep : (old : TrafficState S) (n : ℕ) (new : TrafficState S) → WaitsForMore old n new
      → StaysBut old n new
  waits_keep old n new (inl (has, is)) = record {
    round = ap (λ (e : EngineState). e.round) is.engine;
    others = same_one old.table new.table n is.table;
  }
  waits_keep old n new (inr (not, same)) = record {
    round = ap (λ (s : TrafficState S). s.engine.round) same;
    others = same_one old.table new.table n (ap (λ (s : TrafficState S). s.table) same);
  }

  settles_keep : (old : TrafficState S) (n : ℕ) (new : TrafficState S) → ComesToRest old n new
      → StaysBut old n new
  settles_keep old n new is =
      stays_then old is.between new n (waits_keep old n is.between is.waits)
      (again_keeps is.between n new is.again)

  pub takes_keep : {A : Type 0} (does : ℕ → TrafficState S → A → TrafficState S → Type 0)
      → ((n : ℕ) (s : TrafficState S) (a : A) (t : TrafficState S) → does n s a t → StaysBut s n t)
      → (old : TrafficState S) (turn : Turn A) (new : TrafficState S) → MakesTurn does old turn new
      → StaysBut old turn.number new
  takes_keep does keeps old turn new is =
      stays_then old is.after new turn.number
      (ready_keeps (does turn.number) turn.number (keeps turn.number) old turn.came is.after is.made)
      (settles_keep is.after turn.number new is.settles)

  pub read_turn_keeps : (remaining : S → Option (List ℕ)) (room : ℕ) (journal : Bool) (terms :
      DispatcherTerms)
      (now : ℕ) (old : TrafficState S) (turn : Turn Reading) (new : TrafficState S)
      → ReadsTurn remaining room journal terms now old turn new → StaysBut old turn.number new
  read_turn_keeps remaining room journal terms now old turn new is =
      takes_keep (λ (n : ℕ). ReadsOne remaining room journal terms now n)
      (λ n. reads_keep remaining room journal terms now n) old turn new is

  pub write_turn_keeps : (contents : S → Option (List ℕ)) (journal : Bool) (terms : DispatcherTerms) (now : ℕ)
      (old : TrafficState S) (turn : Turn Writing) (new : TrafficState S)
      → WritesTurn contents journal terms now old turn new → StaysBut old turn.number new
  write_turn_keeps contents journal terms now old turn new is =
      stays_then old is.after new turn.number
      (ready_keeps (WritesOne contents journal terms now turn.number) turn.number
      (writes_keep contents journal terms now turn.number) old turn.came is.after is.writes)
      (stays_then is.after is.between new turn.number (waits_keep is.after turn.number is.between is.waits)
      (more_keeps turn.came is.between turn.number new is.again))

-- ---- shares

-- who waits changes by one that waits for the next round alone: whose share is due stays
pub settled_due : {S : Type 0} (old : TrafficState S) (n : ℕ) (new : TrafficState S) → ComesToRest old n new
    → new.waits.due ≡ old.waits.due
settled_due {S} old n new is =
    ap (λ (w : WaitLists). w.due) is.again.waits ∙ at is.waits
  where
    at : WaitsForMore old n is.between → is.between.waits.due ≡ old.waits.due
    at (inl (has, to_wait)) = to_wait.waits.due
    at (inr (not, same)) = ap (λ (s : TrafficState S). s.waits.due) same

pub taken_due : {S A : Type 0} (does : ℕ → TrafficState S → A → TrafficState S → Type 0)
    (old : TrafficState S) (turn : Turn A) (new : TrafficState S) → MakesTurn does old turn new
    → new.waits.due ≡ old.waits.due
taken_due does old turn new is =
    settled_due is.after turn.number new is.settles ∙ ap (λ (w : WaitLists). w.due) is.made.waits
