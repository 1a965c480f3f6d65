-- Turns of a round, as far as they are taken.
use Rattle.std.proofs.Common.{◌≡◌, ◌≢◌, ◌<◌, ◌∙◌, ◌++◌, ℕ, List, [], ◌∷◌, None, Option, ap, append-nil}
use Rattle.std.proofs.Common.{append_assoc, arith, length, length-append, map, subst, suc, sym, zero}
use Rattle.std.proofs.lemmas.List.{get_or-set_other, length-map}
use Rattle.std.specs.Prelude.{AllPairs, Contains}
use Rattle.rv_engine.specs.Engines.{EngineState}
use Rattle.rv_traffic.specs.declared.links.link.Socket.{Socket}
use Rattle.rv_traffic.specs.links.Table.{ChangesOne, link_at}
use Rattle.rv_traffic.specs.Rounds.{GoesRound, TakesTurns, Turn, round_begun}
use Rattle.rv_traffic.specs.Views.{TrafficState}
use Rattle.rv_traffic.proofs.Staying.{StaysBut}

pub record SoFar {S A F : Type 0} (takes : TrafficState S → Turn A → TrafficState S → Type 0)
    (faults_of : List (Turn A) → F) (old s : TrafficState S) (faults : F) : Type 0
  where
    pub turns : List (Turn A)
    pub taken : TakesTurns takes (round_begun old) turns s
    pub parts : old.engine.looks ≡ s.engine.round ++ map (λ turn. turn.number) turns
    pub told : faults ≡ faults_of turns

parts_more : (looks whole round numbers : List ℕ) (n : ℕ) → looks ≡ whole ++ numbers
    → whole ≡ round ++ n ∷ [] → looks ≡ round ++ n ∷ numbers
parts_more looks whole round numbers n parts last =
    parts ∙ ap (λ (l : List ℕ). l ++ numbers) last ∙ append_assoc round (n ∷ []) numbers

-- a round is shorter by the one that was taken
pub shorter : (whole round new : List ℕ) (n : ℕ) → whole ≡ round ++ n ∷ [] → new ≡ round
    → length new < length whole
shorter whole round new n last same =
    let sum = ap length last ∙ length-append round (n ∷ []) in
    let equal = ap length same in
    omega (arith, sum, equal)

-- nothing changes where none is left of the round
pub over_same : (old new : EngineState) → old.round ≡ [] → new.round ≡ []
    → new ≡ record old { round = new.round } → old ≡ new
over_same old new none over rest =
    ap (λ (l : List ℕ). record old { round = l }) (none ∙ sym over) ∙ sym rest

module _ {S : Type 0} where
  other_stays : (old new : List (Option (Socket S))) (k n : ℕ) → ChangesOne old k new → n ≢ k
      → link_at new n ≡ link_at old n
  other_stays old new k n changes differ =
      ap (λ (t : List (Option (Socket S))). link_at t n) changes
      ∙ get_or-set_other old k n (link_at new k) None differ

module _ {S A : Type 0} (takes : TrafficState S → Turn A → TrafficState S → Type 0) where
  abbrev Keeps : Type 0
  Keeps = (s : TrafficState S) (turn : Turn A) (t : TrafficState S) → takes s turn t
      → StaysBut s turn.number t

  others_stay : Keeps → (turns : List (Turn A)) (s t : TrafficState S) → TakesTurns takes s turns t
      → (n : ℕ) → ¬ Contains (map (λ turn. turn.number) turns) n → link_at t.table n ≡ link_at s.table n
  others_stay keeps [] s t same n out = ap (λ (x : TrafficState S). link_at x.table n) same
  others_stay keeps (turn ∷ turns) s t (between, earlier, next) n out =
      other_stays between.table t.table turn.number n (keeps _ turn t next.taken).others
      (λ same. out (zero, omega arith, sym same))
      ∙ others_stay keeps turns s between earlier n
      (λ among. out (suc among.0, (let within = among.1 in omega arith), among.2))

module _ {S A F : Type 0} (takes : TrafficState S → Turn A → TrafficState S → Type 0) where
  pub none_taken : (faults_of : List (Turn A) → F) (old s : TrafficState S) (faults : F) → s ≡ round_begun old
      → faults ≡ faults_of [] → SoFar takes faults_of old s faults
  none_taken faults_of old s faults begun none = record {
    turns = [];
    taken = begun;
    parts = sym (append-nil old.engine.looks)
        ∙ ap (λ (t : TrafficState S). t.engine.round ++ []) (sym begun);
    told = none;
  }

  -- the next of the round has its turn
  pub one_taken : (faults_of : List (Turn A) → F) → Keeps takes
      → (old s t : TrafficState S) (before faults : F)
      (popped : EngineState) (turn : Turn A) → s.engine.round ≡ popped.round ++ turn.number ∷ []
      → popped ≡ record s.engine { round = popped.round }
      → takes (record s { engine = popped }) turn t
      → ((turns : List (Turn A)) → before ≡ faults_of turns → faults ≡ faults_of (turn ∷ turns))
      → SoFar takes faults_of old s before → SoFar takes faults_of old t faults
  one_taken faults_of keeps old s t before faults popped turn last rest has_turn counts so_far =
      let from : takes (record s { engine = record s.engine { round = popped.round } }) turn t =
      subst (λ (e : EngineState). takes (record s { engine = e }) turn t) rest has_turn in
      let stays = keeps _ turn t from in
      record {
        turns = turn ∷ so_far.turns;
        taken = (s, so_far.taken, record { round = popped.round; last = last; taken = from });
        parts = parts_more old.engine.looks s.engine.round t.engine.round
            (map (λ turn. turn.number) so_far.turns) turn.number so_far.parts
            (last ∙ ap (λ (l : List ℕ). l ++ turn.number ∷ []) (sym stays.round));
        told = counts so_far.turns so_far.told;
      }

  -- there is always room for one fault more
  pub few_taken : (faults_of : List (Turn A) → F) (old s : TrafficState S) (faults : F) (round : List ℕ)
      (n : ℕ) → s.engine.round ≡ round ++ n ∷ [] → (so_far : SoFar takes faults_of old s faults)
      → length so_far.turns < length old.engine.looks
  few_taken faults_of old s faults round n last so_far =
      let numbers = map (λ (turn : Turn A). turn.number) so_far.turns in
      let sum = ap length so_far.parts ∙ length-append s.engine.round numbers in
      let more = ap length last ∙ length-append round (n ∷ []) in
      omega (arith, sum, more, length-map so_far.turns (λ (turn : Turn A). turn.number))

  -- no number is left of the round
  pub all_taken : (faults_of : List (Turn A) → F) → Keeps takes → (old s : TrafficState S) (faults : F)
      → AllPairs (λ one other. one ≢ other) old.engine.looks → s.engine.round ≡ []
      → (so_far : SoFar takes faults_of old s faults)
      → GoesRound takes old so_far.turns s
  all_taken faults_of keeps old s faults once none so_far =
      let numbers = map (λ (turn : Turn A). turn.number) so_far.turns in
      let are : numbers ≡ old.engine.looks =
      sym (so_far.parts ∙ ap (λ (l : List ℕ). l ++ numbers) none) in
      record {
        numbers = are;
        once = once;
        taken = so_far.taken;
        over = none;
        others = λ n out. others_stay takes keeps so_far.turns (round_begun old) s so_far.taken n
            (λ among. out (subst (λ (l : List ℕ). Contains l n) are among));
      }
