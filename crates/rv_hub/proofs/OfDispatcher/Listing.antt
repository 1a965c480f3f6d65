-- Each effect lists the connection that it changes.
use Rattle.std.proofs.Common.{inl, inr, ◌≡◌, ◌≤◌, ◌∙◌, ◌++◌, ◌∷◌, [], ℕ, List, None, Option, Some, ap, arith}
use Rattle.std.proofs.Common.{refl, subst, sym}
use Rattle.std.specs.Prelude.{All, Contains}
use Rattle.std.proofs.lemmas.Bool.{cases_eq}
use Rattle.std.proofs.lemmas.List.{append-nil}
use Rattle.rv_text.specs.declared.answer.Answer.{Answer}
use Rattle.rv_text.specs.declared.answer.Answer.TheVariants as answer
use Rattle.rv_server_connections.specs.connection.Traffic.{AnswerByte, Traffic, bytes_of}
use Rattle.rv_server_connections.specs.Connections.{ListsOne, ReleasesOpen, SetsWire}
use Rattle.rv_hub.specs.dispatcher.View.{DispatcherState, DispatcherTerms}
use Rattle.rv_hub.specs.dispatcher.Effects.{AnswersOrWaits, Effect, Does, Asked, Closed, Elapsed, EndedInput}
use Rattle.rv_hub.specs.dispatcher.Effects.{Lacked, Left, Lost, Opened, ReadNothing, Told, TookIn, Wrote}
use Rattle.rv_hub.specs.dispatcher.Runs.{EffectsAreListed, ListsChanged}

-- one connection's bytes were set, and it is listed
set_listed : (s t : DispatcherState) (connection : ℕ) (wire : Option Traffic)
    → SetsWire s.open_wires connection wire t.open_wires → ListsOne s.changed connection t.changed
    → ListsChanged s t
set_listed s t connection wire sets lists = record {
  still = λ n at. (lists n).1 (inl at);
  others = λ n none. elim (cases_eq n connection) [
    | inl same ↦ absurd (none ((lists n).1 (inr same)))
    | inr apart ↦ sets.others n apart
  ];
}

-- neither changed
stays_listed : (s t : DispatcherState) → t.changed ≡ s.changed → t.open_wires ≡ s.open_wires
    → ListsChanged s t
stays_listed s t lists wires = record {
  still = λ n at. subst (λ l. Contains l n) (sym lists) at;
  others = λ n none. ap (λ w. w.wires n) wires;
}

behind_stays : (s m t : DispatcherState) → m.changed ≡ s.changed → m.open_wires ≡ s.open_wires
    → ListsChanged m t
    → ListsChanged s t
behind_stays s m t lists wires rest = record {
  still = λ n at. rest.still n (subst (λ l. Contains l n) (sym lists) at);
  others = λ n none. rest.others n none ∙ ap (λ w. w.wires n) wires;
}

-- ---- entries are written

-- where nothing is let go the bytes stay
front_none : (written : ℕ) (wire : Traffic) (front rest : List AnswerByte)
    → ((first : AnswerByte) (more : List AnswerByte) → wire.behind ≡ first ∷ more → first.rests_on ≤ written
    → ⊥)
    → wire.behind ≡ front ++ rest → All (λ b. b.rests_on ≤ written) front → front ≡ []
front_none written wire [] rest kept parts free = refl
front_none written wire (b ∷ front) rest kept parts free =
    absurd (kept b (front ++ rest) parts (free 0 b (omega arith)))

open_stays : (written : ℕ) (was now : Option Traffic) → ReleasesOpen written was now
    → ((wire : Traffic) (first : AnswerByte) (more : List AnswerByte) → was ≡ Some wire
    → wire.behind ≡ first ∷ more → first.rests_on ≤ written → ⊥)
    → now ≡ was
open_stays written None now none kept = none
open_stays written (Some wire) None releases kept = absurd releases
open_stays written (Some wire) (Some after) releases kept =
    let front = front_none written wire releases.front after.behind (λ first more. kept wire first more refl)
    releases.frees.parts releases.frees.free in
    let behind : after.behind ≡ wire.behind =
    sym (releases.frees.parts ∙ ap (λ l. l ++ after.behind) front) in
    let ready : wire.ready ++ bytes_of releases.front ≡ wire.ready =
    ap (λ l. wire.ready ++ bytes_of l) front ∙ append-nil wire.ready in
    ap Some (releases.goes
    ∙ ap (λ l. record wire { ready = l; behind = after.behind }) ready
    ∙ ap (λ l. record wire { behind = l }) behind)

-- ---- each effect

answer_listed : (terms : DispatcherTerms) (s t : DispatcherState) (connection : ℕ) (body : List ℕ) (said :
    Answer)
    → AnswersOrWaits terms s connection body said t → ListsChanged s t
answer_listed terms s t connection body (answer.Waiting key) does =
    set_listed s t connection (Some does.takes.after) does.takes.sets does.lists
answer_listed terms s t connection body (answer.Replied key reply) does =
    set_listed s t connection (Some does.answers.changes.after) does.answers.changes.sets does.answers.lists
answer_listed terms s t connection body (answer.Welcome epoch client incarnation version) does =
    set_listed s t connection (Some does.answers.changes.after) does.answers.changes.sets does.answers.lists
answer_listed terms s t connection body (answer.Refused refusal) does =
    set_listed s t connection (Some does.answers.changes.after) does.answers.changes.sets does.answers.lists

pub effect_listed : (terms : DispatcherTerms) (effect : Effect) (s t : DispatcherState)
    → Does terms s effect t → ListsChanged s t
effect_listed terms (Elapsed moment entries settled) s t does =
    stays_listed s t (ap (λ (u : DispatcherState). u.changed) does.after)
    (ap (λ (u : DispatcherState). u.open_wires)
    does.after)
effect_listed terms (Opened connection) s t does = set_listed s t connection _ does.opens.sets does.lists
effect_listed terms (TookIn connection bytes) s t does =
    set_listed s t connection (Some does.changes.after) does.changes.sets does.lists
effect_listed terms (EndedInput connection) s t does =
    set_listed s t connection (Some does.changes.after) does.changes.sets does.lists
effect_listed terms (Left connection count) s t does =
    set_listed s t connection (Some does.changes.after) does.changes.sets does.lists
effect_listed terms (Wrote written) s t does = record {
  still = λ n at. (does.lists n).1 (inl at);
  others = λ n none.
      open_stays written (s.open_wires.wires n) (t.open_wires.wires n) (does.releases.each n)
      (λ wire first more there behind free.
      none ((does.lists n).1 (inr (record {
        wire = wire;
        there = there;
        first = first;
        more = more;
        behind = behind;
        free = free;
      }))));
}
effect_listed terms (Asked connection body step said) s t does =
    behind_stays s does.between t (ap (λ (u : DispatcherState). u.changed) does.steps.after)
    (ap (λ (u : DispatcherState). u.open_wires) does.steps.after)
    (answer_listed terms does.between t connection body said does.rest)
effect_listed terms (ReadNothing connection body) s t does =
    set_listed s t connection (Some does.answers.answers.changes.after) does.answers.answers.changes.sets
    does.answers.answers.lists
effect_listed terms (Lacked connection body None) s t does =
    behind_stays s does.between t (ap (λ (u : DispatcherState). u.changed) does.stepped)
    (ap (λ (u : DispatcherState). u.open_wires) does.stepped)
    (set_listed does.between t connection (Some does.answers.answers.changes.after)
    does.answers.answers.changes.sets
    does.answers.answers.lists)
effect_listed terms (Lacked connection body (Some step)) s t does =
    behind_stays s does.between t (ap (λ (u : DispatcherState). u.changed) does.stepped.steps.after)
    (ap (λ (u : DispatcherState). u.open_wires) does.stepped.steps.after)
    (set_listed does.between t connection (Some does.answers.answers.changes.after)
    does.answers.answers.changes.sets
    does.answers.answers.lists)
effect_listed terms (Lost connection body step) s t does =
    behind_stays s does.between t (ap (λ (u : DispatcherState). u.changed) does.stepped.steps.after)
    (ap (λ (u : DispatcherState). u.open_wires) does.stepped.steps.after)
    (set_listed does.between t connection None does.closes.sets does.closes.lists)
effect_listed terms (Told connection key said) s t does =
    set_listed s t connection (Some does.answers.after) does.answers.sets does.lists
effect_listed terms (Closed connection) s t does = set_listed s t connection None does.sets does.lists

pub effects_are_listed : EffectsAreListed
effects_are_listed terms [] s t same =
    stays_listed s t (ap (λ (u : DispatcherState). u.changed) same)
    (ap (λ (u : DispatcherState). u.open_wires) same)
effects_are_listed terms (effect ∷ effects) s t (between, does, more) =
    let first = effect_listed terms effect s between does in
    let rest = effects_are_listed terms effects between t more in
    record {
      still = λ n at. rest.still n (first.still n at);
      others = λ n none. rest.others n none ∙ first.others n (λ at. none (rest.still n at));
    }
