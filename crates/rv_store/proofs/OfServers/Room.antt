-- An effect makes one entry at most, within its limits; so there is room after each.
use Rattle.std.proofs.Common.{inl, inr, ◌≡◌, ◌≤◌, ◌⊎◌, ◌∙◌, ◌++◌, ◌∷◌, ℕ, List, [], Some, refl, sym, ap}
use Rattle.std.proofs.Common.{None, Option, subst, arith, length, take, append_assoc, zero, suc, length-take}
use Rattle.std.specs.Prelude.{flat_map}
use Rattle.std.proofs.lemmas.List.{append-nil, length-append, take-append-le, take_all}
use Rattle.std.proofs.lemmas.Bool.{cases_lt}
use Rattle.rv_text.specs.declared.message.Message.{Message}
use Rattle.rv_text.specs.declared.message.Message.TheVariants.{Cancel, Hello, Request}
use Rattle.rv_text.specs.declared.answer.Answer.{Answer}
use Rattle.rv_text.specs.Limits.{FitsMessage}
use Rattle.rv_account.specs.Account.{Account}
use Rattle.rv_account.specs.Limits.{FitsAct, FitsEntry, max_moment}
use Rattle.rv_account.specs.declared.entry.Entry.{Entry}
use Rattle.rv_account.specs.rules.Legal.{before}
use Rattle.rv_account.proofs.OfRules.Fronts.{Legal-before, read_whole}
use Rattle.rv_account.proofs.OfRules.Places.{get-append_cases}
use Rattle.rv_account.specs.state.After.{due_at, state_of}
use Rattle.rv_account.specs.state.Moves.{Move, ticked_at, ticked_if}
use Rattle.rv_account.specs.state.State.{OpenPlace, State}
use Rattle.rv_account.specs.state.resume.Laws.{HadRoom}
use Rattle.rv_account.specs.state.resume.Resuming.{StaysInRoom}
use Rattle.rv_account.proofs.OfState.Resumed.AccountLaws.{accounts_resume}
use Rattle.rv_machine.specs.Needing.{act_of}
use Rattle.rv_machine.proofs.RoomTaken.{StaysOrEnters, move_kinds}
use Rattle.rv_hub.specs.dispatcher.View.{DispatcherState, DispatcherTerms, begun}
use Rattle.rv_hub.specs.dispatcher.Effects.{Effect, Does, MakesStep, Stepped, entries_of_effect}
use Rattle.rv_hub.specs.dispatcher.Effects.{Asked, Closed, Elapsed, EndedInput, Lacked, Left, Lost, Opened}
use Rattle.rv_hub.specs.dispatcher.Effects.{ReadNothing, Told, TookIn, Wrote}
use Rattle.rv_hub.specs.HubRuns.{AddsEntries, IsHubAccount}
use Rattle.rv_hub.specs.Turns.{made_by}
use Rattle.rv_hub.proofs.Accounts.{effect_leads, effects_lead, effects_rise, events_rise, same_account}
use Rattle.rv_store.specs.servers.Room.{EffectsKeepRoom, EventsKeepRoom, FrontsGoOn}

-- ---- the entries of an effect

-- none, or one within its limits
abbrev MakesOneAtMost : List Entry → Type 0
MakesOneAtMost made = (made ≡ []) ⊎ ((e : Entry) × (made ≡ e ∷ []) × FitsEntry e)

made_same : (made other : List Entry) → made ≡ other → MakesOneAtMost other → MakesOneAtMost made
made_same made other same is = subst MakesOneAtMost (sym same) is

act_fits : (m : Message) → FitsMessage m → FitsAct (act_of m)
act_fits (Hello client incarnation version) fits = fits
act_fits (Request key call) fits = fits
act_fits (Cancel key) fits = fits

ticked_one : (s : State) (moment : ℕ) (due : List OpenPlace) → moment ≤ max_moment
    → MakesOneAtMost (ticked_if s moment due).entries
ticked_one s moment [] time = inl refl
ticked_one s moment (first ∷ others) time = inr (_, refl, (time, tt))

step_one : (s : State) (moment : ℕ) (m : Message) (move : Move) → moment ≤ max_moment → FitsMessage m
    → StaysOrEnters s moment m move → MakesOneAtMost move.entries
step_one s moment m move time fits (inl stays) = inl (ap (λ (x : Move). x.entries) stays)
step_one s moment m move time fits (inr enters) =
    inr (_, ap (λ (x : Move). x.entries) enters, (time, act_fits m fits))

makes_one : (terms : DispatcherTerms) (s t : DispatcherState) (step : Stepped) (said : Answer)
    → s.now ≤ max_moment
    → FitsMessage step.message → MakesStep terms s step said t → MakesOneAtMost step.entries
makes_one terms s t step said time fits makes =
    made_same step.entries makes.move.entries makes.entries_are
    (step_one s.book s.now step.message makes.move time fits
    (move_kinds terms.limits s.book s.now step.message makes.move makes.moves))

elapsed_one : (s t : DispatcherState) (moment : ℕ) (effect : Effect) (entries : List Entry)
    → entries ≡ (ticked_at s.book moment).entries → t.now ≡ moment → t.now ≤ max_moment
    → MakesOneAtMost entries
elapsed_one s t moment effect entries same now time =
    made_same entries (ticked_at s.book moment).entries same
    (ticked_one s.book moment (due_at s.book moment) (omega arith))

one_at_most : (terms : DispatcherTerms) (effect : Effect) (s t : DispatcherState) → s.now ≤ max_moment
    → t.now ≤ max_moment
    → Does terms s effect t → MakesOneAtMost (entries_of_effect effect)
one_at_most terms (Elapsed moment entries settled) s t before time does =
    elapsed_one s t moment (Elapsed moment entries settled) entries does.entries_are
    (ap (λ (u : DispatcherState). u.now) does.after) time
one_at_most terms (Opened connection) s t before time does = inl refl
one_at_most terms (TookIn connection bytes) s t before time does = inl refl
one_at_most terms (EndedInput connection) s t before time does = inl refl
one_at_most terms (Left connection count) s t before time does = inl refl
one_at_most terms (Wrote entries) s t before time does = inl refl
one_at_most terms (Asked connection body step said) s t before time does =
    makes_one terms s does.between step said before does.is.2 does.steps
one_at_most terms (ReadNothing connection body) s t before time does = inl refl
one_at_most terms (Lacked connection body None) s t before time does = inl refl
one_at_most terms (Lacked connection body (Some step)) s t before time does =
    makes_one terms s does.between step does.stepped.said before does.stepped.is.2 does.stepped.steps
one_at_most terms (Lost connection body step) s t before time does =
    makes_one terms s does.between step does.stepped.said before does.stepped.is.2 does.stepped.steps
one_at_most terms (Told connection key said) s t before time does = inl refl
one_at_most terms (Closed connection) s t before time does = inl refl

-- ---- one entry more

abbrev of_entries : Account → List Entry → Account
of_entries a es = record { epoch = a.epoch; opened = a.opened; entries = es }

added_is : (a b : Account) (made : List Entry) → AddsEntries a made b → of_entries a (a.entries ++ made) ≡ b
added_is a b made adds = λ i. record {
  epoch = sym adds.epoch i;
  opened = sym adds.opened i;
  entries = sym adds.entries i;
}

more_room : (a : Account) (e : Entry) → HadRoom a
    → StaysInRoom (state_of (of_entries a (a.entries ++ e ∷ [])))
    → (j : ℕ) → StaysInRoom (state_of (of_entries a (take j (a.entries ++ e ∷ []))))
more_room a e had room j = elim (cases_lt (length a.entries) j) [
  | inl past ↦ subst (λ es. StaysInRoom (state_of (of_entries a es)))
      (sym (take_all j (a.entries ++ e ∷ []) (omega (arith, length-append a.entries (e ∷ []))))) room
  | inr front ↦ subst (λ es. StaysInRoom (state_of (of_entries a es)))
      (sym (take-append-le j a.entries (e ∷ []) (omega arith))) (had.room j)
]

had_more : (a : Account) (e : Entry) → HadRoom a → FitsEntry e
    → StaysInRoom (state_of (of_entries a (a.entries ++ e ∷ [])))
    → HadRoom (of_entries a (a.entries ++ e ∷ []))
had_more a e had fits room = record {
  epoch = had.epoch;
  opened = had.opened;
  entries = λ r x there. elim (get-append_cases a.entries e x r there) [
    | inl inside ↦ had.entries r x inside.1
    | inr last ↦ subst FitsEntry last.1 fits
  ];
  room = more_room a e had room;
}

room_by : (a b : Account) (made : List Entry) → AddsEntries a made b → MakesOneAtMost made
    → StaysInRoom (state_of b) → HadRoom a → HadRoom b
room_by a b made adds (inl none) room had =
    subst HadRoom (ap (λ es. of_entries a es) (sym (ap (λ l. a.entries ++ l) none ∙ append-nil a.entries))
    ∙ added_is a b made adds) had
room_by a b made adds (inr (e, one, fits)) room had =
    let same : of_entries a (a.entries ++ e ∷ []) ≡ b =
    ap (λ l. of_entries a (a.entries ++ l)) (sym one) ∙ added_is a b made adds in
    subst HadRoom same (had_more a e had fits (subst (λ (c : Account). StaysInRoom (state_of c)) (sym same)
    room))

-- ---- effects, one after another, and events

hub_room : (a : Account) (s : DispatcherState) → IsHubAccount a s → StaysInRoom (state_of a)
hub_room a s is = subst StaysInRoom (sym is.state) is.resumes.room

pub adds_after : (a m b : Account) (made rest : List Entry) → AddsEntries a made m
    → AddsEntries a (made ++ rest) b → AddsEntries m rest b
adds_after a m b made rest first whole = record {
  epoch = whole.epoch ∙ sym first.epoch;
  opened = whole.opened ∙ sym first.opened;
  entries = whole.entries ∙ sym (append_assoc a.entries made rest) ∙ ap (λ es. es ++ rest)
      (sym first.entries);
}

pub effects_keep_room : EffectsKeepRoom
effects_keep_room terms [] s t a b limits same time is adds had =
    room_by a b [] adds (inl refl) (subst (λ (c : Account). StaysInRoom (state_of c))
    (ap (λ es. of_entries a es) (sym (append-nil a.entries)) ∙ added_is a b [] adds) (hub_room a s is)) had
effects_keep_room terms (effect ∷ effects) s t a b limits (mid, does, more) time is adds had =
    let made = entries_of_effect effect in
    let later = effects_rise terms effects mid t more in
    let rises = effects_rise terms (effect ∷ []) s mid (mid, does, refl) in
    let first = effect_leads terms effect s mid a limits does (omega arith) (omega arith) is in
    let one = one_at_most terms effect s mid (omega arith) (omega arith) does in
    effects_keep_room terms effects mid t first.after b limits more time first.is
    (adds_after a first.after b made (flat_map entries_of_effect effects) first.adds adds)
    (room_by a first.after made first.adds one (hub_room first.after mid first.is) had)

pub events_keep_room : EventsKeepRoom
events_keep_room terms [] s t a b limits same time is adds had =
    effects_keep_room terms [] s t a b limits same time is adds had
events_keep_room terms (effects ∷ events) s t a b limits (mid, does, more) time is adds had =
    let made = flat_map entries_of_effect effects in
    let later = events_rise terms events mid t more in
    let is_begun = same_account a s (begun s) refl refl is in
    let first = effects_lead terms effects (begun s) mid a limits does (omega arith) is_begun in
    events_keep_room terms events mid t first.after b limits more time first.is
    (adds_after a first.after b made (made_by events) first.adds adds)
    (effects_keep_room terms effects (begun s) mid a first.after limits does (omega arith) is_begun first.adds
    had)

-- ---- fronts

shorter_front : (es : List Entry) (count j : ℕ) → j ≤ count → take j (take count es) ≡ take j es
shorter_front [] zero zero h = refl
shorter_front [] zero (suc j) h = refl
shorter_front [] (suc count) zero h = refl
shorter_front [] (suc count) (suc j) h = refl
shorter_front (e ∷ es) zero zero h = refl
shorter_front (e ∷ es) zero (suc j) h = absurd (omega arith)
shorter_front (e ∷ es) (suc count) zero h = refl
shorter_front (e ∷ es) (suc count) (suc j) h = ap (λ l. e ∷ l) (shorter_front es count j (omega arith))

front_room : (a : Account) (count j : ℕ) → HadRoom a → StaysInRoom (state_of (before (before a count) j))
front_room a count j had = elim (cases_lt count j) [
  | inl past ↦ subst (λ es. StaysInRoom (state_of (of_entries a es)))
      (sym (take_all j (take count a.entries) (omega (arith, length-take count a.entries)))) (had.room count)
  | inr front ↦ subst (λ es. StaysInRoom (state_of (of_entries a es)))
      (sym (shorter_front a.entries count j (omega arith))) (had.room j)
]

pub fronts_go_on : FrontsGoOn
fronts_go_on a count legal had =
    let front : HadRoom (before a count) = record {
      epoch = had.epoch;
      opened = had.opened;
      entries = λ r e at. had.entries r e (read_whole (λ (o : Option Entry). o) refl a.entries count r e
          at).1;
      room = λ j. front_room a count j had;
    } in
    record {
      legal = Legal-before a count legal;
      had_room = front;
      resumes = accounts_resume (before a count) (Legal-before a count legal) front;
    }
