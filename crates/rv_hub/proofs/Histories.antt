-- Each effect keeps the past of each connection.
use Rattle.std.proofs.Common.{inl, inr, ◌≡◌, ◌≢◌, ◌≤◌, ◌+◌, ◌∙◌, ◌++◌, ◌∷◌, ℕ, List, [], None}
use Rattle.std.proofs.Common.{Option, Some, refl, sym, ap, subst, arith}
use Rattle.std.proofs.Common.{cond, false, length, nat_eq, take, true}
use Rattle.std.specs.Prelude.{flat_map}
use Rattle.std.proofs.lemmas.Bool.{cases_eq}
use Rattle.std.proofs.lemmas.Bool.Decides.{nat_tests}
use Rattle.std.proofs.lemmas.List.{length-append, length-take-le, take_all}
use Rattle.std.proofs.lemmas.Option.{none-some}
use Rattle.rv_text.specs.declared.answer.Answer.{Answer}
use Rattle.rv_text.specs.declared.answer.Answer.TheVariants as answer
use Rattle.rv_text.specs.declared.answer.Refusal.TheVariants.{BadText, NoMemory}
use Rattle.rv_text.specs.Bodies.{answer_text}
use Rattle.rv_server_connections.specs.connection.Traffic.{Traffic}
use Rattle.rv_server_connections.specs.connection.Steps.{AnswersBy, TakesIn, fresh_traffic, input_ended}
use Rattle.rv_server_connections.specs.connection.Steps.{left_by, taken}
use Rattle.rv_server_connections.specs.connection.History.{IsHistory}
use Rattle.rv_server_connections.proofs.OfConnection.Kept.{keeps_answer, keeps_end, keeps_frame}
use Rattle.rv_server_connections.proofs.OfConnection.Kept.{keeps_leaving, keeps_piece, keeps_release, opens}
use Rattle.rv_server_connections.specs.Connections.{ChangesWire, HasWire, ReleasesOpen, SetsWire}
use Rattle.rv_hub.specs.dispatcher.View.{DispatcherState, DispatcherTerms}
use Rattle.rv_hub.specs.dispatcher.Effects.{AnswersNow, AnswersOrWaits, Effect, Does, IsDueWith}
use Rattle.rv_hub.specs.dispatcher.Effects.{entries_of_effect, rests_on}
use Rattle.rv_hub.specs.dispatcher.Effects.{Asked, Closed, Elapsed, EndedInput, Lacked, Left, Lost, Opened}
use Rattle.rv_hub.specs.dispatcher.Effects.{ReadNothing, Told, TookIn, Wrote}
use Rattle.rv_hub.proofs.OfDispatcher.Answering.{some_is}
use Rattle.rv_hub.specs.Pasts.{EffectsKeepPasts, HasPast, IsPast, Past, history_of, is_effect_of, no_past}
use Rattle.rv_hub.specs.Pasts.{past_after, past_by, with_answer}
use Rattle.rv_hub.specs.Pasts.{with_frame, with_said}
use Rattle.rv_hub.proofs.Longer.{effect_counts}

-- ---- a connection whose bytes stay, and one that is closed

past_same : (s t : DispatcherState) (n : ℕ) (past : Past) → t.open_wires.wires n ≡ s.open_wires.wires n
    → t.open_wires.written ≡ s.open_wires.written → HasPast s n past → HasPast t n past
past_same s t n past same written has wire there =
    subst (λ w. IsPast w past wire) (sym written) (has wire (sym same ∙ there))

past_closed : (t : DispatcherState) (n : ℕ) (past : Past) → t.open_wires.wires n ≡ None → HasPast t n past
past_closed t n past gone wire there = absurd (none-some wire (sym gone ∙ there))

-- by whether the effect is its own
pub by_own : (P : Past → Type 0) (n m : ℕ) (own other : Past) → (n ≡ m → P own) → (n ≢ m → P other)
    → P (cond (nat_eq n m) own other)
by_own P n m own other is isnt =
    elim (cases_eq n m) [
      | inl same ↦
          (let test : nat_eq n m ≡ true = grind (arith, nat_tests) in
          subst (λ b. P (cond b own other)) (sym test) (is same))
      | inr apart ↦
          (let test : nat_eq n m ≡ false = grind (arith, nat_tests) in
          subst (λ b. P (cond b own other)) (sym test) (isnt apart))
    ]

own_or_not : (t : DispatcherState) (n m : ℕ) (own other : Past) → (n ≡ m → HasPast t n own)
    → (n ≢ m → HasPast t n other)
    → HasPast t n (cond (nat_eq n m) own other)
own_or_not t n m own other is isnt = by_own (HasPast t n) n m own other is isnt

-- ---- one whose bytes change

-- such a change keeps a past, with this in place of it
abbrev Keeps : ℕ → ℕ → (Traffic → Traffic → Type 0) → Past → Past → Type 0
Keeps before written so past now = (wire after : Traffic) → so wire after → IsPast before past wire
    → IsPast written now after

changed_past : (s t : DispatcherState) (n m : ℕ) (so : Traffic → Traffic → Type 0) (past now : Past)
    → ChangesWire s.open_wires m so t.open_wires → n ≡ m
    → Keeps s.open_wires.written s.open_wires.written so past now → HasPast s n past → HasPast t n now
changed_past s t n m so past now changes same keeps has wire there =
    let is : changes.after ≡ wire =
    some_is changes.after wire (sym changes.sets.own ∙ ap t.open_wires.wires (sym same) ∙ there) in
    let before = has changes.wire (ap s.open_wires.wires same ∙ changes.there) in
    subst (λ (w : Traffic). IsPast t.open_wires.written now w) is
    (subst (λ w. IsPast w now changes.after) (sym changes.sets.written)
    (keeps changes.wire changes.after changes.changes before))

others_past : (s t : DispatcherState) (n m : ℕ) (so : Traffic → Traffic → Type 0) (past : Past)
    → ChangesWire s.open_wires m so t.open_wires → n ≢ m → HasPast s n past → HasPast t n past
others_past s t n m so past changes apart has =
    past_same s t n past (changes.sets.others n apart) changes.sets.written has

changes_past : (s t : DispatcherState) (n m : ℕ) (so : Traffic → Traffic → Type 0) (past now : Past)
    → ChangesWire s.open_wires m so t.open_wires
    → Keeps s.open_wires.written s.open_wires.written so past now → HasPast s n past
    → HasPast t n (cond (nat_eq n m) now past)
changes_past s t n m so past now changes keeps has =
    own_or_not t n m now past (λ same. changed_past s t n m so past now changes same keeps has)
    (λ apart. others_past s t n m so past changes apart has)

-- ---- each kind of change

piece_keeps : (written : ℕ) (bytes : List ℕ) (past : Past)
    → Keeps written written (λ wire after. TakesIn wire bytes (length bytes) after) past
    (record past { came = past.came ++ bytes })
piece_keeps written bytes past wire after takes has =
    let all : take (length bytes) bytes ≡ bytes = take_all (length bytes) bytes (omega arith) in
    let kept = keeps_piece written (length bytes) (history_of past has.left) wire after bytes has.history
    takes in
    record {
      left = has.left;
      sent = has.sent;
      history = subst (λ l. IsHistory written (history_of (record past { came = past.came ++ l }) has.left)
          after) all
          kept;
    }

end_keeps : (written : ℕ) (past : Past)
    → Keeps written written (λ wire after. (wire.ended ≡ false) × (after ≡ input_ended wire)) past past
end_keeps written past wire after (open_input, is) has = record {
  left = has.left;
  sent = has.sent;
  history = subst (λ (t : Traffic). IsHistory written (history_of past has.left) t) (sym is)
      (keeps_end written (history_of past has.left) wire has.history);
}

leaving_keeps : (written count : ℕ) (past : Past)
    → Keeps written written (λ wire after. (count ≤ length wire.ready) × (after ≡ left_by wire count)) past
    (record past { sent = past.sent + count })
leaving_keeps written count past wire after (within, is) has = record {
  left = has.left ++ take count wire.ready;
  sent = length-append has.left (take count wire.ready)
      ∙ ap (λ n. length has.left + n) (length-take-le count wire.ready within) ∙ ap (λ n. n + count) has.sent;
  history = subst (λ (t : Traffic). IsHistory written (history_of past (has.left ++ take count wire.ready)) t)
      (sym is)
      (keeps_leaving written count (history_of past has.left) wire has.history within);
}

frame_keeps : (written : ℕ) (body : List ℕ) (past : Past) (wire : Traffic) → IsDueWith wire body
    → IsPast written past wire → IsPast written (with_frame past body) (taken wire)
frame_keeps written body past wire due has = record {
  left = has.left;
  sent = has.sent;
  history = subst (λ b. IsHistory written (history_of (with_frame past b) has.left) (taken wire)) due.body_is
      (keeps_frame written (history_of past has.left) wire has.history due.due);
}

answer_keeps : (written entries : ℕ) (said : Answer) (past : Past) (wire after : Traffic) → wire.owes ≡ true
    → AnswersBy written wire entries (answer_text said) after → IsPast written past wire
    → IsPast written (with_answer past entries said) after
answer_keeps written entries said past wire after owes answers has = record {
  left = has.left;
  sent = has.sent;
  history = keeps_answer written entries (history_of past has.left) wire after (answer_text said) has.history
      owes answers;
}

-- ---- a frame

at_due : (s : DispatcherState) (m : ℕ) (body : List ℕ) (wire : Traffic)
    → HasWire s.open_wires m (λ wire. IsDueWith wire body) → s.open_wires.wires m ≡ Some wire
    → IsDueWith wire body
at_due s m body wire frame there =
    subst (λ (w : Traffic). IsDueWith w body) (some_is frame.wire wire (sym frame.there ∙ there)) frame.so

now_past : (s t : DispatcherState) (n m : ℕ) (body : List ℕ) (entries : ℕ) (said : Answer) (past : Past)
    → AnswersNow s m body entries (answer_text said) t → HasPast s n past
    → HasPast t n (cond (nat_eq n m) (with_answer (with_frame past body) entries said) past)
now_past s t n m body entries said past now has =
    let changes = now.answers.changes in
    let due = at_due s m body changes.wire now.frame changes.there in
    let so : Traffic → Traffic → Type 0 = λ wire after. (wire ≡ changes.wire)
    × AnswersBy s.open_wires.written (taken wire) entries (answer_text said) after in
    changes_past s t n m so past (with_answer (with_frame past body) entries said)
    (record {
      wire = changes.wire;
      after = changes.after;
      there = changes.there;
      changes = (refl, changes.changes);
      sets = changes.sets;
    })
    (λ wire after both before.
    answer_keeps s.open_wires.written entries said (with_frame past body) (taken wire) after refl both.1
    (frame_keeps s.open_wires.written body past wire (subst (λ (w : Traffic). IsDueWith w body) (sym both.0)
    due) before))
    has

waits_past : (s t : DispatcherState) (n m : ℕ) (body : List ℕ) (past : Past)
    → HasWire s.open_wires m (λ wire. IsDueWith wire body)
    → ChangesWire s.open_wires m (λ wire after. after ≡ taken wire) t.open_wires → HasPast s n past
    → HasPast t n (cond (nat_eq n m) (with_frame past body) past)
waits_past s t n m body past frame changes has =
    let due = at_due s m body changes.wire frame changes.there in
    let so : Traffic → Traffic → Type 0 = λ wire after. (wire ≡ changes.wire) × (after ≡ taken wire) in
    changes_past s t n m so past (with_frame past body)
    (record {
      wire = changes.wire;
      after = changes.after;
      there = changes.there;
      changes = (refl, changes.changes);
      sets = changes.sets;
    })
    (λ wire after both before.
    subst (λ (w : Traffic). IsPast s.open_wires.written (with_frame past body) w) (sym both.1)
    (frame_keeps s.open_wires.written body past wire (subst (λ (w : Traffic). IsDueWith w body) (sym both.0)
    due) before))
    has

said_past : (terms : DispatcherTerms) (s t : DispatcherState) (n m : ℕ) (body : List ℕ) (said : Answer)
    (past : Past)
    → AnswersOrWaits terms s m body said t → HasPast s n past
    → HasPast t n (cond (nat_eq n m) (with_said (with_frame past body) s.book.length said) past)
said_past terms s t n m body (answer.Waiting key) past does has = waits_past s t n m body past does.frame
    does.takes has
said_past terms s t n m body (answer.Replied key reply) past does has =
    now_past s t n m body s.book.length (answer.Replied key reply) past does has
said_past terms s t n m body (answer.Welcome epoch client incarnation version) past does has =
    now_past s t n m body s.book.length (answer.Welcome epoch client incarnation version) past does has
said_past terms s t n m body (answer.Refused refusal) past does has =
    now_past s t n m body (rests_on (answer.Refused refusal) s.book.length) (answer.Refused refusal) past does
    has

-- ---- one is opened, or closed

opened_past : (s t : DispatcherState) (n m : ℕ) (past : Past)
    → SetsWire s.open_wires m (Some fresh_traffic) t.open_wires
    → HasPast s n past → HasPast t n (cond (nat_eq n m) no_past past)
opened_past s t n m past sets has =
    own_or_not t n m no_past past
    (λ same wire there.
    let is : fresh_traffic ≡ wire = some_is fresh_traffic wire (sym sets.own ∙ ap t.open_wires.wires
    (sym same) ∙ there) in
    subst (λ (w : Traffic). IsPast t.open_wires.written no_past w) is
    (record { left = []; sent = refl; history = opens t.open_wires.written }))
    (λ apart. past_same s t n past (sets.others n apart) sets.written has)

shut_past : (s t : DispatcherState) (n m : ℕ) (past : Past) → SetsWire s.open_wires m None t.open_wires
    → HasPast s n past
    → HasPast t n (cond (nat_eq n m) past past)
shut_past s t n m past sets has =
    own_or_not t n m past past
    (λ same. past_closed t n past (ap t.open_wires.wires same ∙ sets.own))
    (λ apart. past_same s t n past (sets.others n apart) sets.written has)

-- ---- entries are written

released_past : (before written : ℕ) (past : Past) (o after : Option Traffic) → before ≤ written
    → ReleasesOpen written o after → ((wire : Traffic) → o ≡ Some wire → IsPast before past wire)
    → (wire : Traffic) → after ≡ Some wire → IsPast written past wire
released_past before written past None after rises none has wire there =
    absurd (none-some wire (sym none ∙ there))
released_past before written past (Some old) None rises releases has wire there = absurd releases
released_past before written past (Some old) (Some after) rises releases has wire there =
    let was = has old refl in
    subst (λ (w : Traffic). IsPast written past w) (some_is after wire there) (record {
      left = was.left;
      sent = was.sent;
      history = keeps_release before written (history_of past was.left) old after rises was.history releases;
    })

-- ---- each effect

-- the past after an effect, where the account has so many entries
abbrev Behind : DispatcherState → ℕ → Past → ℕ → Effect → Type 0
Behind t n past entries effect = HasPast t n (cond (is_effect_of n effect) (past_by past entries effect) past)

at_length : (t : DispatcherState) (n : ℕ) (past : Past) (effect : Effect) (a b : ℕ) → a ≡ b
    → Behind t n past a effect
    → Behind t n past b effect
at_length t n past effect a b same behind = subst (λ k. Behind t n past k effect) same behind

stepped_same : (s m : DispatcherState) (n : ℕ) (past : Past) → m.open_wires ≡ s.open_wires → HasPast s n past
    → HasPast m n past
stepped_same s m n past same has =
    past_same s m n past (ap (λ w. w.wires n) same) (ap (λ w. w.written) same) has

said_book : (terms : DispatcherTerms) (s t : DispatcherState) (m : ℕ) (body : List ℕ) (said : Answer)
    → AnswersOrWaits terms s m body said t → t.book.length ≡ s.book.length
said_book terms s t m body (answer.Waiting key) does = ap (λ (u : DispatcherState). u.book.length) does.rest
said_book terms s t m body (answer.Replied key reply) does =
    ap (λ (u : DispatcherState). u.book.length) does.answers.rest
said_book terms s t m body (answer.Welcome epoch client incarnation version) does =
    ap (λ (u : DispatcherState). u.book.length) does.answers.rest
said_book terms s t m body (answer.Refused refusal) does = ap (λ (u : DispatcherState). u.book.length)
    does.answers.rest

effect_past : (terms : DispatcherTerms) (effect : Effect) (s t : DispatcherState) → Does terms s effect t
    → (n : ℕ) (past : Past)
    → HasPast s n past → Behind t n past t.book.length effect
effect_past terms (Elapsed moment entries settled) s t does n past has =
    stepped_same s t n past (ap (λ (u : DispatcherState). u.open_wires) does.after) has
effect_past terms (Opened m) s t does n past has = opened_past s t n m past does.opens.sets has
effect_past terms (TookIn m bytes) s t does n past has =
    changes_past s t n m _ past (record past { came = past.came ++ bytes }) does.changes
    (piece_keeps s.open_wires.written bytes past) has
effect_past terms (EndedInput m) s t does n past has =
    changes_past s t n m _ past past does.changes (end_keeps s.open_wires.written past) has
effect_past terms (Left m count) s t does n past has =
    changes_past s t n m _ past (record past { sent = past.sent + count }) does.changes
    (leaving_keeps s.open_wires.written count past) has
effect_past terms (Wrote entries) s t does n past has =
    λ wire there. subst (λ w. IsPast w past wire) (sym does.releases.written_is)
    (released_past s.open_wires.written entries past (s.open_wires.wires n) (t.open_wires.wires n) does.rises
    (does.releases.each n) has wire there)
effect_past terms (Asked m body step said) s t does n past has =
    let mid = does.between in
    let same : mid.book.length ≡ t.book.length = sym (said_book terms mid t m body said does.rest) in
    at_length t n past (Asked m body step said) mid.book.length t.book.length same
    (said_past terms mid t n m body said past does.rest
    (stepped_same s mid n past (ap (λ (u : DispatcherState). u.open_wires) does.steps.after) has))
effect_past terms (ReadNothing m body) s t does n past has =
    now_past s t n m body 0 (answer.Refused BadText) past does.answers has
effect_past terms (Lacked m body None) s t does n past has =
    now_past does.between t n m body 0 (answer.Refused NoMemory) past does.answers
    (stepped_same s does.between n past (ap (λ (u : DispatcherState). u.open_wires) does.stepped) has)
effect_past terms (Lacked m body (Some step)) s t does n past has =
    now_past does.between t n m body 0 (answer.Refused NoMemory) past does.answers
    (stepped_same s does.between n past (ap (λ (u : DispatcherState). u.open_wires) does.stepped.steps.after)
    has)
effect_past terms (Lost m body step) s t does n past has =
    shut_past does.between t n m past does.closes.sets
    (stepped_same s does.between n past (ap (λ (u : DispatcherState). u.open_wires) does.stepped.steps.after)
    has)
effect_past terms (Told m key said) s t does n past has =
    let changes = does.answers in
    let owes = ap (λ (w : Traffic). w.owes) (some_is changes.wire does.owed.wire (sym changes.there
    ∙ does.owed.there))
    ∙ does.owed.so in
    let so : Traffic → Traffic → Type 0 = λ wire after. (wire.owes ≡ true)
    × AnswersBy s.open_wires.written wire s.book.length (answer_text said) after in
    let same : s.book.length ≡ t.book.length = sym (ap (λ (u : DispatcherState). u.book.length) does.rest) in
    at_length t n past (Told m key said) s.book.length t.book.length same
    (changes_past s t n m so past (with_answer past s.book.length said)
    (record {
      wire = changes.wire;
      after = changes.after;
      there = changes.there;
      changes = (owes, changes.changes);
      sets = changes.sets;
    })
    (λ wire after both before.
    answer_keeps s.open_wires.written s.book.length said past wire after both.0 both.1 before) has)
effect_past terms (Closed m) s t does n past has = shut_past s t n m past does.sets has

pub pasts_kept : EffectsKeepPasts
pasts_kept terms [] s t same n past has = subst (λ (u : DispatcherState). HasPast u n past) (sym same) has
pasts_kept terms (effect ∷ effects) s t (mid, does, more) n past has =
    let counted : mid.book.length ≡ s.book.length + length (entries_of_effect effect) = effect_counts terms
    effect s
    mid does in
    let entries = s.book.length + length (entries_of_effect effect) in
    let one = effect_past terms effect s mid does n past has in
    let there_now : HasPast mid n (cond (is_effect_of n effect) (past_by past entries effect) past) =
    subst (λ k. Behind mid n past k effect) counted one in
    subst (λ k. HasPast t n (past_after n (cond (is_effect_of n effect) (past_by past entries effect) past) k
    effects)) counted
    (pasts_kept terms effects mid t more n (cond (is_effect_of n effect) (past_by past entries effect) past)
    there_now)

-- a past through two lists of effects, one after the other
pub past_on : (n : ℕ) (past : Past) (entries : ℕ) (xs ys : List Effect)
    → past_after n past entries (xs ++ ys)
    ≡ past_after n (past_after n past entries xs) (entries + length (flat_map entries_of_effect xs)) ys
past_on n past entries [] ys =
    let same : entries ≡ entries + 0 = omega arith in
    ap (λ k. past_after n past k ys) same
past_on n past entries (effect ∷ xs) ys =
    let here = entries + length (entries_of_effect effect) in
    let now = cond (is_effect_of n effect) (past_by past here effect) past in
    let long = length-append (entries_of_effect effect) (flat_map entries_of_effect xs) in
    let same : here + length (flat_map entries_of_effect xs) ≡ entries + length (flat_map entries_of_effect
    (effect ∷ xs)) =
    omega arith in
    past_on n now here xs ys ∙ ap (λ k. past_after n (past_after n now here xs) k ys) same
