-- What the first of the bytes that may not leave rests on, before and after those that are let go.
use Rattle.std.proofs.Common.{◌≡◌, ◌<◌, ◌≤◌, ◌+◌, ◌∷◌, ◌++◌, ◌∙◌, ℕ, List, [], Option, None, Some, arith}
use Rattle.std.proofs.Common.{refl, sym}
use Rattle.std.proofs.Common.{ap, subst, length, length-append, IsSome, unwrap_or, append-nil}
use Rattle.std.specs.List.{All}
use Rattle.std.proofs.lemmas.List.{length-map}
use Rattle.std.proofs.lemmas.List.Elements.{All-cons, All-head, All-nil, All-tail}
use Rattle.rv_frame.specs.Cut.{frame_bytes}
use Rattle.rv_server_connections.specs.connection.Traffic.{AnswerByte, Traffic, bytes_of, first_rests_on}
use Rattle.rv_server_connections.specs.connection.Traffic.{held_count, resting}
use Rattle.rv_server_connections.specs.connection.Steps.{AnswersBy, Frees, HoldsBack, Releases}

some_none : {A : Type 0} (x : A) → Some x ≡ None → ⊥
some_none x is = cc

same_number : (x y : ℕ) → Some x ≡ Some y → x ≡ y
same_number x y is = cc

pub holds_back : (written : ℕ) (behind : List AnswerByte)
    → ((e : ℕ) → first_rests_on behind ≡ Some e → written < e) → HoldsBack written behind
holds_back written [] later = tt
holds_back written (b ∷ behind) later = later b.rests_on refl

pub first_later : (written : ℕ) (behind : List AnswerByte) → HoldsBack written behind → (e : ℕ)
    → first_rests_on behind ≡ Some e → written < e
first_later written [] held e first = absurd (some_none e (sym first))
first_later written (b ∷ behind) held e first = subst (λ n. written < n) (same_number b.rests_on e first) held

pub none_behind : (behind : List AnswerByte) → first_rests_on behind ≡ None → behind ≡ []
none_behind [] none = refl
none_behind (b ∷ behind) none = absurd (some_none b.rests_on none)

-- what stands first still does, with more after it
first_more : (behind more : List AnswerByte) (e : ℕ) → first_rests_on behind ≡ Some e
    → first_rests_on (behind ++ more) ≡ Some e
first_more [] more e first = absurd (some_none e (sym first))
first_more (b ∷ behind) more e first = first

-- nothing is let go before what isn't written
pub freed_later : (written e : ℕ) (held front rest : List AnswerByte) → Frees written held front rest
    → first_rests_on held ≡ Some e → written < e → first_rests_on rest ≡ Some e
freed_later written e held [] rest frees first later = ap first_rests_on (sym frees.parts) ∙ first
freed_later written e held (b ∷ front) rest frees first later =
    let free : b.rests_on ≤ written = All-head (λ (x : AnswerByte). x.rests_on ≤ written) b front frees.free
    in
    let same : b.rests_on ≡ e = same_number b.rests_on e (ap first_rests_on (sym frees.parts) ∙ first) in
    absurd (omega (arith, free, same, later))

-- ---- an answer

answer_first : (entries : ℕ) (body : List ℕ) → first_rests_on (resting entries (frame_bytes body)) ≡ Some
    entries
answer_first entries body = refl

-- after what may not leave, it is held back too
pub answered_behind : (written entries e : ℕ) (old new : Traffic) (body : List ℕ)
    → AnswersBy written old entries body new → first_rests_on old.behind ≡ Some e → written < e
    → first_rests_on new.behind ≡ Some e
answered_behind written entries e old new body answers first later =
    freed_later written e (old.behind ++ resting entries (frame_bytes body)) answers.front new.behind
    answers.frees
    (first_more old.behind (resting entries (frame_bytes body)) e first) later

-- alone, it may not leave where it rests on what isn't written
pub answered_first : (written entries : ℕ) (old new : Traffic) (body : List ℕ)
    → AnswersBy written old entries body new → first_rests_on old.behind ≡ None → written < entries
    → first_rests_on new.behind ≡ Some entries
answered_first written entries old new body answers none later =
    freed_later written entries (old.behind ++ resting entries (frame_bytes body)) answers.front new.behind
    answers.frees
    (ap (λ l. first_rests_on (l ++ resting entries (frame_bytes body))) (none_behind old.behind none)
    ∙ answer_first entries body) later

all_rest : (entries : ℕ) (bytes : List ℕ) → All (λ b. b.rests_on ≡ entries) (resting entries bytes)
all_rest entries [] = All-nil (λ (b : AnswerByte). b.rests_on ≡ entries)
all_rest entries (x ∷ bytes) =
    All-cons (λ (b : AnswerByte). b.rests_on ≡ entries) (record { byte = x; rests_on = entries })
    (resting entries bytes) refl (all_rest entries bytes)

all_behind : (P : AnswerByte → Type 0) (front rest : List AnswerByte) → All P (front ++ rest) → All P rest
all_behind P [] rest all = all
all_behind P (b ∷ front) rest all = all_behind P front rest (All-tail P b (front ++ rest) all)

-- and leaves where that is written
pub answered_free : (written entries : ℕ) (old new : Traffic) (body : List ℕ)
    → AnswersBy written old entries body new → first_rests_on old.behind ≡ None → entries ≤ written
    → first_rests_on new.behind ≡ None
answered_free written entries old new body answers none free =
    nothing_left new.behind answers.frees.held_back (all_behind (λ (b : AnswerByte). b.rests_on ≡ entries)
    answers.front new.behind (subst (All (λ (b : AnswerByte). b.rests_on ≡ entries))
    (ap (λ l. l ++ resting entries (frame_bytes body)) (sym (none_behind old.behind none))
    ∙ answers.frees.parts)
    (all_rest entries (frame_bytes body))))
  where
    nothing_left : (rest : List AnswerByte) → HoldsBack written rest → All (λ b. b.rests_on ≡ entries) rest
        → first_rests_on rest ≡ None
    nothing_left [] held all = refl
    nothing_left (b ∷ rest) held all =
        absurd (omega (arith, held, All-head (λ (x : AnswerByte). x.rests_on ≡ entries) b rest all))

-- ---- a mark

pub mark_there : (mark : Option ℕ) (e : ℕ) → unwrap_or mark (e + 1) ≤ e → IsSome mark
mark_there None e low = absurd (omega arith)
mark_there (Some k) e low = refl

pub mark_of_none : (mark : Option ℕ) (e : ℕ) → mark ≡ None → unwrap_or mark (e + 1) ≤ e → ⊥
mark_of_none mark e none low = omega (arith, low, ap (λ (m : Option ℕ). unwrap_or m (e + 1)) none)

-- a mark that is at most one number is at most a greater one
pub mark_higher : (mark : Option ℕ) (e later : ℕ) → unwrap_or mark (e + 1) ≤ e → e ≤ later
    → unwrap_or mark (later + 1) ≤ later
mark_higher None e later low above = absurd (omega arith)
mark_higher (Some k) e later low above = omega arith

pub mark_low : (mark : Option ℕ) (e k : ℕ) → mark ≡ Some k → unwrap_or mark (e + 1) ≤ e → k ≤ e
mark_low mark e k is low = omega (arith, low, ap (λ (m : Option ℕ). unwrap_or m (e + 1)) is)

-- ---- what is let go

pub released_count : (written : ℕ) (old new : Traffic) → Releases written old new
    → held_count new ≡ held_count old
released_count written old new releases =
    let goes : held_count new ≡ length (old.ready ++ bytes_of releases.front) + length new.behind =
    ap (λ (t : Traffic). length t.ready + length new.behind) releases.goes in
    let front : length (bytes_of releases.front) ≡ length releases.front =
    length-map releases.front (λ (b : AnswerByte). b.byte) in
    let parts : length old.behind ≡ length releases.front + length new.behind =
    ap length releases.frees.parts ∙ length-append releases.front new.behind in
    omega (arith, goes, front, parts, length-append old.ready (bytes_of releases.front))

-- nothing is, where the first rests on what isn't written
pub releases_none : (written : ℕ) (t : Traffic) → HoldsBack written t.behind → Releases written t t
releases_none written t held = record {
  front = [];
  frees = record {
    parts = refl;
    free = All-nil (λ (b : AnswerByte). b.rests_on ≤ written);
    held_back = held;
  };
  goes = ap (λ l. record t { ready = l }) (sym (append-nil t.ready));
}
