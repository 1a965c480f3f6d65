-- Stamps that are got for a frame, one after the other.
use Rattle.std.proofs.Common.{add-zero, ◌≡◌, ◌∙◌, ◌+◌, ◌++◌, ◌∷◌, ◌≤◌, [], ℕ, Bool, List, true, ap, arith}
use Rattle.std.proofs.Common.{subst, sym, append_assoc, Err, IfErr, IfOk, IsOkAnd, Ok, OnErr, Result, refl}
use Rattle.std.specs.List.{All}
use Rattle.std.proofs.lemmas.List.Elements.{All-append, All-cons, All-head, All-nil, All-tail}
use Rattle.std.proofs.lemmas.List.Sums.{sum_by-append, sum_by-cons}
use Rattle.rv_text.specs.declared.answer.Answer.{Answer}
use Rattle.rv_server.specs.locked.Asking.{Cover, GetsStamps, GetsTold, TellsFrame}
use Rattle.rv_server.proofs.OfLocked.Getting.{nothing_got}
use Rattle.rv_server.specs.Asking.{GetsSome, OnlyWaited, StopsAsking, Waits}
use Rattle.rv_server.specs.locked.Stamps.{Covers, Numbered, Stamped, added_entries, added_by, shown_stamps}
use Rattle.rv_server.specs.locked.FrameStamps.{IsFor, IsWaiting, LastSays, WaitsBetween}
use Rattle.rv_server.specs.declared.fault.WorkFault.{WorkFault}
use Rattle.rv_server.specs.declared.fault.WorkFault.TheVariants as fault
use Rattle.rv_server.specs.declared.locked.asking.FrameAnswer.{FrameAnswer}
use Rattle.rv_server.specs.declared.locked.asking.FrameAnswer.TheVariants.{BadText, NoMemory, Said}

pub added_append : (front stamps : List Numbered)
    → added_entries (front ++ stamps) ≡ added_entries front + added_entries stamps
added_append front stamps = sum_by-append (λ (stamp : Numbered). added_by stamp.1) front stamps

pub cover_append : (own : ℕ) (front stamps : List Numbered) → Cover own front
    → Cover (own + added_entries front) stamps → Cover own (front ++ stamps)
cover_append own [] stamps covers more = subst (λ (n : ℕ). Cover n stamps) (add-zero own) more
cover_append own (stamp ∷ front) stamps covers more =
    let sum = sum_by-cons (λ (stamp : Numbered). added_by stamp.1) stamp front in
    let same : own + added_entries (stamp ∷ front) ≡ own + added_by stamp.1 + added_entries front =
    omega (arith, sum) in (
      covers.0,
      cover_append (own + added_by stamp.1) front stamps covers.1 (subst (λ (n : ℕ). Cover n stamps) same
          more),
    )

-- the stamp stands for an answer that waits
abbrev AnswerWaits : Numbered → Type 0
AnswerWaits stamp = IsWaiting stamp.1.said

between_append : (front stamps : List Numbered) → All AnswerWaits front → WaitsBetween stamps
    → WaitsBetween (front ++ stamps)
between_append [] stamps waited between = between
between_append (stamp ∷ []) [] waited between = tt
between_append (stamp ∷ []) (next ∷ stamps) waited between = (All-head AnswerWaits stamp [] waited, between)
between_append (stamp ∷ next ∷ front) stamps waited between = (
  All-head AnswerWaits stamp (next ∷ front) waited,
  between_append (next ∷ front) stamps
      (All-tail AnswerWaits stamp (next ∷ front) waited) between,
)

covers_at : (own : ℕ) (front back : List Numbered) (stamp : Numbered) → Cover own (front ++ stamp ∷ back)
    → own + added_entries front + added_by stamp.1 ≤ stamp.1.length
covers_at own [] back stamp covers = subst (λ (n : ℕ). n + added_by stamp.1 ≤ stamp.1.length)
    (sym (add-zero own)) covers.0
covers_at own (first ∷ front) back stamp covers =
    let sum = sum_by-cons (λ (s : Numbered). added_by s.1) first front in
    let so_far = covers_at (own + added_by first.1) front back stamp covers.1 in
    let same : own + added_entries (first ∷ front) ≡ own + added_by first.1 + added_entries front =
    omega (arith, sum) in
    subst (λ (n : ℕ). n + added_by stamp.1 ≤ stamp.1.length) (sym same) so_far

pub covers_all : (own : ℕ) (stamps : List Numbered) → Cover own stamps → Covers own stamps
covers_all own stamps covers front back stamp is = covers_at own front back stamp
    (subst (λ (l : List Numbered). Cover own l) is covers)

join_got : (number : ℕ) (body : List ℕ) (share share' share'' : ℕ) (old mid new got more : List Numbered)
    → All AnswerWaits got → GetsStamps number body share old share' mid got
    → GetsStamps number body share' mid share'' new more
    → GetsStamps number body share old share'' new (got ++ more)
join_got number body share share' share'' old mid new got more waited first second = record {
  behind = second.behind ∙ ap (λ (l : List Numbered). l ++ more) first.behind ∙ append_assoc old got more;
  own = record {
    each = All-append (IsFor number body) got more first.own.each second.own.each;
    waited = between_append got more waited second.own.waited;
  };
  adds = second.adds ∙ ap (λ (n : ℕ). n + added_entries more) first.adds ∙ (let s = added_append got more in
      omega (arith, s));
  cover = cover_append share got more first.cover (subst (λ (n : ℕ). Cover n more) first.adds second.cover);
}

last_behind : (front stamps : List Numbered) (answer : Answer) → All AnswerWaits front
    → LastSays stamps answer → LastSays (front ++ stamps) answer
last_behind front stamps answer waited says = record {
  front = front ++ says.front;
  last = says.last;
  are = ap (λ (l : List Numbered). front ++ l) says.are ∙ sym (append_assoc front says.front
      (says.last ∷ []));
  said = says.said;
  waited = All-append AnswerWaits front says.front waited says.waited;
}

all_wait : (stamps : List Numbered) (answer : Answer) → IsWaiting answer → LastSays stamps answer
    → All AnswerWaits stamps
all_wait stamps answer waits says =
    subst (λ (l : List Numbered). All AnswerWaits l) (sym says.are)
    (All-append AnswerWaits says.front (says.last ∷ []) says.waited
    (All-cons AnswerWaits says.last [] (waits.0, says.said ∙ waits.1) (All-nil AnswerWaits)))

tells_behind : (body : List ℕ) (front stamps : List Numbered) (told : FrameAnswer) → All AnswerWaits front
    → TellsFrame body stamps told → TellsFrame body (front ++ stamps) told
tells_behind body front stamps BadText waited tells = tells
tells_behind body front stamps NoMemory waited tells = tells
tells_behind body front stamps (Said answer) waited tells = (
  last_behind front stamps answer waited tells.0,
  tells.1,
)

-- all that were got so far waited, and then these were got: this is told of all
pub told_behind : (number : ℕ) (body : List ℕ) (share share' share'' : ℕ) (old mid new : List Numbered)
    (told : FrameAnswer)
    → OnlyWaited number body share old share' mid → GetsTold number body share' mid share'' new told
    → GetsTold number body share old share'' new told
told_behind number body share share' share'' old mid new told first second = record {
  got = first.got ++ second.got;
  gets = join_got number body share share' share'' old mid new first.got second.got first.waited first.gets
      second.gets;
  tells = tells_behind body first.got second.got told first.waited second.tells;
}

-- and one that waits leaves all waiting
waits_behind : (number : ℕ) (body : List ℕ) (share share' share'' : ℕ) (old mid new : List Numbered) (answer :
    Answer)
    → OnlyWaited number body share old share' mid → IsWaiting answer
    → GetsTold number body share' mid share'' new (Said answer)
    → OnlyWaited number body share old share'' new
waits_behind number body share share' share'' old mid new answer first waits second = record {
  got = first.got ++ second.got;
  gets = join_got number body share share' share'' old mid new first.got second.got first.waited first.gets
      second.gets;
  waited = All-append AnswerWaits first.got second.got first.waited (all_wait second.got answer waits
      second.tells.0);
}

-- and then memory was refused, and nothing was got
pub lacks_behind : (number : ℕ) (body : List ℕ) (share share' share'' : ℕ) (old mid new : List Numbered)
    (failed : Bool) (cause : WorkFault) → cause ≡ fault.NoMemory
    → OnlyWaited number body share old share' mid → share'' ≡ share' → new ≡ mid
    → StopsAsking number body share old share'' new failed cause
lacks_behind number body share share' share'' old mid new failed cause is first same_share same =
    subst (λ (f : WorkFault). StopsAsking number body share old share'' new failed f) (sym is)
    (subst (λ (n : ℕ). GetsSome number body share old n new) (sym same_share)
    (subst (λ (l : List Numbered). GetsSome number body share old share' l) (sym same)
    (record { got = first.got; gets = first.gets })))

-- the same where the last asking may have had an answer
pub lacks_at : {S : Type 0} (stamped : S → Stamped) (number : ℕ) (body : List ℕ) (share share' share'' : ℕ)
    (old : List Numbered) (mid new : List (ℕ × S)) (failed : Bool) (r : Result FrameAnswer WorkFault)
    → OnlyWaited number body share old share' (shown_stamps stamped mid)
    → IfErr r (λ cause. cause ≡ fault.NoMemory) → OnErr r ((share'' ≡ share') × (new ≡ mid))
    → IfErr r (StopsAsking number body share old share'' (shown_stamps stamped new) failed)
lacks_at stamped number body share share' share'' old mid new failed (Ok told) first is same = tt
lacks_at stamped number body share share' share'' old mid new failed (Err cause) first is same =
    lacks_behind number body share share' share'' old (shown_stamps stamped mid) (shown_stamps stamped new)
    failed cause is first same.0 (ap (shown_stamps stamped) same.1)

-- and then the sink failed
pub unsent_behind : (number : ℕ) (body : List ℕ) (share share' : ℕ) (old new : List Numbered) (failed : Bool)
    (cause : WorkFault) → cause ≡ fault.WriteFault 0
    → OnlyWaited number body share old share' new → failed ≡ true
    → StopsAsking number body share old share' new failed cause
unsent_behind number body share share' old new failed cause is waited fails =
    subst (λ (f : WorkFault). StopsAsking number body share old share' new failed f) (sym is)
    (refl, waited, fails)

pub none_waited : (number : ℕ) (body : List ℕ) (share : ℕ) (old : List Numbered)
    → OnlyWaited number body share old share old
none_waited number body share old = record {
  got = [];
  gets = nothing_got number body share old;
  waited =
      All-nil AnswerWaits;
}

pub waiting_behind : (number : ℕ) (body : List ℕ) (share share' share'' : ℕ) (old mid new : List Numbered)
    (asked : Result FrameAnswer WorkFault)
    → OnlyWaited number body share old share' mid → IsOkAnd asked Waits
    → IfOk asked (GetsTold number body share' mid share'' new) → OnlyWaited number body share old share'' new
waiting_behind number body share share' share'' old mid new (Ok told) first waits second =
    waits_behind number body share share' share'' old mid new waits.answer first waits.waiting
    (subst (λ (t : FrameAnswer). GetsTold number body share' mid share'' new t) waits.is second)
waiting_behind number body share share' share'' old mid new (Err cause) first waits second = absurd waits
