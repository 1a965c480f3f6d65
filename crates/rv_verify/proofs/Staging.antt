-- What a stage is to the lines that were read, after one more, and what it tells of them.
use Rattle.std.proofs.Common.{◌≡◌, ◌≢◌, ◌+◌, ◌-◌, ◌∷◌, ◌++◌, ◌∙◌, ℕ, zero, suc, List, [], Option, None, Some}
use Rattle.std.proofs.Common.{ap, arith, false, is_some, IsSome, length, length-append, refl, subst, sym}
use Rattle.std.proofs.Common.{take}
use Rattle.std.proofs.lemmas.List.{take_all, take-append-le}
use Rattle.rv_account.specs.Account.{Account}
use Rattle.rv_book.specs.lines.Entries.{IsNoNext}
use Rattle.rv_book.specs.lines.Reading.{ReadsHead}
use Rattle.rv_book.proofs.OfLines.OneReading.{front_of_front, front_read}
use Rattle.rv_book.proofs.OfLines.Turns.{bad_head, bad_kept, bad_next, bad_none, so_many_lines}
use Rattle.rv_machine.specs.Machines.{state_in}
use Rattle.rv_replies.specs.declared.records.Records.{Records}
use Rattle.rv_account.proofs.OfState.Agreed.{agreed}
use Rattle.rv_verify.specs.Noting.{HasNotedOf, NotesLongest}
use Rattle.rv_verify.specs.Reading.{IsBadAt}
use Rattle.rv_verify.specs.Stages.{AreNew, HasReadNoting, StandsBehind, epoch_of}
use Rattle.rv_verify.specs.Standing.{HasRead}
use Rattle.rv_verify.specs.Verdicts.{FirstBadLong, ReadsLong, long_limits}
use Rattle.rv_verify.specs.declared.verifier.Verifier.{Verifier}
use Rattle.rv_verify.proofs.Longest.{longest_bad, passed_longest}

-- ---- one line more

many_read : (lines : List (List ℕ)) (v : Verifier) → HasRead lines v → length lines ≡ v.entries + 1
many_read lines v has =
    omega (arith, has.counted, so_many_lines long_limits lines has.account has.read)

-- the line that a verifier reads as no entry more is the first bad one
bad_read : (lines : List (List ℕ)) (v : Verifier) (line : List ℕ) → IsNoNext long_limits v.entries line
    → HasRead lines v → IsBadAt (lines ++ line ∷ []) (v.entries + 2)
bad_read lines v line stops has =
    let counted = has.counted in
    let bad = bad_next long_limits lines has.account has.read line
    (subst (λ k. IsNoNext long_limits k line) counted stops) in
    record {
      among = omega (arith, many_read lines v has, length-append lines (line ∷ []));
      bad = subst (λ k. FirstBadLong (lines ++ line ∷ []) (k + 2)) (sym counted) bad;
    }

pub reads_bad : (lines : List (List ℕ)) (v : Verifier) (r : Records) (line : List ℕ) (n : ℕ)
    → n ≡ v.entries + 2 → IsNoNext long_limits v.entries line → HasReadNoting lines v r
    → StandsBehind (lines ++ line ∷ []) (Some v) (Some n) r
reads_bad lines v r line n is stops has =
    let front : take (n - 1) (lines ++ line ∷ []) ≡ lines =
    take-append-le (n - 1) lines (line ∷ []) (omega (arith, is, many_read lines v has.read))
    ∙ take_all (n - 1) lines (omega (arith, is, many_read lines v has.read)) in (
      subst (IsBadAt (lines ++ line ∷ [])) (sym is) (bad_read lines v line stops has.read),
      subst (λ ls. HasReadNoting ls v r) (sym front) has,
    )

-- the same of what stayed as it was
pub reads_bad_as : (lines : List (List ℕ)) (v v' : Verifier) (r r' : Records) (line : List ℕ) (n : ℕ) → v' ≡ v
    → r' ≡ r → n ≡ v'.entries + 2 → IsNoNext long_limits v.entries line → HasReadNoting lines v r
    → StandsBehind (lines ++ line ∷ []) (Some v') (Some n) r'
reads_bad_as lines v v' r r' line n same same_record is stops has =
    subst (StandsBehind (lines ++ line ∷ []) (Some v') (Some n)) (sym same_record)
    (subst (λ x. StandsBehind (lines ++ line ∷ []) (Some x) (Some n) r) (sym same)
    (reads_bad lines v r line n (is ∙ ap (λ (x : Verifier). x.entries + 2) same) stops has))

bad_more : (lines : List (List ℕ)) (line : List ℕ) (n : ℕ) → IsBadAt lines n → IsBadAt (lines ++ line ∷ []) n
bad_more lines line n bad = record {
  among = omega (arith, bad.among, length-append lines (line ∷ []));
  bad = bad_kept long_limits lines (line ∷ []) n bad.among bad.bad;
}

-- after a bad line, a line is only counted
pub stays_bad : (lines : List (List ℕ)) (line : List ℕ) (o : Option Verifier) (bad : Option ℕ) (r : Records)
    → IsSome bad → StandsBehind lines o bad r → StandsBehind (lines ++ line ∷ []) o bad r
stays_bad lines line o None r some stands = absurd (cc)
stays_bad lines line None (Some n) r some stands = (bad_more lines line n stands.0, stands.1)
stays_bad lines line (Some v) (Some n) r some stands =
    let front : take (n - 1) (lines ++ line ∷ []) ≡ take (n - 1) lines =
    take-append-le (n - 1) lines (line ∷ []) (omega (arith, stands.0.among)) in
    (bad_more lines line n stands.0, subst (λ ls. HasReadNoting ls v r) (sym front) stands.1)

-- a first line of another form is the first bad one
pub head_bad : (head : List ℕ) (r : Records) → ((epoch opened : ℕ) → ¬ ReadsHead head epoch opened)
    → StandsBehind (head ∷ []) None (Some 1) r
head_bad head r none =
    (record { among = omega arith; bad = bad_head long_limits (head ∷ []) [] head 1 refl none refl }, refl)

-- what read no bad line
pub reads_well : (lines : List (List ℕ)) (o : Option Verifier) (bad : Option ℕ) (r : Records) (v : Verifier)
    → o ≡ Some v → is_some bad ≡ false → StandsBehind lines o bad r → HasReadNoting lines v r
reads_well lines o None r v is none stands = subst (λ x. StandsBehind lines x None r) is stands
reads_well lines o (Some n) r v is none stands = absurd (let no : ⊥ = cc in no)

-- what read no line
pub reads_none : (lines : List (List ℕ)) (o : Option Verifier) (bad : Option ℕ) (r : Records) → o ≡ None
    → is_some bad ≡ false → StandsBehind lines o bad r → (lines ≡ []) × AreNew r
reads_none lines o None r is none stands = subst (λ x. StandsBehind lines x None r) is stands
reads_none lines o (Some n) r is none stands = absurd (let no : ⊥ = cc in no)

some_read : (lines : List (List ℕ)) (v : Verifier) → HasRead lines v → lines ≢ []
some_read lines v has none = omega (arith, ap length none, many_read lines v has)

some_bad : (lines : List (List ℕ)) (n : ℕ) → IsBadAt lines n → lines ≢ []
some_bad lines n bad none = omega (arith, ap length none, bad.among, bad.bad.from_one)

-- what read some
pub reads_some : (lines : List (List ℕ)) (o : Option Verifier) (bad : Option ℕ) (r : Records)
    → ((o ≡ None) × (bad ≡ None) → ⊥) → StandsBehind lines o bad r → lines ≢ []
reads_some lines None None r some stands = absurd (some (refl, refl))
reads_some lines None (Some n) r some stands = some_bad lines n stands.0
reads_some lines (Some v) None r some stands = some_read lines v stands.read
reads_some lines (Some v) (Some n) r some stands = some_bad lines n stands.0

-- ---- what is told

pub told_bad : (lines : List (List ℕ)) (o : Option Verifier) (n : ℕ) (r : Records)
    → StandsBehind lines o (Some n) r → FirstBadLong lines n
told_bad lines None n r stands = stands.0.bad
told_bad lines (Some v) n r stands = stands.0.bad

pub told_none : (lines : List (List ℕ)) → lines ≡ [] → FirstBadLong lines 1
told_none lines none = subst (λ ls. FirstBadLong ls 1) (sym none) (bad_none long_limits)

no_parts : (head : List ℕ) (rest : List (List ℕ)) → [] ≡ head ∷ rest → ⊥
no_parts head rest same = cc

reads_nothing : (a : Account) → ¬ ReadsLong [] a
reads_nothing a reads = no_parts reads.head reads.rest reads.parts

front_nothing : (n : ℕ) (a : Account) → ¬ ReadsLong (take n []) a
front_nothing zero a reads = reads_nothing a reads
front_nothing (suc n) a reads = reads_nothing a reads

noted_bad : (lines : List (List ℕ)) → FirstBadLong lines 1 → (n : ℕ) (a : Account)
    → ¬ ReadsLong (take n lines) a
noted_bad lines bad zero a reads = reads_nothing a reads
noted_bad lines bad (suc n) a reads =
    let front = front_read long_limits 1 (take (suc n) lines) a (omega arith) reads in
    bad.read_no_more front.0
    (subst (λ ls. ReadsLong ls front.0) (front_of_front 1 (suc n) lines (omega arith)) front.1)

noted_read : (lines : List (List ℕ)) (v : Verifier) (r : Records) → HasReadNoting lines v r
    → NotesLongest lines (state_in v.machine).epoch r
noted_read lines v r has =
    let holds = has.read.holds in
    record {
      account = has.read.passed;
      is_longest = passed_longest lines v has.read;
      is_epoch = sym (ap (λ s. s.epoch) holds.state ∙ (agreed has.read.passed holds.legal).epoch);
      noted = has.noted;
    }

noted_behind : (lines : List (List ℕ)) (n epoch : ℕ) (r : Records) → IsBadAt lines n
    → NotesLongest (take (n - 1) lines) epoch r → NotesLongest lines epoch r
noted_behind lines n epoch r bad notes = record {
  account = notes.account;
  is_longest = longest_bad lines n notes.account bad notes.is_longest;
  is_epoch = notes.is_epoch;
  noted = notes.noted;
}

pub noted_by : (lines : List (List ℕ)) (o : Option Verifier) (bad : Option ℕ) (r : Records)
    → StandsBehind lines o bad r → HasNotedOf lines (epoch_of o) r
noted_by lines None None r stands = λ n a reads.
    front_nothing n a (subst (λ ls. ReadsLong (take n ls) a) stands.0 reads)
noted_by lines None (Some m) r stands = noted_bad lines (subst (FirstBadLong lines) stands.1 stands.0.bad)
noted_by lines (Some v) None r stands = noted_read lines v r stands
noted_by lines (Some v) (Some m) r stands =
    noted_behind lines m (state_in v.machine).epoch r stands.0 (noted_read (take (m - 1) lines) v r stands.1)
