-- A line says one event at most.
use Rattle.std.proofs.Common.{◌≡◌, ℕ, List, refl, sym, ap, subst, ◌∙◌, false, true}
use Rattle.std.specs.Prelude.{nat_eq, sum}
use Rattle.std.proofs.lemmas.Bool.{false≢true}
use Rattle.rv_text.specs.declared.version.Version.{Version}
use Rattle.rv_text.specs.declared.version.Version.TheVariants.{One, Two}
use Rattle.rv_text.specs.Bodies.{IsCallBody}
use Rattle.rv_text.specs.Laws.{OneCall}
use Rattle.rv_text.specs.Number.{WritesNumber, value_of_digits}
use Rattle.rv_world.specs.declared.parts.event.Event.{Event}
use Rattle.rv_world.specs.declared.parts.event.Event.TheVariants as event
use Rattle.rv_book.proofs.OfLines.Cutting.{Lacks, cut_once}
use Rattle.rv_run.specs.play.Reading.{SayRest, SayTwo, SaysEvent, SaysSession, word_of}
use Rattle.rv_run.proofs.OfPlay.Saying.{identifier_lacks, not_two, number_lacks, word_lacks_space}

-- ---- fields

two_once : (First Second First' Second' : List ℕ → Type 0) (fields : List ℕ)
    → ((f : List ℕ) → First f → Lacks 32 f) → ((f : List ℕ) → First' f → Lacks 32 f)
    → (a : SayTwo First Second fields) (b : SayTwo First' Second' fields)
    → (a.first ≡ b.first) × (a.second ≡ b.second)
two_once First Second First' Second' fields none none' a b =
    cut_once 32 a.first a.second b.first b.second (none a.first a.says_first) (none' b.first b.says_first)
    (sym a.parts ∙ b.parts)

number_once : (f g : List ℕ) (m n : ℕ) → f ≡ g → WritesNumber f m → WritesNumber g n → m ≡ n
number_once f g m n same a b = a.1 ∙ ap value_of_digits same ∙ sym b.1

session_once : (f : List ℕ) (m n : ℕ) (v w : Version) → SaysSession f m v → SaysSession f n w
    → (m ≡ n) × (v ≡ w)
session_once f m n One One a b = (number_once f f m n refl a.0 b.0, refl)
session_once f m n One Two a b = absurd (not_two _ _ f (identifier_lacks m f a) b)
session_once f m n Two One a b = absurd (not_two _ _ f (identifier_lacks n f b) a)
session_once f m n Two Two a b =
    let two = two_once _ _ _ _ f (identifier_lacks m) (identifier_lacks n) a b in
    (number_once a.first b.first m n two.0 a.says_first.0 b.says_first.0, refl)

-- ---- events

-- Two events of one word are of one kind: the sum of a word's bytes tells it from the others.
rest_once : OneCall → (fields : List ℕ) (d e : Event) → word_of d ≡ word_of e → SayRest fields d
    → SayRest fields e → d ≡ e
rest_once one fields (event.Start c m v) (event.Start c' n w) same a b =
    let two = two_once _ _ _ _ fields (identifier_lacks c) (identifier_lacks c') a b in
    let client = number_once a.first b.first c c' two.0 a.says_first.0 b.says_first.0 in
    let session = session_once b.second m n v w (subst (λ (f : List ℕ). SaysSession f m v) two.1
    a.says_second) b.says_second in
    λ i. event.Start (client i) (session.0 i) (session.1 i)
rest_once one fields (event.Begin c call) (event.Begin c' call') same a b =
    let two = two_once _ _ _ _ fields (identifier_lacks c) (identifier_lacks c') a b in
    let client = number_once a.first b.first c c' two.0 a.says_first.0 b.says_first.0 in
    let said = one b.second call call' (subst (λ (f : List ℕ). IsCallBody f call) two.1 a.says_second)
    b.says_second in
    λ i. event.Begin (client i) (said i)
rest_once one fields (event.Resend c) (event.Resend c') same a b = ap event.Resend (number_once fields fields
    c c' refl a.0 b.0)
rest_once one fields (event.CancelSent c) (event.CancelSent c') same a b = ap event.CancelSent
    (number_once fields fields c c' refl a.0 b.0)
rest_once one fields (event.Crash c) (event.Crash c') same a b = ap event.Crash (number_once fields fields c
    c' refl a.0 b.0)
rest_once one fields (event.ToServer p t) (event.ToServer q u) same a b =
    let two = two_once _ _ _ _ fields (number_lacks p) (number_lacks q) a b in
    let packet = number_once a.first b.first p q two.0 a.says_first b.says_first in
    let moment = number_once a.second b.second t u two.1 a.says_second b.says_second in
    λ i. event.ToServer (packet i) (moment i)
rest_once one fields (event.ToClient p) (event.ToClient q) same a b = ap event.ToClient
    (number_once fields fields p q refl a b)
rest_once one fields (event.NewEpoch n) (event.NewEpoch m) same a b = ap event.NewEpoch
    (number_once fields fields n m refl a.0 b.0)
rest_once one fields (event.Start c m v) _ same a b = let other : true ≡ false =
    ap (λ (l : List ℕ). nat_eq 558 (sum l)) same in absurd (false≢true (sym other))
rest_once one fields (event.Begin c call) _ same a b = let other : true ≡ false =
    ap (λ (l : List ℕ). nat_eq 517 (sum l)) same in absurd (false≢true (sym other))
rest_once one fields (event.Resend c) _ same a b = let other : true ≡ false =
    ap (λ (l : List ℕ). nat_eq 641 (sum l)) same in absurd (false≢true (sym other))
rest_once one fields (event.CancelSent c) _ same a b = let other : true ≡ false =
    ap (λ (l : List ℕ). nat_eq 614 (sum l)) same in absurd (false≢true (sym other))
rest_once one fields (event.Crash c) _ same a b = let other : true ≡ false =
    ap (λ (l : List ℕ). nat_eq 529 (sum l)) same in absurd (false≢true (sym other))
rest_once one fields (event.ToServer p t) _ same a b = let other : true ≡ false =
    ap (λ (l : List ℕ). nat_eq 663 (sum l)) same in absurd (false≢true (sym other))
rest_once one fields (event.ToClient p) _ same a b = let other : true ≡ false =
    ap (λ (l : List ℕ). nat_eq 639 (sum l)) same in absurd (false≢true (sym other))
rest_once one fields (event.NewEpoch n) _ same a b = let other : true ≡ false =
    ap (λ (l : List ℕ). nat_eq 527 (sum l)) same in absurd (false≢true (sym other))

pub event_once : OneCall → (line : List ℕ) (d e : Event) → SaysEvent line d → SaysEvent line e → d ≡ e
event_once one line d e a b =
    let cut = cut_once 32 (word_of d) a.fields (word_of e) b.fields (word_lacks_space d) (word_lacks_space e)
    (sym a.parts ∙ b.parts) in
    rest_once one b.fields d e cut.0 (subst (λ (f : List ℕ). SayRest f d) cut.1 a.rest) b.rest
