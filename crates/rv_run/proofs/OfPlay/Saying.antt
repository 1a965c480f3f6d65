-- A line says its event by its word and its fields, in one way.
use Rattle.std.proofs.Common.{◌≡◌, ℕ, List, [], ◌∷◌, ◌++◌, Result, Err, inl, inr, refl, sym, ap, subst, ◌∙◌}
use Rattle.std.proofs.Common.{codes, false, true}
use Rattle.std.specs.Prelude.{nat_eq}
use Rattle.std.proofs.lemmas.Bool.{false≢true}
use Rattle.rv_text.specs.declared.call.Call.{Call}
use Rattle.rv_text.specs.declared.version.Version.{Version}
use Rattle.rv_text.specs.declared.version.Version.TheVariants.{One, Two}
use Rattle.rv_json.specs.declared.fault.TextFault.{TextFault}
use Rattle.rv_json.specs.declared.fault.TextFault.TheVariants as text
use Rattle.rv_text.specs.Bodies.{Decodes, IsCallBody}
use Rattle.rv_text.specs.Limits.{FitsIdentifier}
use Rattle.rv_book.specs.lines.Faults.{line_fault}
use Rattle.rv_book.specs.declared.lines.fault.LineFault.TheVariants as line
use Rattle.rv_text.specs.Number.{WritesIdentifier, WritesNumber}
use Rattle.rv_world.specs.declared.parts.event.Event.{Event}
use Rattle.rv_world.specs.declared.parts.event.Event.TheVariants as event
use Rattle.rv_world.specs.parts.Limits.{FitsEvent}
use Rattle.rv_book.proofs.OfLines.Cutting.{Lacks, cut_once, digits_lack_space, not_lacking}
use Rattle.rv_book.proofs.OfLines.OneLine.{greater_lack}
use Rattle.rv_run.specs.play.Parts.{SaysAtMostBegin, SaysNoneOfOne, SaysParts}
use Rattle.rv_run.specs.play.Reading.{SayRest, SayTwo, SaysEvent, SaysNoEvent, SaysSession, word_of}

-- what is said keeps its limits
session_fits : (fields : List ℕ) (incarnation : ℕ) (version : Version)
    → SaysSession fields incarnation version → FitsIdentifier incarnation
session_fits fields incarnation One says = says.1
session_fits fields incarnation Two says = says.says_first.1

pub said_fits : (line : List ℕ) (e : Event) → SaysEvent line e → FitsEvent e
said_fits line (event.Start client incarnation version) says =
    (says.rest.says_first.1, session_fits says.rest.second incarnation version says.rest.says_second)
said_fits line (event.Begin client call) says = (says.rest.says_first.1, says.rest.says_second.2)
said_fits line (event.Resend client) says = says.rest.1
said_fits line (event.CancelSent client) says = says.rest.1
said_fits line (event.Crash client) says = says.rest.1
said_fits line (event.ToServer packet moment) says = tt
said_fits line (event.ToClient packet) says = tt
said_fits line (event.NewEpoch epoch) says = says.rest.1

-- ---- one cut

pub word_lacks_space : (e : Event) → Lacks 32 (word_of e)
word_lacks_space (event.Start client incarnation version) = greater_lack 32 (codes "start") refl
word_lacks_space (event.Begin client call) = greater_lack 32 (codes "begin") refl
word_lacks_space (event.Resend client) = greater_lack 32 (codes "resend") refl
word_lacks_space (event.CancelSent client) = greater_lack 32 (codes "cancel") refl
word_lacks_space (event.Crash client) = greater_lack 32 (codes "crash") refl
word_lacks_space (event.ToServer packet moment) = greater_lack 32 (codes "server") refl
word_lacks_space (event.ToClient packet) = greater_lack 32 (codes "client") refl
word_lacks_space (event.NewEpoch epoch) = greater_lack 32 (codes "epoch") refl

-- a line without a space says no event
pub no_space : (line : List ℕ) → Lacks 32 line → SaysNoEvent line
no_space line lacks e says = not_lacking 32 (word_of e) says.fields (subst (Lacks 32) says.parts lacks)

-- a line says no event that its first word and the rest don't say
pub parts_say_none : (line word fields : List ℕ) → line ≡ word ++ 32 ∷ fields → Lacks 32 word
    → ((e : Event) → ¬ SaysParts word fields e) → SaysNoEvent line
parts_say_none line word fields is lacks none e says =
    let one = cut_once 32 (word_of e) says.fields word fields (word_lacks_space e) lacks (sym says.parts ∙ is)
    in
    none e (sym one.0, subst (λ (f : List ℕ). SayRest f e) one.1 says.rest)

-- two fields are cut in one way, where the first has no space
pub two_fields : (First Second : List ℕ → Type 0) (fields first second : List ℕ)
    → ((f : List ℕ) → First f → Lacks 32 f) → fields ≡ first ++ 32 ∷ second → Lacks 32 first
    → SayTwo First Second fields
    → First first × Second second
two_fields First Second fields first second none is lacks says =
    let one = cut_once 32 says.first says.second first second (none says.first says.says_first) lacks
    (sym says.parts ∙ is) in
    (subst First one.0 says.says_first, subst Second one.1 says.says_second)

pub not_two : (First Second : List ℕ → Type 0) (fields : List ℕ) → Lacks 32 fields
    → ¬ SayTwo First Second fields
not_two First Second fields lacks says = not_lacking 32 says.first says.second (subst (Lacks 32) says.parts
    lacks)

pub identifier_lacks : (n : ℕ) (f : List ℕ) → WritesIdentifier f n → Lacks 32 f
identifier_lacks n f writes = digits_lack_space f writes.0.0.are_digits

pub number_lacks : (n : ℕ) (f : List ℕ) → WritesNumber f n → Lacks 32 f
number_lacks n f writes = digits_lack_space f writes.0.are_digits

-- ---- the session of a start

-- without a space it is an incarnation alone
pub no_session : (fields : List ℕ) → Lacks 32 fields → ((n : ℕ) → ¬ WritesIdentifier fields n)
    → (incarnation : ℕ) (version : Version) → ¬ SaysSession fields incarnation version
no_session fields lacks none incarnation One says = none incarnation says
no_session fields lacks none incarnation Two says = not_two _ _ fields lacks says

-- with one it is an incarnation and the number of version 2
pub no_session_of_two : (fields first second : List ℕ) → fields ≡ first ++ 32 ∷ second → Lacks 32 first
    → ((n : ℕ) → WritesIdentifier first n → ¬ (second ≡ codes "2")) → (incarnation : ℕ) (version : Version)
    → ¬ SaysSession fields incarnation version
no_session_of_two fields first second is lacks none incarnation One says = not_lacking 32 first second
    (subst (Lacks 32) is (identifier_lacks incarnation fields says))
no_session_of_two fields first second is lacks none incarnation Two says =
    let two = two_fields _ _ fields first second (identifier_lacks incarnation) is lacks says in
    none incarnation two.0 two.1

-- what is refused for another cause than memory is no call
pub no_call : (bytes : List ℕ) (decoded : Result Call TextFault) (fault : TextFault)
    → Decodes Call IsCallBody bytes decoded → decoded ≡ Err fault → line_fault fault ≡ line.Bad
    → (call : Call) → ¬ IsCallBody bytes call
no_call bytes decoded text.NoMemory decodes was bad call body = absurd (cc)
no_call bytes decoded text.NotJson decodes was bad call body = elim (decodes.only call body)
    [ inl ok ↦ (cc) | inr none ↦ (cc) ]
no_call bytes decoded text.NotMessage decodes was bad call body = elim (decodes.only call body)
    [ inl ok ↦ (cc) | inr none ↦ (cc) ]

-- ---- which word it is

abbrev first_byte : List ℕ → ℕ
first_byte [] = 0
first_byte (x ∷ xs) = x

pub only_begin : (word fields : List ℕ) → word ≡ codes "begin"
    → ((client : ℕ) (call : Call) → ¬ SayRest fields (event.Begin client call)) → (e : Event)
    → ¬ SaysParts word fields e
only_begin word fields is none (event.Begin client call) says = none client call says.1
only_begin word fields is none _ says =
    let other : true ≡ false = ap (λ (l : List ℕ). nat_eq 98 (first_byte l)) (sym is ∙ says.0) in
    absurd (false≢true (sym other))

pub other_word : (word fields : List ℕ) → ¬ (word ≡ codes "start") → ¬ (word ≡ codes "server")
    → ¬ (word ≡ codes "client") → SaysNoneOfOne word fields → SaysAtMostBegin word fields
other_word word fields start server client none (event.Begin x y) begin says = begin refl
other_word word fields start server client none (event.Start x y z) begin says = start says.0
other_word word fields start server client none (event.Resend x) begin says = none.no_resend x says
other_word word fields start server client none (event.CancelSent x) begin says = none.no_cancel x says
other_word word fields start server client none (event.Crash x) begin says = none.no_crash x says
other_word word fields start server client none (event.ToServer x y) begin says = server says.0
other_word word fields start server client none (event.ToClient x) begin says = client says.0
other_word word fields start server client none (event.NewEpoch x) begin says = none.no_epoch x says

-- a word that is none of these four says no event whose fields are one identifier
pub other_word_of_one : (word fields : List ℕ) → ¬ (word ≡ codes "resend") → ¬ (word ≡ codes "cancel")
    → ¬ (word ≡ codes "crash") → ¬ (word ≡ codes "epoch") → SaysNoneOfOne word fields
other_word_of_one word fields resend cancel crash epoch = record {
  no_resend = λ client says. resend says.0;
  no_cancel = λ client says. cancel says.0;
  no_crash = λ client says. crash says.0;
  no_epoch = λ number says. epoch says.0;
}
