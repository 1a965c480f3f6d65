-- A line is read as one entry.
use Rattle.std.proofs.Common.{◌≡◌, ℕ, List, Option, Some, None, Result, Err, inl, inr, refl, sym, ap, subst}
use Rattle.std.proofs.Common.{◌∙◌, codes}
use Rattle.serde_json.specs.Read.{read}
use Rattle.serde_json.proofs.OnLiterals.{serde_json_on_literals}
use Rattle.rv_text.specs.Bodies.{Decodes, IsMessageBody}
use Rattle.rv_json.specs.declared.fault.TextFault.{TextFault}
use Rattle.rv_json.specs.declared.fault.TextFault.TheVariants as text
use Rattle.rv_text.specs.declared.message.Message.{Message}
use Rattle.rv_text.specs.declared.message.Message.TheVariants as message
use Rattle.rv_text.specs.Reading.{messages}
use Rattle.rv_text.proofs.Readers.{message_reader}
use Rattle.rv_text.proofs.Decoding.{at_most_one}
use Rattle.rv_account.specs.declared.entry.Act.{Act}
use Rattle.rv_account.specs.declared.entry.Act.TheVariants as act
use Rattle.rv_account.specs.declared.entry.Entry.{Entry}
use Rattle.rv_book.specs.lines.Faults.{line_fault}
use Rattle.rv_book.specs.declared.lines.fault.LineFault.TheVariants as line
use Rattle.rv_book.specs.lines.Reading.{ReadsEntryUpTo, SaysAct, SaysMessage}
use Rattle.rv_book.specs.lines.Written.{message_in}
use Rattle.rv_book.proofs.OfLines.Fields.{fields_one}

-- `tick` is no JSON text
tick_reads_nothing : read (codes "tick") ≡ None
unfolding serde_json_on_literals
tick_reads_nothing = refl

pub tick_is_no_body : (field : List ℕ) (m : Message) → field ≡ codes "tick" → IsMessageBody field m → ⊥
tick_is_no_body field m is body =
    let says = ap read (sym is) ∙ body.1.1 in
    let none = tick_reads_nothing in cc

message_one : (field : List ℕ) (m n : Option Message) → SaysMessage field m → SaysMessage field n → m ≡ n
message_one field None None a b = refl
message_one field None (Some n) a b = absurd (tick_is_no_body field n a b)
message_one field (Some m) None a b = absurd (tick_is_no_body field m b a)
message_one field (Some m) (Some n) a b = ap Some (at_most_one _ messages message_reader field m n a b)

-- the act that records a message, and a tick for none
act_of : Option Message → Act
act_of None = act.Tick
act_of (Some (message.Hello client incarnation version)) = act.Hello client incarnation version
act_of (Some (message.Request key call)) = act.Arrive key call
act_of (Some (message.Cancel key)) = act.Cancel key

act_again : (a : Act) → act_of (message_in a) ≡ a
unfolding act_of
act_again (act.Hello client incarnation version) = refl
act_again (act.Arrive key call) = refl
act_again (act.Cancel key) = refl
act_again act.Tick = refl

act_one : (field : List ℕ) (a b : Act) → SaysAct field a → SaysAct field b → a ≡ b
act_one field a b says says' = sym (act_again a) ∙ ap act_of (message_one field (message_in a) (message_in b)
    says says') ∙ act_again b

pub entry_one : (most : ℕ) (line : List ℕ) (a b : Entry) → ReadsEntryUpTo most line a
    → ReadsEntryUpTo most line b → a ≡ b
entry_one most line a b reads reads' =
    let same = fields_one reads.fields reads'.fields in
    let act = act_one reads'.act_field a.act b.act (subst (λ f. SaysAct f a.act) same.2 reads.says_act)
    reads'.says_act in
    λ i. record { moment = same.0 i; act = act i; partners = same.1 i }

-- a field that is not `tick` and no message's body says no act
pub says_none : (field : List ℕ) (said : Option Message) → ¬ (field ≡ codes "tick")
    → ((m : Message) → ¬ IsMessageBody field m) → ¬ SaysMessage field said
says_none field None other none says = other says
says_none field (Some m) other none says = none m says

-- what is refused for another cause than memory is no message's body
pub no_body : (bytes : List ℕ) (decoded : Result Message TextFault) (fault : TextFault)
    → Decodes Message IsMessageBody bytes decoded → decoded ≡ Err fault → line_fault fault ≡ line.Bad
    → (m : Message) → ¬ IsMessageBody bytes m
no_body bytes decoded text.NoMemory decodes was bad m body = absurd (cc)
no_body bytes decoded text.NotJson decodes was bad m body = elim (decodes.only m body) [
  | inl ok ↦ (cc)
  | inr
      none ↦ (cc)
]
no_body bytes decoded text.NotMessage decodes was bad m body = elim (decodes.only m body)
    [ inl ok ↦ (cc) | inr none ↦ (cc) ]
