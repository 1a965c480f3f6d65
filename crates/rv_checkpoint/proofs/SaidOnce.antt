-- A line says one thing.
use Rattle.std.proofs.Common.{◌≡◌, ◌++◌, ◌∙◌, ℕ, List, Some, drop, sym, subst, ap, refl}
use Rattle.rv_account.specs.state.Standing.{StandsFor}
use Rattle.rv_checkpoint.specs.Fields.{CutsNumber, CutsTexts, IsBodyOfReply, IsRequestOf}
use Rattle.rv_checkpoint.specs.Kinds.{word_before}
use Rattle.rv_checkpoint.specs.Saying.{SaysAsking, SaysTotals, SaysFields, SaysFresh, SaysHead, SaysOneLine}
use Rattle.rv_checkpoint.specs.Saying.{SaysLying}
use Rattle.rv_checkpoint.specs.Saying.{SaysReplied, SaysUnseen, SaysWaiting, session_by}
use Rattle.rv_checkpoint.specs.declared.head.StateHead.{StateHead}
use Rattle.rv_checkpoint.specs.declared.kind.LineKind.{LineKind}
use Rattle.rv_checkpoint.specs.declared.kind.LineKind.TheVariants as kind
use Rattle.rv_checkpoint.specs.declared.line.StateLine.{StateLine}
use Rattle.rv_checkpoint.specs.declared.line.StateLine.TheVariants.{Open, Client, End}
use Rattle.rv_checkpoint.proofs.Cuts.{cut_one, texts_one, version_one}
use Rattle.rv_checkpoint.proofs.FirstWords.{one_kind, same_fields}
use Rattle.rv_book.proofs.OfLines.Plain.{plainly_one}
use Rattle.rv_text.specs.Number.{WritesPlainly}
use Rattle.rv_session.specs.declared.client.ClientState.{ClientState}
use Rattle.rv_session.specs.declared.client.LastRequest.{LastRequest}
use Rattle.rv_session.specs.declared.client.LastRequest.TheVariants as last
use Rattle.rv_session.specs.declared.open.OpenPlace.{OpenPlace}
use Rattle.rv_text.specs.Bodies.{IsAnswerBody, IsCallBody, IsMessageBody}
use Rattle.rv_text.specs.Reading.{answers, calls, messages}
use Rattle.rv_text.specs.declared.answer.Answer.TheVariants as answer
use Rattle.rv_text.specs.declared.answer.Reply.{Reply}
use Rattle.rv_text.specs.declared.call.Call.{Call}
use Rattle.rv_text.specs.declared.call.Call.TheVariants as call
use Rattle.rv_text.specs.declared.call.Side.TheVariants.{Gives}
use Rattle.rv_text.specs.declared.message.Key.{Key}
use Rattle.rv_text.specs.declared.message.Message.{Message}
use Rattle.rv_text.specs.declared.message.Message.TheVariants as message
use Rattle.rv_text.proofs.Decoding.{at_most_one}
use Rattle.rv_text.proofs.Readers.{call_reader, message_reader}
use Rattle.rv_text.proofs.AnswerReaders.{answer_reader}

-- ---- bodies

one_message : {body other : List ℕ} {m n : Message} → body ≡ other → IsMessageBody body m
    → IsMessageBody other n → m ≡ n
one_message {other = other} {m = m} {n = n} same a b =
    at_most_one _ messages message_reader other m n (subst (λ l. IsMessageBody l m) same a) b

pub one_call : {body other : List ℕ} {m n : Call} → body ≡ other → IsCallBody body m → IsCallBody other n
    → m ≡ n
one_call {other = other} {m = m} {n = n} same a b =
    at_most_one _ calls call_reader other m n (subst (λ l. IsCallBody l m) same a) b

-- a request's key and call, or a reply's key and reply
pub request_one : {epoch : ℕ} {body other : List ℕ} {k l : Key} {c d : Call} → body ≡ other
    → IsRequestOf epoch body k c → IsRequestOf epoch other l d → (k ≡ l) × (c ≡ d)
request_one {k = k} {l = l} {c = c} {d = d} same a b =
    let told : message.Request k c ≡ message.Request l d = one_message same a.says b.says in (cc, cc)

reply_one : {epoch : ℕ} {body other : List ℕ} {k l : Key} {c d : Reply} → body ≡ other
    → IsBodyOfReply epoch body k c → IsBodyOfReply epoch other l d → (k ≡ l) × (c ≡ d)
reply_one {other = other} {k = k} {l = l} {c = c} {d = d} same a b =
    let told : answer.Replied k c ≡ answer.Replied l d = at_most_one _ answers answer_reader other _ _
    (subst (λ bytes. IsAnswerBody bytes (answer.Replied k c)) same a.says) b.says in (cc, cc)

-- ---- places

same_place : (a b : OpenPlace) → a.place ≡ b.place → a.side ≡ b.side → a.item ≡ b.item → a.limit ≡ b.limit
    → a.waiter ≡ b.waiter → a ≡ b
same_place a b p q r s t = λ i. record { place = p i; side = q i; item = r i; limit = s i; waiter = t i }

lying_one : {fields : List ℕ} {a b : OpenPlace} → SaysLying fields a → SaysLying fields b → a ≡ b
lying_one {a = a} {b = b} x y =
    let cut = cut_one x.place y.place in
    let put : call.Put x.queue x.item ≡ call.Put y.queue y.item = one_call cut.1 x.says y.says in
    let queue : x.queue ≡ y.queue = cc in
    let item : x.item ≡ y.item = cc in
    same_place a b cut.0 (x.side ∙ ap (λ q. Gives q) queue ∙ sym y.side) (x.has ∙ ap Some item ∙ sym y.has)
    (x.unlimited ∙ sym y.unlimited) (x.alone ∙ sym y.alone)

same_standing : (a b : OpenPlace) (since later : ℕ) (c d : Call) → since ≡ later → c ≡ d → StandsFor a since c
    → StandsFor b later d → (a.side ≡ b.side) × (a.item ≡ b.item) × (a.limit ≡ b.limit)
same_standing a b since later c d same is x y =
    let moved : StandsFor a later d = subst (λ s. StandsFor a s d) same (subst (λ e. StandsFor a since e) is
    x) in
    (moved.side ∙ sym y.side, moved.item ∙ sym y.item, moved.limit ∙ sym y.limit)

waiting_one : {epoch : ℕ} {fields : List ℕ} {a b : OpenPlace} → SaysWaiting epoch fields a
    → SaysWaiting epoch fields b → a ≡ b
waiting_one {a = a} {b = b} x y =
    let cut = cut_one x.place y.place in
    let there = cut_one (subst (λ l. CutsNumber l x.since x.body) cut.1 x.arrived) y.arrived in
    let asked = request_one there.1 x.says y.says in
    let stands = same_standing a b x.since y.since x.call y.call there.0 asked.1 x.stands y.stands in
    same_place a b cut.0 stands.0 stands.1 stands.2
    (x.waiter ∙ (λ i. Some (record { key = asked.0 i; since = there.0 i })) ∙ sym y.waiter)

-- ---- sessions

-- a client, and its session
abbrev SameClient : ℕ → ℕ → ClientState → ClientState → Type 0
SameClient client other a b = (client ≡ other) × (a ≡ b)

fresh_one : {body : List ℕ} {client other : ℕ} {a b : ClientState} → SaysFresh body client a
    → SaysFresh body other b → SameClient client other a b
fresh_one {client = client} {other = other} {a = a} {b = b} x y =
    let hello : message.Hello client a.incarnation a.version ≡ message.Hello other b.incarnation b.version
    = sym x.begins.is ∙ one_message refl x.says y.says ∙ y.begins.is in
    let one : client ≡ other = cc in
    let incarnation : a.incarnation ≡ b.incarnation = cc in
    let version : a.version ≡ b.version = cc in
    let asked = x.begins.request ∙ sym y.begins.request in
    let number = x.begins.unasked ∙ sym y.begins.unasked in (
      one,
      λ i. record {
        incarnation = incarnation i;
        version = version i;
        last = number i;
        request =
            asked i;
      },
    )

-- sessions by the same key, version and request
by_key : {client other : ℕ} {a b : ClientState} (k l : Key) (r s : LastRequest) → client ≡ k.client
    → other ≡ l.client → a ≡ session_by k a.version r → b ≡ session_by l b.version s → k ≡ l → r ≡ s
    → a.version ≡ b.version → SameClient client other a b
by_key k l r s is is' by by' key request version = (
  is ∙ ap (λ x. x.client) key ∙ sym is',
  by ∙ (λ i. session_by (key i) (version i) (request i)) ∙ sym by',
)

asking_one : {epoch : ℕ} {fields : List ℕ} {client other : ℕ} {a b : ClientState}
    → SaysAsking epoch fields client a → SaysAsking epoch fields other b → SameClient client other a b
asking_one x y =
    let version = version_one x.version y.version in
    let there = cut_one (subst (λ l. CutsNumber l x.place x.body) version.1 x.at_place) y.at_place in
    let asked = request_one there.1 x.says y.says in
    by_key x.key y.key _ _ x.client_is y.client_is x.session_is y.session_is asked.0
    (λ i. last.Waits (there.0 i) (asked.1 i)) version.0

replied_one : {epoch : ℕ} {fields : List ℕ} {client other : ℕ} {a b : ClientState}
    → SaysReplied epoch fields client a → SaysReplied epoch fields other b → SameClient client other a b
replied_one x y =
    let version = version_one x.version y.version in
    let texts = texts_one (subst (λ l. CutsTexts l x.text x.body) version.1 x.texts) y.texts in
    let asked = one_call texts.0 x.asked y.asked in
    let told = reply_one texts.1 x.says y.says in
    by_key x.key y.key _ _ x.client_is y.client_is x.session_is y.session_is told.0
    (λ i. last.RepliedTo (asked i) (told.1 i)) version.0

unseen_one : {epoch : ℕ} {fields : List ℕ} {client other : ℕ} {a b : ClientState}
    → SaysUnseen epoch fields client a → SaysUnseen epoch fields other b → SameClient client other a b
unseen_one x y =
    let version = version_one x.version y.version in
    let cancel : message.Cancel x.key ≡ message.Cancel y.key = one_message version.1 x.says.says y.says.says
    in
    let key : x.key ≡ y.key = cc in
    by_key x.key y.key _ _ x.client_is y.client_is x.session_is y.session_is key refl version.0

-- ---- the first line and the last

pub head_once : {line : List ℕ} {a b : StateHead} → SaysHead line a → SaysHead line b → a ≡ b
head_once {a = a} {b = b} x y =
    let fields : x.fields ≡ y.fields = ap (drop 8) (sym x.parts ∙ y.parts) in
    let epoch = cut_one (subst (λ l. CutsNumber l a.epoch x.after) fields x.epoch) y.epoch in
    let moment = cut_one (subst (λ l. CutsNumber l a.moment x.field) epoch.1 x.moment) y.moment in
    let number = plainly_one y.field a.length b.length
    (subst (λ l. WritesPlainly l a.length) moment.1 x.length.0) y.length.0 in
    λ i. record { epoch = epoch.0 i; moment = moment.0 i; length = number i }

end_one : {fields : List ℕ} {o o' c c' : ℕ} → SaysTotals fields o c → SaysTotals fields o' c'
    → (o ≡ o') × (c ≡ c')
end_one {c = c} {c' = c'} x y =
    let cut = cut_one x.places y.places in
    (cut.0, plainly_one y.field c c' (subst (λ l. WritesPlainly l c) cut.1 x.known.0) y.known.0)

-- ---- a line

client_once : {client other : ℕ} {a b : ClientState} → SameClient client other a b
    → Client client a ≡ Client other b
client_once same = λ i. Client (same.0 i) (same.1 i)

pub fields_once : (epoch : ℕ) (k : LineKind) (fields : List ℕ) (a b : StateLine) → SaysFields epoch k fields a
    → SaysFields epoch k fields b → a ≡ b
fields_once epoch kind.Lies fields (Open a) (Open b) x y = ap Open (lying_one x y)
fields_once epoch kind.Lies fields (Open a) _ x y = absurd y
fields_once epoch kind.Lies fields _ b x y = absurd x
fields_once epoch kind.Waits fields (Open a) (Open b) x y = ap Open (waiting_one x y)
fields_once epoch kind.Waits fields (Open a) _ x y = absurd y
fields_once epoch kind.Waits fields _ b x y = absurd x
fields_once epoch kind.Fresh fields (Client a s) (Client b t) x y = client_once (fresh_one x y)
fields_once epoch kind.Fresh fields (Client a s) _ x y = absurd y
fields_once epoch kind.Fresh fields _ b x y = absurd x
fields_once epoch kind.Asks fields (Client a s) (Client b t) x y = client_once (asking_one x y)
fields_once epoch kind.Asks fields (Client a s) _ x y = absurd y
fields_once epoch kind.Asks fields _ b x y = absurd x
fields_once epoch kind.Replied fields (Client a s) (Client b t) x y = client_once (replied_one x y)
fields_once epoch kind.Replied fields (Client a s) _ x y = absurd y
fields_once epoch kind.Replied fields _ b x y = absurd x
fields_once epoch kind.Unseen fields (Client a s) (Client b t) x y = client_once (unseen_one x y)
fields_once epoch kind.Unseen fields (Client a s) _ x y = absurd y
fields_once epoch kind.Unseen fields _ b x y = absurd x
fields_once epoch kind.End fields (End o c) (End o' c') x y =
    let same = end_one x y in λ i. End (same.0 i) (same.1 i)
fields_once epoch kind.End fields (End o c) _ x y = absurd y
fields_once epoch kind.End fields _ b x y = absurd x

pub line_once : (epoch : ℕ) (line : List ℕ) (a b : StateLine) → SaysOneLine epoch line a
    → SaysOneLine epoch line b
    → a ≡ b
line_once epoch line a b x y =
    let kinds = one_kind x.kind y.kind x.fields y.fields (sym x.parts ∙ y.parts) in
    let fields = same_fields y.kind x.fields y.fields
    (ap (λ k. word_before k ++ x.fields) (sym kinds) ∙ sym x.parts ∙ y.parts) in
    fields_once epoch y.kind y.fields a b
    (subst (λ f. SaysFields epoch y.kind f a) fields (subst (λ k. SaysFields epoch k x.fields a) kinds
    x.says))
    y.says
