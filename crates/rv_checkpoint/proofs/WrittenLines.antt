-- What is written for a state is read as that state, line by line.
use Rattle.std.proofs.Common.{◌≡◌, ◌≤◌, ◌∷◌, [], ◌++◌, ◌∙◌, ℕ, List, Option, Some, None, length, map}
use Rattle.std.proofs.Common.{ap, arith, codes, refl, subst, suc, sym, inl, inr}
use Rattle.std.specs.Fmt.{decimal}
use Rattle.std.specs.List.{All, AllZip}
use Rattle.std.specs.Prelude.{slice_get}
use Rattle.std.proofs.lemmas.Bool.{cases_lt}
use Rattle.std.proofs.lemmas.List.Elements.{All-head, All-tail}
use Rattle.std.proofs.lemmas.Option.{get_or_from_slice_get, slice_get_within}
use Rattle.rv_account.proofs.OfState.Resumed.Decided.{resume_passes}
use Rattle.rv_account.specs.state.Agreement.{last_key_of}
use Rattle.rv_account.specs.state.State.{State, Waiter}
use Rattle.rv_account.specs.state.resume.Checking.{ClientsRise, IsSettledIn, PassesAll, StandsWell, state_by}
use Rattle.rv_account.specs.state.resume.Resuming.{CanResume, FitsLastRequest, FitsSession}
use Rattle.rv_book.proofs.OfLines.Cutting.{Lacks}
use Rattle.rv_book.proofs.OfLines.OneLine.{answer_in_one_line, call_in_one_line, decimal_in_line, line_append}
use Rattle.rv_book.proofs.OfLines.OneLine.{line_cons, message_in_one_line, word_in_line}
use Rattle.rv_book.proofs.OfLines.Plain.{decimal_is_plain}
use Rattle.rv_book.proofs.OfLines.ReadBack.{AllLines, cut_again}
use Rattle.rv_book.specs.lines.Lines.{lines, printed_lines}
use Rattle.rv_checkpoint.proofs.OneCall.{call_once}
use Rattle.rv_checkpoint.specs.Fields.{CutsNumber, max_field}
use Rattle.rv_checkpoint.specs.Kinds.{word_before}
use Rattle.rv_checkpoint.specs.Laws.{WrittenState}
use Rattle.rv_checkpoint.specs.Reading.{SaysState, all_said, parts_said}
use Rattle.rv_checkpoint.specs.Saying.{SaysFields, SaysHead, SaysOneLine, session_by}
use Rattle.rv_checkpoint.specs.Written.{IsLineFor, IsTextSince, after_number, after_version, client_text}
use Rattle.rv_checkpoint.specs.Written.{end_text, head_text_of, session_text}
use Rattle.rv_checkpoint.specs.declared.head.StateHead.{StateHead}
use Rattle.rv_checkpoint.specs.declared.kind.LineKind.{LineKind}
use Rattle.rv_checkpoint.specs.declared.kind.LineKind.TheVariants as kind
use Rattle.rv_checkpoint.specs.declared.line.StateLine.{StateLine}
use Rattle.rv_checkpoint.specs.declared.line.StateLine.TheVariants.{Open, Client, End}
use Rattle.rv_session.specs.declared.client.ClientState.{ClientState}
use Rattle.rv_session.specs.declared.client.LastRequest.{LastRequest}
use Rattle.rv_session.specs.declared.client.LastRequest.TheVariants as last
use Rattle.rv_session.specs.declared.open.OpenPlace.{OpenPlace}
use Rattle.rv_text.proofs.Written.{written_answer, written_body, written_call}
use Rattle.rv_text.specs.Bodies.{answer_text, call_text, message_text}
use Rattle.rv_text.specs.Limits.{FitsAnswer, FitsCall, FitsIdentifier, FitsItem, FitsKey, FitsMessage}
use Rattle.rv_text.specs.Limits.{FitsQueue}
use Rattle.rv_text.specs.Number.{WritesUpTo}
use Rattle.rv_text.specs.Versions.{number_of_version}
use Rattle.rv_text.specs.declared.answer.Answer.TheVariants as answer
use Rattle.rv_text.specs.declared.call.Call.{Call}
use Rattle.rv_text.specs.declared.call.Call.TheVariants as call
use Rattle.rv_text.specs.declared.call.Side.TheVariants.{Gives}
use Rattle.rv_text.specs.declared.message.Key.{Key}
use Rattle.rv_text.specs.declared.message.Message.TheVariants as message
use Rattle.rv_text.specs.declared.version.Version.{Version}
use Rattle.rv_text.specs.declared.version.Version.TheVariants.{One, Two}

-- ---- fields

written_up_to : (n : ℕ) → n ≤ max_field → WritesUpTo max_field (decimal n) n
written_up_to n within = (decimal_is_plain n (omega (arith, within)), within)

written_number : (n : ℕ) (rest : List ℕ) → n ≤ max_field → CutsNumber (after_number n rest) n rest
written_number n rest within = record { field = decimal n; parts = refl; says = written_up_to n within }

number_in_line : (n : ℕ) (rest : List ℕ) → n ≤ max_field → Lacks 10 rest → Lacks 10 (after_number n rest)
number_in_line n rest within lacks = line_append (decimal n) (32 ∷ rest)
    (decimal_in_line n (omega (arith, within))) (line_cons 32 rest (λ same. omega arith) lacks)

version_within : (version : Version) → number_of_version version ≤ max_field
version_within One = omega arith
version_within Two = omega arith

-- ---- a line, of a kind's word and fields

-- it says this, and is one line
pub record IsLineOf (epoch : ℕ) (text : List ℕ) (said : StateLine) : Type 0 where
  pub says : SaysOneLine epoch text said
  pub one : Lacks 10 text

word_lacks : (k : LineKind) → Lacks 10 (word_before k)
word_lacks kind.Lies = word_in_line (word_before kind.Lies) refl
word_lacks kind.Waits = word_in_line (word_before kind.Waits) refl
word_lacks kind.Fresh = word_in_line (word_before kind.Fresh) refl
word_lacks kind.Asks = word_in_line (word_before kind.Asks) refl
word_lacks kind.Replied = word_in_line (word_before kind.Replied) refl
word_lacks kind.Unseen = word_in_line (word_before kind.Unseen) refl
word_lacks kind.End = word_in_line (word_before kind.End) refl

of_kind : (epoch : ℕ) (k : LineKind) (fields : List ℕ) (said : StateLine) → SaysFields epoch k fields said
    → Lacks 10 fields → IsLineOf epoch (word_before k ++ fields) said
of_kind epoch k fields said says lacks = record {
  says = record { kind = k; fields = fields; parts = refl; says = says };
  one = line_append (word_before k) fields (word_lacks k) lacks;
}

-- ---- a client's session

module _ (epoch client : ℕ) (session : ClientState) (fits : FitsSession epoch client session)
    (epoch_fits : FitsIdentifier epoch)
    (within : (place : ℕ) (c : Call) → session.request ≡ last.Waits place c → place ≤ max_field)
  where
    abbrev own : Key
    own = last_key_of epoch client session

    -- what was asked has a number
    key_fits : (session.request ≡ last.Fresh → ⊥) → FitsKey own
    key_fits asked = (epoch_fits, fits.client_fits, fits.incarnation, numbered)
      where
        numbered : FitsIdentifier session.last
        numbered = elim (cases_lt session.last 1) [
          | inl none ↦ absurd (asked (fits.unasked (omega (arith, none))))
          | inr some ↦ (some, fits.last)
        ]

    session_is : (r : LastRequest) → session.request ≡ r → session ≡ session_by own session.version r
    session_is r is = λ i. record {
      incarnation = session.incarnation;
      version = session.version;
      last = session.last;
      request = is i;
    }

    pub client_by : (r : LastRequest) → session.request ≡ r
        → IsLineOf epoch (session_text client session.incarnation session.version own r)
        (Client client session)
    client_by last.Fresh is =
        let hello = message.Hello client session.incarnation session.version in
        let hello_fits : FitsMessage hello = (fits.client_fits, fits.incarnation) in
        of_kind epoch kind.Fresh (message_text hello) (Client client session)
        (record {
          hello = hello;
          says = written_body hello hello_fits;
          begins = record { is = refl; unasked = fits.fresh is; request = is };
        }) (message_in_one_line hello hello_fits)
    client_by (last.Waits place c) is =
        let request = message.Request own c in
        let call_fits : FitsCall c = subst (λ q. FitsLastRequest epoch session.version q) is fits.request in
        let request_fits : FitsMessage request = (
          key_fits (λ fresh. let no : last.Fresh ≡ last.Waits place
              c = sym fresh ∙ is in
              absurd (cc)),
          call_fits,
        ) in
        let body = message_text request in
        let low = within place c is in
        of_kind epoch kind.Asks (after_version session.version (after_number place body))
        (Client client session) (record {
          after = after_number place body;
          body = body;
          version = written_number _ (after_number place body) (version_within session.version);
          place = place;
          at_place = written_number place body low;
          key = own;
          call = c;
          says = record { says = written_body request request_fits; epoch_is = refl };
          client_is = refl;
          session_is = session_is (last.Waits place c) is;
        })
        (number_in_line _ (after_number place body) (version_within session.version)
        (number_in_line place body low (message_in_one_line request request_fits)))
    client_by (last.RepliedTo c reply) is =
        let told = answer.Replied own reply in
        let whole = subst (λ q. FitsLastRequest epoch session.version q) is fits.request in
        let told_fits : FitsAnswer told = (
          key_fits (λ fresh. let no : last.Fresh ≡ last.RepliedTo c reply =
              sym fresh ∙ is in
              absurd (cc)),
          whole.1,
          whole.2,
        ) in
        let text = call_text c in
        let body = answer_text told in
        let long : length text ≤ max_field = omega (arith, (written_call c whole.0).0.1) in
        of_kind epoch kind.Replied (after_version session.version (after_number (length text) (text ++ body)))
        (Client client session) (record {
          after = after_number (length text) (text ++ body);
          text = text;
          body = body;
          version = written_number _ (after_number (length text) (text ++ body))
              (version_within session.version);
          texts = written_number (length text) (text ++ body) long;
          key = own;
          call = c;
          reply = reply;
          asked = written_call c whole.0;
          says = record { says = written_answer told told_fits; epoch_is = refl };
          client_is = refl;
          session_is = session_is (last.RepliedTo c reply) is;
        })
        (number_in_line _ (after_number (length text) (text ++ body)) (version_within session.version)
        (number_in_line (length text) (text ++ body) long
        (line_append text body (call_in_one_line c whole.0) (answer_in_one_line told told_fits))))
    client_by last.CancelledUnseen is =
        let cancel = message.Cancel own in
        let cancel_fits : FitsMessage cancel = key_fits (λ fresh. let no : last.Fresh ≡ last.CancelledUnseen =
        sym fresh ∙ is in
        absurd (cc)) in
        let body = message_text cancel in
        of_kind epoch kind.Unseen (after_version session.version body) (Client client session) (record {
          body = body;
          version = written_number _ body (version_within session.version);
          key = own;
          says = record { says = written_body cancel cancel_fits; epoch_is = refl };
          client_is = refl;
          session_is = session_is last.CancelledUnseen is;
        })
        (number_in_line _ body (version_within session.version) (message_in_one_line cancel cancel_fits))

-- ---- each of a list

all_at : {X : Type 0} (P : X → Type 0) (xs : List X) → All P xs → (i : ℕ) (x : X) → slice_get xs i ≡ Some x
    → P x
all_at P xs all i x at = subst P (get_or_from_slice_get xs i x x at) (all i x (slice_get_within xs i x at))

-- lines that say these things, each of which is one line
record AreLinesOf (epoch : ℕ) (texts : List (List ℕ)) (said : List StateLine) : Type 0 where
  pub says : AllZip (SaysOneLine epoch) texts said
  pub lines_are : AllLines texts

no_lines : (epoch : ℕ) → AreLinesOf epoch [] []
no_lines epoch = record { says = tt; lines_are = tt }

line_more : (epoch : ℕ) (text : List ℕ) (said : StateLine) (texts : List (List ℕ)) (more : List StateLine)
    → IsLineOf epoch text said → AreLinesOf epoch texts more → AreLinesOf epoch (text ∷ texts) (said ∷ more)
line_more epoch text said texts more one rest =
    record { says = (one.says, rest.says); lines_are = (one.one, rest.lines_are) }

lines_joined : (epoch : ℕ) (texts others : List (List ℕ)) (said more : List StateLine)
    → AreLinesOf epoch texts said → AreLinesOf epoch others more
    → AreLinesOf epoch (texts ++ others) (said ++ more)
lines_joined epoch [] others [] more first second = second
lines_joined epoch [] others (x ∷ said) more first second = absurd first.says
lines_joined epoch (t ∷ texts) others [] more first second = absurd first.says
lines_joined epoch (t ∷ texts) others (x ∷ said) more first second =
    let rest = lines_joined epoch texts others said more
    (record { says = first.says.1; lines_are = first.lines_are.1 }) second in
    record { says = (first.says.0, rest.says); lines_are = (first.lines_are.0, rest.lines_are) }

-- the lines of some things said, and then of others
record Split (epoch : ℕ) (said more : List StateLine) (texts : List (List ℕ)) : Type 0 where
  pub first : List (List ℕ)
  pub second : List (List ℕ)
  pub parts : texts ≡ first ++ second
  pub front : AllZip (IsLineFor epoch) said first
  pub back : AllZip (IsLineFor epoch) more second

zip_split : (epoch : ℕ) (said more : List StateLine) (texts : List (List ℕ))
    → AllZip (IsLineFor epoch) (said ++ more) texts → Split epoch said more texts
zip_split epoch [] more texts zip =
    record { first = []; second = texts; parts = refl; front = tt; back = zip }
zip_split epoch (x ∷ said) more [] zip = absurd zip
zip_split epoch (x ∷ said) more (t ∷ texts) zip =
    let rest = zip_split epoch said more texts zip.1 in record {
      first = t ∷ rest.first;
      second = rest.second;
      parts = ap (λ l. t ∷ l) rest.parts;
      front = (zip.0, rest.front);
      back = rest.back;
    }

-- ---- a state

module _ (head : StateHead) (opens : List OpenPlace) (clients : List (ℕ × ClientState))
    (is : PassesAll head.epoch head.moment head.length opens clients)
  where
    epoch_within : head.epoch ≤ max_field
    epoch_within = omega (arith, is.identifier.1)

    length_within : head.length ≤ max_field
    length_within = omega (arith, is.room.space)

    settled : (i client : ℕ) (session : ClientState) → slice_get clients i ≡ Some (client, session)
        → IsSettledIn head.epoch opens client session
    settled i client session at =
        all_at (λ known. IsSettledIn head.epoch opens known.0 known.1) clients is.settled i (client, session)
        at

    stands_at : (i : ℕ) (there : OpenPlace) → slice_get opens i ≡ Some there
        → StandsWell head.epoch head.moment head.length clients there
    stands_at i there at =
        all_at (StandsWell head.epoch head.moment head.length clients) opens is.stand i there at

    waits_within : (i client : ℕ) (session : ClientState) → slice_get clients i ≡ Some (client, session)
        → (place : ℕ) (c : Call) → session.request ≡ last.Waits place c → place ≤ max_field
    waits_within i client session at place c waits =
        let awaited = (settled i client session at).standing place c waits in
        omega (
          arith,
          awaited.at_place,
          (stands_at awaited.i awaited.there awaited.stands).below,
          length_within,
        )

    client_line_of : (i client : ℕ) (session : ClientState) → slice_get clients i ≡ Some (client, session)
        → IsLineOf head.epoch (client_text head.epoch client session) (Client client session)
    client_line_of i client session at =
        client_by head.epoch client session (settled i client session at).fits is.identifier
        (waits_within i client session at) session.request refl

    -- an open place
    open_by : (there : OpenPlace) (w : Option Waiter) (text : List ℕ) → there.waiter ≡ w
        → StandsWell head.epoch head.moment head.length clients there → IsTextSince there w text
        → IsLineOf head.epoch text (Open there)
    open_by there None text alone stands (queue, item, side, has, text_is) =
        let lies = stands.lies alone in
        let sides : Gives lies.queue ≡ Gives queue = sym lies.side ∙ side in
        let items : Some lies.item ≡ Some item = sym lies.has ∙ has in
        let queues : lies.queue ≡ queue = cc in
        let same : lies.item ≡ item = cc in
        let put = call.Put queue item in
        let put_fits : FitsCall put =
        ((subst FitsQueue queues lies.queue_fits, subst FitsItem same lies.item_fits), tt) in
        let low : there.place ≤ max_field = omega (arith, stands.below, length_within) in
        subst (λ t. IsLineOf head.epoch t (Open there)) (sym text_is)
        (of_kind head.epoch kind.Lies (after_number there.place (call_text put)) (Open there) (record {
          body = call_text put;
          place = written_number there.place (call_text put) low;
          queue = queue;
          item = item;
          says = written_call put put_fits;
          side = side;
          has = has;
          unlimited = lies.unlimited;
          alone = alone;
        }) (number_in_line there.place (call_text put) low (call_in_one_line put put_fits)))
    open_by there (Some w) text waits stands (c, stands_for, text_is) =
        let last_is = stands.awaited w waits in
        let session = last_is.session in
        let fits = (settled last_is.i w.key.client session last_is.known).fits in
        let one = call_once there w.since last_is.last.call c last_is.last.stands stands_for in
        let asked : session.request ≡ last.Waits there.place c =
        last_is.last.waits ∙ ap (λ d. last.Waits there.place d) one in
        let call_fits : FitsCall c = subst (λ q. FitsLastRequest head.epoch session.version q) asked
        fits.request in
        let own = key_fits head.epoch w.key.client session fits is.identifier
        (waits_within last_is.i w.key.client session last_is.known)
        (λ fresh. let no : last.Fresh ≡ last.Waits there.place c = sym fresh ∙ asked in absurd (cc)) in
        let request = message.Request w.key c in
        let request_fits : FitsMessage request = (subst FitsKey (sym last_is.last.key_is) own, call_fits) in
        let body = message_text request in
        let low : there.place ≤ max_field = omega (arith, stands.below, length_within) in
        let since : w.since ≤ max_field = omega (arith, stands.began w waits, is.room.time) in
        subst (λ t. IsLineOf head.epoch t (Open there)) (sym text_is)
        (of_kind head.epoch kind.Waits (after_number there.place (after_number w.since body)) (Open there)
        (record {
          after = after_number w.since body;
          body = body;
          place = written_number there.place (after_number w.since body) low;
          since = w.since;
          arrived = written_number w.since body since;
          key = w.key;
          call = c;
          says = record {
            says = written_body request request_fits;
            epoch_is = ap (λ k. k.epoch) last_is.last.key_is;
          };
          stands = stands_for;
          waiter = waits;
        })
        (number_in_line there.place (after_number w.since body) low
        (number_in_line w.since body since (message_in_one_line request request_fits))))

    -- all of them
    opens_written : (places : List OpenPlace) (texts : List (List ℕ))
        → All (StandsWell head.epoch head.moment head.length clients) places
        → AllZip (IsLineFor head.epoch) (map (λ there. Open there) places) texts
        → AreLinesOf head.epoch texts (map (λ there. Open there) places)
    opens_written [] [] stand written = no_lines head.epoch
    opens_written [] (t ∷ texts) stand written = absurd written
    opens_written (there ∷ places) [] stand written = absurd written
    opens_written (there ∷ places) (t ∷ texts) stand written =
        line_more head.epoch t (Open there) texts (map (λ o. Open o) places)
        (open_by there there.waiter t refl (All-head (StandsWell head.epoch head.moment head.length clients)
        there places stand) written.0)
        (opens_written places texts (All-tail (StandsWell head.epoch head.moment head.length clients) there
        places stand) written.1)

    clients_written : (known : List (ℕ × ClientState)) (texts : List (List ℕ))
        → ((i client : ℕ) (session : ClientState) → slice_get known i ≡ Some (client, session)
        → IsLineOf head.epoch (client_text head.epoch client session) (Client client session))
        → AllZip (IsLineFor head.epoch) (map (λ k. Client k.0 k.1) known) texts
        → AreLinesOf head.epoch texts (map (λ k. Client k.0 k.1) known)
    clients_written [] [] each written = no_lines head.epoch
    clients_written [] (t ∷ texts) each written = absurd written
    clients_written (k ∷ known) [] each written = absurd written
    clients_written (k ∷ known) (t ∷ texts) each written =
        line_more head.epoch t (Client k.0 k.1) texts (map (λ l. Client l.0 l.1) known)
        (subst (λ l. IsLineOf head.epoch l (Client k.0 k.1)) (sym written.0) (each 0 k.0 k.1 refl))
        (clients_written known texts (λ i client session at. each (suc i) client session at) written.1)

    end_written : IsLineOf head.epoch (end_text (length opens) (length clients))
        (End (length opens) (length clients))
    end_written =
        let places : length opens ≤ max_field = omega (arith, is.room.places) in
        let numbers : length clients ≤ max_field = omega (arith, is.room.clients) in
        of_kind head.epoch kind.End (after_number (length opens) (decimal (length clients)))
        (End (length opens) (length clients)) (record {
          field = decimal (length clients);
          places = written_number (length opens) (decimal (length clients)) places;
          known = written_up_to (length clients) numbers;
        })
        (number_in_line (length opens) (decimal (length clients)) places
        (decimal_in_line (length clients) (omega (arith, numbers))))

    last_written : (texts : List (List ℕ))
        → AllZip (IsLineFor head.epoch) (End (length opens) (length clients) ∷ []) texts
        → AreLinesOf head.epoch texts (End (length opens) (length clients) ∷ [])
    last_written [] written = absurd written
    last_written (t ∷ []) written =
        line_more head.epoch t (End (length opens) (length clients)) [] []
        (subst (λ l. IsLineOf head.epoch l (End (length opens) (length clients))) (sym written.0) end_written)
        (no_lines head.epoch)
    last_written (t ∷ u ∷ texts) written = absurd written.1

    rest_written : (texts : List (List ℕ)) → AllZip (IsLineFor head.epoch) (all_said opens clients) texts
        → AreLinesOf head.epoch texts (all_said opens clients)
    rest_written texts written =
        let whole = zip_split head.epoch (parts_said opens clients) (End (length opens) (length clients) ∷ [])
        texts written in
        let parts = zip_split head.epoch (map (λ there. Open there) opens) (map (λ k. Client k.0 k.1) clients)
        whole.first whole.front in
        let both = lines_joined head.epoch parts.first parts.second (map (λ there. Open there) opens)
        (map (λ k. Client k.0 k.1) clients) (opens_written opens parts.first is.stand parts.front)
        (clients_written clients parts.second client_line_of parts.back) in
        let all = lines_joined head.epoch whole.first whole.second (parts_said opens clients)
        (End (length opens) (length clients) ∷ [])
        (subst (λ l. AreLinesOf head.epoch l (parts_said opens clients)) (sym parts.parts) both)
        (last_written whole.second whole.back) in
        subst (λ l. AreLinesOf head.epoch l (all_said opens clients)) (sym whole.parts) all

    head_written : SaysHead (head_text_of head) head
    head_written = record {
      fields = after_number head.epoch (after_number head.moment (decimal head.length));
      after = after_number head.moment (decimal head.length);
      field = decimal head.length;
      parts = refl;
      epoch = written_number head.epoch (after_number head.moment (decimal head.length)) epoch_within;
      moment = written_number head.moment (decimal head.length) is.room.time;
      length = written_up_to head.length length_within;
    }

    head_in_line : Lacks 10 (head_text_of head)
    head_in_line = line_append (codes "state 1 ") (after_number head.epoch (after_number head.moment (decimal
        head.length))) (word_in_line (codes "state 1 ") refl)
        (number_in_line head.epoch (after_number head.moment (decimal head.length)) epoch_within
        (number_in_line head.moment (decimal head.length) is.room.time
        (decimal_in_line head.length (omega (arith, length_within)))))

    pub state_written : (texts : List (List ℕ)) (s : State)
        → s ≡ state_by head.epoch head.moment head.length opens clients → ClientsRise clients → CanResume s
        → AllZip (IsLineFor head.epoch) (all_said opens clients) texts
        → SaysState (lines (printed_lines (head_text_of head ∷ texts))) s
    state_written texts s same rise resumes written =
        let rest = rest_written texts written in record {
          head = head;
          first = head_text_of head;
          rest = texts;
          parts = cut_again (head_text_of head ∷ texts) (head_in_line, rest.lines_are);
          says_head = head_written;
          opens = opens;
          clients = clients;
          says = rest.says;
          rise = rise;
          state = same;
          resumes = resumes;
        }

pub written_again : WrittenState
written_again head opens clients texts s same rise resumes written =
    state_written head opens clients
    (resume_passes head.epoch head.moment head.length opens clients rise (subst CanResume same resumes)) texts
    s
    same rise resumes written
