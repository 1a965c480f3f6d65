-- A call or a message is found exactly where the members of its row are.
use Rattle.std.proofs.Common.{◌≡◌, ◌==◌, ℕ, List, [], ◌∷◌, codes, Bool, true, false, if◌then◌else◌}
use Rattle.std.proofs.Common.{Option, Some, None, refl, subst}
use Rattle.std.proofs.lemmas.Bool.Decides.{Decides-eqb}
use Rattle.serde_json.specs.Data.{unsigned, number, string, Members}
use Rattle.rv_text.specs.declared.message.Key.{Key}
use Rattle.rv_text.specs.declared.message.Message.{Message}
use Rattle.rv_text.specs.declared.message.Message.TheVariants as message
use Rattle.rv_text.specs.declared.call.Wait.{Wait}
use Rattle.rv_text.specs.declared.call.Wait.TheVariants as wait
use Rattle.rv_text.specs.declared.call.Call.{Call}
use Rattle.rv_text.specs.declared.call.Call.TheVariants as call
use Rattle.rv_text.specs.declared.version.Version.{Version}
use Rattle.rv_text.specs.declared.version.Version.TheVariants.{One, Two}
use Rattle.rv_text.specs.Members.{wait_value, members_of}
use Rattle.rv_text.specs.Rows.{key_row, call_row, version_row, message_row}
use Rattle.rv_text.specs.Limits.{FitsMessage}
use Rattle.rv_text.specs.Reading.{◌>>=◌, whole_among, queue_among, item_among, wait_lines, wait_word_among}
use Rattle.rv_text.specs.Reading.{by_number, wait_among}
use Rattle.rv_text.specs.Reading.{key_among, hello_among, request_among, cancel_among, call_lines, call_among}
use Rattle.rv_text.specs.Reading.{message_lines, message_among}
use Rattle.rv_text.specs.Reading.{version_told, version_among, messages, calls}
use Rattle.rv_text.proofs.Sound.{call_sound, message_sound}
use Rattle.rv_text.proofs.Steps.{step_found, last_found, Has, HasRow, whole_found, text_found, among_found}
use Rattle.rv_text.proofs.Steps.{Lacks, IsReader}

-- version 1 is told by no member
abbrev pub without_version : Version → List (List ℕ)
without_version One = codes "version" ∷ []
without_version Two = []

abbrev without_message : Message → List (List ℕ)
without_message (message.Hello client incarnation version) = without_version version
without_message (message.Request key call) = []
without_message (message.Cancel key) = []

module _ (ms : Members) where
  -- ---- keys and calls

  abbrev pub HasKey : Key → Type 0
  HasKey key = HasRow ms (key_row key)

  pub key_found : (key : Key) → key_among ms ≡ Some key → HasKey key
  key_found =
      step_found HasKey (whole_among (codes "epoch") ms) _ (λ epoch e.
      step_found HasKey (whole_among (codes "client") ms) _ (λ client c.
      step_found HasKey (whole_among (codes "incarnation") ms) _ (λ incarnation i.
      step_found HasKey (whole_among (codes "number") ms) _ (λ number n.
      last_found HasKey (record {
        epoch = epoch;
        client = client;
        incarnation = incarnation;
        number =
            number;
      }) (
        whole_found ms (codes "epoch") epoch e,
        (
          whole_found ms (codes "client") client c,
          (
            whole_found ms (codes "incarnation") incarnation i,
            (
              whole_found ms (codes "number") number n,
              tt,
            ),
          ),
        ),
      )))))

  pub find_key : (key : Key) → HasKey key → key_among ms ≡ Some key
  find_key key has = rw (has.0, has.1.0, has.1.1.0, has.1.1.1.0) refl

  -- how long it may wait is told there
  abbrev HasWait : Wait → Type 0
  HasWait w = Has ms (codes "wait", wait_value w)

  wait_word_found : (w : Wait) → wait_word_among ms ≡ Some w → HasWait w
  wait_word_found = among_found ms HasWait (codes "wait") wait_lines (
    (λ word. last_found HasWait wait.Now word),
    ((λ word. last_found HasWait wait.Forever word), tt),
  )

  wait_told : (millis : Option ℕ) → whole_among (codes "wait") ms ≡ millis → (w : Wait)
      → by_number (λ n. wait.Millis n) millis (wait_word_among ms) ≡ Some w → HasWait w
  wait_told (Some millis) is = last_found HasWait (wait.Millis millis) (whole_found ms (codes "wait") millis
      is)
  wait_told None is = wait_word_found

  wait_found : (w : Wait) → wait_among ms ≡ Some w → HasWait w
  wait_found = wait_told (whole_among (codes "wait") ms) refl

  abbrev HasCall : Call → Type 0
  HasCall call = HasRow ms (call_row call)

  find_wait : (w : Wait) → HasWait w → wait_among ms ≡ Some w
  find_wait wait.Now has = rw has refl
  find_wait (wait.Millis millis) has = rw has refl
  find_wait wait.Forever has = rw has refl

  queue_step : (next : ℕ → Option Call)
      → ((queue : ℕ) → Has ms (codes "queue", number (unsigned queue)) → (call : Call) → next queue ≡ Some
      call → HasCall call)
      → (call : Call) → (queue_among ms >>= next) ≡ Some call → HasCall call
  queue_step next each = step_found HasCall (queue_among ms) next (λ queue q. each queue
      (whole_found ms (codes "queue") queue q))

  item_step : (next : List ℕ → Option Call)
      → ((item : List ℕ) → Has ms (codes "item", string item) → (call : Call) → next item ≡ Some call
      → HasCall call)
      → (call : Call) → (item_among ms >>= next) ≡ Some call → HasCall call
  item_step next each = step_found HasCall (item_among ms) next
      (λ item i. each item (text_found ms (codes "item") item i))

  wait_step : (next : Wait → Option Call)
      → ((w : Wait) → HasWait w → (call : Call) → next w ≡ Some call → HasCall call)
      → (call : Call) → (wait_among ms >>= next) ≡ Some call → HasCall call
  wait_step next each = step_found HasCall (wait_among ms) next (λ w is. each w (wait_found w is))

  call_found : (call : Call) → call_among ms ≡ Some call → HasCall call
  call_found = among_found ms HasCall (codes "call") call_lines (
    (λ word. queue_step _ (λ queue q. item_step _ (λ item i. last_found HasCall (call.Put queue item)
        (word, (q, (i, tt)))))),
    (
      (λ word. queue_step _ (λ queue q. wait_step _ (λ w is. item_step _ (λ item i. last_found HasCall
          (call.Transfer queue item w) (word, (q, (is, (i, tt)))))))),
      (
        (λ word. queue_step _ (λ queue q. wait_step _ (λ w is. last_found HasCall (call.Take queue w)
            (word, (q, (is, tt)))))),
        (
          (λ word. step_found HasCall (whole_among (codes "exchanger") ms) _ (λ exchanger e. wait_step _
              (λ w is. item_step _ (λ item i.
              last_found HasCall (call.Swap exchanger item w)
              (word, (whole_found ms (codes "exchanger") exchanger e, (is, (i, tt)))))))),
          (
            (λ word. queue_step _ (λ queue q. last_found HasCall (call.Count queue) (word, (q, tt)))),
            (
              (λ word. queue_step _ (λ queue q. last_found HasCall (call.Peek queue) (word, (q, tt)))),
              (
                (λ word. queue_step _ (λ queue q. step_found HasCall (whole_among (codes "max") ms) _
                    (λ max m.
                    last_found HasCall (call.Drain queue max)
                    (word, (q, (whole_found ms (codes "max") max m, tt)))))),
                tt,
              ),
            ),
          ),
        ),
      ),
    ),
  )

  find_call : (call : Call) → HasCall call → call_among ms ≡ Some call
  find_call (call.Put queue item) has = rw (has.0, has.1.0, has.1.1.0) refl
  find_call (call.Transfer queue item w) has =
      rw (has.0, has.1.0, find_wait w has.1.1.0, has.1.1.1.0) refl
  find_call (call.Take queue w) has = rw (has.0, has.1.0, find_wait w has.1.1.0) refl
  find_call (call.Swap exchanger item w) has =
      rw (has.0, has.1.0, find_wait w has.1.1.0, has.1.1.1.0) refl
  find_call (call.Drain queue max) has = rw (has.0, has.1.0, has.1.1.0) refl
  find_call _ has = rw (has.0, has.1.0) refl

  -- ---- messages

  abbrev HasMessage : Message → Type 0
  HasMessage message = HasRow ms (message_row message)

  chosen_version : (n : ℕ) (is_two : Bool) → (is_two ≡ true → n ≡ 2)
      → Has ms (codes "version", number (unsigned n))
      → HasRow ms (version_row (if is_two then Two else One))
  chosen_version n true two has = (
    subst (λ (k : ℕ). Has ms (codes "version", number (unsigned k))) (two refl)
        has,
    tt,
  )
  chosen_version n false two has = tt

  version_told_there : (told : Option ℕ) → whole_among (codes "version") ms ≡ told
      → HasRow ms (version_row (version_told told))
  version_told_there None is = tt
  version_told_there (Some n) is = chosen_version n (n == 2) (Decides-eqb n 2).0
      (whole_found ms (codes "version") n is)

  -- the version that is found is told there
  pub version_found : HasRow ms (version_row (version_among ms))
  version_found = version_told_there (whole_among (codes "version") ms) refl

  pub find_version : (version : Version) → HasRow ms (version_row version)
      → Lacks (without_version version) ms → version_among ms ≡ version
  find_version One has lacks = rw lacks.0 refl
  find_version Two has lacks = rw has.0 refl

  hello_found : Has ms (codes "kind", string (codes "hello")) → (message : Message)
      → hello_among ms ≡ Some message → HasMessage message
  hello_found word =
      step_found HasMessage (whole_among (codes "client") ms) _ (λ client c.
      step_found HasMessage (whole_among (codes "incarnation") ms) _ (λ incarnation i.
      last_found HasMessage (message.Hello client incarnation (version_among ms)) (
        word,
        (
          whole_found ms (codes "client") client c,
          (
            whole_found ms (codes "incarnation") incarnation i,
            version_found,
          ),
        ),
      )))

  request_found : Has ms (codes "kind", string (codes "request")) → (message : Message)
      → request_among ms ≡ Some message → HasMessage message
  request_found word =
      step_found HasMessage (key_among ms) _ (λ key k.
      step_found HasMessage (call_among ms) _ (λ call c.
      last_found HasMessage (message.Request key call)
      (let has = key_found key k in
      (word, (has.0, (has.1.0, (has.1.1.0, (has.1.1.1.0, call_found call c))))))))

  cancel_found : Has ms (codes "kind", string (codes "cancel")) → (message : Message)
      → cancel_among ms ≡ Some message → HasMessage message
  cancel_found word =
      step_found HasMessage (key_among ms) _ (λ key k. last_found HasMessage (message.Cancel key)
      (word, key_found key k))

  message_found : (message : Message) → message_among ms ≡ Some message → HasMessage message
  message_found = among_found ms HasMessage (codes "kind") message_lines
      (hello_found, (request_found, (cancel_found, tt)))

  find_message : (message : Message) → FitsMessage message → HasMessage message
      → Lacks (without_message message) ms → message_among ms ≡ Some message
  find_message (message.Hello client incarnation version) fits has lacks =
      rw (has.0, has.1.0, has.1.1.0, find_version version has.1.1.1 lacks) refl
  find_message (message.Request key call) fits has lacks =
      let of_key = find_key key (has.1.0, (has.1.1.0, (has.1.1.1.0, (has.1.1.1.1.0, tt)))) in
      rw (has.0, of_key, find_call call has.1.1.1.1.1) refl
  find_message (message.Cancel key) fits has lacks = rw (has.0, find_key key has.1) refl

message_lacks : (message : Message) → Lacks (without_message message) (members_of (message_row message))
message_lacks (message.Hello client incarnation One) = (refl, tt)
message_lacks (message.Hello client incarnation Two) = tt
message_lacks (message.Request key call) = tt
message_lacks (message.Cancel key) = tt

pub message_reader : IsReader Message messages
message_reader = record {
  sound = message_sound;
  has = message_found;
  without = without_message;
  lacks = message_lacks;
  finds = find_message;
}

pub call_reader : IsReader Call calls
call_reader = record {
  sound = call_sound;
  has = call_found;
  without = λ call. [];
  lacks = λ call. tt;
  finds = λ ms call fits has lacks. find_call ms call has;
}
