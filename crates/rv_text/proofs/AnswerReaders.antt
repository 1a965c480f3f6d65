-- An answer is found exactly where the members of its row are.
use Rattle.std.proofs.Common.{◌≡◌, ◌==◌, ℕ, List, [], ◌∷◌, codes, Bool, true, false, if◌then◌else◌}
use Rattle.std.proofs.Common.{Option, Some, None, refl, subst}
use Rattle.std.proofs.lemmas.Bool.Decides.{Decides-eqb}
use Rattle.serde_json.specs.Data.{unsigned, number, string, Members}
use Rattle.rv_text.specs.declared.answer.Reply.{Reply}
use Rattle.rv_text.specs.declared.answer.Reply.TheVariants as reply
use Rattle.rv_text.specs.declared.answer.Refusal.{Refusal}
use Rattle.rv_text.specs.declared.answer.Refusal.TheVariants as refusal
use Rattle.rv_text.specs.declared.answer.Answer.{Answer}
use Rattle.rv_text.specs.declared.answer.Answer.TheVariants as answer
use Rattle.rv_text.specs.declared.version.Version.{Version}
use Rattle.rv_text.specs.declared.version.Version.TheVariants.{One, Two}
use Rattle.rv_text.specs.declared.message.Key.{Key}
use Rattle.rv_text.specs.Limits.{FitsAnswer, FitsReply, IsOfEpoch}
use Rattle.rv_text.specs.Members.{whole, code_numbers, members_of}
use Rattle.rv_text.specs.Rows.{reply_row, code_of, detail_row, answer_row}
use Rattle.rv_text.specs.Reading.{◌>>=◌, whole_among, item_among, texts_among}
use Rattle.rv_text.specs.Reading.{key_among, version_among, received_by, current_version_among}
use Rattle.rv_text.specs.Reading.{refusal_telling_version}
use Rattle.rv_text.specs.Reading.{counted_among, reply_lines, reply_among, refusal_telling, refusal_lines}
use Rattle.rv_text.specs.Reading.{refusal_among, welcome_among, replied_among, waiting_among, refused_among}
use Rattle.rv_text.specs.Reading.{answer_lines, answer_among, answers}
use Rattle.rv_text.proofs.Sound.{answer_sound}
use Rattle.rv_text.proofs.Steps.{step_found, last_found, Has, HasRow, whole_found, text_found, find_texts}
use Rattle.rv_text.proofs.Steps.{are_few, texts_found, among_found, numbered_found, Lacks, IsReader}
use Rattle.rv_text.proofs.Readers.{key_found, find_key, without_version, version_found, find_version}

-- that a transfer was received, and not by whom, is told by no client
abbrev without_reply : Reply → List (List ℕ)
without_reply reply.Received = codes "by_client" ∷ []
without_reply _ = []

abbrev without_answer : Answer → List (List ℕ)
without_answer (answer.Welcome epoch client incarnation version) = without_version version
without_answer (answer.Replied key reply) = without_reply reply
without_answer (answer.Waiting key) = []
without_answer (answer.Refused refusal) = []

module _ (ms : Members) where
  -- ---- answers

  abbrev HasReply : Reply → Type 0
  HasReply reply = HasRow ms (reply_row reply)

  counted_found : Has ms (codes "reply", string (codes "counted")) → (reply : Reply)
      → counted_among ms ≡ Some reply → HasReply reply
  counted_found word =
      step_found HasReply (whole_among (codes "items") ms) _ (λ items i.
      step_found HasReply (whole_among (codes "consumers") ms) _ (λ consumers c.
      last_found HasReply (reply.Counted items consumers)
      (word, (whole_found ms (codes "items") items i, (whole_found ms (codes "consumers") consumers c, tt)))))

  item_reply : (tells : List ℕ → Reply)
      → ((item : List ℕ) → Has ms (codes "item", string item) → HasReply (tells item))
      → (reply : Reply) → (item_among ms >>= λ item. Some (tells item)) ≡ Some reply → HasReply reply
  item_reply tells each = step_found HasReply (item_among ms) _ (λ item i. last_found HasReply (tells item)
      (each item (text_found ms (codes "item") item i)))

  received_found : (epoch : ℕ) → Has ms (codes "reply", string (codes "received")) → (told : Option ℕ)
      → whole_among (codes "by_client") ms ≡ told
      → (reply : Reply) → received_by epoch told ms ≡ Some reply → HasReply reply
  received_found epoch word None is = last_found HasReply reply.Received (word, tt)
  received_found epoch word (Some client) is =
      step_found HasReply (whole_among (codes "by_incarnation") ms) _ (λ incarnation i.
      step_found HasReply (whole_among (codes "by_number") ms) _ (λ number n.
      last_found HasReply (reply.ReceivedBy (record {
        epoch = epoch;
        client = client;
        incarnation =
            incarnation;
        number = number;
      })) (
        word,
        (
          whole_found ms (codes "by_client") client is,
          (
            whole_found ms (codes "by_incarnation")
                incarnation i,
            (whole_found ms (codes "by_number") number n, tt),
          ),
        ),
      )))

  reply_found : (epoch : ℕ) (reply : Reply) → reply_among epoch ms ≡ Some reply → HasReply reply
  reply_found epoch = among_found ms HasReply (codes "reply") (reply_lines epoch) (
    (λ word. last_found HasReply reply.Done (word, tt)),
    (
      (λ word. received_found epoch word (whole_among (codes "by_client") ms) refl),
      (
        (λ word. last_found HasReply reply.Nobody (word, tt)),
        (
          (λ word. item_reply (λ item. reply.Item item) (λ item i. (word, (i, tt)))),
          (
            (λ word. last_found HasReply reply.Empty (word, tt)),
            (
              (λ word. item_reply (λ item. reply.Swapped item) (λ item i. (word, (i, tt)))),
              (
                (λ word. last_found HasReply reply.TimedOut (word, tt)),
                (
                  (λ word. last_found HasReply reply.Cancelled (word, tt)),
                  (
                    counted_found,
                    (
                      (λ word. item_reply (λ item. reply.Peeked item) (λ item i. (word, (i, tt)))),
                      (
                        (λ word. step_found HasReply (texts_among ms) _ (λ texts t. last_found HasReply
                            (reply.Drained texts) (word, (texts_found ms texts t, tt)))),
                        tt,
                      ),
                    ),
                  ),
                ),
              ),
            ),
          ),
        ),
      ),
    ),
  )

  abbrev FindsReply : ℕ → Reply → Type 0
  FindsReply epoch reply = reply_among epoch ms ≡ Some reply

  find_reply : (epoch : ℕ) (reply : Reply) → FitsReply reply → IsOfEpoch epoch reply → HasReply reply
      → Lacks (without_reply reply) ms → FindsReply epoch reply
  find_reply epoch reply.Received fits of_epoch has lacks = rw (has.0, lacks.0) refl
  find_reply epoch (reply.ReceivedBy taker) fits of_epoch has lacks =
      subst (λ e. FindsReply e (reply.ReceivedBy taker)) of_epoch (rw (has.0, has.1.0, has.1.1.0, has.1.1.1.0)
      refl)
  find_reply epoch (reply.Item item) fits of_epoch has lacks = rw (has.0, has.1.0) refl
  find_reply epoch (reply.Swapped item) fits of_epoch has lacks = rw (has.0, has.1.0) refl
  find_reply epoch (reply.Peeked item) fits of_epoch has lacks = rw (has.0, has.1.0) refl
  find_reply epoch (reply.Drained texts) fits of_epoch has lacks = rw (
    has.0,
    has.1.0,
    are_few texts fits.0,
    find_texts texts,
  ) refl
  find_reply epoch (reply.Counted items consumers) fits of_epoch has lacks = rw (has.0, has.1.0, has.1.1.0)
      refl
  find_reply epoch _ fits of_epoch has lacks = rw has.0 refl

  abbrev HasRefusal : Refusal → Type 0
  HasRefusal refusal = HasRow ms (whole (codes "code") code_numbers (code_of refusal) ∷ detail_row refusal)

  told : (name : List ℕ) (refuses : ℕ → Refusal)
      → ((n : ℕ) → Has ms (name, number (unsigned n)) → HasRefusal (refuses n)) → (refusal : Refusal)
      → refusal_telling name refuses ms ≡ Some refusal → HasRefusal refusal
  told name refuses each = step_found HasRefusal (whole_among name ms) _ (λ n is. last_found HasRefusal
      (refuses n) (each n (whole_found ms name n is)))

  other_found : (n : ℕ) (is_one is_two : Bool) → (is_one ≡ true → n ≡ 1) → (is_two ≡ true → n ≡ 2)
      → Has ms (codes "current", number (unsigned n))
      → Has ms (codes "code", number (unsigned 12)) → (version : Version)
      → (if is_one then Some One else if is_two then Some Two else None) ≡ Some version
      → HasRefusal (refusal.OtherVersion version)
  other_found n true is_two one two has code =
      last_found (λ version. HasRefusal (refusal.OtherVersion version)) One
      (code, (subst (λ (k : ℕ). Has ms (codes "current", number (unsigned k))) (one refl) has, tt))
  other_found n false true one two has code =
      last_found (λ version. HasRefusal (refusal.OtherVersion version)) Two
      (code, (subst (λ (k : ℕ). Has ms (codes "current", number (unsigned k))) (two refl) has, tt))
  other_found n false false one two has code = λ version e. absurd (cc)

  current_found : Has ms (codes "code", number (unsigned 12)) → (version : Version)
      → current_version_among ms ≡ Some version → HasRefusal (refusal.OtherVersion version)
  current_found code = step_found (λ version. HasRefusal (refusal.OtherVersion version))
      (whole_among (codes "current") ms) _ (λ n is.
      other_found n (n == 1) (n == 2) (Decides-eqb n 1).0 (Decides-eqb n 2).0
      (whole_found ms (codes "current") n is) code)

  version_refusal_found : Has ms (codes "code", number (unsigned 12)) → (refusal : Refusal)
      → refusal_telling_version ms ≡ Some refusal → HasRefusal refusal
  version_refusal_found code = step_found HasRefusal (current_version_among ms) _ (λ version is.
      last_found HasRefusal (refusal.OtherVersion version) (current_found code version is))

  refusal_found : (refusal : Refusal) → refusal_among ms ≡ Some refusal → HasRefusal refusal
  refusal_found = numbered_found ms HasRefusal (codes "code") refusal_lines (
    (λ code. last_found HasRefusal refusal.BadText (code, tt)),
    (
      (λ code. told (codes "current") (λ n. refusal.OtherEpoch n) (λ n is. (code, (is, tt)))),
      (
        (λ code. last_found HasRefusal refusal.NoSession (code, tt)),
        (
          (λ code. told (codes "current") (λ n. refusal.OldIncarnation n) (λ n is. (code, (is, tt)))),
          (
            (λ code. told (codes "last") (λ n. refusal.OldNumber n) (λ n is. (code, (is, tt)))),
            (
              (λ code. last_found HasRefusal refusal.OtherCall (code, tt)),
              (
                (λ code. told (codes "open") (λ n. refusal.Busy n) (λ n is. (code, (is, tt)))),
                (
                  (λ code. told (codes "last") (λ n. refusal.Gap n) (λ n is. (code, (is, tt)))),
                  (
                    (λ code. last_found HasRefusal refusal.ClientsFull (code, tt)),
                    (
                      (λ code. last_found HasRefusal refusal.EpochFull (code, tt)),
                      (
                        (λ code. last_found HasRefusal refusal.NoMemory (code, tt)),
                        (version_refusal_found, tt),
                      ),
                    ),
                  ),
                ),
              ),
            ),
          ),
        ),
      ),
    ),
  )

  find_refusal : (refusal : Refusal) → HasRefusal refusal → refusal_among ms ≡ Some refusal
  find_refusal (refusal.OtherEpoch current) has = rw (has.0, has.1.0) refl
  find_refusal (refusal.OldIncarnation current) has = rw (has.0, has.1.0) refl
  find_refusal (refusal.OldNumber last) has = rw (has.0, has.1.0) refl
  find_refusal (refusal.Busy waiting) has = rw (has.0, has.1.0) refl
  find_refusal (refusal.Gap last) has = rw (has.0, has.1.0) refl
  find_refusal (refusal.OtherVersion One) has = rw (has.0, has.1.0) refl
  find_refusal (refusal.OtherVersion Two) has = rw (has.0, has.1.0) refl
  find_refusal _ has = rw has.0 refl

  abbrev HasAnswer : Answer → Type 0
  HasAnswer answer = HasRow ms (answer_row answer)

  welcome_found : Has ms (codes "kind", string (codes "welcome")) → (answer : Answer)
      → welcome_among ms ≡ Some answer → HasAnswer answer
  welcome_found word =
      step_found HasAnswer (whole_among (codes "epoch") ms) _ (λ epoch e.
      step_found HasAnswer (whole_among (codes "client") ms) _ (λ client c.
      step_found HasAnswer (whole_among (codes "incarnation") ms) _ (λ incarnation i.
      last_found HasAnswer (answer.Welcome epoch client incarnation (version_among ms)) (
        word,
        (
          whole_found ms (codes "epoch") epoch e,
          (
            whole_found ms (codes "client") client c,
            (whole_found ms (codes "incarnation") incarnation i, version_found ms),
          ),
        ),
      ))))

  replied_found : Has ms (codes "kind", string (codes "reply")) → (answer : Answer)
      → replied_among ms ≡ Some answer → HasAnswer answer
  replied_found word =
      step_found HasAnswer (key_among ms) _ (λ key k.
      step_found HasAnswer (reply_among key.epoch ms) _ (λ reply r.
      last_found HasAnswer (answer.Replied key reply)
      (let has = key_found ms key k in
      (word, (has.0, (has.1.0, (has.1.1.0, (has.1.1.1.0, reply_found key.epoch reply r))))))))

  waiting_found : Has ms (codes "kind", string (codes "waiting")) → (answer : Answer)
      → waiting_among ms ≡ Some answer → HasAnswer answer
  waiting_found word =
      step_found HasAnswer (key_among ms) _ (λ key k. last_found HasAnswer (answer.Waiting key)
      (word, key_found ms key k))

  refused_found : Has ms (codes "kind", string (codes "refused")) → (answer : Answer)
      → refused_among ms ≡ Some answer → HasAnswer answer
  refused_found word =
      step_found HasAnswer (refusal_among ms) _ (λ refusal r. last_found HasAnswer (answer.Refused refusal)
      (word, refusal_found refusal r))

  answer_found : (answer : Answer) → answer_among ms ≡ Some answer → HasAnswer answer
  answer_found = among_found ms HasAnswer (codes "kind") answer_lines
      (welcome_found, (replied_found, (waiting_found, (refused_found, tt))))

  find_answer : (answer : Answer) → FitsAnswer answer → HasAnswer answer → Lacks (without_answer answer) ms
      → answer_among ms ≡ Some answer
  find_answer (answer.Welcome epoch client incarnation version) fits has lacks =
      rw (has.0, has.1.0, has.1.1.0, has.1.1.1.0, find_version ms version has.1.1.1.1 lacks) refl
  find_answer (answer.Replied key reply) fits has lacks =
      let of_key = find_key ms key (has.1.0, (has.1.1.0, (has.1.1.1.0, (has.1.1.1.1.0, tt)))) in
      rw (has.0, of_key, find_reply key.epoch reply fits.1 fits.2 has.1.1.1.1.1 lacks) refl
  find_answer (answer.Waiting key) fits has lacks = rw (has.0, find_key ms key has.1) refl
  find_answer (answer.Refused refusal) fits has lacks = rw (has.0, find_refusal refusal has.1) refl

reply_lacks : (key : Key) (reply : Reply)
    → Lacks (without_reply reply) (members_of (answer_row (answer.Replied key reply)))
reply_lacks key reply.Received = (refl, tt)
reply_lacks key _ = tt

answer_lacks : (answer : Answer) → Lacks (without_answer answer) (members_of (answer_row answer))
answer_lacks (answer.Welcome epoch client incarnation One) = (refl, tt)
answer_lacks (answer.Welcome epoch client incarnation Two) = tt
answer_lacks (answer.Replied key reply) = reply_lacks key reply
answer_lacks (answer.Waiting key) = tt
answer_lacks (answer.Refused refusal) = tt

pub answer_reader : IsReader Answer answers
answer_reader = record {
  sound = answer_sound;
  has = answer_found;
  without = without_answer;
  lacks = answer_lacks;
  finds = find_answer;
}
