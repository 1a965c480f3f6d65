-- How far hellos have come, and the calls of lines.
use Rattle.std.proofs.Common.{◌≡◌, ◌∙◌, ◌<◌, ◌+◌, ◌++◌, ◌∷◌, if◌then◌else◌, [], ℕ, List, Option, Some}
use Rattle.std.proofs.Common.{None, Result, Ok, Err, IfErr, IfSome, IsErrAnd, add-zero, ap, arith, inl, inr}
use Rattle.std.proofs.Common.{length, length-append, refl, subst, sym}
use Rattle.std.proofs.lemmas.Bool.{lt-ltb}
use Rattle.rv_text.specs.Bodies.{IsCallBody, answer_text}
use Rattle.rv_text.specs.declared.answer.Answer.{Answer}
use Rattle.rv_text.specs.declared.answer.Answer.TheVariants as answers
use Rattle.rv_text.specs.declared.answer.Reply.{Reply}
use Rattle.rv_text.specs.declared.call.Call.{Call}
use Rattle.rv_text.specs.declared.message.Key.{Key}
use Rattle.rv_client.specs.declared.calling.CallOutcome.TheVariants as called
use Rattle.rv_client.specs.Calls.{Calls}
use Rattle.rv_client.specs.Link.{Link}
use Rattle.rv_text.specs.Members.{max_identifier}
use Rattle.rv_client.specs.Process.{PassesBy, Starting, key_after}
use Rattle.rv_run.specs.declared.calls.client.Halt.{Halt}
use Rattle.rv_run.specs.declared.calls.client.Halt.TheVariants as halt
use Rattle.rv_run.specs.calls.Calling.{AllInVain, AnswerEnds, HaltsAt, HasNumbers, HelloEnds, HellosInVain}
use Rattle.rv_run.specs.calls.Calling.{IsHelloInVain}
use Rattle.rv_run.specs.calls.Calling.{SaysHello, SettlesLine, SettlesLines, WelcomesOrNot, key_behind}
use Rattle.rv_run.specs.declared.calls.end_word.EndWord.{EndWord}
use Rattle.rv_run.specs.declared.calls.end_word.EndWord.TheVariants.{BadLine, EpochEnded, NotWelcome, Refused}
use Rattle.rv_run.specs.declared.calls.end_word.EndWord.TheVariants.{Replaced, Unsettled}

-- ---- keys

pub key_behind_none : (key : Key) → key_behind key 0 ≡ key
key_behind_none key = ap (λ (n : ℕ). record key { number = n }) (add-zero key.number)

key_behind_more : (key : Key) (n : ℕ) → key_behind key (n + 1) ≡ key_behind (key_behind key 1) n
key_behind_more key n = let same : key.number + (n + 1) ≡ key.number + 1 + n = omega arith in
    ap (λ (m : ℕ). record key { number = m }) same

pub key_behind_on : (key : Key) (n : ℕ) → key_behind (key_behind key n) 1 ≡ key_behind key (n + 1)
key_behind_on key n = let same : key.number + n + 1 ≡ key.number + (n + 1) = omega arith in
    ap (λ (m : ℕ). record key { number = m }) same

pub key_next : (key : Key) → key.number < max_identifier → key_after key ≡ Some (key_behind key 1)
key_next key less = ap (λ b. if b then Some (key_behind key 1) else None) (lt-ltb key.number max_identifier
    less)

-- a request that is settled leaves them for fewer
pub numbers_more : (idle next : Option Key) (bytes fewer : ℕ) → HasNumbers idle bytes
    → IfSome idle (λ key. next ≡ key_after key) → fewer < bytes → HasNumbers next fewer
numbers_more idle next bytes fewer has after less =
    let here : next ≡ key_after has.key = subst (λ (i : Option Key). IfSome i (λ key. next ≡ key_after key))
    has.is_next after in
    record {
      key = key_behind has.key 1;
      is_next = here ∙ key_next has.key (omega (arith, has.room, less));
      fits = (has.fits.0, has.fits.1, has.fits.2, (omega arith, omega (arith, has.room, less)));
      room = omega (arith, has.room, less);
    }

-- ---- hellos and calls, one more

module _ {R W : Type 0} (remaining : R → Option (List ℕ)) (contents : W → Option (List ℕ)) where
  hellos_more : (starting : Starting) (answers : List Answer) (answer : Answer) (a b c : Link R W)
      → HellosInVain remaining contents starting answers a b
      → SaysHello remaining contents starting b c (Ok answer) → PassesBy starting answer
      → HellosInVain remaining contents starting (answers ++ answer ∷ []) a c
  hellos_more starting [] answer a b c vain said passed = (
    c,
    subst (λ (x : Link R W). SaysHello remaining contents starting x c (Ok answer)) vain said,
    passed,
    refl,
  )
  hellos_more starting (first ∷ answers) answer a b c vain said passed = (
    vain.0,
    vain.1,
    vain.2,
    hellos_more
        starting answers answer vain.0 b c vain.3 said passed,
  )

  pub none_in_vain : (starting : Starting) (at : Link R W) → AllInVain remaining contents starting 0 at at
  none_in_vain starting at = record { answers = []; each = refl; in_vain = refl }

  pub one_more_in_vain : (starting : Starting) (times : ℕ) (a b c : Link R W)
      → AllInVain remaining contents starting times a b → IsHelloInVain remaining contents starting b c
      → AllInVain remaining contents starting (times + 1) a c
  one_more_in_vain starting times a b c vain once = record {
    answers = vain.answers ++ once.answer ∷ [];
    each = length-append vain.answers (once.answer ∷ []) ∙ ap (λ n. n + 1) vain.each;
    in_vain = hellos_more starting vain.answers once.answer a b c vain.in_vain once.asked once.passed_by;
  }

  -- one hello ended by its answer
  pub hello_ends : (starting : Starting) (answer : Answer) (a b : Link R W)
      (ended : Result (Option Key) EndWord) → SaysHello remaining contents starting a b (Ok answer)
      → AnswerEnds starting answer ended → HelloEnds remaining contents starting a b ended
  hello_ends starting answer a b (Ok next) said ends = (
    ends.0,
    subst (λ (x : Answer). SaysHello remaining contents starting a b (Ok x)) ends.1 said,
    ends.2,
  )
  hello_ends starting answer a b (Err (Refused refusal)) said ends =
      subst (λ (x : Answer). SaysHello remaining contents starting a b (Ok x)) ends said
  hello_ends starting answer a b (Err NotWelcome) said ends = absurd ends
  hello_ends starting answer a b (Err (Unsettled n)) said ends = absurd ends
  hello_ends starting answer a b (Err (EpochEnded n)) said ends = absurd ends
  hello_ends starting answer a b (Err (Replaced n)) said ends = absurd ends
  hello_ends starting answer a b (Err BadLine) said ends = absurd ends

  pub hello_ended : (starting : Starting) (times tries : ℕ) (a b c : Link R W) (ended : Result (Option Key)
      EndWord) → AllInVain remaining contents starting times a b → times < tries
      → HelloEnds remaining contents starting b c ended
      → WelcomesOrNot remaining contents starting tries a c ended
  hello_ended starting times tries a b c (Ok next) vain fewer ends = (
    ends.0,
    record {
      answers = vain.answers;
      fewer = omega (arith, vain.each);
      between = b;
      in_vain =
          vain.in_vain;
      last = ends.1;
    },
    ends.2,
    ends.1.has.2.0,
  )
  hello_ended starting times tries a b c (Err (Refused refusal)) vain fewer ends =
      record {
        answers = vain.answers;
        fewer = omega (arith, vain.each);
        between = b;
        in_vain = vain.in_vain;
        last = ends;
      }
  hello_ended starting times tries a b c (Err NotWelcome) vain fewer ends =
      inl (record {
        fault = ends.0;
        met = record {
          answers = vain.answers;
          fewer = omega (arith, vain.each);
          between = b;
          in_vain = vain.in_vain;
          last = ends.1;
        };
      })
  hello_ended starting times tries a b c (Err (Unsettled n)) vain fewer ends = absurd ends
  hello_ended starting times tries a b c (Err (EpochEnded n)) vain fewer ends = absurd ends
  hello_ended starting times tries a b c (Err (Replaced n)) vain fewer ends = absurd ends
  hello_ended starting times tries a b c (Err BadLine) vain fewer ends = absurd ends

  pub settles_more : (tries : ℕ) (key : Key) (first texts : List (List ℕ)) (line text : List ℕ) (a b c :
      Link R W) → SettlesLines remaining contents tries key first texts a b
      → SettlesLine remaining contents tries (key_behind key (length texts)) line text b c
      → SettlesLines remaining contents tries key (first ++ line ∷ []) (texts ++ text ∷ []) a c
  settles_more tries key [] [] line text a b c settled one = (
    c,
    subst (λ (x : Link R W). SettlesLine remaining contents tries key line text x c) settled
        (subst (λ (k : Key). SettlesLine remaining contents tries k line text b c) (key_behind_none key)
        one),
    refl,
  )
  settles_more tries key [] (t ∷ ts) line text a b c settled one = absurd settled
  settles_more tries key (l ∷ ls) [] line text a b c settled one = absurd settled
  settles_more tries key (l ∷ ls) (t ∷ ts) line text a b c settled one =
      let same : key_behind key (length (t ∷ ts)) ≡ key_behind (key_behind key 1) (length ts) = let more :
      length (t ∷ ts) ≡ length ts + 1 = omega arith in ap (key_behind key) more ∙ key_behind_more key
      (length ts) in (
        settled.0,
        settled.1,
        settles_more tries (key_behind key 1) ls ts line text settled.0 b c settled.2
            (subst (λ (k : Key). SettlesLine remaining contents tries k line text b c) same one),
      )

-- ---- a call that was settled, and whose reply's text found no memory

module _ {R W X : Type 0} (remaining : R → Option (List ℕ)) (contents : W → Option (List ℕ)) (tries : ℕ)
    (call : Call) (line : List ℕ) (next : Option Key) (reply : Reply) (before after : Link R W) where
  pub lacks_text : (result : Result X Halt) (idle : Option Key) → IsCallBody line call
      → IfSome idle (λ key. Calls remaining contents (record { key = key; call = call }) tries before after
      (called.Settled next reply))
      → IsErrAnd result (λ fault. fault ≡ halt.NoMemory)
      → IfErr result (λ fault. IfSome idle (λ key. HaltsAt remaining contents tries key line fault before
      after))
  lacks_text (Ok text) idle says made lacks = tt
  lacks_text (Err fault) None says made lacks = tt
  lacks_text (Err fault) (Some key) says made lacks =
      let settles : SettlesLine remaining contents tries key line (answer_text (answers.Replied key reply))
      before after =
      record {
        next = next;
        reply = reply;
        settled = record { call = call; said = says; made = made };
        text_is = refl;
      } in
      subst (λ (f : Halt). HaltsAt remaining contents tries key line f before after) (sym lacks)
      (inr (answer_text (answers.Replied key reply), settles))
