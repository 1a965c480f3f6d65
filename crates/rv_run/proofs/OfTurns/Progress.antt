-- How far a run over an input has come, and that it comes to the end.
use Rattle.std.proofs.Common.{◌≡◌, ◌<◌, ◌≤◌, ◌+◌, ◌*◌, ℕ, List, [], ◌∷◌, ◌++◌, Option, Result, Ok, Err, IfErr}
use Rattle.std.proofs.Common.{OnOk, refl, sym, ap, subst, inl, inr, ◌∙◌, length, take, arith, append_assoc}
use Rattle.std.proofs.Common.{append-nil, length-append}
use Rattle.std.proofs.lemmas.List.{take-append-le}
use Rattle.std.specs.Io.KnownBytes.{Appends, append_known}
use Rattle.std.proofs.KnownBytes.{Appends-trans}
use Rattle.rv_text.specs.declared.answer.Refusal.TheVariants.{BadText, NoMemory}
use Rattle.rv_account.specs.Account.{Account}
use Rattle.rv_text.specs.Bodies.{HasBodyLength}
use Rattle.rv_frame.specs.declared.sink.Sink.{Sink}
use Rattle.rv_frame.specs.Sink.{SinkTakes, sink_contents}
use Rattle.rv_run.specs.declared.output.Output.{Output}
use Rattle.rv_run.specs.declared.output.OutputFault.{OutputFault}
use Rattle.rv_run.specs.Output.{StopsAfter, gathered_bytes, sent_before}
use Rattle.rv_run.specs.turns.Outcomes.{SendsAll, SendsFront}
use Rattle.rv_run.specs.turns.Lines.{lines}
use Rattle.rv_run.proofs.OfTurns.Forms.{formless_is_bad, has_form}
use Rattle.rv_run.proofs.Printing.{Appends-nothing, all_out, part_out, printed_append}
use Rattle.rv_text.specs.Bodies.{refused_text}
use Rattle.rv_run.specs.turns.Run.{AnswersLine, RunsLines, printed_lines}

-- ---- runs, one after the other

pub runs_append : (a b c : Account) (first more bodies others : List (List ℕ)) → RunsLines a first bodies b
    → RunsLines b more others c → RunsLines a (first ++ more) (bodies ++ others) c
runs_append a b c [] more [] others run run' = subst (λ (x : Account). RunsLines x more others c) run run'
runs_append a b c [] more (body ∷ bodies) others run run' = absurd run
runs_append a b c (line ∷ first) more [] others run run' = absurd run
runs_append a b c (line ∷ first) more (body ∷ bodies) others run run' = (
  run.0,
  run.1,
  runs_append run.0 b c
      first more bodies others run.2 run',
)

-- a line can be answered whatever becomes of memory, and the account stays
answered : (a : Account) (line : List ℕ) → (body : List ℕ) × AnswersLine line a a body
answered a line = elim (has_form line) [
  | inl form ↦ (
    refused_text NoMemory,
    inr (inr (record {
      has_form = form;
      stays_or_steps = inl refl;
      body_is = refl;
    })),
  )
  | inr formless ↦ (
    refused_text BadText,
    inl (record {
      is_bad = formless_is_bad line formless;
      account_stays = refl;
      body_is = refl;
    }),
  )
]

pub runs_on : (a : Account) (all : List (List ℕ)) → (bodies : List (List ℕ)) × RunsLines a all bodies a
runs_on a [] = ([], refl)
runs_on a (line ∷ all) = let here = answered a line in let later = runs_on a all in
    (here.0 ∷ later.0, (a, here.1, later.1))

-- ---- what has come of the lines

-- of the input the lines before the rest are answered, one run leads to the account that stands now, and what
-- was printed went to the device or is gathered
pub record Progress (contents : Option (List ℕ)) (a : Account) (input : List ℕ) (now : Option (List ℕ))
    (b : Account) (rest waiting : List ℕ) (sent : ℕ) : Type 0 where
  pub first : List (List ℕ)
  pub bodies : List (List ℕ)
  pub cut : lines input ≡ first ++ lines rest
  pub run : RunsLines a first bodies b
  pub took : Appends contents (append_known now waiting) (printed_lines bodies)
  pub count : sent + length waiting ≡ length (printed_lines bodies)
  pub small : sent + length waiting + 65536 * length rest ≤ 65536 * length input

pub progress_start : (contents : Option (List ℕ)) (a : Account) (input waiting : List ℕ) (sent : ℕ)
    → waiting ≡ [] → sent + length waiting ≡ 0 → Progress contents a input contents a input waiting sent
progress_start contents a input waiting sent none zero = record {
  first = [];
  bodies = [];
  cut = refl;
  run = refl;
  took = Appends-nothing contents waiting none;
  count = zero;
  small = omega arith;
}

-- one line more
module _ {contents : Option (List ℕ)} {a : Account} {input : List ℕ} {now : Option (List ℕ)} {b : Account}
    {rest waiting : List ℕ} {sent : ℕ} (so_far : Progress contents a input now b rest waiting sent) where
  pub progress_more : (now' : Option (List ℕ)) (b' : Account) (after waiting' line body : List ℕ) (sent' : ℕ)
      → lines rest ≡ line ∷ lines after → AnswersLine line b b' body
      → Appends (append_known now waiting) (append_known now' waiting') (body ++ 10 ∷ [])
      → sent' + length waiting' ≡ sent + length waiting + length body + 1
      → HasBodyLength body → length after < length rest
      → Progress contents a input now' b' after waiting' sent'
  progress_more now' b' after waiting' line body sent' cut answers took count short shorter = record {
    first = so_far.first ++ line ∷ [];
    bodies = so_far.bodies ++ body ∷ [];
    cut = so_far.cut ∙ ap (λ l. so_far.first ++ l) cut ∙ sym (append_assoc so_far.first (line ∷ [])
        (lines after));
    run = runs_append a b b' so_far.first (line ∷ []) so_far.bodies (body ∷ []) so_far.run
        (b', answers, refl);
    took = subst (Appends contents (append_known now' waiting'))
        (sym (printed_append so_far.bodies (body ∷ []))) (Appends-trans _ _ _ (printed_lines so_far.bodies)
        (body ++ 10 ∷ []) so_far.took took);
    count = omega (
      arith,
      ap length (printed_append so_far.bodies (body ∷ [])),
      length-append
          (printed_lines so_far.bodies) (body ++ 10 ∷ []),
      length-append body (10 ∷ []),
      so_far.count,
    );
    small = omega (arith, so_far.small);
  }

  -- the same, where what is left of the input is these bytes
  pub progress_kept : (left : List ℕ) → left ≡ rest → Progress contents a input now b left waiting sent
  progress_kept left same = subst (λ l. Progress contents a input now b l waiting sent) (sym same) so_far

-- ---- the end of a run

module _ {W : Type 0} (contents : W → Option (List ℕ)) {a : Account} {input : List ℕ} (start now : Sink W)
    {b : Account} {rest : List ℕ} (output : Output)
    (so_far : Progress (sink_contents contents start) a input (sink_contents contents now) b rest
    (gathered_bytes output) (sent_before output)) where
  -- all lines are answered, and what was gathered went out
  pub sends_all : (now' : Sink W) → rest ≡ [] → SinkTakes contents now now' (gathered_bytes output)
      → SendsAll contents a input start now'
  sends_all now' none out =
      let all : lines input ≡ so_far.first = so_far.cut ∙ ap (λ bytes. so_far.first ++ lines bytes) none
      ∙ append-nil so_far.first in
      record {
        output = printed_lines so_far.bodies;
        is_printed = record {
          bodies = so_far.bodies;
          last = b;
          run = subst (λ (l : List (List ℕ)). RunsLines
              a l so_far.bodies b) (sym all) so_far.run;
          output_is = refl;
        };
        went_out = all_out (sink_contents contents start) (sink_contents contents now) (sink_contents contents
            now') (gathered_bytes output) (printed_lines so_far.bodies) so_far.took out;
      }

  -- a write failed: what went out is the front of what one run prints
  pub sends_front : (now' : Sink W) (out : ℕ)
      → StopsAfter contents (gathered_bytes output) (sent_before output) now now' out
      → SendsFront contents a input start now' out
  sends_front now' out stops =
      let later = runs_on b (lines rest) in
      let bodies = so_far.bodies ++ later.0 in
      let run = runs_append a b b so_far.first (lines rest) so_far.bodies later.0 so_far.run later.1 in
      let joined = printed_append so_far.bodies later.0 in
      let front : take out (printed_lines bodies) ≡ take out (printed_lines so_far.bodies) = ap (take out)
      joined ∙ take-append-le out (printed_lines so_far.bodies) (printed_lines later.0)
      (omega (arith, so_far.count, stops.not_all)) in
      let went = part_out (sink_contents contents start) (sink_contents contents now) (sink_contents contents
      now') (gathered_bytes output) (printed_lines so_far.bodies) (sent_before output) out so_far.took
      so_far.count stops.past_those_sent stops.not_all stops.went_out in
      record {
        output = printed_lines bodies;
        is_printed = record {
          bodies = bodies;
          last = b;
          run = subst (λ (l : List (List ℕ)). RunsLines a l
              bodies b) (sym so_far.cut) run;
          output_is = refl;
        };
        not_all = omega (
          arith,
          so_far.count,
          ap length joined,
          length-append (printed_lines so_far.bodies)
              (printed_lines later.0),
          stops.not_all,
        );
        went_out = subst (Appends (sink_contents contents start) (sink_contents contents now')) (sym front)
            went;
      }

  -- the same of an answer of `flush`
  pub sends_all_on_ok : {T : Type 0} (now' : Sink W) (answer : Result T OutputFault) → rest ≡ []
      → OnOk answer (SinkTakes contents now now' (gathered_bytes output))
      → OnOk answer (SendsAll contents a input start now')
  sends_all_on_ok now' (Ok x) none out = sends_all now' none out
  sends_all_on_ok now' (Err fault) none out = tt

  pub sends_front_if_err : {T : Type 0} (now' : Sink W) (answer : Result T OutputFault)
      → IfErr answer (λ fault. StopsAfter contents (gathered_bytes output) (sent_before output) now now'
      fault.sent)
      → IfErr answer (λ fault. SendsFront contents a input start now' fault.sent)
  sends_front_if_err now' (Ok x) stops = tt
  sends_front_if_err now' (Err fault) stops = sends_front now' fault.sent stops
