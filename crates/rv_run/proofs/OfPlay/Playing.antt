-- How far a play over an input has come.
use Rattle.std.proofs.Common.{◌≡◌, ◌<◌, ◌≤◌, ◌+◌, ◌*◌, ℕ, List, [], ◌∷◌, ◌++◌, Option, refl, sym, ap, subst}
use Rattle.std.proofs.Common.{◌∙◌, append_assoc, length, true, arith, length-append}
use Rattle.std.proofs.lemmas.List.{map-append}
use Rattle.std.specs.Io.KnownBytes.{Appends, append_known}
use Rattle.std.proofs.KnownBytes.{Appends-trans}
use Rattle.rv_frame.specs.declared.sink.Sink.{Sink}
use Rattle.rv_frame.specs.Sink.{SinkTakes, sink_contents, sink_failed}
use Rattle.rv_book.specs.lines.Lines.{lines, printed_lines}
use Rattle.rv_run.specs.declared.output.Output.{Output}
use Rattle.rv_run.specs.Output.{IsShort, StopsAfter, gathered_bytes, sent_before}
use Rattle.rv_run.proofs.Printing.{Appends-nothing, all_out, part_out, printed_append}
use Rattle.rv_world.specs.parts.World.{World, first_world}
use Rattle.rv_run.specs.play.Plays.{PlaysFirst, PrintsFront, PrintsSome}
use Rattle.rv_run.specs.play.Turns.{LineTurn, Plays, TakesTurn, lines_of, turn_texts}

-- ---- one turn more

plays_more : (a b c : World) (turns : List LineTurn) (turn : LineTurn) → Plays a turns b → TakesTurn b turn c
    → Plays a (turns ++ turn ∷ []) c
plays_more a b c [] turn plays takes = (c, subst (λ (x : World). TakesTurn x turn c) plays takes, refl)
plays_more a b c (first ∷ turns) turn plays takes = (
  plays.0,
  plays.1,
  plays_more plays.0 b c turns turn
      plays.2 takes,
)

lines_more : (turns : List LineTurn) (turn : LineTurn)
    → lines_of (turns ++ turn ∷ []) ≡ lines_of turns ++ turn.line ∷ []
lines_more turns turn = map-append (λ (t : LineTurn). t.line) turns (turn ∷ [])

printed_more : (turns : List LineTurn) (turn : LineTurn)
    → printed_lines (turn_texts (turns ++ turn ∷ [])) ≡ printed_lines (turn_texts turns) ++
    (turn.text ++ 10 ∷ [])
printed_more turns turn = ap printed_lines (map-append (λ (t : LineTurn). t.text) turns (turn ∷ []))
    ∙ printed_append (turn_texts turns) (turn.text ∷ [])

-- the lines before the rest took their turns, and their texts went to the device or are gathered
pub record SoFar (contents : Option (List ℕ)) (input : List ℕ) (now : Option (List ℕ)) (world : World)
    (rest waiting : List ℕ) (sent : ℕ) : Type 0 where
  pub turns : List LineTurn
  pub cut : lines input ≡ lines_of turns ++ lines rest
  pub plays : Plays (first_world 1) turns world
  pub took : Appends contents (append_known now waiting) (printed_lines (turn_texts turns))
  pub count : sent + length waiting ≡ length (printed_lines (turn_texts turns))
  pub small : sent + length waiting + 65727 * length rest ≤ 65727 * length input

pub none_so_far : (contents : Option (List ℕ)) (input : List ℕ) (world : World) (waiting : List ℕ) (sent : ℕ)
    → world ≡ first_world 1 → waiting ≡ [] → sent + length waiting ≡ 0
    → SoFar contents input contents world input waiting sent
none_so_far contents input world waiting sent first none none_yet = record {
  turns = [];
  cut = refl;
  plays = first;
  took = Appends-nothing contents waiting none;
  count = none_yet;
  small = omega arith;
}

module _ {contents : Option (List ℕ)} {input : List ℕ} {now : Option (List ℕ)} {world : World} {rest waiting :
    List ℕ} {sent : ℕ} (so_far : SoFar contents input now world rest waiting sent) where
  pub one_more : (now' : Option (List ℕ)) (world' : World) (after waiting' : List ℕ) (turn : LineTurn)
      (sent' : ℕ) → lines rest ≡ turn.line ∷ lines after → TakesTurn world turn world'
      → Appends (append_known now waiting) (append_known now' waiting') (turn.text ++ 10 ∷ [])
      → sent' + length waiting' ≡ sent + length waiting + length turn.text + 1
      → IsShort turn.text → length after < length rest → SoFar contents input now' world' after waiting' sent'
  one_more now' world' after waiting' turn sent' cut takes took count short shorter =
      let turns = so_far.turns in
      let printed_is = printed_more turns turn in
      record {
        turns = turns ++ turn ∷ [];
        cut = so_far.cut ∙ ap (λ l. lines_of turns ++ l) cut ∙ sym (append_assoc (lines_of turns)
            (turn.line ∷ []) (lines after)) ∙ ap (λ l. l ++ lines after) (sym (lines_more turns turn));
        plays = plays_more (first_world 1) world world' turns turn so_far.plays takes;
        took = subst (Appends contents (append_known now' waiting')) (sym printed_is)
            (Appends-trans _ _ _ (printed_lines (turn_texts turns)) (turn.text ++ 10 ∷ []) so_far.took took);
        count = omega (
          arith,
          ap length printed_is,
          length-append (printed_lines (turn_texts turns))
              (turn.text ++ 10 ∷ []),
          length-append turn.text (10 ∷ []),
          so_far.count,
        );
        small = omega (arith, so_far.small);
      }

-- ---- the end of a play

module _ {W : Type 0} (contents : W → Option (List ℕ)) {input : List ℕ} (start now : Sink W) {world : World}
    {rest : List ℕ} (output : Output)
    (so_far : SoFar (sink_contents contents start) input (sink_contents contents now) world rest
    (gathered_bytes output) (sent_before output)) where
  -- what was gathered went out
  all_texts : (now' : Sink W) → SinkTakes contents now now' (gathered_bytes output)
      → SinkTakes contents start now' (printed_lines (turn_texts so_far.turns))
  all_texts now' out = all_out (sink_contents contents start) (sink_contents contents now)
      (sink_contents contents now') (gathered_bytes output) (printed_lines (turn_texts so_far.turns))
      so_far.took out

  plays_first : (left : List (List ℕ)) → lines rest ≡ left → PlaysFirst input so_far.turns left
  plays_first left are = record {
    cut = so_far.cut ∙ ap (λ l. lines_of so_far.turns ++ l) are;
    last = world;
    plays = so_far.plays;
  }

  -- a line has no text, for want of memory
  pub prints_some : (now' : Sink W) (line after : List ℕ) → lines rest ≡ line ∷ lines after
      → sink_failed now' ≡ sink_failed start → SinkTakes contents now now' (gathered_bytes output)
      → PrintsSome contents input start now'
  prints_some now' line after cut stays out =
      record {
        turns = so_far.turns;
        line = line;
        left = lines after;
        plays = plays_first (line ∷ lines after)
            cut;
        went_out = all_texts now' out;
        sink_stays = stays;
      }

  -- a write failed
  pub prints_front : (now' : Sink W) (out : ℕ)
      → StopsAfter contents (gathered_bytes output) (sent_before output) now now' out
      → sink_failed now' ≡ true → PrintsFront contents input start now' out
  prints_front now' out stops fails = record {
    turns = so_far.turns;
    left = lines rest;
    plays = plays_first (lines rest) refl;
    not_all = omega (arith, so_far.count, stops.not_all);
    went_out = part_out (sink_contents contents start) (sink_contents contents now) (sink_contents contents
        now') (gathered_bytes output) (printed_lines (turn_texts so_far.turns)) (sent_before output) out
        so_far.took so_far.count
        stops.past_those_sent stops.not_all stops.went_out;
    sink_fails = fails;
  }
