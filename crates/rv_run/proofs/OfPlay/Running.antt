-- A play is a run of the world over the events that it took.
use Rattle.std.proofs.Common.{◌≡◌, ◌++◌, ◌∷◌, [], ℕ, zero, suc, List, Some, Ok, Err, refl, ap, subst, ◌∙◌}
use Rattle.std.specs.Prelude.{slice_get}
use Rattle.std.proofs.lemmas.Option.{none-some, slice_get_within}
use Rattle.rv_account.proofs.OfRules.Places.{get-append_within}
use Rattle.rv_book.specs.lines.Lines.{printed_lines}
use Rattle.rv_book.proofs.OfLines.Cutting.{lines_cut}
use Rattle.rv_world.specs.declared.parts.event.Event.{Event}
use Rattle.rv_world.specs.declared.parts.seen.Seen.{Seen}
use Rattle.rv_world.specs.declared.parts.packet.Packet.{Packet}
use Rattle.rv_world.specs.declared.parts.seen.Seen.TheVariants as sees
use Rattle.rv_world.specs.parts.Headline.{OnlyGrows}
use Rattle.rv_world.specs.parts.Laws.{RunsOnlyGrow}
use Rattle.rv_world.specs.parts.Runs.{Runs}
use Rattle.rv_world.proofs.OfParts.Listing.{still_contains}
use Rattle.rv_world.specs.parts.World.{World}
use Rattle.rv_run.specs.play.Laws.{OneLineEach, PlayIsRun, events_of, taken_events}
use Rattle.rv_run.specs.play.Turns.{Given, LeadsTo, LineOutcome, LineTurn, NoEvent, Plays, TellsLineOutcome}
use Rattle.rv_run.specs.play.Turns.{TellsSeen, turn_texts}

turn_runs : (line : List ℕ) (came : LineOutcome) (w v u : World) (events : List Event) → LeadsTo line w v came
    → Runs v events u → Runs w (taken_events came ++ events) u
turn_runs line NoEvent w v u events leads runs = subst (λ (x : World). Runs x events u) leads.1 runs
turn_runs line (Given e (Ok seen)) w v u events leads runs = (v, seen, leads.1, runs)
turn_runs line (Given e (Err refusal)) w v u events leads runs = subst (λ (x : World). Runs x events u)
    leads.1.1 runs

pub play_runs : PlayIsRun
play_runs w v [] plays = plays
play_runs w v (turn ∷ turns) plays = turn_runs turn.line turn.came w plays.0 v (events_of turns) plays.1.leads
    (play_runs plays.0 v turns plays.2)

pub cut_each : OneLineEach
cut_each w v [] plays = refl
cut_each w v (turn ∷ turns) plays = lines_cut turn.text (printed_lines (turn_texts turns)) plays.1.one_line
    ∙ ap (λ later. turn.text ∷ later) (cut_each plays.0 v turns plays.2)

-- ---- what is told stays true

still_sees : (w v : World) (seen : Seen) (text : List ℕ) → OnlyGrows w v → TellsSeen w seen text
    → TellsSeen v seen text
still_sees w v (sees.Answered packet) text grows tells = record {
  sent = tells.sent;
  there = ap (λ (l : List Packet). slice_get l packet) grows.answers.is ∙ get-append_within w.to_client
      grows.answers.more packet (slice_get_within w.to_client packet tells.sent tells.there) ∙ tells.there;
  text_is = tells.text_is;
}
still_sees w v (sees.Settled key) text grows tells = record {
  reply = tells.reply;
  held = still_contains
      w.held v.held (key, tells.reply) grows.held tells.held;
  text_is = tells.text_is;
}
still_sees w v _ text grows tells = tells

still_tells : (w v : World) (came : LineOutcome) (text : List ℕ) → OnlyGrows w v
    → TellsLineOutcome w came text → TellsLineOutcome v came text
still_tells w v NoEvent text grows tells = tells
still_tells w v (Given e (Ok seen)) text grows tells = still_sees w v seen text grows tells
still_tells w v (Given e (Err refusal)) text grows tells = tells

pub text_stays : RunsOnlyGrow → (turns : List LineTurn) (i : ℕ) (w v : World) (turn : LineTurn)
    → Plays w turns v → slice_get turns i ≡ Some turn → TellsLineOutcome v turn.came turn.text
text_stays only [] i w v turn plays there = absurd (none-some turn there)
text_stays only (first ∷ turns) zero w v turn plays there =
    let same : first ≡ turn = cc in
    let grows = only plays.0 (events_of turns) v (play_runs plays.0 v turns plays.2) in
    subst (λ (t : LineTurn). TellsLineOutcome v t.came t.text) same (still_tells plays.0 v first.came
    first.text grows plays.1.tells)
text_stays only (first ∷ turns) (suc i) w v turn plays there = text_stays only turns i plays.0 v turn plays.2
    there
