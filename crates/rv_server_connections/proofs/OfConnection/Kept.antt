-- That each call keeps the history of a connection.
use Rattle.std.proofs.Common.{◌≡◌, ◌≤◌, ◌+◌, ◌∙◌, ℕ, List, [], ◌∷◌, ◌++◌, refl, sym, ap, subst}
use Rattle.std.proofs.Common.{append-nil, append_assoc, arith, drop, length, length-append, take}
use Rattle.std.specs.List.{All}
use Rattle.std.proofs.lemmas.List.{map-append, take-append-drop}
use Rattle.std.proofs.lemmas.List.Elements.{All-append, All-cons, All-nil}
use Rattle.rv_frame.specs.Cut.{IsFrameBody, IsUnfinished, frame_bytes, row_bytes}
use Rattle.rv_frame.proofs.Cuts.{row_append}
use Rattle.rv_server_connections.specs.connection.Traffic.{AnswerByte, Traffic, bytes_of, resting}
use Rattle.rv_server_connections.specs.connection.Steps.{Frees}
use Rattle.rv_server_connections.specs.connection.History.{CutsBad, CutsOpen, CutsWhole, Given, IsHistory}
use Rattle.rv_server_connections.specs.connection.History.{KeepsAnswer, KeepsEnd, KeepsFrame, KeepsLeaving}
use Rattle.rv_server_connections.specs.connection.History.{KeepsPiece, KeepsRelease, OpensHistory}
use Rattle.rv_server_connections.specs.connection.History.{given_bytes, owed_count}

-- ---- what is freed

given_append : (a b : List Given) → given_bytes (a ++ b) ≡ given_bytes a ++ given_bytes b
given_append [] b = refl
given_append (x ∷ a) b = ap (λ l. resting x.rests_on (frame_bytes x.body) ++ l) (given_append a b)
    ∙ sym (append_assoc (resting x.rests_on (frame_bytes x.body)) (given_bytes a) (given_bytes b))

still_free : (before written : ℕ) (front : List AnswerByte) → before ≤ written
    → All (λ b. b.rests_on ≤ before) front → All (λ b. b.rests_on ≤ written) front
still_free before written front later free k d within =
    let at = free k d within in
    omega arith

-- what is freed of what stays and of what is new goes after what was freed before
pub frees_on : (before written : ℕ) (held front rest new more last : List AnswerByte) → before ≤ written
    → Frees before held front rest → Frees written (rest ++ new) more last
    → Frees written (held ++ new) (front ++ more) last
frees_on before written held front rest new more last later first second = record {
  parts = ap (λ l. l ++ new) first.parts ∙ append_assoc front rest new ∙ ap (λ l. front ++ l) second.parts
      ∙ sym (append_assoc front more last);
  free = All-append (λ (b : AnswerByte). b.rests_on ≤ written) front more
      (still_free before written front later first.free) second.free;
  held_back = second.held_back;
}

-- ---- each call

pub opens : OpensHistory
opens written = record {
  input = refl;
  whole = All-nil IsFrameBody;
  answered = refl;
  front = [];
  frees = record { parts = refl; free = All-nil (λ (b : AnswerByte). b.rests_on ≤ written); held_back = tt };
  leaves = refl;
}

pub keeps_piece : KeepsPiece
keeps_piece written count h old new piece was takes =
    subst (λ (t : Traffic). IsHistory written (record h { came = h.came ++ take count piece }) t)
    (sym takes.unread)
    (record {
      input = ap (λ l. l ++ take count piece) was.input ∙ append_assoc (row_bytes h.frames) old.unread
          (take count piece);
      whole = was.whole;
      answered = was.answered;
      front = was.front;
      frees = was.frees;
      leaves = was.leaves;
    })

pub keeps_frame : KeepsFrame
keeps_frame written h old was due = record {
  input = was.input ∙ ap (λ l. row_bytes h.frames ++ l) due.whole.frame
      ∙ ap (λ l. row_bytes h.frames ++ l) (sym (append-nil (frame_bytes due.whole.body)))
      ∙ sym (row_append h.frames (due.whole.body ∷ []))
      ∙ sym (append-nil (row_bytes (h.frames ++ due.whole.body ∷ [])));
  whole = All-append IsFrameBody h.frames (due.whole.body ∷ []) was.whole (All-cons IsFrameBody due.whole.body
      []
      due.whole.fits (All-nil IsFrameBody));
  answered = length-append h.frames (due.whole.body ∷ []) ∙ ap (λ n. n + 1) (was.answered
      ∙ ap (λ o. length h.answers + owed_count o) due.none_owed ∙ omega arith);
  front = was.front;
  frees = was.frees;
  leaves = was.leaves;
}

pub keeps_answer : KeepsAnswer
keeps_answer written entries h old new body was owes answers =
    let given : Given = record { body = body; rests_on = entries } in
    subst (λ (t : Traffic). IsHistory written (record h { answers = h.answers ++ given ∷ [] }) t)
    (sym answers.goes)
    (record {
      input = was.input;
      whole = was.whole;
      answered = was.answered ∙ ap (λ o. length h.answers + owed_count o) owes
          ∙ sym (length-append h.answers (given ∷ [])) ∙ omega arith;
      front = was.front ++ answers.front;
      frees =
          subst (λ (l : List AnswerByte). Frees written l (was.front ++ answers.front) new.behind)
          (sym (given_append h.answers (given ∷ [])
          ∙ ap (λ l. given_bytes h.answers ++ l) (append-nil (resting entries (frame_bytes body)))))
          (frees_on written written (given_bytes h.answers) was.front old.behind
          (resting entries (frame_bytes body)) answers.front new.behind (omega arith) was.frees
          answers.frees);
      leaves = map-append (λ (b : AnswerByte). b.byte) was.front answers.front
          ∙ ap (λ l. l ++ bytes_of answers.front) was.leaves
          ∙ append_assoc h.left old.ready (bytes_of answers.front);
    })

pub keeps_release : KeepsRelease
keeps_release before written h old new later was releases =
    subst (λ (t : Traffic). IsHistory written h t) (sym releases.goes)
    (record {
      input = was.input;
      whole = was.whole;
      answered = was.answered;
      front = was.front ++ releases.front;
      frees =
          subst (λ (l : List AnswerByte). Frees written l (was.front ++ releases.front) new.behind)
          (append-nil (given_bytes h.answers))
          (frees_on before written (given_bytes h.answers) was.front old.behind [] releases.front new.behind
          later
          was.frees
          (subst (λ (l : List AnswerByte). Frees written l releases.front new.behind)
          (sym (append-nil old.behind)) releases.frees));
      leaves = map-append (λ (b : AnswerByte). b.byte) was.front releases.front
          ∙ ap (λ l. l ++ bytes_of releases.front) was.leaves
          ∙ append_assoc h.left old.ready (bytes_of releases.front);
    })

pub keeps_leaving : KeepsLeaving
keeps_leaving written count h old was within = record {
  input = was.input;
  whole = was.whole;
  answered = was.answered;
  front = was.front;
  frees = was.frees;
  leaves = was.leaves ∙ ap (λ l. h.left ++ l) (sym (take-append-drop count old.ready))
      ∙ sym (append_assoc h.left (take count old.ready) (drop count old.ready));
}

pub keeps_end : KeepsEnd
keeps_end written h old was = record {
  input = was.input;
  whole = was.whole;
  answered = was.answered;
  front = was.front;
  frees = was.frees;
  leaves = was.leaves;
}

-- ---- the cut of all that came

pub cuts_open : CutsOpen
cuts_open written h t was unfinished = record {
  after = t.unread;
  parts = was.input;
  fit = was.whole;
  ends = (refl, unfinished);
}

nothing_unfinished : IsUnfinished []
nothing_unfinished = record {
  no_frame = λ body more fits same. absurd (cc);
  good_length = λ n more same. absurd (cc);
}

pub cuts_whole : CutsWhole
cuts_whole written h t was one = record {
  after = [];
  parts = was.input ∙ ap (λ l. row_bytes h.frames ++ l) (one.frame ∙ sym (append-nil (frame_bytes one.body)))
      ∙ sym (row_append h.frames (one.body ∷ [])) ∙ sym (append-nil (row_bytes (h.frames ++ one.body ∷ [])));
  fit = All-append IsFrameBody h.frames (one.body ∷ []) was.whole (All-cons IsFrameBody one.body [] one.fits
      (All-nil IsFrameBody));
  ends = (refl, nothing_unfinished);
}

pub cuts_bad : CutsBad
cuts_bad written h t was bad = record {
  after = t.unread;
  parts = was.input;
  fit = was.whole;
  ends = record { more = []; parts = bad; is_bad = λ fits. absurd (omega (arith, fits.0)) };
}
