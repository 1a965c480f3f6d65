-- Texts of several lines are the lines that they say.
use Rattle.std.proofs.Common.{◌≡◌, ◌++◌, ◌∷◌, ◌∙◌, ℕ, List, [], None, Option, Some, ap, append_assoc, codes}
use Rattle.std.proofs.Common.{refl}
use Rattle.std.proofs.Common.{slice_get, subst, sym, true, Bool, ◌+◌, ◌/◌}
use Rattle.std.specs.Fmt.{decimal}
use Rattle.rv_account.specs.Account.{Account}
use Rattle.rv_audit.specs.declared.rule.Rule.{Rule}
use Rattle.rv_replies.specs.findings.Tallies.{words_of}
use Rattle.rv_replies.specs.declared.findings.Finding.{Finding}
use Rattle.rv_replies.specs.declared.findings.Finding.TheVariants.{Impossible, Kept, KeptUnseen, NoRecord}
use Rattle.rv_replies.specs.declared.findings.Finding.TheVariants.{NoRequest, OtherCall, OtherEpoch}
use Rattle.rv_replies.specs.declared.findings.Finding.TheVariants.{OtherReply, Waiting}
use Rattle.rv_replies.specs.declared.findings.Told.{Told}
use Rattle.rv_replies.specs.Firsts.{StandsBeside}
use Rattle.rv_replies.specs.declared.records.Beside.{Beside}
use Rattle.rv_replies.specs.Standing.{HasNoted}
use Rattle.rv_replies.specs.declared.reading.Flaw.{Flaw}
use Rattle.rv_replies.specs.declared.records.Line.{Line}
use Rattle.rv_replies.specs.declared.records.Line.TheVariants as line
use Rattle.rv_replies.specs.declared.records.Records.{Records}
use Rattle.rv_replies.specs.declared.findings.verdict.AccountVerdict.{AccountVerdict}
use Rattle.rv_run.specs.inspect.Lines.{SaysFate, beside_lines, count, count_lines, finding_text}
use Rattle.rv_run.specs.inspect.Lines.{verdict_lines, verdict_text}
use Rattle.rv_run.specs.inspect.Progress.{read_of_text, seconds_left}
use Rattle.rv_run.specs.inspect.Texts.{IsLineText, IsOneText, first_counts, kept_counts, last_counts}
use Rattle.rv_run.specs.inspect.Texts.{next_counts}
use Rattle.rv_run.specs.inspect.Report.{IsOther, SaysFinding}

behind : (x y z w : List ℕ) → y ++ z ≡ w → (x ++ y) ++ z ≡ x ++ w
behind x y z w is = append_assoc x y z ∙ ap (λ l. x ++ l) is

-- a line, and another one after LF
pub two_lines : (x y : List ℕ) → IsOneText (x ∷ y ∷ []) (x ++ 10 ∷ y)
two_lines x y = append_assoc x (10 ∷ y) (10 ∷ [])

-- a verdict, and after it that the end is torn
pub torn_text : (v : AccountVerdict) (rule : Option Rule) (torn : Bool) (own text : List ℕ) → torn ≡ true
    → own ≡ verdict_text v rule → text ≡ own ++ codes "\ntorn end"
    → IsOneText (verdict_lines v rule torn) text
torn_text v rule torn own text is own_is text_is =
    subst (λ (b : Bool). IsOneText (verdict_lines v rule b) text) (sym is)
    (ap (λ l. l ++ 10 ∷ []) (text_is ∙ ap (λ l. l ++ codes "\ntorn end") own_is)
    ∙ two_lines (verdict_text v rule) (codes "torn end"))

-- how far a reading is, by the seconds that are left
pub left_text : (lines bytes size seconds left : ℕ) (text : List ℕ) → left ≡ seconds_left bytes size seconds
    → text ≡ decimal lines ++ (codes " lines, " ++ (decimal (bytes / 1000000) ++ (codes " of "
    ++ (decimal (size / 1000000) ++ (codes " MB, about " ++ (decimal left ++ codes " s still"))))))
    → text ≡ read_of_text lines bytes size seconds
left_text lines bytes size seconds left text is text_is = text_is
    ∙ ap (λ l. decimal lines ++ (codes " lines, " ++ (decimal (bytes / 1000000) ++ (codes " of "
    ++ (decimal (size / 1000000) ++ (codes " MB, about " ++ (decimal l ++ codes " s still"))))))) is

-- ---- a line of a record

finding_says : (a : Account) (own : Line) (number : ℕ) (finding : Finding) (text : List ℕ)
    → ((told : Told) → own ≡ line.Told told → SaysFate a told number finding text)
    → ((flaw : Flaw) → own ≡ line.Flawed flaw → text ≡ finding_text number finding None)
    → SaysFinding a own number finding text
finding_says a (line.Told told) number finding text fate flawed = fate told refl
finding_says a (line.Flawed flaw) number finding text fate flawed = flawed flaw refl

is_other : (lines : List Line) (index : ℕ) (own : Line) (other : Option (Beside × ℕ))
    → ((told : Told) → own ≡ line.Told told → StandsBeside lines index told other)
    → ((flaw : Flaw) → own ≡ line.Flawed flaw → other ≡ None) → IsOther lines index own other
is_other lines index (line.Told told) other stands flawed = stands told refl
is_other lines index (line.Flawed flaw) other stands flawed = flawed flaw refl

module _ (r : Records) (index : ℕ) (finding : Finding) (own : List ℕ) (other : Option (Beside × ℕ))
    (told : (a : Account) (t : Told) → slice_get r.lines.items index ≡ Some (line.Told t) → HasNoted r a
    → SaysFate a t (index + 1) finding own)
    (flawed : (flaw : Flaw) → slice_get r.lines.items index ≡ Some (line.Flawed flaw)
    → own ≡ finding_text (index + 1) finding None)
    (stands : (a : Account) (t : Told) → slice_get r.lines.items index ≡ Some (line.Told t) → HasNoted r a
    → StandsBeside r.lines.items index t other)
    (alone : (flaw : Flaw) → slice_get r.lines.items index ≡ Some (line.Flawed flaw) → other ≡ None) where
  pub line_text : (text : List ℕ) → IsOneText (own ∷ beside_lines index other) text
      → IsLineText r index finding text
  line_text text piece = record {
    lines = own ∷ beside_lines index other;
    piece = piece;
    says = λ a this noted there. record {
      text = own;
      other = other;
      says = finding_says a this (index + 1) finding own
          (λ t is. told a t (there ∙ ap Some is) noted)
          (λ flaw is. flawed flaw (there ∙ ap Some is));
      beside = is_other r.lines.items index this other
          (λ t is. stands a t (there ∙ ap Some is) noted)
          (λ flaw is. alone flaw (there ∙ ap Some is));
      texts_are = refl;
    };
  }

-- ---- the counts

module _ (fs : List Finding) (d n : ℕ) where
  last_on : (x : List ℕ) → last_counts fs d n ++ x
      ≡ codes "no record " ++ (count fs NoRecord ++ (codes "\ndiffering " ++ (decimal d
      ++ (codes "\nrepeating " ++ (decimal n ++ x)))))
  last_on x =
      let repeating : List ℕ = codes "\nrepeating " ++ decimal n in
      let differing : List ℕ = codes "\ndiffering " ++ (decimal d ++ repeating) in
      behind (codes "no record ") (count fs NoRecord ++ differing) x _
      (behind (count fs NoRecord) differing x _
      (behind (codes "\ndiffering ") (decimal d ++ repeating) x _
      (behind (decimal d) repeating x _
      (append_assoc (codes "\nrepeating ") (decimal n) x))))

  next_on : (x : List ℕ) → next_counts fs ++ x
      ≡ codes "still waiting " ++ (count fs Waiting ++ (codes "\nanother epoch " ++ (count fs OtherEpoch
      ++ ((10 ∷ words_of Impossible ++ 32 ∷ []) ++ (count fs Impossible ++ x)))))
  next_on x =
      let last : List ℕ = 10 ∷ words_of Impossible ++ 32 ∷ [] in
      behind (codes "still waiting ") (count fs Waiting ++ (codes "\nanother epoch " ++ (count fs OtherEpoch
      ++ (last ++ count fs Impossible)))) x _
      (behind (count fs Waiting) (codes "\nanother epoch " ++ (count fs OtherEpoch
      ++ (last ++ count fs Impossible))) x _
      (behind (codes "\nanother epoch ") (count fs OtherEpoch ++ (last ++ count fs Impossible)) x _
      (behind (count fs OtherEpoch) (last ++ count fs Impossible) x _
      (append_assoc last (count fs Impossible) x))))

  first_on : (x : List ℕ) → first_counts fs ++ x
      ≡ codes "another reply " ++ (count fs OtherReply
      ++ (codes "\nanother call " ++ (count fs OtherCall ++ (codes "\nno such request "
      ++ (count fs NoRequest ++ x)))))
  first_on x =
      let three : List ℕ = codes "\nno such request " ++ count fs NoRequest in
      let two : List ℕ = codes "\nanother call " ++ (count fs OtherCall ++ three) in
      behind (codes "another reply ") (count fs OtherReply ++ two) x _
      (behind (count fs OtherReply) two x _
      (behind (codes "\nanother call ") (count fs OtherCall ++ three) x _
      (behind (count fs OtherCall) three x _
      (append_assoc (codes "\nno such request ") (count fs NoRequest) x))))

  kept_on : (x : List ℕ) → kept_counts fs ++ x
      ≡ codes "kept " ++ (count fs Kept ++ ((10 ∷ words_of KeptUnseen ++ 32 ∷ []) ++ (count fs KeptUnseen ++
      x)))
  kept_on x =
      let last : List ℕ = 10 ∷ words_of KeptUnseen ++ 32 ∷ [] in
      behind (codes "kept ") (count fs Kept ++ (last ++ count fs KeptUnseen)) x _
      (behind (count fs Kept) (last ++ count fs KeptUnseen) x _
      (append_assoc last (count fs KeptUnseen) x))

  -- all but the kept ones
  abbrev rest : List ℕ
  rest = first_counts fs ++ (10 ∷ (next_counts fs ++ (10 ∷ last_counts fs d n)))

  abbrev printed : List ℕ
  printed = codes "another reply " ++ (count fs OtherReply
      ++ (codes "\nanother call " ++ (count fs OtherCall ++ (codes "\nno such request "
      ++ (count fs NoRequest ++ 10 ∷ (codes "still waiting " ++ (count fs Waiting
      ++ (codes "\nanother epoch " ++ (count fs OtherEpoch ++ ((10 ∷ words_of Impossible ++ 32 ∷ [])
      ++ (count fs Impossible ++ 10 ∷ (codes "no record " ++ (count fs NoRecord ++ (codes "\ndiffering "
      ++ (decimal d ++ (codes "\nrepeating " ++ (decimal n ++ 10 ∷ [])))))))))))))))))

  rest_on : rest ++ 10 ∷ [] ≡ printed
  rest_on =
      append_assoc (first_counts fs) (10 ∷ (next_counts fs ++ (10 ∷ last_counts fs d n))) (10 ∷ [])
      ∙ ap (λ l. first_counts fs ++ 10 ∷ l) (append_assoc (next_counts fs) (10 ∷ last_counts fs d n) (10 ∷ [])
      ∙ ap (λ l. next_counts fs ++ 10 ∷ l) (last_on (10 ∷ []))
      ∙ next_on (10 ∷ (codes "no record " ++ (count fs NoRecord ++ (codes "\ndiffering "
      ++ (decimal d ++ (codes "\nrepeating " ++ (decimal n ++ 10 ∷ []))))))))
      ∙ first_on _

  counts_piece : IsOneText (count_lines fs d n) (kept_counts fs ++ 10 ∷ rest)
  counts_piece =
      append_assoc (kept_counts fs) (10 ∷ rest) (10 ∷ []) ∙ ap (λ l. kept_counts fs ++ 10 ∷ l) rest_on
      ∙ kept_on (10 ∷ printed)

  pub counts_printed : (kept first next last text : List ℕ) → kept ≡ kept_counts fs → first ≡ first_counts fs
      → next ≡ next_counts fs → last ≡ last_counts fs d n
      → text ≡ kept ++ (10 ∷ (first ++ (10 ∷ (next ++ (10 ∷ last))))) → IsOneText (count_lines fs d n) text
  counts_printed kept first next last text begins is own ends all = ap (λ l. l ++ 10 ∷ []) (all
      ∙ ap (λ l. l ++ (10 ∷ (first ++ (10 ∷ (next ++ (10 ∷ last)))))) begins
      ∙ ap (λ l. kept_counts fs ++ (10 ∷ (l ++ (10 ∷ (next ++ (10 ∷ last)))))) is
      ∙ ap (λ l. kept_counts fs ++ (10 ∷ (first_counts fs ++ (10 ∷ (l ++ (10 ∷ last)))))) own
      ∙ ap (λ l. kept_counts fs ++ (10 ∷ (first_counts fs ++ (10 ∷ (next_counts fs ++ (10 ∷ l)))))) ends)
      ∙ counts_piece
