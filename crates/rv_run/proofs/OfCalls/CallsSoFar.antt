-- How far a run of calls over an input has come, and what it leaves where it ends.
use Rattle.std.proofs.Common.{◌≡◌, ◌∙◌, ◌<◌, ◌≤◌, ◌+◌, ◌-◌, ◌++◌, ◌∷◌, ◌⊎◌, [], ℕ, List, Option, Some, None}
use Rattle.std.proofs.Common.{Result, Ok, Err, IfErr, IfOk, IfSome, OnOk, append-nil, append_assoc, ap, arith}
use Rattle.std.proofs.Common.{inl, inr, length, length-append, refl, subst, sym, take}
use Rattle.std.proofs.Math.Seq.{take-append-add}
use Rattle.std.specs.Io.KnownBytes.{Appends}
use Rattle.std.proofs.KnownBytes.{Appends-nil, Appends-trans}
use Rattle.rv_text.specs.declared.message.Key.{Key}
use Rattle.rv_frame.specs.declared.sink.Sink.{Sink}
use Rattle.rv_frame.specs.declared.source.Source.{Source}
use Rattle.rv_frame.specs.Sink.{sink_contents}
use Rattle.rv_frame.specs.Source.{source_remaining}
use Rattle.rv_client.specs.Link.{Link}
use Rattle.rv_text.specs.Members.{max_identifier}
use Rattle.rv_client.specs.Process.{Starting, first_key, key_after}
use Rattle.rv_run.specs.declared.calls.CallSaid.{CallSaid}
use Rattle.rv_run.specs.declared.calls.CallSaid.TheVariants.{Stopped, Whole}
use Rattle.rv_run.specs.declared.fault.RunFault.{RunFault}
use Rattle.rv_run.specs.declared.fault.RunFault.TheVariants.{NoMemory, ReadFault, TooLong, WriteFault}
use Rattle.rv_run.specs.declared.calls.end_word.EndWord.{EndWord}
use Rattle.rv_run.specs.calls.CallRuns.{CutsLine, CutsText, RanCalls, RunsCalls, SettlesAll, SettlesFirst}
use Rattle.rv_run.specs.calls.CallRuns.{Stops, StopsText, TakesLines, TakesText, TextComesNext}
use Rattle.rv_run.specs.declared.calls.client.Halt.TheVariants as halt
use Rattle.rv_run.specs.calls.Calling.{HaltsAt, HasNumbers, IsTurnedAway, IsWelcomed, SettlesLine}
use Rattle.rv_run.specs.calls.Calling.{SettlesLines, StopsWithWord, key_behind}
use Rattle.rv_book.specs.lines.Lines.{lines}
use Rattle.rv_run.specs.Input.{ReadsAll}
use Rattle.rv_book.specs.lines.Lines.{printed_lines}
use Rattle.rv_run.specs.calls.EndWord.{word_text}
use Rattle.rv_run.proofs.Printing.{printed_append}
use Rattle.rv_run.proofs.OfCalls.Settling.{key_behind_none, key_behind_on, key_next, settles_more}

at_ok : (result : Result CallSaid RunFault) (P : Result CallSaid RunFault → Type 0) → P result
    → IfOk result (λ said. P (Ok said))
at_ok (Ok said) P has = has
at_ok (Err fault) P has = tt

pub same_Some : {a b : Key} → Some a ≡ Some b → a ≡ b
same_Some same = cc

-- ---- what was printed

module _ {O : Type 0} (taken : O → Option (List ℕ)) where
  pub takes_none : (out : Sink O) → TakesLines taken [] out out
  takes_none out = record { went_out = Appends-nil _; sink_stays = refl }

  pub takes_more : (texts : List (List ℕ)) (text : List ℕ) (a b c : Sink O) → TakesLines taken texts a b
      → TakesText taken text b c → TakesLines taken (texts ++ text ∷ []) a c
  takes_more texts text a b c lines one = record {
    went_out = subst (Appends (sink_contents taken a) (sink_contents taken c))
        (sym (printed_append texts (text ∷ []))) (Appends-trans _ _ _ (printed_lines texts) _ lines.went_out
        one.went_out);
    sink_stays = one.sink_stays ∙ lines.sink_stays;
  }

  pub cuts_more : (texts : List (List ℕ)) (text : List ℕ) (before sent : ℕ) (a b c : Sink O)
      → TakesLines taken texts a b → before ≡ length (printed_lines texts)
      → CutsText taken text before sent b c
      → CutsLine taken texts text sent a c
  cuts_more texts text before sent a b c lines count cut =
      let joined = printed_append texts (text ∷ []) in
      let whole : length (printed_lines (texts ++ text ∷ [])) ≡ before + length text + 1 =
      omega (
        arith,
        ap length joined,
        length-append (printed_lines texts) (text ++ 10 ∷ []),
        length-append
            text (10 ∷ []),
        count,
      ) in
      let places : sent ≡ length (printed_lines texts) + (sent - before) =
      omega (arith, count, cut.past_others) in
      let front : take sent (printed_lines (texts ++ text ∷ [])) ≡ printed_lines texts ++ take (sent - before)
      (text ++ 10 ∷ []) =
      ap (λ n. take n (printed_lines (texts ++ text ∷ []))) places
      ∙ ap (take (length (printed_lines texts) + (sent - before))) joined ∙ take-append-add
      (printed_lines texts) (text ++ 10 ∷ []) (sent - before) in
      record {
        past_others = omega (arith, count, cut.past_others);
        not_all = omega (arith, whole, cut.not_all);
        went_out = subst (Appends (sink_contents taken a) (sink_contents taken c)) (sym front)
            (Appends-trans _ _ _ (printed_lines texts) _ lines.went_out cut.went_out);
        sink_fails = cut.sink_fails;
      }

-- ---- what came of the lines

module _ {O R W : Type 0} (taken : O → Option (List ℕ)) (remaining : R → Option (List ℕ)) (contents : W
    → Option (List ℕ)) (tries : ℕ) where
  -- of all lines those before the rest are settled, the first under the key, and their texts are printed; the
  -- client is idle at the next
  pub record SoFar (all : List (List ℕ)) (key : Key) (greeted at : Link R W) (out out' : Sink O) (idle :
      Option Key) (rest : List ℕ) (count : ℕ) : Type 0 where
    pub first : List (List ℕ)
    pub texts : List (List ℕ)
    pub cut : all ≡ first ++ lines rest
    pub settled : SettlesLines remaining contents tries key first texts greeted at
    pub took : TakesLines taken texts out out'
    pub counted : count ≡ length (printed_lines texts)
    pub next : idle ≡ Some (key_behind key (length texts))

  unfoldable pub none_so_far : (key : Key) (at : Link R W) (out : Sink O) (idle : Option Key) (input : List ℕ)
      → idle ≡ Some key → SoFar (lines input) key at at out out idle input 0
  none_so_far key at out idle input is = record {
    first = [];
    texts = [];
    cut = refl;
    settled = refl;
    took = takes_none taken out;
    counted = refl;
    next = is ∙ ap Some (sym (key_behind_none key));
  }

  unfoldable pub one_more : (all : List (List ℕ)) (key : Key) (greeted at at' : Link R W) (a b c : Sink O)
      (idle next :
      Option Key) (rest line after text : List ℕ) (count count' : ℕ)
      → SoFar all key greeted at a b idle rest count → HasNumbers idle (length rest)
      → length after < length rest → lines rest ≡ line ∷ lines after
      → IfSome idle (λ k. next ≡ key_after k)
      → IfSome idle (λ k. SettlesLine remaining contents tries k line text at at')
      → TakesText taken text b c → count' ≡ count + length text + 1
      → SoFar all key greeted at' a c next after count'
  one_more all key greeted at at' a b c idle next rest line after text count count' so_far has shorter cut
      follows one out more =
      let n = length so_far.texts in
      let then = subst (λ (i : Option Key). IfSome i (λ k. next ≡ key_after k)) so_far.next follows in
      let here = subst (λ (i : Option Key). IfSome i (λ k. SettlesLine remaining contents tries k line text at
      at')) so_far.next one in
      let same : has.key ≡ key_behind key n = same_Some (sym has.is_next ∙ so_far.next) in
      let room : key.number + n + length rest ≤ max_identifier = subst (λ (k : Key). k.number + length rest ≤
      max_identifier) same has.room in
      let joined = printed_append so_far.texts (text ∷ []) in
      record {
        first = so_far.first ++ line ∷ [];
        texts = so_far.texts ++ text ∷ [];
        cut = so_far.cut ∙ ap (λ l. so_far.first ++ l) cut ∙ sym (append_assoc so_far.first (line ∷ [])
            (lines after));
        settled = settles_more remaining contents tries key so_far.first so_far.texts line text greeted at at'
            so_far.settled here;
        took = takes_more taken so_far.texts text a b c so_far.took out;
        counted = omega (
          arith,
          more,
          so_far.counted,
          ap length joined,
          length-append
              (printed_lines so_far.texts) (text ++ 10 ∷ []),
          length-append text (10 ∷ []),
        );
        next = then ∙ key_next (key_behind key n) (omega (arith, room, shorter))
            ∙ ap Some (key_behind_on key n) ∙ ap (λ (m : ℕ). Some (key_behind key m))
            (sym (length-append so_far.texts (text ∷ [])));
      }

-- ---- the end of a run

module _ {O R W : Type 0} (taken : O → Option (List ℕ)) (remaining : R → Option (List ℕ)) (contents : W
    → Option (List ℕ)) (starting : Starting) (tries : ℕ) where
  -- after the texts a word is printed, or it is not
  pub runs_by_word : (all texts : List (List ℕ)) (word : EndWord) (before after : Link R W) (count : ℕ)
      (a b c : Sink O) (result : Result CallSaid RunFault)
      → Stops remaining contents starting tries all texts word before after → TakesLines taken texts a b
      → count ≡ length (printed_lines texts)
      → IfOk result (λ said. said ≡ Stopped) → OnOk result (TakesText taken (word_text word) b c)
      → IfErr result (StopsText taken (word_text word) count b c)
      → RunsCalls taken remaining contents starting tries all before after a c result
  runs_by_word all texts word before after count a b c (Ok Stopped) stops took counted said out cut =
      record {
        texts = texts;
        word = word;
        stops = stops;
        took = takes_more taken texts (word_text word) a b c
            took out;
      }
  runs_by_word all texts word before after count a b c (Ok Whole) stops took counted said out cut =
      absurd (cc)
  runs_by_word all texts word before after count a b c (Err (WriteFault fault)) stops took counted said out
      cut =
      record {
        texts = texts;
        text = word_text word;
        says = inr (word, stops, refl);
        cut = cuts_more taken
            texts (word_text word) count fault.sent a b c took counted cut;
      }
  runs_by_word all texts word before after count a b c (Err NoMemory) stops took counted said out cut =
      record {
        texts = texts;
        leaves = inr (word_text word, inr (word, stops, refl));
        took =
            subst (TakesLines taken texts a) (sym cut) took;
      }
  runs_by_word all texts word before after count a b c (Err ReadFault) stops took counted said out cut =
      absurd cut
  runs_by_word all texts word before after count a b c (Err TooLong) stops took counted said out cut =
      absurd cut

  -- the client is not welcome
  pub runs_at_once : (all : List (List ℕ)) (word : EndWord) (before after : Link R W) (a c : Sink O) (result :
      Result CallSaid RunFault)
      → IsTurnedAway remaining contents starting tries word before after
      → IfOk result (λ said. said ≡ Stopped) → OnOk result (TakesText taken (word_text word) a c)
      → IfErr result (StopsText taken (word_text word) 0 a c)
      → RunsCalls taken remaining contents starting tries all before after a c result
  runs_at_once all word before after a c result turned said out cut =
      runs_by_word all [] word before after 0 a a c result
      (inl (record { no_text = refl; turned_away = turned })) (takes_none taken a) refl said out cut

  module _ {all : List (List ℕ)} {epoch : ℕ} {before greeted at : Link R W} {a b : Sink O} {idle : Option Key}
      {rest : List ℕ} {count : ℕ}
      (welcomed : IsWelcomed remaining contents starting tries epoch before greeted)
      (so_far : SoFar taken remaining contents tries all (first_key starting epoch) greeted at a b idle rest
      count) where
    pub settles_first : SettlesFirst remaining contents starting tries all so_far.texts before at
    settles_first = record {
      first = so_far.first;
      later = lines rest;
      cut = so_far.cut;
      settles = record { epoch = epoch; greeted = greeted; welcomed = welcomed; settled = so_far.settled };
    }

    pub settles_all : rest ≡ [] → SettlesAll remaining contents starting tries all so_far.texts before at
    settles_all none =
        let whole : all ≡ so_far.first = so_far.cut ∙ ap (λ bytes. so_far.first ++ lines bytes) none
        ∙ append-nil so_far.first in
        record {
          epoch = epoch;
          greeted = greeted;
          welcomed = welcomed;
          settled = subst (λ (l : List (List ℕ)). SettlesLines remaining contents tries
              (first_key starting epoch) l so_far.texts greeted at) (sym whole) so_far.settled;
        }

    pub runs_whole : rest ≡ [] → RunsCalls taken remaining contents starting tries all before at a b
        (Ok Whole)
    runs_whole none = record { texts = so_far.texts; settles = settles_all none; took = so_far.took }

    -- a word ends it at the next line
    pub stops_at : (line later : List ℕ) (word : EndWord) (after : Link R W) → lines rest ≡ line ∷ lines later
        → IfSome idle (λ key. StopsWithWord remaining contents tries key line word at after)
        → Stops remaining contents starting tries all so_far.texts word before after
    stops_at line later word after cut stops =
        let here = subst (λ (i : Option Key). IfSome i (λ key. StopsWithWord remaining contents tries key line
        word at after)) so_far.next stops in
        inr (record {
          first = so_far.first;
          line = line;
          later = lines later;
          cut = so_far.cut ∙ ap (λ l. so_far.first ++ l) cut;
          epoch = epoch;
          greeted = greeted;
          welcomed = welcomed;
          between = at;
          settled = so_far.settled;
          stops = here;
        })

    pub runs_to_word : (line later : List ℕ) (word : EndWord) (after : Link R W) (c : Sink O) (result :
        Result CallSaid RunFault) → lines rest ≡ line ∷ lines later
        → IfSome idle (λ key. StopsWithWord remaining contents tries key line word at after)
        → IfOk result (λ said. said ≡ Stopped) → OnOk result (TakesText taken (word_text word) b c)
        → IfErr result (StopsText taken (word_text word) count b c)
        → RunsCalls taken remaining contents starting tries all before after a c result
    runs_to_word line later word after c result cut stops said out short =
        runs_by_word all so_far.texts word before after count a b c result
        (stops_at line later word after cut stops) so_far.took so_far.counted said out short

    -- the next line is settled
    settles_at : (line later text : List ℕ) (after : Link R W) → lines rest ≡ line ∷ lines later
        → SettlesLine remaining contents tries (key_behind (first_key starting epoch) (length so_far.texts))
        line text at after
        → SettlesFirst remaining contents starting tries all (so_far.texts ++ text ∷ []) before after
    settles_at line later text after cut here = record {
      first = so_far.first ++ line ∷ [];
      later = lines later;
      cut = so_far.cut ∙ ap (λ l. so_far.first ++ l) cut ∙ sym (append_assoc so_far.first (line ∷ [])
          (lines later));
      settles = record {
        epoch = epoch;
        greeted = greeted;
        welcomed = welcomed;
        settled = settles_more remaining contents tries (first_key starting epoch) so_far.first so_far.texts
            line text greeted at after so_far.settled here;
      };
    }

    pub settles_next : (line later text : List ℕ) (after : Link R W) → lines rest ≡ line ∷ lines later
        → IfSome idle (λ key. SettlesLine remaining contents tries key line text at after)
        → SettlesFirst remaining contents starting tries all (so_far.texts ++ text ∷ []) before after
    settles_next line later text after cut one =
        settles_at line later text after cut (subst (λ (i : Option Key). IfSome i (λ key. SettlesLine
        remaining contents tries key line text at after)) so_far.next one)

    -- and its text does not go out
    pub runs_to_cut : (line later text : List ℕ) (after : Link R W) (c : Sink O) (fault : RunFault)
        → lines rest ≡ line ∷ lines later
        → IfSome idle (λ key. SettlesLine remaining contents tries key line text at after)
        → StopsText taken text count b c fault
        → RunsCalls taken remaining contents starting tries all before after a c (Err fault)
    runs_to_cut line later text after c (WriteFault fault) cut one stops =
        record {
          texts = so_far.texts;
          text = text;
          says = inl (settles_next line later text after cut one);
          cut = cuts_more taken so_far.texts text count fault.sent a b c so_far.took so_far.counted stops;
        }
    runs_to_cut line later text after c NoMemory cut one stops =
        record {
          texts = so_far.texts;
          leaves = inr (text, inl (settles_next line later text after cut one));
          took =
              subst (TakesLines taken so_far.texts a) (sym stops) so_far.took;
        }
    runs_to_cut line later text after c ReadFault cut one stops = absurd stops
    runs_to_cut line later text after c TooLong cut one stops = absurd stops

    -- the next line lacks memory: it is not read, or settled and has no text
    short_at : (line later : List ℕ) (after : Link R W) → lines rest ≡ line ∷ lines later
        → HaltsAt remaining contents tries (key_behind (first_key starting epoch) (length so_far.texts)) line
        halt.NoMemory at after
        → SettlesFirst remaining contents starting tries all so_far.texts before after
        ⊎ ((text : List ℕ) × TextComesNext remaining contents starting tries all so_far.texts text before
        after)
    short_at line later after cut (inl same) = inl (subst (SettlesFirst remaining contents starting tries all
        so_far.texts before) (sym same) settles_first)
    short_at line later after cut (inr settled) =
        inr (settled.0, inl (settles_at line later settled.0 after cut settled.1))

    pub leaves_short : (line later : List ℕ) (after : Link R W) → lines rest ≡ line ∷ lines later
        → IfSome idle (λ key. HaltsAt remaining contents tries key line halt.NoMemory at after)
        → SettlesFirst remaining contents starting tries all so_far.texts before after
        ⊎ ((text : List ℕ) × TextComesNext remaining contents starting tries all so_far.texts text before
        after)
    leaves_short line later after cut halts =
        short_at line later after cut (subst (λ (i : Option Key). IfSome i (λ key. HaltsAt remaining contents
        tries key line halt.NoMemory at after)) so_far.next halts)

    pub runs_short : (line later : List ℕ) (after : Link R W) → lines rest ≡ line ∷ lines later
        → IfSome idle (λ key. HaltsAt remaining contents tries key line halt.NoMemory at after)
        → RunsCalls taken remaining contents starting tries all before after a b (Err NoMemory)
    runs_short line later after cut halts = record {
      texts = so_far.texts;
      leaves = leaves_short line later after cut halts;
      took = so_far.took;
    }

-- ---- the input that was read

module _ {L O R W : Type 0} (given : L → Option (List ℕ)) (taken : O → Option (List ℕ)) (remaining : R
    → Option (List ℕ)) (contents : W → Option (List ℕ)) (starting : Starting) (tries : ℕ)
    (source source' : Source L) (items : List ℕ) (before after : Link R W) (out out' : Sink O) (result :
    Result CallSaid RunFault)
    (read : ReadsAll given source source') (same : IfSome (source_remaining given source)
    (λ bytes. items ≡ bytes))
    (runs : RunsCalls taken remaining contents starting tries (lines items) before after out out' result)
  where
    -- what holds of the bytes that were read holds of those that the source had
    of_input : (o : Option (List ℕ)) (P : List ℕ → Type 0) → IfSome o (λ bytes. items ≡ bytes) → P items
        → IfSome o P
    of_input None P is has = tt
    of_input (Some bytes) P is has = subst P is has

    pub ran : RanCalls given taken remaining contents starting tries source source' before after out out'
        result
    ran = record {
      whole_input = read;
      runs = of_input (source_remaining given source) (λ input. RunsCalls taken remaining contents starting
          tries (lines input) before after out out' result) same runs;
    }

    pub ran_to : (r : Result CallSaid RunFault) → result ≡ r
        → RanCalls given taken remaining contents starting tries source source' before after out out' r
    ran_to r is = subst (λ (x : Result CallSaid RunFault). RanCalls given taken remaining contents starting
        tries source source' before after out out' x) is ran

    pub ran_ok : IfOk result (λ said. RanCalls given taken remaining contents starting tries source source'
        before after out out' (Ok said))
    ran_ok = at_ok result (λ (x : Result CallSaid RunFault). RanCalls given taken remaining contents starting
        tries source source' before after out out' x) ran

    pub no_read_fault : result ≡ Err ReadFault → ⊥
    no_read_fault is = subst (λ (x : Result CallSaid RunFault). RunsCalls taken remaining contents starting
        tries (lines items) before after out out' x) is runs

    pub not_too_long : result ≡ Err TooLong → ⊥
    not_too_long is = subst (λ (x : Result CallSaid RunFault). RunsCalls taken remaining contents starting
        tries
        (lines items) before after out out' x) is runs
