-- How far a run of calls that keeps a record has come, and what it leaves where it ends.
use Rattle.std.proofs.Common.{◌≡◌, ◌∙◌, ◌<◌, ◌+◌, ◌-◌, ◌++◌, ◌∷◌, ◌⊎◌, [], ℕ, List, Option, Some, None}
use Rattle.std.proofs.Common.{Result, Ok, Err, IfErr, IfSome, OnOk, append_assoc, ap, arith, codes, inl}
use Rattle.std.proofs.Common.{inr, length, refl, subst, sym, take}
use Rattle.rv_text.specs.declared.message.Key.{Key}
use Rattle.rv_frame.specs.declared.sink.Sink.{Sink}
use Rattle.rv_frame.specs.declared.source.Source.{Source}
use Rattle.rv_frame.specs.Sink.{SinkTakes}
use Rattle.rv_frame.specs.Source.{source_remaining}
use Rattle.rv_client.specs.Link.{Link}
use Rattle.rv_client.specs.Process.{Starting, first_key, key_after}
use Rattle.rv_book.specs.lines.Lines.{lines, printed_lines}
use Rattle.rv_run.specs.Input.{ReadsAll}
use Rattle.rv_run.specs.declared.fault.RunFault.TheVariants as run
use Rattle.rv_run.specs.declared.output.OutputFault.{OutputFault}
use Rattle.rv_run.specs.declared.calls.CallSaid.{CallSaid}
use Rattle.rv_run.specs.declared.calls.CallSaid.TheVariants.{Stopped, Whole}
use Rattle.rv_run.specs.declared.calls.client.Halt.TheVariants as halt
use Rattle.rv_run.specs.declared.calls.end_word.EndWord.{EndWord}
use Rattle.rv_run.specs.declared.calls.recording.RecordFault.{RecordFault}
use Rattle.rv_run.specs.declared.calls.recording.RecordFault.TheVariants as fails
use Rattle.rv_run.specs.declared.calls.recording.RecordingFault.{RecordingFault}
use Rattle.rv_run.specs.declared.calls.recording.RecordingFault.TheVariants.{Record, Run}
use Rattle.rv_run.specs.calls.Calling.{HaltsAt, HasNumbers, IsTurnedAway, IsWelcomed, SettlesLine}
use Rattle.rv_run.specs.calls.Calling.{SettlesLines, StopsWithWord, key_behind}
use Rattle.rv_run.specs.calls.CallRuns.{CutsLine, CutsText, Stops, TakesLines, TakesText}
use Rattle.rv_run.specs.calls.EndWord.{word_text}
use Rattle.rv_run.specs.calls.Records.{AreRecorded, IsRequestBody, IsRecorded, LacksEntry, Outlets}
use Rattle.rv_run.specs.calls.Records.{RanRecording, Entered, RecordsCalls, RecordsRun, SaysWord, StopsEntry}
use Rattle.rv_run.specs.calls.Records.{TellsCall, outlets, record_text}
use Rattle.rv_run.proofs.OfCalls.CallsSoFar.{SoFar, cuts_more, leaves_short, none_so_far, one_more}
use Rattle.rv_run.proofs.OfCalls.CallsSoFar.{settles_all, settles_next, stops_at, takes_more, takes_none}

-- ---- entries

-- an entry's line, part by part
pub entry_line : (asked told : List ℕ)
    → codes "{\"asked\":" ++ (asked ++ (codes ",\"told\":" ++ (told ++ codes "}\n")))
    ≡ record_text asked told ++ 10 ∷ []
entry_line asked told = sym (ap (λ l. codes "{\"asked\":" ++ l) (append_assoc asked (codes ",\"told\":"
    ++ (told ++ codes "}")) (10 ∷ []) ∙ ap (λ l. asked ++ (codes ",\"told\":" ++ l)) (append_assoc told
    (codes "}") (10 ∷ []))))

-- a line went out, or a part of it
pub took_or_cut : {O : Type 0} (taken : O → Option (List ℕ)) (text : List ℕ) (before : ℕ) (b c : Sink O)
    (result : Result ℕ OutputFault) → OnOk result (TakesText taken text b c)
    → IfErr result (λ fault. CutsText taken text before fault.sent b c)
    → TakesText taken text b c ⊎ ((sent : ℕ) × CutsText taken text before sent b c)
took_or_cut taken text before b c (Ok count) took cut = inl took
took_or_cut taken text before b c (Err fault) took cut = inr (fault.sent, cut)

recorded_on : (first later texts entries : List (List ℕ)) → AreRecorded first texts entries
    → AreRecorded (first ++ later) texts entries
recorded_on [] [] [] [] is = tt
recorded_on [] (x ∷ xs) [] [] is = tt
recorded_on [] later [] (e ∷ es) is = absurd is
recorded_on [] later (t ∷ ts) es is = absurd is
recorded_on (l ∷ ls) later [] [] is = tt
recorded_on (l ∷ ls) later [] (e ∷ es) is = absurd is
recorded_on (l ∷ ls) later (t ∷ ts) [] is = absurd is
recorded_on (l ∷ ls) later (t ∷ ts) (e ∷ es) is = (is.0, recorded_on ls later ts es is.1)

module _ {R W : Type 0} (remaining : R → Option (List ℕ)) (contents : W → Option (List ℕ)) (tries : ℕ)
    (line text entry : List ℕ) (one : IsRecorded line text entry) where
  recorded_more : (key : Key) (first texts entries : List (List ℕ)) (a b : Link R W)
      → SettlesLines remaining contents tries key first texts a b → AreRecorded first texts entries
      → AreRecorded (first ++ line ∷ []) (texts ++ text ∷ []) (entries ++ entry ∷ [])
  recorded_more key [] [] [] a b settled is = (one, tt)
  recorded_more key [] [] (e ∷ es) a b settled is = absurd is
  recorded_more key [] (t ∷ ts) es a b settled is = absurd settled
  recorded_more key (l ∷ ls) [] es a b settled is = absurd settled
  recorded_more key (l ∷ ls) (t ∷ ts) [] a b settled is = absurd is
  recorded_more key (l ∷ ls) (t ∷ ts) (e ∷ es) a b settled is =
      (is.0, recorded_more (key_behind key 1) ls ts es settled.0 b settled.2 is.1)

module _ {F : Type 0} (kept : F → Option (List ℕ)) where
  records_on : (first later texts : List (List ℕ)) (f g : Sink F) → Entered kept first texts f g
      → Entered kept (first ++ later) texts f g
  records_on first later texts f g records = record {
    entries = records.entries;
    recorded = recorded_on first later texts records.entries records.recorded;
    took = records.took;
  }

  -- a part of an entry, counted from the record's first byte
  cut_behind : (entry : List ℕ) (count sent : ℕ) (g h : Sink F) → CutsText kept entry 0 sent g h
      → CutsText kept entry count (count + sent) g h
  cut_behind entry count sent g h cut =
      let same : count + sent - count ≡ sent - 0 = omega arith in
      record {
        past_others = omega arith;
        not_all = omega (arith, cut.not_all);
        went_out = subst (λ (n : ℕ). SinkTakes kept g h (take n (entry ++ 10 ∷ []))) (sym same) cut.went_out;
        sink_fails = cut.sink_fails;
      }

  module _ {R W : Type 0} (remaining : R → Option (List ℕ)) (contents : W → Option (List ℕ)) (tries : ℕ)
      (key : Key) (first texts : List (List ℕ)) (line text entry : List ℕ) (a b : Link R W) (f g h : Sink F)
      (settled : SettlesLines remaining contents tries key first texts a b)
      (records : Entered kept first texts f g) (one : IsRecorded line text entry) where
    -- the entry of one more line
    records_more : TakesText kept entry g h → Entered kept (first ++ line ∷ []) (texts ++ text ∷ []) f h
    records_more took = record {
      entries = records.entries ++ entry ∷ [];
      recorded = recorded_more remaining contents tries line text entry one key first texts records.entries a
          b settled records.recorded;
      took = takes_more kept records.entries entry f g h records.took took;
    }

    -- which it lacks
    lacks_entry : (later : List (List ℕ)) (fault : RecordFault) → StopsEntry kept entry fault g h
        → LacksEntry kept ((first ++ line ∷ []) ++ later) texts text fault f h
    lacks_entry later (fails.WriteFault sent) cut =
        let count = length (printed_lines records.entries) in
        record {
          entries = records.entries;
          entry = entry;
          recorded = recorded_on (first ++ line ∷ []) later (texts ++ text ∷ [])
              (records.entries ++ entry ∷ []) (recorded_more remaining contents tries line text entry one key
              first texts records.entries a b settled records.recorded);
          cut = cuts_more kept records.entries entry count (count + sent) f g h records.took refl
              (cut_behind entry count sent g h cut);
        }
    lacks_entry later fails.NoMemory same =
        subst (λ (l : List (List ℕ)). Entered kept l texts f h) (sym (append_assoc first (line ∷ []) later))
        (subst (Entered kept (first ++ line ∷ later) texts f) (sym same)
        (records_on first (line ∷ later) texts f g records))

-- ---- what came of the lines

module _ {O R W F : Type 0} (taken : O → Option (List ℕ)) (remaining : R → Option (List ℕ))
    (contents : W → Option (List ℕ)) (kept : F → Option (List ℕ)) (tries : ℕ) where
  -- and the lines before the rest have their entries
  pub record RecordedSoFar (all : List (List ℕ)) (key : Key) (greeted at : Link R W) (out out' : Sink O)
      (file file' : Sink F) (idle : Option Key) (rest : List ℕ) (count : ℕ) : Type 0 where
    pub so_far : SoFar taken remaining contents tries all key greeted at out out' idle rest count
    pub recorded : Entered kept so_far.first so_far.texts file file'

  pub none_recorded : (key : Key) (at : Link R W) (out : Sink O) (file : Sink F) (idle : Option Key) (input :
      List ℕ) → idle ≡ Some key
      → RecordedSoFar (lines input) key at at out out file file idle input 0
  unfolding none_so_far
  none_recorded key at out file idle input is = record {
    so_far = none_so_far taken remaining contents tries key at out idle input is;
    recorded = record { entries = []; recorded = tt; took = takes_none kept file };
  }

  -- the next line is settled: the entry of its request and its text
  next_recorded : (key : Key) (texts : List (List ℕ)) (at at' : Link R W) (idle : Option Key) (line body text
      : List ℕ) → idle ≡ Some (key_behind key (length texts))
      → IfSome idle (λ k. IsRequestBody k line body)
      → IfSome idle (λ k. SettlesLine remaining contents tries k line text at at')
      → IsRecorded line text (record_text body text)
  next_recorded key texts at at' idle line body text next asks one =
      let behind = key_behind key (length texts) in
      let here = subst (λ (i : Option Key). IfSome i (λ k. SettlesLine remaining contents tries k line text at
      at')) next one in
      record {
        key = behind;
        reply = here.reply;
        told = here.text_is;
        body = body;
        asked = subst (λ (i : Option Key). IfSome i (λ k. IsRequestBody k line body)) next asks;
        entry_is = refl;
      }

  pub one_more_recorded : (all : List (List ℕ)) (key : Key) (greeted at at' : Link R W) (a b c : Sink O)
      (f g h : Sink F) (idle next : Option Key) (rest line after body text : List ℕ) (count count' : ℕ)
      → RecordedSoFar all key greeted at a b f g idle rest count → HasNumbers idle (length rest)
      → length after < length rest → lines rest ≡ line ∷ lines after
      → IfSome idle (λ k. next ≡ key_after k) → IfSome idle (λ k. IsRequestBody k line body)
      → IfSome idle (λ k. SettlesLine remaining contents tries k line text at at')
      → TellsCall taken kept (record_text body text) text count (outlets b g) (outlets c h) (Ok count')
      → RecordedSoFar all key greeted at' a c f h next after count'
  unfolding one_more
  one_more_recorded all key greeted at at' a b c f g h idle next rest line after body text count count' now
      has shorter cut follows asks one tells = record {
        so_far = one_more taken remaining contents tries all key greeted at at' a b c idle next rest line
            after text count count' now.so_far has shorter cut follows one tells.2 tells.0;
        recorded = records_more kept remaining contents tries key now.so_far.first now.so_far.texts line text
            (record_text body text) greeted at f g h now.so_far.settled now.recorded
            (next_recorded key now.so_far.texts at at' idle line body text now.so_far.next asks one) tells.1;
      }

-- ---- the end of a run

module _ {O R W F : Type 0} (taken : O → Option (List ℕ)) (remaining : R → Option (List ℕ))
    (contents : W → Option (List ℕ)) (kept : F → Option (List ℕ)) (starting : Starting) (tries : ℕ) where
  -- after the texts a word is printed, or it is not
  records_by_word : (all texts : List (List ℕ)) (word : EndWord) (before after : Link R W) (count : ℕ)
      (a b c : Sink O) (f g : Sink F) (result : Result CallSaid RecordingFault)
      → Stops remaining contents starting tries all texts word before after → TakesLines taken texts a b
      → Entered kept all texts f g → count ≡ length (printed_lines texts)
      → SaysWord taken (word_text word) count b c result
      → RecordsCalls taken remaining contents kept starting tries all before after (outlets a f) (outlets c g)
      result
  records_by_word all texts word before after count a b c f g (Ok Stopped) stops took records counted says =
      record {
        texts = texts;
        word = word;
        stops = stops;
        recorded = records;
        printed = takes_more taken texts (word_text word) a b c took says;
      }
  records_by_word all texts word before after count a b c f g (Ok Whole) stops took records counted says =
      absurd says
  records_by_word all texts word before after count a b c f g (Err (Run (run.WriteFault fault))) stops took
      records counted says =
      record {
        texts = texts;
        text = word_text word;
        says = inr (word, stops, refl, records);
        cut = cuts_more taken texts (word_text word) count fault.sent a b c took counted says;
      }
  records_by_word all texts word before after count a b c f g (Err (Run run.NoMemory)) stops took records
      counted says =
      record {
        texts = texts;
        leaves = inr (word_text word, inr (word, stops, refl));
        recorded = records;
        printed = subst (TakesLines taken texts a) (sym says) took;
      }
  records_by_word all texts word before after count a b c f g (Err (Run run.ReadFault)) stops took records
      counted says = absurd says
  records_by_word all texts word before after count a b c f g (Err (Run run.TooLong)) stops took records
      counted says = absurd says
  records_by_word all texts word before after count a b c f g (Err (Record fault)) stops took records counted
      says = absurd says

  -- the client is not welcome
  pub records_at_once : (all : List (List ℕ)) (word : EndWord) (before after : Link R W) (a c : Sink O) (f :
      Sink F) (result : Result CallSaid RecordingFault)
      → IsTurnedAway remaining contents starting tries word before after
      → SaysWord taken (word_text word) 0 a c result
      → RecordsCalls taken remaining contents kept starting tries all before after (outlets a f) (outlets c f)
      result
  records_at_once all word before after a c f result turned says =
      records_by_word all [] word before after 0 a a c f f result
      (inl (record { no_text = refl; turned_away = turned })) (takes_none taken a)
      (records_on kept [] all [] f f (record { entries = []; recorded = tt; took = takes_none kept f })) refl
      says

  module _ {all : List (List ℕ)} {epoch : ℕ} {before greeted at : Link R W} {a b : Sink O} {f g : Sink F}
      {idle : Option Key} {rest : List ℕ} {count : ℕ}
      (welcomed : IsWelcomed remaining contents starting tries epoch before greeted)
      (now : RecordedSoFar taken remaining contents kept tries all (first_key starting epoch) greeted at a b f
      g idle rest count) where
    records_now : Entered kept all now.so_far.texts f g
    records_now = subst (λ (l : List (List ℕ)). Entered kept l now.so_far.texts f g) (sym now.so_far.cut)
        (records_on kept now.so_far.first (lines rest) now.so_far.texts f g now.recorded)

    pub records_whole : rest ≡ []
        → RecordsCalls taken remaining contents kept starting tries all before at (outlets a f) (outlets b g)
        (Ok Whole)
    records_whole none = record {
      texts = now.so_far.texts;
      settles = settles_all taken remaining contents starting tries welcomed now.so_far none;
      recorded = records_now;
      printed = now.so_far.took;
    }

    module _ (line later : List ℕ) (after : Link R W) (cut : lines rest ≡ line ∷ lines later) where
      -- a word ends it at the next line
      pub records_to_word : (word : EndWord) (c : Sink O) (result : Result CallSaid RecordingFault)
          → IfSome idle (λ key. StopsWithWord remaining contents tries key line word at after)
          → SaysWord taken (word_text word) count b c result
          → RecordsCalls taken remaining contents kept starting tries all before after (outlets a f)
          (outlets c g) result
      records_to_word word c result stops says =
          records_by_word all now.so_far.texts word before after count a b c f g result
          (stops_at taken remaining contents starting tries welcomed now.so_far line later word after cut
          stops) now.so_far.took records_now now.so_far.counted says

      -- the next line lacks memory
      pub records_short
          : IfSome idle (λ key. HaltsAt remaining contents tries key line halt.NoMemory at after)
          → RecordsCalls taken remaining contents kept starting tries all before after (outlets a f)
          (outlets b g) (Err (Run run.NoMemory))
      records_short halts = record {
        texts = now.so_far.texts;
        leaves = leaves_short taken remaining contents starting tries welcomed now.so_far line later after cut
            halts;
        recorded = records_now;
        printed = now.so_far.took;
      }

      -- the next line is settled, and lacks its entry or its text
      module _ (body text : List ℕ) (asks : IfSome idle (λ k. IsRequestBody k line body))
          (one : IfSome idle (λ k. SettlesLine remaining contents tries k line text at after)) where
        whole : all ≡ (now.so_far.first ++ line ∷ []) ++ lines later
        whole = now.so_far.cut ∙ ap (λ l. now.so_far.first ++ l) cut
            ∙ sym (append_assoc now.so_far.first (line ∷ []) (lines later))

        next : IsRecorded line text (record_text body text)
        next = next_recorded taken remaining contents kept tries (first_key starting epoch) now.so_far.texts
            at after idle line body text now.so_far.next asks one

        with_entry : (h : Sink F) → TakesText kept (record_text body text) g h
            → Entered kept all (now.so_far.texts ++ text ∷ []) f h
        with_entry h took =
            subst (λ (l : List (List ℕ)). Entered kept l (now.so_far.texts ++ text ∷ []) f h) (sym whole)
            (records_on kept (now.so_far.first ++ line ∷ []) (lines later) (now.so_far.texts ++ text ∷ []) f h
            (records_more kept remaining contents tries (first_key starting epoch) now.so_far.first
            now.so_far.texts line text (record_text body text) greeted at f g h now.so_far.settled
            now.recorded next took))

        without_entry : (h : Sink F) (fault : RecordFault) → StopsEntry kept (record_text body text) fault g h
            → LacksEntry kept all now.so_far.texts text fault f h
        without_entry h fault stops =
            subst (λ (l : List (List ℕ)). LacksEntry kept l now.so_far.texts text fault f h) (sym whole)
            (lacks_entry kept remaining contents tries (first_key starting epoch) now.so_far.first
            now.so_far.texts line text (record_text body text) greeted at f g h now.so_far.settled
            now.recorded next (lines later) fault stops)

        printed_or_cut : (c : Sink O)
            → TakesText taken text b c ⊎ ((sent : ℕ) × CutsText taken text count sent b c)
            → TakesLines taken (now.so_far.texts ++ text ∷ []) a c
            ⊎ ((sent : ℕ) × CutsLine taken now.so_far.texts text sent a c)
        printed_or_cut c (inl took) = inl (takes_more taken now.so_far.texts text a b c now.so_far.took took)
        printed_or_cut c (inr cuts) = inr (
          cuts.0,
          cuts_more taken now.so_far.texts text count cuts.0 a b c
              now.so_far.took now.so_far.counted cuts.1,
        )

        pub records_to_fault : (c : Sink O) (h : Sink F) (fault : RecordingFault)
            → TellsCall taken kept (record_text body text) text count (outlets b g) (outlets c h) (Err fault)
            → RecordsCalls taken remaining contents kept starting tries all before after (outlets a f)
            (outlets c h) (Err fault)
        records_to_fault c h (Run (run.WriteFault fault)) tells = record {
          texts = now.so_far.texts;
          text = text;
          says = inl (
            settles_next taken remaining contents starting tries welcomed now.so_far line later text
                after cut one,
            with_entry h tells.0,
          );
          cut = cuts_more taken now.so_far.texts text count fault.sent a b c now.so_far.took
              now.so_far.counted tells.1;
        }
        records_to_fault c h (Run run.NoMemory) tells = record {
          texts = now.so_far.texts;
          leaves = inr (
            text,
            inl (settles_next taken remaining contents starting tries welcomed now.so_far line
                later text after cut one),
          );
          recorded = subst (λ (s : Sink F). Entered kept all now.so_far.texts f s) (sym tells.0) records_now;
          printed = subst (TakesLines taken now.so_far.texts a) (sym tells.1) now.so_far.took;
        }
        records_to_fault c h (Run run.ReadFault) tells = absurd tells
        records_to_fault c h (Run run.TooLong) tells = absurd tells
        records_to_fault c h (Record fault) tells = record {
          texts = now.so_far.texts;
          text = text;
          settles = settles_next taken remaining contents starting tries welcomed now.so_far line later text
              after cut one;
          lacks = without_entry h fault tells.0;
          printed = printed_or_cut c tells.1;
        }

-- ---- the input that was read

module _ {L O R W F : Type 0} (given : L → Option (List ℕ)) (taken : O → Option (List ℕ))
    (remaining : R → Option (List ℕ)) (contents : W → Option (List ℕ)) (kept : F → Option (List ℕ))
    (starting : Starting) (tries : ℕ) (source source' : Source L) (items : List ℕ) (before after : Link R W)
    (old new : Outlets O F) (read : ReadsAll given source source')
    (same : IfSome (source_remaining given source) (λ bytes. items ≡ bytes)) where
  -- what holds of the bytes that were read holds of those that the source had
  of_input : (o : Option (List ℕ)) (P : List ℕ → Type 0) → IfSome o (λ bytes. items ≡ bytes) → P items
      → IfSome o P
  of_input None P is has = tt
  of_input (Some bytes) P is has = subst P is has

  ran : (result : Result CallSaid RecordingFault)
      → RecordsCalls taken remaining contents kept starting tries (lines items) before after old new result
      → RanRecording given taken remaining contents kept starting tries source source' before after old new
      result
  ran result runs = record {
    whole_input = read;
    runs = of_input (source_remaining given source) (λ input. RecordsCalls taken remaining contents kept
        starting tries (lines input) before after old new result) same runs;
  }

  pub recorded_run : (result : Result CallSaid RecordingFault)
      → RecordsCalls taken remaining contents kept starting tries (lines items) before after old new result
      → RecordsRun given taken remaining contents kept starting tries source source' before after old new
      result
  recorded_run (Ok said) runs = ran (Ok said) runs
  recorded_run (Err (Record fault)) runs = ran (Err (Record fault)) runs
  recorded_run (Err (Run (run.WriteFault fault))) runs = ran (Err (Run (run.WriteFault fault))) runs
  recorded_run (Err (Run run.NoMemory)) runs = inr (ran (Err (Run run.NoMemory)) runs)
  recorded_run (Err (Run run.ReadFault)) runs = absurd runs
  recorded_run (Err (Run run.TooLong)) runs = absurd runs
