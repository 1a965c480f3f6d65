-- What passed with one entry more, and where a verifier stands after one line more.
use Rattle.std.proofs.Common.{◌≡◌, ◌<◌, ◌+◌, ◌∷◌, ◌++◌, ◌∙◌, ℕ, List, [], Option, None, Some, inl, inr}
use Rattle.std.proofs.Common.{IsSome, length, take, refl, sym, ap, subst, arith, append_assoc}
use Rattle.std.proofs.Common.{length-append}
use Rattle.std.proofs.lemmas.Bool.{cases_lt}
use Rattle.std.proofs.lemmas.List.{take_all, take-append-le}
use Rattle.rv_text.specs.Members.{max_identifier}
use Rattle.rv_account.specs.declared.entry.Act.{Act}
use Rattle.rv_account.specs.declared.entry.Act.TheVariants.{Arrive, Cancel, Hello, Tick}
use Rattle.rv_account.specs.declared.entry.Entry.{Entry}
use Rattle.rv_account.specs.Account.{Account, with_entry}
use Rattle.rv_account.specs.Limits.{FitsAct, FitsEntry}
use Rattle.rv_account.proofs.OfRules.Places.{get-append_cases}
use Rattle.rv_account.specs.state.After.{following, state_after, state_of}
use Rattle.rv_account.specs.state.Follows.{FollowsState}
use Rattle.rv_account.proofs.OfState.Agreed.{state_pushed}
use Rattle.rv_account.specs.state.resume.Laws.{HadRoom}
use Rattle.rv_account.specs.state.resume.Resuming.{StaysInRoom}
use Rattle.rv_machine.specs.Machines.{keys_settled, state_in}
use Rattle.rv_machine.specs.declared.machine.Machine.{Machine}
use Rattle.rv_verify.specs.follow.Outcomes.{HasFollowed}
use Rattle.rv_verify.proofs.OfFollow.OfAsked.RuleLaws.{follows_legally}
use Rattle.rv_book.specs.lines.Reading.{SaysAct}
use Rattle.rv_book.proofs.OfLines.Turns.{account_more}
use Rattle.rv_replies.specs.Known.{HasPassedBy}
use Rattle.rv_replies.specs.Standing.{HasNoted}
use Rattle.rv_replies.specs.declared.records.Records.{Records}
use Rattle.rv_account.specs.state.State.{State}
use Rattle.rv_verify.specs.Reading.{FollowsUnlessStopped, IsStopped, NotesOneMore, NotesUnlessStopped}
use Rattle.rv_verify.specs.Reading.{ReadsOneMore}
use Rattle.rv_verify.specs.Stages.{HasReadNoting}
use Rattle.rv_verify.specs.Standing.{HoldsPassed, IsStopAt, StandsAt}
use Rattle.rv_verify.specs.Verdicts.{ReadsLongEntry, long_limits}
use Rattle.rv_verify.specs.declared.verifier.StopReason.{StopReason}
use Rattle.rv_verify.specs.declared.verifier.StopReason.TheVariants as stop
use Rattle.rv_verify.specs.declared.verifier.Verifier.{Verifier}

-- ---- limits

act_fits : (field : List ℕ) (does : Act) → SaysAct field does → FitsAct does
act_fits field (Hello client incarnation version) says = says.2
act_fits field (Arrive key call) says = says.2
act_fits field (Cancel key) says = says.2
act_fits field Tick says = tt

-- what is read of a line is within its limits
pub entry_fits : (line : List ℕ) (e : Entry) → ReadsLongEntry line e → FitsEntry e
entry_fits line e reads = (reads.fields.cut.says_moment.1, act_fits reads.act_field e.act reads.says_act)

-- ---- one entry more

module _ (a : Account) (e : Entry) where
  abbrev of_entries : List Entry → Account
  of_entries es = record { epoch = a.epoch; opened = a.opened; entries = es }

  more_room : HadRoom a → StaysInRoom (state_of (with_entry a e)) → (j : ℕ)
      → StaysInRoom (state_of (of_entries (take j (a.entries ++ e ∷ []))))
  more_room had room j = elim (cases_lt (length a.entries) j) [
    | inl past ↦ subst (λ es. StaysInRoom (state_of (of_entries es)))
        (sym (take_all j (a.entries ++ e ∷ []) (omega (arith, length-append a.entries (e ∷ [])))))
        room
    | inr front ↦ subst (λ es. StaysInRoom (state_of (of_entries es)))
        (sym (take-append-le j a.entries (e ∷ []) (omega arith))) (had.room j)
  ]

  pub had_more : HadRoom a → FitsEntry e → StaysInRoom (state_of (with_entry a e)) → HadRoom (with_entry a e)
  had_more had fits room = record {
    epoch = had.epoch;
    opened = had.opened;
    entries = λ r x there. elim (get-append_cases a.entries e x r there) [
      | inl inside ↦ had.entries r x inside.1
      | inr last ↦ subst FitsEntry last.1 fits
    ];
    room = more_room had room;
  }

-- ---- where a verifier stands

-- a machine holds the part of an account that passed, which the record has noted; that is all of the account,
-- or it stopped there for this reason
pub record Stood (m : Machine) (r : Records) (account : Account) (reason : Option StopReason) : Type 0 where
  pub passed : Account
  pub holds : HoldsPassed m passed
  pub noted : HasNoted r passed
  pub stands : StandsAt passed account reason

module _ (m m' : Machine) (r r' : Records) (passed : Account) (e : Entry) (holds : HoldsPassed m passed)
    (noted : HasNoted r passed) where
  followed : FitsEntry e → HasFollowed m m' e → HoldsPassed m' (with_entry passed e)
  followed fits went =
      let after : state_after (state_in m) e ≡ state_of (with_entry passed e) =
      ap (λ s. state_after s e) holds.state ∙ sym (state_pushed passed e) in
      record {
        state = went.after ∙ after;
        legal = (follows_legally passed e holds.legal).0 (subst (λ s. FollowsState s e) holds.state
            went.follows.follows);
        had_room = had_more passed e holds.had_room fits (subst StaysInRoom after went.follows.room);
      }

  passed_by : FitsEntry e → HasFollowed m m' e → HasPassedBy m' passed e
  passed_by fits went =
      let now = followed fits went in
      record {
        before = holds.legal;
        legal = now.legal;
        state = now.state;
        settles = subst (λ (s : State). m'.settled.items
            ≡ keys_settled (following s e.moment e.act).settles) holds.state went.settles;
      }

  stopped : (reason : StopReason) → m' ≡ m → r' ≡ r → IsStopAt (state_in m) e reason
      → Stood m' r' (with_entry passed e) (Some reason)
  stopped reason stays same is = record {
    passed = passed;
    holds = subst (λ x. HoldsPassed x passed) (sym stays) holds;
    noted = subst (λ x. HasNoted x passed) (sym same) noted;
    stands = record {
      epoch = refl;
      opened = refl;
      entry = e;
      more = [];
      entries = refl;
      is_stop = subst (λ s. IsStopAt s e reason) holds.state is;
    };
  }

  stood : (reason : Option StopReason) → FitsEntry e → IsStopped m m' e reason
      → NotesUnlessStopped m' r r' e reason → Stood m' r' (with_entry passed e) reason
  stood None fits went notes = record {
    passed = with_entry passed e;
    holds = followed fits went;
    noted = notes passed (passed_by fits went) noted;
    stands = refl;
  }
  stood (Some (stop.Breaks rule)) fits went same = stopped (stop.Breaks rule) went.stays same went.fails
  stood (Some (stop.NotOpen entry)) fits went same = stopped (stop.NotOpen entry) went.0.stays same
      (went.0.fails, went.1)
  stood (Some stop.BeyondLimits) fits went same = stopped stop.BeyondLimits went.stays same went.fails

-- after one that stopped, the entry is only read
read_alone : (m m' : Machine) (r r' : Records) (passed account : Account) (e : Entry) (reason : StopReason)
    → HoldsPassed m passed → HasNoted r passed
    → StandsAt passed account (Some reason) → m' ≡ m → r' ≡ r
    → Stood m' r' (with_entry account e) (Some reason)
read_alone m m' r r' passed account e reason holds noted stands stays same = record {
  passed = passed;
  holds = subst (λ x. HoldsPassed x passed) (sym stays) holds;
  noted = subst (λ x. HasNoted x passed) (sym same) noted;
  stands = record {
    epoch = stands.epoch;
    opened = stands.opened;
    entry = stands.entry;
    more = stands.more ++ e ∷ [];
    entries = ap (λ l. l ++ e ∷ []) stands.entries
        ∙ append_assoc passed.entries (stands.entry ∷ stands.more) (e ∷ []);
    is_stop = stands.is_stop;
  };
}

stood_on : (reason : Option StopReason) (old new : Verifier) (r r' : Records) (passed account : Account)
    (e : Entry) → HoldsPassed old.machine passed → HasNoted r passed → FitsEntry e
    → StandsAt passed account reason → FollowsUnlessStopped reason old new e
    → NotesUnlessStopped new.machine r r' e new.stop
    → Stood new.machine r' (with_entry account e) new.stop
stood_on None old new r r' passed account e holds noted fits stands went notes =
    subst (λ a. Stood new.machine r' (with_entry a e) new.stop) (sym stands)
    (stood old.machine new.machine r r' passed e holds noted new.stop fits went notes)
stood_on (Some reason) old new r r' passed account e holds noted fits stands went notes =
    subst (Stood new.machine r' (with_entry account e)) (sym went.1)
    (read_alone old.machine new.machine r r' passed account e reason holds noted stands went.0
    (subst (NotesUnlessStopped new.machine r r' e) went.1 notes))

-- a verifier that read some lines has read one more
pub read_on : (old new : Verifier) (r r' : Records) (line : List ℕ) → old.entries < max_identifier
    → NotesOneMore old new r r' line → (before : List (List ℕ)) → HasReadNoting before old r
    → HasReadNoting (before ++ line ∷ []) new r'
read_on old new r r' line few more before behind =
    let has = behind.read in
    let on = more.reads in
    let now = stood_on old.stop old new r r' has.passed has.account on.entry has.holds behind.noted
    (entry_fits line on.entry on.read) has.stands on.went more.notes in
    record {
      read = record {
        passed = now.passed;
        holds = now.holds;
        account = with_entry has.account on.entry;
        read = account_more long_limits before has.account has.read line on.entry on.read
            (omega (arith, few, has.counted));
        counted = omega (arith, on.counted, has.counted, length-append has.account.entries (on.entry ∷ []));
        stands = now.stands;
      };
      noted = now.noted;
    }

-- one that had stopped goes on by reading alone
pub goes_stopped : (reason : Option StopReason) (old new : Verifier) (e : Entry) → IsSome reason
    → new.machine ≡ old.machine → new.stop ≡ reason → FollowsUnlessStopped reason old new e
goes_stopped None old new e is same stays = absurd (cc)
goes_stopped (Some reason) old new e is same stays = (same, stays)

notes_stopped : (reason : Option StopReason) (m : Machine) (r r' : Records) (e : Entry) → IsSome reason
    → r' ≡ r → NotesUnlessStopped m r r' e reason
notes_stopped None m r r' e is same = absurd (cc)
notes_stopped (Some reason) m r r' e is same = same

-- and hands nothing on
pub passes_over : (old new : Verifier) (r r' : Records) (line : List ℕ) → ReadsOneMore old new line
    → IsSome new.stop → r' ≡ r → NotesOneMore old new r r' line
passes_over old new r r' line reads is same = record {
  reads = reads;
  notes = notes_stopped new.stop new.machine r r' reads.entry is same;
}

-- one that goes on has noted what passed
pub goes_on : (old new : Verifier) (r r' : Records) (line : List ℕ) (e : Entry) → old.stop ≡ None
    → ReadsLongEntry line e → new.entries ≡ old.entries + 1 → IsStopped old.machine new.machine e new.stop
    → NotesUnlessStopped new.machine r r' e new.stop → NotesOneMore old new r r' line
goes_on old new r r' line e goes read counted went notes = record {
  reads = record {
    entry = e;
    read = read;
    counted = counted;
    went = subst (λ s. FollowsUnlessStopped s old new e) (sym goes) went;
  };
  notes = notes;
}
