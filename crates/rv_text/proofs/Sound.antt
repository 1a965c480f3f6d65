-- What holds of the row of each message, call and answer: no name stands twice, all is plain, and there is
-- room for it.
use Rattle.std.proofs.Common.{◌≡◌, ℕ, ◌≤◌, List, [], ◌∷◌, ◌++◌, map, codes, true, Option, Some, None, refl}
use Rattle.std.proofs.Common.{arith}
use Rattle.rv_text.specs.declared.version.Version.{Version}
use Rattle.rv_text.specs.declared.version.Version.TheVariants.{One, Two}
use Rattle.rv_text.specs.declared.message.Key.{Key}
use Rattle.rv_text.specs.declared.message.Message.{Message}
use Rattle.rv_text.specs.declared.message.Message.TheVariants as message
use Rattle.rv_text.specs.declared.call.Wait.{Wait}
use Rattle.rv_text.specs.declared.call.Side.{Side}
use Rattle.rv_text.specs.declared.call.Side.TheVariants as side
use Rattle.rv_text.specs.declared.call.Call.{Call}
use Rattle.rv_text.specs.declared.call.Call.TheVariants as call
use Rattle.rv_text.specs.declared.answer.Reply.{Reply}
use Rattle.rv_text.specs.declared.answer.Reply.TheVariants as reply
use Rattle.rv_text.specs.declared.answer.Refusal.{Refusal}
use Rattle.rv_text.specs.declared.answer.Refusal.TheVariants as refusal
use Rattle.rv_text.specs.declared.answer.Answer.{Answer}
use Rattle.rv_text.specs.declared.answer.Answer.TheVariants as answer
use Rattle.rv_text.specs.Calls.{Nature, nature_of}
use Rattle.rv_text.specs.Members.{Member, word, field_of, members_of, Keeps, code_numbers, IsWithin}
use Rattle.rv_text.specs.Rows.{version_row, key_row, nature_row, call_row, message_row, reply_row, code_of}
use Rattle.rv_text.specs.Rows.{detail_row, answer_row}
use Rattle.rv_text.specs.Limits.{FitsKey, FitsMessage, FitsAnswer}
use Rattle.rv_text.proofs.Objects.{are_distinct}
use Rattle.rv_text.proofs.ByKind.{Each, each_within, is_plain_word, are_plain, rooms}
use Rattle.rv_text.proofs.Texts.{put_all}
use Rattle.serde_json.specs.Data.{no_members}

pub record IsSoundRow (row : List Member) : Type 0 where
  -- no name stands twice
  pub distinct : are_distinct (map field_of row) ≡ true
  -- names and words are short and plain, and limits are below 2 ^ 64
  pub plain : are_plain row ≡ true
  -- a body of the row has a body's length
  pub room : rooms row ≤ 65000
  -- members are in order: put in one after another they come to the same place
  pub in_order : put_all (members_of row) no_members ≡ members_of row

-- ---- messages

call_word : (call : Call) → is_plain_word (nature_of call).word ≡ true
call_word (call.Put queue item) = refl
call_word _ = refl

abbrev pub request_row : Key → Nature → List Member
request_row key nature = word (codes "kind") (codes "request") ∷ (key_row key ++ nature_row nature)

request_sound : (key : Key) (name : List ℕ) (at : Side) (waits : Option Wait) (drains : Option ℕ) (gives :
    Option (List ℕ)) → is_plain_word name ≡ true
    → IsSoundRow (request_row key (record {
      word = name;
      side = at;
      wait = waits;
      drains = drains;
      item =
          gives;
    }))
request_sound key name (side.Exchanges exchanger) None None None plain = record {
  distinct = refl;
  plain =
      rw plain refl;
  room = omega arith;
  in_order = refl;
}
request_sound key name _ None None None plain = record {
  distinct = refl;
  plain = rw plain refl;
  room =
      omega arith;
  in_order = refl;
}
request_sound key name (side.Exchanges exchanger) None None (Some item) plain = record {
  distinct = refl;
  plain = rw plain refl;
  room = omega arith;
  in_order = refl;
}
request_sound key name _ None None (Some item) plain = record {
  distinct = refl;
  plain = rw plain refl;
  room =
      omega arith;
  in_order = refl;
}
request_sound key name (side.Exchanges exchanger) (Some waits) None None plain = record {
  distinct = refl;
  plain = rw plain refl;
  room = omega arith;
  in_order = refl;
}
request_sound key name _ (Some waits) None None plain = record {
  distinct = refl;
  plain = rw plain refl;
  room = omega arith;
  in_order = refl;
}
request_sound key name (side.Exchanges exchanger) (Some waits) None (Some item) plain =
    record { distinct = refl; plain = rw plain refl; room = omega arith; in_order = refl }
request_sound key name _ (Some waits) None (Some item) plain = record {
  distinct = refl;
  plain =
      rw plain refl;
  room = omega arith;
  in_order = refl;
}
request_sound key name (side.Exchanges exchanger) waits (Some max) None plain = record {
  distinct = refl;
  plain = rw plain refl;
  room = omega arith;
  in_order = refl;
}
request_sound key name _ waits (Some max) None plain = record {
  distinct = refl;
  plain = rw plain refl;
  room =
      omega arith;
  in_order = refl;
}
request_sound key name (side.Exchanges exchanger) waits (Some max) (Some item) plain =
    record { distinct = refl; plain = rw plain refl; room = omega arith; in_order = refl }
request_sound key name _ waits (Some max) (Some item) plain = record {
  distinct = refl;
  plain = rw plain refl;
  room = omega arith;
  in_order = refl;
}

call_parts_sound : (name : List ℕ) (at : Side) (waits : Option Wait) (drains : Option ℕ) (gives :
    Option (List ℕ)) → is_plain_word name ≡ true
    → IsSoundRow (nature_row (record { word = name; side = at; wait = waits; drains = drains; item = gives }))
call_parts_sound name (side.Exchanges exchanger) None None None plain = record {
  distinct = refl;
  plain =
      rw plain refl;
  room = omega arith;
  in_order = refl;
}
call_parts_sound name _ None None None plain = record {
  distinct = refl;
  plain = rw plain refl;
  room =
      omega arith;
  in_order = refl;
}
call_parts_sound name (side.Exchanges exchanger) None None (Some item) plain = record {
  distinct = refl;
  plain = rw plain refl;
  room = omega arith;
  in_order = refl;
}
call_parts_sound name _ None None (Some item) plain = record {
  distinct = refl;
  plain = rw plain refl;
  room =
      omega arith;
  in_order = refl;
}
call_parts_sound name (side.Exchanges exchanger) (Some waits) None None plain = record {
  distinct = refl;
  plain = rw plain refl;
  room = omega arith;
  in_order = refl;
}
call_parts_sound name _ (Some waits) None None plain = record {
  distinct = refl;
  plain = rw plain refl;
  room =
      omega arith;
  in_order = refl;
}
call_parts_sound name (side.Exchanges exchanger) (Some waits) None (Some item) plain =
    record { distinct = refl; plain = rw plain refl; room = omega arith; in_order = refl }
call_parts_sound name _ (Some waits) None (Some item) plain = record {
  distinct = refl;
  plain = rw plain refl;
  room = omega arith;
  in_order = refl;
}
call_parts_sound name (side.Exchanges exchanger) waits (Some max) None plain = record {
  distinct = refl;
  plain = rw plain refl;
  room = omega arith;
  in_order = refl;
}
call_parts_sound name _ waits (Some max) None plain = record {
  distinct = refl;
  plain = rw plain refl;
  room =
      omega arith;
  in_order = refl;
}
call_parts_sound name (side.Exchanges exchanger) waits (Some max) (Some item) plain =
    record { distinct = refl; plain = rw plain refl; room = omega arith; in_order = refl }
call_parts_sound name _ waits (Some max) (Some item) plain = record {
  distinct = refl;
  plain = rw plain refl;
  room = omega arith;
  in_order = refl;
}

pub call_sound : (call : Call) → IsSoundRow (call_row call)
call_sound call =
    let nature = nature_of call in
    call_parts_sound nature.word nature.side nature.wait nature.drains nature.item (call_word call)

pub message_sound : (message : Message) → IsSoundRow (message_row message)
message_sound (message.Hello client incarnation One) = record {
  distinct = refl;
  plain = refl;
  room =
      omega arith;
  in_order = refl;
}
message_sound (message.Hello client incarnation Two) = record {
  distinct = refl;
  plain = refl;
  room =
      omega arith;
  in_order = refl;
}
message_sound (message.Request key call) =
    let nature = nature_of call in
    request_sound key nature.word nature.side nature.wait nature.drains nature.item (call_word call)
message_sound (message.Cancel key) = record {
  distinct = refl;
  plain = refl;
  room = omega arith;
  in_order =
      refl;
}

key_within : (key : Key) (row : List Member) → FitsKey key → Each IsWithin row
    → Each IsWithin (key_row key ++ row)
key_within key row fits rest = (fits.0, (fits.1, (fits.2, (fits.3, rest))))

version_within : (version : Version) → Each IsWithin (version_row version)
version_within One = tt
version_within Two = ((omega arith, omega arith), tt)

pub message_within : (message : Message) → FitsMessage message → Each IsWithin (message_row message)
message_within (message.Hello client incarnation version) fits =
    (tt, (fits.0, (fits.1, version_within version)))
message_within (message.Request key call) fits = (
  tt,
  key_within key (call_row call) fits.0
      (each_within (call_row call) fits.1.0),
)
message_within (message.Cancel key) fits = (tt, key_within key [] fits tt)

-- ---- answers

reply_sound : (key : Key) (reply : Reply) → IsSoundRow (answer_row (answer.Replied key reply))
reply_sound key reply.Done = record { distinct = refl; plain = refl; room = omega arith; in_order = refl }
reply_sound key _ = record { distinct = refl; plain = refl; room = omega arith; in_order = refl }

refusal_sound : (refusal : Refusal) → IsSoundRow (answer_row (answer.Refused refusal))
refusal_sound refusal.BadText = record { distinct = refl; plain = refl; room = omega arith; in_order = refl }
refusal_sound _ = record { distinct = refl; plain = refl; room = omega arith; in_order = refl }

pub answer_sound : (answer : Answer) → IsSoundRow (answer_row answer)
answer_sound (answer.Welcome epoch client incarnation One) = record {
  distinct = refl;
  plain = refl;
  room =
      omega arith;
  in_order = refl;
}
answer_sound (answer.Welcome epoch client incarnation Two) = record {
  distinct = refl;
  plain = refl;
  room =
      omega arith;
  in_order = refl;
}
answer_sound (answer.Replied key reply) = reply_sound key reply
answer_sound (answer.Waiting key) = record {
  distinct = refl;
  plain = refl;
  room = omega arith;
  in_order =
      refl;
}
answer_sound (answer.Refused refusal) = refusal_sound refusal

code_within : (refusal : Refusal) → Keeps code_numbers (code_of refusal)
code_within refusal.BadText = (omega arith, omega arith)
code_within _ = (omega arith, omega arith)

pub answer_within : (answer : Answer) → FitsAnswer answer → Each IsWithin (answer_row answer)
answer_within (answer.Welcome epoch client incarnation version) fits =
    (tt, (fits.0, (fits.1, (fits.2, version_within version))))
answer_within (answer.Replied key reply) fits = (
  tt,
  key_within key (reply_row reply) fits.0
      (each_within (reply_row reply) fits.1),
)
answer_within (answer.Waiting key) fits = (tt, key_within key [] fits tt)
answer_within (answer.Refused refusal) fits = (
  tt,
  (
    code_within refusal,
    each_within (detail_row refusal)
        fits,
  ),
)
