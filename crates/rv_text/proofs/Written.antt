-- What is written for what fits is a body of it.
use Rattle.std.proofs.Common.{ℕ, List, map}
use Rattle.serde_json.specs.Written.{compact_text}
use Rattle.rv_text.specs.Bodies.{HasBodyLength, Reads}
use Rattle.rv_text.specs.Laws.{WrittenBody, WrittenAnswer, WrittenCall}
use Rattle.rv_text.specs.Members.{Member, field_of, members_of, object_of, IsWithin}
use Rattle.rv_text.specs.Rows.{message_row, answer_row, call_row}
use Rattle.rv_text.proofs.Fitting.{body_length}
use Rattle.rv_text.proofs.ByKind.{Each, each_within, row_is_flat, row_is_text}
use Rattle.rv_text.proofs.Objects.{AllMembers-with_fields}
use Rattle.rv_text.proofs.Sizes.{IsFlatMember}
use Rattle.rv_text.proofs.Sound.{IsSoundRow, message_sound, message_within, answer_sound, answer_within}
use Rattle.rv_text.proofs.Sound.{call_sound}
use Rattle.rv_text.proofs.Texts.{read-compact_text, IsTextMember, IsUtf8-compact_text}

abbrev row_text : List Member → List ℕ
row_text row = compact_text (object_of row)

-- the text of a row is read back as its object
written_row : (row : List Member) → IsSoundRow row → Each IsWithin row
    → HasBodyLength (row_text row) × Reads (row_text row) (object_of row)
written_row row sound within =
    let fields = map field_of row in
    let are_text = AllMembers-with_fields IsTextMember fields (row_is_text row sound.plain within) in
    let are_flat = AllMembers-with_fields IsFlatMember fields (row_is_flat row sound.plain within) in (
      body_length row sound within,
      (
        IsUtf8-compact_text (members_of row) are_text,
        read-compact_text
            (members_of row) are_flat sound.in_order,
      ),
    )

pub written_body : WrittenBody
written_body message fits =
    let written = written_row (message_row message) (message_sound message) (message_within message fits) in
    (written.0, written.1, fits)

pub written_answer : WrittenAnswer
written_answer answer fits =
    let written = written_row (answer_row answer) (answer_sound answer) (answer_within answer fits) in
    (written.0, written.1, fits)

pub written_call : WrittenCall
written_call call fits =
    let written = written_row (call_row call) (call_sound call) (each_within (call_row call) fits.0) in
    (written.0, written.1, fits)
