-- What fits is written in a body's length.
use Rattle.std.proofs.Common.{◌≡◌, ◌<◌, List, length, map, Result, String, Global, string_bytes, sym, subst}
use Rattle.std.proofs.Common.{arith}
use Rattle.std.proofs.lemmas.Result.{IfOk-weaker}
use Rattle.std.specs.Result.{IfOk}
use Rattle.std.specs.declared.alloc.AllocError.{AllocError}
use Rattle.serde_json.specs.Written.{compact_text}
use Rattle.rv_text.specs.Bodies.{HasBodyLength}
use Rattle.rv_text.specs.Members.{Member, field_of, object_of, IsWithin}
use Rattle.rv_text.proofs.ByKind.{Each, row_is_flat, row_size}
use Rattle.rv_text.proofs.Sizes.{length-object}
use Rattle.rv_text.proofs.Sound.{IsSoundRow}

pub body_length : (row : List Member) → IsSoundRow row → Each IsWithin row
    → HasBodyLength (compact_text (object_of row))
body_length row sound h =
    let flat = row_is_flat row sound.plain h in (
      omega arith,
      omega (
        arith,
        length-object (map field_of row) flat,
        row_size row sound.plain h,
        sound.room,
      ),
    )

-- and shorter than the longest
pub shorter_length : (row : List Member) → IsSoundRow row → Each IsWithin row
    → length (compact_text (object_of row)) < 65535
shorter_length row sound h =
    omega (
      arith,
      length-object (map field_of row) (row_is_flat row sound.plain h),
      row_size row sound.plain
          h,
      sound.room,
    )

-- and so is what was written for the row
pub short_text : (row : List Member) → IsSoundRow row → Each IsWithin row
    → (result : Result (String Global) AllocError)
    → IfOk result (λ s. string_bytes s ≡ compact_text (object_of row))
    → IfOk result (λ s. HasBodyLength (string_bytes s))
short_text row sound h result =
    IfOk-weaker result (λ s. string_bytes s ≡ compact_text (object_of row))
    (λ s. HasBodyLength (string_bytes s))
    (λ s same. subst HasBodyLength (sym same) (body_length row sound h))

pub shorter_text : (row : List Member) → IsSoundRow row → Each IsWithin row
    → (result : Result (String Global) AllocError)
    → IfOk result (λ s. string_bytes s ≡ compact_text (object_of row))
    → IfOk result (λ s. length (string_bytes s) < 65535)
shorter_text row sound h result =
    IfOk-weaker result (λ s. string_bytes s ≡ compact_text (object_of row)) (λ s. length (string_bytes s) <
    65535)
    (λ s same. subst (λ text. length text < 65535) (sym same) (shorter_length row sound h))
