-- Where a stream of frames is, byte by byte: two bytes of a length, the greater part first, and a body.
use Rattle.std.specs.Prelude.{ℕ, ◌+◌, ◌*◌, Bool, true, false, List, [], ◌∷◌, cond, suc, zero}
use Rattle.rv_status.specs.declared.frames.FrameMeter.{FrameMeter}
use Rattle.rv_status.specs.declared.frames.FrameMeter.TheVariants.{Between, Body, Length}

-- what is left after a length
abbrev pub of_length : ℕ → FrameMeter
of_length zero = Between
of_length (suc more) = Body more

-- after one byte more
abbrev pub after_byte : FrameMeter → ℕ → FrameMeter
after_byte Between byte = Length byte
after_byte (Length high) byte = of_length (high * 256 + byte)
after_byte (Body zero) byte = Between
after_byte (Body (suc more)) byte = Body more

-- after these bytes
abbrev pub after : FrameMeter → List ℕ → FrameMeter
after meter [] = meter
after meter (byte ∷ bytes) = after (after_byte meter byte) bytes

abbrev pub is_between : FrameMeter → Bool
is_between Between = true
is_between (Length high) = false
is_between (Body more) = false

-- how many frames end in these bytes: one for each byte that is the last of a frame
abbrev pub ends : FrameMeter → List ℕ → ℕ
ends meter [] = 0
ends meter (byte ∷ bytes) = cond (is_between (after_byte meter byte)) 1 0 + ends (after_byte meter byte) bytes
