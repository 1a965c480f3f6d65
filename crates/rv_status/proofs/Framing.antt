-- Bytes of a frame's body, all that are missing or a part of them.
use Rattle.std.proofs.Common.{◌≡◌, ◌≤◌, ◌<◌, ◌+◌, ◌-◌, ◌∙◌, ℕ, List, [], ◌∷◌, ap, arith, drop, length, refl}
use Rattle.std.proofs.Common.{suc}
use Rattle.std.proofs.Common.{zero}
use Rattle.rv_status.specs.declared.frames.FrameMeter.{FrameMeter}
use Rattle.rv_status.specs.declared.frames.FrameMeter.TheVariants.{Between, Body, Length}
use Rattle.rv_status.specs.Frames.{after, ends}

-- how many bytes more than one are missing of a body
abbrev pub missing : FrameMeter → ℕ
missing Between = 0
missing (Length high) = 0
missing (Body more) = more

next_is : (more : ℕ) → suc (more + 1) ≡ suc more + 1
next_is more = omega arith

less_is : (more n : ℕ) → more - n ≡ suc more - suc n
less_is more n = omega arith

none_less : (more : ℕ) → more ≡ more - 0
none_less more = omega arith

none_more : (n : ℕ) → 0 + n ≡ n
none_more n = omega arith

-- all of a body that is missing
pub body_after : (more : ℕ) (rest : List ℕ) → more < length rest
    → after (Body more) rest ≡ after Between (drop (more + 1) rest)
body_after more [] less = absurd (omega (arith, less))
body_after zero (byte ∷ bytes) less = refl
body_after (suc more) (byte ∷ bytes) less =
    body_after more bytes (omega (arith, less))
    ∙ ap (λ k. after Between (drop k (byte ∷ bytes))) (next_is more)

pub body_ends : (more : ℕ) (rest : List ℕ) → more < length rest
    → ends (Body more) rest ≡ 1 + ends Between (drop (more + 1) rest)
body_ends more [] less = absurd (omega (arith, less))
body_ends zero (byte ∷ bytes) less = refl
body_ends (suc more) (byte ∷ bytes) less =
    none_more (ends (Body more) bytes) ∙ body_ends more bytes (omega (arith, less))
    ∙ ap (λ k. 1 + ends Between (drop k (byte ∷ bytes))) (next_is more)

-- a part of it
pub part_after : (more : ℕ) (rest : List ℕ) → length rest ≤ more
    → after (Body more) rest ≡ after (Body (more - length rest)) (drop (length rest) rest)
part_after more [] within = ap (λ k. Body k) (none_less more)
part_after zero (byte ∷ bytes) within = absurd (omega (arith, within))
part_after (suc more) (byte ∷ bytes) within =
    part_after more bytes (omega (arith, within))
    ∙ ap (λ k. after (Body k) (drop (length bytes) bytes)) (less_is more (length bytes))

pub part_ends : (more : ℕ) (rest : List ℕ) → length rest ≤ more
    → ends (Body more) rest ≡ 0 + ends (Body (more - length rest)) (drop (length rest) rest)
part_ends more [] within = refl
part_ends zero (byte ∷ bytes) within = absurd (omega (arith, within))
part_ends (suc more) (byte ∷ bytes) within =
    none_more (ends (Body more) bytes) ∙ part_ends more bytes (omega (arith, within))
    ∙ ap (λ k. 0 + ends (Body k) (drop (length bytes) bytes)) (less_is more (length bytes))
