-- What follows whole frames: that it is bytes and short, and that all bytes have a cut.
use Rattle.std.proofs.Common.{◌≡◌, ◌∙◌, ◌+◌, ◌*◌, ◌/◌, ◌%◌, ◌<◌, ◌≤◌, ◌⊎◌, ◌∷◌, ◌++◌, [], All, ℕ, List, ap}
use Rattle.std.proofs.Common.{append_assoc, arith, drop, get_or, inl, inr, length, length-append, length-drop}
use Rattle.std.proofs.Common.{refl, subst, suc, sym, take, zero}
use Rattle.std.proofs.lemmas.Bool.{cases_lt}
use Rattle.std.proofs.lemmas.List.{take-append-drop}
use Rattle.std.proofs.lemmas.List.Elements.{All-append, All-cons, All-head, All-nil, All-tail}
use Rattle.rv_frame.specs.Cut.{Bad, BeginsBad, Cut, End, FitsLength, IsFrameBody, IsUnfinished, Open}
use Rattle.rv_frame.specs.Cut.{frame_bytes, length_bytes, row_bytes}
use Rattle.rv_frame.specs.Held.{BeginsFrame}
use Rattle.rv_frame.specs.Stream.{FeedsAt, Stream, rest_length}
use Rattle.rv_frame.proofs.Cuts.{length_once}
use Rattle.rv_frame.proofs.Rows.{bad_head, whole_head}
use Rattle.rv_server.specs.Reading.{FollowBytes}

abbrev IsByte : ℕ → Type 0
IsByte byte = byte < 256

-- ---- bytes

bytes_after : (front after : List ℕ) → All IsByte (front ++ after) → All IsByte after
bytes_after [] after are = are
bytes_after (byte ∷ front) after are = bytes_after front after (All-tail IsByte byte (front ++ after) are)

bytes_follow : (bytes : List ℕ) (bodies : List (List ℕ)) (end : End) → Cut bytes bodies end → All IsByte bytes
    → FollowBytes end
bytes_follow bytes bodies (Open rest) cut are =
    subst (All IsByte) cut.ends.0 (bytes_after (row_bytes bodies) cut.after (subst (All IsByte) cut.parts
    are))
bytes_follow bytes bodies (Bad n) cut are = tt

-- ---- heads

two_parts : (high low n : ℕ) (rest : List ℕ) → 256 * high + low ≡ n → low < 256
    → high ∷ low ∷ rest ≡ length_bytes n ++ rest
two_parts high low n rest is small =
    let first : high ≡ n / 256 = omega arith in
    let second : low ≡ n % 256 = omega arith in
    (cc)

-- what two bytes and those after them begin with
abbrev BeginsSome : (high low : ℕ) → List ℕ → Type 0
BeginsSome high low rest =
    IsUnfinished (high ∷ low ∷ rest) ⊎ (BeginsBad (high ∷ low ∷ rest) (256 * high + low) ⊎ BeginsFrame
    (high ∷ low ∷ rest) (256 * high + low + 2))

too_few : (bytes : List ℕ) → length bytes < 2 → IsUnfinished bytes
too_few bytes few = record {
  no_frame = λ body more fits same. absurd (omega (arith, ap length same));
  good_length = λ n more same. absurd (omega (arith, ap length same));
}

no_length : (high low : ℕ) (rest : List ℕ) → 256 ≤ low → IsUnfinished (high ∷ low ∷ rest)
no_length high low rest large = record {
  no_frame = λ body more fits same. let second : low ≡ length body % 256 = cc in absurd (omega arith);
  good_length = λ n more same. let second : low ≡ n % 256 = cc in absurd (omega arith);
}

-- a good length, and fewer bytes than it says
too_few_behind : (high low : ℕ) (rest : List ℕ) → low < 256 → FitsLength (256 * high + low)
    → length rest < 256 * high + low → IsUnfinished (high ∷ low ∷ rest)
too_few_behind high low rest small fits fewer =
    let parts = sym (two_parts high low (256 * high + low) rest refl small) in
    record {
      no_frame = λ body more is_body same.
          let once = length_once (256 * high + low) (length body) rest (body ++ more) (parts ∙ same) in
          absurd (omega (arith, once.0, ap length once.1, length-append body more, fewer));
      good_length = λ m more same. subst FitsLength (length_once (256 * high + low) m rest more
          (parts ∙ same)).0 fits;
    }

fits_or_not : (n : ℕ) → FitsLength n ⊎ (FitsLength n → ⊥)
fits_or_not n = elim (cases_lt 0 n) [
  | inr none ↦ inr (λ fits. omega (arith, fits.0))
  | inl some ↦ elim (cases_lt 65535 n) [
    | inl more ↦ inr (λ fits. omega (arith, fits.1))
    | inr most ↦ inl
        (omega arith, most)
  ]
]

begins : (high low : ℕ) (rest : List ℕ) → BeginsSome high low rest
begins high low rest = elim (cases_lt low 256) [
  | inr large ↦ inl (no_length high low rest large)
  | inl small ↦ elim (fits_or_not (256 * high + low)) [
    | inr bad ↦ inr (inl (bad_head (high ∷ low ∷ rest) (omega arith) small bad))
    | inl fits ↦ elim (cases_lt (length rest) (256 * high + low)) [
      | inl fewer ↦ inl (too_few_behind high low rest small fits fewer)
      | inr enough ↦ inr (inr (whole_head (high ∷ low ∷ rest) small fits (omega arith)))
    ]
  ]
]

parts_of : (bytes : List ℕ) (size : ℕ) (frame : BeginsFrame bytes size)
    → bytes ≡ frame_bytes frame.body ++ drop size bytes
parts_of bytes size frame = sym (take-append-drop size bytes) ∙ ap (λ l. l ++ drop size bytes) frame.front

-- ---- short

-- bytes that begin no frame are fewer than the longest frame's
unfinished_short : (rest : List ℕ) → IsUnfinished rest → All IsByte rest → length rest < 65537
unfinished_short [] unfinished are = omega arith
unfinished_short (high ∷ []) unfinished are = omega arith
unfinished_short (high ∷ low ∷ rest) unfinished are =
    let small : low < 256 = All-head IsByte low rest (All-tail IsByte high (low ∷ rest) are) in
    let fits : FitsLength (256 * high + low) = unfinished.good_length (256 * high + low) rest
    (two_parts high low (256 * high + low) rest refl small) in
    elim (cases_lt (length rest) (256 * high + low)) [
      | inl fewer ↦ omega (arith, fits.1)
      | inr enough ↦
          let frame = whole_head (high ∷ low ∷ rest) small fits (omega arith) in
          absurd (unfinished.no_frame frame.body (drop (256 * high + low + 2) (high ∷ low ∷ rest)) frame.fits
          (parts_of (high ∷ low ∷ rest) (256 * high + low + 2) frame))
    ]

short_behind : (bytes : List ℕ) (bodies : List (List ℕ)) (end : End) → Cut bytes bodies end → FollowBytes end
    → rest_length end < 65537
short_behind bytes bodies (Open rest) cut are = unfinished_short rest cut.ends.1 are
short_behind bytes bodies (Bad n) cut are = omega arith

-- ---- a piece

-- the first elements of an array of bytes are bytes
pub bytes_taken : (n : ℕ) (bytes : List ℕ) → ((k : ℕ) → get_or bytes k 0 < 256) → All IsByte (take n bytes)
bytes_taken zero bytes are = All-nil IsByte
bytes_taken (suc n) [] are = All-nil IsByte
bytes_taken (suc n) (byte ∷ bytes) are = All-cons IsByte byte (take n bytes) (are 0)
    (bytes_taken n bytes (λ k. are (suc k)))

-- what follows the whole frames stays bytes
pub bytes_at : (at : End) (old new : Stream) (piece : List ℕ) → old.end ≡ at → FeedsAt at old piece new
    → FollowBytes at → All IsByte piece → FollowBytes new.end
bytes_at (Open rest) old new piece is feeds are small =
    bytes_follow (rest ++ piece) feeds.more new.end feeds.cut (All-append IsByte rest piece are small)
bytes_at (Bad n) old new piece is feeds are small =
    let end : Bad n ≡ new.end = sym is ∙ ap (λ (s : Stream). s.end) (sym feeds) in
    subst FollowBytes end tt

pub short_at : (at : End) (old new : Stream) (piece : List ℕ) → old.end ≡ at → FeedsAt at old piece new
    → FollowBytes new.end → rest_length new.end < 65537
short_at (Open rest) old new piece is feeds are = short_behind (rest ++ piece) feeds.more new.end feeds.cut
    are
short_at (Bad n) old new piece is feeds are =
    let end : Bad n ≡ new.end = sym is ∙ ap (λ (s : Stream). s.end) (sym feeds) in
    subst (λ (e : End). rest_length e < 65537) end (omega arith)

-- ---- all bytes have a cut

record Cuts (bytes : List ℕ) : Type 0 where
  bodies : List (List ℕ)
  end : End
  cut : Cut bytes bodies end

no_bodies : (bytes : List ℕ) → IsUnfinished bytes → Cuts bytes
no_bodies bytes unfinished = record {
  bodies = [];
  end = Open bytes;
  cut = record { after = bytes; parts = refl; fit = All-nil IsFrameBody; ends = (refl, unfinished) };
}

bad_first : (bytes : List ℕ) (n : ℕ) → BeginsBad bytes n → Cuts bytes
bad_first bytes n bad = record {
  bodies = [];
  end = Bad n;
  cut = record { after = bytes; parts = refl; fit = All-nil IsFrameBody; ends = bad };
}

frame_first : (bytes body rest : List ℕ) → IsFrameBody body → bytes ≡ frame_bytes body ++ rest → Cuts rest
    → Cuts bytes
frame_first bytes body rest fits parts cuts = record {
  bodies = body ∷ cuts.bodies;
  end = cuts.end;
  cut = record {
    after = cuts.cut.after;
    parts = parts ∙ ap (λ l. frame_bytes body ++ l) cuts.cut.parts ∙ sym (append_assoc (frame_bytes body)
        (row_bytes cuts.bodies) cuts.cut.after);
    fit = All-cons IsFrameBody body cuts.bodies fits cuts.cut.fit;
    ends = cuts.cut.ends;
  };
}

cuts_within : (most : ℕ) (bytes : List ℕ) → length bytes ≤ most → Cuts bytes
cuts_within most [] within = no_bodies [] (too_few [] (omega arith))
cuts_within most (high ∷ []) within = no_bodies (high ∷ []) (too_few (high ∷ []) (omega arith))
cuts_within zero (high ∷ low ∷ rest) within = absurd (omega arith)
cuts_within (suc most) (high ∷ low ∷ rest) within =
    let n : ℕ = 256 * high + low in
    elim (begins high low rest) [
      | inl unfinished ↦ no_bodies (high ∷ low ∷ rest) unfinished
      | inr whole ↦ elim whole [
        | inl bad ↦ bad_first (high ∷ low ∷ rest) n bad
        | inr frame ↦ frame_first (high ∷ low ∷ rest) frame.body (drop (n + 2) (high ∷ low ∷ rest)) frame.fits
            (parts_of (high ∷ low ∷ rest) (n + 2) frame)
            (cuts_within most (drop (n + 2) (high ∷ low ∷ rest))
            (omega (arith, length-drop (n + 2) (high ∷ low ∷ rest))))
      ]
    ]

-- what a piece would lead to
pub feeds_at : (at : End) (old : Stream) (piece : List ℕ) → (met : Stream) × FeedsAt at old piece met
feeds_at (Open rest) old piece =
    let cuts = cuts_within (length (rest ++ piece)) (rest ++ piece) (omega arith) in (
      record { frames = old.frames ++ cuts.bodies; end = cuts.end },
      record {
        more = cuts.bodies;
        cut =
            cuts.cut;
        frames = refl;
      },
    )
feeds_at (Bad n) old piece = (old, refl)
