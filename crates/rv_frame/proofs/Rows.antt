-- Fronts of bytes that are whole frames: how they grow, shrink and are found again.
use Rattle.std.proofs.Common.{◌≡◌, ◌<◌, ◌≤◌, ◌+◌, ◌-◌, ◌*◌, ◌/◌, ◌%◌, ◌∙◌, ℕ, List, [], ◌∷◌, ◌++◌, Option}
use Rattle.std.proofs.Common.{Some, None, IfSome, refl, sym, ap, subst, arith, length, take, drop, append-nil}
use Rattle.std.proofs.Common.{false, get_or, is_some, true, length-append, length-drop, zero, suc}
use Rattle.std.specs.List.{All}
use Rattle.std.proofs.Math.Seq.{drop-append_seam, take-add, take-append_seam}
use Rattle.std.proofs.lemmas.List.{drop-append-le, drop-drop, drop-take, length-take-le, take-append-drop}
use Rattle.std.proofs.lemmas.List.{take-append-le, take-take}
use Rattle.std.proofs.lemmas.List.Elements.{All-append, All-cons, All-head, All-nil, All-tail}
use Rattle.rv_frame.specs.Cut.{BeginsBad, Cut, End, FitsLength, IsFrameBody, IsUnfinished, frame_bytes}
use Rattle.rv_frame.specs.Cut.{length_bytes, row_bytes}
use Rattle.rv_frame.specs.Held.{BeginsFrame, CutAt, FrontIsRow, bodies_in, end_of}
use Rattle.rv_frame.specs.Stream.{FeedsAt, Grows, Stream}
use Rattle.rv_frame.proofs.Cuts.{frame_once, length_once, row_append}

-- ---- the bodies of a row

rows_long : (bodies : List (List ℕ)) → length bodies ≤ length (row_bytes bodies)
rows_long [] = omega arith
rows_long (body ∷ bodies) = omega (
  arith,
  rows_long bodies,
  length-append (frame_bytes body)
      (row_bytes bodies),
)

bodies_of_row : (most : ℕ) (bodies : List (List ℕ)) → length bodies ≤ most
    → bodies_in most (row_bytes bodies) ≡ bodies
bodies_of_row zero [] long = refl
bodies_of_row (suc most) [] long = refl
bodies_of_row zero (body ∷ bodies) long = absurd (omega arith)
bodies_of_row (suc most) (body ∷ bodies) long =
    let size : 256 * (length body / 256) + length body % 256 ≡ length body = omega arith in
    let all = body ++ row_bytes bodies in
    let head : take (256 * (length body / 256) + length body % 256) all ≡ body = ap (λ n. take n all) size
    ∙ take-append_seam body (row_bytes bodies) in
    let after : drop (256 * (length body / 256) + length body % 256) all ≡ row_bytes bodies =
    ap (λ n. drop n all) size ∙ drop-append_seam body (row_bytes bodies) in
    let tail : bodies_in most (drop (256 * (length body / 256) + length body % 256) all) ≡ bodies =
    ap (bodies_in most) after ∙ bodies_of_row most bodies (omega arith) in
    (cc)

pub front_bodies : (bytes : List ℕ) (whole : ℕ) (front : FrontIsRow bytes whole)
    → bodies_in whole (take whole bytes) ≡ front.bodies
front_bodies bytes whole front =
    let long : length (take whole bytes) ≡ whole = length-take-le whole bytes front.within in
    ap (bodies_in whole) front.row ∙ bodies_of_row whole front.bodies
    (omega (arith, rows_long front.bodies, ap length front.row))

-- ---- fronts that grow

-- what a further piece adds to the frames of the bytes, it adds to the stream
pub feeds_on : (bytes piece both : List ℕ) (whole : ℕ) (bad : Option ℕ) (end : End) (new : Stream)
    → bad ≡ None → whole ≤ length bytes → both ≡ bytes ++ piece
    → Grows (record { frames = bodies_in whole (take whole both); end = end }) (drop whole both) new
    → FeedsAt (end_of bad (drop whole bytes))
    (record { frames = bodies_in whole (take whole bytes); end = end_of bad (drop whole bytes) }) piece new
feeds_on bytes piece both whole None end new unmet within same grows = record {
  more = grows.more;
  cut = subst (λ (l : List ℕ). Cut l grows.more new.end)
      (ap (drop whole) same ∙ drop-append-le whole bytes piece within) grows.cut;
  frames = grows.frames ∙ ap (λ l. bodies_in whole l ++ grows.more)
      (ap (take whole) same ∙ take-append-le whole bytes piece within);
}
feeds_on bytes piece both whole (Some n) end new unmet within same grows = absurd (cc)

pub fronts_join : (bytes : List ℕ) (whole more : ℕ) → FrontIsRow bytes whole
    → FrontIsRow (drop whole bytes) more → FrontIsRow bytes (whole + more)
fronts_join bytes whole more front next = record {
  bodies = front.bodies ++ next.bodies;
  within = omega (arith, front.within, next.within, length-drop whole bytes);
  row = take-add whole more bytes ∙ ap (λ l. l ++ take more (drop whole bytes)) front.row
      ∙ ap (λ l. row_bytes front.bodies ++ l) next.row
      ∙ sym (row_append front.bodies next.bodies);
  fit = All-append IsFrameBody front.bodies next.bodies front.fit next.fit;
}

front_of_frame : (bytes : List ℕ) (size : ℕ) → BeginsFrame bytes size → FrontIsRow bytes size
front_of_frame bytes size frame = record {
  bodies = frame.body ∷ [];
  within = frame.within;
  row = frame.front ∙ sym (append-nil (frame_bytes frame.body));
  fit = All-cons IsFrameBody frame.body [] frame.fits (All-nil IsFrameBody);
}

pub front_more : (bytes : List ℕ) (whole size : ℕ) → FrontIsRow bytes whole
    → BeginsFrame (drop whole bytes) size → FrontIsRow bytes (whole + size)
front_more bytes whole size front frame = fronts_join bytes whole size front
    (front_of_frame (drop whole bytes) size frame)

pub cut_open : (bytes : List ℕ) (whole : ℕ) → FrontIsRow bytes whole → IsUnfinished (drop whole bytes)
    → CutAt bytes whole None
cut_open bytes whole front unfinished = record {
  front = front;
  cut = record {
    after = drop whole bytes;
    parts = sym (take-append-drop whole bytes) ∙ ap (λ l. l ++ drop whole bytes) front.row;
    fit = front.fit;
    ends = (refl, unfinished);
  };
}

pub cut_bad : (bytes : List ℕ) (whole n : ℕ) → FrontIsRow bytes whole → BeginsBad (drop whole bytes) n
    → CutAt bytes whole (Some n)
cut_bad bytes whole n front bad = record {
  front = front;
  cut = record {
    after = drop whole bytes;
    parts = sym (take-append-drop whole bytes) ∙ ap (λ l. l ++ drop whole bytes) front.row;
    fit = front.fit;
    ends = bad;
  };
}

-- the front alone
pub front_alone : (bytes : List ℕ) (whole : ℕ) → FrontIsRow bytes whole → FrontIsRow (take whole bytes) whole
front_alone bytes whole front = record {
  bodies = front.bodies;
  within = omega (arith, length-take-le whole bytes front.within);
  row = take-take whole whole bytes (omega arith) ∙ front.row;
  fit = front.fit;
}

-- ---- a piece

-- the frames of a piece join those before it
pub grows_by : (bytes bytes' : List ℕ) (whole more : ℕ) (bad : Option ℕ) (end : End) → FrontIsRow bytes whole
    → CutAt (drop whole bytes) more bad
    → take (whole + more) bytes' ≡ take (whole + more) bytes
    → end_of bad (drop (whole + more) bytes') ≡ end_of bad (drop (whole + more) bytes)
    → Grows (record { frames = bodies_in whole (take whole bytes); end = end }) (drop whole bytes)
    (record {
      frames = bodies_in (whole + more) (take (whole + more) bytes');
      end =
          end_of bad (drop (whole + more) bytes');
    })
unfolding fronts_join
grows_by bytes bytes' whole more bad end front at same ends =
    let joined = fronts_join bytes whole more front at.front in
    let frames : bodies_in (whole + more) (take (whole + more) bytes') ≡ front.bodies ++ at.front.bodies =
    ap (bodies_in (whole + more)) same ∙ front_bodies bytes (whole + more) joined in
    let before : bodies_in whole (take whole bytes) ≡ front.bodies = front_bodies bytes whole front in
    let last : end_of bad (drop more (drop whole bytes)) ≡ end_of bad (drop (whole + more) bytes') =
    ap (end_of bad) (drop-drop more whole bytes) ∙ sym ends in
    record {
      more = at.front.bodies;
      cut = subst (λ (e : End). Cut (drop whole bytes) at.front.bodies e) last at.cut;
      frames = frames ∙ ap (λ l. l ++ at.front.bodies) (sym before);
    }

pub bad_ends : (bad : Option ℕ) (a b : List ℕ) → is_some bad ≡ true → end_of bad a ≡ end_of bad b
bad_ends None a b some = absurd (cc)
bad_ends (Some n) a b some = refl

pub if_some_held : (bad : Option ℕ) (P : Type 0) → P → IfSome bad (λ n. P)
if_some_held None P p = tt
if_some_held (Some n) P p = p

pub if_none : (bad : Option ℕ) (P : Type 0) → is_some bad ≡ false → IfSome bad (λ n. P)
if_none None P none = tt
if_none (Some n) P none = absurd (cc)

pub if_some_more : (bad : Option ℕ) (P Q : Type 0) → (P → Q) → IfSome bad (λ n. P) → IfSome bad (λ n. Q)
if_some_more None P Q more p = tt
if_some_more (Some n) P Q more p = more p

-- ---- fronts that shrink

pub record Taken (bytes : List ℕ) (whole size : ℕ) (bodies : List (List ℕ)) (body : List ℕ) : Type 0 where
  pub front : FrontIsRow (drop size bytes) (whole - size)
  pub oldest : bodies ≡ body ∷ front.bodies
  pub size_within : size ≤ whole

take_by : (bytes : List ℕ) (whole size : ℕ) (bodies : List (List ℕ)) → whole ≤ length bytes
    → take whole bytes ≡ row_bytes bodies → All IsFrameBody bodies
    → (frame : BeginsFrame (take whole bytes) size) → Taken bytes whole size bodies frame.body
take_by bytes whole size [] within row fit frame =
    absurd (omega (arith, frame.size_is, frame.within, ap length row))
take_by bytes whole size (first ∷ bodies) within row fit frame =
    let size_within : size ≤ whole = omega (arith, frame.within, length-take-le whole bytes within) in
    let parted : frame_bytes frame.body ++ drop size (take whole bytes) ≡ frame_bytes first ++ row_bytes
    bodies =
    ap (λ l. l ++ drop size (take whole bytes)) (sym frame.front) ∙ take-append-drop size (take whole bytes)
    ∙ row in
    let once = frame_once frame.body first (drop size (take whole bytes)) (row_bytes bodies) parted in
    let both : size + (whole - size) ≡ whole = omega (arith, size_within) in
    record {
      front = record {
        bodies = bodies;
        within = omega (arith, within, size_within, length-drop size bytes);
        row = sym (drop-take size (whole - size) bytes) ∙ ap (λ n. drop size (take n bytes)) both ∙ once.1;
        fit = All-tail IsFrameBody first bodies fit;
      };
      oldest = ap (λ l. l ∷ bodies) (sym once.0);
      size_within = size_within;
    }

pub front_less : (bytes : List ℕ) (whole size : ℕ) (front : FrontIsRow bytes whole) (frame :
    BeginsFrame (take whole bytes) size) → Taken bytes whole size front.bodies frame.body
front_less bytes whole size front frame = take_by bytes whole size front.bodies front.within front.row
    front.fit frame

-- the body of the frame at the front
pub body_in : (bytes : List ℕ) (whole size : ℕ) → size ≤ whole → (frame : BeginsFrame (take whole bytes) size)
    → take (size - 2) (drop 2 bytes) ≡ frame.body
body_in bytes whole size within frame =
    let both : 2 + (size - 2) ≡ size = omega (arith, frame.size_is) in
    sym (drop-take 2 (size - 2) bytes) ∙ ap (λ n. drop 2 (take n bytes)) both ∙ ap (drop 2)
    (sym (take-take size whole bytes within) ∙ frame.front)

never_bad : (bytes : List ℕ) (bodies : List (List ℕ)) (n : ℕ) → bytes ≡ row_bytes bodies
    → All IsFrameBody bodies → BeginsBad bytes n → ⊥
never_bad bytes [] n row fit bad = let none : [] ≡ length_bytes n ++ bad.more = sym row ∙ bad.parts in
    absurd (cc)
never_bad bytes (body ∷ bodies) n row fit bad =
    let long = length_once n (length body) bad.more (body ++ row_bytes bodies) (sym bad.parts ∙ row) in
    bad.is_bad (subst FitsLength (sym long.0) (All-head IsFrameBody body bodies fit))

pub front_not_bad : (bytes : List ℕ) (whole n : ℕ) → FrontIsRow bytes whole → BeginsBad (take whole bytes) n
    → ⊥
front_not_bad bytes whole n front bad = never_bad (take whole bytes) front.bodies n front.row front.fit bad

-- ---- heads

-- two length bytes and what follows them
two_parts : (high low n : ℕ) (rest : List ℕ) → 256 * high + low ≡ n → low < 256
    → high ∷ low ∷ rest ≡ length_bytes n ++ rest
two_parts high low n rest is small =
    let first : high ≡ n / 256 = omega arith in
    let second : low ≡ n % 256 = omega arith in
    (cc)

-- the length that two bytes at the front of others write
abbrev pub length_in : List ℕ → ℕ
length_in bytes = 256 * get_or bytes 0 0 + get_or bytes 1 0

pub bad_head : (bytes : List ℕ) → 2 ≤ length bytes → get_or bytes 1 0 < 256
    → (FitsLength (length_in bytes) → ⊥) → BeginsBad bytes (length_in bytes)
bad_head [] long small bad = absurd (omega arith)
bad_head (high ∷ []) long small bad = absurd (omega arith)
bad_head (high ∷ low ∷ rest) long small bad = record {
  more = rest;
  parts = two_parts high low
      (256 * high + low) rest refl small;
  is_bad = bad;
}

pub whole_head : (bytes : List ℕ) → get_or bytes 1 0 < 256 → FitsLength (length_in bytes)
    → length_in bytes + 2 ≤ length bytes → BeginsFrame bytes (length_in bytes + 2)
whole_head [] small fits long = absurd (omega arith)
whole_head (high ∷ []) small fits long = absurd (omega arith)
whole_head (high ∷ low ∷ rest) small fits long =
    let n : ℕ = 256 * high + low in
    let size : length (take n rest) ≡ n = length-take-le n rest (omega arith) in
    let two : n + 2 ≡ suc (suc n) = omega arith in
    let front : high ∷ low ∷ take n rest ≡ frame_bytes (take n rest) = two_parts high low
    (length (take n rest)) (take n rest) (sym size) small in
    record {
      body = take n rest;
      fits = subst FitsLength (sym size) fits;
      size_is = omega (arith, size);
      within = long;
      front = ap (λ m. take m (high ∷ low ∷ rest)) two ∙ front;
    }
