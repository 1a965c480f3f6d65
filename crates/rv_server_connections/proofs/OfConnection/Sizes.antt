-- Bytes that are no more than the frame that they begin.
use Rattle.std.proofs.Common.{◌≡◌, ◌<◌, ◌+◌, ◌*◌, ◌/◌, ◌%◌, ◌∙◌, ◌⊎◌, inl, inr, ℕ, List, [], ◌∷◌, ◌++◌}
use Rattle.std.proofs.Common.{ap, append-nil, append_assoc, arith, get_or, length, length-append, subst, sym}
use Rattle.std.proofs.Common.{zero, suc, take, true, Fits, Fits-lit, w8}
use Rattle.rv_frame.specs.Cut.{FitsLength, IsFrameBody, IsUnfinished, frame_bytes, length_bytes}
use Rattle.rv_server_connections.specs.connection.Traffic.{IsBad, IsFinished, IsOneAtMost, IsWholeFrame}
use Rattle.rv_server_connections.specs.connection.Traffic.{Traffic}
use Rattle.rv_server_connections.specs.connection.Steps.{TakesIn}
use Rattle.rv_server_connections.specs.connection.Fields.{IsComplete, IsBegun, IsWanted, LeavesOne}

-- each is a byte
abbrev pub AreBytes : List ℕ → Type 0
AreBytes bytes = (k : ℕ) → Fits w8 (get_or bytes k 0)

begun : (high low : ℕ) (body : List ℕ) → high < 256 → low < 256 → length body ≡ 256 * high + low
    → IsWholeFrame (high ∷ low ∷ body) ⊎ IsBad (high ∷ low ∷ body)
begun high low [] high_fits low_fits long =
    let first : high ≡ 0 = omega arith in
    let second : low ≡ 0 = omega arith in
    inr (λ i. first i ∷ second i ∷ [])
begun high low (b ∷ body) high_fits low_fits long =
    let first : high ≡ length (b ∷ body) / 256 = omega arith in
    let second : low ≡ length (b ∷ body) % 256 = omega arith in
    inl (record {
      body = b ∷ body;
      fits = (omega arith, omega arith);
      frame = λ i. first i ∷ second i ∷ b
          ∷ body;
    })

pub complete_is : (bytes : List ℕ) → AreBytes bytes → IsComplete bytes → IsWholeFrame bytes ⊎ IsBad bytes
complete_is [] are complete = absurd (cc)
complete_is (high ∷ []) are complete = absurd (cc)
complete_is (high ∷ low ∷ body) are complete =
    let same : 256 * high + low + 2 ≡ length (high ∷ low ∷ body) = cc in
    let high_fits : high < 256 = omega (arith, are 0) in
    let low_fits : low < 256 = omega (arith, are 1) in
    begun high low body high_fits low_fits (omega arith)

no_frame_in : (bytes front more : List ℕ) (byte : ℕ) → IsBegun bytes → bytes ≡ front ++ byte ∷ more
    → (body after : List ℕ) → IsFrameBody body → front ≡ frame_bytes body ++ after → ⊥
no_frame_in bytes front more byte is same body after fits begins =
    let all : bytes ≡ frame_bytes body ++ (after ++ byte ∷ more) =
    same ∙ ap (λ l. l ++ byte ∷ more) begins ∙ append_assoc (frame_bytes body) after (byte ∷ more) in
    let short = subst IsBegun all is in
    omega (arith, short, length-append body (after ++ byte ∷ more), length-append after (byte ∷ more))

good_length_in : (bytes front more : List ℕ) (byte : ℕ) → AreBytes bytes → IsBegun bytes
    → bytes ≡ front ++ byte ∷ more → (n : ℕ) (after : List ℕ) → front ≡ length_bytes n ++ after → FitsLength n
good_length_in bytes front more byte are is same n after begins =
    let all : bytes ≡ length_bytes n ++ (after ++ byte ∷ more) =
    same ∙ ap (λ l. l ++ byte ∷ more) begins ∙ append_assoc (length_bytes n) after (byte ∷ more) in
    let short = subst IsBegun all is in
    let high : n / 256 < 256 = omega (arith, subst AreBytes all are 0) in
    (omega (arith, short, length-append after (byte ∷ more)), omega (arith, high))

pub one_at_most : (bytes : List ℕ) → AreBytes bytes → IsBegun bytes → IsOneAtMost bytes
one_at_most bytes are is front more byte same = record {
  no_frame = no_frame_in bytes front more byte is same;
  good_length = good_length_in bytes front more byte are is same;
}

-- what is unfinished is no whole frame, and isn't bad
pub unfinished_not_whole : (bytes : List ℕ) → IsUnfinished bytes → ¬ IsWholeFrame bytes
unfinished_not_whole bytes unfinished whole = unfinished.no_frame whole.body [] whole.fits (whole.frame
    ∙ sym (append-nil (frame_bytes whole.body)))

pub unfinished_not_bad : (bytes : List ℕ) → IsUnfinished bytes → ¬ IsBad bytes
unfinished_not_bad bytes unfinished bad =
    let fits = unfinished.good_length 0 [] bad in
    omega (arith, fits.0)

pub bad_not_whole : (bytes : List ℕ) → IsBad bytes → ¬ IsWholeFrame bytes
bad_not_whole bytes bad whole =
    let long : length bytes ≡ 2 = ap (λ l. length l) bad in
    omega (arith, whole.fits.0, ap (λ l. length l) whole.frame)

-- bytes in front of bytes
are_taken : (count : ℕ) (bytes : List ℕ) → AreBytes bytes → AreBytes (take count bytes)
are_taken zero bytes are k = Fits-lit tt
are_taken (suc count) [] are k = Fits-lit tt
are_taken (suc count) (b ∷ bytes) are zero = are 0
are_taken (suc count) (b ∷ bytes) are (suc k) = are_taken count bytes (λ j. are (suc j)) k

pub are_joined : (bytes piece : List ℕ) (count : ℕ) → AreBytes bytes → AreBytes piece
    → AreBytes (bytes ++ take count piece)
are_joined [] piece count are more k = are_taken count piece more k
are_joined (b ∷ bytes) piece count are more zero = are 0
are_joined (b ∷ bytes) piece count are more (suc k) = are_joined bytes piece count (λ j. are (suc j)) more k

-- a connection that is finished with an unfinished frame has ended
pub finished_open : (t : Traffic) → IsUnfinished t.unread → IsFinished t → t.ended ≡ true
finished_open t unfinished finished = elim finished.over [
  | inl bad ↦ absurd (unfinished_not_bad t.unread unfinished bad)
  | inr both ↦ both.0
]

pub leaves_one : (unread piece : List ℕ) (count : ℕ) → AreBytes unread → AreBytes piece
    → IsWanted unread piece count → LeavesOne unread piece count
leaves_one unread piece count are more wanted =
    let all : AreBytes (unread ++ take count piece) = are_joined unread piece count are more in
    record {
      wanted = wanted;
      one = one_at_most (unread ++ take count piece) all wanted.front;
      ends = λ fewer. complete_is (unread ++ take count piece) all (wanted.stops fewer);
    }

pub taken_in : (old : Traffic) (piece : List ℕ) (count : ℕ) (unread : List ℕ)
    → LeavesOne old.unread piece count
    → unread ≡ old.unread ++ take count piece → TakesIn old piece count (record old { unread = unread })
taken_in old piece count unread leaves all = record {
  within = leaves.wanted.within;
  unread = ap (λ l. record old { unread = l }) all;
  one = subst IsOneAtMost (sym all) leaves.one;
  stops = λ fewer. subst (λ (l : List ℕ). IsWholeFrame l ⊎ IsBad l) (sym all) (leaves.ends fewer);
}
