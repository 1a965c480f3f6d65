-- That bytes have one cut, and how the cuts of pieces join.
use Rattle.std.proofs.Common.{◌≡◌, ◌/◌, ◌%◌, ◌∙◌, ℕ, List, [], ◌∷◌, ◌++◌, refl, sym, ap, subst, arith, length}
use Rattle.std.proofs.Common.{append_assoc}
use Rattle.std.specs.List.{All}
use Rattle.std.proofs.lemmas.List.Elements.{All-append, All-head, All-tail}
use Rattle.rv_frame.specs.Cut.{Bad, BeginsBad, Cut, End, EndsIn, FitsLength, IsFrameBody, Open, frame_bytes}
use Rattle.rv_frame.specs.Cut.{length_bytes, row_bytes}
use Rattle.rv_frame.specs.Laws.{FedIsCut, OneCut, PiecesJoin, TakenIsCut}
use Rattle.rv_frame.specs.Stream.{FeedsAt, HasFed, Stream}

-- ---- one cut

-- two length bytes are those of one length
pub length_once : (m n : ℕ) (x y : List ℕ) → length_bytes m ++ x ≡ length_bytes n ++ y → (m ≡ n) × (x ≡ y)
length_once m n x y same =
    let high : m / 256 ≡ n / 256 = cc in
    let low : m % 256 ≡ n % 256 = cc in
    (omega arith, cc)

parts_once : (a b x y : List ℕ) → length a ≡ length b → a ++ x ≡ b ++ y → (a ≡ b) × (x ≡ y)
parts_once [] [] x y long same = (refl, same)
parts_once [] (c ∷ b) x y long same = absurd (omega arith)
parts_once (c ∷ a) [] x y long same = absurd (omega arith)
parts_once (c ∷ a) (d ∷ b) x y long same =
    let later = parts_once a b x y (omega arith) (cc) in
    let first : c ≡ d = cc in
    (cc, later.1)

pub frame_once : (a b x y : List ℕ) → frame_bytes a ++ x ≡ frame_bytes b ++ y → (a ≡ b) × (x ≡ y)
frame_once a b x y same =
    let long = length_once (length a) (length b) (a ++ x) (b ++ y) same in
    parts_once a b x y long.0 long.1

no_bad_frame : (bytes body x : List ℕ) (n : ℕ) → BeginsBad bytes n → IsFrameBody body
    → bytes ≡ frame_bytes body ++ x → ⊥
no_bad_frame bytes body x n bad fits same =
    let long = length_once n (length body) bad.more (body ++ x) (sym bad.parts ∙ same) in
    bad.is_bad (subst FitsLength (sym long.0) fits)

ends_once : (bytes : List ℕ) (end end' : End) → EndsIn bytes end → EndsIn bytes end' → end ≡ end'
ends_once bytes (Open rest) (Open rest') a b = ap Open (sym a.0 ∙ b.0)
ends_once bytes (Open rest) (Bad n) a b = absurd (b.is_bad (a.1.good_length n b.more (sym a.0 ∙ b.parts)))
ends_once bytes (Bad n) (Open rest) a b = absurd (a.is_bad (b.1.good_length n a.more (sym b.0 ∙ a.parts)))
ends_once bytes (Bad m) (Bad n) a b = ap Bad (length_once m n a.more b.more (sym a.parts ∙ b.parts)).0

-- what ends no whole frame begins with none
no_frame : (bytes body x : List ℕ) (end : End) → EndsIn bytes end → IsFrameBody body
    → bytes ≡ frame_bytes body ++ x → ⊥
no_frame bytes body x (Open rest) ends fits same = ends.1.no_frame body x fits (sym ends.0 ∙ same)
no_frame bytes body x (Bad n) ends fits same = no_bad_frame bytes body x n ends fits same

rows_once : (a b : List (List ℕ)) (x y : List ℕ) (end end' : End) → All IsFrameBody a → All IsFrameBody b
    → EndsIn x end → EndsIn y end'
    → row_bytes a ++ x ≡ row_bytes b ++ y → (a ≡ b) × (end ≡ end')
rows_once [] [] x y end end' fit fit' ends ends' same =
    (refl, ends_once x end end' ends (subst (λ (l : List ℕ). EndsIn l end') (sym same) ends'))
rows_once [] (body ∷ b) x y end end' fit fit' ends ends' same =
    absurd (no_frame x body (row_bytes b ++ y) end ends (All-head IsFrameBody body b fit')
    (same ∙ append_assoc (frame_bytes body) (row_bytes b) y))
rows_once (body ∷ a) [] x y end end' fit fit' ends ends' same =
    absurd (no_frame y body (row_bytes a ++ x) end' ends' (All-head IsFrameBody body a fit) (sym same
    ∙ append_assoc (frame_bytes body) (row_bytes a) x))
rows_once (body ∷ a) (body' ∷ b) x y end end' fit fit' ends ends' same =
    let first = frame_once body body' (row_bytes a ++ x) (row_bytes b ++ y)
    (sym (append_assoc (frame_bytes body) (row_bytes a) x) ∙ same ∙ append_assoc (frame_bytes body')
    (row_bytes b) y) in
    let later = rows_once a b x y end end' (All-tail IsFrameBody body a fit) (All-tail IsFrameBody body' b
    fit') ends ends' first.1 in
    let head : body ≡ body' = first.0 in
    let tail : a ≡ b = later.0 in
    (cc, later.1)

pub one_cut : OneCut
one_cut bytes a b end end' cut cut' =
    rows_once a b cut.after cut'.after end end' cut.fit cut'.fit cut.ends cut'.ends (sym cut.parts
    ∙ cut'.parts)

-- ---- the cuts of pieces

pub row_append : (a b : List (List ℕ)) → row_bytes (a ++ b) ≡ row_bytes a ++ row_bytes b
row_append [] b = refl
row_append (body ∷ a) b = ap (λ l. frame_bytes body ++ l) (row_append a b)
    ∙ sym (append_assoc (frame_bytes body) (row_bytes a) (row_bytes b))

-- the cut goes on after an open end
pub cut_on : (bytes piece rest : List ℕ) (bodies more : List (List ℕ)) (end : End)
    → Cut bytes bodies (Open rest) → Cut (rest ++ piece) more end
    → Cut (bytes ++ piece) (bodies ++ more) end
cut_on bytes piece rest bodies more end cut next = record {
  after = next.after;
  parts =
      ap (λ l. l ++ piece) (cut.parts ∙ ap (λ l. row_bytes bodies ++ l) cut.ends.0) ∙ append_assoc
      (row_bytes bodies) rest piece
      ∙ ap (λ l. row_bytes bodies ++ l) next.parts ∙ sym (append_assoc (row_bytes bodies) (row_bytes more)
      next.after)
      ∙ ap (λ l. l ++ next.after) (sym (row_append bodies more));
  fit = All-append IsFrameBody bodies more cut.fit next.fit;
  ends = next.ends;
}

-- and stays where it met a bad length
pub cut_stays : (bytes piece : List ℕ) (bodies : List (List ℕ)) (n : ℕ) → Cut bytes bodies (Bad n)
    → Cut (bytes ++ piece) bodies (Bad n)
cut_stays bytes piece bodies n cut = record {
  after = cut.after ++ piece;
  parts = ap (λ l. l ++ piece) cut.parts ∙ append_assoc (row_bytes bodies) cut.after piece;
  fit = cut.fit;
  ends = record {
    more = cut.ends.more ++ piece;
    parts = ap (λ l. l ++ piece) cut.ends.parts;
    is_bad =
        cut.ends.is_bad;
  };
}

-- ---- streams

fed_at : (bytes piece : List ℕ) (taken : List (List ℕ)) (at : End) (old new : Stream) → old.end ≡ at
    → Cut bytes (taken ++ old.frames) at → FeedsAt at old piece new
    → HasFed (bytes ++ piece) taken new
fed_at bytes piece taken (Open rest) old new is cut feeds =
    let more = cut_on bytes piece rest (taken ++ old.frames) feeds.more new.end cut feeds.cut in
    subst (λ (l : List (List ℕ)). Cut (bytes ++ piece) l new.end) (append_assoc taken old.frames feeds.more
    ∙ ap (λ l. taken ++ l) (sym feeds.frames)) more
fed_at bytes piece taken (Bad n) old new is cut feeds =
    let P : Stream → Type 0 = λ s. HasFed (bytes ++ piece) taken s in
    subst P (sym feeds) (subst (λ (e : End). Cut (bytes ++ piece) (taken ++ old.frames) e) (sym is)
    (cut_stays bytes piece (taken ++ old.frames) n cut))

pub fed_is_cut : FedIsCut
fed_is_cut bytes piece taken old new fed feeds = fed_at bytes piece taken old.end old new refl fed feeds

pub taken_is_cut : TakenIsCut
taken_is_cut bytes body taken old new fed oldest same =
    let all : taken ++ old.frames ≡ (taken ++ body ∷ []) ++ new.frames = ap (λ l. taken ++ l) oldest
    ∙ sym (append_assoc taken (body ∷ []) new.frames) in
    subst (λ (e : End). Cut bytes ((taken ++ body ∷ []) ++ new.frames) e) (sym same)
    (subst (λ (l : List (List ℕ)). Cut bytes l old.end) all fed)

-- by the ends before and between the pieces
join_at : (at between : End) (a b c : Stream) (first second : List ℕ) → a.end ≡ at → b.end ≡ between
    → FeedsAt at a first b → FeedsAt between b second c → FeedsAt at a (first ++ second) c
join_at (Open rest) (Open rest') a b c first second was is feeds feeds' =
    let cut = subst (λ (e : End). Cut (rest ++ first) feeds.more e) is feeds.cut in
    let whole = cut_on (rest ++ first) second rest' feeds.more feeds'.more c.end cut feeds'.cut in
    record {
      more = feeds.more ++ feeds'.more;
      cut = subst (λ (l : List ℕ). Cut l (feeds.more ++ feeds'.more) c.end) (append_assoc rest first second)
          whole;
      frames = feeds'.frames ∙ ap (λ l. l ++ feeds'.more) feeds.frames ∙ append_assoc a.frames feeds.more
          feeds'.more;
    }
join_at (Open rest) (Bad n) a b c first second was is feeds feeds' =
    let cut = subst (λ (e : End). Cut (rest ++ first) feeds.more e) is feeds.cut in
    let whole = cut_stays (rest ++ first) second feeds.more n cut in
    let end : Bad n ≡ c.end = sym is ∙ ap (λ (s : Stream). s.end) (sym feeds') in
    record {
      more = feeds.more;
      cut = subst (λ (e : End). Cut (rest ++ (first ++ second)) feeds.more e) end
          (subst (λ (l : List ℕ). Cut l feeds.more (Bad n)) (append_assoc rest first second) whole);
      frames = ap (λ (s : Stream). s.frames) feeds' ∙ feeds.frames;
    }
join_at (Bad n) (Open rest) a b c first second was is feeds feeds' =
    let bad : Bad n ≡ Open rest = sym was ∙ ap (λ (s : Stream). s.end) (sym feeds) ∙ is in
    absurd (cc)
join_at (Bad n) (Bad m) a b c first second was is feeds feeds' = feeds' ∙ feeds

pub pieces_join : PiecesJoin
pieces_join a b c first second feeds feeds' = join_at a.end b.end a b c first second refl refl feeds feeds'
