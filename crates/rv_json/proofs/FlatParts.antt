-- The parts of a flat object's text.
use Rattle.std.proofs.Common.{Bool, true, false, ◌&&◌, not, eqb, leb, IsTrue, true≢false, decimal, ◌*◌, ◌^◌}
use Rattle.std.proofs.Common.{◌/◌, ◌%◌, ◌≡◌, ℕ, ◌+◌, ◌-◌, ◌<◌, ◌≤◌, List, [], ◌∷◌, ◌++◌, length, get_or, take}
use Rattle.std.proofs.Common.{drop, refl, sym, ap, ap₂, ◌∙◌, subst, arith, append_assoc, length-drop}
use Rattle.std.proofs.Common.{get_or-drop, take-append-drop, drop-drop}
use Rattle.std.proofs.lemmas.Grind.{flat_map-append}
use Rattle.std.proofs.lemmas.List.{drop_more, take_more, drop_all}
use Rattle.json.specs.Print.{escape, escape_byte, quoted}
use Rattle.std.proofs.lemmas.Bool.{eqb-false, leb-true}
use Rattle.std.proofs.lemmas.Fmt.{decimal_digit, decimal_step}
use Rattle.json.proofs.Printed.Strings.{escape_byte_plain}
use Rattle.rv_json.specs.declared.flat.FlatMember.{FlatMember}
use Rattle.rv_json.specs.Scan.{field_text, each_text, FitsPlain, FitEach}

-- a place is the byte there, in front of the rest
pub byte_here : (d : List ℕ) (at x : ℕ) → at < length d → get_or d at 0 ≡ x → drop at d ≡ x ∷ drop (at + 1) d
byte_here d at x within is = drop_more d at 0 within ∙ ap (λ y. y ∷ drop (at + 1) d) is

pub range_here : (d : List ℕ) (from to : ℕ) → from ≤ to → drop from d
    ≡ take (to - from) (drop from d) ++ drop to d
range_here d from to le =
    let whole : from + (to - from) ≡ to = omega arith in
    sym (take-append-drop (to - from) (drop from d))
    ∙ ap (λ l. take (to - from) (drop from d) ++ l) (drop-drop (to - from) from d ∙ ap (λ k. drop k d) whole)

pub take_longer : (d : List ℕ) (from at : ℕ) → from ≤ at → at < length d
    → take (at + 1 - from) (drop from d) ≡ take (at - from) (drop from d) ++ get_or d at 0 ∷ []
take_longer d from at le within =
    let k = at - from in
    let next : at + 1 - from ≡ k + 1 = omega arith in
    let place : from + k ≡ at = omega arith in
    let byte : get_or (drop from d) k 0 ≡ get_or d at 0 = get_or-drop from d k 0
    ∙ ap (λ i. get_or d i 0) place in
    ap (λ n. take n (drop from d)) next
    ∙ take_more (drop from d) k 0 (omega (arith, length-drop from d))
    ∙ ap (λ x. take k (drop from d) ++ x ∷ []) byte

grown : (xs : List ℕ) (x : ℕ) → escape xs ≡ xs → escape_byte x ≡ x ∷ [] → escape (xs ++ x ∷ []) ≡ xs ++ x ∷ []
grown xs x same is = flat_map-append escape_byte xs (x ∷ []) ∙ ap₂ (λ a b. a ++ (b ++ [])) same is

pub plain_more : (d : List ℕ) (from at : ℕ) → from ≤ at → at < length d
    → escape_byte (get_or d at 0) ≡ get_or d at 0 ∷ []
    → escape (take (at - from) (drop from d)) ≡ take (at - from) (drop from d)
    → escape (take (at + 1 - from) (drop from d)) ≡ take (at + 1 - from) (drop from d)
plain_more d from at le within is same =
    subst (λ l. escape l ≡ l) (sym (take_longer d from at le within)) (grown (take (at - from)
    (drop from d)) (get_or d at 0) same is)

-- a text between quotes
pub quoted_here : (d s : List ℕ) (at from end after : ℕ) → drop at d ≡ 34 ∷ drop from d → from ≤ end
    → drop end d ≡ 34 ∷ drop after d → s ≡ take (end - from) (drop from d) → escape s ≡ s
    → drop at d ≡ quoted s ++ drop after d
quoted_here d s at from end after first le last is same =
    first
    ∙ ap (λ l. 34 ∷ l)
    (range_here d from end le
    ∙ ap₂ (λ a b. a ++ b) (sym is ∙ sym same) last
    ∙ sym (append_assoc (escape s) (34 ∷ []) (drop after d)))

-- a member
pub field_here : (name value here colon inner after : List ℕ) → here ≡ quoted name ++ colon
    → colon ≡ 58 ∷ inner
    → inner ≡ value ++ after → here ≡ (quoted name ++ (58 ∷ value)) ++ after
field_here name value here colon inner after named parted valued =
    named ∙ ap (λ l. quoted name ++ l) (parted ∙ ap (λ l. 58 ∷ l) valued)
    ∙ sym (append_assoc (quoted name) (58 ∷ value) after)

pub each_push : (fs : List FlatMember) (f : FlatMember) → each_text (fs ++ f ∷ [])
    ≡ each_text fs ++ (field_text f ++ 44 ∷ [])
each_push [] f = refl
each_push (g ∷ fs) f = ap (λ l. field_text g ++ (44 ∷ l)) (each_push fs f)
    ∙ sym (append_assoc (field_text g) (44 ∷ each_text fs) _)

pub FitEach-push : (fs : List FlatMember) (f : FlatMember) → FitEach fs → FitsPlain f.value
    → FitEach (fs ++ f ∷ [])
FitEach-push [] f h k = (k, tt)
FitEach-push (g ∷ fs) f h k = (h.0, FitEach-push fs f h.1 k)

module _ (whole : List ℕ) (fs : List FlatMember) (f : FlatMember) (here after : List ℕ) where
  -- a member more, with its comma
  pub more_read : whole ≡ 123 ∷ (each_text fs ++ here) → here ≡ field_text f ++ (44 ∷ after)
      → whole ≡ 123 ∷ (each_text (fs ++ f ∷ []) ++ after)
  more_read before is =
      before
      ∙ ap (λ l. 123 ∷ l)
      (ap (λ l. each_text fs ++ l) (is ∙ sym (append_assoc (field_text f) (44 ∷ []) after))
      ∙ sym (append_assoc (each_text fs) (field_text f ++ 44 ∷ []) after)
      ∙ ap (λ l. l ++ after) (sym (each_push fs f)))

  -- the last one, with the bracket
  pub last_read : whole ≡ 123 ∷ (each_text fs ++ here) → here ≡ field_text f ++ (125 ∷ after)
      → whole ≡ (123 ∷ (each_text fs ++ (field_text f ++ 125 ∷ []))) ++ after
  last_read before is =
      before
      ∙ ap (λ l. 123 ∷ l)
      (ap (λ l. each_text fs ++ l) (is ∙ sym (append_assoc (field_text f) (125 ∷ []) after))
      ∙ sym (append_assoc (each_text fs) (field_text f ++ 125 ∷ []) after))

-- the last one, whose bracket is the text's end
pub last_ends : (text : List ℕ) (fs : List FlatMember) (f : FlatMember) (here : List ℕ) (after : ℕ)
    → text ≡ 123 ∷ (each_text fs ++ here) → here ≡ field_text f ++ (125 ∷ drop after text)
    → after ≡ length text → text ≡ 123 ∷ (each_text fs ++ (field_text f ++ 125 ∷ []))
last_ends text fs f here after before is ends =
    let none : drop after text ≡ [] = drop_all after text (omega arith) in
    before ∙ ap (λ l. 123 ∷ (each_text fs ++ l)) (is ∙ ap (λ l. field_text f ++ (125 ∷ l)) none)

-- ---- one byte

plain_if : (low quote back : Bool) (x : ℕ) → low ≡ leb 32 x → quote ≡ eqb x 34 → back ≡ eqb x 92
    → ((low && not quote) && not back) ≡ true → escape_byte x ≡ x ∷ []
plain_if true false false x a b d h = escape_byte_plain x (eqb-false x 34 (sym b)) (eqb-false x 92
    (sym d)) (leb-true 32 x (sym a))
plain_if true false true x a b d h = absurd (true≢false (sym h))
plain_if true true back x a b d h = absurd (true≢false (sym h))
plain_if false quote back x a b d h = absurd (true≢false (sym h))

pub plain_byte : (x : ℕ) → IsTrue ((leb 32 x && not (eqb x 34)) && not (eqb x 92)) → escape_byte x ≡ x ∷ []
plain_byte x h = plain_if (leb 32 x) (eqb x 34) (eqb x 92) x refl refl refl h

-- ---- digits

pub one_digit : (d : List ℕ) (at x : ℕ) → at < length d → get_or d at 0 ≡ 48 + x → x < 10
    → drop at d ≡ decimal x ++ drop (at + 1) d
one_digit d at x within is small = byte_here d at (48 + x) within is
    ∙ ap (λ l. l ++ drop (at + 1) d) (sym (decimal_digit x small))

pub digit_more : (d : List ℕ) (from at n x : ℕ) → at < length d → get_or d at 0 ≡ 48 + x → x < 10 → 1 ≤ n
    → n * 10 + x < 2 ^ 64
    → drop from d ≡ decimal n ++ drop at d → drop from d ≡ decimal (n * 10 + x) ++ drop (at + 1) d
digit_more d from at n x within is small some fits before =
    let all = decimal_step (n * 10 + x) (omega arith) fits in
    let tens : (n * 10 + x) / 10 ≡ n = omega arith in
    let ones : (n * 10 + x) % 10 ≡ x = omega arith in
    before ∙ ap (λ l. decimal n ++ l) (byte_here d at (48 + x) within is)
    ∙ sym (append_assoc (decimal n) ((48 + x) ∷ []) (drop (at + 1) d))
    ∙ ap (λ l. l ++ drop (at + 1) d) (sym (all ∙ ap₂ (λ a b. decimal a ++ ((48 + b) ∷ [])) tens ones))
