-- The texts of lines: what they are, and that they are short.
use Rattle.std.proofs.Common.{◌≡◌, ◌<◌, ◌≤◌, ◌^◌, ◌+◌, ◌*◌, ℕ, List, [], ◌∷◌, ◌++◌, append-nil, drop, get_or}
use Rattle.std.proofs.Common.{IfSome, suc, refl, ap, sym, ◌∙◌, append_assoc, arith, length, length-append}
use Rattle.std.proofs.Common.{codes}
use Rattle.std.specs.Fmt.{decimal}
use Rattle.std.proofs.lemmas.Fmt.{length-decimal-le}
use Rattle.std.proofs.lemmas.List.{drop_all, drop_more}
use Rattle.rv_text.specs.Limits.{FitsMessage}
use Rattle.rv_account.specs.declared.entry.Act.{Act}
use Rattle.rv_account.specs.declared.entry.Act.TheVariants as act
use Rattle.rv_account.specs.declared.entry.Entry.{Entry}
use Rattle.rv_account.specs.Account.{Among}
use Rattle.rv_account.specs.Limits.{FitsAct}
use Rattle.rv_book.specs.lines.EntryText.{FitPartners, entry_text, head_text, max_partner, max_partners}
use Rattle.rv_book.specs.lines.EntryText.{message_in, partners_text, places_text, said_text}

-- ---- the first line

pub parts_joined : (line behind epoch rest opened : List ℕ) → line ≡ codes "epoch " ++ behind
    → behind ≡ epoch ++ 32 ∷ rest → rest ≡ codes "opened " ++ opened
    → line ≡ codes "epoch " ++ epoch ++ codes " opened " ++ opened
parts_joined line behind epoch rest opened is is' is'' =
    is ∙ ap (λ b. codes "epoch " ++ b) (is' ∙ ap (λ r. epoch ++ 32 ∷ r) is'')
    ∙ sym (append_assoc (codes "epoch ") epoch (codes " opened " ++ opened))
    ∙ sym (append_assoc (codes "epoch " ++ epoch) (codes " opened ") opened)

pub head_text_is : (text : List ℕ) (epoch opened : ℕ)
    → text ≡ codes "epoch " ++ (decimal epoch ++ (codes " opened " ++ decimal opened))
    → text ≡ head_text epoch opened
head_text_is text epoch opened is =
    parts_joined text (decimal epoch ++ (codes " opened " ++ decimal opened)) (decimal epoch)
    (codes "opened " ++ decimal opened) (decimal opened) is refl refl

pub head_is_short : (text : List ℕ) (epoch opened : ℕ)
    → text ≡ codes "epoch " ++ (decimal epoch ++ (codes " opened " ++ decimal opened)) → epoch < 2 ^ 64
    → opened < 2 ^ 64 → length text < 65727
head_is_short text epoch opened is small small' =
    omega (
      arith,
      ap length is,
      length-append (decimal epoch) (codes " opened " ++ decimal opened),
      length-append (codes " opened ") (decimal opened),
      length-decimal-le 20 epoch (omega arith) (omega arith) small,
      length-decimal-le 20 opened (omega arith) (omega arith) small',
    )

-- ---- partners

-- each of the places is at most this
abbrev pub AllUpTo : ℕ → List ℕ → Type 0
AllUpTo most places = (p : ℕ) → Among places p → p ≤ most

pub up_to_behind : (most place : ℕ) (more : List ℕ) → AllUpTo most (place ∷ more) → AllUpTo most more
up_to_behind most place more small p among = small p (suc among.0, among.1)

-- each of these places after a comma
abbrev pub more_text : List ℕ → List ℕ
more_text [] = []
more_text (place ∷ more) = 44 ∷ decimal place ++ more_text more

pub places_text_is : (place : ℕ) (more : List ℕ) → places_text place more ≡ decimal place ++ more_text more
places_text_is place [] = sym (append-nil (decimal place))
places_text_is place (next ∷ more) = ap (λ later. decimal place ++ 44 ∷ later) (places_text_is next more)

-- one more place was written
pub place_written : (all before after : List ℕ) (more : List ℕ) (i d : ℕ) → i < length more
    → all ≡ before ++ more_text (drop i more) → after ≡ before ++ 44 ∷ decimal (get_or more i d)
    → all ≡ after ++ more_text (drop (i + 1) more)
place_written all before after more i d inside so_far is =
    so_far ∙ ap (λ rest. before ++ more_text rest) (drop_more more i d inside)
    ∙ sym (append_assoc before (44 ∷ decimal (get_or more i d)) (more_text (drop (i + 1) more)))
    ∙ ap (λ text. text ++ more_text (drop (i + 1) more)) (sym is)

pub places_written : (all text : List ℕ) (more : List ℕ) (i : ℕ) → length more ≤ i
    → all ≡ text ++ more_text (drop i more) → text ≡ all
places_written all text more i ended so_far = sym (so_far ∙ ap (λ rest. text ++ more_text rest)
    (drop_all i more ended) ∙ append-nil text)

places_short : (place : ℕ) (more : List ℕ) → AllUpTo max_partner (place ∷ more)
    → length (places_text place more) ≤ 5 + 6 * length more
places_short place [] small = omega (
  arith,
  length-decimal-le 5 place (omega arith)
      (omega (arith, small place (0, refl))) (omega (arith, small place (0, refl))),
)
places_short place (next ∷ more) small =
    omega (
      arith,
      length-append (decimal place) (44 ∷ places_text next more),
      length-decimal-le 5 place (omega arith) (omega (arith, small place (0, refl)))
          (omega (arith, small place (0, refl))),
      places_short next more (up_to_behind max_partner place (next ∷ more) small),
    )

partners_short : (partners : List ℕ) → AllUpTo max_partner partners → length partners ≤ max_partners
    → length (partners_text partners) ≤ 96
partners_short [] small few = omega arith
partners_short (place ∷ more) small few = omega (arith, few, places_short place more small)

-- ---- an entry

pub message_fits : (act : Act) → FitsAct act → IfSome (message_in act) FitsMessage
message_fits (act.Hello client incarnation version) fits = fits
message_fits (act.Arrive key call) fits = fits
message_fits (act.Cancel key) fits = fits
message_fits act.Tick fits = tt

pub entry_text_is : (e : Entry) (text partners act : List ℕ)
    → text ≡ decimal e.moment ++ 32 ∷ (partners ++ 32 ∷ act) → partners ≡ partners_text e.partners
    → act ≡ said_text (message_in e.act) → text ≡ entry_text e
entry_text_is e text partners act is same same' =
    is ∙ (λ i. decimal e.moment ++ 32 ∷ (same i ++ 32 ∷ same' i)) ∙ sym (append_assoc (decimal e.moment)
    (32 ∷ partners_text e.partners) (32 ∷ said_text (message_in e.act)))

pub entry_is_short : (e : Entry) (text partners act : List ℕ)
    → text ≡ decimal e.moment ++ 32 ∷ (partners ++ 32 ∷ act) → e.moment < 2 ^ 64
    → partners ≡ partners_text e.partners → FitPartners e → length act ≤ 65535
    → length text < 65727
entry_is_short e text partners act is small same fits few =
    omega (
      arith,
      ap length is,
      length-append (decimal e.moment) (32 ∷ (partners ++ 32 ∷ act)),
      length-append partners (32 ∷ act),
      length-decimal-le 20 e.moment (omega arith) (omega arith) small,
      ap length same,
      partners_short e.partners fits.places fits.few,
    )
