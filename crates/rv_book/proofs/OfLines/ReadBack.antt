-- What is written for an account is read as that account.
use Rattle.std.proofs.Common.{◌≡◌, ◌≤◌, ◌<◌, ◌^◌, ℕ, suc, List, [], ◌∷◌, Option, Some, None, IfSome, map}
use Rattle.std.proofs.Common.{refl, ap, ◌∙◌, arith}
use Rattle.std.specs.Prelude.{slice_get}
use Rattle.std.specs.List.{AllZip}
use Rattle.std.specs.Fmt.{decimal}
use Rattle.std.proofs.lemmas.List.{length-map}
use Rattle.rv_text.specs.declared.message.Message.{Message}
use Rattle.rv_text.specs.Limits.{FitsMessage}
use Rattle.rv_text.specs.Members.{max_identifier}
use Rattle.rv_text.proofs.Written.{written_body}
use Rattle.rv_account.specs.Account.{Account}
use Rattle.rv_account.specs.declared.entry.Entry.{Entry}
use Rattle.rv_book.specs.Limits.{FitsEntry}
use Rattle.rv_book.specs.Steps.{max_moment}
use Rattle.rv_book.proofs.OfLines.Texts.{AllUpTo, message_fits, up_to_behind}
use Rattle.rv_book.specs.lines.Laws.{WrittenLines}
use Rattle.rv_book.specs.lines.Lines.{lines, printed_lines}
use Rattle.rv_text.specs.Number.{WritesUpTo}
use Rattle.rv_book.specs.lines.EntryText.{FitPlacesUpTo}
use Rattle.rv_book.specs.lines.Reading.{LineLimits, ReadsEntryUpTo, SaysMessage, SaysPartnersUpTo}
use Rattle.rv_book.specs.lines.Reading.{SaysPlacesUpTo}
use Rattle.rv_book.specs.lines.Written.{FitsLinesUnder, account_lines, entry_text, head_text, message_in}
use Rattle.rv_book.specs.lines.Written.{partners_text, places_text, said_text}
use Rattle.rv_book.proofs.OfLines.Cutting.{Lacks, lines_cut}
use Rattle.rv_book.proofs.OfLines.OneLine.{entry_in_one_line, head_in_one_line, partners_lack}
use Rattle.rv_book.proofs.OfLines.Plain.{decimal_is_plain}

-- ---- one line

written_up_to : (most n : ℕ) → n ≤ most → most < 10 ^ 19 → WritesUpTo most (decimal n) n
written_up_to most n within small = (decimal_is_plain n (omega arith), within)

written_message : (said : Option Message) → IfSome said FitsMessage → SaysMessage (said_text said) said
written_message None fits = refl
written_message (Some m) fits = written_body m fits

-- no line has an LF
abbrev pub AllLines : List (List ℕ) → Type 0
AllLines [] = Unit {0}
AllLines (text ∷ texts) = Lacks 10 text × AllLines texts

module _ (most : ℕ) (most_fits : most < 10 ^ 19) where
  written_places : (place : ℕ) (more : List ℕ) → AllUpTo most (place ∷ more)
      → SaysPlacesUpTo most (places_text place more) place more
  written_places place [] small = written_up_to most place (small place (0, refl)) most_fits
  written_places place (next ∷ more) small = (
    decimal place,
    places_text next more,
    refl,
    written_up_to most place (small place (0, refl)) most_fits,
    written_places next more (up_to_behind most place (next ∷ more) small),
  )

  written_partners : (partners : List ℕ) → AllUpTo most partners
      → SaysPartnersUpTo most (partners_text partners) partners
  written_partners [] small = refl
  written_partners (place ∷ more) small = written_places place more small

  pub written_entry : (e : Entry) → FitsEntry e → FitPlacesUpTo most e → ReadsEntryUpTo most (entry_text e) e
  written_entry e fits small = record {
    act_field = said_text (message_in e.act);
    fields = record {
      partners_field = partners_text e.partners;
      cut = record {
        moment_field = decimal e.moment;
        parts = refl;
        says_moment = written_up_to max_moment e.moment fits.0 (omega arith);
        no_space = partners_lack 32 most (omega arith) (omega (arith, most_fits)) e.partners small;
      };
      says_partners = written_partners e.partners small;
    };
    says_act = written_message (message_in e.act) (message_fits e.act fits.1);
  }

  -- ---- all lines

  -- what is needed of an entry
  record CanBeRead (e : Entry) : Type 0 where
    pub fits : FitsEntry e
    pub small : FitPlacesUpTo most e

  abbrev Each : List Entry → Type 0
  Each entries = (r : ℕ) (e : Entry) → slice_get entries r ≡ Some e → CanBeRead e

  written_entries : (entries : List Entry) → Each entries
      → AllZip (ReadsEntryUpTo most) (map entry_text entries) entries
  written_entries [] each = tt
  written_entries (e ∷ entries) each =
      let here = each 0 e refl in
      (written_entry e here.fits here.small, written_entries entries (λ r x there. each (suc r) x there))

  entries_in_lines : (entries : List Entry) → Each entries → AllLines (map entry_text entries)
  entries_in_lines [] each = tt
  entries_in_lines (e ∷ entries) each =
      let here = each 0 e refl in (
        entry_in_one_line most (omega (arith, most_fits)) e here.fits here.small,
        entries_in_lines entries (λ r x there. each (suc r) x there),
      )

-- lines without LF are cut where they were joined
pub cut_again : (texts : List (List ℕ)) → AllLines texts → lines (printed_lines texts) ≡ texts
cut_again [] all = refl
cut_again (text ∷ texts) all = lines_cut text (printed_lines texts) all.0 ∙ ap (λ later. text ∷ later)
    (cut_again texts all.1)

module _ (limits : LineLimits) (small : limits.greatest_place ≤ max_identifier) (a : Account)
    (fits : FitsLinesUnder limits a) where
  each_fits : Each limits.greatest_place (omega (arith, small)) a.entries
  each_fits r e there = record { fits = fits.entries r e there; small = fits.places r e there }

  pub all_in_lines : AllLines (account_lines a)
  all_in_lines = (
    head_in_one_line a.epoch a.opened (omega (arith, fits.epoch.1)) (omega (arith, fits.opened)),
    entries_in_lines limits.greatest_place (omega (arith, small)) a.entries each_fits,
  )

pub lines_again : WrittenLines
lines_again limits a small fits = record {
  head = head_text a.epoch a.opened;
  rest = map entry_text a.entries;
  parts = cut_again (account_lines a) (all_in_lines limits small a fits);
  says_head = record {
    epoch_field = decimal a.epoch;
    opened_field = decimal a.opened;
    parts = refl;
    says_epoch = decimal_is_plain a.epoch (omega (arith, fits.epoch.1));
    epoch_fits = fits.epoch;
    says_opened = written_up_to max_moment a.opened fits.opened (omega arith);
  };
  says_entries = record {
    one_by_one = written_entries limits.greatest_place (omega (arith, small)) a.entries
        (each_fits limits small a fits);
    not_too_many = omega (arith, length-map a.entries entry_text, fits.few);
  };
}
