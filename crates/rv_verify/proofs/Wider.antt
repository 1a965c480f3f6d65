-- What is read as an entry by an audit's limits is so by longer ones.
use Rattle.std.proofs.Common.{◌∷◌, ℕ, List, [], arith}
use Rattle.std.specs.List.{AllZip}
use Rattle.rv_account.specs.declared.entry.Entry.{Entry}
use Rattle.rv_book.specs.lines.Reading.{ReadsEntry, SaysPartnersUpTo, SaysPlacesUpTo}
use Rattle.rv_text.specs.Members.{max_identifier}
use Rattle.rv_verify.specs.Verdicts.{ReadsLongEntry}

places_wider : (field : List ℕ) (place : ℕ) (more : List ℕ) → SaysPlacesUpTo 99999 field place more
    → SaysPlacesUpTo max_identifier field place more
places_wider field place [] says = (says.0, omega (arith, says.1))
places_wider field place (other ∷ more) says = (
  says.0,
  says.1,
  says.2,
  (says.3.0, omega (arith, says.3.1)),
  places_wider says.1 other more says.4,
)

partners_wider : (field partners : List ℕ) → SaysPartnersUpTo 99999 field partners
    → SaysPartnersUpTo max_identifier field partners
partners_wider field [] says = says
partners_wider field (place ∷ more) says = places_wider field place more says

pub entry_wider : (line : List ℕ) (e : Entry) → ReadsEntry line e → ReadsLongEntry line e
entry_wider line e reads = record {
  act_field = reads.act_field;
  fields = record {
    partners_field = reads.fields.partners_field;
    cut = reads.fields.cut;
    says_partners = partners_wider reads.fields.partners_field e.partners reads.fields.says_partners;
  };
  says_act = reads.says_act;
}

pub entries_wider : (lines : List (List ℕ)) (es : List Entry) → AllZip ReadsEntry lines es
    → AllZip ReadsLongEntry lines es
entries_wider [] [] reads = tt
entries_wider [] (e ∷ es) reads = absurd reads
entries_wider (line ∷ lines) [] reads = absurd reads
entries_wider (line ∷ lines) (e ∷ es) reads = (entry_wider line e reads.0, entries_wider lines es reads.1)
