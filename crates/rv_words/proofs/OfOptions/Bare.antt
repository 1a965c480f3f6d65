-- What clap makes of words that name nothing but an address.
use Rattle.std.proofs.Common.{◌≡◌, ◌∙◌, ◌∷◌, [], ap, arith, Bool, Bor, codes, false, get_or, List, lit<, lit≤}
use Rattle.std.proofs.Common.{None, Option}
use Rattle.std.proofs.Common.{option_map, refl, Some, subst, sym, true, ℕ}
use Rattle.std.proofs.lemmas.Option.{same_Some}
use Rattle.std.specs.Option.{IsSomeAnd}
use Rattle.std.specs.Str.Parse.{digits_value, without_leading_plus}
use Rattle.clap.proofs.OnLiterals.{clap_on_literals}
use Rattle.clap.specs.Words.{Row, Text, fault_of, first_of, matches_of}
use Rattle.clap.specs.declared.builder.value_parser.Reading.TheVariants.{AsWritten}
use Rattle.clap.specs.declared.parser.matches.ValueSource.{ValueSource}
use Rattle.clap.specs.declared.parser.matches.ValueSource.TheVariants.{CommandLine, DefaultValue}
use Rattle.rv_words.specs.options.Laws.{BareAlone, BareAreNamed, bare_words}
use Rattle.rv_words.specs.options.Words.{host_app}
use Rattle.rv_words.specs.options.Options.{SaysFlag, SaysOptions}
use Rattle.rv_words.specs.options.Epochs.{SaysRule}
use Rattle.rv_words.specs.options.Numbers.{GivesNumber, WritesWithin, given_for}
use Rattle.rv_words.specs.declared.options.epoch.EpochRule.{EpochRule}
use Rattle.rv_words.specs.declared.options.epoch.EpochRule.TheVariants.{Above, Clock, Exactly}
use Rattle.rv_words.specs.declared.options.number.HostNumber.{HostNumber}
use Rattle.rv_words.specs.declared.options.number.HostNumber.TheVariants as number

-- a row with one value
abbrev row : Text → ValueSource → Text → Row
row name source value = record {
  id = name;
  values = value ∷ [];
  count = None;
  source = Some source;
  reading = AsWritten;
}

-- the address, and then each default in the order of the options
abbrev rows : List Row
rows = row (codes "listen") CommandLine (codes "127.0.0.1:7411")
    ∷ row (codes "new-epoch") DefaultValue (codes "false")
    ∷ row (codes "no-sync") DefaultValue (codes "false")
    ∷ row (codes "clients") DefaultValue (codes "65536")
    ∷ row (codes "open") DefaultValue (codes "100000")
    ∷ row (codes "connections") DefaultValue (codes "10000")
    ∷ row (codes "connections-from") DefaultValue (codes "1000000")
    ∷ row (codes "memory") DefaultValue (codes "256")
    ∷ row (codes "idle") DefaultValue (codes "3600")
    ∷ row (codes "stall") DefaultValue (codes "30")
    ∷ row (codes "quiet") DefaultValue (codes "false")
    ∷ []

-- what clap finds, evaluated once
found : matches_of host_app bare_words ≡ rows
unfolding clap_on_literals
found = refl

taken : fault_of host_app bare_words ≡ []
unfolding clap_on_literals
taken = refl

clients_written : WritesWithin number.Clients (codes "65536") 65536
clients_written = record {
  digits = (lit< tt, (lit< tt, (lit< tt, (lit< tt, (lit< tt, (lit< tt, tt))))));
  of_number = refl;
  fits = (lit≤ tt, lit≤ tt);
}

open_written : WritesWithin number.Open (codes "100000") 100000
open_written = record {
  digits = (lit< tt, (lit< tt, (lit< tt, (lit< tt, (lit< tt, (lit< tt, (lit< tt, tt)))))));
  of_number = refl;
  fits = (lit≤ tt, lit≤ tt);
}

connections_written : WritesWithin number.Connections (codes "10000") 10000
connections_written = record {
  digits = (lit< tt, (lit< tt, (lit< tt, (lit< tt, (lit< tt, (lit< tt, tt))))));
  of_number = refl;
  fits = (lit≤ tt, lit≤ tt);
}

from_written : WritesWithin number.ConnectionsFrom (codes "1000000") 1000000
from_written = record {
  digits = (lit< tt, (lit< tt, (lit< tt, (lit< tt, (lit< tt, (lit< tt, (lit< tt, (lit< tt, tt))))))));
  of_number = refl;
  fits = (lit≤ tt, lit≤ tt);
}

memory_written : WritesWithin number.Memory (codes "256") 256
memory_written = record {
  digits = (lit< tt, (lit< tt, (lit< tt, (lit< tt, tt))));
  of_number = refl;
  fits = (lit≤ tt, lit≤ tt);
}

idle_written : WritesWithin number.Idle (codes "3600") 3600
idle_written = record {
  digits = (lit< tt, (lit< tt, (lit< tt, (lit< tt, (lit< tt, tt)))));
  of_number = refl;
  fits = (lit≤ tt, lit≤ tt);
}

stall_written : WritesWithin number.Stall (codes "30") 30
stall_written = record {
  digits = (lit< tt, (lit< tt, (lit< tt, tt)));
  of_number = refl;
  fits = (lit≤ tt, lit≤ tt);
}

-- a number that is written after an option is what the option gives, and it gives no other
given : (option : HostNumber) (r : List Row) (text : Text) (m n : ℕ) → given_for option r ≡ Some text
    → WritesWithin option text m → n ≡ m → GivesNumber option r n
given option r text m n is written same =
    subst (λ (value : Option Text). IsSomeAnd value (λ t. WritesWithin option t n)) (sym is)
    (subst (λ (k : ℕ). WritesWithin option text k) (sym same) written)

given_alone : (option : HostNumber) (r : List Row) (text : Text) (n : ℕ) → given_for option r ≡ Some text
    → GivesNumber option r n → n ≡ digits_value 10 (without_leading_plus text)
given_alone option r text n is gives =
    let written : WritesWithin option text n =
    subst (λ (value : Option Text). IsSomeAnd value (λ t. WritesWithin option t n)) is gives in
    sym written.of_number

none_given : (option : HostNumber) (r : List Row) (n : ℕ) → given_for option r ≡ None → GivesNumber option r n
    → ⊥
none_given option r n is gives =
    subst (λ (value : Option Text). IsSomeAnd value (λ t. WritesWithin option t n)) is gives

-- the flag's value is `true` or it isn't
abbrev first_byte : Option Text → ℕ
first_byte None = 0
first_byte (Some text) = get_or text 0 0

no_flag : (value : Option Text) → value ≡ Some (codes "false") → value ≡ Some (codes "true") → ⊥
no_flag value false_is true_is =
    let bytes : 116 ≡ 102 = ap first_byte (sym true_is ∙ false_is) in
    absurd (omega (arith, bytes))

true_flag : (flag : Bool) → (flag ≡ true → ⊥) → flag ≡ false
true_flag true never = absurd (never refl)
true_flag false never = refl

false_flag : (flag : Bool) → flag ≡ false → flag ≡ true → ⊥
false_flag flag is not_false = absurd (cc)

unset : (flag : Bool) (word : Text) → flag ≡ false → first_of word rows ≡ Some (codes "false")
    → SaysFlag rows word flag
unset flag word is row = (λ set. absurd (false_flag flag is set), λ has. absurd (no_flag _ row has))

no_text : (text : Option (Bor Text)) → None ≡ option_map (λ t. t.now) text → text ≡ None
no_text None is = refl
no_text (Some t) is = absurd (cc)

by_clock : (rule : EpochRule) → SaysRule rows rule → rule ≡ Clock
by_clock Clock says = refl
by_clock (Exactly e) says = absurd (none_given number.Epoch rows e refl says.0)
by_clock (Above n) says = absurd (none_given number.EpochAbove rows n refl says.1)

pub bare_named : BareAreNamed
bare_named options bare = record {
  taken = taken;
  said = subst (λ (r : List Row). SaysOptions r options) (sym found) record {
    listens = ap Some (sym bare.listens);
    keeps = ap (option_map (λ (f : Bor Text). f.now)) (sym bare.keeps_none);
    stores = ap (option_map (λ (f : Bor Text). f.now)) (sym bare.stores_none);
    one_account = λ _. bare.stores_none;
    tells = ap (option_map (λ (t : Bor Text). t.now)) (sym bare.tells_none);
    tells_as = ap (option_map (λ (t : Bor Text). t.now)) (sym bare.tells_as_none);
    in_epoch = subst (λ (rule : EpochRule). SaysRule rows rule) (sym bare.by_clock) (refl, refl);
    begins = unset options.new_epoch (codes "new-epoch") bare.begins_none refl;
    unsynced = unset options.no_sync (codes "no-sync") bare.syncs refl;
    in_store = record {
      begins = λ set. absurd (false_flag options.new_epoch bare.begins_none set);
      unsynced = λ set. absurd (false_flag options.no_sync bare.syncs set);
    };
    boots = ap (option_map (λ (b : Bor Text). b.now)) (sym bare.boots_none);
    limits = record {
      clients = given number.Clients rows (codes "65536") 65536 options.limits.clients refl clients_written
          bare.clients;
      opens = given number.Open rows (codes "100000") 100000 options.limits.open_places refl open_written
          bare.opens;
      connects = given number.Connections rows (codes "10000") 10000 options.limits.connections refl
          connections_written bare.connects;
      connects_from = given number.ConnectionsFrom rows (codes "1000000") 1000000
          options.limits.connections_from refl from_written bare.connects_from;
      holds = given number.Memory rows (codes "256") 256 options.limits.memory refl memory_written bare.holds;
      idles = given number.Idle rows (codes "3600") 3600 options.limits.idle refl idle_written bare.idles;
      stalls = given number.Stall rows (codes "30") 30 options.limits.stall refl stall_written bare.stalls;
    };
    is_quiet = unset options.quiet (codes "quiet") bare.speaks refl;
  };
}

pub bare_alone : BareAlone
bare_alone options named =
    let said = subst (λ (r : List Row). SaysOptions r options) found named.said in
    record {
      listens = same_Some _ _ (sym said.listens);
      by_clock = by_clock options.epoch said.in_epoch;
      begins_none = true_flag options.new_epoch (λ set. no_flag _ refl (said.begins.0 set));
      syncs = true_flag options.no_sync (λ set. no_flag _ refl (said.unsynced.0 set));
      boots_none = no_text options.boot (said.boots);
      keeps_none = no_text options.account (said.keeps);
      stores_none = no_text options.store (said.stores);
      tells_none = no_text options.status (said.tells);
      tells_as_none = no_text options.status_names (said.tells_as);
      clients = given_alone number.Clients rows (codes "65536") options.limits.clients refl
          said.limits.clients;
      opens = given_alone number.Open rows (codes "100000") options.limits.open_places refl said.limits.opens;
      connects = given_alone number.Connections rows (codes "10000") options.limits.connections refl
          said.limits.connects;
      connects_from = given_alone number.ConnectionsFrom rows (codes "1000000")
          options.limits.connections_from refl said.limits.connects_from;
      holds = given_alone number.Memory rows (codes "256") options.limits.memory refl said.limits.holds;
      idles = given_alone number.Idle rows (codes "3600") options.limits.idle refl said.limits.idles;
      stalls = given_alone number.Stall rows (codes "30") options.limits.stall refl said.limits.stalls;
      speaks = true_flag options.quiet (λ set. no_flag _ refl (said.is_quiet.0 set));
    }
