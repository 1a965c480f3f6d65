-- A legal account of few entries has had room: no more is open than there are entries, nor are there more
-- clients.
use Rattle.std.proofs.Common.{◌≡◌, ◌≤◌, ◌+◌, ◌-◌, ◌∷◌, ℕ, zero, suc, List, [], Option, None, Some, is_some}
use Rattle.std.proofs.Common.{length, length-take, refl, sym, subst, arith, slice_get}
use Rattle.std.specs.Prelude.{unwrap_or}
use Rattle.std.specs.FinMap.{len, len-empty}
use Rattle.std.specs.Ordering.{nat_cmp}
use Rattle.std.specs.List.{AllZip, fold}
use Rattle.std.proofs.lemmas.Option.{none-some}
use Rattle.rv_account.specs.Account.{Account, moment_at}
use Rattle.rv_account.specs.Limits.{FitEntries, FitsEntry, max_moment}
use Rattle.rv_account.specs.declared.entry.Act.{Act}
use Rattle.rv_account.specs.declared.entry.Act.TheVariants.{Arrive, Cancel, Hello, Tick}
use Rattle.rv_account.specs.declared.entry.Entry.{Entry}
use Rattle.rv_book.specs.lines.Reading.{ReadsAccount, ReadsEntry}
use Rattle.rv_account.specs.rules.Legal.{Legal, before}
use Rattle.rv_account.specs.rules.Waiting.{Open}
use Rattle.rv_account.proofs.OfRules.Counting.{number_below}
use Rattle.rv_account.proofs.OfRules.Fronts.{Legal-before, read_whole}
use Rattle.rv_account.proofs.OfRules.Growing.{call_read, reads_within}
use Rattle.rv_account.specs.state.After.{acted, state_after, state_of}
use Rattle.rv_account.specs.state.State.{ClientState, OpenPlace, State, opening, waiting_count}
use Rattle.rv_account.proofs.OfState.Agreed.{agreed}
use Rattle.rv_account.proofs.OfState.Counted.{open_number}
use Rattle.rv_account.proofs.OfState.Filtered.{mapped_there}
use Rattle.rv_account.proofs.OfState.Words.{same_Some}
use Rattle.rv_account.specs.state.resume.Resuming.{StaysInRoom}
use Rattle.rv_account.proofs.OfState.Resumed.Alone.{filter_short}
use Rattle.rv_account.proofs.OfState.Resumed.Counts.{arrived_len, cancelled_len, greeted_len, ticked_len}
use Rattle.rv_verify.specs.Laws.{LegalHadRoom}
use Rattle.rv_verify.specs.Verdicts.{ReadsLongEntry}
use Rattle.rv_verify.proofs.Passing.{entry_fits}
use Rattle.rv_verify.proofs.Wider.{entries_wider}

-- ---- clients

acted_len : (s : State) (moment : ℕ) (does : Act)
    → len (acted s moment does).after.clients ≤ len s.clients + 1
acted_len s moment (Hello client incarnation version) =
    greeted_len s moment client incarnation version (len s.clients + 1) (omega arith) (λ unknown. omega arith)
acted_len s moment (Arrive key call) = let same = arrived_len s moment key call in omega (arith, same)
acted_len s moment (Cancel key) = let same = cancelled_len s moment key in omega (arith, same)
acted_len s moment Tick = let same = ticked_len s moment in omega (arith, same)

-- an entry makes one client more at most
clients_most : (es : List Entry) (s : State) → len (fold state_after s es).clients ≤ len s.clients + length es
clients_most [] s = omega arith
clients_most (e ∷ es) s =
    let rest = clients_most es (state_after s e) in
    let one : len (state_after s e).clients ≤ len s.clients + 1 = acted_len s e.moment e.act in
    omega (arith, rest, one)

no_clients : (epoch opened : ℕ) → len (opening epoch opened).clients ≡ 0
no_clients epoch opened = len-empty nat_cmp ClientState

-- ---- moments

moment_fits : (a : Account) → a.opened ≤ max_moment → FitEntries a.entries → (r : ℕ) (o : Option ℕ)
    → moment_at a.entries r ≡ o → unwrap_or o a.opened ≤ max_moment
moment_fits a opened fit r None is = opened
moment_fits a opened fit r (Some moment) is =
    let found = mapped_there (λ (e : Entry). e.moment) (slice_get a.entries r) moment is in
    subst (λ n. n ≤ max_moment) found.2 (fit r found.0 found.1).0

-- ---- room

small_room : (a : Account) → Legal a → a.opened ≤ max_moment → FitEntries a.entries
    → length a.entries ≤ 100000
    → StaysInRoom (state_of a)
small_room a legal opened fit few =
    let state = agreed a legal in
    let long : (state_of a).length ≡ length a.entries = state.length in
    let waiting : waiting_count (state_of a) ≤ length (state_of a).open_places =
    filter_short (λ (o : OpenPlace). is_some o.waiter) (state_of a).open_places in
    let places : length (state_of a).open_places ≤ length a.entries =
    number_below (Open a.entries) (length (state_of a).open_places) (length a.entries)
    (λ r opened. reads_within call_read refl a.entries r opened.call opened.arrived)
    (open_number a (state_of a) state) in
    let clients : len (state_of a).clients ≤ len (opening a.epoch a.opened).clients + length a.entries =
    clients_most a.entries (opening a.epoch a.opened) in
    let none = no_clients a.epoch a.opened in
    record {
      time = subst (λ n. n ≤ max_moment) (sym state.moment)
          (moment_fits a opened fit (length a.entries - 1) _ refl);
      space = omega (arith, long, waiting, places, few);
      clients = omega (arith, clients, none, few);
      places = omega (arith, places, few);
    }

pub front_room : (a : Account) (j : ℕ) → Legal (before a j) → a.opened ≤ max_moment → FitEntries a.entries
    → length a.entries ≤ 100000 → StaysInRoom (state_of (before a j))
front_room a j legal opened fit few =
    small_room (before a j) legal opened
    (λ r e at. fit r e (read_whole (λ (o : Option Entry). o) refl a.entries j r e at).1)
    (omega (arith, few, length-take j a.entries))

-- ---- what is read

fit_all : (lines : List (List ℕ)) (es : List Entry) → AllZip ReadsLongEntry lines es → FitEntries es
fit_all [] [] reads r e at = absurd (none-some e at)
fit_all [] (x ∷ es) reads r e at = absurd reads
fit_all (line ∷ lines) [] reads r e at = absurd reads
fit_all (line ∷ lines) (x ∷ es) reads zero e at =
    subst FitsEntry (same_Some _ _ at) (entry_fits line x reads.0)
fit_all (line ∷ lines) (x ∷ es) reads (suc r) e at = fit_all lines es reads.1 r e at

pub entries_fit : (lines : List (List ℕ)) (a : Account) → ReadsAccount lines a → FitEntries a.entries
entries_fit lines a reads =
    fit_all reads.rest a.entries (entries_wider reads.rest a.entries reads.says_entries.one_by_one)

as_many : (lines : List (List ℕ)) (es : List Entry) → AllZip ReadsEntry lines es → length es ≤ length lines
as_many [] [] reads = omega arith
as_many [] (e ∷ es) reads = absurd reads
as_many (line ∷ lines) [] reads = absurd reads
as_many (line ∷ lines) (e ∷ es) reads = let rest = as_many lines es reads.1 in omega (arith, rest)

pub few_entries : (lines : List (List ℕ)) (a : Account) → ReadsAccount lines a → length a.entries ≤ 100000
few_entries lines a reads =
    let many = as_many reads.rest a.entries reads.says_entries.one_by_one in
    let most : length reads.rest ≤ 100000 = reads.says_entries.not_too_many in
    omega (arith, many, most)

pub legal_had_room : LegalHadRoom
legal_had_room lines a reads legal = record {
  epoch = reads.says_head.epoch_fits;
  opened = reads.says_head.says_opened.1;
  entries = entries_fit lines a reads;
  room = λ j. front_room a j (Legal-before a j legal) reads.says_head.says_opened.1
      (entries_fit lines a reads) (few_entries lines a reads);
}
