-- The world only grows: what was asked, held and answered stays, and so does each account.
use Rattle.rv_world.proofs.OfParts.Words.{◌≡◌, ◌∷◌, ◌++◌, ◌∙◌, inl, inr, ℕ, List, [], Option, Some, None}
use Rattle.rv_world.proofs.OfParts.Words.{refl, sym, ap, subst, Contains, Contains-append_left, Contains-push}
use Rattle.rv_world.proofs.OfParts.Words.{Contains-push_cases, Account, Outcome, Welcomed, TurnedAway}
use Rattle.rv_world.proofs.OfParts.Words.{Settled, EpochEnded, Replaced, Ignored, Process, Answer, Event}
use Rattle.rv_world.proofs.OfParts.Words.{Packet, Seen, World, accounts, empty_account, process_of}
use Rattle.rv_world.proofs.OfParts.Words.{ChangesProcess, ComesTo, StepLimits, StepsUnder, WorldBecomes}
use Rattle.rv_world.proofs.OfParts.Words.{sender, OnlyGrows, Elapses, Happening, Happens, Runs, RunsAnyhow}
use Rattle.rv_world.proofs.OfParts.Words.{TimePasses, Under, by_a_book}
use Rattle.std.proofs.Common.{append-nil}
use Rattle.std.proofs.lemmas.List.{append_assoc}
use Rattle.rv_account.specs.Account.{Extends}
use Rattle.rv_account.proofs.OfState.Extending.{extends_itself, extends_on, steps_extend_under, ticks_extend}
use Rattle.rv_world.specs.parts.Events.{ReachesServerUnder}
use Rattle.rv_world.specs.parts.Headline.{GoesOn, IsExtended}
use Rattle.rv_world.proofs.OfParts.AsHappenings.{runs_happen}
use Rattle.rv_world.specs.declared.parts.event.Event.TheVariants as event

-- ---- lists

pub goes_on_itself : {X : Type 0} (xs : List X) → GoesOn xs xs
goes_on_itself xs = record { more = []; is = sym (append-nil xs) }

pub goes_on : {X : Type 0} (xs more : List X) → GoesOn xs (xs ++ more)
goes_on xs more = record { more = more; is = refl }

pub goes_on_trans : {X : Type 0} (xs ys zs : List X) → GoesOn xs ys → GoesOn ys zs → GoesOn xs zs
goes_on_trans xs ys zs first then = record {
  more = first.more ++ then.more;
  is = then.is ∙ ap (λ list. list ++ then.more) first.is ∙ append_assoc xs first.more then.more;
}

-- ---- accounts

-- the same account is still there
pub still_there : (v : World) (a : Account) → Contains (accounts v) a → IsExtended v a
still_there v a there = record { account = a; is_there = there; extends = extends_itself a }

-- ---- together

pub grows_itself : (w : World) → OnlyGrows w w
grows_itself w = record {
  asked = goes_on_itself w.asked;
  held = goes_on_itself w.held;
  answers = goes_on_itself w.to_client;
  accounts_extended = still_there w;
}

pub grows_trans : (u v w : World) → OnlyGrows u v → OnlyGrows v w → OnlyGrows u w
grows_trans u v w first then = record {
  asked = goes_on_trans u.asked v.asked w.asked first.asked then.asked;
  held = goes_on_trans u.held v.held w.held first.held then.held;
  answers = goes_on_trans u.to_client v.to_client w.to_client first.answers then.answers;
  accounts_extended = λ a there.
      let between = first.accounts_extended a there in
      let last = then.accounts_extended between.account between.is_there in
      record {
        account = last.account;
        is_there = last.is_there;
        extends = extends_on a between.account
            last.account between.extends last.extends;
      };
}

-- ---- one event

-- where the accounts stay
same_accounts : (w v : World) → GoesOn w.asked v.asked → GoesOn w.held v.held → GoesOn w.to_client v.to_client
    → accounts v ≡ accounts w → OnlyGrows w v
same_accounts w v asked held answers same = record {
  asked = asked;
  held = held;
  answers = answers;
  accounts_extended = λ a there. still_there v a (subst (λ list. Contains list a) (sym same) there);
}

-- where only processes are others
turns_grow : (w : World) (client : ℕ) (process : Option Process) (v : World)
    → ChangesProcess w client process v → OnlyGrows w v
turns_grow w client process v changes =
    subst (OnlyGrows w) (sym changes.rest) (same_accounts w (record w { clients = v.clients })
    (goes_on_itself w.asked) (goes_on_itself w.held) (goes_on_itself w.to_client) refl)

stays_grows : (w v : World) → v ≡ w → OnlyGrows w v
stays_grows w v same = subst (OnlyGrows w) (sym same) (grows_itself w)

becomes_grow : (w : World) (client : ℕ) (answer : Answer) (outcome : Outcome) (v : World) (shows : Seen)
    → WorldBecomes w client answer outcome v shows → OnlyGrows w v
becomes_grow w client answer (Welcomed next) v shows is = turns_grow w client _ v is.0
becomes_grow w client answer (TurnedAway same refusal) v shows is = turns_grow w client _ v is.0
becomes_grow w client answer (Settled next reply) v shows is =
    let more = (is.key, reply) ∷ [] in
    subst (OnlyGrows w) (sym is.rest)
    (same_accounts w (record w { clients = v.clients; held = w.held ++ more }) (goes_on_itself w.asked)
    (goes_on w.held more) (goes_on_itself w.to_client) refl)
becomes_grow w client answer (EpochEnded key current) v shows is = turns_grow w client _ v is.0
becomes_grow w client answer (Replaced key current) v shows is = turns_grow w client _ v is.0
becomes_grow w client answer (Ignored same) v shows is = stays_grows w v is.0

comes_grow : (process : Option Process) (w : World) (packet : Packet) (v : World) (shows : Seen)
    → ComesTo process w packet v shows → OnlyGrows w v
comes_grow None w packet v shows is = stays_grows w v is.0
comes_grow (Some process) w packet v shows is = becomes_grow w packet.client packet.answer is.outcome v shows
    is.becomes

-- where the present account is extended, and answers are sent
pub present_grows : (w : World) (present : Account) (answers : List Packet) → Extends w.present present
    → GoesOn w.to_client answers → OnlyGrows w (record w { present = present; to_client = answers })
present_grows w present answers extends more =
    let u : World = record w { present = present; to_client = answers } in
    record {
      asked = goes_on_itself w.asked;
      held = goes_on_itself w.held;
      answers = more;
      accounts_extended = λ a there. elim (Contains-push_cases w.earlier w.present a there) [
        | inl before ↦ still_there u a (Contains-append_left w.earlier (present ∷ []) a before)
        | inr last ↦ record {
          account = present;
          is_there = Contains-push w.earlier present;
          extends = subst (λ (b : Account). Extends b present) last extends;
        }
      ];
    }

reaches_server_grows : (limits : StepLimits) (w : World) (packet moment : ℕ) (v : World) (shows : Seen)
    → ReachesServerUnder limits w packet moment v shows → OnlyGrows w v
reaches_server_grows limits w packet moment v shows is =
    let more : List Packet = record { client = sender is.message; answer = is.told } ∷ [] in
    let extends = steps_extend_under limits w.present v.present moment is.message is.said is.next in
    subst (OnlyGrows w) (sym is.rest) (present_grows w v.present (w.to_client ++ more) extends (goes_on
    w.to_client more))

pub time_grows : (w : World) (moment : ℕ) (v : World) → TimePasses w moment v → OnlyGrows w v
time_grows w moment v passes =
    let extends = ticks_extend w.present v.present moment passes.ticks in
    subst (OnlyGrows w) (sym passes.rest) (present_grows w v.present w.to_client extends (goes_on_itself
    w.to_client))

pub step_grows : (limits : StepLimits) (w : World) (e : Event) (v : World) (shows : Seen)
    → StepsUnder limits w e v shows → OnlyGrows w v
step_grows limits w (event.Start client incarnation version) v shows is =
    subst (OnlyGrows w) (sym is.rest) (same_accounts w _ (goes_on_itself w.asked) (goes_on_itself w.held)
    (goes_on_itself w.to_client) refl)
step_grows limits w (event.Begin client call) v shows is =
    subst (OnlyGrows w) (sym is.rest) (same_accounts w _ (goes_on w.asked ((is.key, call) ∷ []))
    (goes_on_itself w.held) (goes_on_itself w.to_client) refl)
step_grows limits w (event.Resend client) v shows is =
    subst (OnlyGrows w) (sym is.after) (same_accounts w _ (goes_on_itself w.asked) (goes_on_itself w.held)
    (goes_on_itself w.to_client) refl)
step_grows limits w (event.CancelSent client) v shows is =
    subst (OnlyGrows w) (sym is.after) (same_accounts w _ (goes_on_itself w.asked) (goes_on_itself w.held)
    (goes_on_itself w.to_client) refl)
step_grows limits w (event.Crash client) v shows is = turns_grow w client None v is.ends
step_grows limits w (event.ToServer packet moment) v shows is = reaches_server_grows limits w packet moment v
    shows is
step_grows limits w (event.ToClient packet) v shows is = comes_grow (process_of w is.sent.client) w is.sent v
    shows
    is.comes
step_grows limits w (event.NewEpoch epoch) v shows is =
    subst (OnlyGrows w) (sym is.after) (record {
      asked = goes_on_itself w.asked;
      held = goes_on_itself w.held;
      answers = goes_on_itself w.to_client;
      accounts_extended = λ a there. still_there (record w {
        earlier = accounts w;
        present = empty_account
            epoch;
      }) a (Contains-append_left (accounts w) (empty_account epoch ∷ []) a there);
    })

-- ---- whatever happens

happens_grow : (w : World) (happening : Happening) (v : World) → Happens w happening v → OnlyGrows w v
happens_grow w (Under limits e) v is = step_grows limits w e v is.0 is.1
happens_grow w (Elapses moment) v passes = time_grows w moment v passes

pub runs_grow_anyhow : (w : World) (happenings : List Happening) (v : World) → RunsAnyhow w happenings v
    → OnlyGrows w v
runs_grow_anyhow w [] v same = stays_grows w v same
runs_grow_anyhow w (happening ∷ happenings) v runs =
    grows_trans w runs.0 v (happens_grow w happening runs.0 runs.1) (runs_grow_anyhow runs.0 happenings v
    runs.2)

pub runs_grow : (w : World) (events : List Event) (v : World) → Runs w events v → OnlyGrows w v
runs_grow w events v runs = runs_grow_anyhow w (by_a_book events) v (runs_happen w events v runs)
