-- What happens in the network world occurs so, where a server stores and sends at once.
use Rattle.rv_world.proofs.OfParts.Words.{◌≡◌, ◌≤◌, ◌++◌, ◌∷◌, ◌∙◌, ℕ, List, [], length, refl, sym, ap, subst}
use Rattle.rv_world.proofs.OfParts.Words.{arith, Contains-push, Account, Answer, Entry, NextUnder, Ticks}
use Rattle.rv_world.proofs.OfParts.Words.{World, Happening, Happens, RunsAnyhow, Elapses, Under, Steps}
use Rattle.rv_world.proofs.OfParts.Words.{empty_account, first_world, sender}
use Rattle.std.specs.Prelude.{drop}
use Rattle.std.proofs.Common.{append-nil}
use Rattle.std.proofs.lemmas.List.{length-append, take_all}
use Rattle.std.proofs.Math.Seq.{drop-length}
use Rattle.rv_text.specs.declared.answer.Answer.TheVariants as answers
use Rattle.rv_text.specs.declared.answer.Refusal.TheVariants as refusals
use Rattle.rv_account.specs.Account.{Extends, own_moment}
use Rattle.rv_account.specs.rules.Legal.{before}
use Rattle.rv_account.specs.rules.Resting.{rests_on}
use Rattle.rv_account.proofs.OfState.Extending.{steps_extend_under, ticks_extend}
use Rattle.rv_world.specs.declared.parts.event.Event.{Event}
use Rattle.rv_world.specs.declared.parts.packet.Packet.{Packet}
use Rattle.rv_world.specs.declared.parts.seen.Seen.{Seen}
use Rattle.rv_world.specs.declared.parts.event.Event.TheVariants as event
use Rattle.rv_world.proofs.OfParts.Listing.{stands_at}
use Rattle.rv_store.specs.servers.crashes.Crashes.{AtServer, CrashWorld, LeavesServer, Occurrence, Occurs}
use Rattle.rv_store.specs.servers.crashes.Crashes.{Outside, Passed, RunsAcross, Sends, Server, Stepped}
use Rattle.rv_store.specs.servers.crashes.Crashes.{Stored, first_crash_world, made, stored_world}
use Rattle.rv_store.proofs.OfServers.OfCrashes.Around.{outside_is}
use Rattle.rv_store.proofs.OfServers.OfCrashes.Fronts.{with_all}

-- ---- a world in which all is stored

abbrev server_of : Account → List Entry → List (Packet × ℕ) → Server
server_of a more held = record { stored = a; unstored = more; withheld = held }

abbrev world_with : World → Account → List Entry → List (Packet × ℕ) → CrashWorld
world_with x a more held = record { around = x; server = server_of a more held }

abbrev whole : World → Account → List (Packet × ℕ) → CrashWorld
whole x a held = world_with x a [] held

made_whole : (a : Account) (held : List (Packet × ℕ)) → made (server_of a [] held) ≡ a
made_whole a held = ap (with_all a) (append-nil a.entries)

-- an account that extends another is that with some entries more
made_is : (a b : Account) (held : List (Packet × ℕ)) (extends : Extends a b)
    → b ≡ made (server_of a extends.more held)
made_is a b held extends =
    λ i. record { epoch = extends.epoch i; opened = extends.opened i; entries = extends.entries i }

-- all is stored
stores : (x : World) (a b : Account) (more : List Entry) (held : List (Packet × ℕ))
    → b ≡ made (server_of a more held) → length a.entries ≤ length (a.entries ++ more)
    → Occurs (world_with x a more held) (AtServer (Stored (length (a.entries ++ more)))) (whole x b held)
stores x a b more held is longer =
    let all : List Entry = a.entries ++ more in
    let front : before (made (server_of a more held)) (length all) ≡ made (server_of a more held) =
    ap (with_all a) (take_all (length all) all (omega arith)) in
    let first : b ≡ before (made (server_of a more held)) (length all) = is ∙ sym front in
    let none : drop (length all) all ≡ [] = drop-length all in (
      tt,
      (longer, omega arith, λ i. record { stored = first i; unstored = sym none i; withheld = held }),
      refl,
    )

longer : (a b : Account) → (extends : Extends a b) → length a.entries ≤ length (a.entries ++ extends.more)
longer a b extends = omega (arith, length-append a.entries extends.more)

-- ---- one happening

record Next (c : CrashWorld) (v : World) : Type 0 where
  occurrences : List Occurrence
  around : World
  account : Account
  held : List (Packet × ℕ)
  runs : RunsAcross c occurrences (whole around account held)
  is : record around { present = account } ≡ v

quiet : (x : World) (a : Account) (held : List (Packet × ℕ)) (e : Event) (v : World) (shows : Seen)
    → Steps (record x { present = a }) e v shows → LeavesServer e (server_of a [] held) (server_of a [] held)
    → Next (whole x a held) v
quiet x a held e v shows is leaves = record {
  occurrences = Outside e ∷ [];
  around = v;
  account = a;
  held = held;
  runs = (whole v a held, (shows, is, leaves), refl);
  is = ap (λ (b : Account). record v { present = b }) (outside_is (whole x a held) e v shows
      (server_of a [] held) is leaves).account_is;
}

happens_across : (x : World) (a : Account) (held : List (Packet × ℕ)) (happening : Happening) (v : World)
    → Happens (record x { present = a }) happening v → Next (whole x a held) v
happens_across x a held (Elapses moment) v passes =
    let extends : Extends a v.present = ticks_extend a v.present moment passes.ticks in
    let t : Server = server_of a extends.more held in
    let same = sym (made_whole a held) in
    let late = made_is a v.present held extends in
    record {
      occurrences = AtServer (Passed moment) ∷ AtServer (Stored (length (a.entries ++ extends.more))) ∷ [];
      around = x;
      account = v.present;
      held = held;
      runs = (
        world_with x a extends.more held,
        (
          tt,
          (
            subst (λ (b : Account). own_moment b ≤ moment) same passes.not_before,
            passes.at_most,
            subst (λ (b : Account). Ticks b moment (made t)) same (subst (λ (b : Account). Ticks a moment b)
                late
                passes.ticks),
            refl,
          ),
          refl,
        ),
        (
          whole x v.present held,
          stores x a v.present extends.more held late (longer a v.present extends),
          refl,
        ),
      );
      is = sym passes.rest;
    }
happens_across x a held (Under limits (event.ToServer packet moment)) v (shows, is) =
    let extends : Extends a v.present = steps_extend_under limits a v.present moment is.message is.said
    is.next in
    let same = sym (made_whole a held) in
    let late = made_is a v.present held extends in
    let count : ℕ = length (a.entries ++ extends.more) in
    let own : Packet = record { client = sender is.message; answer = is.told } in
    let all : List (Packet × ℕ) = held ++ (own, rests_on is.told count) ∷ [] in
    let t : Server = server_of a extends.more all in
    record {
      occurrences = AtServer (Stepped limits moment is.message) ∷ AtServer (Stored count) ∷ Sends own ∷ [];
      around = record x { to_client = x.to_client ++ own ∷ [] };
      account = v.present;
      held = all;
      runs = (
        world_with x a extends.more all,
        (
          stands_at x.to_server packet is.message is.there,
          record {
            said = is.said;
            next = subst (λ (b : Account). NextUnder limits b moment is.message (made t) is.said) same
                (subst (λ (b : Account). NextUnder limits a moment is.message b is.said) late is.next);
            told = is.told;
            is_told = is.is_told;
            rest = refl;
          },
          refl,
        ),
        (
          whole x v.present all,
          stores x a v.present extends.more all late (longer a v.present extends),
          (
            whole (record x { to_client = x.to_client ++ own ∷ [] }) v.present all,
            (
              (
                rests_on is.told count,
                at_most is.told (a.entries ++ extends.more) v.present.entries extends.entries,
                Contains-push held (own, rests_on is.told count),
              ),
              refl,
            ),
            refl,
          ),
        ),
      );
      is = sym is.rest;
    }
  where
    rests_short : (told : Answer) (n : ℕ) → rests_on told n ≤ n
    rests_short (answers.Refused refusals.NoMemory) n = omega arith
    rests_short _ n = omega arith

    at_most : (told : Answer) (xs ys : List Entry) → ys ≡ xs → rests_on told (length xs) ≤ length ys
    at_most told xs ys same = let short = rests_short told (length xs) in omega (arith, ap length same)
happens_across x a held (Under limits (event.NewEpoch epoch)) v (shows, is) = record {
  occurrences = Outside (event.NewEpoch epoch) ∷ [];
  around = v;
  account = empty_account epoch;
  held = [];
  runs = (whole v (empty_account epoch) [], (shows, is, refl), refl);
  is = ap (λ (b : Account). record v { present = b }) (sym (ap (λ (u : World). u.present) is.after));
}
happens_across x a held (Under limits (event.Start client incarnation version)) v (shows, is) =
    quiet x a held (event.Start client incarnation version) v shows is refl
happens_across x a held (Under limits (event.Begin client call)) v (shows, is) =
    quiet x a held (event.Begin client call) v shows is refl
happens_across x a held (Under limits (event.Resend client)) v (shows, is) =
    quiet x a held (event.Resend client) v shows is refl
happens_across x a held (Under limits (event.CancelSent client)) v (shows, is) =
    quiet x a held (event.CancelSent client) v shows is refl
happens_across x a held (Under limits (event.Crash client)) v (shows, is) =
    quiet x a held (event.Crash client) v shows is refl
happens_across x a held (Under limits (event.ToClient packet)) v (shows, is) =
    quiet x a held (event.ToClient packet) v shows is refl

-- ---- all that happens

runs_on : (c b d : CrashWorld) (occurrences more : List Occurrence) → RunsAcross c occurrences b
    → RunsAcross b more d → RunsAcross c (occurrences ++ more) d
runs_on c b d [] more same rest = subst (λ (x : CrashWorld). RunsAcross x more d) same rest
runs_on c b d (o ∷ occurrences) more runs rest =
    (runs.0, runs.1, runs_on runs.0 b d occurrences more runs.2 rest)

anyhow_across : (happenings : List Happening) (x : World) (a : Account) (held : List (Packet × ℕ)) (v : World)
    → RunsAnyhow (record x { present = a }) happenings v → Next (whole x a held) v
anyhow_across [] x a held v same = record {
  occurrences = [];
  around = x;
  account = a;
  held = held;
  runs = refl;
  is = sym same;
}
anyhow_across (happening ∷ happenings) x a held v (between, happens, runs) =
    let first : Next (whole x a held) between = happens_across x a held happening between happens in
    let rest : Next (whole first.around first.account first.held) v = anyhow_across happenings first.around
    first.account first.held v (subst (λ (w : World). RunsAnyhow w happenings v) (sym first.is) runs) in
    record {
      occurrences = first.occurrences ++ rest.occurrences;
      around = rest.around;
      account = rest.account;
      held = rest.held;
      runs = runs_on (whole x a held) (whole first.around first.account first.held)
          (whole rest.around rest.account
          rest.held) first.occurrences rest.occurrences first.runs rest.runs;
      is = rest.is;
    }

pub as_today : (epoch : ℕ) (happenings : List Happening) (v : World)
    → RunsAnyhow (first_world epoch) happenings v
    → (occurrences : List Occurrence) × (c : CrashWorld) × RunsAcross (first_crash_world epoch) occurrences c
    × (stored_world c ≡ v)
as_today epoch happenings v runs =
    let next = anyhow_across happenings (first_world epoch) (empty_account epoch) [] v runs in
    (next.occurrences, whole next.around next.account next.held, next.runs, next.is)
