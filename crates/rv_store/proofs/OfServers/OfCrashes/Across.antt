-- Whatever occurs: what is kept, by what a server's effects keep and by what may be sent.
use Rattle.rv_world.proofs.OfParts.Words.{◌≡◌, ◌⊎◌, ◌++◌, ◌∷◌, ◌∙◌, inl, inr, ℕ, List, [], sym, subst}
use Rattle.rv_world.proofs.OfParts.Words.{Contains, Contains-push, Contains-push_cases, Account, Key, Message}
use Rattle.rv_world.proofs.OfParts.Words.{HasReply, Reply, World, IsAnswered, IsSoundWorld, OnlyGrows}
use Rattle.rv_world.proofs.OfParts.Words.{book_limits}
use Rattle.rv_text.specs.declared.answer.Answer.TheVariants as answers
use Rattle.rv_text.specs.declared.answer.Refusal.TheVariants as refusals
use Rattle.rv_text.specs.declared.message.Message.TheVariants as message
use Rattle.rv_account.proofs.OfState.Extending.{extends_itself}
use Rattle.rv_world.specs.declared.parts.event.Event.{Event}
use Rattle.rv_world.specs.declared.parts.packet.Packet.{Packet}
use Rattle.rv_world.specs.declared.parts.event.Event.TheVariants as event
use Rattle.rv_world.specs.parts.Headline.{GoesOn, IsNo, MeetsNobody}
use Rattle.rv_world.proofs.OfParts.Growth.{goes_on_itself, goes_on_trans, grows_itself, grows_trans}
use Rattle.rv_world.proofs.OfParts.Growth.{step_grows}
use Rattle.rv_world.proofs.OfParts.Listing.{still_contains}
use Rattle.rv_world.proofs.OfParts.OneReply.{still_answered}
use Rattle.rv_world.proofs.OfParts.Partners.{arrival_epoch, no_means_unmet}
use Rattle.rv_world.proofs.OfParts.Soundness.{first_sound}
use Rattle.rv_store.specs.servers.crashes.Crashes.{AtServer, CrashWorld, LeavesServer, Occurrence, Occurs}
use Rattle.rv_store.specs.servers.crashes.Crashes.{Outside, RunsAcross, IsOfMessages, Sends, Server}
use Rattle.rv_store.specs.servers.crashes.Crashes.{ServerEffect, ServerDoes, first_crash_world, made}
use Rattle.rv_store.specs.servers.crashes.Crashes.{made_world, stored_world}
use Rattle.rv_store.specs.servers.crashes.Laws.{EffectsKeepServers, EveryAnswer, IsHeldRightly, IsOfSomeStep}
use Rattle.rv_store.specs.servers.crashes.Laws.{IsServer, KeepsServer, SentIsStored}
use Rattle.rv_store.proofs.OfServers.OfCrashes.Fronts.{held_on, rightly_on}
use Rattle.rv_store.proofs.OfServers.OfCrashes.Effects.{begins, nothing_there}
use Rattle.rv_store.proofs.OfServers.OfCrashes.Around.{IsOutside, made_sound, outside_is, outside_sound}
use Rattle.rv_store.proofs.OfServers.OfCrashes.Around.{sends_grow, sends_sound, stored_sound}

-- ---- what is kept

pub record IsKept (c : CrashWorld) : Type 0 where
  pub sound : IsSoundWorld (stored_world c)
  pub server : IsServer c.around.to_server c.server
  pub every : EveryAnswer (stored_world c)

-- of messages there are only more, too
pub record Leads (c d : CrashWorld) : Type 0 where
  pub kept : IsKept d
  pub grows : OnlyGrows (stored_world c) (stored_world d)
  pub messages : GoesOn c.around.to_server d.around.to_server

-- ---- the answers that were sent

still_every : (w v : World) (packet : Packet) → OnlyGrows w v → GoesOn w.to_server v.to_server
    → (packet.answer ≡ answers.Refused refusals.NoMemory) ⊎ IsOfSomeStep w packet
    → (packet.answer ≡ answers.Refused refusals.NoMemory) ⊎ IsOfSomeStep v packet
still_every w v packet grows more (inl none) = inl none
still_every w v packet grows more (inr is) =
    let on = grows.accounts_extended is.account is.is_there in
    inr (record {
      account = on.account;
      is_there = on.is_there;
      count = is.count;
      step = held_on w.to_server v.to_server is.account on.account packet is.count more on.extends is.step;
    })

still_server : (messages more : List Message) (s : Server) → GoesOn messages more → IsServer messages s
    → IsServer more s
still_server messages more s grows server = record {
  legal = server.legal;
  arrivals = λ r key call arrived. still_contains messages more (message.Request key call) grows
      (server.arrivals r
      key call arrived);
  hellos = λ r client incarnation version hello. still_contains messages more (message.Hello client
      incarnation
      version) grows (server.hellos r client incarnation version hello);
  answers = λ packet count there. rightly_on messages more (made s) (made s) packet count grows
      (extends_itself
      (made s)) (server.answers packet count there);
}

-- ---- a server's effect

server_leads : EffectsKeepServers → (c : CrashWorld) (effect : ServerEffect) (t : Server) → IsKept c
    → IsOfMessages c.around.to_server effect → ServerDoes c.server effect t
    → Leads c (record { around = c.around; server = t })
server_leads effects c effect t kept sent does =
    let keeps : KeepsServer c.around.to_server c.server t = effects c.around.to_server c.server t effect
    kept.server sent
    does in
    let both = stored_sound c t kept.sound keeps in
    let messages : GoesOn c.around.to_server c.around.to_server = goes_on_itself c.around.to_server in
    record {
      kept = record {
        sound = both.0;
        server = keeps.server;
        every = λ packet there. still_every (stored_world c) (record c.around { present = t.stored }) packet
            both.1
            messages (kept.every packet there);
      };
      grows = both.1;
      messages = messages;
    }

-- ---- an answer is sent

sends_leads : SentIsStored → (c d : CrashWorld) (packet : Packet) → IsKept c → Occurs c (Sends packet) d
    → Leads c d
sends_leads sends c d packet kept is =
    let w : World = stored_world c in
    let u : World = record w { to_client = w.to_client ++ packet ∷ [] } in
    let right = sends c.around.to_server c.server packet kept.server is.0 in
    let grows : OnlyGrows w u = sends_grow w packet in
    let messages : GoesOn c.around.to_server c.around.to_server = goes_on_itself c.around.to_server in
    subst (Leads c) (sym is.1) (record {
      kept = record {
        sound = sends_sound w packet right.0 kept.sound right.1;
        server = kept.server;
        every = λ other there. elim (Contains-push_cases w.to_client packet other there) [
          | inl old ↦ still_every w u other grows messages (kept.every other old)
          | inr new ↦ subst (λ (p : Packet). (p.answer ≡ answers.Refused refusals.NoMemory) ⊎ IsOfSomeStep u
              p) new
              (some_step right.0 right.1)
        ];
      };
      grows = grows;
      messages = messages;
    })
  where
    some_step : (count : ℕ) → IsHeldRightly c.around.to_server c.server.stored packet count
        → (packet.answer ≡ answers.Refused refusals.NoMemory)
        ⊎ IsOfSomeStep (record (stored_world c) { to_client = c.around.to_client ++ packet ∷ [] }) packet
    some_step count (inl none) = inl none
    some_step count (inr step) = inr (record {
      account = c.server.stored;
      is_there = Contains-push c.around.earlier c.server.stored;
      count = count;
      step = step;
    })

-- ---- clients and the link do something, or a server of a greater epoch begins

leaves_server : (messages : List Message) (e : Event) (s t : Server) → LeavesServer e s t
    → IsServer messages s
    → IsServer messages t
leaves_server messages (event.Start client incarnation version) s t same server =
    subst (IsServer messages) (sym same) server
leaves_server messages (event.Begin client call) s t same server = subst (IsServer messages) (sym same) server
leaves_server messages (event.Resend client) s t same server = subst (IsServer messages) (sym same) server
leaves_server messages (event.CancelSent client) s t same server = subst (IsServer messages) (sym same) server
leaves_server messages (event.Crash client) s t same server = subst (IsServer messages) (sym same) server
leaves_server messages (event.ToServer packet moment) s t none server = absurd none
leaves_server messages (event.ToClient packet) s t same server = subst (IsServer messages) (sym same) server
leaves_server messages (event.NewEpoch epoch) s t new server =
    subst (IsServer messages) (sym new) (begins messages epoch)

outside_leads : (c d : CrashWorld) (e : Event) → IsKept c → Occurs c (Outside e) d → Leads c d
outside_leads c d e kept is =
    let w : World = stored_world c in
    let outside : IsOutside w d.around d.server = outside_is c e d.around is.0 d.server is.1 is.2 in
    let grows : OnlyGrows w (stored_world d) = subst (λ (a : Account). OnlyGrows w
    (record d.around { present = a })) (sym outside.account_is) (step_grows book_limits w e d.around is.0
    is.1) in
    record {
      kept = record {
        sound = outside_sound c e d.around is.0 d.server kept.sound is.1 outside;
        server = leaves_server d.around.to_server e c.server d.server is.2 (still_server c.around.to_server
            d.around.to_server c.server outside.messages kept.server);
        every = λ packet there. still_every w (stored_world d) packet grows outside.messages
            (kept.every packet
            (subst (λ (list : List Packet). Contains list packet) outside.answers_stay there));
      };
      grows = grows;
      messages = outside.messages;
    }

-- ---- whatever occurs

pub first_kept : (epoch : ℕ) → IsKept (first_crash_world epoch)
first_kept epoch = record {
  sound = first_sound epoch;
  server = begins [] epoch;
  every = λ packet there. absurd (nothing_there packet there);
}

module _ (effects : EffectsKeepServers) (sends : SentIsStored) where
  pub occurs_leads : (c : CrashWorld) (o : Occurrence) (d : CrashWorld) → IsKept c → Occurs c o d → Leads c d
  occurs_leads c (AtServer effect) d kept is =
      subst (λ (w : World). Leads c (record { around = w; server = d.server }))
      (sym is.2) (server_leads effects c effect d.server kept is.0 is.1)
  occurs_leads c (Sends packet) d kept is = sends_leads sends c d packet kept is
  occurs_leads c (Outside e) d kept is = outside_leads c d e kept is

  pub runs_lead : (c : CrashWorld) (occurrences : List Occurrence) (d : CrashWorld) → IsKept c
      → RunsAcross c occurrences d → Leads c d
  runs_lead c [] d kept same = subst (Leads c) (sym same) (record {
    kept = kept;
    grows = grows_itself (stored_world c);
    messages = goes_on_itself c.around.to_server;
  })
  runs_lead c (o ∷ occurrences) d kept runs =
      let first : Leads c runs.0 = occurs_leads c o runs.0 kept runs.1 in
      let rest : Leads runs.0 d = runs_lead runs.0 occurrences d first.kept runs.2 in
      record {
        kept = rest.kept;
        grows = grows_trans (stored_world c) (stored_world runs.0) (stored_world d) first.grows rest.grows;
        messages = goes_on_trans c.around.to_server runs.0.around.to_server d.around.to_server first.messages
            rest.messages;
      }

  pub kept_after : (epoch : ℕ) (occurrences : List Occurrence) (c : CrashWorld)
      → RunsAcross (first_crash_world epoch) occurrences c → IsKept c
  kept_after epoch occurrences c runs = (runs_lead (first_crash_world epoch) occurrences c
      (first_kept epoch) runs).kept

-- ---- the world with all that is made

pub all_sound : (c : CrashWorld) → IsKept c → IsSoundWorld (made_world c)
all_sound c kept = (made_sound c kept.sound kept.server).0

-- what is answered a no in a world meets nobody in a sound one that grew from it
nobody_met : (w v : World) (key : Key) (told : Reply) → OnlyGrows w v → IsSoundWorld v → IsAnswered w key told
    → IsNo told → MeetsNobody v key
nobody_met w v key told grows after answered is_no a r own there arrived =
    let is = after.no_two_replies.answered_is key told (still_answered w v key told grows answered) in
    let legal = after.legal_accounts.legal a there in
    let same : is.account ≡ a = after.legal_accounts.one_each is.account a is.is_of.is_there there
    (is.is_of.epoch_is ∙ arrival_epoch a key r own legal arrived) in
    no_means_unmet a key told legal (subst (λ (b : Account). HasReply b.entries key told) same is.has) is_no r
    own arrived

pub nobody_met_later : (c d : CrashWorld) (key : Key) (told : Reply) → Leads c d
    → IsAnswered (stored_world c) key told → IsNo told → MeetsNobody (made_world d) key
nobody_met_later c d key told leads answered is_no =
    let both = made_sound d leads.kept.sound leads.kept.server in
    nobody_met (stored_world c) (made_world d) key told (grows_trans (stored_world c) (stored_world d)
    (made_world d) leads.grows both.1) both.0 answered is_no
