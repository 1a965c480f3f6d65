-- A server's effects, one after another; and the effects that a step, time alone and writing are.
use Rattle.std.proofs.Common.{inl, inr, ◌≡◌, ◌≤◌, ◌∙◌, ◌++◌, ◌∷◌, ℕ, List, [], refl, sym, ap}
use Rattle.std.proofs.Common.{subst}
use Rattle.std.proofs.Common.{append_assoc, arith, drop, length}
use Rattle.std.specs.List.{All, Contains}
use Rattle.std.proofs.lemmas.List.{length-take-le, take-append-drop}
use Rattle.std.proofs.lemmas.List.Elements.{All-cons, All-nil}
use Rattle.rv_world.proofs.OfParts.Words.{Contains-append_left, Contains-push}
use Rattle.rv_text.specs.declared.message.Message.{Message}
use Rattle.rv_text.specs.declared.answer.Answer.{Answer}
use Rattle.rv_account.specs.declared.entry.Entry.{Entry}
use Rattle.rv_account.specs.Account.{Account, own_moment}
use Rattle.rv_account.specs.Limits.{max_moment}
use Rattle.rv_account.specs.rules.Legal.{before}
use Rattle.rv_account.specs.rules.Resting.{rests_on}
use Rattle.rv_account.specs.rules.StepLimits.{StepLimits}
use Rattle.rv_account.specs.rules.Steps.{NextUnder, Ticks}
use Rattle.rv_hub.specs.HubRuns.{AddsEntries}
use Rattle.rv_world.specs.declared.parts.packet.Packet.{Packet}
use Rattle.rv_world.specs.parts.Events.{sender}
use Rattle.rv_store.specs.servers.crashes.Crashes.{Crashed, IsOfMessages, Lacked, Passed, Server}
use Rattle.rv_store.specs.servers.crashes.Crashes.{ServerEffect, ServerDoes, Stepped, Stored, made}
use Rattle.rv_store.specs.servers.crashes.Crashes.{withholds}
use Rattle.rv_store.specs.servers.crashes.Laws.{EffectsKeepServers, IsHeldRightly, IsServer}
use Rattle.rv_store.specs.servers.Serving.{IsOfHub, RunsServer}

-- ---- more messages

pub contains_more : {X : Type 0} (xs ys : List X) (x : X) → Contains xs x → Contains (xs ++ ys) x
contains_more xs ys x there = Contains-append_left xs ys x there

of_more : (messages more : List Message) (effect : ServerEffect) → IsOfMessages messages effect
    → IsOfMessages (messages ++ more) effect
of_more messages more (Stepped limits moment message) there = contains_more messages more message there
of_more messages more (Passed moment) there = tt
of_more messages more (Lacked message) there = contains_more messages more message there
of_more messages more (Stored count) there = tt
of_more messages more (Crashed left) there = tt

pub runs_more : (messages more : List Message) (s : Server) (effects : List ServerEffect) (t : Server)
    → RunsServer messages s effects t → RunsServer (messages ++ more) s effects t
runs_more messages more s [] t same = same
runs_more messages more s (effect ∷ effects) t (sent, mid, does, rest) =
    (of_more messages more effect sent, mid, does, runs_more messages more mid effects t rest)

pub runs_on : (messages : List Message) (s : Server) (effects : List ServerEffect) (m : Server)
    (further : List ServerEffect) (t : Server) → RunsServer messages s effects m
    → RunsServer messages m further t
    → RunsServer messages s (effects ++ further) t
runs_on messages s [] m further t same more = subst (λ (u : Server). RunsServer messages u further t) same
    more
runs_on messages s (effect ∷ effects) m further t (sent, mid, does, rest) more =
    (sent, mid, does, runs_on messages mid effects m further t rest more)

rightly_more : (messages more : List Message) (a : Account) (packet : Packet) (count : ℕ)
    → IsHeldRightly messages a packet count → IsHeldRightly (messages ++ more) a packet count
rightly_more messages more a packet count (inl none) = inl none
rightly_more messages more a packet count (inr step) = inr (record {
  message = step.message;
  limits = step.limits;
  early = step.early;
  moment = step.moment;
  said = step.said;
  sent = contains_more messages more step.message step.sent;
  client_is = step.client_is;
  in_order = step.in_order;
  within = step.within;
  next = step.next;
  is_told = step.is_told;
})

pub server_more : (messages more : List Message) (s : Server) → IsServer messages s
    → IsServer (messages ++ more) s
server_more messages more s server = record {
  legal = server.legal;
  arrivals = λ r key call arrived. contains_more messages more _ (server.arrivals r key call arrived);
  hellos = λ r client incarnation version hello. contains_more messages more _ (server.hellos r client
      incarnation
      version hello);
  answers = λ packet count there. rightly_more messages more (made s) packet count (server.answers packet
      count
      there);
}

-- ---- where a server's effects lead

-- a hub's effects lead to a server that made this account, stored so many of its entries, and holds back what
-- was held
-- back
pub record Moves (limits : StepLimits) (messages : List Message) (s : Server) (b : Account) (written : ℕ)
    : Type 0 where
  pub effects : List ServerEffect
  pub are : All (IsOfHub limits) effects
  pub later : Server
  pub runs : RunsServer messages s effects later
  pub server_is : IsServer messages later
  pub made_is : made later ≡ b
  pub stored_is : length later.stored.entries ≡ written
  pub still : (packet : Packet) (count : ℕ) → Contains s.withheld (packet, count)
      → Contains later.withheld (packet, count)

-- and also this answer for the client of the message
pub record MovesTelling (limits : StepLimits) (messages : List Message) (s : Server) (b : Account)
    (written : ℕ) (message : Message) (said : Answer) : Type 0 where
  pub moves : Moves limits messages s b written
  pub held : Contains moves.later.withheld
      (record { client = sender message; answer = said }, rests_on said (length b.entries))

-- one effect alone
only : (limits : StepLimits) (effect : ServerEffect) → IsOfHub limits effect
    → All (IsOfHub limits) (effect ∷ [])
only limits effect is = All-cons (IsOfHub limits) effect [] is (All-nil (IsOfHub limits))

-- the account is what its fields are
same_account : (a b : Account) (made : List Entry) → AddsEntries a made b
    → (record { epoch = a.epoch; opened = a.opened; entries = a.entries ++ made }) ≡ b
same_account a b made adds = λ i. record {
  epoch = sym adds.epoch i;
  opened = sym adds.opened i;
  entries = sym adds.entries i;
}

-- with these entries more
made_more : (s : Server) (a b : Account) (more : List Entry) (held : List (Packet × ℕ)) → made s ≡ a
    → AddsEntries a more b
    → made (record { stored = s.stored; unstored = s.unstored ++ more; withheld = held }) ≡ b
made_more s a b more held is adds =
    let longer : Account → Account = λ c. record {
      epoch = c.epoch;
      opened = c.opened;
      entries = c.entries ++ more;
    } in
    ap (λ es. record { epoch = s.stored.epoch; opened = s.stored.opened; entries = es })
    (sym (append_assoc s.stored.entries s.unstored more)) ∙ ap longer is ∙ same_account a b more adds

pub stays : (limits : StepLimits) (messages : List Message) (s : Server) (a b : Account) (written : ℕ)
    → IsServer messages s → made s ≡ a → length s.stored.entries ≡ written → a ≡ b
    → Moves limits messages s b written
stays limits messages s a b written server is stored same = record {
  effects = [];
  are = All-nil (IsOfHub limits);
  later = s;
  runs = refl;
  server_is = server;
  made_is = is ∙ same;
  stored_is = stored;
  still = λ packet count there. there;
}

module _ (keep : EffectsKeepServers) (messages : List Message) (s : Server) (a b : Account) (more :
    List Entry)
    (written : ℕ) (server : IsServer messages s) (is : made s ≡ a) (stored : length s.stored.entries ≡
    written)
    (adds : AddsEntries a more b) where
  -- a step with one of the messages
  pub steps : (limits : StepLimits) (now : ℕ) (message : Message) (said : Answer) → Contains messages message
      → NextUnder limits a now message b said → MovesTelling limits messages s b written message said
  steps limits now message said sent next =
      let long : ℕ = length (s.stored.entries ++ (s.unstored ++ more)) in
      let held : List (Packet × ℕ) = withholds s message said (rests_on said long) in
      let t : Server = record { stored = s.stored; unstored = s.unstored ++ more; withheld = held } in
      let after : made t ≡ b = made_more s a b more held is adds in
      let does : ServerDoes s (Stepped limits now message) t = record {
        said = said;
        next = subst (λ (c : Account). NextUnder limits (made s) now message c said) (sym after)
            (subst (λ (c : Account). NextUnder limits c now message b said) (sym is) next);
        told = said;
        is_told = inl refl;
        rest = refl;
      } in
      record {
        moves = record {
          effects = Stepped limits now message ∷ [];
          are = only limits (Stepped limits now message) refl;
          later = t;
          runs = (sent, t, does, refl);
          server_is = (keep messages s t (Stepped limits now message) server sent does).server;
          made_is = after;
          stored_is = stored;
          still = λ packet count there. contains_more s.withheld _ (packet, count) there;
        };
        held = subst (λ (c : Account). Contains held
            (record { client = sender message; answer = said }, rests_on said (length c.entries))) after
            (Contains-push s.withheld (
              record { client = sender message; answer = said },
              rests_on said
                  long,
            ));
      }

  -- time alone
  pub passes : (limits : StepLimits) (moment : ℕ) → own_moment a ≤ moment → moment ≤ max_moment
      → Ticks a moment b → Moves limits messages s b written
  passes limits moment later time ticks =
      let t : Server = record {
        stored = s.stored;
        unstored = s.unstored ++ more;
        withheld = s.withheld;
      } in
      let after : made t ≡ b = made_more s a b more s.withheld is adds in
      let does : ServerDoes s (Passed moment) t = (
        subst (λ (c : Account). own_moment c ≤ moment) (sym is) later,
        time,
        subst (λ (c : Account). Ticks (made s) moment c) (sym after)
            (subst (λ (c : Account). Ticks c moment b) (sym is) ticks),
        refl,
      ) in
      record {
        effects = Passed moment ∷ [];
        are = only limits (Passed moment) tt;
        later = t;
        runs = (tt, t, does, refl);
        server_is = (keep messages s t (Passed moment) server tt does).server;
        made_is = after;
        stored_is = stored;
        still = λ packet count there. there;
      }

-- so many entries are stored
pub stores : (keep : EffectsKeepServers) (limits : StepLimits) (messages : List Message) (s : Server)
    (b : Account) (written count : ℕ) → IsServer messages s → made s ≡ b → length s.stored.entries ≡ written
    → written ≤ count → count ≤ length b.entries → Moves limits messages s b count
stores keep limits messages s b written count server is stored rises within =
    let t : Server = record {
      stored = before (made s) count;
      unstored = drop count (made s).entries;
      withheld = s.withheld;
    } in
    let few : count ≤ length (made s).entries = subst (λ (c : Account). count ≤ length c.entries) (sym is)
    within in
    let does : ServerDoes s (Stored count) t = ((let l = stored in omega arith), few, refl) in
    let whole : made t ≡ made s =
    ap (λ es. record { epoch = s.stored.epoch; opened = s.stored.opened; entries = es })
    (take-append-drop count (made s).entries) in
    record {
      effects = Stored count ∷ [];
      are = only limits (Stored count) tt;
      later = t;
      runs = (tt, t, does, refl);
      server_is = (keep messages s t (Stored count) server tt does).server;
      made_is = whole ∙ is;
      stored_is = length-take-le count (made s).entries few;
      still = λ packet other there. there;
    }
