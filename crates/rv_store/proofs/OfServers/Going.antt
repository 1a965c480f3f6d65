-- A new hub is a server that begins, or one that goes on after a crash.
use Rattle.std.proofs.Common.{◌≡◌, ◌+◌, ◌∙◌, ◌++◌, ℕ, List, [], refl, sym, ap, subst}
use Rattle.std.proofs.Common.{arith, drop, length, take}
use Rattle.std.proofs.lemmas.List.{length-append, take-append-drop, take_all}
use Rattle.std.proofs.lemmas.Option.{none-some}
use Rattle.std.proofs.Math.Seq.{take-append-add}
use Rattle.rv_text.specs.declared.message.Message.{Message}
use Rattle.rv_text.specs.Limits.{FitsIdentifier}
use Rattle.rv_account.specs.Account.{Account}
use Rattle.rv_account.specs.declared.entry.Entry.{Entry}
use Rattle.rv_account.specs.rules.Legal.{Legal, before}
use Rattle.rv_account.specs.state.After.{state_of}
use Rattle.rv_account.proofs.OfState.StateLaws.{states_agree}
use Rattle.rv_account.specs.state.resume.Laws.{HadRoom}
use Rattle.rv_account.specs.state.resume.Resuming.{CanResume, StaysInRoom}
use Rattle.rv_account.proofs.OfState.Resumed.ResumeLaws.{openings_resume}
use Rattle.rv_hub.specs.HubRuns.{IsHubAccount}
use Rattle.rv_hub.proofs.Accounts.{begins}
use Rattle.rv_hub.proofs.Paired.{pairs_begin}
use Rattle.rv_world.specs.parts.World.{empty_account}
use Rattle.rv_store.specs.servers.crashes.Crashes.{Crashed, Server, ServerDoes, Stored, made, server_in}
use Rattle.rv_store.specs.servers.crashes.Laws.{EffectsKeepServers, IsServer, ServersBegin}
use Rattle.rv_store.specs.servers.Laws.{BeginsHub, HubsBegin, HubsGoOn}
use Rattle.rv_store.specs.servers.Room.{LetsGoOn}
use Rattle.rv_store.specs.servers.Serving.{new_hub}
use Rattle.rv_store.proofs.OfServers.Room.{fronts_go_on}

-- ---- a new hub over an account

new_account : (a : Account) → LetsGoOn a → IsHubAccount a (new_hub a)
new_account a can = begins a (new_hub a) can.legal refl can.resumes refl

begins_hub : (messages : List Message) (server : Server) (a : Account) → LetsGoOn a → IsServer messages server
    → made server ≡ a → length server.stored.entries ≡ length a.entries → BeginsHub messages server a
begins_hub messages server a can server_is is stored = record {
  can = can;
  account = new_account a can;
  is = record {
    server_is = server_is;
    made_is = is;
    stored_is = (let agree = (states_agree a can.legal).length in omega arith);
    answers = λ n place body given there answered. absurd (none-some body there);
  };
  pairs = λ limits n. pairs_begin limits a (new_hub a) n (λ subscription there. none-some subscription there)
      (λ there. none-some there.wire there.there);
}

-- ---- in an epoch in which nothing happened

empty_room : (epoch : ℕ) → FitsIdentifier epoch → HadRoom (empty_account epoch)
empty_room epoch fits =
    let resumes : CanResume (state_of (empty_account epoch)) = openings_resume epoch 0 fits (omega arith) in
    record {
      epoch = fits;
      opened = omega arith;
      entries = λ r e at. absurd (none-some e at);
      room = λ j. subst (λ (es : List Entry). StaysInRoom (state_of (record {
        epoch = epoch;
        opened = 0;
        entries = es;
      }))) (sym (take_all j [] (omega arith))) resumes.room;
    }

pub hubs_begin : ServersBegin → HubsBegin
hubs_begin start messages epoch fits =
    let server_is = start messages epoch in
    let had = empty_room epoch fits in
    begins_hub messages (server_in epoch) (empty_account epoch)
    (record {
      legal = server_is.legal;
      had_room = had;
      resumes = openings_resume epoch 0 fits (omega arith);
    }) server_is refl refl

-- ---- after a crash

-- what a crash leaves of what was made is a front of it
left_front : (server : Server) (a : Account) (written left : ℕ) → made server ≡ a
    → length server.stored.entries ≡ written
    → made (record { stored = server.stored; unstored = take left server.unstored; withheld = [] })
    ≡ before a (written + left)
left_front server a written left is stored =
    ap (λ es. record { epoch = server.stored.epoch; opened = server.stored.opened; entries = es })
    (sym (take-append-add server.stored.entries server.unstored left)
    ∙ ap (λ n. take (n + left) (server.stored.entries ++ server.unstored)) stored)
    ∙ ap (λ (c : Account). before c (written + left)) is

pub hubs_go_on : EffectsKeepServers → HubsGoOn
hubs_go_on keep messages server a s pasts left had is =
    let count : ℕ = s.open_wires.written + left in
    let b : Account = before a count in
    let legal : Legal a = subst Legal is.made_is is.server_is.legal in
    let can : LetsGoOn b = fronts_go_on a count legal had in
    let between : Server = record {
      stored = server.stored;
      unstored = take left server.unstored;
      withheld = [];
    } in
    let front : made between ≡ b = left_front server a s.open_wires.written left is.made_is is.stored_is in
    let kept : IsServer messages between = (keep messages server between (Crashed left) is.server_is tt
    refl).server in
    let long : length (made between).entries ≡ length b.entries = ap (λ (c : Account). length c.entries) front
    in
    let more : length (made between).entries
    ≡ length server.stored.entries + length (take left server.unstored) =
    length-append server.stored.entries (take left server.unstored) in
    let all : ℕ = length b.entries in
    let later : Server = record {
      stored = before (made between) all;
      unstored = drop all (made between).entries;
      withheld = [];
    } in
    let does : ServerDoes between (Stored all) later = ((omega arith), (omega arith), refl) in
    let whole : made later ≡ b =
    ap (λ es. record { epoch = server.stored.epoch; opened = server.stored.opened; entries = es })
    (take-append-drop all (made between).entries) ∙ front in
    let stored : length later.stored.entries ≡ length b.entries =
    ap (λ (es : List Entry). length es) (take_all all (made between).entries (omega arith)) ∙ long in (
      later,
      (tt, between, refl, (tt, later, does, refl)),
      begins_hub messages later b can (keep messages between later (Stored all) kept tt does).server whole
          stored,
    )
