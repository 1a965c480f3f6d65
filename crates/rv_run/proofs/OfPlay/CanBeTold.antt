-- What is told of an event that was taken is there.
use Rattle.std.proofs.Common.{◌≡◌, ◌++◌, ◌∷◌, [], ℕ, List, Option, Some, None, refl, sym, ap, subst, ◌∙◌}
use Rattle.std.proofs.Common.{length, arith}
use Rattle.std.specs.Prelude.{IsSome, slice_get}
use Rattle.std.specs.List.{Contains}
use Rattle.std.proofs.lemmas.List.Elements.{Contains-append_right}
use Rattle.rv_text.specs.declared.answer.Answer.TheVariants as answers
use Rattle.rv_text.specs.declared.answer.Reply.{Reply}
use Rattle.rv_text.specs.declared.message.Key.{Key}
use Rattle.rv_client.specs.Process.{Process, Outcome, Welcomed, TurnedAway, Settled, EpochEnded, Replaced}
use Rattle.rv_client.specs.Process.{Ignored}
use Rattle.rv_world.specs.declared.parts.event.Event.{Event}
use Rattle.rv_world.specs.declared.parts.event.Event.TheVariants as event
use Rattle.rv_world.specs.declared.parts.packet.Packet.{Packet}
use Rattle.rv_world.specs.declared.parts.seen.Seen.{Seen}
use Rattle.rv_world.specs.declared.parts.seen.Seen.TheVariants as sees
use Rattle.rv_world.specs.parts.Events.{ComesTo, Steps, Takes, WorldBecomes}
use Rattle.rv_world.specs.parts.World.{World}
use Rattle.rv_run.specs.play.Told.{CanTell, WasSent}

last_there : {X : Type 0} (xs : List X) (x : X) → slice_get (xs ++ x ∷ []) (length xs) ≡ Some x
last_there [] x = refl
last_there (y ∷ ys) x = last_there ys x

-- what shows nothing of an answer can be told
can_tell : (v : World) (e : Event) (shows seen : Seen) → shows ≡ seen → CanTell v e seen → CanTell v e shows
can_tell v e shows seen is can = subst (λ (s : Seen). CanTell v e s) (sym is) can

sent_last : (w v : World) (packet : Packet) → v.to_client ≡ w.to_client ++ packet ∷ []
    → WasSent v (length w.to_client)
sent_last w v packet is = let there : slice_get v.to_client (length w.to_client) ≡ Some packet =
    ap (λ (l : List Packet). slice_get l (length w.to_client)) is ∙ last_there w.to_client packet in
    subst (λ (o : Option Packet). IsSome o) (sym there) refl

-- the reply that a client takes is held, and is that of the packet
takes_reply : (w v : World) (packet : ℕ) (sent : Packet) (next : Option Key) (reply : Reply) (shows : Seen)
    → slice_get w.to_client packet ≡ Some sent
    → Takes w sent.client sent.answer next reply v shows → CanTell v (event.ToClient packet) shows
takes_reply w v packet sent next reply shows there takes =
    let same : sent ≡ record { client = sent.client; answer = answers.Replied takes.key reply } =
    ap (λ a. record { client = sent.client; answer = a }) takes.settles in
    can_tell v (event.ToClient packet) shows (sees.Settled takes.key) takes.shown (record {
      client = sent.client;
      reply = reply;
      there = ap (λ (x : World). slice_get x.to_client packet) takes.rest ∙ there ∙ ap Some same;
      held = subst (λ (l : List (Key × Reply)). Contains l (takes.key, reply))
          (sym (ap (λ (x : World). x.held) takes.rest)) (Contains-append_right w.held
          ((takes.key, reply) ∷ []) (takes.key, reply) (0, omega arith, refl));
    })

outcome_told : (w v : World) (packet : ℕ) (sent : Packet) (outcome : Outcome) (shows : Seen)
    → slice_get w.to_client packet ≡ Some sent
    → WorldBecomes w sent.client sent.answer outcome v shows → CanTell v (event.ToClient packet) shows
outcome_told w v packet sent (Welcomed next) shows there becomes = can_tell v (event.ToClient packet) shows
    sees.Welcomed becomes.1 tt
outcome_told w v packet sent (TurnedAway same refusal) shows there becomes =
    can_tell v (event.ToClient packet) shows (sees.TurnedAway refusal) becomes.1 tt
outcome_told w v packet sent (Settled next reply) shows there becomes = takes_reply w v packet sent next reply
    shows there becomes
outcome_told w v packet sent (EpochEnded key current) shows there becomes = can_tell v (event.ToClient packet)
    shows (sees.Ended current) becomes.1 tt
outcome_told w v packet sent (Replaced key current) shows there becomes = can_tell v (event.ToClient packet)
    shows (sees.Replaced current) becomes.1 tt
outcome_told w v packet sent (Ignored same) shows there becomes = can_tell v (event.ToClient packet) shows
    sees.Ignored becomes.1 tt

delivery_told : (w v : World) (packet : ℕ) (sent : Packet) (process : Option Process) (shows : Seen)
    → slice_get w.to_client packet ≡ Some sent
    → ComesTo process w sent v shows → CanTell v (event.ToClient packet) shows
delivery_told w v packet sent None shows there comes = can_tell v (event.ToClient packet) shows sees.Ignored
    comes.1 tt
delivery_told w v packet sent (Some process) shows there comes = outcome_told w v packet sent comes.outcome
    shows there comes.becomes

pub step_told : (w v : World) (e : Event) (shows : Seen) → Steps w e v shows → CanTell v e shows
step_told w v (event.Start client incarnation version) shows steps =
    can_tell v (event.Start client incarnation version) shows (sees.Sent (length w.to_server)) steps.shown tt
step_told w v (event.Begin client call) shows steps = can_tell v (event.Begin client call) shows
    (sees.Sent (length w.to_server)) steps.shown tt
step_told w v (event.Resend client) shows steps = can_tell v (event.Resend client) shows
    (sees.Sent (length w.to_server)) steps.shown tt
step_told w v (event.CancelSent client) shows steps = can_tell v (event.CancelSent client) shows
    (sees.Sent (length w.to_server)) steps.shown tt
step_told w v (event.Crash client) shows steps = can_tell v (event.Crash client) shows sees.Crashed
    steps.shown tt
step_told w v (event.ToServer packet moment) shows steps = can_tell v (event.ToServer packet moment) shows
    (sees.Answered (length w.to_client)) steps.shown (sent_last w v _ (ap (λ (x : World). x.to_client)
    steps.rest))
step_told w v (event.ToClient packet) shows steps = delivery_told w v packet steps.sent _ shows steps.there
    steps.comes
step_told w v (event.NewEpoch epoch) shows steps = can_tell v (event.NewEpoch epoch) shows (sees.Opened epoch)
    steps.shown tt
