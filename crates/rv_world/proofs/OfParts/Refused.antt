-- Events that are refused, for want of memory or since a process has nothing to say.
use Rattle.rv_world.proofs.OfParts.Words.{◌≡◌, ◌⊎◌, ◌∙◌, inl, inr, ℕ, Result, Ok, Err, arith, Some, refl, sym}
use Rattle.rv_world.proofs.OfParts.Words.{subst, none-some, same_Some, slice_get, Version, Asking}
use Rattle.rv_world.proofs.OfParts.Words.{Outstanding, Event, Packet, Seen, WorldRefusal, World, process_of}
use Rattle.rv_world.proofs.OfParts.Words.{RefusalDue, EventComesTo, IsAsking, RunsBut, RunsNone}
use Rattle.std.proofs.Common.{IsErrAnd}
use Rattle.rv_world.specs.declared.parts.process.Saying.{Saying}
use Rattle.rv_world.specs.parts.Events.{IsNewest, NeedsMemory}
use Rattle.rv_world.specs.parts.Processes.{event_saying}
use Rattle.rv_world.specs.declared.parts.event.Event.TheVariants as event
use Rattle.rv_world.specs.declared.parts.seen.WorldRefusal.TheVariants as refuses
use Rattle.rv_world.specs.declared.parts.process.Saying.TheVariants as saying

-- where nothing else is due and nothing changed, that is what comes of the event
pub lacks_memory : (w v : World) (e : Event) (result : Result Seen WorldRefusal)
    → ((other : WorldRefusal) → ¬ RefusalDue w e other)
    → NeedsMemory w e → IsErrAnd result (λ refusal. refusal ≡ refuses.NoMemory) → v ≡ w
    → EventComesTo w e v result
lacks_memory w v e (Ok shows) nothing needs refused same = absurd refused
lacks_memory w v e (Err refusal) nothing needs refused same =
    (inr (record { nothing_due = nothing; needs = needs; is = refused }), same)

-- a newest incarnation is not due to be refused
pub start_due : (w : World) (client incarnation : ℕ) (version : Version) → IsNewest w client incarnation
    → (other : WorldRefusal) → ¬ RefusalDue w (event.Start client incarnation version) other
start_due w client incarnation version newest other due =
    let reaches = due.0.reaches in
    let below = newest due.0.other due.0.there in
    omega (arith, reaches, below)

-- nor is an answer that was sent
pub sent_due : (w : World) (packet : ℕ) (sent : Packet) → slice_get w.to_client packet ≡ Some sent
    → (other : WorldRefusal) → ¬ RefusalDue w (event.ToClient packet) other
sent_due w packet sent there other due = none-some sent (sym due.0 ∙ there)

-- ---- what an outstanding process says

module _ (w : World) (client : ℕ) where
  abbrev IsSilent : WorldRefusal → Type 0
  IsSilent refusal = RunsNone w client refusal ⊎ (RunsBut w client IsAsking
      × (refusal ≡ refuses.NotOutstanding))

  not_silent : (asking : Asking) → process_of w client ≡ Some (Outstanding asking) → (other : WorldRefusal)
      → ¬ IsSilent other
  not_silent asking runs other (inl none) = none-some _ (sym none.0 ∙ runs)
  not_silent asking runs other (inr but) = but.0.is_not (asking, same_Some _ _ (sym but.0.runs ∙ runs))

  -- where no process of the client is outstanding, that is what comes of the event
  pub saying_refused : (saying : Saying) {due : WorldRefusal} (result : Result Seen WorldRefusal)
      → IsSilent due → IsErrAnd result (λ refusal. refusal ≡ due)
      → EventComesTo w (event_saying saying client) w result
  saying_refused saying.Request (Ok shows) silent refused = absurd refused
  saying_refused saying.Request (Err refusal) silent refused = (
    inl (subst IsSilent (sym refused) silent),
    refl,
  )
  saying_refused saying.Cancel (Ok shows) silent refused = absurd refused
  saying_refused saying.Cancel (Err refusal) silent refused = (
    inl (subst IsSilent (sym refused) silent),
    refl,
  )

  -- where one is, only memory may have been refused
  pub saying_lacks : (v : World) (saying : Saying) (asking : Asking) (result : Result Seen WorldRefusal)
      → process_of w client ≡ Some (Outstanding asking)
      → IsErrAnd result (λ refusal. refusal ≡ refuses.NoMemory) → v ≡ w
      → EventComesTo w (event_saying saying client) v result
  saying_lacks v saying.Request asking result runs refused same = lacks_memory w v (event.Resend client)
      result (not_silent asking runs) tt refused same
  saying_lacks v saying.Cancel asking result runs refused same = lacks_memory w v (event.CancelSent client)
      result (not_silent asking runs) tt refused same
