-- What the cancel of a request that waits tells: its request is cancelled.
use Rattle.rv_account.proofs.OfState.Words.{◌≡◌, ◌∷◌, ◌++◌, inl, [], None, refl, ap, subst, Key, Replied}
use Rattle.rv_account.proofs.OfState.Words.{Entry}
use Rattle.rv_account.proofs.OfState.Words.{Arrive, Cancel, Account, with_entry, WaitsUnder, RepliesAt}
use Rattle.rv_account.proofs.OfState.Words.{act_read}
use Rattle.rv_account.proofs.OfState.Words.{reads_on}
use Rattle.rv_account.specs.Account.{just}
use Rattle.rv_account.specs.rules.Replies.{told_by}
use Rattle.rv_account.specs.rules.Steps.{Replies}
use Rattle.rv_account.proofs.OfRules.Naming.{just_none}
use Rattle.rv_account.proofs.OfRules.Sides.{cancel_stops, is_under}
use Rattle.rv_account.proofs.OfState.StopReplies.{stop_replies}
use Rattle.rv_text.specs.declared.answer.Reply as reply

ended_reply : (a : Account) (e : Entry) (key : Key) → e.act ≡ Cancel key → e.partners ≡ just None
    → (waits : WaitsUnder a.entries key)
    → RepliesAt (a.entries ++ e ∷ []) waits.place waits.call reply.TheVariants.Cancelled
ended_reply a e key says none waits =
    let told = stop_replies a.entries e key waits.place waits.call
    (record { arrived = waits.arrived; waits = waits.waits })
    (λ named. just_none e waits.place none named)
    (cancel_stops a.entries e key waits.place says (is_under a.entries key waits)) in
    subst (RepliesAt (a.entries ++ e ∷ []) waits.place waits.call) (ap told_by says) told

pub waiting_replies : (a : Account) (e : Entry) (key : Key) → e.act ≡ Cancel key → e.partners ≡ just None
    → WaitsUnder a.entries key → Replies (with_entry a e) key (Replied key reply.TheVariants.Cancelled)
waiting_replies a e key says none waits = record {
  reply = reply.TheVariants.Cancelled;
  has = inl (record {
    place = waits.place;
    call = waits.call;
    arrived = reads_on act_read refl a.entries (e ∷ []) waits.place (Arrive key waits.call) waits.arrived;
    replies = ended_reply a e key says none waits;
  });
  is = refl;
}
