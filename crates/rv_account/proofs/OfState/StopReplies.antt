-- What stops a waiting request first tells it its reply.
use Rattle.rv_account.proofs.OfState.Words.{◌≡◌, ◌<◌, ◌∷◌, ◌++◌, ◌∙◌, inl, inr, ℕ, List, [], length}
use Rattle.rv_account.proofs.OfState.Words.{option_and_then, refl, sym, ap, subst, arith, same_Some, Key}
use Rattle.rv_account.proofs.OfState.Words.{Call}
use Rattle.rv_account.proofs.OfState.Words.{Reply, Entry, Names, call_in, IsPut, Stays}
use Rattle.rv_account.proofs.OfState.Words.{RepliesAt, Met, StoppedAt, act_read, reads_within, WaitsThere}
use Rattle.rv_account.specs.rules.Replies.{ToldStopped, told_by}
use Rattle.rv_account.proofs.OfRules.FirstStops.{told_by_last}
use Rattle.rv_account.proofs.OfRules.Growing.{Met-back}
use Rattle.rv_account.proofs.OfRules.Opposites.{looks_alone}
use Rattle.rv_account.proofs.OfState.UnmetReplies.{lasting_told}
use Rattle.rv_text.specs.declared.call.Call.TheVariants as call
use Rattle.rv_text.specs.declared.answer.Reply.TheVariants as reply

-- one that stays, unmet, is told by what stopped it first
stopped_told : (its : Call) (es : List Entry) (r : ℕ) (told : Reply) → Stays its → (IsPut its → ⊥)
    → (Met es r → ⊥) → ToldStopped es r told → RepliesAt es r its told
stopped_told (call.Put queue item) es r told stays no_put unmet stopped = absurd (no_put (refl, refl))
stopped_told (call.Transfer queue item wait) es r told stays no_put unmet stopped =
    inr (unmet, lasting_told wait es r reply.Nobody told stays.1 stopped)
stopped_told (call.Take queue wait) es r told stays no_put unmet stopped =
    inr (unmet, lasting_told wait es r reply.Empty told stays.1 stopped)
stopped_told (call.Swap exchanger item wait) es r told stays no_put unmet stopped =
    inr (unmet, lasting_told wait es r reply.TimedOut told stays.1 stopped)
stopped_told (call.Count queue) es r told stays no_put unmet stopped = absurd (looks_alone queue stays.0)
stopped_told (call.Peek queue) es r told stays no_put unmet stopped = absurd (looks_alone queue stays.0)
stopped_told (call.Drain queue max) es r told stays no_put unmet stopped = absurd stays.1

-- a waiting request that the last entry stops is told by it
pub stop_replies : (es : List Entry) (e : Entry) (key : Key) (r : ℕ) (its : Call) → WaitsThere es key r its
    → (Names e r → ⊥) → StoppedAt (es ++ e ∷ []) r (length es)
    → RepliesAt (es ++ e ∷ []) r its (told_by e.act)
stop_replies es e key r its w unnamed stopped =
    let opened = w.waits.is_open in
    let same : opened.call ≡ its =
    same_Some _ _ (sym opened.arrived ∙ ap (option_and_then call_in) w.arrived) in
    let inside : r < length es = reads_within act_read refl es r _ w.arrived in
    stopped_told its (es ++ e ∷ []) r (told_by e.act) (subst Stays same opened.stays)
    (λ put. w.waits.no_put (subst IsPut (sym same) put))
    (λ met. elim (Met-back es e r met) [
      | inl before ↦ opened.unmet before
      | inr new ↦ elim new [ inl last ↦ omega arith | inr named ↦ unnamed named ]
    ])
    (told_by_last es e r opened.unstopped stopped)
