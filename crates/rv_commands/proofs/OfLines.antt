-- What came of the next line, from the put that was taken and its end.
use Rattle.std.proofs.Common.{◌≡◌, List, Option, Some, ℕ, subst, sym}
use Rattle.std.specs.Prelude.{IsSomeAnd, IsUtf8, Ok}
use Rattle.rv_json.specs.Limits.{FitsItem}
use Rattle.rv_text.specs.Limits.{FitsCall}
use Rattle.rv_text.specs.declared.answer.Reply.{Reply}
use Rattle.rv_text.specs.declared.call.Call.TheVariants.{Put}
use Rattle.rv_text.specs.declared.message.Key.{Key}
use Rattle.rv_client.specs.Link.{Link}
use Rattle.rv_client.specs.Process.{Starting}
use Rattle.rv_commands.specs.Asking.{EndsCall, key_asked}
use Rattle.rv_commands.specs.Lines.{AsksPut, IsNextPut, KeepsOpen, TakesOpen, TakesStep}
use Rattle.rv_commands.specs.declared.asking.CallEnd.{CallEnd}
use Rattle.rv_commands.specs.declared.asking.CallEnd.TheVariants as ends
use Rattle.rv_commands.specs.declared.lines.LineEnd.{LineEnd}
use Rattle.rv_commands.specs.declared.lines.LineEnd.TheVariants as line
use Rattle.rv_commands.specs.declared.lines.LinePuts.{LinePuts}
use Rattle.rv_commands.specs.declared.lines.input.LineInput.{LineInput}
use Rattle.rv_commands.specs.declared.open.OpenCall.{OpenCall}

-- an item that can be put is UTF-8
pub utf8_of_put : (queue : ℕ) (text : List ℕ) → FitsCall (Put queue text) → IsUtf8 text
unfolding FitsItem
utf8_of_put queue text fits = fits.0.1.1

module _ {B R W : Type 0} (bytes : B → Option (List ℕ)) (remaining : R → Option (List ℕ))
    (contents : W → Option (List ℕ)) where
  -- what was read for a put stays so while it is asked
  next_stays : (old mid new : LinePuts B) (put : OpenCall) → new.input ≡ mid.input
      → IsNextPut bytes old mid put → IsNextPut bytes old new put
  next_stays old mid new put is has =
      subst (λ (input : LineInput B). IsNextPut bytes old (record mid { input = input }) put) (sym is) has

  -- an end that is no reply leaves the put open
  leaves : (starting : Starting) (old new : LinePuts B) (before after : Link R W) (put asked_put : OpenCall)
      (end : CallEnd) (told : LineEnd) → AsksPut bytes remaining contents starting old new before after put
      end
      → (asked_put.call ≡ put.call) × (asked_put.asked ≡ key_asked end put.asked)
      → (told ≡ line.Open end) × (new.open_put ≡ Some asked_put)
      → ((key : Key) (reply : Reply) → ¬ (end ≡ ends.Replied key reply))
      → TakesStep bytes remaining contents starting old new before after told
  leaves starting old new before after put asked_put end told asks same kept no_reply =
      subst (λ (t : LineEnd). TakesStep bytes remaining contents starting old new before after t) (sym kept.0)
      (record {
        put = put;
        no_reply = no_reply;
        asks = asks;
        stays = subst (λ (o : Option OpenCall). IsSomeAnd o (λ left. (left.call ≡ put.call)
            × (left.asked ≡ key_asked end put.asked))) (sym kept.1) same;
      })

  by_end : (starting : Starting) (old new : LinePuts B) (before after : Link R W) (put asked_put : OpenCall)
      (end : CallEnd) (told : LineEnd) → AsksPut bytes remaining contents starting old new before after put
      end
      → (asked_put.call ≡ put.call) × (asked_put.asked ≡ key_asked end put.asked)
      → KeepsOpen asked_put end new.open_put told
      → TakesStep bytes remaining contents starting old new before after told
  by_end starting old new before after put asked_put (ends.Replied key reply) told asks same kept =
      subst (λ (t : LineEnd). TakesStep bytes remaining contents starting old new before after t) (sym kept.0)
      (record { put = put; call_is = sym same.0; asks = asks; none_open = kept.1 })
  by_end starting old new before after put asked_put (ends.Refused key refusal) told asks same kept =
      leaves starting old new before after put asked_put _ told asks same kept (λ k r is. absurd (cc))
  by_end starting old new before after put asked_put (ends.Unsettled key fault) told asks same kept =
      leaves starting old new before after put asked_put _ told asks same kept (λ k r is. absurd (cc))
  by_end starting old new before after put asked_put (ends.EpochEnded key current) told asks same kept =
      leaves starting old new before after put asked_put _ told asks same kept (λ k r is. absurd (cc))
  by_end starting old new before after put asked_put (ends.Replaced key current) told asks same kept =
      leaves starting old new before after put asked_put _ told asks same kept (λ k r is. absurd (cc))
  by_end starting old new before after put asked_put (ends.Moved key epoch) told asks same kept =
      leaves starting old new before after put asked_put _ told asks same kept (λ k r is. absurd (cc))
  by_end starting old new before after put asked_put (ends.Unwelcome refusal) told asks same kept =
      leaves starting old new before after put asked_put _ told asks same kept (λ k r is. absurd (cc))
  by_end starting old new before after put asked_put (ends.Unheard fault) told asks same kept =
      leaves starting old new before after put asked_put _ told asks same kept (λ k r is. absurd (cc))

  -- the put that was taken, and what came of it
  pub takes_step : (starting : Starting) (old mid new : LinePuts B) (before after : Link R W)
      (put asked_put : OpenCall) (end : CallEnd) (told : LineEnd) → TakesOpen bytes old mid (Ok put)
      → EndsCall remaining contents starting put.call put.asked before after end → asked_put.call ≡ put.call
      → asked_put.asked ≡ key_asked end put.asked → KeepsOpen asked_put end new.open_put told
      → new.input ≡ mid.input
      → TakesStep bytes remaining contents starting old new before after told
  takes_step starting old mid new before after put asked_put end told taken ended same asked kept is =
      by_end starting old new before after put asked_put end told
      (record { is_next = next_stays old mid new put is taken.2; ended = ended }) (same, asked) kept
