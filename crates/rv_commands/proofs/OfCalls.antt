-- A call's end is that of its request, once the client is welcome.
use Rattle.std.proofs.Common.{◌≡◌, ◌∙◌, IfSome, List, Option, refl, Some, subst, sym, ℕ}
use Rattle.std.proofs.lemmas.Option.{same_Some}
use Rattle.rv_text.specs.declared.call.Call.{Call}
use Rattle.rv_text.specs.declared.message.Key.{Key}
use Rattle.rv_client.specs.Link.{Link}
use Rattle.rv_client.specs.Process.{Asking, Starting, first_key}
use Rattle.rv_commands.specs.Asking.{EndsAsking, EndsCall, EndsFirstRequest, GetsWelcome}
use Rattle.rv_commands.specs.declared.asking.CallEnd.{CallEnd}
use Rattle.rv_commands.specs.declared.asking.CallEnd.TheVariants as ends

module _ {R W : Type 0} (remaining : R → Option (List ℕ)) (contents : W → Option (List ℕ)) where
  -- no request ends as a hello does
  as_request : (starting : Starting) (call : Call) (earlier : Option Key) (before between after : Link R W)
      (asking : Asking) (end : CallEnd) → EndsAsking remaining contents asking between after end
      → EndsFirstRequest remaining contents starting call earlier before after end
      → EndsCall remaining contents starting call earlier before after end
  as_request starting call earlier before between after asking (ends.Replied key reply) ended whole = whole
  as_request starting call earlier before between after asking (ends.Refused key refusal) ended whole = whole
  as_request starting call earlier before between after asking (ends.Unsettled key fault) ended whole = whole
  as_request starting call earlier before between after asking (ends.EpochEnded key current) ended whole =
      whole
  as_request starting call earlier before between after asking (ends.Replaced key current) ended whole = whole
  as_request starting call earlier before between after asking (ends.Moved key epoch) ended whole =
      absurd ended.2
  as_request starting call earlier before between after asking (ends.Unwelcome refusal) ended whole =
      absurd ended.2
  as_request starting call earlier before between after asking (ends.Unheard fault) ended whole =
      absurd ended.2

  -- a welcome, and what came of the request that was begun with its key
  pub ends_call : (starting : Starting) (call : Call) (earlier : Option Key) (before between after : Link R W)
      (next : Option Key) (asking : Asking) (end : CallEnd)
      → GetsWelcome remaining contents starting before between next
      → next ≡ Some asking.key → asking.call ≡ call → IfSome earlier (λ key. key ≡ asking.key)
      → EndsAsking remaining contents asking between after end
      → EndsCall remaining contents starting call earlier before after end
  ends_call starting call earlier before between after next asking end welcomed begun called same ended =
      let key = same_Some _ _ (sym begun ∙ welcomed.first) in
      let asked : asking ≡ record { key = first_key starting welcomed.epoch; call = call } =
      λ i. record { key = key i; call = called i } in
      as_request starting call earlier before between after asking end ended record {
        epoch = welcomed.epoch;
        between = between;
        welcomed = record {
          epoch = welcomed.epoch;
          fits = welcomed.fits;
          answer = welcomed.answer;
          says = welcomed.says;
          welcomes = welcomed.welcomes;
          first = refl;
        };
        same = subst (λ (k : Key). IfSome earlier (λ e. e ≡ k)) key same;
        ended = subst (λ (a : Asking). EndsAsking remaining contents a between after end) asked ended;
      }
