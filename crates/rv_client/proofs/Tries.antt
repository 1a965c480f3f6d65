-- Tries of one request, one after the other.
use Rattle.std.proofs.Common.{◌≡◌, ◌∙◌, ◌+◌, ◌++◌, ◌∷◌, [], ℕ, List, Option, Some, None, IfSome, ap, arith}
use Rattle.std.proofs.Common.{length-append, refl, replicate, subst, sym, append-nil}
use Rattle.std.specs.Io.KnownBytes.{Appends, Consumes}
use Rattle.std.proofs.KnownBytes.{Appends-nil, Appends-trans, Consumes-nil, Consumes-trans}
use Rattle.std.proofs.lemmas.List.{replicate-append-replicate}
use Rattle.std.proofs.lemmas.List.Elements.{All-append, All-cons, All-nil}
use Rattle.rv_text.specs.Bodies.{message_text}
use Rattle.rv_text.specs.declared.call.Call.{Call}
use Rattle.rv_text.specs.declared.message.Key.{Key}
use Rattle.rv_frame.specs.Cut.{frame_bytes, row_bytes}
use Rattle.rv_frame.proofs.Cuts.{row_append}
use Rattle.rv_client.specs.declared.calling.CallOutcome.{CallOutcome}
use Rattle.rv_client.specs.declared.calling.CallOutcome.TheVariants as called
use Rattle.rv_client.specs.Calls.{AsksInVain, Calls, Decides, EndsWithin, IsIgnored}
use Rattle.rv_client.specs.Link.{Link}
use Rattle.rv_client.specs.Process.{Asking, Ignored, Outstanding, request_of}

-- a row with one body more
row_more : (bodies : List (List ℕ)) (body : List ℕ)
    → row_bytes bodies ++ frame_bytes body ≡ row_bytes (bodies ++ body ∷ [])
row_more bodies body = ap (λ l. row_bytes bodies ++ l) (sym (append-nil (frame_bytes body)))
    ∙ sym (row_append bodies (body ∷ []))

-- a row of the same bodies, with one more
same_more : (n : ℕ) (body : List ℕ) → row_bytes (replicate n body) ++ frame_bytes body ≡ row_bytes
    (replicate (n + 1) body)
same_more n body = row_more (replicate n body) body ∙ ap row_bytes (replicate-append-replicate n 1 body)

module _ {R W : Type 0} (remaining : R → Option (List ℕ)) (contents : W → Option (List ℕ)) where
  pub none_yet : (asking : Asking) (at : Link R W) → AsksInVain remaining contents asking at at 0
  none_yet asking at = record {
    bodies = [];
    each = refl;
    ignored = All-nil (IsIgnored asking);
    moves = record { sent = Appends-nil _; given = Consumes-nil _ };
    same_source = refl;
    same_sink = refl;
    nothing = λ none. refl;
  }

  pub once_more : (asking : Asking) (before between after : Link R W) (times : ℕ)
      → AsksInVain remaining contents asking before between times
      → Decides remaining contents asking between after (Ignored (Outstanding asking))
      → AsksInVain remaining contents asking before after (times + 1)
  once_more asking before between after times vain once =
      let text = message_text (request_of asking) in
      let body = once.asks.body in
      record {
        bodies = vain.bodies ++ body ∷ [];
        each = length-append vain.bodies (body ∷ []) ∙ ap (λ n. n + 1) vain.each;
        ignored = All-append (IsIgnored asking) vain.bodies (body ∷ []) vain.ignored
            (All-cons (IsIgnored asking) body [] (once.answer, once.asks.has, once.hears.0)
            (All-nil (IsIgnored asking)));
        moves = record {
          sent = subst (Appends _ _) (same_more times text) (Appends-trans _ _ _ _ _ vain.moves.sent
              once.asks.moves.sent);
          given = subst (Consumes _ _) (row_more vain.bodies body) (Consumes-trans _ _ _ _ _ vain.moves.given
              once.asks.moves.given);
        };
        same_source = once.asks.works.read_after ∙ sym once.asks.works.read_before ∙ vain.same_source;
        same_sink = once.asks.works.write_after ∙ sym once.asks.works.write_before ∙ vain.same_sink;
        nothing = λ none. absurd (omega arith);
      }

  pub ended : (asking : Asking) (tries : ℕ) (before after : Link R W) (outcome : CallOutcome)
      → EndsWithin remaining contents asking tries before after outcome
      → Calls remaining contents asking tries before after outcome
  ended asking tries before after (called.Settled next reply) within = within
  ended asking tries before after (called.EpochEnded key current) within = within
  ended asking tries before after (called.Replaced key current) within = within
  ended asking tries before after (called.Unsettled same (Some fault)) within = within
  ended asking tries before after (called.Unsettled same None) within = absurd within.ends

  -- the same of the request that an idle client began
  pub ended_call : (idle : Option Key) (call : Call) (asking : Asking) (tries : ℕ) (before after : Link R W)
      (outcome : CallOutcome) → idle ≡ Some asking.key → asking.call ≡ call
      → EndsWithin remaining contents asking tries before after outcome
      → IfSome idle (λ key. Calls remaining contents (record { key = key; call = call }) tries before
      after outcome)
  ended_call idle call asking tries before after outcome begun same within =
      let Told : Call → Type 0 = λ c. Calls remaining contents (record { key = asking.key; call = c }) tries
      before after outcome in
      let Of : Option Key
      → Type 0 = λ i. IfSome i (λ key. Calls remaining contents (record { key = key; call = call }) tries
      before after outcome) in
      subst Of (sym begun) (subst Told same (ended asking tries before after outcome within))
