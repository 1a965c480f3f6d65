-- A run that read all of its input and answered its lines, from the book that it opened.
use Rattle.std.proofs.Common.{◌≡◌, ◌^◌, ℕ, List, [], Option, Some, None, IfSome, min, subst, true}
use Rattle.rv_frame.specs.declared.sink.Sink.{Sink}
use Rattle.rv_frame.specs.declared.source.Source.{Source}
use Rattle.rv_frame.specs.Sink.{sink_failed}
use Rattle.rv_frame.specs.Source.{source_remaining}
use Rattle.rv_account.specs.Account.{Account}
use Rattle.rv_run.specs.Input.{ReadsAll}
use Rattle.rv_run.specs.turns.Outcomes.{Ran, SendsAll, SendsFront, StoppedWriting}
use Rattle.rv_run.specs.turns.Run.{opened_account}

-- the account of a book that was opened at moment 0
is_opened : (b : Account) (epoch : ℕ) → b.epoch ≡ epoch → b.opened ≡ min 0 (2 ^ 62) → b.entries ≡ []
    → b ≡ opened_account epoch 0
is_opened b epoch epochs opened none =
    λ i. record { epoch = epochs i; opened = opened i; entries = none i }

-- what holds of the bytes that were read holds of what the source had, if that is known
of_source : (o : Option (List ℕ)) (items : List ℕ) (P : List ℕ → Type 0) → IfSome o (λ bytes. items ≡ bytes)
    → P items → IfSome o P
of_source None items P is holds = tt
of_source (Some bytes) items P is holds = subst P is holds

module _ {R W : Type 0} (remaining : R → Option (List ℕ)) (contents : W → Option (List ℕ)) (epoch : ℕ)
    (source source' : Source R) (sink sink' : Sink W) (b : Account) (read input : List ℕ)
    (all : ReadsAll remaining source source')
    (bytes : IfSome (source_remaining remaining source) (λ bytes. read ≡ bytes)) (same : input ≡ read)
    (epochs : b.epoch ≡ epoch) (opened : b.opened ≡ min 0 (2 ^ 62)) (none : b.entries ≡ []) where
  pub all_sent : SendsAll contents b input sink sink' → sink_failed sink' ≡ sink_failed sink
      → Ran remaining contents epoch source source' sink sink'
  all_sent sends stays = record {
    whole_input = all;
    whole_output = of_source (source_remaining remaining source) read
        (λ l. SendsAll contents (opened_account epoch 0) l sink sink') bytes
        (subst (λ (a : Account). SendsAll contents a read sink sink') (is_opened b epoch epochs opened none)
        (subst (λ (l : List ℕ). SendsAll contents b l sink sink') same sends));
    sink_stays = stays;
  }

  pub front_sent : (sent : ℕ) → SendsFront contents b input sink sink' sent → sink_failed sink' ≡ true
      → StoppedWriting remaining contents epoch source source' sink sink' sent
  front_sent sent sends fails = record {
    whole_input = all;
    front_of_output = of_source (source_remaining remaining source) read
        (λ l. SendsFront contents (opened_account epoch 0) l sink sink' sent) bytes
        (subst (λ (a : Account). SendsFront contents a read sink sink' sent)
        (is_opened b epoch epochs opened none)
        (subst (λ (l : List ℕ). SendsFront contents b l sink sink' sent) same sends));
    sink_fails = fails;
  }
