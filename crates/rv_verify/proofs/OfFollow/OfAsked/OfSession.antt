-- Whether the key of an act is of its client's session, told by that session.
use Rattle.std.proofs.Common.{◌≡◌, ◌∙◌, Bool, Option, Some, None, IfNone, IfSome, IsTrue, is_some}
use Rattle.std.proofs.Common.{refl, sym, subst}
use Rattle.std.proofs.lemmas.Bool.{false≢true}
use Rattle.std.proofs.lemmas.Option.{same_Some}
use Rattle.rv_text.specs.declared.message.Key.{Key}
use Rattle.rv_account.specs.declared.entry.Act.{Act}
use Rattle.rv_account.specs.Account.{key_in}
use Rattle.rv_account.specs.state.Follows.{InSession}
use Rattle.rv_account.specs.state.Kept.{KeyInSession}
use Rattle.rv_account.specs.state.State.{ClientState, State}
use Rattle.rv_verify.proofs.OfFollow.OfAsked.DueNow.{Iff}

module _ {X : Type 0} (session : X → ClientState) (s : State) (key : Key) where
  found : (o : Option X) → IfSome o (λ x. InSession s key (session x))
      → IfNone o ((c : ClientState) → InSession s key c → ⊥)
      → Iff (IsTrue (is_some o)) ((c : ClientState) × InSession s key c)
  found None some none = (λ t. absurd (false≢true t), λ of. absurd (none of.0 of.1))
  found (Some x) some none = (λ t. (session x, some), λ of. refl)

  pub key_told : (does : Act) (o : Option X) (b : Bool) → key_in does ≡ Some key → b ≡ is_some o
      → IfSome o (λ x. InSession s key (session x))
      → IfNone o ((c : ClientState) → InSession s key c → ⊥) → Iff (IsTrue b) (KeyInSession s does)
  key_told does o b names is some none =
      let told = found o some none in (
        λ t other also. subst (λ k. (c : ClientState) × InSession s k c) (same_Some _ _ (sym names ∙ also))
            (told.0 (sym is ∙ t)),
        λ of. is ∙ told.1 (of key names),
      )
