-- A key's name is its own, and that of no other key.
use Rattle.std.proofs.Common.{◌≡◌, ◌&&◌, Bool, true, false, refl, nat_eq, subst}
use Rattle.std.proofs.lemmas.Bool.{eq-eqb, eqb-true, false≢true}
use Rattle.rv_text.specs.declared.message.Key.{Key}
use Rattle.rv_account.proofs.OfRules.Deciding.{same_key}
use Rattle.rv_replies.specs.findings.Names.{is_named, key_name}

both : (a b : Bool) → a ≡ true → b ≡ true → (a && b) ≡ true
both true b first second = second
both false b first second = absurd (false≢true first)

first_of : (a b : Bool) → (a && b) ≡ true → a ≡ true
first_of true b is = refl
first_of false b is = absurd (false≢true is)

second_of : (a b : Bool) → (a && b) ≡ true → b ≡ true
second_of true b is = is
second_of false b is = absurd (false≢true is)

pub named_own : (key : Key) → is_named key (key_name key) ≡ true
named_own key =
    both (nat_eq key.epoch key.epoch) _ (eq-eqb key.epoch key.epoch refl)
    (both (nat_eq key.client key.client) _ (eq-eqb key.client key.client refl)
    (both (nat_eq key.incarnation key.incarnation) _ (eq-eqb key.incarnation key.incarnation refl)
    (eq-eqb key.number key.number refl)))

pub named_as : (key other : Key) → key ≡ other → is_named key (key_name other) ≡ true
named_as key other same =
    subst (λ (k : Key). is_named key (key_name k) ≡ true) same (named_own key)

named_same : (key other : Key) → is_named key (key_name other) ≡ true → key ≡ other
named_same key other is =
    let behind = second_of (nat_eq key.epoch other.epoch) _ is in
    let last = second_of (nat_eq key.client other.client) _ behind in
    same_key key other
    (eqb-true key.epoch other.epoch (first_of (nat_eq key.epoch other.epoch) _ is))
    (eqb-true key.client other.client (first_of (nat_eq key.client other.client) _ behind))
    (eqb-true key.incarnation other.incarnation (first_of (nat_eq key.incarnation other.incarnation) _ last))
    (eqb-true key.number other.number (second_of (nat_eq key.incarnation other.incarnation) _ last))

pub named_apart : (key other : Key) → (key ≡ other → ⊥) → is_named key (key_name other) ≡ false
named_apart key other apart =
    elim (is_named key (key_name other)) as (λ b. is_named key (key_name other) ≡ b → b ≡ false) [
      | true ↦ λ is. absurd (apart (named_same key other is))
      | false ↦ λ is. refl
    ] refl
