-- What a write at a key leaves: that key's fate, and those of all others.
use Rattle.std.proofs.Common.{◌≡◌, ◌&&◌, ◌∙◌, Bool, true, false, cond, is_some, Option, Some, None, ap, refl}
use Rattle.std.proofs.Common.{subst}
use Rattle.std.proofs.Common.{sym, nat_eq, unwrap_or, option_map}
use Rattle.std.specs.Map.{lookup}
use Rattle.rv_text.specs.declared.message.Key.{Key}
use Rattle.rv_text.specs.declared.answer.Reply.{Reply}
use Rattle.rv_replies.specs.Ending.{ended_by}
use Rattle.rv_replies.specs.findings.Names.{key_name}
use Rattle.rv_replies.specs.Known.{AsksAbout, fate_in}
use Rattle.rv_replies.specs.Noting.{Changes}
use Rattle.rv_replies.specs.declared.findings.fate.Fate.{Fate}
use Rattle.rv_replies.specs.declared.findings.fate.Fate.TheVariants.{Unnamed}
use Rattle.rv_replies.specs.declared.fates.Fates.{Fates}
use Rattle.rv_replies.specs.declared.findings.name.Name.{Name}
use Rattle.rv_replies.proofs.OfFindings.Names.{named_apart, named_own}

abbrev same : Name → Name → Bool
same a b =
    nat_eq a.epoch b.epoch
    && (nat_eq a.client b.client && (nat_eq a.incarnation b.incarnation && nat_eq a.number b.number))

none_of : (o : Option Fate) → is_some o ≡ false → o ≡ None
none_of None is = refl
none_of (Some fate) is = absurd (let no : ⊥ = cc in no)

mapped_same : (o : Option Fate) → o ≡ option_map (λ (fate : Fate). fate) o
mapped_same None = refl
mapped_same (Some fate) = refl

-- what isn't known stays, however it would change
pub unknown_stays : (f : Fates) (key : Key) (change : Fate → Fate) → is_some (fate_in f key) ≡ false
    → Changes f f key change
unknown_stays f key change is =
    let none = none_of (fate_in f key) is in
    record { own = none ∙ sym (ap (option_map change) none); others = λ other apart. refl }

-- who is told nothing stays
pub untold_stays : (f : Fates) (key : Key) (told : Option Reply) → told ≡ None
    → Changes f f key (ended_by told)
untold_stays f key told is =
    subst (λ t. Changes f f key (ended_by t)) (sym is)
    (record { own = mapped_same (fate_in f key); others = λ other apart. refl })

-- a key that is known stays so
pub known_asks : (f : Fates) (key : Key) → is_some (fate_in f key) ≡ true → AsksAbout f f key
known_asks f key is = record { own = own (fate_in f key) is; others = λ other apart. refl }
  where
    own : (o : Option Fate) → is_some o ≡ true → o ≡ Some (unwrap_or o Unnamed)
    own None is = absurd (let none : ⊥ = cc in none)
    own (Some fate) is = refl

module _ (old new : Fates) (key : Key) (name : Name) (is : name ≡ key_name key) where
  -- the write leaves this at the name
  abbrev Puts : Fate → Type 0
  Puts fate = (q : Name) → lookup (same q) new.fates.entries
      ≡ cond (same name q) (Some fate) (lookup (same q) old.fates.entries)

  put_own : (fate : Fate) → Puts fate → fate_in new key ≡ Some fate
  put_own fate puts =
      puts (key_name key)
      ∙ ap (λ b. cond b (Some fate) (fate_in old key))
      (subst (λ n. same n (key_name key) ≡ true) (sym is) (named_own key))

  put_other : (fate : Fate) → Puts fate → (other : Key) → (other ≡ key → ⊥)
      → fate_in new other ≡ fate_in old other
  put_other fate puts other apart =
      puts (key_name other)
      ∙ ap (λ b. cond b (Some fate) (fate_in old other))
      (subst (λ n. same n (key_name other) ≡ false) (sym is) (named_apart key other (λ e. apart (sym e))))

  pub put_asks : is_some (fate_in old key) ≡ false → Puts Unnamed → AsksAbout old new key
  put_asks unknown puts =
      let none = none_of (fate_in old key) unknown in
      record {
        own = put_own Unnamed puts ∙ sym (ap (λ o. Some (unwrap_or o Unnamed)) none);
        others = put_other Unnamed puts;
      }

  pub put_changes : (change : Fate → Fate) (was now : Fate) → Some was ≡ lookup (same name) old.fates.entries
      → now ≡ change was → Puts now → Changes old new key change
  put_changes change was now read wrote puts =
      let there : fate_in old key ≡ Some was =
      sym (read ∙ ap (λ n. lookup (same n) old.fates.entries) is) in
      record {
        own = put_own now puts ∙ ap Some wrote ∙ sym (ap (option_map change) there);
        others = put_other now puts;
      }
