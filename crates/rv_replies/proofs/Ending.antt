-- The replies of those that an entry settles, told one after the other.
use Rattle.rv_replies.proofs.Words.{◌++◌, ◌≡◌, ◌∙◌, ◌∷◌, [], List, None, Option, Some, ap, inl, inr}
use Rattle.rv_replies.proofs.Words.{refl}
use Rattle.rv_replies.proofs.Words.{option_map, subst, sym, ℕ, length, slice_get, none-some}
use Rattle.rv_replies.proofs.Words.{Reply, Key, ended_by, fate_in, Changes, EndsEach, Turns}
use Rattle.rv_replies.proofs.Words.{Fate, Fates}
use Rattle.std.proofs.Common.{◌+◌, ◌<◌, add-one, get_or, take}
use Rattle.std.proofs.Math.Seq.{take-length, take-suc}
use Rattle.rv_account.proofs.OfRules.Deciding.{key_or_other}
use Rattle.rv_account.proofs.OfRules.Places.{get-append, get-append_cases, get-append_end}
use Rattle.rv_replies.specs.declared.findings.fate.Fate.TheVariants.{CancelledUnseen, RepliedTo, Unnamed}
use Rattle.rv_replies.specs.declared.findings.fate.Fate.TheVariants.{Waits}

ended_twice : (told : Option Reply) (fate : Fate) → ended_by told (ended_by told fate) ≡ ended_by told fate
ended_twice None fate = refl
ended_twice (Some reply) Unnamed = refl
ended_twice (Some reply) (Waits call) = refl
ended_twice (Some reply) (RepliedTo call other) = refl
ended_twice (Some reply) CancelledUnseen = refl

turned_twice : (told : Option Reply) (o : Option Fate)
    → option_map (ended_by told) (option_map (ended_by told) o) ≡ option_map (ended_by told) o
turned_twice told None = refl
turned_twice told (Some fate) = ap Some (ended_twice told fate)

pub ends_none : (f : Fates) (told : Key → Option Reply) → EndsEach f f [] told
ends_none f told = record {
  either = λ key. inl refl;
  done = λ i key at. absurd (none-some key at);
  rest = λ key other. refl;
}

module _ (old now next : Fates) (keys : List Key) (key : Key) (told : Key → Option Reply)
    (ends : EndsEach old now keys told) (changes : Changes now next key (ended_by (told key))) where
  own_turns : Turns old next key (ended_by (told key))
  own_turns = elim (ends.either key) [
    | inl stays ↦ changes.own ∙ ap (option_map (ended_by (told key))) stays
    | inr turns ↦
        changes.own ∙ ap (option_map (ended_by (told key))) turns
        ∙ turned_twice (told key) (fate_in old key)
  ]

  at_own : (other : Key) → other ≡ key → Turns old next other (ended_by (told other))
  at_own other same = subst (λ (k : Key). Turns old next k (ended_by (told k))) (sym same) own_turns

  next_done : (i : ℕ) (other : Key) → slice_get (keys ++ key ∷ []) i ≡ Some other
      → Turns old next other (ended_by (told other))
  next_done i other at = elim (key_or_other other key) [
    | inl same ↦ at_own other same
    | inr apart ↦ elim (get-append_cases keys key other i at) [
      | inl inside ↦ changes.others other apart ∙ ends.done i other inside.1
      | inr last ↦ absurd (apart (sym last.1))
    ]
  ]

  pub ends_next : EndsEach old next (keys ++ key ∷ []) told
  ends_next = record {
    either = λ other. elim (key_or_other other key) [
      | inl same ↦ inr (at_own other same)
      | inr apart ↦ elim (ends.either other) [
        | inl stays ↦ inl (changes.others other apart ∙ stays)
        | inr turns ↦ inr (changes.others other apart ∙ turns)
      ]
    ];
    done = next_done;
    rest = λ other none.
        changes.others other (λ same. none (length keys) (get-append_end keys key ∙ ap Some (sym same)))
        ∙ ends.rest other (λ i at. none i (get-append keys (key ∷ []) i other at));
  }

-- ---- a loop over the keys

pub ends_step : (old now next : Fates) (keys : List Key) (n : ℕ) (d : Key) (told : Key → Option Reply)
    → n < length keys → EndsEach old now (take n keys) told
    → Changes now next (get_or keys n d) (ended_by (told (get_or keys n d)))
    → EndsEach old next (take (n + 1) keys) told
ends_step old now next keys n d told inside ends changes =
    subst (λ front. EndsEach old next front told)
    (sym (ap (λ m. take m keys) (add-one n) ∙ take-suc keys n d inside))
    (ends_next old now next (take n keys) (get_or keys n d) told ends changes)

pub ends_all : (old now : Fates) (keys : List Key) (told : Key → Option Reply)
    → EndsEach old now (take (length keys) keys) told → EndsEach old now keys told
ends_all old now keys told ends = subst (λ all. EndsEach old now all told) (take-length keys) ends
