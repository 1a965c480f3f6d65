-- An entry keeps an account's pairs exactly where its partners are those that the state says.
use Rattle.rv_account.proofs.OfState.Words.{◌≡◌, ◌∙◌, ℕ, zero, suc, List, [], take, length, Option, Some}
use Rattle.rv_account.proofs.OfState.Words.{None, refl}
use Rattle.rv_account.proofs.OfState.Words.{sym, ap, subst, arith, none-some, same_Some, Call, Side, Key}
use Rattle.rv_account.proofs.OfState.Words.{side_of, Act}
use Rattle.rv_account.proofs.OfState.Words.{Arrive, Cancel, Hello, Tick, Entry, Account, call_in, may_name}
use Rattle.rv_account.proofs.OfState.Words.{opposite}
use Rattle.rv_account.proofs.OfState.Words.{MayFollow, OpenAt, OpenPlace, State, line, line_of, place_list}
use Rattle.rv_account.proofs.OfState.Words.{partners_of}
use Rattle.rv_account.proofs.OfState.Words.{IsStateOf}
use Rattle.std.proofs.lemmas.List.{take-map}
use Rattle.rv_account.specs.Account.{entry}
use Rattle.rv_account.specs.rules.Legal.{KeepsPairs}
use Rattle.rv_account.proofs.OfRules.FrontPairs.{front_pairs}
use Rattle.rv_account.proofs.OfRules.Naming.{just_none, just_rises}
use Rattle.rv_account.proofs.OfRules.SamePartners.{same_partners}
use Rattle.rv_account.proofs.OfState.Lined.{line_count}
use Rattle.rv_account.proofs.OfState.SideLines.{line_is}

-- ---- who names nobody

alone_pairs : (es : List Entry) (moment : ℕ) (key : Key) (call : Call) → opposite (side_of call) ≡ None
    → KeepsPairs es (entry moment (Arrive key call) [])
alone_pairs es moment key call looks = record {
  names_free_partners = record {
    rising = just_rises None;
    few = λ theirs calls. omega arith;
    free = λ p names. absurd (just_none (entry moment (Arrive key call) []) p refl names);
  };
  pairs_opposites =
      λ p theirs names calls meets. absurd (just_none (entry moment (Arrive key call) []) p refl names);
  pairs_oldest = λ p r side names at less there. absurd
      (just_none (entry moment (Arrive key call) []) p refl names);
  pairs_where_possible = λ r theirs calls fewer partner.
      absurd (none-some partner.side
      (sym looks ∙ ap (λ c. opposite (side_of c)) (same_Some _ _ calls) ∙ partner.opposes));
}

quiet_pairs : (es : List Entry) (moment : ℕ) (does : Act) → call_in does ≡ None
    → KeepsPairs es (entry moment does [])
quiet_pairs es moment does no_call = record {
  names_free_partners = record {
    rising = just_rises None;
    few = λ call calls. absurd (none-some call (sym no_call ∙ calls));
    free = λ p names. absurd (just_none (entry moment does []) p refl names);
  };
  pairs_opposites = λ p call names calls meets. absurd (just_none (entry moment does []) p refl names);
  pairs_oldest = λ p r side names at less opened. absurd (just_none (entry moment does []) p refl names);
  pairs_where_possible = λ r call calls fewer opposes. absurd (none-some call (sym no_call ∙ calls));
}

-- ---- the pairs of the state's partners

front_none : (n : ℕ) → ◌≡◌ {A = List OpenPlace} (take n []) []
front_none zero = refl
front_none (suc n) = refl

-- of a line the first so many
arrival_pairs : (a : Account) (s : State) (moment : ℕ) (key : Key) (call : Call) (o : Option Side)
    → IsStateOf a s → opposite (side_of call) ≡ o
    → KeepsPairs a.entries (entry moment (Arrive key call) (place_list (take (may_name call) (line_of s o))))
arrival_pairs a s moment key call None state looks =
    subst (λ (front : List OpenPlace). KeepsPairs a.entries
    (entry moment (Arrive key call) (place_list front))) (sym (front_none (may_name call)))
    (alone_pairs a.entries moment key call looks)
arrival_pairs a s moment key call (Some side) state opposes =
    subst (λ (places : List ℕ). KeepsPairs a.entries (entry moment (Arrive key call) places))
    (take-map (λ (o : OpenPlace). o.place) (may_name call) (line s side))
    (front_pairs a.entries moment key call side (length (place_list (line s side))) opposes
    (line_count (OpenAt a.entries side) (place_list (line s side)) (line_is a s state side)))

pub partners_keep_pairs : (a : Account) (s : State) (moment : ℕ) (does : Act) → IsStateOf a s
    → KeepsPairs a.entries (entry moment does (partners_of s does))
partners_keep_pairs a s moment (Hello client incarnation version) state =
    quiet_pairs a.entries moment (Hello client incarnation version) refl
partners_keep_pairs a s moment (Arrive key call) state =
    arrival_pairs a s moment key call (opposite (side_of call)) state refl
partners_keep_pairs a s moment (Cancel key) state = quiet_pairs a.entries moment (Cancel key) refl
partners_keep_pairs a s moment Tick state = quiet_pairs a.entries moment Tick refl

-- ---- both

pub pairs_fit : (a : Account) (s : State) (e : Entry) → IsStateOf a s → MayFollow a e
    → e.partners ≡ partners_of s e.act
pairs_fit a s e state follows =
    same_partners a e (entry e.moment e.act (partners_of s e.act)) follows
    (record {
      moments = follows.moments;
      numbers = follows.numbers;
      pairs = partners_keep_pairs a s e.moment e.act state;
    })
    refl

pub fitting_pairs : (a : Account) (s : State) (e : Entry) → IsStateOf a s → e.partners ≡ partners_of s e.act
    → KeepsPairs a.entries e
fitting_pairs a s e state is =
    subst (λ (places : List ℕ). KeepsPairs a.entries (entry e.moment e.act places)) (sym is)
    (partners_keep_pairs a s e.moment e.act state)
