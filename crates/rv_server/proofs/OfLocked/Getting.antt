-- What is got by asking the desk once, and where it isn't asked.
use Rattle.std.proofs.Common.{◌∙◌, ◌≡◌, ◌∷◌, ◌++◌, [], ℕ, List, append-nil, ap, arith, refl, subst}
use Rattle.std.proofs.Common.{sym}
use Rattle.std.proofs.lemmas.List.{map-append}
use Rattle.std.proofs.lemmas.List.Elements.{All-cons, All-nil}
use Rattle.rv_text.specs.declared.message.Message.{Message}
use Rattle.rv_text.specs.Bodies.{IsMessageBody}
use Rattle.rv_text.specs.Limits.{FitsAnswer}
use Rattle.rv_server.specs.locked.Asking.{GetsStamps, GetsTold, IsAsked, TellsFrame, TellsStamp}
use Rattle.rv_server.specs.locked.Stamps.{Numbered, Stamped, shown_stamps}
use Rattle.rv_server.specs.locked.FrameStamps.{IsFor, IsWaiting}
use Rattle.rv_server.specs.declared.locked.asking.FrameAnswer.{FrameAnswer}
use Rattle.rv_server.specs.declared.locked.asking.FrameAnswer.TheVariants.{BadText, NoMemory, Said}

pub nothing_got : (number : ℕ) (body : List ℕ) (share : ℕ) (old : List Numbered)
    → GetsStamps number body share old share old []
nothing_got number body share old = record {
  behind = sym (append-nil old);
  own = record { each = All-nil (IsFor number body); waited = tt };
  adds = omega arith;
  cover = tt;
}

-- the desk wasn't asked
pub nothing_told : (number : ℕ) (body : List ℕ) (share : ℕ) (old new : List Numbered) (told : FrameAnswer)
    → new ≡ old → TellsFrame body [] told
    → GetsTold number body share old share new told
nothing_told number body share old new told same tells = record {
  got = [];
  gets = subst (λ (l : List Numbered). GetsStamps number body share old share l []) (sym same)
      (nothing_got number body share old);
  tells = tells;
}

-- what a stamp shows comes after what those before it show
pub pushed_shown : {S : Type 0} (stamped : S → Stamped) (number : ℕ) (stamp : S) (old room new : List (ℕ × S))
    → room ≡ old → new ≡ room ++ (number, stamp) ∷ []
    → shown_stamps stamped new ≡ shown_stamps stamped old ++ (number, stamped stamp) ∷ []
pushed_shown {S} stamped number stamp old room new same pushed =
    ap (shown_stamps stamped) (pushed ∙ ap (λ (l : List (ℕ × S)). l ++ (number, stamp) ∷ []) same)
    ∙ map-append (λ (s : ℕ × S). (s.0, stamped s.1)) old ((number, stamp) ∷ [])

-- the answer of the one stamp that was got
tells_one : (number : ℕ) (body : List ℕ) (stamp : Stamped) (told : FrameAnswer) → TellsStamp stamp told
    → FitsAnswer stamp.said → TellsFrame body ((number, stamp) ∷ []) told
tells_one number body stamp BadText tells fits = absurd tells
tells_one number body stamp NoMemory tells fits = tt
tells_one number body stamp (Said answer) said fits = (
  record {
    front = [];
    last = (number, stamp);
    are = refl;
    said = sym said;
    waited = All-nil (λ (s : Numbered). IsWaiting s.1.said);
  },
  subst FitsAnswer (sym said) fits,
)

-- the desk handled the message of the body
pub asked_told : {S : Type 0} (stamped : S → Stamped) (number : ℕ) (body : List ℕ) (message : Message)
    (share share' : ℕ) (old new : List Numbered) (result : S × FrameAnswer)
    → IsMessageBody body message → IsAsked stamped message share share' result
    → new ≡ old ++ (number, stamped result.0) ∷ []
    → GetsTold number body share old share' new result.1
asked_told stamped number body message share share' old new result is asked behind = record {
  got = (number, stamped result.0) ∷ [];
  gets = record {
    behind = behind;
    own = record {
      each = All-cons (IsFor number body) (number, stamped result.0) [] (record {
        number_is = refl;
        asked = subst (IsMessageBody body) (sym asked.asked) is;
        grows = asked.grows;
      }) (All-nil (IsFor number body));
      waited = tt;
    };
    adds = omega (arith, asked.adds);
    cover = (omega (arith, asked.adds, asked.within), tt);
  };
  tells = tells_one number body (stamped result.0) result.1 asked.told asked.fits;
}
