-- What the tokens of an object and of a list are printed as.
use Rattle.std.proofs.Common.{◌≡◌, ℕ, List, [], ◌∷◌, ◌++◌, map, refl, sym, ap, ◌∙◌, append_assoc}
use Rattle.json.specs.Print.{print}
use Rattle.json.specs.Token as token
use Rattle.json.specs.Token.{Token, begin_object, key, begin_array, end_array}
use Rattle.json.specs.Tree.{items_tokens, members_tokens}
use Rattle.serde_json.specs.Data.{string, array, object, Members, member}
use Rattle.serde_json.specs.View.{items_of}
use Rattle.serde_json.specs.Written.{items_outline, members_outline, compact_text}
use Rattle.serde_json.proofs.Texts.{print-outline}

-- an object's text begins with its bracket
pub text_begun : (begun : List Token) → begun ≡ begin_object ∷ [] → (ms : Members)
    → print (begun ++ members_tokens (members_outline ms)) ≡ compact_text (object ms)
text_begun begun is ms =
    ap (λ ts. print (ts ++ members_tokens (members_outline ms))) is ∙ print-outline (object ms)

-- a list of texts has a token for each, and its bracket
texts_tokens : (texts : List (List ℕ)) (ts : List Token)
    → items_tokens (items_outline (items_of (map string texts))) ++ ts
    ≡ map (λ text. token.string text) texts ++ end_array ∷ ts
texts_tokens [] ts = refl
texts_tokens (s ∷ texts) ts = ap (λ later. token.string s ∷ later) (texts_tokens texts ts)

regrouped : (old texts rest : List Token) (k b e : Token)
    → ((((old ++ k ∷ []) ++ b ∷ []) ++ texts) ++ e ∷ []) ++ rest ≡ old ++ k ∷ b ∷ (texts ++ e ∷ rest)
regrouped old texts rest k b e = simp append_assoc

-- a list of texts that is written token by token is a member
pub list_written : (old named begun each ended : List Token) (name : List ℕ) (texts : List (List ℕ))
    → named ≡ old ++ key name ∷ []
    → begun ≡ named ++ begin_array ∷ []
    → each ≡ begun ++ map (λ text. token.string text) texts
    → ended ≡ each ++ end_array ∷ []
    → (rest : Members) → print (ended ++ members_tokens (members_outline rest))
    ≡ print (old ++ members_tokens (members_outline (member name (array (items_of (map string texts))) rest)))
list_written old named begun each ended name texts key_is open_is each_is close_is rest =
    let ts = members_tokens (members_outline rest) in
    let strings = map (λ text. token.string text) texts in
    let all : ended ≡ (((old ++ key name ∷ []) ++ begin_array ∷ []) ++ strings) ++ end_array ∷ [] = cc in
    ap print
    (ap (λ l. l ++ ts) all
    ∙ regrouped old strings ts (key name) begin_array end_array
    ∙ ap (λ l. old ++ key name ∷ begin_array ∷ l) (sym (texts_tokens texts ts)))
