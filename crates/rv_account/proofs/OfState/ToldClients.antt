-- What telling those that an entry settles makes of the clients, one by one.
use Rattle.rv_account.proofs.OfState.Words.{◌≡◌, ◌⊎◌, ◌∷◌, ◌∙◌, nat_eq, get, nat_cmp, inl, inr, ℕ, zero}
use Rattle.rv_account.proofs.OfState.Words.{suc, Bool}
use Rattle.rv_account.proofs.OfState.Words.{true, false, List, [], Option, Some, None, option_map, refl}
use Rattle.rv_account.proofs.OfState.Words.{sym, ap}
use Rattle.rv_account.proofs.OfState.Words.{slice_get, eq-eqb, eqb-true, none-some, same_Some, Call, Reply}
use Rattle.rv_account.proofs.OfState.Words.{ClientState}
use Rattle.rv_account.proofs.OfState.Words.{LastRequest, RepliedTo, Waits, Settled}
use Rattle.std.specs.Prelude.{cond}
use Rattle.std.specs.FinMap.{FinMap, get-insert, insert}
use Rattle.std.specs.Cmp.{nat_cmp_total, unsigned_tied}
use Rattle.std.proofs.lemmas.Bool.{eqb-false}
use Rattle.rv_account.specs.state.After.{answered, insert_told, tell, tell_all, with_request}

-- ---- a map with one key more

pub get_own : {X : Type 0} (m : FinMap nat_cmp X) (k : ℕ) (v : X) (q : ℕ) → q ≡ k
    → get (insert m k v) q ≡ Some v
get_own m k v q same =
    get-insert nat_cmp_total m k v q
    ∙ ap (λ b. cond b (Some v) (get m q)) (unsigned_tied q k ∙ eq-eqb q k same)

differs : (q k : ℕ) → (q ≡ k → ⊥) → nat_eq q k ≡ false
differs q k other =
    elim (nat_eq q k) as (λ b. nat_eq q k ≡ b → b ≡ false) [
      | true ↦ λ is. absurd (other (eqb-true q k is))
      | false ↦ λ is. refl
    ] refl

pub get_other : {X : Type 0} (m : FinMap nat_cmp X) (k : ℕ) (v : X) (q : ℕ) → (q ≡ k → ⊥)
    → get (insert m k v) q ≡ get m q
get_other m k v q other =
    get-insert nat_cmp_total m k v q
    ∙ ap (λ b. cond b (Some v) (get m q)) (unsigned_tied q k ∙ differs q k other)

-- ---- the clients that are told

-- what those that are settled make of a request of a client
abbrev pub told_request : List Settled → ℕ → LastRequest → LastRequest
told_request [] c request = request
told_request (x ∷ xs) c request =
    told_request xs c (cond (nat_eq c x.key.client) (answered x.reply request) request)

abbrev told_once : Settled → Bool → ClientState → ClientState
told_once x b session = with_request session (cond b (answered x.reply session.request) session.request)

unchanged : (o : Option ClientState) → option_map (λ session. with_request session session.request) o ≡ o
unchanged None = refl
unchanged (Some session) = refl

get_insert_told : (m : FinMap nat_cmp ClientState) (x : Settled) (c : ℕ) (o : Option ClientState) (b : Bool)
    → get m x.key.client ≡ o → nat_eq c x.key.client ≡ b
    → get (insert_told m x o) c ≡ option_map (told_once x b) (get m c)
get_insert_told m x c None true there is =
    let none : get m c ≡ None = ap (get m) (eqb-true c x.key.client is) ∙ there in
    none ∙ sym (ap (option_map (told_once x true)) none)
get_insert_told m x c None false there is = sym (unchanged (get m c))
get_insert_told m x c (Some session) true there is =
    let same : c ≡ x.key.client = eqb-true c x.key.client is in
    get_own m x.key.client (told_once x true session) c same
    ∙ sym (ap (option_map (told_once x true)) (ap (get m) same ∙ there))
get_insert_told m x c (Some session) false there is =
    get_other m x.key.client (told_once x true session) c (eqb-false c x.key.client is)
    ∙ sym (unchanged (get m c))

get_tell : (m : FinMap nat_cmp ClientState) (x : Settled) (c : ℕ)
    → get (tell m x) c ≡ option_map (told_once x (nat_eq c x.key.client)) (get m c)
get_tell m x c = get_insert_told m x c (get m x.key.client) (nat_eq c x.key.client) refl refl

abbrev pub told_client : List Settled → ℕ → ClientState → ClientState
told_client xs c session = with_request session (told_request xs c session.request)

told_behind : (x : Settled) (xs : List Settled) (c : ℕ) (o : Option ClientState)
    → option_map (told_client xs c) (option_map (told_once x (nat_eq c x.key.client)) o)
    ≡ option_map (told_client (x ∷ xs) c) o
told_behind x xs c None = refl
told_behind x xs c (Some session) = refl

pub get_tell_all : (xs : List Settled) (m : FinMap nat_cmp ClientState) (c : ℕ)
    → get (tell_all m xs) c ≡ option_map (told_client xs c) (get m c)
get_tell_all [] m c = sym (unchanged (get m c))
get_tell_all (x ∷ xs) m c =
    get_tell_all xs (tell m x) c ∙ ap (option_map (told_client xs c)) (get_tell m x c)
    ∙ told_behind x xs c (get m c)

-- ---- a request that is told

cond_same : (b : Bool) (x y : LastRequest) → x ≡ y → cond b x y ≡ y
cond_same true x y same = same
cond_same false x y same = refl

-- what no reply changes stays
pub told_still : (request : LastRequest) → ((reply : Reply) → answered reply request ≡ request)
    → (xs : List Settled) (c : ℕ) → told_request xs c request ≡ request
told_still request still [] c = refl
told_still request still (x ∷ xs) c =
    ap (told_request xs c)
    (cond_same (nat_eq c x.key.client) (answered x.reply request) request (still x.reply))
    ∙ told_still request still xs c

-- no request of the client is settled, and one that waits goes on waiting
pub record IsUntold (xs : List Settled) (c place : ℕ) (call : Call) : Type 0 where
  pub none : (i : ℕ) (x : Settled) → slice_get xs i ≡ Some x → x.key.client ≡ c → ⊥
  pub is : told_request xs c (Waits place call) ≡ Waits place call

-- one is, and has its reply
pub record IsToldBy (xs : List Settled) (c place : ℕ) (call : Call) : Type 0 where
  pub i : ℕ
  pub settled : Settled
  pub there : slice_get xs i ≡ Some settled
  pub of_client : settled.key.client ≡ c
  pub is : told_request xs c (Waits place call) ≡ RepliedTo call settled.reply

untold_behind : (x : Settled) (xs : List Settled) (c place : ℕ) (call : Call) → nat_eq c x.key.client ≡ false
    → IsUntold xs c place call → IsUntold (x ∷ xs) c place call
untold_behind x xs c place call other untold =
    record {
      none = none;
      is = ap (λ b. told_request xs c (cond b (answered x.reply (Waits place call)) (Waits place call))) other
          ∙ untold.is;
    }
  where
    none : (i : ℕ) (y : Settled) → slice_get (x ∷ xs) i ≡ Some y → y.key.client ≡ c → ⊥
    none zero y there of_client =
        eqb-false c x.key.client other
        (sym (ap (λ (z : Settled). z.key.client) (same_Some x y there) ∙ of_client))
    none (suc i) y there of_client = untold.none i y there of_client

told_behind_one : (x : Settled) (xs : List Settled) (c place : ℕ) (call : Call)
    → nat_eq c x.key.client ≡ false → IsToldBy xs c place call → IsToldBy (x ∷ xs) c place call
told_behind_one x xs c place call other told =
    record {
      i = suc told.i;
      settled = told.settled;
      there = told.there;
      of_client = told.of_client;
      is = ap (λ b. told_request xs c (cond b (answered x.reply (Waits place call)) (Waits place call))) other
          ∙ told.is;
    }

told_first : (x : Settled) (xs : List Settled) (c place : ℕ) (call : Call) → nat_eq c x.key.client ≡ true
    → IsToldBy (x ∷ xs) c place call
told_first x xs c place call own =
    record {
      i = 0;
      settled = x;
      there = refl;
      of_client = sym (eqb-true c x.key.client own);
      is = ap (λ b. told_request xs c (cond b (answered x.reply (Waits place call)) (Waits place call))) own
          ∙ told_still (RepliedTo call x.reply) (λ reply. refl) xs c;
    }

pub told_or_waits : (xs : List Settled) (c place : ℕ) (call : Call)
    → IsUntold xs c place call ⊎ IsToldBy xs c place call
told_or_waits [] c place call = inl (record { none = λ i x there of_client. none-some x there; is = refl })
told_or_waits (x ∷ xs) c place call =
    elim (nat_eq c x.key.client) as (λ b. nat_eq c x.key.client ≡ b
    → IsUntold (x ∷ xs) c place call ⊎ IsToldBy (x ∷ xs) c place call) [
      | true ↦ λ own. inr (told_first x xs c place call own)
      | false ↦ λ other. elim (told_or_waits xs c place call) [
        | inl untold ↦ inl (untold_behind x xs c place call other untold)
        | inr told ↦ inr (told_behind_one x xs c place call other told)
      ]
    ] refl
