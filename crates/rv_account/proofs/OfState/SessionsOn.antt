-- What one more entry leaves of a client's session: all of it where the entry is of another, the key's number
-- where it names a key of the client, and a new session after a hello.
use Rattle.rv_account.proofs.OfState.Words.{◌≡◌, ◌<◌, ◌≤◌, ◌∷◌, ◌++◌, ◌∙◌, inl, inr, ℕ, List, [], length}
use Rattle.rv_account.proofs.OfState.Words.{Some, refl}
use Rattle.rv_account.proofs.OfState.Words.{sym, ap, arith, none-some, same_Some, Version, Key, Act, Hello}
use Rattle.rv_account.proofs.OfState.Words.{Tick, Entry}
use Rattle.rv_account.proofs.OfState.Words.{act_at, key_in, LastNumber, SaidHello, act_read, reads_back}
use Rattle.rv_account.proofs.OfState.Words.{reads_within}
use Rattle.rv_account.proofs.OfState.Words.{key_read, get-append_end}
use Rattle.rv_account.specs.Account.{key_at}
use Rattle.rv_account.specs.rules.Sessions.{HasOpened, LastHello}
use Rattle.rv_account.proofs.OfRules.Keys.{LastHello-on, NamesKey-back, NamesKey-on, client_of, hello_is_own}
use Rattle.rv_account.proofs.OfRules.Keys.{key_is_own, tick_no_hello}
use Rattle.rv_account.proofs.OfRules.Versions.{HasOpened-on}

-- the session of the client has this incarnation, this version and this last number
pub record IsAt (es : List Entry) (c i : ℕ) (v : Version) (n : ℕ) : Type 0 where
  pub opened : HasOpened es c i v
  pub number : LastNumber es c n

-- the act is no hello of the client and names no key of it
pub record IsApart (does : Act) (client : ℕ) : Type 0 where
  pub no_hello : (incarnation : ℕ) (version : Version)
      → Some does ≡ Some (Hello client incarnation version) → ⊥
  pub no_key : (key : Key) → key_in does ≡ Some key → key.client ≡ client → ⊥

-- an act of another client is apart, and so is a tick
pub other_apart : (does : Act) (client : ℕ) → (client_of does ≡ client → ⊥) → IsApart does client
other_apart does client other =
    record {
      no_hello = λ incarnation version own. other (hello_is_own does client incarnation version own);
      no_key = λ key names of_client. other (key_is_own does key names ∙ of_client);
    }

pub tick_apart : (client : ℕ) → IsApart Tick client
tick_apart client =
    record {
      no_hello = λ incarnation version own. tick_no_hello client incarnation version own;
      no_key = λ key names of_client. none-some key names;
    }

-- the session of another client than the entry's stays
pub IsAt-on : (es : List Entry) (e : Entry) (c i : ℕ) (v : Version) (n : ℕ) → IsApart e.act c
    → IsAt es c i v n → IsAt (es ++ e ∷ []) c i v n
IsAt-on es e c i v n apart is =
    let no_hello_of = apart.no_hello in
    record {
      opened = HasOpened-on es e c i v no_hello_of is.opened;
      number = record {
        incarnation = is.number.incarnation;
        h = is.number.h;
        hello = LastHello-on es e c is.number.incarnation is.number.h no_hello_of is.number.hello;
        greatest = λ r key later names. elim (NamesKey-back es e c r key names) [
          | inl inside ↦ is.number.greatest r key later inside
          | inr own ↦ absurd (apart.no_key key own.1 names.of_client)
        ];
        reached = elim is.number.reached [
          | inl none ↦ inl none
          | inr there ↦ inr (
            there.0,
            there.1,
            there.2,
            NamesKey-on es (e ∷ []) c there.0 there.1 there.3,
            there.4,
          )
        ];
      };
    }

-- an act that names a key is no hello
pub names_no_hello : (does : Act) (key : Key) (c i : ℕ) (v : Version) → key_in does ≡ Some key
    → Some does ≡ Some (Hello c i v) → ⊥
names_no_hello does key c i v names own = none-some key (sym (ap key_in (same_Some _ _ own)) ∙ names)

-- after an entry that names a key its number is the session's last
pub named_at : (es : List Entry) (e : Entry) (key : Key) (i : ℕ) (v : Version) (n : ℕ)
    → key_in e.act ≡ Some key → IsAt es key.client i v n → n ≤ key.number
    → IsAt (es ++ e ∷ []) key.client i v key.number
named_at es e key i v n is session above =
    let no_hello_of = λ (j : ℕ) (w : Version). names_no_hello e.act key key.client j w is in
    let last : key_at (es ++ e ∷ []) (length es) ≡ Some key = ap key_read (get-append_end es e) ∙ is in
    let hello = session.number.hello in
    let inside : session.number.h < length es =
    reads_within act_read refl es session.number.h _ hello.hello in
    record {
      opened = HasOpened-on es e key.client i v no_hello_of session.opened;
      number = record {
        incarnation = session.number.incarnation;
        h = session.number.h;
        hello = LastHello-on es e key.client session.number.incarnation session.number.h no_hello_of hello;
        greatest = λ r other later names. elim (NamesKey-back es e key.client r other names) [
          | inl before ↦
              let bound : other.number ≤ n = session.number.greatest r other later before in
              omega arith
          | inr own ↦
              let same : key.number ≡ other.number =
              ap (λ (k : Key). k.number) (same_Some _ _ (sym is ∙ own.1)) in
              omega arith
        ];
        reached = inr (length es, key, inside, record { named = last; of_client = refl }, refl);
      };
    }

-- after a hello the session is new
pub greeted_at : (es : List Entry) (e : Entry) (c i : ℕ) (v : Version) → e.act ≡ Hello c i v
    → IsAt (es ++ e ∷ []) c i v 0
greeted_at es e c i v is =
    let own : act_at (es ++ e ∷ []) (length es) ≡ Some (Hello c i v) =
    ap act_read (get-append_end es e) ∙ ap Some is in
    let hello : LastHello (es ++ e ∷ []) c i (length es) = record {
      version = v;
      hello = own;
      last = λ r j w later there. elim (reads_back act_read refl es e r (Hello c j w) there) [
        | inl inside ↦ omega arith
        | inr last ↦ omega arith
      ];
    } in
    record {
      opened = record { h = length es; last = hello; version_is = refl };
      number = record {
        incarnation = i;
        h = length es;
        hello = hello;
        greatest = λ r key later names. elim (reads_back key_read refl es e r key names.named) [
          | inl inside ↦ absurd (omega arith)
          | inr last ↦ absurd (omega arith)
        ];
        reached = inl refl;
      };
    }

-- who said no hello said none with an entry that is none of its
pub no_hello_on : (es : List Entry) (e : Entry) (c : ℕ)
    → ((i : ℕ) (v : Version) → Some e.act ≡ Some (Hello c i v) → ⊥) → (SaidHello es c → ⊥)
    → SaidHello (es ++ e ∷ []) c → ⊥
no_hello_on es e c other none said =
    elim (reads_back act_read refl es e said.0 (Hello c said.1 said.2) said.3) [
      | inl inside ↦ none (said.0, said.1, said.2, inside.1)
      | inr last ↦ other said.1 said.2 last.1
    ]
