-- Whose session an act belongs to, and what one more entry leaves of hellos and keys.
use Rattle.rv_account.proofs.OfRules.Words.{◌++◌, ◌∙◌, ◌∷◌, ◌≡◌, ◌⊎◌, call_in, key_in, Act, Arrive, Cancel}
use Rattle.rv_account.proofs.OfRules.Words.{Hello, Tick}
use Rattle.rv_account.proofs.OfRules.Words.{Call, Version, Entry, LastHello, NamesKey, Key, List, None}
use Rattle.rv_account.proofs.OfRules.Words.{Option, Some}
use Rattle.rv_account.proofs.OfRules.Words.{[], ap, inl, inr, length, option_and_then, refl, ℕ, none-some}
use Rattle.rv_account.proofs.OfRules.Words.{same_Some}
use Rattle.rv_account.proofs.OfRules.Growing.{act_read, reads_back, reads_on}

abbrev pub key_read : Option Entry → Option Key
key_read o = option_and_then key_in (act_read o)

-- whose session an act belongs to; a tick is nobody's
abbrev pub client_of : Act → ℕ
client_of (Hello client incarnation version) = client
client_of (Arrive key call) = key.client
client_of (Cancel key) = key.client
client_of Tick = 0

-- ---- where a call stands, an arrival does; where a key stands, that or a cancel

pub act_named : (o : Option Act) (key : Key) → option_and_then key_in o ≡ Some key
    → ((call : Call) × (o ≡ Some (Arrive key call))) ⊎ (o ≡ Some (Cancel key))
act_named None key is = absurd (none-some key is)
act_named (Some (Hello client incarnation version)) key is = absurd (none-some key is)
act_named (Some (Arrive other call)) key is = inl (call, ap (λ k. Some (Arrive k call)) (same_Some _ _ is))
act_named (Some (Cancel other)) key is = inr (ap (λ k. Some (Cancel k)) (same_Some _ _ is))
act_named (Some Tick) key is = absurd (none-some key is)

pub act_called : (o : Option Act) (call : Call) → option_and_then call_in o ≡ Some call
    → (key : Key) × (o ≡ Some (Arrive key call))
act_called None call is = absurd (none-some call is)
act_called (Some (Hello client incarnation version)) call is = absurd (none-some call is)
act_called (Some (Arrive key other)) call is = (key, ap (λ c. Some (Arrive key c)) (same_Some _ _ is))
act_called (Some (Cancel key)) call is = absurd (none-some call is)
act_called (Some Tick) call is = absurd (none-some call is)

-- where both stand, the arrival has both
pub act_arrives : (o : Option Act) (key : Key) (call : Call) → option_and_then key_in o ≡ Some key
    → option_and_then call_in o ≡ Some call → o ≡ Some (Arrive key call)
act_arrives None key call names calls = absurd (none-some key names)
act_arrives (Some (Hello client incarnation version)) key call names calls = absurd (none-some key names)
act_arrives (Some (Arrive other more)) key call names calls = ap (λ k. Some (Arrive k more))
    (same_Some _ _ names) ∙ ap (λ c. Some (Arrive key c)) (same_Some _ _ calls)
act_arrives (Some (Cancel other)) key call names calls = absurd (none-some call calls)
act_arrives (Some Tick) key call names calls = absurd (none-some call calls)

-- ---- one more entry

pub no_hello : (key : Key) (call : Call) (c i : ℕ) (v : Version) → Some (Arrive key call) ≡ Some (Hello c i v)
    → ⊥
no_hello key call c i v e = cc

pub cancel_no_hello : (key : Key) (c i : ℕ) (v : Version) → Some (Cancel key) ≡ Some (Hello c i v) → ⊥
cancel_no_hello key c i v e = cc

pub tick_no_hello : (c i : ℕ) (v : Version) → Some Tick ≡ Some (Hello c i v) → ⊥
tick_no_hello c i v e = cc

pub same_hello : (c i d j : ℕ) (v w : Version) → Some (Hello c i v) ≡ Some (Hello d j w) → c ≡ d
same_hello c i d j v w e = cc

-- the entry's own hello, if it is one, is its client's
pub hello_is_own : (act : Act) (c i : ℕ) (v : Version) → Some act ≡ Some (Hello c i v) → client_of act ≡ c
hello_is_own (Hello d j w) c i v e = same_hello d j c i w v e
hello_is_own (Arrive key call) c i v e = absurd (no_hello key call c i v e)
hello_is_own (Cancel key) c i v e = absurd (cancel_no_hello key c i v e)
hello_is_own Tick c i v e = absurd (tick_no_hello c i v e)

-- the key that the entry names is its client's
pub key_is_own : (act : Act) (key : Key) → key_in act ≡ Some key → client_of act ≡ key.client
key_is_own (Hello d j v) key e = absurd (none-some key e)
key_is_own (Arrive own call) key e = ap (λ (k : Key). k.client) (same_Some _ _ e)
key_is_own (Cancel own) key e = ap (λ (k : Key). k.client) (same_Some _ _ e)
key_is_own Tick key e = absurd (none-some key e)

unfoldable pub LastHello-on : (es : List Entry) (e : Entry) (c i h : ℕ)
    → ((j : ℕ) (v : Version) → Some e.act ≡ Some (Hello c j v) → ⊥) → LastHello es c i h
    → LastHello (es ++ e ∷ []) c i h
LastHello-on es e c i h other last = record {
  version = last.version;
  hello = reads_on act_read refl es (e ∷ []) h (Hello c i last.version) last.hello;
  last = λ r j v later hello. elim (reads_back act_read refl es e r (Hello c j v) hello) [
    | inl inside ↦ last.last r j v later inside.1
    | inr own ↦ other j v own.1
  ];
}

pub NamesKey-on : (es more : List Entry) (c r : ℕ) (key : Key) → NamesKey es c r key
    → NamesKey (es ++ more) c r key
NamesKey-on es more c r key h = record {
  named = reads_on key_read refl es more r key h.named;
  of_client =
      h.of_client;
}

pub NamesKey-back : (es : List Entry) (e : Entry) (c r : ℕ) (key : Key) → NamesKey (es ++ e ∷ []) c r key
    → NamesKey es c r key ⊎ ((r ≡ length es) × (key_in e.act ≡ Some key))
NamesKey-back es e c r key h =
    elim (reads_back key_read refl es e r key h.named) [
      | inl inside ↦ inl (record { named = inside.1; of_client = h.of_client })
      | inr own ↦ inr own
    ]
