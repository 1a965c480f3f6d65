-- Which version the session of a request has: one, the same where the account goes on, and that of the
-- client's session while it waits.
use Rattle.rv_account.proofs.OfRules.Words.{◌≡◌, ◌<◌, ◌∷◌, ◌++◌, ◌∙◌, inl, inr, ℕ, List, [], length, take}
use Rattle.rv_account.proofs.OfRules.Words.{Some}
use Rattle.rv_account.proofs.OfRules.Words.{option_and_then, refl, sym, ap, subst, arith, cases_order}
use Rattle.rv_account.proofs.OfRules.Words.{take-append-le}
use Rattle.rv_account.proofs.OfRules.Words.{none-some, same_Some, Version, Key, Call, Entry, Arrive, Hello}
use Rattle.rv_account.proofs.OfRules.Words.{Account}
use Rattle.rv_account.proofs.OfRules.Words.{act_at, key_at, key_in, Waiting}
use Rattle.std.proofs.Math.Seq.{take-append_seam}
use Rattle.rv_account.specs.rules.Sessions.{AskedIn, HasOpened}
use Rattle.rv_account.proofs.OfRules.Fronts.{read_front, read_whole}
use Rattle.rv_account.proofs.OfRules.Growing.{act_read, reads_on, reads_within}
use Rattle.rv_account.proofs.OfRules.Histories.{one_last_hello}
use Rattle.rv_account.proofs.OfRules.Keys.{LastHello-on, key_read}
use Rattle.rv_account.proofs.OfRules.Places.{get-append_end, get-append_within}
use Rattle.rv_account.proofs.OfRules.Waits.{no_hello_behind}

-- ---- a session's version

-- the hello that opened it, with its version
pub opened_hello : (es : List Entry) (c i : ℕ) (v : Version) (o : HasOpened es c i v)
    → act_at es o.h ≡ Some (Hello c i v)
opened_hello es c i v o = subst (λ (w : Version). act_at es o.h ≡ Some (Hello c i w)) (sym o.version_is)
    o.last.hello

-- a last hello of a version opens a session of that version
pub opened_by : (es : List Entry) (c i : ℕ) (v : Version) (h : ℕ) → act_at es h ≡ Some (Hello c i v)
    → ((r j : ℕ) (w : Version) → h < r → act_at es r ≡ Some (Hello c j w) → ⊥) → HasOpened es c i v
opened_by es c i v h hello last = record {
  h = h;
  last = record { version = v; hello = hello; last = last };
  version_is = refl;
}

one_version_of : (c i j : ℕ) (v w : Version) → Some (Hello c i v) ≡ Some (Hello c j w) → v ≡ w
one_version_of c i j v w e = cc

pub one_opened : (es : List Entry) (c i j : ℕ) (v w : Version) → HasOpened es c i v → HasOpened es c j w
    → v ≡ w
one_opened es c i j v w first second =
    let same : first.h ≡ second.h = one_last_hello es c i j first.h second.h first.last second.last in
    one_version_of c i j v w (sym (opened_hello es c i v first) ∙ ap (act_at es) same ∙ opened_hello es c j w
    second)

-- it stays after an entry that is no hello of its client
pub HasOpened-on : (es : List Entry) (e : Entry) (c i : ℕ) (v : Version)
    → ((j : ℕ) (w : Version) → Some e.act ≡ Some (Hello c j w) → ⊥) → HasOpened es c i v
    → HasOpened (es ++ e ∷ []) c i v
unfolding LastHello-on
HasOpened-on es e c i v other o = record {
  h = o.h;
  last = LastHello-on es e c i o.h other o.last;
  version_is = o.version_is;
}

-- ---- the version that a request was asked in

pub asked_in : (es : List Entry) (r : ℕ) (key : Key) (i : ℕ) (v : Version) → key_at es r ≡ Some key
    → HasOpened (take r es) key.client i v → AskedIn es r v
asked_in es r key i v named opened = record { key = key; named = named; incarnation = i; opened = opened }

-- it is one
pub one_version : (es : List Entry) (r : ℕ) (v w : Version) → AskedIn es r v → AskedIn es r w → v ≡ w
one_version es r v w first second =
    let same : second.key ≡ first.key = same_Some _ _ (sym second.named ∙ first.named) in
    let also = subst (λ (k : Key). HasOpened (take r es) k.client second.incarnation w) same second.opened in
    one_opened (take r es) first.key.client first.incarnation second.incarnation v w first.opened also

-- it stays where the account goes on, and was it before
pub asked_on : (es more : List Entry) (r : ℕ) (v : Version) → AskedIn es r v → AskedIn (es ++ more) r v
asked_on es more r v asked =
    let inside : r < length es = reads_within key_read refl es r asked.key asked.named in
    let front : take r (es ++ more) ≡ take r es = take-append-le r es more (omega arith) in
    let opened = subst (λ (l : List Entry). HasOpened l asked.key.client asked.incarnation v) (sym front)
    asked.opened in
    asked_in (es ++ more) r asked.key asked.incarnation v (reads_on key_read refl es more r asked.key
    asked.named) opened

pub asked_back : (es more : List Entry) (r : ℕ) (v : Version) → r < length es → AskedIn (es ++ more) r v
    → AskedIn es r v
asked_back es more r v inside asked =
    let front : take r (es ++ more) ≡ take r es = take-append-le r es more (omega arith) in
    let opened = subst (λ (l : List Entry). HasOpened l asked.key.client asked.incarnation v) front
    asked.opened in
    asked_in es r asked.key asked.incarnation v (ap key_read (sym (get-append_within es more r inside))
    ∙ asked.named) opened

-- the last entry's request is asked in the session that its client has before it
pub asked_last : (es : List Entry) (e : Entry) (key : Key) (i : ℕ) (v : Version) → key_in e.act ≡ Some key
    → HasOpened es key.client i v → AskedIn (es ++ e ∷ []) (length es) v
asked_last es e key i v named opened =
    let front : take (length es) (es ++ e ∷ []) ≡ es = take-append_seam es (e ∷ []) in
    asked_in (es ++ e ∷ []) (length es) key i v (ap key_read (get-append_end es e) ∙ named)
    (subst (λ (l : List Entry). HasOpened l key.client i v) (sym front) opened)

key_or_hello : (es : List Entry) (r : ℕ) (key : Key) (c i : ℕ) (v : Version) → key_at es r ≡ Some key
    → act_at es r ≡ Some (Hello c i v) → ⊥
key_or_hello es r key c i v named hello = none-some key (sym (ap (option_and_then key_in) hello) ∙ named)

-- a request after which its client says no hello was asked in the session that the client has
pub asked_before : (es : List Entry) (r : ℕ) (key : Key) (i : ℕ) (v : Version) → key_at es r ≡ Some key
    → ((s j : ℕ) (w : Version) → r < s → act_at es s ≡ Some (Hello key.client j w) → ⊥)
    → HasOpened es key.client i v → AskedIn es r v
asked_before es r key i v named none opened =
    let hello = opened_hello es key.client i v opened in
    elim (cases_order opened.h r) [
      | inl is ↦ absurd (key_or_hello es r key key.client i v named (ap (act_at es) (sym is) ∙ hello))
      | inr differ ↦ elim differ [
        | inl less ↦ asked_in es r key i v named (opened_by (take r es) key.client i v opened.h
            (read_front act_read es r opened.h (Hello key.client i v) less hello)
            (λ s j w later other. opened.last.last s j w later (read_whole act_read refl es r s
            (Hello key.client j w) other).1))
        | inr more ↦ absurd (none opened.h i v more hello)
      ]
    ]

-- so a request that waits
pub waiting_asked : (a : Account) (r : ℕ) (key : Key) (call : Call) (i : ℕ) (v : Version)
    → Waiting a.entries r → act_at a.entries r ≡ Some (Arrive key call) → HasOpened a.entries key.client i v
    → AskedIn a.entries r v
waiting_asked a r key call i v waits arrived opened =
    asked_before a.entries r key i v (ap (option_and_then key_in) arrived)
    (λ s j w later hello. no_hello_behind a r s key call j w waits arrived hello later) opened
