-- Fronts of an account that grows, and the answers of steps between them.
use Rattle.rv_world.proofs.OfParts.Words.{◌≡◌, ◌≤◌, ◌++◌, ◌∙◌, inl, inr, ℕ, List, length, refl, sym, ap}
use Rattle.rv_world.proofs.OfParts.Words.{subst, arith, Contains, Entry, Account, Answer, Message, NextUnder}
use Rattle.rv_world.proofs.OfParts.Words.{StepLimits, sender}
use Rattle.std.specs.Prelude.{drop, take}
use Rattle.std.proofs.lemmas.List.{length-append, take-append-drop, take-append-le, take_all}
use Rattle.std.proofs.Math.Seq.{take-append_seam}
use Rattle.rv_account.specs.Account.{Extends}
use Rattle.rv_account.specs.rules.Legal.{before}
use Rattle.rv_account.proofs.OfRules.Fronts.{longer_front}
use Rattle.rv_world.specs.declared.parts.packet.Packet.{Packet}
use Rattle.rv_world.specs.parts.Events.{IsTold}
use Rattle.rv_world.specs.parts.Headline.{GoesOn}
use Rattle.rv_world.proofs.OfParts.Listing.{still_contains}
use Rattle.rv_store.specs.servers.crashes.Crashes.{Server, made}
use Rattle.rv_store.specs.servers.crashes.Laws.{IsHeldRightly, IsHeldStep}

-- ---- fronts

-- an account with other entries
abbrev pub with_all : Account → List Entry → Account
with_all a entries = record { epoch = a.epoch; opened = a.opened; entries = entries }

pub grown_front : (a b : Account) (k : ℕ) → Extends a b → k ≤ length a.entries → before b k ≡ before a k
grown_front a b k extends short =
    let front : take k b.entries ≡ take k a.entries = ap (take k) extends.entries
    ∙ take-append-le k a.entries extends.more short in
    λ i. record { epoch = extends.epoch i; opened = extends.opened i; entries = front i }

pub whole_front : (a : Account) → before a (length a.entries) ≡ a
whole_front a = ap (with_all a) (take_all (length a.entries) a.entries (omega arith))

pub extends_longer : (a b : Account) → Extends a b → length a.entries ≤ length b.entries
extends_longer a b extends = omega (arith, ap length extends.entries, length-append a.entries extends.more)

-- an account extends each of its fronts
pub extends_front : (a : Account) (n : ℕ) → Extends (before a n) a
extends_front a n = record {
  epoch = refl;
  opened = refl;
  more = drop n a.entries;
  entries = sym (take-append-drop n a.entries);
}

-- ---- what is stored, and what is made

pub made_extends : (s : Server) → Extends s.stored (made s)
made_extends s = record { epoch = refl; opened = refl; more = s.unstored; entries = refl }

-- what is stored is the front of so many entries
pub stored_front : (s : Server) → before (made s) (length s.stored.entries) ≡ s.stored
stored_front s = ap (with_all s.stored) (take-append_seam s.stored.entries s.unstored)

-- a front of what is made, no shorter than what is stored, extends that
pub front_extends : (s : Server) (n : ℕ) → length s.stored.entries ≤ n → Extends s.stored (before (made s) n)
front_extends s n long = record {
  epoch = refl;
  opened = refl;
  more = drop (length s.stored.entries) (take n (made s).entries);
  entries = sym (longer_front (made s).entries (length s.stored.entries) n long)
      ∙ ap (λ list. list ++ drop (length s.stored.entries) (take n (made s).entries))
      (take-append_seam s.stored.entries s.unstored);
}

-- ---- answers of steps

-- the step leads from an account to one that extends it
pub held_step : (messages : List Message) (a b : Account) (limits : StepLimits) (moment : ℕ) (message :
    Message)
    (said told : Answer) → Contains messages message → Extends a b → NextUnder limits a moment message b said
    → IsTold said told
    → IsHeldStep messages b (record { client = sender message; answer = told }) (length b.entries)
held_step messages a b limits moment message said told sent extends next is_told =
    let early = grown_front a b (length a.entries) extends (omega arith) ∙ whole_front a in
    record {
      message = message;
      limits = limits;
      early = length a.entries;
      moment = moment;
      said = said;
      sent = sent;
      client_is = refl;
      in_order = extends_longer a b extends;
      within = omega arith;
      next = subst (λ (x : Account). NextUnder limits x moment message (before b (length b.entries)) said)
          (sym early) (subst (λ (x : Account). NextUnder limits a moment message x said) (sym (whole_front b))
          next);
      is_told = is_told;
    }

-- it is one of the account and of the messages that there are later
pub held_on : (messages more : List Message) (a b : Account) (packet : Packet) (count : ℕ)
    → GoesOn messages more
    → Extends a b → IsHeldStep messages a packet count → IsHeldStep more b packet count
held_on messages more a b packet count grows extends is =
    let early = grown_front a b is.early extends (let o = is.in_order in let p = is.within in omega arith) in
    let late = grown_front a b count extends is.within in
    record {
      message = is.message;
      limits = is.limits;
      early = is.early;
      moment = is.moment;
      said = is.said;
      sent = still_contains messages more is.message grows is.sent;
      client_is = is.client_is;
      in_order = is.in_order;
      within = let l = extends_longer a b extends in let p = is.within in omega arith;
      next = subst (λ (x : Account). NextUnder is.limits x is.moment is.message (before b count) is.said)
          (sym early) (subst (λ (x : Account). NextUnder is.limits (before a is.early) is.moment is.message x
          is.said) (sym late) is.next);
      is_told = is.is_told;
    }

pub rightly_on : (messages more : List Message) (a b : Account) (packet : Packet) (count : ℕ)
    → GoesOn messages more → Extends a b → IsHeldRightly messages a packet count
    → IsHeldRightly more b packet count
rightly_on messages more a b packet count grows extends (inl none) = inl none
rightly_on messages more a b packet count grows extends (inr is) =
    inr (held_on messages more a b packet count grows extends is)

-- it is one of each front with all that it rests on
pub held_before : (messages : List Message) (a b : Account) (packet : Packet) (count : ℕ) → Extends a b
    → count ≤ length a.entries → IsHeldStep messages b packet count → IsHeldStep messages a packet count
held_before messages a b packet count extends short is =
    let early = grown_front a b is.early extends (let o = is.in_order in omega arith) in
    let late = grown_front a b count extends short in
    record {
      message = is.message;
      limits = is.limits;
      early = is.early;
      moment = is.moment;
      said = is.said;
      sent = is.sent;
      client_is = is.client_is;
      in_order = is.in_order;
      within = short;
      next = subst (λ (x : Account). NextUnder is.limits x is.moment is.message (before a count) is.said)
          early
          (subst (λ (x : Account). NextUnder is.limits (before b is.early) is.moment is.message x is.said)
          late
          is.next);
      is_told = is.is_told;
    }

pub rightly_before : (messages : List Message) (a b : Account) (packet : Packet) (count : ℕ) → Extends a b
    → count ≤ length a.entries → IsHeldRightly messages b packet count → IsHeldRightly messages a packet count
rightly_before messages a b packet count extends short (inl none) = inl none
rightly_before messages a b packet count extends short (inr is) =
    inr (held_before messages a b packet count extends short is)
