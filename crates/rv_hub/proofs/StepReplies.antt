-- A reply that a step of an account tells is the public one of its key.
use Rattle.std.proofs.Common.{inl, inr, ◌≡◌, ◌∙◌, ℕ, None, Option, Some, sym, ap, subst}
use Rattle.std.proofs.lemmas.Option.{none-some}
use Rattle.rv_text.specs.declared.version.Version.{Version}
use Rattle.rv_text.specs.declared.message.Key.{Key}
use Rattle.rv_text.specs.declared.message.Message.{Message}
use Rattle.rv_text.specs.declared.message.Message.TheVariants.{Cancel, Hello, Request}
use Rattle.rv_text.specs.declared.call.Call.{Call}
use Rattle.rv_text.specs.declared.answer.Answer.{Answer}
use Rattle.rv_text.specs.declared.answer.Answer.TheVariants.{Refused, Replied, Waiting, Welcome}
use Rattle.rv_text.specs.declared.answer.Refusal.{Refusal}
use Rattle.rv_text.specs.declared.answer.Reply.{Reply}
use Rattle.rv_text.specs.declared.answer.Reply.TheVariants.{Cancelled}
use Rattle.rv_account.specs.declared.entry.Act.{Act}
use Rattle.rv_account.specs.declared.entry.Act.TheVariants as act
use Rattle.rv_account.specs.declared.entry.Entry.{Entry}
use Rattle.rv_account.specs.Account.{Account, call_in, just, with_entry}
use Rattle.rv_account.specs.rules.Legal.{Legal, WaitsUnder}
use Rattle.rv_account.specs.rules.Replies.{HasReply}
use Rattle.rv_account.specs.rules.StepLimits.{StepLimits}
use Rattle.rv_account.specs.rules.Steps.{Adds, Answers, EntersOrNoMemory, KeyLines, NextAtUnder, NextUnder}
use Rattle.rv_account.specs.rules.Steps.{PlaceLine}
use Rattle.rv_account.specs.rules.Steps.{RefuseOr, Refuses, Replies}
use Rattle.rv_account.proofs.OfRules.Legality.{follows_itself}
use Rattle.rv_account.proofs.OfRules.Lines.{RefuseOr-elim, WhereElse-elim}
use Rattle.rv_account.proofs.OfRules.Naming.{first_among}
use Rattle.rv_account.proofs.OfState.ToldCancelled.{waiting_replies}

-- ---- the cancel of a request that waits

cancel_alone : (a : Account) (e : Entry) (key : Key) → Legal (with_entry a e) → e.act ≡ act.Cancel key
    → e.partners ≡ just None
cancel_alone a e key legal says = elim (first_among e.partners) [
  | inr none ↦ none
  | inl named ↦
      let free = (follows_itself a e legal).pairs.names_free_partners.free named.0 named.1 in
      absurd (none-some free.call (sym (ap call_in says) ∙ free.arrives))
]

ended_replies : (a b : Account) (moment : ℕ) (key : Key) → Adds a moment (act.Cancel key) b
    → WaitsUnder a.entries key → Replies b key (Replied key Cancelled)
ended_replies a b moment key added waits =
    let e = added.entry in
    let says : e.act ≡ act.Cancel key = added.act_is in
    let alone = cancel_alone a e key (subst Legal added.follows added.legal) says in
    subst (λ (c : Account). Replies c key (Replied key Cancelled)) (sym added.follows)
    (waiting_replies a e key says alone waits)

-- ---- what isn't a reply, and what is

one_reply : (own key : Key) (is told : Reply) → Replied own is ≡ Replied key told → (own ≡ key) × (is ≡ told)
one_reply own key is told same = (cc, cc)

pub waiting_differs : (own key : Key) (told : Reply) → ◌≡◌ {A = Answer} (Waiting own) (Replied key told) → ⊥
waiting_differs own key told is = cc

pub refused_differs : (refusal : Refusal) (key : Key) (told : Reply)
    → ◌≡◌ {A = Answer} (Refused refusal) (Replied key told) → ⊥
refused_differs refusal key told is = cc

pub welcome_differs : (epoch client incarnation : ℕ) (version : Version) (key : Key) (told : Reply)
    → ◌≡◌ {A = Answer} (Welcome epoch client incarnation version) (Replied key told) → ⊥
welcome_differs epoch client incarnation version key told is = cc

-- if the answer is this reply, it is that of the account
abbrev pub TellsReply : Account → Key → Reply → Answer → Type 0
TellsReply b key told x = x ≡ Replied key told → HasReply b.entries key told

pub replies_tell : (b : Account) (key own : Key) (told : Reply) (x : Answer) → Replies b own x
    → TellsReply b key told x
replies_tell b key own told x replies is =
    let same = one_reply own key replies.reply told (sym replies.is ∙ is) in
    subst (HasReply b.entries key) same.1
    (subst (λ (k : Key). HasReply b.entries k replies.reply) same.0 replies.has)

pub answers_tell : (b : Account) (key own : Key) (told : Reply) (x : Answer) → Answers b own x
    → TellsReply b key told x
answers_tell b key own told x (inl replies) is = replies_tell b key own told x replies is
answers_tell b key own told x (inr waits) is = absurd (waiting_differs own key told (sym waits.1 ∙ is))

-- ---- the lines of a step

-- what each line for a key leads to
pub key_lines : (R : Refusal → Type 0) (L G T : Type 0) (a : Account) (key : Key)
    → ((refusal : Refusal) → R refusal → T) → (L → T) → (G → T) → KeyLines a key R L G → T
key_lines R L G T a key refuses last above =
    RefuseOr-elim _ _ _ T (λ refusal due. refuses refusal)
    (RefuseOr-elim _ _ _ T (λ refusal due. refuses refusal)
    (RefuseOr-elim _ _ _ T (λ refusal due. refuses refusal)
    (RefuseOr-elim _ _ _ T (λ refusal due. refuses refusal)
    (WhereElse-elim _ _ _ T (λ is. last)
    (RefuseOr-elim _ _ _ T (λ refusal due. refuses refusal)
    (RefuseOr-elim _ _ _ T (λ refusal due. refuses refusal) above))))))

module _ (a b : Account) (moment : ℕ) (key : Key) (told : Reply) (x : Answer) where
  abbrev Tells : Type 0
  Tells = TellsReply b key told x

  refuses_tell : (refusal : Refusal) → Refuses a b x refusal → Tells
  refuses_tell refusal refuses is = absurd (refused_differs refusal key told (sym refuses.1 ∙ is))

  welcomes_tell : (epoch client incarnation : ℕ) (version : Version)
      → x ≡ Welcome epoch client incarnation version → Tells
  welcomes_tell epoch client incarnation version same is =
      absurd (welcome_differs epoch client incarnation version key told (sym same ∙ is))

  stays_tell : (own : Key) → b ≡ a → Answers a own x → Tells
  stays_tell own same answers is =
      subst (λ (c : Account). HasReply c.entries key told) (sym same)
      (answers_tell a key own told x answers is)

  enters_tell : (does : Act) (T : Type 0) → (T → Tells) → EntersOrNoMemory a moment does b x T → Tells
  enters_tell does T tells (inl refuses) = refuses_tell _ refuses
  enters_tell does T tells (inr entered) = tells entered.1

  -- where there is room for what the message needs
  room_tells : (does : Act) (T : Type 0) (due : Refusal → Type 0) → (T → Tells)
      → RefuseOr due (Refuses a b x) (EntersOrNoMemory a moment does b x T) → Tells
  room_tells does T due tells =
      RefuseOr-elim due _ _ Tells (λ refusal is_due. refuses_tell refusal) (enters_tell does T tells)

  -- and a place to stay at, where these are bounded
  place_tells : (bound : Option ℕ) (call : Call) (does : Act) (T : Type 0) → (T → Tells)
      → PlaceLine bound a call (Refuses a b x) (EntersOrNoMemory a moment does b x T) → Tells
  place_tells None call does T tells = enters_tell does T tells
  place_tells (Some most) call does T tells = room_tells does T _ tells

  steps_tell : (limits : StepLimits) (m : Message) → NextAtUnder limits a moment m b x → Tells
  steps_tell limits (Hello client incarnation version) =
      let welcome = welcomes_tell a.epoch client incarnation version in
      RefuseOr-elim _ _ _ Tells (λ refusal due. refuses_tell refusal)
      (RefuseOr-elim _ _ _ Tells (λ refusal due. refuses_tell refusal)
      (WhereElse-elim _ _ _ Tells (λ has again. welcome again.1)
      (RefuseOr-elim _ _ _ Tells (λ refusal due. refuses_tell refusal) (room_tells _ _ _ welcome))))
  steps_tell limits (Request own call) =
      key_lines (Refuses a b x) _ _ Tells a own refuses_tell
      (RefuseOr-elim _ _ _ Tells (λ refusal due. refuses_tell refusal)
      (λ again. stays_tell own again.account again.answers))
      (RefuseOr-elim _ _ _ Tells (λ refusal due. refuses_tell refusal)
      (place_tells limits.open_places call _ (Answers b own x) (answers_tell b key own told x)))
  steps_tell limits (Cancel own) =
      key_lines (Refuses a b x) _ _ Tells a own refuses_tell
      (WhereElse-elim _ _ _ Tells
      (λ waits ends. replies_tell b key own told x
      (subst (Replies b own) (sym ends.1) (ended_replies a b moment own ends.0 waits)))
      (λ again. stays_tell own again.account again.answers))
      (room_tells _ _ _ (replies_tell b key own told x))

pub next_tells : (limits : StepLimits) (a b : Account) (now : ℕ) (m : Message) (x : Answer) (key : Key)
    (told : Reply) → NextUnder limits a now m b x → TellsReply b key told x
next_tells limits a b now m x key told next =
    steps_tell next.ticked b _ key told x limits m next.steps
