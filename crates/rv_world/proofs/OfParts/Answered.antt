-- What a step under limits leaves and tells: at most the message's own entry is new, and a reply is that of
-- the message's own request.
use Rattle.rv_world.proofs.OfParts.Words.{◌≡◌, ◌⊎◌, ◌∙◌, inl, inr, ℕ, Option, Some, None, refl, sym, ap}
use Rattle.rv_world.proofs.OfParts.Words.{subst, none-some, same_Some, Version, Key, Message, Call, Reply}
use Rattle.rv_world.proofs.OfParts.Words.{Answer, Entry, Act, Account, call_in, Legal, HasReply, StepLimits}
use Rattle.rv_world.proofs.OfParts.Words.{Adds, NextUnder, Ticks, step_moment, same_or_not}
use Rattle.rv_text.specs.declared.message.Message.TheVariants.{Cancel, Hello, Request}
use Rattle.rv_text.specs.declared.answer.Refusal.{Refusal}
use Rattle.rv_text.specs.declared.answer.Answer.TheVariants.{Refused, Replied, Waiting, Welcome}
use Rattle.rv_account.specs.Account.{act_at, just, with_entry}
use Rattle.rv_book.specs.Legal.{WaitsUnder}
use Rattle.rv_account.specs.rules.Steps.{Answers, EntersOrNoMemory, KeyLines, NextAtUnder, PlaceLine}
use Rattle.rv_account.specs.rules.Steps.{PlacesFullDue}
use Rattle.rv_account.specs.rules.Steps.{RefuseOr, Refuses, Replies}
use Rattle.rv_account.proofs.OfRules.Growing.{act_read, reads_back}
use Rattle.rv_account.proofs.OfRules.Legality.{follows_itself}
use Rattle.rv_account.proofs.OfRules.Lines.{RefuseOr-elim, WhereElse-elim}
use Rattle.rv_account.proofs.OfRules.Naming.{first_among}
use Rattle.rv_account.proofs.OfRules.StepLeaves.{own_act}
use Rattle.rv_account.proofs.OfState.StateLaws.{steps_move_under}
use Rattle.rv_account.proofs.OfState.ToldCancelled.{waiting_replies}
use Rattle.rv_text.specs.declared.answer.Reply.TheVariants as reply
use Rattle.rv_account.specs.declared.entry.Act.TheVariants as act

-- ---- what is new in the account

arrival_of : (m : Message) (key : Key) (call : Call) → own_act m ≡ act.Arrive key call → m ≡ Request key call
arrival_of (Hello client incarnation version) key call is = absurd (let no : ⊥ = cc in no)
arrival_of (Request other own) key call is = cc
arrival_of (Cancel other) key call is = absurd (let no : ⊥ = cc in no)

-- an arrival after one entry more was there before, or is that entry
added_arrives : (a b : Account) (moment : ℕ) (does : Act) (r : ℕ) (key : Key) (call : Call)
    → Adds a moment does b
    → act_at b.entries r ≡ Some (act.Arrive key call) → (act_at a.entries r ≡ Some (act.Arrive key call))
    ⊎ (does ≡ act.Arrive key call)
added_arrives a b moment does r key call added arrived =
    let there : act_at (with_entry a added.entry).entries r ≡ Some (act.Arrive key call) =
    subst (λ (c : Account). act_at c.entries r ≡ Some (act.Arrive key call)) added.follows arrived in
    elim (reads_back act_read refl a.entries added.entry r (act.Arrive key call) there) [
      | inl before ↦ inl before.1
      | inr last ↦ inr (sym added.act_is ∙ same_Some _ _ last.1)
    ]

added_epoch : (a b : Account) (moment : ℕ) (does : Act) → Adds a moment does b → b.epoch ≡ a.epoch
added_epoch a b moment does added = ap (λ (c : Account). c.epoch) added.follows

-- ---- what is told

-- the message is the request with this key, or its cancel
abbrev pub AsksFor : Message → Key → Type 0
AsksFor m key = ((call : Call) × (m ≡ Request key call)) ⊎ (m ≡ Cancel key)

-- the message asks for the key, which is of this account and has the reply there
pub record IsToldReply (m : Message) (b : Account) (key : Key) (told : Reply) : Type 0 where
  pub asks : AsksFor m key
  pub epoch : key.epoch ≡ b.epoch
  pub has : HasReply b.entries key told

-- what a step leaves: the account as it was or with the message's own entry, and what it tells
pub record Became (a : Account) (moment : ℕ) (m : Message) (b : Account) (x : Answer) : Type 0 where
  pub account : (b ≡ a) ⊎ Adds a moment (own_act m) b
  pub told : (key : Key) (told : Reply) → x ≡ Replied key told → IsToldReply m b key told

one_reply : (own key : Key) (is told : Reply) → Replied own is ≡ Replied key told → (own ≡ key) × (is ≡ told)
one_reply own key is told same = (cc, cc)

replies_tell : (m : Message) (b : Account) (own key : Key) (x : Answer) (told : Reply) → AsksFor m own
    → own.epoch ≡ b.epoch → Replies b own x → x ≡ Replied key told → IsToldReply m b key told
replies_tell m b own key x told asks epoch replies is =
    let same = one_reply own key replies.reply told (sym replies.is ∙ is) in
    record {
      asks = subst (AsksFor m) same.0 asks;
      epoch = ap (λ (k : Key). k.epoch) (sym same.0) ∙ epoch;
      has = subst (HasReply b.entries key) same.1 (subst (λ (k : Key). HasReply b.entries k replies.reply)
          same.0 replies.has);
    }

waiting_no_reply : (own key : Key) (told : Reply) → ◌≡◌ {A = Answer} (Waiting own) (Replied key told) → ⊥
waiting_no_reply own key told is = cc

refused_no_reply : (refusal : Refusal) (key : Key) (told : Reply)
    → ◌≡◌ {A = Answer} (Refused refusal) (Replied key told) → ⊥
refused_no_reply refusal key told is = cc

welcome_no_reply : (epoch client incarnation : ℕ) (version : Version) (key : Key) (told : Reply)
    → ◌≡◌ {A = Answer} (Welcome epoch client incarnation version) (Replied key told) → ⊥
welcome_no_reply epoch client incarnation version key told is = cc

welcome_tells : (m : Message) (b : Account) (epoch client incarnation : ℕ) (version : Version) (x : Answer)
    → x ≡ Welcome epoch client incarnation version → (key : Key) (told : Reply) → x ≡ Replied key told
    → IsToldReply m b key told
welcome_tells m b epoch client incarnation version x is key told says = absurd (welcome_no_reply epoch client
    incarnation version key told (sym is ∙ says))

answers_tell : (m : Message) (b : Account) (own key : Key) (x : Answer) (told : Reply) → AsksFor m own
    → own.epoch ≡ b.epoch → Answers b own x → x ≡ Replied key told → IsToldReply m b key told
answers_tell m b own key x told asks epoch (inl replies) is = replies_tell m b own key x told asks epoch
    replies is
answers_tell m b own key x told asks epoch (inr waits) is = absurd (waiting_no_reply own key told (sym waits.1
    ∙ is))

-- ---- the lines of a step

-- what each line for a key leads to; after the first the key is of the account's epoch
pub key_lines : (R : Refusal → Type 0) (L G T : Type 0) (a : Account) (key : Key)
    → ((refusal : Refusal) → R refusal → T) → (key.epoch ≡ a.epoch → L → T) → (key.epoch ≡ a.epoch → G → T)
    → KeyLines a key R L G → T
key_lines R L G T a key refuses last above (inl refused) = refuses refused.refusal refused.refuses_it
key_lines R L G T a key refuses last above (inr own) =
    let epoch : key.epoch ≡ a.epoch = elim (same_or_not key.epoch a.epoch) [
      | inl same ↦ same
      | inr other
          ↦ absurd (own.0 _ (other, refl))
    ] in
    RefuseOr-elim _ _ _ T (λ refusal due. refuses refusal)
    (RefuseOr-elim _ _ _ T (λ refusal due. refuses refusal)
    (RefuseOr-elim _ _ _ T (λ refusal due. refuses refusal)
    (WhereElse-elim _ _ _ T (λ is. last epoch)
    (RefuseOr-elim _ _ _ T (λ refusal due. refuses refusal)
    (RefuseOr-elim _ _ _ T (λ refusal due. refuses refusal)
    (above epoch)))))) own.1

module _ (a b : Account) (moment : ℕ) (m : Message) (x : Answer) where
  refused_became : (refusal : Refusal) → Refuses a b x refusal → Became a moment m b x
  refused_became refusal refuses = record {
    account = inl refuses.0;
    told = λ key told is. absurd (refused_no_reply refusal key told (sym refuses.1 ∙ is));
  }

  stays_became : b ≡ a → ((key : Key) (told : Reply) → x ≡ Replied key told → IsToldReply m a key told)
      → Became a moment m b x
  stays_became same told = record {
    account = inl same;
    told = λ key reply is. subst (λ (c : Account). IsToldReply m c key reply) (sym same) (told key reply is);
  }

  entered_became : (T : Type 0)
      → (Adds a moment (own_act m) b → T → (key : Key) (told : Reply) → x ≡ Replied key told → IsToldReply m b
      key told)
      → EntersOrNoMemory a moment (own_act m) b x T → Became a moment m b x
  entered_became T told (inl refuses) = refused_became _ refuses
  entered_became T told (inr entered) =
      record { account = inr entered.0; told = told entered.0 entered.1 }

  -- where there is room for what the message needs
  room_became : (T : Type 0) (due : Refusal → Type 0)
      → (Adds a moment (own_act m) b → T → (key : Key) (told : Reply) → x ≡ Replied key told → IsToldReply m b
      key told)
      → RefuseOr due (Refuses a b x) (EntersOrNoMemory a moment (own_act m) b x T) → Became a moment m b x
  room_became T due told =
      RefuseOr-elim due _ _ (Became a moment m b x) (λ refusal is_due. refused_became refusal)
      (entered_became T told)

  -- and a place to stay at, where these are bounded
  place_became : (bound : Option ℕ) (call : Call) (T : Type 0)
      → (Adds a moment (own_act m) b → T → (key : Key) (told : Reply) → x ≡ Replied key told → IsToldReply m b
      key told)
      → PlaceLine bound a call (Refuses a b x) (EntersOrNoMemory a moment (own_act m) b x T)
      → Became a moment m b x
  place_became None call T told = entered_became T told
  place_became (Some most) call T told = room_became T (PlacesFullDue most a call) told

-- a cancel has no partner
cancel_alone : (a : Account) (e : Entry) (key : Key) → Legal (with_entry a e) → e.act ≡ act.Cancel key
    → e.partners ≡ just None
cancel_alone a e key legal says = elim (first_among e.partners) [
  | inr none ↦ none
  | inl named ↦
      let free = (follows_itself a e legal).pairs.names_free_partners.free named.0 named.1 in
      absurd (none-some free.call (sym (ap call_in says) ∙ free.arrives))
]

-- the cancel of a request that waits ends it
ended_tells : (a b : Account) (moment : ℕ) (key : Key) → Adds a moment (act.Cancel key) b
    → WaitsUnder a.entries key → Replies b key (Replied key reply.Cancelled)
ended_tells a b moment key added waits =
    let e = added.entry in
    let says : e.act ≡ act.Cancel key = added.act_is in
    let alone = cancel_alone a e key (subst Legal added.follows added.legal) says in
    subst (λ (c : Account). Replies c key (Replied key reply.Cancelled)) (sym added.follows)
    (waiting_replies a e key says alone waits)

pub became_at : (limits : StepLimits) (a b : Account) (moment : ℕ) (m : Message) (x : Answer)
    → NextAtUnder limits a moment m b x → Became a moment m b x
became_at limits a b moment (Hello client incarnation version) x next =
    let m : Message = Hello client incarnation version in
    RefuseOr-elim _ _ _ (Became a moment m b x) (λ refusal due. refused_became a b moment m x refusal)
    (RefuseOr-elim _ _ _ (Became a moment m b x) (λ refusal due. refused_became a b moment m x refusal)
    (WhereElse-elim _ _ _ (Became a moment m b x) (λ has again. stays_became a b moment m x again.0
    (welcome_tells m a a.epoch client incarnation version x again.1))
    (RefuseOr-elim _ _ _ (Became a moment m b x) (λ refusal due. refused_became a b moment m x refusal)
    (room_became a b moment m x _ _ (λ added. welcome_tells m b a.epoch client incarnation version x))))) next
became_at limits a b moment (Request key call) x next =
    let m : Message = Request key call in
    let asks : AsksFor m key = inl (call, refl) in
    key_lines (Refuses a b x) _ _ (Became a moment m b x) a key (refused_became a b moment m x)
    (λ epoch. RefuseOr-elim _ _ _ (Became a moment m b x) (λ refusal due. refused_became a b moment m x
    refusal)
    (λ again. stays_became a b moment m x again.account (λ other told. answers_tell m a key other x told asks
    epoch again.answers)))
    (λ epoch. RefuseOr-elim _ _ _ (Became a moment m b x) (λ refusal due. refused_became a b moment m x
    refusal)
    (place_became a b moment m x limits.open_places call (Answers b key x)
    (λ added answers other told. answers_tell m b key other x told asks
    (epoch ∙ sym (added_epoch a b moment _ added)) answers))) next
became_at limits a b moment (Cancel key) x next =
    let m : Message = Cancel key in
    let asks : AsksFor m key = inr refl in
    let own = λ (added : Adds a moment (act.Cancel key) b) (epoch : key.epoch ≡ a.epoch). epoch
    ∙ sym (added_epoch a b moment (act.Cancel key) added) in
    key_lines (Refuses a b x) _ _ (Became a moment m b x) a key (refused_became a b moment m x)
    (λ epoch. WhereElse-elim _ _ _ (Became a moment m b x)
    (λ waits ends. record {
      account = inr ends.0;
      told = λ other told is. replies_tell m b key other x told asks (own ends.0 epoch) (subst (Replies b key)
          (sym ends.1) (ended_tells a b moment key ends.0 waits)) is;
    })
    (λ again. stays_became a b moment m x again.account (λ other told. answers_tell m a key other x told asks
    epoch again.answers)))
    (λ epoch. room_became a b moment m x _ _
    (λ added replies other told. replies_tell m b key other x told asks (own added epoch) replies)) next

-- ---- the time-outs before it

-- they leave an account of the same epoch, and bring no arrival
pub ticked_arrives : (a t : Account) (moment r : ℕ) (key : Key) (call : Call) → Ticks a moment t
    → act_at t.entries r ≡ Some (act.Arrive key call) → act_at a.entries r ≡ Some (act.Arrive key call)
ticked_arrives a t moment r key call (inl ticks) arrived =
    elim (added_arrives a t moment act.Tick r key call ticks.1 arrived) [
      | inl before ↦ before
      | inr tick ↦ absurd (no_arrival key call tick)
    ]
  where
    no_arrival : (key : Key) (call : Call) → act.Tick ≡ act.Arrive key call → ⊥
    no_arrival key call is = cc
ticked_arrives a t moment r key call (inr same) arrived =
    subst (λ (c : Account). act_at c.entries r ≡ Some (act.Arrive key call)) same.1 arrived

-- ---- one step

module _ (limits : StepLimits) (a b : Account) (now : ℕ) (m : Message) where
  became : (x : Answer) → (next : NextUnder limits a now m b x)
      → Became next.ticked (step_moment a now) m b x
  became x next = became_at limits next.ticked b (step_moment a now) m x next.steps

  pub next_legal : (x : Answer) → Legal a → NextUnder limits a now m b x → Legal b
  next_legal x legal next = (steps_move_under limits a b now m x legal next).is.legal

  pub next_told : (key : Key) (told : Reply) → NextUnder limits a now m b (Replied key told)
      → IsToldReply m b key told
  next_told key told next = (became (Replied key told) next).told key told refl

  -- an arrival that is new is the message's own
  pub next_arrives : (x : Answer) (r : ℕ) (key : Key) (call : Call) → NextUnder limits a now m b x
      → act_at b.entries r ≡ Some (act.Arrive key call)
      → (act_at a.entries r ≡ Some (act.Arrive key call)) ⊎ (m ≡ Request key call)
  next_arrives x r key call next arrived =
      let t = next.ticked in
      let moment : ℕ = step_moment a now in
      elim (became x next).account [
        | inl same ↦ inl (ticked_arrives a t moment r key call next.ticks
            (subst (λ (c : Account). act_at c.entries r ≡ Some (act.Arrive key call)) same arrived))
        | inr added ↦ elim (added_arrives t b moment (own_act m) r key call added arrived) [
          | inl there ↦ inl (ticked_arrives a t moment r key call next.ticks there)
          | inr new ↦ inr (arrival_of m key call new)
        ]
      ]
