-- An account that knows a key, its session's hello and the reply of the request before it, never refuses it
-- as one that was forgotten.
use Rattle.rv_world.proofs.OfParts.Words.{◌≡◌, ◌⊎◌, ◌<◌, ◌≤◌, ◌+◌, ◌∙◌, inl, inr, ℕ, Option, Some, None, refl}
use Rattle.rv_world.proofs.OfParts.Words.{sym, ap, subst, arith, same_Some, slice_get, Account, Answer, Call}
use Rattle.rv_world.proofs.OfParts.Words.{Key, Legal, Reply, HasReply, Message, StepLimits, Version}
use Rattle.rv_world.proofs.OfParts.Words.{option_and_then, same_or_not}
use Rattle.std.specs.Prelude.{take}
use Rattle.std.proofs.lemmas.Bool.{cases_order}
use Rattle.rv_text.specs.declared.answer.Answer.TheVariants as answers
use Rattle.rv_text.specs.declared.answer.Refusal.{Refusal}
use Rattle.rv_text.specs.declared.answer.Refusal.TheVariants as refusals
use Rattle.rv_text.specs.declared.message.Message.TheVariants as message
use Rattle.rv_account.specs.Account.{act_at, key_at, key_in}
use Rattle.rv_account.specs.declared.entry.Act.TheVariants as act
use Rattle.rv_account.specs.declared.entry.Act.{Act}
use Rattle.rv_account.specs.rules.Sessions.{HasIncarnation, HasOpened, LastNumber}
use Rattle.rv_account.specs.rules.Steps.{Answers, BusyDue, ClientsFullDueUnder, EntersOrNoMemory}
use Rattle.rv_account.specs.rules.Steps.{EpochFullDueUnder}
use Rattle.rv_account.specs.rules.Steps.{GapDue, KeyLines, NextAtUnder, NoSessionDue, OldIncarnationDue}
use Rattle.rv_account.specs.rules.Steps.{OldNumberDue}
use Rattle.rv_account.specs.rules.Steps.{PlaceLine, PlacesFullDue, RefuseOr, Refuses, Replies, WhereElse}
use Rattle.rv_account.proofs.OfRules.Growing.{act_read, read_there}
use Rattle.rv_account.proofs.OfRules.Fronts.{read_whole}
use Rattle.rv_account.proofs.OfRules.Histories.{hellos_at_most, one_last_number}
use Rattle.rv_account.proofs.OfRules.Keys.{act_arrives}
use Rattle.rv_account.proofs.OfRules.Lines.{RefuseOr-elim, WhereElse-elim}
use Rattle.rv_account.proofs.OfRules.Places.{get-take}
use Rattle.rv_account.proofs.OfRules.Waits.{arrival, cancel, waiting_is_last}
use Rattle.rv_account.proofs.OfState.OneTold.{reply_or_waits}
use Rattle.rv_store.specs.servers.crashes.Laws.{ForgetsClient}

-- ---- what is known

-- the request before that of a key has a reply
pub record HasBefore (a : Account) (key : Key) : Type 0 where
  pub key_before : Key
  pub told : Reply
  pub has : HasReply a.entries key_before told
  pub epoch_is : key_before.epoch ≡ key.epoch
  pub client_is : key_before.client ≡ key.client
  pub incarnation_is : key_before.incarnation ≡ key.incarnation
  pub number_is : key_before.number + 1 ≡ key.number

-- the hello of the key's session stands there; and the key is its session's first, or so
pub record IsKnown (a : Account) (key : Key) : Type 0 where
  pub place : ℕ
  pub version : Version
  pub hello : act_at a.entries place ≡ Some (act.Hello key.client key.incarnation version)
  pub turn : (key.number ≡ 1) ⊎ HasBefore a key

-- ---- hellos and numbers

rising : (a : Account) (c i g h : ℕ) (v w : Version) → Legal a → act_at a.entries g ≡ Some (act.Hello c i v)
    → act_at a.entries h ≡ Some (act.Hello c i w) → g < h → ⊥
rising a c i g h v w legal first second less =
    let there = read_there act_read refl (slice_get a.entries h) (act.Hello c i w) second in
    let follows = legal h there.0 there.1 in
    let earlier : act_at (take h a.entries) g ≡ Some (act.Hello c i v) =
    ap act_read (get-take a.entries h g less) ∙ first in
    let below : i < i = follows.numbers.raises_incarnation c i w (same_Some _ _ there.2) g i v earlier in
    omega arith

-- where the entry that gave a key its reply stands, and what stands before it
record IsNamed (a : Account) (key : Key) : Type 0 where
  place : ℕ
  named : key_at a.entries place ≡ Some key
  epoch : key.epoch ≡ a.epoch
  incarnation : HasIncarnation (take place a.entries) key.client key.incarnation

named_by : (a : Account) (key : Key) (told : Reply) → Legal a → HasReply a.entries key told → IsNamed a key
named_by a key told legal (inl has) =
    let at = arrival a has.place key has.call legal has.arrived in
    record {
      place = has.place;
      named = ap (option_and_then key_in) has.arrived;
      epoch = at.epoch;
      incarnation = at.incarnation;
    }
named_by a key told legal (inr first) =
    let at = cancel a first.0.place key legal first.0.cancelled in
    record {
      place = first.0.place;
      named = ap (option_and_then key_in) first.0.cancelled;
      epoch = at.epoch;
      incarnation = at.incarnation;
    }

-- a number of a session is at most the last
at_most_last : (a : Account) (key : Key) (told : Reply) (last : ℕ) → Legal a → HasReply a.entries key told
    → (is_last : LastNumber a.entries key.client last) → is_last.incarnation ≡ key.incarnation
    → key.number ≤ last
at_most_last a key told last legal has is_last same =
    let by : IsNamed a key = named_by a key told legal has in
    let g : ℕ = by.incarnation.0 in
    let own = by.incarnation.1 in
    let there = read_whole act_read refl a.entries by.place g (act.Hello key.client key.incarnation
    own.version)
    own.hello in
    let hello : act_at a.entries is_last.h ≡ Some (act.Hello key.client key.incarnation is_last.hello.version)
    =
    subst (λ (i : ℕ). act_at a.entries is_last.h ≡ Some (act.Hello key.client i is_last.hello.version)) same
    is_last.hello.hello in
    let behind : is_last.h < by.place = elim (cases_order g is_last.h) [
      | inl at ↦ let below = there.0 in omega (arith, at)
      | inr differ ↦ elim differ [
        | inl less ↦ absurd (rising a key.client key.incarnation g is_last.h own.version is_last.hello.version
            legal
            there.1 hello less)
        | inr more ↦ let below = there.0 in omega arith
      ]
    ] in
    is_last.greatest by.place key behind (record { named = by.named; of_client = refl })

-- ---- the lines for a key

-- the key's session is the client's, if no refusal of an old incarnation is due
module _ (a : Account) (key : Key) (legal : Legal a) (known : IsKnown a key) (epoch : key.epoch ≡ a.epoch)
    (not_old : (refusal : Refusal) → OldIncarnationDue a key.client key.incarnation refusal → ⊥) where
  current : (i : ℕ) → HasIncarnation a.entries key.client i → i ≡ key.incarnation
  current i has =
      let most : key.incarnation ≤ i = hellos_at_most a key.client i known.place key.incarnation known.version
      legal
      has known.hello in
      elim (cases_order key.incarnation i) [
        | inl same ↦ sym same
        | inr differ ↦ elim differ [
          | inl less ↦ absurd (not_old (refusals.OldIncarnation i) (record {
            current = i;
            has = has;
            lower = less;
            is = refl;
          }))
          | inr more ↦ absurd (omega (arith, most, more))
        ]
      ]

  before_at_most : (last : ℕ) → LastNumber a.entries key.client last → (b : HasBefore a key)
      → b.key_before.number ≤ last
  before_at_most last is_last b =
      let moved : LastNumber a.entries b.key_before.client last = subst (λ (c : ℕ). LastNumber a.entries c
      last)
      (sym b.client_is) is_last in
      at_most_last a b.key_before b.told last legal b.has moved (current moved.incarnation
      (subst (λ (c : ℕ). HasIncarnation a.entries c moved.incarnation) b.client_is (moved.h, moved.hello))
      ∙ sym b.incarnation_is)

  no_gap : (refusal : Refusal) → GapDue a key refusal → ⊥
  no_gap refusal due = elim known.turn [
    | inl first ↦ let above = due.above in absurd (omega (arith, first))
    | inr b ↦
        let most = before_at_most due.last due.is_last b in
        let above = due.above in
        absurd (omega (arith, most, b.number_is))
  ]

  no_busy : (refusal : Refusal) → ((other : Refusal) → OldNumberDue a key other → ⊥)
      → (LastNumber a.entries key.client key.number → ⊥) → BusyDue a key refusal → ⊥
  no_busy refusal not_below not_last due =
      let w = due.waits in
      let k : Key = w.key in
      let call : Call = w.waits.is_open.call in
      let arrived : act_at a.entries w.place ≡ Some (act.Arrive k call) =
      act_arrives (act_at a.entries w.place) k
      call w.names.named w.waits.is_open.arrived in
      let is = waiting_is_last a w.place k call legal w.waits arrived in
      let own : LastNumber a.entries key.client k.number = subst (λ (c : ℕ). LastNumber a.entries c k.number)
      w.names.of_client is.number in
      let same : due.last ≡ k.number = one_last_number a.entries key.client due.last k.number due.is_last own
      in
      let above : k.number < key.number = elim (cases_order k.number key.number) [
        | inl at ↦ absurd (not_last (subst (LastNumber a.entries key.client) at own))
        | inr differ ↦ elim differ [
          | inl less ↦ less
          | inr more ↦ absurd (not_below (refusals.OldNumber k.number) (record {
            last = k.number;
            is_last = own;
            old = inl more;
            is = refl;
          }))
        ]
      ] in
      elim known.turn [
        | inl first ↦
            let next = (arrival a w.place k call legal arrived).next in
            let number = next.next in
            absurd (omega (arith, above, first, number))
        | inr b ↦
            let most : b.key_before.number ≤ k.number = before_at_most k.number own b in
            let number : k.number ≡ b.key_before.number = omega (arith, above, most, b.number_is) in
            let incarnation : k.incarnation ≡ b.key_before.incarnation = current k.incarnation
            (subst (λ (c : ℕ). HasIncarnation a.entries c k.incarnation) w.names.of_client is.incarnation)
            ∙ sym b.incarnation_is in
            let client : k.client ≡ b.key_before.client = w.names.of_client ∙ sym b.client_is in
            let of_epoch : k.epoch ≡ b.key_before.epoch = is.epoch ∙ sym (b.epoch_is ∙ epoch) in
            let whole : k ≡ b.key_before = λ i. record {
              epoch = of_epoch i;
              client = client i;
              incarnation = incarnation i;
              number = number i;
            } in
            reply_or_waits a b.key_before b.told legal b.has (record {
              place = w.place;
              call = call;
              arrived = subst (λ (j : Key). act_at a.entries w.place ≡ Some (act.Arrive j call)) whole
                  arrived;
              waits = w.waits;
            })
      ]

-- ---- an answer that forgets nobody

abbrev pub Remembers : Answer → Type 0
Remembers x = (refusal : Refusal) → x ≡ answers.Refused refusal → ForgetsClient refusal → ⊥

same_refusal : (r s : Refusal) → answers.Refused r ≡ answers.Refused s → r ≡ s
same_refusal r s is = cc

no_reply : (key : Key) (told : Reply) (r : Refusal) → answers.Replied key told ≡ answers.Refused r → ⊥
no_reply key told r is = cc

no_waiting : (key : Key) (r : Refusal) → answers.Waiting key ≡ answers.Refused r → ⊥
no_waiting key r is = cc

no_welcome : (epoch client incarnation : ℕ) (version : Version) (r : Refusal)
    → answers.Welcome epoch client incarnation version ≡ answers.Refused r → ⊥
no_welcome epoch client incarnation version r is = cc

module _ (a b : Account) (x : Answer) where
  refuses_well : (refusal : Refusal) → Refuses a b x refusal → (ForgetsClient refusal → ⊥) → Remembers x
  refuses_well refusal refuses well other is forgets =
      well (subst ForgetsClient (same_refusal other refusal (sym is ∙ refuses.1)) forgets)

  refuses_as : (refusal other : Refusal) → Refuses a b x refusal → refusal ≡ other → (ForgetsClient other → ⊥)
      → Remembers x
  refuses_as refusal other refuses same well =
      refuses_well refusal refuses (λ forgets. well (subst ForgetsClient same forgets))

  replies_well : (c : Account) (key : Key) → Replies c key x → Remembers x
  replies_well c key replies refusal is forgets = no_reply key replies.reply refusal (sym replies.is ∙ is)

  answers_well : (c : Account) (key : Key) → Answers c key x → Remembers x
  answers_well c key (inl replies) = replies_well c key replies
  answers_well c key (inr waits) = λ refusal is forgets. no_waiting key refusal (sym waits.1 ∙ is)

  welcomes_well : (epoch client incarnation : ℕ) (version : Version)
      → x ≡ answers.Welcome epoch client incarnation version → Remembers x
  welcomes_well epoch client incarnation version welcome refusal is forgets =
      no_welcome epoch client incarnation version refusal (sym welcome ∙ is)

  enters_well : (T : Type 0) (moment : ℕ) (does : Act) → (T → Remembers x)
      → EntersOrNoMemory a moment does b x T → Remembers x
  enters_well T moment does well (inl refuses) = refuses_well refusals.NoMemory refuses (λ no. no)
  enters_well T moment does well (inr entered) = well entered.1

  -- ---- the lines of a step

  session_remembers : (key : Key) (L G : Type 0) → Legal a → IsKnown a key → key.epoch ≡ a.epoch
      → (L → Remembers x) → (G → Remembers x)
      → RefuseOr (NoSessionDue a key) (Refuses a b x)
      (RefuseOr (OldIncarnationDue a key.client key.incarnation) (Refuses a b x)
      (RefuseOr (OldNumberDue a key) (Refuses a b x)
      (WhereElse (LastNumber a.entries key.client key.number) L
      (RefuseOr (BusyDue a key) (Refuses a b x)
      (RefuseOr (GapDue a key) (Refuses a b x)
      G)))))
      → Remembers x
  session_remembers key L G legal known epoch last above (inl none) =
      let below : key.incarnation < key.incarnation = none.is_due.0 known.place key.incarnation known.version
      known.hello in
      absurd (omega arith)
  session_remembers key L G legal known epoch last above (inr lines) = elim lines.1 [
    | inl old ↦ refuses_as old.refusal (refusals.OldIncarnation old.is_due.current) old.refuses_it
        old.is_due.is
        (λ no. no)
    | inr session ↦ elim session.1 [
      | inl old ↦ refuses_as old.refusal (refusals.OldNumber old.is_due.last) old.refuses_it old.is_due.is
          (λ no. no)
      | inr numbers ↦ elim numbers.1 [
        | inl at_last ↦ last at_last.1
        | inr behind ↦ elim behind.1 [
          | inl busy ↦ absurd (no_busy a key legal known epoch session.0 busy.refusal numbers.0 behind.0
              busy.is_due)
          | inr idle ↦ elim idle.1 [
            | inl gap ↦ absurd (no_gap a key legal known epoch session.0 gap.refusal gap.is_due)
            | inr next ↦ above next.1
          ]
        ]
      ]
    ]
  ]

  key_remembers : (key : Key) (L G : Type 0) → Legal a → (key.epoch ≡ a.epoch → IsKnown a key)
      → (L → Remembers x) → (G → Remembers x) → KeyLines a key (Refuses a b x) L G → Remembers x
  key_remembers key L G legal knows last above (inl refused) =
      refuses_as refused.refusal (refusals.OtherEpoch a.epoch) refused.refuses_it refused.is_due.1 (λ no. no)
  key_remembers key L G legal knows last above (inr own) =
      let epoch : key.epoch ≡ a.epoch = elim (same_or_not key.epoch a.epoch) [
        | inl same ↦ same
        | inr other ↦ absurd (own.0 _ (other, refl))
      ] in
      session_remembers key L G legal (knows epoch) epoch last above own.1

  place_remembers : (bound : Option ℕ) (call : Call) (T : Type 0) → (T → Remembers x)
      → PlaceLine bound a call (Refuses a b x) T → Remembers x
  place_remembers None call T well line = well line
  place_remembers (Some most) call T well line = RefuseOr-elim (PlacesFullDue most a call) (Refuses a b x) T
      (Remembers x) (λ refusal due refuses. refuses_as refusal refusals.EpochFull refuses due.is (λ no. no))
      well line

-- what an account has to know of a message: of a request its key, and no other call of it; of a hello no
-- other version
abbrev pub KnowsMessage : Account → Message → Type 0
KnowsMessage a (message.Hello client incarnation version) =
    (other : Version) → HasOpened a.entries client incarnation other → other ≡ version
KnowsMessage a (message.Request key call) = (key.epoch ≡ a.epoch → IsKnown a key)
    × ((r : ℕ) (other : Call) → act_at a.entries r ≡ Some (act.Arrive key other) → other ≡ call)
KnowsMessage a (message.Cancel key) = key.epoch ≡ a.epoch → IsKnown a key

pub at_remembers : (limits : StepLimits) (a b : Account) (moment : ℕ) (m : Message) (x : Answer) → Legal a
    → KnowsMessage a m → NextAtUnder limits a moment m b x → Remembers x
at_remembers limits a b moment (message.Hello client incarnation version) x legal knows next =
    RefuseOr-elim _ _ _ (Remembers x) (λ refusal due refuses. refuses_as a b x refusal
    (refusals.OldIncarnation due.current) refuses due.is (λ no. no))
    (RefuseOr-elim _ _ _ (Remembers x) (λ refusal due refuses. absurd (due.other (knows due.current due.has)))
    (WhereElse-elim _ _ _ (Remembers x) (λ has again. welcomes_well a b x a.epoch client incarnation version
    again.1)
    (RefuseOr-elim (ClientsFullDueUnder limits a client) _ _ (Remembers x) (λ refusal due refuses. refuses_as
    a b x
    refusal refusals.ClientsFull refuses due.is (λ no. no))
    (RefuseOr-elim (EpochFullDueUnder limits a 1) _ _ (Remembers x) (λ refusal due refuses. refuses_as a b x
    refusal
    refusals.EpochFull refuses due.is (λ no. no))
    (enters_well a b x _ moment (act.Hello client incarnation version) (welcomes_well a b x a.epoch client
    incarnation
    version)))))) next
at_remembers limits a b moment (message.Request key call) x legal knows next =
    key_remembers a b x key _ _ legal knows.0
    (RefuseOr-elim _ _ _ (Remembers x) (λ refusal due refuses. absurd
    (due.differs (knows.1 due.place due.other
    due.arrived))) (λ again. answers_well a b x a key again.answers))
    (RefuseOr-elim _ _ _ (Remembers x) (λ refusal due refuses. refuses_as a b x refusal refusals.EpochFull
    refuses
    due.is (λ no. no)) (place_remembers a b x limits.open_places call _ (enters_well a b x _ moment
    (act.Arrive key call) (answers_well a b x b key)))) next
at_remembers limits a b moment (message.Cancel key) x legal knows next =
    key_remembers a b x key _ _ legal knows
    (WhereElse-elim _ _ _ (Remembers x) (λ waits ends refusal is forgets. no_reply key _ refusal (sym ends.1
    ∙ is))
    (λ again. answers_well a b x a key again.answers))
    (RefuseOr-elim _ _ _ (Remembers x) (λ refusal due refuses. refuses_as a b x refusal refusals.EpochFull
    refuses
    due.is (λ no. no)) (enters_well a b x _ moment (act.Cancel key) (replies_well a b x b key))) next
