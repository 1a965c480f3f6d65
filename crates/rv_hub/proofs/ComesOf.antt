-- A step that answers that a request waits is one with that request, which stands in the account then.
use Rattle.std.proofs.Common.{inl, inr, ◌≡◌, ◌∙◌, ℕ, None, Option, Some, length, refl, sym, ap}
use Rattle.rv_text.specs.declared.version.Version.{Version}
use Rattle.rv_text.specs.declared.message.Key.{Key}
use Rattle.rv_text.specs.declared.message.Message.{Message}
use Rattle.rv_text.specs.declared.message.Message.TheVariants.{Cancel, Hello, Request}
use Rattle.rv_text.specs.declared.call.Call.{Call}
use Rattle.rv_text.specs.declared.answer.Answer.{Answer}
use Rattle.rv_text.specs.declared.answer.Answer.TheVariants.{Refused, Replied, Waiting, Welcome}
use Rattle.rv_text.specs.declared.answer.Refusal.{Refusal}
use Rattle.rv_text.specs.declared.answer.Refusal.TheVariants.{OtherCall}
use Rattle.rv_text.specs.declared.answer.Reply.TheVariants.{Cancelled}
use Rattle.rv_text.proofs.Kept.{same_call}
use Rattle.rv_account.specs.declared.entry.Act.{Act}
use Rattle.rv_account.specs.declared.entry.Act.TheVariants as act
use Rattle.rv_account.specs.Account.{Account, act_at}
use Rattle.rv_account.specs.rules.Legal.{WaitsUnder}
use Rattle.rv_account.specs.rules.StepLimits.{StepLimits}
use Rattle.rv_account.specs.rules.Steps.{Adds, Answers, EntersOrNoMemory, NextAtUnder, NextUnder}
use Rattle.rv_account.specs.rules.Steps.{OtherCallDue}
use Rattle.rv_account.specs.rules.Steps.{PlaceLine, RefuseOr, Refuses, Repeats, Replies, WhereElse}
use Rattle.rv_account.proofs.OfRules.Growing.{act_read}
use Rattle.rv_account.proofs.OfRules.Lines.{RefuseOr-elim, WhereElse-elim}
use Rattle.rv_account.proofs.OfRules.Places.{get-append_end}
use Rattle.rv_hub.proofs.StepReplies.{key_lines, waiting_differs}

-- the message is the request of the key, with the call with which that arrived
pub record ComesOf (b : Account) (m : Message) (key : Key) : Type 0 where
  pub call : Call
  pub place : ℕ
  pub is : m ≡ Request key call
  pub arrived : act_at b.entries place ≡ Some (act.Arrive key call)

one_waiting : (own key : Key) → ◌≡◌ {A = Answer} (Waiting own) (Waiting key) → own ≡ key
one_waiting own key same = cc

refused_waits : (refusal : Refusal) (key : Key) → ◌≡◌ {A = Answer} (Refused refusal) (Waiting key) → ⊥
refused_waits refusal key is = cc

welcome_waits : (epoch client incarnation : ℕ) (version : Version) (key : Key)
    → ◌≡◌ {A = Answer} (Welcome epoch client incarnation version) (Waiting key) → ⊥
welcome_waits epoch client incarnation version key is = cc

-- the entry that was added last
added_last : (a b : Account) (moment : ℕ) (does : Act) → Adds a moment does b
    → act_at b.entries (length a.entries) ≡ Some does
added_last a b moment does added =
    ap (λ (c : Account). act_at c.entries (length a.entries)) added.follows
    ∙ ap act_read (get-append_end a.entries added.entry) ∙ ap Some added.act_is

module _ (a b : Account) (moment : ℕ) (key : Key) (x : Answer) where
  abbrev Comes : Message → Type 0
  Comes m = x ≡ Waiting key → ComesOf b m key

  refuses_come : (m : Message) (refusal : Refusal) → Refuses a b x refusal → Comes m
  refuses_come m refusal refuses is = absurd (refused_waits refusal key (sym refuses.1 ∙ is))

  replies_come : (m : Message) (c : Account) (own : Key) → Replies c own x → Comes m
  replies_come m c own replies is = absurd (waiting_differs key own replies.reply (sym is ∙ replies.is))

  welcomes_come : (m : Message) (epoch client incarnation : ℕ) (version : Version)
      → x ≡ Welcome epoch client incarnation version → Comes m
  welcomes_come m epoch client incarnation version same is =
      absurd (welcome_waits epoch client incarnation version key (sym same ∙ is))

  -- a repeat of a request that waits has its call
  waits_come : (own : Key) (call : Call) → ((refusal : Refusal) → OtherCallDue a own call refusal → ⊥) → b ≡ a
      → Answers a own x → Comes (Request own call)
  waits_come own call fits same (inl replies) is = replies_come (Request own call) a own replies is
  waits_come own call fits same (inr (waits, told)) is =
      let one : own ≡ key = one_waiting own key (sym told ∙ is) in
      let its : waits.call ≡ call = elim (same_call waits.call call) as (λ _. waits.call ≡ call) [
        | inl equal ↦ equal
        | inr apart ↦ absurd (fits OtherCall (record {
          place = waits.place;
          other = waits.call;
          arrived = waits.arrived;
          differs = apart;
          is = refl;
        }))
      ] in
      record {
        call = call;
        place = waits.place;
        is = ap (λ k. Request k call) one;
        arrived = ap (λ (c : Account). act_at c.entries waits.place) same ∙ waits.arrived
            ∙ ap (λ k. Some (act.Arrive k waits.call)) one ∙ ap (λ c. Some (act.Arrive key c)) its;
      }

  repeats_come : (own : Key) (call : Call)
      → RefuseOr (OtherCallDue a own call) (Refuses a b x) (Repeats a b own x) → Comes (Request own call)
  repeats_come own call (inl refused) = refuses_come (Request own call) refused.refusal refused.refuses_it
  repeats_come own call (inr (fits, again)) = waits_come own call fits again.account again.answers

  enters_come : (own : Key) (call : Call)
      → EntersOrNoMemory a moment (act.Arrive own call) b x (Answers b own x) → Comes (Request own call)
  enters_come own call (inl refuses) is = refuses_come (Request own call) _ refuses is
  enters_come own call (inr (added, inl replies)) is = replies_come (Request own call) b own replies is
  enters_come own call (inr (added, inr waits)) is =
      let one : own ≡ key = one_waiting own key (sym waits.1 ∙ is) in
      record {
        call = call;
        place = length a.entries;
        is = ap (λ k. Request k call) one;
        arrived = added_last a b moment (act.Arrive own call) added
            ∙ ap (λ k. Some (act.Arrive k call)) one;
      }

  place_comes : (bound : Option ℕ) (own : Key) (call : Call)
      → PlaceLine bound a call (Refuses a b x) (EntersOrNoMemory a moment (act.Arrive own call) b x
      (Answers b own x)) → Comes (Request own call)
  place_comes None own call = enters_come own call
  place_comes (Some most) own call = RefuseOr-elim _ _ _ (Comes (Request own call))
      (λ refusal due. refuses_come (Request own call) refusal) (enters_come own call)

  -- no cancel is answered so
  cancel_comes : (own : Key) → WhereElse (WaitsUnder a.entries own)
      (Adds a moment (act.Cancel own) b × (x ≡ Replied own Cancelled)) (Repeats a b own x)
      → Comes (Cancel own)
  cancel_comes own (inl (waits, ends)) is = absurd (waiting_differs key own Cancelled (sym is ∙ ends.1))
  cancel_comes own (inr (none, again)) is = elim again.answers [
    | inl replies ↦ replies_come (Cancel own) a own replies is
    | inr waits ↦ absurd (none waits.0)
  ]

  buries_come : (own : Key)
      → EntersOrNoMemory a moment (act.Cancel own) b x (Replies b own x) → Comes (Cancel own)
  buries_come own (inl refuses) = refuses_come (Cancel own) _ refuses
  buries_come own (inr (added, replies)) = replies_come (Cancel own) b own replies

  greets_come : (client incarnation : ℕ) (version : Version)
      → EntersOrNoMemory a moment (act.Hello client incarnation version) b x
      (x ≡ Welcome a.epoch client incarnation version) → Comes (Hello client incarnation version)
  greets_come client incarnation version (inl refuses) =
      refuses_come (Hello client incarnation version) _ refuses
  greets_come client incarnation version (inr (added, same)) =
      welcomes_come (Hello client incarnation version) a.epoch client incarnation version same

  steps_come : (limits : StepLimits) (m : Message) → NextAtUnder limits a moment m b x → Comes m
  steps_come limits (Hello client incarnation version) =
      let hello = Hello client incarnation version in
      RefuseOr-elim _ _ _ (Comes hello) (λ refusal due. refuses_come hello refusal)
      (RefuseOr-elim _ _ _ (Comes hello) (λ refusal due. refuses_come hello refusal)
      (WhereElse-elim _ _ _ (Comes hello)
      (λ has again. welcomes_come hello a.epoch client incarnation version again.1)
      (RefuseOr-elim _ _ _ (Comes hello) (λ refusal due. refuses_come hello refusal)
      (RefuseOr-elim _ _ _ (Comes hello) (λ refusal due. refuses_come hello refusal)
      (greets_come client incarnation version)))))
  steps_come limits (Request own call) =
      key_lines (Refuses a b x) _ _ (Comes (Request own call)) a own (refuses_come (Request own call))
      (repeats_come own call)
      (RefuseOr-elim _ _ _ (Comes (Request own call)) (λ refusal due. refuses_come (Request own call) refusal)
      (place_comes limits.open_places own call))
  steps_come limits (Cancel own) =
      key_lines (Refuses a b x) _ _ (Comes (Cancel own)) a own (refuses_come (Cancel own)) (cancel_comes own)
      (RefuseOr-elim _ _ _ (Comes (Cancel own)) (λ refusal due. refuses_come (Cancel own) refusal)
      (buries_come own))

pub next_comes : (limits : StepLimits) (a b : Account) (now : ℕ) (m : Message) (key : Key)
    → NextUnder limits a now m b (Waiting key) → ComesOf b m key
next_comes limits a b now m key next = steps_come next.ticked b _ key (Waiting key) limits m next.steps refl
