-- The messages that were sent tell who was started, and the table the greatest incarnations of these.
use Rattle.rv_world.proofs.OfParts.Words.{◌≡◌, ◌≢◌, ◌<◌, ◌∷◌, ◌++◌, ◌∙◌, inl, inr, ℕ, nat_eq, List, []}
use Rattle.rv_world.proofs.OfParts.Words.{Option, Some, None, refl, sym, ap, subst, arith, Contains, lookup}
use Rattle.rv_world.proofs.OfParts.Words.{Contains-push, Contains-push_cases, Contains-append_left, same_Some}
use Rattle.rv_world.proofs.OfParts.Words.{none-some, Message, Process, Asking, Seen, World, ProcessSays}
use Rattle.rv_world.proofs.OfParts.Words.{Steps, started_by, ClientTable, EntersClient, AreNewest}
use Rattle.std.specs.List.{filter_map}
use Rattle.std.proofs.lemmas.Bool.{cases_eq}
use Rattle.std.proofs.lemmas.List.{append-nil}
use Rattle.std.proofs.lemmas.List.Elements.{filter_map-append}
use Rattle.rv_world.specs.declared.parts.process.Saying.{Saying}
use Rattle.rv_world.specs.parts.Processes.{event_saying, said_by}
use Rattle.rv_world.specs.parts.Parts.{hello_in}
use Rattle.rv_world.specs.parts.Table.{IsGreatest}
use Rattle.rv_world.specs.declared.parts.process.Saying.TheVariants as saying

-- a message that is no hello starts nobody; a hello starts its client
pub sent_quiet : (messages : List Message) (said : Message) → hello_in said ≡ None
    → started_by (messages ++ said ∷ []) ≡ started_by messages
sent_quiet messages said is =
    filter_map-append hello_in messages (said ∷ [])
    ∙ ap (λ (o : Option (ℕ × ℕ)). started_by messages ++ filter_map (λ (x : Unit {0}). o) (tt ∷ [])) is
    ∙ append-nil (started_by messages)

pub sent_hello : (messages : List Message) (said : Message) (start : ℕ × ℕ) → hello_in said ≡ Some start
    → started_by (messages ++ said ∷ []) ≡ started_by messages ++ start ∷ []
sent_hello messages said start is =
    filter_map-append hello_in messages (said ∷ [])
    ∙ ap (λ (o : Option (ℕ × ℕ)). started_by messages ++ filter_map (λ (x : Unit {0}). o) (tt ∷ [])) is

-- what an outstanding process says is no hello, and its event is that in which it says so
pub saying_quiet : (saying : Saying) (asking : Asking) → hello_in (said_by saying asking) ≡ None
saying_quiet saying.Request asking = refl
saying_quiet saying.Cancel asking = refl

pub saying_steps : (saying : Saying) {w v : World} {client : ℕ} {shows : Seen}
    → ProcessSays w client (said_by saying) v shows → Steps w (event_saying saying client) v shows
saying_steps saying.Request is = is
saying_steps saying.Cancel is = is

-- what was sent, told of the list before there was room for it
pub sent_after : (X : Type 0) (old room sent : List X) (said says : X) → sent ≡ room ++ said ∷ [] → room ≡ old
    → said ≡ says → sent ≡ old ++ says ∷ []
sent_after X old room sent said says is same told =
    is ∙ ap (λ (l : List X). l ++ said ∷ []) same ∙ ap (λ x. old ++ x ∷ []) told

-- ---- the greatest incarnation

same_pair : (one other : ℕ × ℕ) → one ≡ other → (one.0 ≡ other.0) × (one.1 ≡ other.1)
same_pair one other is = (ap (λ (x : ℕ × ℕ). x.0) is, ap (λ (x : ℕ × ℕ). x.1) is)

module _ (started : List (ℕ × ℕ)) (client incarnation : ℕ) where
  own_greatest : ((earlier : ℕ) → Contains started (client, earlier) → earlier < incarnation)
      → IsGreatest (started ++ (client, incarnation) ∷ []) client incarnation
  own_greatest above = record {
    there = Contains-push started (client, incarnation);
    greatest = λ other there. elim (Contains-push_cases started (client, incarnation) (client, other) there) [
      | inl before ↦ omega (arith, above other before)
      | inr is ↦ omega (arith, (same_pair (client, incarnation) (client, other) is).1)
    ];
  }

  other_contained : (one any : ℕ) → one ≢ client → Contains (started ++ (client, incarnation) ∷ []) (one, any)
      → Contains started (one, any)
  other_contained one any apart there = elim (Contains-push_cases started (client, incarnation) (one, any)
      there) [
        | inl before ↦ before
        | inr is ↦ absurd (apart (sym (same_pair (client, incarnation) (one, any) is).0))
      ]

  other_greatest : (one last : ℕ) → one ≢ client → IsGreatest started one last
      → IsGreatest (started ++ (client, incarnation) ∷ []) one last
  other_greatest one last apart is = record {
    there = Contains-append_left started ((client, incarnation) ∷ []) (one, last) is.there;
    greatest = λ other there. is.greatest other (other_contained one other apart there);
  }

  pub entered_newest : (old new : ClientTable) (process : Process) → AreNewest old.newest started
      → EntersClient old new client incarnation process
      → ((earlier : ℕ) → Contains started (client, earlier) → earlier < incarnation)
      → AreNewest new.newest (started ++ (client, incarnation) ∷ [])
  entered_newest old new process are enters above = record {
    known = λ one last found. elim (cases_eq one client) [
      | inl same ↦
          let read : Some last ≡ Some incarnation = sym found ∙ ap (λ (k : ℕ). lookup (nat_eq k) new.newest)
          same ∙ enters.newest in
          subst (λ (k : ℕ). IsGreatest (started ++ (client, incarnation) ∷ []) k last) (sym same)
          (subst (λ (n : ℕ). IsGreatest (started ++ (client, incarnation) ∷ []) client n)
          (sym (same_Some _ _ read)) (own_greatest above))
      | inr apart ↦ other_greatest one last apart (are.known one last (sym (enters.other_newest one apart)
          ∙ found))
    ];
    unknown = λ one any none there. elim (cases_eq one client) [
      | inl same ↦ none-some incarnation (sym none ∙ ap (λ (k : ℕ). lookup (nat_eq k) new.newest) same
          ∙ enters.newest)
      | inr apart ↦ are.unknown one any (sym (enters.other_newest one apart) ∙ none) (other_contained one any
          apart there)
    ];
  }

-- a message that is no hello leaves the greatest incarnations
pub newest_after : (old new : List (ℕ × ℕ)) (messages sent : List Message) (said : Message)
    → AreNewest old (started_by messages) → new ≡ old
    → sent ≡ messages ++ said ∷ [] → hello_in said ≡ None → AreNewest new (started_by sent)
newest_after old new messages sent said are same is quiet =
    subst (λ (l : List (ℕ × ℕ)). AreNewest l (started_by sent)) (sym same)
    (subst (λ (l : List (ℕ × ℕ)). AreNewest old l) (sym (ap (λ (l : List Message). started_by l) is
    ∙ sent_quiet messages said quiet)) are)
