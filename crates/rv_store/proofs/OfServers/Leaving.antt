-- An answer of which a byte left or may leave rests on no more entries than are written.
use Rattle.std.proofs.Common.{inl, inr, ◌≡◌, ◌<◌, ◌≤◌, ◌+◌, ◌∙◌, ◌++◌, ◌∷◌, ℕ, zero, suc, List, []}
use Rattle.std.proofs.Common.{Some, refl, sym, ap}
use Rattle.std.proofs.Common.{subst, arith, length, take, slice_get}
use Rattle.std.specs.List.{All}
use Rattle.std.specs.Prelude.{◌/◌}
use Rattle.std.proofs.lemmas.List.{length-append, length-map}
use Rattle.std.proofs.lemmas.List.Elements.{All-get_or}
use Rattle.std.proofs.lemmas.Option.{get_or_from_slice_get, none-some, same_Some}
use Rattle.rv_account.proofs.OfRules.Places.{get-append_within}
use Rattle.rv_frame.specs.Cut.{frame_bytes}
use Rattle.rv_server_connections.specs.connection.Traffic.{AnswerByte, resting}
use Rattle.rv_server_connections.specs.connection.History.{Given, given_bytes}
use Rattle.rv_store.specs.servers.crashes.Crashes.{Server}
use Rattle.rv_store.specs.servers.Laws.{SentMayLeave}
use Rattle.rv_store.specs.servers.Serving.{IsHeldAtServer, MayLeave}

-- ---- the first byte of an answer

past_front : {X : Type 0} (xs ys : List X) (i : ℕ) → slice_get (xs ++ ys) (length xs + i) ≡ slice_get ys i
past_front [] ys i = let none : 0 + i ≡ i = omega arith in ap (slice_get ys) none
past_front (x ∷ xs) ys i =
    let same : length (x ∷ xs) + i ≡ suc (length xs + i) = omega arith in
    ap (slice_get (x ∷ (xs ++ ys))) same ∙ past_front xs ys i

-- where the answer's bytes begin stands one that rests on as many entries
pub record BeginsAt (answers : List Given) (place : ℕ) (given : Given) : Type 0 where
  pub byte : AnswerByte
  pub there : slice_get (given_bytes answers) (length (given_bytes (take place answers))) ≡ Some byte
  pub rests : byte.rests_on ≡ given.rests_on

begins_at : (answers : List Given) (place : ℕ) (given : Given) → slice_get answers place ≡ Some given
    → BeginsAt answers place given
begins_at [] place given at = absurd (none-some given at)
begins_at (first ∷ answers) zero given at = record {
  byte = record { byte = length first.body / 256; rests_on = first.rests_on };
  there = refl;
  rests = ap (λ (g : Given). g.rests_on) (same_Some first given at);
}
begins_at (first ∷ answers) (suc place) given at =
    let rest = begins_at answers place given at in
    let own : List AnswerByte = resting first.rests_on (frame_bytes first.body) in
    let before : List AnswerByte = given_bytes (take place answers) in
    record {
      byte = rest.byte;
      there = ap (slice_get (own ++ given_bytes answers)) (length-append own before)
          ∙ past_front own (given_bytes answers) (length before) ∙ rest.there;
      rests = rest.rests;
    }

-- ---- what is before the first that may not leave

free_at : (written : ℕ) (front : List AnswerByte) (i : ℕ) (byte : AnswerByte)
    → All (λ b. b.rests_on ≤ written) front → i < length front → slice_get front i ≡ Some byte
    → byte.rests_on ≤ written
free_at written front i byte all less at =
    subst (λ (b : AnswerByte). b.rests_on ≤ written) (get_or_from_slice_get front i byte byte at)
    (All-get_or (λ b. b.rests_on ≤ written) front i byte less all)

free_answer : (written : ℕ) (answers : List Given) (front rest : List AnswerByte) (place : ℕ) (given : Given)
    → given_bytes answers ≡ front ++ rest → All (λ b. b.rests_on ≤ written) front
    → slice_get answers place ≡ Some given → length (given_bytes (take place answers)) < length front
    → given.rests_on ≤ written
free_answer written answers front rest place given parts all at less =
    let first = begins_at answers place given at in
    let there : slice_get front (length (given_bytes (take place answers))) ≡ Some first.byte =
    sym (get-append_within front rest (length (given_bytes (take place answers))) less)
    ∙ ap (λ l. slice_get l (length (given_bytes (take place answers)))) (sym parts) ∙ first.there in
    let few = free_at written front (length (given_bytes (take place answers))) first.byte all less there in
    let same = first.rests in
    omega arith

may_leave : (server : Server) (body : List ℕ) (given : Given) → given.rests_on ≤ length server.stored.entries
    → IsHeldAtServer server body given → MayLeave server body given
may_leave server body given few (inl none) = inl none
may_leave server body given few (inr (inl lacks)) = inr (inl lacks)
may_leave server body given few (inr (inr (message, is, held))) = inr (inr (
  message,
  is,
  record {
    packet = held.packet;
    client_is = held.client_is;
    body_is = held.body_is;
    may = (given.rests_on, few, held.held);
  },
))

pub sent_may_leave : SentMayLeave
sent_may_leave messages server a s pasts n place wire body given is past there framed answered less =
    let has = past wire there in
    let history = has.history in
    let counted : length history.front ≡ (pasts n).sent + length wire.ready =
    sym (length-map history.front (λ (b : AnswerByte). b.byte)) ∙ ap (λ (l : List ℕ). length l) history.leaves
    ∙ length-append has.left wire.ready ∙ ap (λ k. k + length wire.ready) has.sent in
    let few = free_answer s.open_wires.written (pasts n).answers history.front wire.behind place given
    history.frees.parts history.frees.free answered (omega arith) in
    let stored = is.stored_is in
    may_leave server body given (omega arith) (is.answers n place body given framed answered)
