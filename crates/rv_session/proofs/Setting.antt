-- What a table is after one of its sessions was set.
use Rattle.std.proofs.Common.{◌≡◌, ℕ, Some, IsSome, cond, refl, ap, ◌∙◌}
use Rattle.std.specs.Cmp.{nat_cmp_total}
use Rattle.std.specs.FinMap.{get, insert, len, get-insert}
use Rattle.rv_session.specs.declared.session.Session.{Session}
use Rattle.rv_session.specs.Table.{Table, OnlySets, session_of}
use Rattle.rv_session.proofs.Mapping.{same_client, other_client, len_known, len_unknown}

pub set_by_insert : (old new : Table) (client : ℕ) (v : Session) → new.epoch ≡ old.epoch
    → new.sessions ≡ insert old.sessions client v
    → (IsSome (session_of old client) → new.room ≡ old.room) → OnlySets old new client v
set_by_insert old new client v epoch sessions room = record {
  epoch = epoch;
  own = ap (λ m. get m client) sessions ∙ get-insert nat_cmp_total old.sessions client v client
      ∙ ap (λ b. cond b (Some v) (get old.sessions client)) (same_client client client refl);
  others = λ other apart. ap (λ m. get m other) sessions ∙ get-insert nat_cmp_total old.sessions client v
      other
      ∙ ap (λ b. cond b (Some v) (get old.sessions other)) (other_client other client apart);
  known = λ known. ap len sessions ∙ len_known old.sessions client v known;
  unknown = λ none. ap len sessions ∙ len_unknown old.sessions client v none;
  room = room;
}
