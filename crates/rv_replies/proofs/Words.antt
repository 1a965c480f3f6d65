-- What many proofs of this crate cite of others.
pub use Rattle.rv_account.proofs.OfState.Words.{◌++◌, ◌<◌, ◌∙◌, ◌∷◌, ◌≡◌, ◌⊎◌, List, None, Option, Some, []}
pub use Rattle.rv_account.proofs.OfState.Words.{ap, arith, inl, inr, length, map, option_and_then}
pub use Rattle.rv_account.proofs.OfState.Words.{option_map, refl}
pub use Rattle.rv_account.proofs.OfState.Words.{subst, sym, ℕ, none-some, same_Some, slice_get, slice_get-map}
pub use Rattle.rv_account.proofs.OfState.Words.{Account, act_at, call_in, key_in, with_entry}
pub use Rattle.rv_account.proofs.OfState.Words.{act_read, key_read, reads_back, reads_on}
pub use Rattle.rv_account.proofs.OfState.Words.{arrives_once, get-append_end, HasWaiting, Legal}
pub use Rattle.rv_account.proofs.OfState.Words.{CancelledFirst}
pub use Rattle.rv_account.proofs.OfState.Words.{Waiting, Settled, acted, following, state_after, state_of}
pub use Rattle.rv_account.proofs.OfState.Words.{BecameOf}
pub use Rattle.rv_account.proofs.OfState.Words.{IsClient, IsStateOf, WaitsThere, ClientState, LastRequest}
pub use Rattle.rv_account.proofs.OfState.Words.{OpenPlace}
pub use Rattle.rv_account.proofs.OfState.Words.{State, client_at, Reply, Call, Key, last_key_of, with_last}
pub use Rattle.rv_account.proofs.OfState.Words.{met_by}
pub use Rattle.rv_account.specs.declared.entry.Entry.{Entry}
pub use Rattle.rv_account.specs.declared.entry.Act.{Act}
pub use Rattle.rv_account.specs.declared.entry.Act.TheVariants.{Arrive, Cancel, Hello, Tick}
pub use Rattle.rv_account.specs.state.Agreement.{HasReplied}
pub use Rattle.rv_account.specs.state.Moves.{told_again}
pub use Rattle.rv_account.proofs.OfState.Coming.{Comes, more}
pub use Rattle.rv_replies.specs.Ending.{buried, ended, ended_by, own_fate, told_last_by, told_now}
pub use Rattle.rv_replies.specs.findings.Fates.{GivesReply, IsFateOf, NamesNowhere, WaitsWith}
pub use Rattle.rv_replies.specs.findings.Names.{is_named, key_name}
pub use Rattle.rv_replies.specs.Known.{IsAbout, fate_in}
pub use Rattle.rv_replies.specs.Noting.{Changes, EndsEach, NotesOwn, StaysKnown, Turns}
pub use Rattle.rv_replies.specs.declared.findings.fate.Fate.{Fate}
pub use Rattle.rv_replies.specs.declared.fates.Fates.{Fates}
