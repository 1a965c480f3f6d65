-- What comes of an event keeps a world sound and within its limits, and only adds to it.
use Rattle.rv_world.proofs.OfParts.Words.{Result, Ok, Err, sym, subst, Contains-push, Event, Seen}
use Rattle.rv_world.proofs.OfParts.Words.{WorldRefusal, World, book_limits, EventComesTo, OnlyGrows, AllFits}
use Rattle.rv_world.proofs.OfParts.Words.{IsSoundWorld}
use Rattle.rv_world.specs.parts.Limits.{FitsEvent}
use Rattle.rv_world.proofs.OfParts.Fitting.{step_fits}
use Rattle.rv_world.proofs.OfParts.Growth.{grows_itself, step_grows}
use Rattle.rv_world.proofs.OfParts.Soundness.{step_sound}

pub comes_sound : (w : World) (e : Event) (v : World) (result : Result Seen WorldRefusal) → IsSoundWorld w
    → EventComesTo w e v result → IsSoundWorld v
comes_sound w e v (Ok shows) sound comes = step_sound book_limits w e v shows sound comes
comes_sound w e v (Err refusal) sound comes = subst IsSoundWorld (sym comes.1) sound

pub comes_fits : (w : World) (e : Event) (v : World) (result : Result Seen WorldRefusal) → IsSoundWorld w
    → AllFits w → FitsEvent e → EventComesTo w e v result → AllFits v
comes_fits w e v (Ok shows) sound fits good comes = step_fits w e v shows (sound.legal_accounts.legal
    w.present (Contains-push w.earlier w.present)) fits good comes
comes_fits w e v (Err refusal) sound fits good comes = subst AllFits (sym comes.1) fits

pub comes_grows : (w : World) (e : Event) (v : World) (result : Result Seen WorldRefusal)
    → EventComesTo w e v result → OnlyGrows w v
comes_grows w e v (Ok shows) comes = step_grows book_limits w e v shows comes
comes_grows w e v (Err refusal) comes = subst (λ (u : World). OnlyGrows w u) (sym comes.1) (grows_itself w)
