-- What many proofs of this crate cite of the library, of the crates below and of its own definitions.
pub use Rattle.rv_account.specs.Calls.{Lasts, opposite}
pub use Rattle.rv_dual.specs.Offers.{place_of, places_of, takers_places}
pub use Rattle.rv_dual.specs.Queue.{Queue}
pub use Rattle.rv_session.specs.OwedDuty.{OwedDuty}
pub use Rattle.rv_text.specs.Calls.{side_of, wait_of}
pub use Rattle.rv_text.specs.declared.call.Side.{Side}
pub use Rattle.rv_text.specs.declared.call.Side.TheVariants.{Exchanges, Gives, Looks, Takes}
pub use Rattle.rv_text.specs.declared.call.Wait.{Wait}
pub use Rattle.rv_model_queues.specs.Meeting.{ArrivedOn, FindsNobody, LeavesFirst, LeavesSide, OwnDuty}
pub use Rattle.rv_model_queues.specs.Meeting.{StandsOn, opposed_by}
pub use Rattle.rv_model_queues.specs.Parked.{AreParked, IsParked}
pub use Rattle.rv_model_queues.specs.Views.{AllEmpty, AllFree, AreBelow, SameWaitQueues, WaitQueues}
pub use Rattle.rv_model_queues.specs.Views.{place_of_duty, queue_at, waiting_on}
pub use Rattle.rv_model_queues.specs.declared.outcome.Arrived.{Arrived}
pub use Rattle.std.proofs.Common.{Bool, List, None, Option, Some, [], ap, arith, cond, false, inl, inr}
pub use Rattle.std.proofs.Common.{length, length-append, option_and_then, refl, subst, suc, sym, true, zero}
pub use Rattle.std.proofs.Common.{ℕ, ◌++◌, ◌<◌, ◌∙◌, ◌∷◌, ◌≡◌, ◌⊎◌}
pub use Rattle.std.proofs.lemmas.Bool.{false≢true}
pub use Rattle.std.proofs.lemmas.Bool.Decides.{eqb_tells}
pub use Rattle.std.proofs.lemmas.Option.{none-some, same_Some, slice_get-get_or, slice_get-map}
pub use Rattle.std.specs.List.{slice_get}
pub use Rattle.std.specs.Prelude.{option_map}
