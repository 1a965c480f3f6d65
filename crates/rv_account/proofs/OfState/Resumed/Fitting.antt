-- What is open has an item within its limits, and waits with a call within them.
use Rattle.std.proofs.Common.{◌≡◌, ◌∙◌, ℕ, List, Option, Some, None, refl, sym}
use Rattle.std.proofs.Common.{subst}
use Rattle.rv_text.specs.declared.call.Call.{Call}
use Rattle.rv_text.specs.declared.version.Version.{Version}
use Rattle.rv_text.specs.Limits.{FitsCall, FitsItem}
use Rattle.rv_text.proofs.Kept.{item_fits}
use Rattle.rv_session.specs.declared.client.LastRequest.{LastRequest}
use Rattle.rv_session.specs.declared.client.LastRequest.TheVariants.{Waits}
use Rattle.rv_account.specs.state.State.{OpenPlace, State, Waiter}
use Rattle.rv_account.proofs.OfState.Words.{same_Some}
use Rattle.rv_account.specs.state.resume.Resuming.{FitsLastRequest, IsLastAt, IsOpenIn}
use Rattle.rv_account.proofs.OfState.Resumed.Kept.{HoldsTogether}

call_fits : (epoch : ℕ) (version : Version) (request : LastRequest) (place : ℕ) (c : Call)
    → request ≡ Waits place c
    → FitsLastRequest epoch version request → FitsCall c
call_fits epoch version request place c is fits = subst (FitsLastRequest epoch version) is fits

pub waiting_fits : (s : State) → HoldsTogether s → (there : OpenPlace) (w : Waiter)
    → (own : IsLastAt s there w)
    → FitsCall own.call
waiting_fits s is there w own =
    call_fits s.epoch own.session.version own.session.request there.place own.call own.waits
    (is.sessions w.key.client own.session own.known).request

by_waiter : (s : State) → HoldsTogether s → (there : OpenPlace) → IsOpenIn s there → (item : List ℕ)
    → there.item ≡ Some item → (o : Option Waiter) → there.waiter ≡ o → FitsItem item
by_waiter s is there at item has None none =
    let own = is.lies there at none in
    subst FitsItem (same_Some _ _ (sym own.has ∙ has)) own.item_fits
by_waiter s is there at item has (Some w) waits =
    let own = is.awaited there w at waits in
    item_fits own.call item (waiting_fits s is there w own) (sym own.item ∙ has)

-- an open place's item is within its limits
pub open_item_fits : (s : State) → HoldsTogether s → (there : OpenPlace) → IsOpenIn s there → (item : List ℕ)
    → there.item ≡ Some item → FitsItem item
open_item_fits s is there at item has = by_waiter s is there at item has there.waiter refl
