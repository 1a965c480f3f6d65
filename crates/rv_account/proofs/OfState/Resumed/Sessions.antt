-- What the sessions of a map become where some whose requests waited are told.
use Rattle.std.proofs.Common.{◌≡◌, ◌≢◌, ◌⊎◌, ◌∷◌, ◌∙◌, ℕ, zero, suc, List, [], Option, Some, None, cond, inl}
use Rattle.std.proofs.Common.{inr}
use Rattle.std.proofs.Common.{refl, sym, ap, subst, slice_get}
use Rattle.std.proofs.lemmas.Bool.{cases_eq}
use Rattle.std.specs.Cmp.{nat_cmp_total}
use Rattle.std.specs.FinMap.{FinMap, get, get-insert, insert}
use Rattle.std.specs.Ordering.{nat_cmp}
use Rattle.rv_text.specs.declared.call.Call.{Call}
use Rattle.rv_text.specs.declared.answer.Reply.{Reply}
use Rattle.rv_text.specs.Limits.{FitsReply, IsOfEpoch}
use Rattle.rv_session.specs.declared.client.LastRequest.{LastRequest}
use Rattle.rv_session.specs.declared.client.LastRequest.TheVariants.{Fresh, Waits, RepliedTo, CancelledUnseen}
use Rattle.rv_session.specs.Clients.{answered, place_waiting, with_request}
use Rattle.rv_session.proofs.Mapping.{other_client, same_client}
use Rattle.rv_account.specs.state.After.{Settled, insert_told, tell, tell_all}
use Rattle.rv_account.specs.state.State.{ClientState}
use Rattle.rv_account.proofs.OfState.Words.{none-some, same_Some}
use Rattle.rv_account.specs.state.resume.Suiting.{SuitsCall}
use Rattle.rv_account.specs.state.resume.Resuming.{FitsLastRequest, FitsSession}

abbrev pub ClientMap : Type 0
ClientMap = FinMap nat_cmp ClientState

pub put_own : (m : ClientMap) (client : ℕ) (session : ClientState)
    → get (insert m client session) client ≡ Some session
put_own m client session =
    get-insert nat_cmp_total m client session client
    ∙ ap (λ b. cond b (Some session) (get m client)) (same_client client client refl)

pub put_other : (m : ClientMap) (client other : ℕ) (session : ClientState) → other ≢ client
    → get (insert m client session) other ≡ get m other
put_other m client other session apart =
    get-insert nat_cmp_total m client session other
    ∙ ap (λ b. cond b (Some session) (get m other)) (other_client other client apart)

-- ---- one session

-- its request waited, and was told a reply within its limits
pub record WasAnswered (epoch : ℕ) (old new : ClientState) : Type 0 where
  pub place : ℕ
  pub call : Call
  pub waited : old.request ≡ Waits place call
  pub reply : Reply
  pub is : new ≡ with_request old (RepliedTo call reply)
  pub fits : FitsReply reply
  pub of_epoch : IsOfEpoch epoch reply
  pub suits : SuitsCall old.version call reply

abbrev pub StaysOrAnswered : ℕ → ClientState → ClientState → Type 0
StaysOrAnswered epoch old new = (new ≡ old) ⊎ WasAnswered epoch old new

pub waits_nowhere : (request : LastRequest) (place : ℕ) (call : Call) → request ≡ Waits place call
    → place_waiting request ≡ None → ⊥
waits_nowhere request place call waits idle = none-some place (sym idle ∙ ap place_waiting waits)

-- who waits still is as before
pub still_waits : (epoch : ℕ) (old new : ClientState) (place : ℕ) (call : Call)
    → StaysOrAnswered epoch old new
    → new.request ≡ Waits place call → new ≡ old
still_waits epoch old new place call (inl same) waits = same
still_waits epoch old new place call (inr told) waits =
    absurd (waits_nowhere new.request place call waits (ap (λ (c : ClientState). place_waiting c.request)
    told.is))

-- who waited nowhere is as before
pub idle_stays : (epoch : ℕ) (old new : ClientState) → StaysOrAnswered epoch old new
    → place_waiting old.request ≡ None → new ≡ old
idle_stays epoch old new (inl same) idle = same
idle_stays epoch old new (inr told) idle = absurd (waits_nowhere old.request told.place told.call told.waited
    idle)

twice : (epoch : ℕ) (old then new : ClientState) → StaysOrAnswered epoch old then
    → StaysOrAnswered epoch then new → StaysOrAnswered epoch old new
twice epoch old then new (inl same) second = subst (λ x. StaysOrAnswered epoch x new) same second
twice epoch old then new (inr told) second =
    inr (subst (WasAnswered epoch old) (sym (idle_stays epoch then new second
    (ap (λ (c : ClientState). place_waiting c.request) told.is))) told)

same_session : (old : ClientState) (request : LastRequest) → old.request ≡ request
    → with_request old request ≡ old
same_session old request is = ap (with_request old) (sym is)

answer_one : (epoch : ℕ) (reply : Reply) (old : ClientState) → FitsReply reply → IsOfEpoch epoch reply
    → ((place : ℕ) (call : Call) → old.request ≡ Waits place call → SuitsCall old.version call reply)
    → (request : LastRequest) → old.request ≡ request
    → StaysOrAnswered epoch old (with_request old (answered reply request))
answer_one epoch reply old fits of suits Fresh is = inl (same_session old Fresh is)
answer_one epoch reply old fits of suits (Waits place call) is =
    inr (record {
      place = place;
      call = call;
      waited = is;
      reply = reply;
      is = refl;
      fits = fits;
      of_epoch = of;
      suits = suits place call is;
    })
answer_one epoch reply old fits of suits (RepliedTo call other) is =
    inl (same_session old (RepliedTo call other) is)
answer_one epoch reply old fits of suits CancelledUnseen is = inl (same_session old CancelledUnseen is)

answered_idle : (reply : Reply) (r : LastRequest) → place_waiting (answered reply r) ≡ None
answered_idle reply Fresh = refl
answered_idle reply (Waits place call) = refl
answered_idle reply (RepliedTo call other) = refl
answered_idle reply CancelledUnseen = refl

-- its limits are kept
pub answered_fits : (epoch client : ℕ) (old new : ClientState) → StaysOrAnswered epoch old new
    → FitsSession epoch client old → FitsSession epoch client new
answered_fits epoch client old new (inl same) fits = subst (FitsSession epoch client) (sym same) fits
answered_fits epoch client old new (inr told) fits =
    subst (FitsSession epoch client) (sym told.is) (record {
      client_fits = fits.client_fits;
      incarnation = fits.incarnation;
      last = fits.last;
      request = (
        subst (FitsLastRequest epoch old.version) told.waited fits.request,
        told.fits,
        told.of_epoch,
        told.suits,
      );
      unasked = λ none. absurd (waits_nowhere old.request told.place told.call told.waited
          (ap place_waiting (fits.unasked none)));
      fresh = λ is. absurd (not_fresh told.call told.reply is);
    })
  where
    not_fresh : (call : Call) (reply : Reply) → RepliedTo call reply ≡ Fresh → ⊥
    not_fresh call reply is = cc

-- ---- a map

-- each session of the new map is that of the old one, or was answered
abbrev pub OnlyAnswers : ℕ → ClientMap → ClientMap → Type 0
OnlyAnswers epoch old new = (client : ℕ) (session : ClientState) → get new client ≡ Some session
    → (was : ClientState) × (get old client ≡ Some was) × StaysOrAnswered epoch was session

-- the reply is within its limits, and one that the call may get for which the session waits
pub record IsFitting (epoch : ℕ) (clients : ClientMap) (x : Settled) : Type 0 where
  pub fits : FitsReply x.reply
  pub of_epoch : IsOfEpoch epoch x.reply
  pub suits : (session : ClientState) (place : ℕ) (call : Call) → get clients x.key.client ≡ Some session
      → session.request ≡ Waits place call → SuitsCall session.version call x.reply

module _ (epoch : ℕ) (clients : ClientMap) (settled : Settled) where
  tell_by : (o : Option ClientState) → get clients settled.key.client ≡ o → IsFitting epoch clients settled
      → OnlyAnswers epoch clients (insert_told clients settled o)
  tell_by None is own client session there = (session, there, inl refl)
  tell_by (Some was) is own client session there = elim (cases_eq client settled.key.client) [
    | inl same ↦ (
      was,
      ap (get clients) same ∙ is,
      subst (StaysOrAnswered epoch was)
          (same_Some _ _ (sym (put_own clients settled.key.client
          (with_request was (answered settled.reply was.request)))
          ∙ ap (get (insert_told clients settled (Some was))) (sym same) ∙ there))
          (answer_one epoch settled.reply was own.fits own.of_epoch (λ place call. own.suits was place call
          is)
          was.request refl),
    )
    | inr apart ↦ (
      session,
      sym (put_other clients settled.key.client client
          (with_request was (answered settled.reply was.request)) apart) ∙ there,
      inl refl,
    )
  ]

  tell_apart : (o : Option ClientState) (client : ℕ) → client ≢ settled.key.client
      → get (insert_told clients settled o) client ≡ get clients client
  tell_apart None client apart = refl
  tell_apart (Some was) client apart =
      put_other clients settled.key.client client (with_request was (answered settled.reply was.request))
      apart

  tell_own : (o : Option ClientState) → get clients settled.key.client ≡ o → (session : ClientState)
      → get (insert_told clients settled o) settled.key.client ≡ Some session
      → place_waiting session.request ≡ None
  tell_own None is session there = absurd (none-some session (sym is ∙ there))
  tell_own (Some was) is session there =
      ap (λ (c : ClientState). place_waiting c.request) (same_Some _ _ (sym there
      ∙ put_own clients settled.key.client (with_request was (answered settled.reply was.request))))
      ∙ answered_idle settled.reply was.request

-- those that are told get such replies
abbrev pub FitEach : ℕ → ClientMap → List Settled → Type 0
FitEach epoch clients settles = (i : ℕ) (x : Settled) → slice_get settles i ≡ Some x
    → IsFitting epoch clients x

-- the others too, after the first
fit_then : (epoch : ℕ) (clients : ClientMap) (y : Settled) (settles : List Settled)
    → FitEach epoch clients (y ∷ settles) → FitEach epoch (tell clients y) settles
fit_then epoch clients y settles fit i x at =
    let own = fit (suc i) x at in
    record {
      fits = own.fits;
      of_epoch = own.of_epoch;
      suits = λ session place call there waits.
          let was = tell_by epoch clients y (get clients y.key.client) refl (fit 0 y refl) x.key.client
          session
          there in
          let same = still_waits epoch was.0 session place call was.2 waits in
          subst (λ (c : ClientState). SuitsCall c.version call x.reply) (sym same)
          (own.suits was.0 place call was.1 (ap (λ (c : ClientState). c.request) (sym same) ∙ waits));
    }

pub only_answers : (epoch : ℕ) (clients : ClientMap) (settles : List Settled) → FitEach epoch clients settles
    → OnlyAnswers epoch clients (tell_all clients settles)
only_answers epoch clients [] fit client session there = (session, there, inl refl)
only_answers epoch clients (x ∷ settles) fit client session there =
    let then = only_answers epoch (tell clients x) settles (fit_then epoch clients x settles fit) client
    session
    there in
    let first = tell_by epoch clients x (get clients x.key.client) refl (fit 0 x refl) client then.0 then.1 in
    (first.0, first.1, twice epoch first.0 then.0 session first.2 then.2)

-- who isn't told has its session
pub told_apart : (clients : ClientMap) (settles : List Settled) (client : ℕ)
    → ((i : ℕ) (x : Settled) → slice_get settles i ≡ Some x → client ≢ x.key.client)
    → get (tell_all clients settles) client ≡ get clients client
told_apart clients [] client apart = refl
told_apart clients (x ∷ settles) client apart =
    told_apart (tell clients x) settles client (λ i y at. apart (suc i) y at)
    ∙ tell_apart 0 clients x (get clients x.key.client) client (apart 0 x refl)

-- who is told waits nowhere
pub told_idle : (epoch : ℕ) (clients : ClientMap) (settles : List Settled) → FitEach epoch clients settles
    → (i : ℕ) (x : Settled) → slice_get settles i ≡ Some x → (session : ClientState)
    → get (tell_all clients settles) x.key.client ≡ Some session → place_waiting session.request ≡ None
told_idle epoch clients [] fit i x at session there = absurd (none-some x at)
told_idle epoch clients (y ∷ settles) fit zero x at session there =
    let then = only_answers epoch (tell clients y) settles (fit_then epoch clients y settles fit) x.key.client
    session there in
    let own : get (tell clients y) y.key.client ≡ Some then.0 =
    ap (λ (z : Settled). get (tell clients y) z.key.client) (same_Some _ _ at) ∙ then.1 in
    let idle = tell_own epoch clients y (get clients y.key.client) refl then.0 own in
    ap (λ (c : ClientState). place_waiting c.request) (idle_stays epoch then.0 session then.2 idle) ∙ idle
told_idle epoch clients (y ∷ settles) fit (suc i) x at session there =
    told_idle epoch (tell clients y) settles (fit_then epoch clients y settles fit) i x at session there
