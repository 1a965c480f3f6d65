-- An event as one list of effects.
use Rattle.std.proofs.Common.{◌≡◌, ◌∙◌, ◌++◌, ◌∷◌, ℕ, List, [], refl, sym, ap}
use Rattle.std.proofs.Common.{false, option_to_list, true, Bool}
use Rattle.std.specs.Prelude.{flat_map}
use Rattle.std.proofs.lemmas.Grind.{flat_map-append}
use Rattle.std.proofs.lemmas.List.{append-nil}
use Rattle.rv_account.specs.declared.entry.Entry.{Entry}
use Rattle.rv_hub.specs.dispatcher.View.{DispatcherState, DispatcherTerms, begun, moment_now}
use Rattle.rv_hub.specs.dispatcher.Effects.{Effect, DoesAll, entries_of_effect, told_in_effects}
use Rattle.rv_hub.specs.dispatcher.Effects.{Elapsed}
use Rattle.rv_hub.proofs.OfDispatcher.Chains.{does_append}
use Rattle.rv_hub.proofs.OfDispatcher.Quiet.{keys_quiet}
use Rattle.rv_hub.specs.declared.events.HubEvent.{HubEvent}
use Rattle.rv_hub.specs.declared.events.HubEvent.TheVariants as event
use Rattle.rv_hub.specs.EventEffects.{all_effects, event_effects, goes_effects}
use Rattle.rv_hub.specs.Turns.{EventGoesOn, TakesEvent, goes_on_first, last_effects, made_by, offer_in}
use Rattle.rv_hub.specs.Turns.{own_effects}
use Rattle.rv_hub.proofs.Flattened.{stride_does, turns_do, turns_made}
use Rattle.rv_hub.proofs.Whom.{late_quiet}

-- effects lead from one state to the next, and made these entries
pub record AreEffects (terms : DispatcherTerms) (s : DispatcherState) (made : List Entry) (effects :
    List Effect)
    (t : DispatcherState) : Type 0
  where
    pub does : DoesAll terms s effects t
    pub made_is : made ≡ flat_map entries_of_effect effects

pub effects_on : (terms : DispatcherTerms) (s m t : DispatcherState) (one two : List Entry) (xs ys :
    List Effect)
    → AreEffects terms s one xs m → AreEffects terms m two ys t → AreEffects terms s (one ++ two) (xs ++ ys) t
effects_on terms s m t one two xs ys first second = record {
  does = does_append terms xs ys s m t first.does second.does;
  made_is = ap (λ l. l ++ two) first.made_is ∙ ap (λ l. flat_map entries_of_effect xs ++ l) second.made_is
      ∙ sym (flat_map-append entries_of_effect xs ys);
}

-- ---- what goes on, and an event

pub goes_do : (terms : DispatcherTerms) (s : DispatcherState) (handed : ℕ) (what : HubEvent) (made :
    List Entry) (taken :
    ℕ)
    (t : DispatcherState) (goes : EventGoesOn terms s handed what made taken t)
    → AreEffects terms s made (goes_effects terms s handed what made taken t goes) t
goes_do terms s handed what made taken t goes =
    let time : AreEffects terms s (goes.entries ++ []) (Elapsed (moment_now s.now handed) goes.entries
    goes.settled
    ∷ goes.ended) goes.after_time = record {
      does = stride_does terms s goes.after_time _ goes.ended goes.time;
      made_is = ap (λ l. goes.entries ++ l)
          (sym (keys_quiet terms goes.time.between goes.after_time goes.settled goes.ended goes.time.told).0);
    } in
    let late : AreEffects terms goes.after_time [] goes.overdue goes.after_overdue = record {
      does = goes.tells.does;
      made_is = sym (late_quiet goes.tells.subscribers goes.overdue goes.tells.each);
    } in
    let turns : AreEffects terms goes.after_overdue (made_by goes.turns) (all_effects goes.turns) t = record {
      does = turns_do terms goes.after_overdue t (offer_in what)
          (option_to_list (goes_on_first what) ++ (told_in_effects goes.ended ++ told_in_effects
          goes.overdue))
          goes.turns taken goes.runs;
      made_is = sym (turns_made goes.turns);
    } in
    let all = effects_on terms s goes.after_overdue t _ _ _ _
    (effects_on terms s goes.after_time goes.after_overdue _ _ _ _ time late) turns in
    record {
      does = all.does;
      made_is = goes.made_is
          ∙ ap (λ l. l ++ made_by goes.turns) (sym (append-nil (goes.entries ++ [])
          ∙ append-nil goes.entries))
          ∙ all.made_is;
    }

own_made : (what : HubEvent) (number : ℕ) → flat_map entries_of_effect (own_effects what number) ≡ []
own_made event.Opened number = refl
own_made (event.Came connection piece) number = refl
own_made (event.Ended connection) number = refl
own_made (event.Gone connection) number = refl
own_made (event.Took connection count) number = refl
own_made (event.Written entries) number = refl
own_made event.Passed number = refl

last_made : (journal : Bool) (s : DispatcherState) → flat_map entries_of_effect (last_effects journal s) ≡ []
last_made true s = refl
last_made false s = refl

pub event_does : (journal : Bool) (terms : DispatcherTerms) (s : DispatcherState) (handed : ℕ) (what :
    HubEvent)
    (made : List Entry) (result : ℕ) (t : DispatcherState) (takes : TakesEvent journal terms s handed what
    made
    result t)
    → AreEffects terms (begun s) made (event_effects journal terms s handed what made result t takes) t
event_does journal terms s handed what made result t takes =
    let own : AreEffects terms (begun s) [] (own_effects what takes.number) takes.after_own = record {
      does = takes.own;
      made_is = sym (own_made what takes.number);
    } in
    let goes = goes_do terms takes.after_own handed what made takes.taken takes.after_turns takes.goes_on in
    let last : AreEffects terms takes.after_turns [] (last_effects journal takes.after_turns) t = record {
      does = takes.last;
      made_is = sym (last_made journal takes.after_turns);
    } in
    let all = effects_on terms (begun s) takes.after_turns t _ _ _ _
    (effects_on terms (begun s) takes.after_own takes.after_turns _ _ _ _ own goes) last in
    record { does = all.does; made_is = sym (append-nil made) ∙ all.made_is }
