-- What is written after a gathering.
use Rattle.std.proofs.Common.{◌≡◌, ◌∙◌, ℕ, List, [], ap, arith, length, subst, sym}
use Rattle.rv_frame.specs.Lasting.{TakesBytes}
use Rattle.rv_hub.specs.declared.parts.HubParts.{HubParts}
use Rattle.rv_hub.specs.Hubs.{hub_terms}
use Rattle.rv_engine.specs.declared.parts.EngineParts.{EngineParts}
use Rattle.rv_engine.specs.Engines.{EngineState, engine_state}
use Rattle.rv_engine.specs.Handing.{WritesInPart, StoresSome, TellsWritten, all_gone}
use Rattle.rv_engine.proofs.Left.{leaves_front}
use Rattle.rv_engine.proofs.Written.{all_lines, all_stored, gone_is, stores_some}
use Rattle.rv_engine.proofs.writing.write_lines.Goals as goal

pub returns-in-Err-clause-not_told : goal.returns-in-Err-clause-not_told
returns-in-Err-clause-not_told g c =
    subst (λ (e : EngineParts). WritesInPart g.L.Lasting.lasts (engine_state c.args.parts.now)
    c.args.file.now
    c.in-Err.why.sent (engine_state e) c.write_gathered.new.file) (sym c.in-Err.ensures.same) (record {
      gathers = c.catch_up.ensures.gathers;
      takes = c.in-Err.ensures.part;
      failed = c.in-Err.ensures.failed;
      refused = c.in-Err.ensures.refused;
    })

pub returns-then-not-is_caught_up-clause-not_told : goal.returns-then-not-is_caught_up-clause-not_told
returns-then-not-is_caught_up-clause-not_told g c =
    let old = engine_state c.args.parts.now in
    let mid = engine_state c.catch_up.new.parts in
    let gone = c.in_default.ensures.gone in
    let same : length (engine_state c.write_gathered.new.parts).left ≡ length mid.left =
    ap (λ (x : EngineState). length x.left) gone in
    subst (λ (x : EngineState). StoresSome g.L.Lasting.lasts old c.args.file.now x
    c.write_gathered.new.file) (sym gone) (record {
      some = omega (arith, same, c.if-not-is_caught_up.ensures.no);
      bytes = mid.lines;
      takes = c.in_default.ensures.written;
      stores = stores_some old mid c.catch_up.ensures.gathers;
      works = c.in_default.ensures.works;
    })

pub tell_written-requires-clause-stored : goal.tell_written-requires-clause-stored
tell_written-requires-clause-stored g c =
    all_stored (engine_state c.catch_up.new.parts) (engine_state c.write_gathered.new.parts)
    c.in_default.ensures.gone c.if-not-is_caught_up.ensures.yes

pub returns-clause-written : goal.returns-clause-written
returns-clause-written g c =
    let old = engine_state c.args.parts.now in
    let mid = engine_state c.catch_up.new.parts in
    let none : mid.left ≡ [] = sym (ap (λ (x : EngineState). x.left) c.in_default.ensures.gone)
    ∙ c.if-not-is_caught_up.ensures.yes in
    subst (λ (l : List ℕ). TakesBytes g.L.Lasting.lasts c.args.file.now c.write_gathered.new.file l)
    (all_lines old mid c.catch_up.ensures.gathers none) c.in_default.ensures.written

pub returns-clause-tells : goal.returns-clause-tells
returns-clause-tells g c =
    let old = engine_state c.args.parts.now in
    let mid = engine_state c.catch_up.new.parts in
    let none : mid.left ≡ [] = sym (ap (λ (x : EngineState). x.left) c.in_default.ensures.gone)
    ∙ c.if-not-is_caught_up.ensures.yes in
    let wrote = c.write_gathered.new.parts in
    let made = c.tell_written.new.parts.hub.dispatcher.entries.items in
    let new = engine_state c.tell_written.new.parts in
    subst (λ (h : HubParts). TellsWritten h.has_journal (hub_terms h) (all_gone old) c.args.now made
    c.tell_written.result new) (c.write_gathered.ensures.hub ∙ c.catch_up.ensures.hub)
    (subst (λ (x : EngineState). TellsWritten wrote.hub.has_journal (hub_terms wrote.hub) x c.args.now made
    c.tell_written.result new) (c.in_default.ensures.gone ∙ gone_is old mid c.catch_up.ensures.gathers none)
    c.tell_written.ensures.tells)

pub returns-in-Err-clause-any_moment : goal.returns-in-Err-clause-any_moment
returns-in-Err-clause-any_moment g c =
    leaves_front g.L.Lasting.lasts c.args.file.now c.write_gathered.new.file (engine_state c.args.parts.now)
    (engine_state c.catch_up.new.parts) c.catch_up.ensures.gathers c.write_gathered.ensures.any_moment

pub returns-then-not-is_caught_up-clause-any_moment : goal.returns-then-not-is_caught_up-clause-any_moment
returns-then-not-is_caught_up-clause-any_moment g c =
    leaves_front g.L.Lasting.lasts c.args.file.now c.write_gathered.new.file (engine_state c.args.parts.now)
    (engine_state c.catch_up.new.parts) c.catch_up.ensures.gathers c.write_gathered.ensures.any_moment

pub returns-clause-any_moment : goal.returns-clause-any_moment
returns-clause-any_moment g c =
    leaves_front g.L.Lasting.lasts c.args.file.now c.write_gathered.new.file (engine_state c.args.parts.now)
    (engine_state c.catch_up.new.parts) c.catch_up.ensures.gathers c.write_gathered.ensures.any_moment
