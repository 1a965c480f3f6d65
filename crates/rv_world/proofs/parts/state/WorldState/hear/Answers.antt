-- An answer that a process hears.
use Rattle.rv_world.proofs.OfParts.Words.{◌≡◌, ◌∙◌, refl, sym, ap, subst, List, Option, None, option_map}
use Rattle.rv_world.proofs.OfParts.Words.{same_Some, Key, Reply, Process, world_of, process_in, HearsAs}
use Rattle.rv_world.proofs.OfParts.Words.{ClientTable, with_process}
use Rattle.rv_world.proofs.OfParts.Hearing.{held_after, heard}
use Rattle.rv_world.proofs.OfParts.TableWrites.{taken_is, taken_out, taken_stands, turned_twice}
use Rattle.rv_world.proofs.parts.state.WorldState.hear.Goals as goal

pub unwrap-running-requires : goal.unwrap-running-requires
unwrap-running-requires c = taken_is c.replace_process.result c.replace_process.ensures.before c.requires.runs

pub replace_process-requires-2 : goal.replace_process-requires-2
replace_process-requires-2 c = taken_stands c.args.self.now.clients c.args.client
    (sym (taken_out c.unwrap-running.ensures c.replace_process.ensures.before))
    c.replace_process.ensures.after

pub returns-in-Some-clause-heard : goal.returns-in-Some-clause-heard
returns-in-Some-clause-heard c = λ running runs.
    let old = c.args.self.now in
    let told = c.hear-told.result in
    let now : process_in c.unwrap-running.result ≡ running = same_Some _ _ (taken_out c.unwrap-running.ensures
    c.replace_process.ensures.before ∙ runs) in
    let turned : c.replace_process-2.new.self ≡ with_process old.clients c.args.client (option_map process_in
    told.process) =
    c.replace_process-2.ensures.after ∙ ap (λ (t : ClientTable). with_process t c.args.client
    (option_map process_in told.process)) c.replace_process.ensures.after
    ∙ turned_twice old.clients c.args.client None _ in
    let held : c.push_reserved.new.self.items ≡ held_after old.held.items told.held =
    c.push_reserved.ensures.items ∙ ap (λ (h : Option (Key × Reply)). held_after old.held.items h)
    (sym c.in-Some.is) in
    let v = world_of (record old { clients = c.replace_process-2.new.self; held = c.push_reserved.new.self })
    in
    heard (world_of old) v old.clients c.replace_process-2.new.self c.args.client c.args.answer told refl refl
    turned
    (ap (λ (l : List (Key × Reply)). record (world_of old) {
      clients = c.replace_process-2.new.self.processes;
      held = l;
    }) held)
    running runs (subst (λ (p : Process). HearsAs p c.args.answer told) now c.hear-told.ensures)

pub returns-in_default-clause-heard : goal.returns-in_default-clause-heard
returns-in_default-clause-heard c = λ running runs.
    let old = c.args.self.now in
    let told = c.hear-told.result in
    let now : process_in c.unwrap-running.result ≡ running = same_Some _ _ (taken_out c.unwrap-running.ensures
    c.replace_process.ensures.before ∙ runs) in
    let turned : c.replace_process-2.new.self ≡ with_process old.clients c.args.client (option_map process_in
    told.process) =
    c.replace_process-2.ensures.after ∙ ap (λ (t : ClientTable). with_process t c.args.client
    (option_map process_in told.process)) c.replace_process.ensures.after
    ∙ turned_twice old.clients c.args.client None _ in
    let v = world_of (record old { clients = c.replace_process-2.new.self }) in
    heard (world_of old) v old.clients c.replace_process-2.new.self c.args.client c.args.answer told refl refl
    turned
    (ap (λ (h : Option (Key × Reply)). record (world_of old) {
      clients =
          c.replace_process-2.new.self.processes;
      held = held_after old.held.items h;
    }) (sym c.in_default.is))
    running runs (subst (λ (p : Process). HearsAs p c.args.answer told) now c.hear-told.ensures)
