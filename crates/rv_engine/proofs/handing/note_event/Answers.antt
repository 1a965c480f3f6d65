-- Whose lines are gathered, and who is listed.
use Rattle.std.proofs.Common.{◌≡◌, ◌≤◌, ◌∙◌, List, [], drop, length, refl, string_bytes, subst, sym}
use Rattle.rv_account.specs.declared.entry.Entry.{Entry}
use Rattle.rv_engine.specs.Calls.{CountsMore}
use Rattle.rv_engine.specs.Handing.{AddsLooks, GathersFront, entries_kept}
use Rattle.rv_engine.proofs.handing.note_event.Goals as goal

pub returns-clause-sound : goal.returns-clause-sound
returns-clause-sound c = record {
  looks = c.add_all.ensures.sound;
  round = c.requires.round;
  room = c.requires.room ∙ sym c.add_all.ensures.room;
  account = c.requires.account;
  within = subst (λ (l : List Entry). c.gather_kept-parts.result ≤ length l) c.entries-made.ensures
      c.gather_kept-parts.ensures.within;
  nothing = λ none. record {
    lines = c.gather_kept-parts.ensures.same none ∙ c.requires.no_lines none;
    left = subst (λ (l : List Entry). drop c.gather_kept-parts.result l ≡ []) c.entries-made.ensures
        (c.gather_kept-parts.ensures.none_left none);
  };
}

pub returns-clause-notes : goal.returns-clause-notes
returns-clause-notes c = record {
  stored = refl;
  gathers = subst (λ (l : List Entry). GathersFront (entries_kept c.args.parts.now.has_account l)
      (string_bytes c.args.parts.now.lines) (drop c.gather_kept-parts.result l)
      (string_bytes c.gather_kept-parts.new.lines)) c.entries-made.ensures
      c.gather_kept-parts.ensures.gathers;
  looks = record {
    looks = subst (λ numbers. AddsLooks (length c.args.parts.now.looks.flags.items)
        c.args.parts.now.looks.numbers.items numbers c.add_all.new.self.numbers.items) c.changed.ensures.all
        c.add_all.ensures.adds;
    round = refl;
    room = c.add_all.ensures.room;
  };
}

pub returns-clause-calls : goal.returns-clause-calls
returns-clause-calls c =
    subst (λ (l : List Entry). CountsMore c.args.parts.now.calls l c.note_arrivals.new.counts)
    c.entries-made.ensures c.note_arrivals.ensures
