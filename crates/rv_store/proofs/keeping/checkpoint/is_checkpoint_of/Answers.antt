-- A turn passes over the next line.
use Rattle.std.proofs.Common.{◌++◌, ◌∷◌, ◌∙◌, [], List, Option, ℕ, ap, append_assoc, subst, sym}
use Rattle.std.specs.Prelude.{IfSome, String, string_bytes}
use Rattle.std.specs.declared.alloc.Global.{Global}
use Rattle.rv_book.specs.lines.Lines.{printed_lines}
use Rattle.rv_checkpoint.specs.Giving.{HasGiven}
use Rattle.rv_store.proofs.Printed.{printed_more}
use Rattle.rv_store.proofs.keeping.checkpoint.is_checkpoint_of.Goals as goal

pub loop-turn-preserved : goal.loop-turn-preserved
loop-turn-preserved c =
    let was = c.loop-turn.invariant in
    let text = string_bytes c.in-Some.line in
    let after = c.in-Some-after_line.after.now in
    let before = printed_lines was.before in
    record {
      ready = c.next_line.ensures.ready;
      state = c.next_line.ensures.state c.args.state was.state;
      before = was.before ++ text ∷ [];
      given = subst (λ (o : Option (String Global)). IfSome o (λ line. (before : List (List ℕ))
          → HasGiven before c.loop-turn.writer
          → HasGiven (before ++ string_bytes line ∷ []) c.next_line.new.self)) c.in-Some.is
          c.in_ok-line.ensures.gives was.before was.given;
      parts = was.parts
          ∙ ap (λ (l : List ℕ). before ++ l) (c.in-Some-after_line.ensures
          ∙ ap (λ (l : List ℕ). (l ++ 10 ∷ []) ++ after) c.as_str.ensures.value)
          ∙ sym (append_assoc before (text ++ 10 ∷ []) after)
          ∙ ap (λ (l : List ℕ). l ++ after) (sym (printed_more was.before text));
    }
