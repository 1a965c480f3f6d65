-- A turn puts the next line after the others.
use Rattle.std.proofs.Common.{◌++◌, ◌∷◌, [], List, Option, ℕ, subst, sym}
use Rattle.std.proofs.KnownBytes.{Appends-trans}
use Rattle.std.specs.Prelude.{IfSome, String, string_bytes}
use Rattle.std.specs.declared.alloc.Global.{Global}
use Rattle.rv_checkpoint.specs.Giving.{HasGiven}
use Rattle.rv_frame.specs.Sink.{SinkTakes}
use Rattle.rv_store.proofs.Printed.{printed_more}
use Rattle.rv_store.proofs.keeping.checkpoint.write_state.Goals as goal

pub loop-turn-preserved : goal.loop-turn-preserved
loop-turn-preserved g c =
    let was = c.loop-turn.invariant in
    let text = string_bytes c.in-Some.line in
    record {
      ready = c.next_line.ensures.ready;
      state = c.next_line.ensures.state c.args.state was.state;
      before = was.before ++ text ∷ [];
      given = subst (λ (o : Option (String Global)). IfSome o (λ line. (before : List (List ℕ))
          → HasGiven before c.loop-turn.writer
          → HasGiven (before ++ string_bytes line ∷ []) c.next_line.new.self)) c.in-Some.is
          c.in_ok-line.ensures.gives was.before was.given;
      took = subst (λ (l : List ℕ). SinkTakes g.W.Write.contents c.args.sink.now c.put_line.new.sink l)
          (sym (printed_more was.before text))
          (Appends-trans _ _ _ _ _ was.took c.in_ok-put_line-in-Some.ensures.took);
    }
