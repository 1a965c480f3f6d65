-- Where no byte is left, none is ready and there is no mark.
use Rattle.std.proofs.Common.{rules, sym, ◌∙◌, ◌≡◌, length}
use Rattle.std.proofs.lemmas.List.{nil_from_length}
use Rattle.rv_server_connections.proofs.OfConnection.Marks.{none_left}
use Rattle.rv_server_connections.proofs.connection.answers.Outgoing.tidy.Goals as goal

pub returns-then-capacity-gt-KEPT_BYTES : goal.returns-then-capacity-gt-KEPT_BYTES
returns-then-capacity-gt-KEPT_BYTES c =
    let none : length c.args.self.now.bytes.items ≡ 0 = search rules in
    let left = none_left c.args.self.now c.requires none in
    record {
      bytes = c.new.ensures.bytes ∙ sym (nil_from_length c.args.self.now.bytes.items none);
      ready = c.new.ensures.ready ∙ sym left.0;
      marks = c.new.ensures.marks ∙ sym left.1;
    }
