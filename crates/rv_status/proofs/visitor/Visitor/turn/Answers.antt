-- The read, the answers and the write, one after another.
use Rattle.std.proofs.Common.{◌∙◌, List, subst}
use Rattle.http_server.specs.declared.state.Config.{Config}
use Rattle.http_server.specs.Connection.{history}
use Rattle.http_server.specs.Exchange.{Call, Calls}
use Rattle.http_server.specs.History.{Rests}
use Rattle.rv_status.proofs.visitor.Visitor.turn.Goals as goal

pub returns : goal.returns
returns g c =
    let read = c.read.ensures in
    let write = c.write.ensures in
    let made = c.advance.ensures in
    record {
      more = read.more;
      middle = c.read.new.self.stream;
      gives = read.gives;
      rested = history c.advance.new.self;
      received = made.quiet.0 ∙ read.received;
      calls = subst (λ (calls : List Call). Calls g.P.Service.answers c.args.pages.now c.advance.new.service
          calls
          (history c.advance.new.self).calls) read.calls made.calls;
      rests = subst (λ (config : Config). Rests config (history c.advance.new.self))
          (made.config ∙ read.config) made.rests;
      waited = c.wants_write-answers.ensures;
      count = write.count;
      takes = write.takes;
      sent = write.sent;
      config = write.config ∙ made.config ∙ read.config;
      came = write.came ∙ read.came;
    }
