-- Its members have one key each, and these differ.
use Rattle.std.proofs.Common.{◌∙◌, sym}
use Rattle.std.proofs.lemmas.Bool.{false≢true}
use Rattle.serde_json.specs.View.{members_view, view}
use Rattle.rv_replies.proofs.OfFindings.Names.{named_as}
use Rattle.rv_replies.proofs.OneRecord.{keys_apart}
use Rattle.rv_replies.proofs.reading.read_tree.Goals as goal

pub returns-clause-flaw : goal.returns-clause-flaw
returns-clause-flaw c flaw is told reads =
    keys_apart c.args.line.now (view c.in_ok-value.value) (members_view c.in-Some.members.now.entries)
    c.in_ok-value.ensures.value c.in-Some.ensures.some c.in_ok-key.key c.in_ok-key.call
    c.in_ok-key.ensures.asks c.in_ok-own.own c.in_ok-own.reply c.in_ok-own.ensures.tells
    (λ same. false≢true (sym c.if-eq.false ∙ c.eq.ensures ∙ named_as c.in_ok-own.own c.in_ok-key.key same))
    told
    reads
