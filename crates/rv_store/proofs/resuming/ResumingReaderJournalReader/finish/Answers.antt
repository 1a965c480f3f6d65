-- What is after the lines that are passed over is the account's rest.
use Rattle.rv_store.proofs.Resumed.{each_err, each_ok, lacks_resumed, makes_resumed}
use Rattle.rv_store.proofs.resuming.ResumingReaderJournalReader.finish.Goals as goal

pub returns-then-self-eq0-clause-made : goal.returns-then-self-eq0-clause-made
returns-then-self-eq0-clause-made c = each_ok c.finish.result _ _ (λ machine made. makes_resumed c.args.self
    machine c.if-self.true c.if-self-eq0.true made) c.finish.ensures.made

pub returns-then-self-eq0-clause-lacking : goal.returns-then-self-eq0-clause-lacking
returns-then-self-eq0-clause-lacking c = each_err c.finish.result _ _ (λ why lacks. lacks_resumed c.args.self
    why c.if-self.true c.if-self-eq0.true lacks) c.finish.ensures.lacking
