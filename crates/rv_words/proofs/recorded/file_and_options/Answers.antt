-- The words are the name, `record`, `--to`, the file and the options.
use Rattle.rv_words.proofs.RecordWords.{record_words}
use Rattle.rv_words.proofs.recorded.file_and_options.Goals as goal

pub returns-in-record-clause-some : goal.returns-in-record-clause-some
returns-in-record-clause-some c = record_words c.args.words.now _ c.in-record.len_at_least
    c.in-record.is-record c.in-record.is-text
