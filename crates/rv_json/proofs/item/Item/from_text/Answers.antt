-- A string is text.
use Rattle.std.proofs.lemmas.Str.{IsUtf8-string_bytes}
use Rattle.rv_json.proofs.item.Item.from_text.Goals as goal

pub returns-clause-utf8 : goal.returns-clause-utf8
returns-clause-utf8 c = IsUtf8-string_bytes c.args.text
