-- A value that is found has each of its members among these.
use Rattle.rv_json.specs.Flat.{flat_members}
use Rattle.rv_json.proofs.InOrder.{flat_members_sorted}
use Rattle.rv_text.specs.Reading.{calls}
use Rattle.rv_text.proofs.Readers.{call_reader}
use Rattle.rv_text.proofs.Decoding.{has_each}
use Rattle.rv_text.proofs.decode.CallBody.has_members.Goals as goal

pub returns : goal.returns
returns c =
    let fields = c.args._fields.now in
    has_each _ calls call_reader (flat_members fields) c.args.self.now (flat_members_sorted fields) c.requires
