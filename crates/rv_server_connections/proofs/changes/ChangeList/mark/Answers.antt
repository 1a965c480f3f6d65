-- A number is listed that wasn't.
use Rattle.std.proofs.Common.{◌≡◌, ◌∙◌, ap, arith, false, true, get_or, refl, sym}
use Rattle.rv_server_connections.proofs.Listing.{fewer, get_or_set, lists_again, lists_one, marked}
use Rattle.rv_server_connections.proofs.changes.ChangeList.mark.Goals as goal

pub push_reserved-requires : goal.push_reserved-requires
push_reserved-requires c =
    let out : get_or c.args.self.now.flags.items c.args.number false ≡ false =
    ap (get_or c.args.self.now.flags.items c.args.number) (sym c.if-index.false) ∙ sym c.index.ensures
    ∙ c.if-index.false in
    omega (
      arith,
      fewer c.args.self.now.flags.items c.args.number c.requires.room out,
      c.requires.sound.count,
      c.requires.sound.fits,
      c.args.self.now.numbers.ok,
    )

pub returns-clause-sound : goal.returns-clause-sound
returns-clause-sound c =
    let out : get_or c.args.self.now.flags.items c.args.number false ≡ false =
    ap (get_or c.args.self.now.flags.items c.args.number) (sym c.if-index.false) ∙ sym c.index.ensures
    ∙ c.if-index.false in
    marked c.args.self.now.flags.items _ c.args.self.now.numbers.items c.push_reserved.new.self.items _ _
    c.args.number c.requires.sound c.requires.room out refl c.push_reserved.ensures.items
    c.push_reserved.ensures.capacity

pub returns-clause-listed : goal.returns-clause-listed
returns-clause-listed c =
    lists_one c.args.self.now.numbers.items c.push_reserved.new.self.items c.args.number
    c.push_reserved.ensures.items

pub returns-then-index-clause-listed : goal.returns-then-index-clause-listed
returns-then-index-clause-listed c =
    let set : get_or c.args.self.now.flags.items c.args.number false ≡ true =
    get_or_set c.args.self.now.flags.items c.args.number c.index.result.now (sym c.index.ensures)
    c.if-index.true
    c.requires.room in
    lists_again c.args.self.now.flags.items c.args.self.now.numbers.items _ c.args.number c.requires.sound set
