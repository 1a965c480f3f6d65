-- One number after another.
use Rattle.std.proofs.Common.{Bool, List, None, Option, ap, arith, false, get_or, length, sym, take}
use Rattle.std.proofs.Common.{true, ℕ}
use Rattle.std.proofs.Common.{◌+◌, ◌<◌, ◌≡◌, ◌≤◌, ◌∙◌}
use Rattle.std.proofs.lemmas.List.{take_all}
use Rattle.std.proofs.lemmas.List.Sums.{count_by_more_no, count_by_more_yes}
use Rattle.std.proofs.lemmas.Slice.Zip.{get_or-zip, length-zip}
use Rattle.std.specs.List.{count_by, zip}
use Rattle.rv_traffic.specs.links.Table.{link_at}
use Rattle.rv_traffic.specs.declared.links.link.Socket.{Socket}
use Rattle.rv_traffic.specs.Origins.{count_from, is_from}
use Rattle.rv_traffic.proofs.origins.Origins.count.Goals as goal
use Rattle.rv_traffic.proofs.origins.Origins.count.Goals.{else-is_from, then-is_from}

module _ {S : Type 0} (address : ℕ) (from : List (Option ℕ)) (table : List (Option (Socket S))) where
  abbrev is_one : Option ℕ × Option (Socket S) → Bool
  is_one pair = is_from address pair.0 pair.1

  here : (i : ℕ) → i < length from → i < length table
      → is_one (get_or (zip from table) i (None, None))
      ≡ is_from address (get_or from i None) (link_at table i)
  here i a b = ap is_one (get_or-zip from table i (None, None) a b)

  within : (i : ℕ) → i < length from → i < length table → i < length (zip from table)
  within i a b = omega (arith, length-zip from table)

  one_more : (i count next : ℕ) (told : Bool) → i < length from → i < length table
      → told ≡ is_from address (get_or from i None) (link_at table i) → told ≡ true → next ≡ count + 1
      → count ≡ count_by is_one (take i (zip from table))
      → next ≡ count_by is_one (take (i + 1) (zip from table))
  one_more i count next told a b is found next_is so =
      next_is ∙ ap (λ n. n + 1) so
      ∙ sym (count_by_more_yes is_one (zip from table) i (None, None) (within i a b)
      (here i a b ∙ sym is ∙ found))

  no_more : (i count next : ℕ) (told : Bool) → i < length from → i < length table
      → told ≡ is_from address (get_or from i None) (link_at table i) → told ≡ false → next ≡ count
      → count ≡ count_by is_one (take i (zip from table))
      → next ≡ count_by is_one (take (i + 1) (zip from table))
  no_more i count next told a b is missed next_is so =
      next_is ∙ so
      ∙ sym (count_by_more_no is_one (zip from table) i (None, None) (within i a b)
      (here i a b ∙ sym is ∙ missed))

  all : (n count : ℕ) → length (zip from table) ≤ n → count ≡ count_by is_one (take n (zip from table))
      → count ≡ count_from from table address
  all n count far so = so ∙ ap (count_by is_one) (take_all n (zip from table) far)

pub loop-number-preserved : goal.loop-number-preserved
loop-number-preserved g c =
    let in_from : c.loop-number.number < length c.args.self.now.from.items =
    omega (arith, c.loop-number-test.true, c.min-number-end.ensures, c.len.ensures, c.args.self.now.from.ok)
    in
    let in_table : c.loop-number.number < length c.args.links.now.table.items =
    omega (arith, c.loop-number-test.true, c.min-number-end.ensures, c.room.ensures) in
    elim c.if-is_from.branch [
      | then-is_from w ↦ one_more c.args.address c.args.self.now.from.items c.args.links.now.table.items
          c.loop-number.number c.loop-number.count c.if-is_from.count c.is_from.result in_from in_table
          c.is_from.ensures w.if-is_from.true w.count-is c.loop-number.invariant
      | else-is_from w ↦ no_more c.args.address c.args.self.now.from.items c.args.links.now.table.items
          c.loop-number.number c.loop-number.count c.if-is_from.count c.is_from.result in_from in_table
          c.is_from.ensures w.if-is_from.false w.count-is c.loop-number.invariant
    ]

pub returns : goal.returns
returns g c =
    all c.args.address c.args.self.now.from.items c.args.links.now.table.items c.loop-number.number
    c.loop-number.count
    (omega (
      arith,
      c.loop-number-test.false,
      c.min-number-end.ensures,
      c.len.ensures,
      c.room.ensures,
      c.args.self.now.from.ok,
      length-zip c.args.self.now.from.items c.args.links.now.table.items,
    ))
    c.loop-number.invariant
