-- What a read through the next LF gave is what is next, and the rest is left.
use Rattle.std.proofs.Common.{◌≡◌, ◌++◌, List, ℕ, Some}
use Rattle.std.specs.Io.BufRead.{drop_through, take_through}
use Rattle.rv_verify.proofs.Through.{known}
use Rattle.rv_verify.proofs.parts.more_of_line.Goals as goal

pub returns : goal.returns
returns g c = record {
  next = λ bytes is begun.
      let left = g.B.Read.remaining c.args.reader.now in
      let old = c.args.line.now.items in
      let read = c.read_until.new.buf.items in
      let taken = known left (λ (xs : List ℕ). read ≡ old ++ take_through 10 xs) bytes is
      c.in_ok-read_until.ensures.bytes in
      record {
        rest = drop_through 10 bytes;
        is_left = known left
            (λ (xs : List ℕ). g.B.Read.remaining c.read_until.new.self ≡ Some (drop_through 10 xs)) bytes is
            c.in_ok-read_until.ensures.rest;
        is_next = c.part_taken.ensures old bytes begun taken;
      };
}
