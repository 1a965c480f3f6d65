-- What follows the whole frames stays bytes, and is short.
use Rattle.std.proofs.Common.{List, ℕ, refl, rules, take}
use Rattle.rv_frame.specs.Stream.{Feeds}
use Rattle.rv_server.specs.Reading.{FollowBytes, IsBadOf}
use Rattle.rv_server.proofs.Rests.{bytes_at, bytes_taken, short_at}
use Rattle.rv_server.proofs.inlet.Inlet.feed.Goals as goal

pub invariant_of-self : goal.invariant_of-self
invariant_of-self c =
    let piece : List ℕ = take c.args.count c.args.buffer.now in
    let bad : IsBadOf c.self.inside.bad c.feed.new.self.end = search rules in
    let feeds : Feeds c.self.inside.frames (take c.args.count c.args.buffer.now) c.feed.new.self =
    search rules in (
      bad,
      bytes_at c.self.inside.frames.end c.self.inside.frames c.feed.new.self piece refl feeds
          c.self.invariant.1 (bytes_taken c.args.count c.args.buffer.now c.fits-buffer),
    )

pub returns-in-Ok-clause-short : goal.returns-in-Ok-clause-short
returns-in-Ok-clause-short c =
    let piece : List ℕ = take c.args.count c.args.buffer.now in
    let feeds : Feeds c.self.inside.frames (take c.args.count c.args.buffer.now) c.feed.new.self =
    search rules in
    let are : FollowBytes c.feed.new.self.end = bytes_at c.self.inside.frames.end c.self.inside.frames
    c.feed.new.self piece refl feeds c.self.invariant.1 (bytes_taken c.args.count c.args.buffer.now
    c.fits-buffer) in
    short_at c.self.inside.frames.end c.self.inside.frames c.feed.new.self piece refl feeds are
