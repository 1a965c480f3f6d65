-- The frame comes after all, or all may leave, and it too.
use Rattle.std.proofs.Common.{◌+◌, ◌∙◌, ◌++◌, ◌∷◌, [], ap, length, rules}
use Rattle.rv_frame.specs.Cut.{frame_bytes}
use Rattle.rv_server_connections.specs.declared.connection.answers.Mark.{Mark}
use Rattle.rv_server_connections.proofs.OfConnection.Marks.{pushed_behind, pushed_ready, pushed_sound}
use Rattle.rv_server_connections.proofs.connection.answers.Outgoing.push.Goals as goal

pub returns-then-waits-clause-sound : goal.returns-then-waits-clause-sound
returns-then-waits-clause-sound c =
    let m : Mark = record { entries = c.args.entries; bytes = length c.args.body.now + 2 } in
    pushed_sound c.args.self.now
    (record {
      bytes = c.write.new.self.bytes;
      ready = c.write.new.self.ready;
      marks = c.push_back_reserved.new.self;
    })
    c.args.entries c.args.body.now c.requires.sound c.requires.room c.requires.fits
    (c.write.ensures.bytes ∙ ap (λ l. l ++ frame_bytes c.args.body.now) c.in_ok-make_room.ensures.same.bytes)
    (c.write.ensures.ready ∙ c.in_ok-make_room.ensures.same.ready)
    (c.push_back_reserved.ensures.items ∙ ap (λ l. l.items ++ m ∷ []) c.write.ensures.marks
    ∙ ap (λ l. l ++ m ∷ []) c.in_ok-make_room.ensures.same.marks)

pub returns-then-waits-clause-pushes : goal.returns-then-waits-clause-pushes
returns-then-waits-clause-pushes c =
    let m : Mark = record { entries = c.args.entries; bytes = length c.args.body.now + 2 } in
    pushed_behind c.args.self.now
    (record {
      bytes = c.write.new.self.bytes;
      ready = c.write.new.self.ready;
      marks = c.push_back_reserved.new.self;
    })
    c.args.written c.args.entries c.args.body.now c.requires.sound c.requires.held_back (search rules)
    (c.write.ensures.bytes ∙ ap (λ l. l ++ frame_bytes c.args.body.now) c.in_ok-make_room.ensures.same.bytes)
    (c.write.ensures.ready ∙ c.in_ok-make_room.ensures.same.ready)
    (c.push_back_reserved.ensures.items ∙ ap (λ l. l.items ++ m ∷ []) c.write.ensures.marks
    ∙ ap (λ l. l ++ m ∷ []) c.in_ok-make_room.ensures.same.marks)

pub returns-clause-pushes : goal.returns-clause-pushes
returns-clause-pushes c =
    pushed_ready c.args.self.now
    (record {
      bytes = c.write.new.self.bytes;
      ready = c.write.new.self.ready + (length c.args.body.now + 2);
      marks = c.write.new.self.marks;
    })
    c.args.written c.args.entries c.args.body.now c.requires.sound (search rules) (search rules)
    (c.write.ensures.bytes ∙ ap (λ l. l ++ frame_bytes c.args.body.now) c.in_ok-make_room.ensures.same.bytes)
    (ap (λ n. n + (length c.args.body.now + 2)) (c.write.ensures.ready
    ∙ c.in_ok-make_room.ensures.same.ready))
    (ap (λ l. l.items) c.write.ensures.marks ∙ c.in_ok-make_room.ensures.same.marks)
