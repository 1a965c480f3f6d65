-- So far as many frames were answered as the next one's number says.
use Rattle.rv_server.specs.Progress.{Progress}
use Rattle.rv_server.specs.Works.{connection, listing_of}
use Rattle.rv_server.proofs.context.WorkerContext.serve_frames.Given as goal

abbrev pub invariant-loop-number : goal.invariant-loop-number
invariant-loop-number g l =
    Progress g.R.Read.remaining g.W.Write.contents (connection l.fn.source l.fn.sink l.fn.seat)
    (connection l.source l.sink l.seat)
    (listing_of g.D.Desk.stamped l.served) l.inlet l.number
