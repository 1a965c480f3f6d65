-- Frames in a row, and after them bytes that end no frame.
use Rattle.rv_server_connections.proofs.OfConnection.Kept as kept
use Rattle.rv_server_connections.proofs.connection.laws.history_is_cut.Goals as goal

pub returns : goal.returns
returns c = record { unfinished = kept.cuts_open; whole = kept.cuts_whole; bad = kept.cuts_bad }
