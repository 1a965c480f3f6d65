-- What is freed later goes after what was freed before.
use Rattle.rv_server_connections.proofs.OfConnection.Kept as kept
use Rattle.rv_server_connections.proofs.connection.laws.history_is_kept.Goals as goal

pub returns : goal.returns
returns c = record {
  opens = kept.opens;
  piece = kept.keeps_piece;
  frame = kept.keeps_frame;
  answer = kept.keeps_answer;
  release = kept.keeps_release;
  leaving = kept.keeps_leaving;
  end = kept.keeps_end;
}
