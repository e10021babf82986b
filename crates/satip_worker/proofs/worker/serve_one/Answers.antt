use Rattle.satip_worker.proofs.DoorLemmas.{served_exactly}
use Rattle.satip_worker.proofs.worker.serve_one.Goals as goal

pub returns-clause-serves : goal.returns-clause-serves
returns-clause-serves g c = λ key stream from are.
    let run = c.serve_connection-end.ensures.serves key stream from are in
    (run.0, run.1, record { later = g.D.Conn.Conn.line c.serve_connection-end.new.conn; serves = run.2; back = c.back.ensures.back })

pub returns-clause-pauses : goal.returns-clause-pauses
returns-clause-pauses g c = record {
  later = g.D.Conn.Conn.line c.serve_connection-end.new.conn;
  served = served_exactly 0 _ _ _ _ c.serve_connection-end.ensures.pauses;
  back = c.back.ensures.back;
}
