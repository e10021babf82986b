use Rattle.satip_tunnel.proofs.worker.serve_one.Goals as goal

pub returns-clause-serves : goal.returns-clause-serves
returns-clause-serves g c = λ key stream from are.
    let run = c.serve_kind-end.ensures.serves key stream from are in
    (run.0, run.1, record { later = g.D.Conn.Conn.line c.serve_kind-end.new.conn; serves = run.2; back = c.back.ensures.back })

pub returns-clause-pauses : goal.returns-clause-pauses
returns-clause-pauses g c = record {
  later = g.D.Conn.Conn.line c.serve_kind-end.new.conn;
  served = c.serve_kind-end.ensures.pauses;
  back = c.back.ensures.back;
}
