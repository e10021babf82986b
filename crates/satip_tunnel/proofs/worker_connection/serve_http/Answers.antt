use Rattle.satip_worker.proofs.DoorLemmas.{served_exactly}
use Rattle.satip_tunnel.proofs.ConnLemmas.{http_served}
use Rattle.satip_tunnel.proofs.worker_connection.serve_http.Goals as goal

pub returns-clause-serves : goal.returns-clause-serves
returns-clause-serves g c = λ key stream from are.
    let run = c.serve_connection.ensures.serves key stream from are in
    (run.0, run.1, http_served _ _ _ _ _ _ _ _ _ _ _ _ _ from run.0 c.serve_connection.ensures.same run.2)

pub returns-clause-pauses : goal.returns-clause-pauses
returns-clause-pauses g c = served_exactly 1 _ _ _ _ c.serve_connection.ensures.pauses
