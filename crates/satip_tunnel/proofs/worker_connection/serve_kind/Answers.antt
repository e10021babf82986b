use Rattle.satip_tunnel.proofs.worker_connection.serve_kind.Goals as goal

pub returns-in-Rtsp-clause-serves : goal.returns-in-Rtsp-clause-serves
returns-in-Rtsp-clause-serves g c = λ key stream from are. rw c.in-Rtsp.is (c.serve_rtsp.ensures.serves c.args.peer key stream from are)

pub returns-in-Http-clause-serves : goal.returns-in-Http-clause-serves
returns-in-Http-clause-serves g c = λ key stream from are. rw c.in-Http.is (c.serve_http.ensures.serves key stream from are)
