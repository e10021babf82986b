use Rattle.std.proofs.Common.{◌∙◌, sym}
use Rattle.satip_tunnel.proofs.CauseLemmas.{spent_filled}
use Rattle.satip_tunnel.proofs.ConnLemmas.{rtsp_served, only_spent, never_wants}
use Rattle.satip_tunnel.proofs.PauseLemmas.{served_tunnel}
use Rattle.satip_tunnel.proofs.worker_connection.serve_rtsp.Goals as goal

pub returns-clause-serves : goal.returns-clause-serves
returns-clause-serves g c = λ peer key stream from are.
    rtsp_served _ _ _ _ _ _ _ _ _ peer key stream from c.conn_end.ensures.end are c.serve_tunnel.ensures.serves

pub returns-clause-spent : goal.returns-clause-spent
returns-clause-spent g c = λ is.
    spent_filled _ _ _ _ _ (only_spent _ (sym c.conn_end.ensures.end ∙ is)) c.serve_tunnel.ensures.cause

pub returns-clause-no_want : goal.returns-clause-no_want
returns-clause-no_want g c = λ is. never_wants _ (sym c.conn_end.ensures.end ∙ is)

pub returns-clause-pauses : goal.returns-clause-pauses
returns-clause-pauses g c = served_tunnel _ _ _ _ _ _ _ _ c.serve_tunnel.ensures.pauses
