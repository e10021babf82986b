use Rattle.satip_worker.proofs.ProgressLemmas.{made_event, unmade_event}
use Rattle.satip_worker.proofs.turns.call_and_post.Goals as goal

pub returns-in-Ok-clause-makes : goal.returns-in-Ok-clause-makes
returns-in-Ok-clause-makes g c =
    made_event _ _ _ _ _ _ _ _ _ _ (g.met.S.Service.same_want _ _ c.call.ensures.same) c.in-Ok.ensures.called c.post_all.ensures.delivers

pub returns-in-Err-clause-makes : goal.returns-in-Err-clause-makes
returns-in-Err-clause-makes g c =
    unmade_event _ _ _ _ _ _ _ (g.met.S.Service.same_want _ _ c.call.ensures.same) c.in-Err.ensures.called
