use Rattle.satip_replay.proofs.EndLemmas.{run_ends, script_ends, unread_ends}
use Rattle.satip_replay.proofs.replaying.replay.Goals as goal

pub returns-in-Err-clause-ends : goal.returns-in-Err-clause-ends
returns-in-Err-clause-ends g c = unread_ends _ _ _ _ _ _ _ _ _ c.from.ensures c.in-Err.ensures.fault

pub returns-in-Ok-read_script-clause-ends : goal.returns-in-Ok-read_script-clause-ends
returns-in-Ok-read_script-clause-ends g c =
    run_ends _ _ _ _ _ _ _ _ _ _ _ c.deref.result.now c.in-Ok.ensures.ok c.in-Ok-read_script.ensures.ok c.deref.ensures.value _ c.run_script.ensures.ends

pub returns-in-Err-read_script-clause-ends : goal.returns-in-Err-read_script-clause-ends
returns-in-Err-read_script-clause-ends g c = script_ends _ _ _ _ _ _ _ _ _ _ c.in-Ok.ensures.ok c.in-Err-read_script.ensures.fault
