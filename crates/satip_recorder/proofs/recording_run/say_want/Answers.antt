use Rattle.satip_recorder.proofs.RecordLemmas.{said-of}
use Rattle.satip_recorder.proofs.recording_run.say_want.Goals as goal

pub returns-clause-said : goal.returns-clause-said
returns-clause-said g c = said-of _ _ _ _ c.say.new.tape.muted c.say.ensures.tells
