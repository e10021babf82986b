use Rattle.satip_recorder.specs.Courses.{reel}
use Rattle.satip_recorder.proofs.WoundLemmas.{caught-idle, caught-failed, caught-output}
use Rattle.satip_recorder.proofs.turns.take_in.Goals as goal

pub returns-in-Idle-clause-catches : goal.returns-in-Idle-clause-catches
returns-in-Idle-clause-catches g c = caught-idle _ _ _ _ _ _ c.in-Idle.ensures.gets

pub returns-in-Failed-clause-catches : goal.returns-in-Failed-clause-catches
returns-in-Failed-clause-catches g c = caught-failed _ _ _ _ _ _ c.requires.some c.in-Failed.ensures.gets

pub returns-in-Failed-wind-clause-catches : goal.returns-in-Failed-wind-clause-catches
returns-in-Failed-wind-clause-catches g c = caught-output _ _ _ _ _
    (reel c.args.catcher.now c.args.tape.now (g.O.Sink.drain c.args.output.now) (g.E.Sink.drain c.args.errors.now))
    (reel c.wind.new.catcher c.wind.new.tape (g.O.Sink.drain c.wind.new.output) (g.E.Sink.drain c.wind.new.errors))
    _ _ c.in-Got.ensures.gets c.in-Failed-wind.ensures.winds
