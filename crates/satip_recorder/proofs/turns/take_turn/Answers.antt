use Rattle.std.proofs.Common.{Err, ap, ◌∙◌}
use Rattle.std.proofs.lemmas.Result.{err_from_is_err_and}
use Rattle.satip_client.specs.Pulses.{talk}
use Rattle.satip_client.specs.declared.ending.RecordEnd.{RecordEnd}
use Rattle.satip_recorder.specs.Courses.{reel, station}
use Rattle.satip_recorder.specs.Outsides.{device_tells}
use Rattle.satip_recorder.proofs.CourseLemmas.{turn-failed, turn-taken}
use Rattle.satip_recorder.proofs.turns.take_turn.Goals as goal

pub returns-in_err-keep_alive-clause-turns : goal.returns-in_err-keep_alive-clause-turns
returns-in_err-keep_alive-clause-turns g c =
    let p = err_from_is_err_and c.from_residual.result c.from_residual.ensures.1 in
    turn-failed (device_tells g.W.Conn.tells g.I.Inlet.tells g.O.Sink.tells g.E.Sink.tells)
    (talk (g.W.Conn.line c.args.wire.now) (g.M.Clock.dial c.args.moment.now) c.args.recorder.now.pulse)
    (talk (g.W.Conn.line c.keep_alive.new.wire) (g.M.Clock.dial c.keep_alive.new.moment) c.keep_alive.new.pulse)
    (g.I.Inlet.inbox c.args.inlet.now)
    (reel c.args.recorder.now.catcher c.args.recorder.now.tape (g.O.Sink.drain c.args.output.now) (g.E.Sink.drain c.args.errors.now))
    c.args.recorder.now.page.address c.args.lease.now _ c.in_err-keep_alive.field-0.0 c.from_residual.result c.requires.some
    (p.1 ∙ ap (λ (x : RecordEnd). Err x) p.2) c.in_err-keep_alive.ensures.beats

pub returns-clause-turns : goal.returns-clause-turns
returns-clause-turns g c =
    turn-taken (device_tells g.W.Conn.tells g.I.Inlet.tells g.O.Sink.tells g.E.Sink.tells)
    (station (talk (g.W.Conn.line c.args.wire.now) (g.M.Clock.dial c.args.moment.now) c.args.recorder.now.pulse) (g.I.Inlet.inbox c.args.inlet.now)
    (reel c.args.recorder.now.catcher c.args.recorder.now.tape (g.O.Sink.drain c.args.output.now) (g.E.Sink.drain c.args.errors.now)))
    (station (talk (g.W.Conn.line c.keep_alive.new.wire) (g.M.Clock.dial c.keep_alive.new.moment) c.keep_alive.new.pulse)
    (g.I.Inlet.inbox c.take_in.new.inlet)
    (reel c.take_in.new.catcher c.take_in.new.tape (g.O.Sink.drain c.take_in.new.output) (g.E.Sink.drain c.take_in.new.errors)))
    c.args.recorder.now.page.address c.args.lease.now _ c.take_in.result c.in_ok-keep_alive.ensures.beats c.take_in.ensures.catches
