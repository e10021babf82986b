use Rattle.std.proofs.Common.{Err, Ok, refl, ap, ◌∙◌, arith}
use Rattle.std.proofs.lemmas.Result.{err_from_is_err_and}
use Rattle.satip_client.specs.Pulses.{talk}
use Rattle.satip_client.specs.declared.ending.RecordEnd.{RecordEnd}
use Rattle.satip_recorder.specs.Courses.{reel, station}
use Rattle.satip_recorder.specs.Outsides.{device_tells}
use Rattle.satip_recorder.proofs.CourseLemmas.{course-begun, course-next, course-then, stopped-after, stopped-silent, ready-new, turn_at}
use Rattle.satip_recorder.proofs.turns.receive.Goals as goal

pub turns-init : goal.turns-init
turns-init g c =
    let b = course-begun (device_tells g.W.Conn.tells g.I.Inlet.tells g.O.Sink.tells g.E.Sink.tells)
    (station (talk (g.W.Conn.line c.args.wire.now) (g.M.Clock.dial c.args.moment.now) c.args.recorder.now.pulse) (g.I.Inlet.inbox c.args.inlet.now)
    (reel c.args.recorder.now.catcher c.args.recorder.now.tape (g.O.Sink.drain c.args.output.now) (g.E.Sink.drain c.args.errors.now)))
    c.args.recorder.now.page.address c.args.lease.now in
    (b.0, omega (arith, b.1), c.requires.few, c.requires.some, ready-new c.args.recorder.now.catcher c.requires.fresh, refl)

pub returns-in_err-take_turn-clause-turns : goal.returns-in_err-take_turn-clause-turns
returns-in_err-take_turn-clause-turns g c =
    let i = c.turns.invariant in
    let p = err_from_is_err_and c.from_residual.result c.from_residual.ensures.1 in
    stopped-after (device_tells g.W.Conn.tells g.I.Inlet.tells g.O.Sink.tells g.E.Sink.tells)
    (station (talk (g.W.Conn.line c.args.wire.now) (g.M.Clock.dial c.args.moment.now) c.args.recorder.now.pulse) (g.I.Inlet.inbox c.args.inlet.now)
    (reel c.args.recorder.now.catcher c.args.recorder.now.tape (g.O.Sink.drain c.args.output.now) (g.E.Sink.drain c.args.errors.now)))
    (station (talk (g.W.Conn.line c.turns.wire) (g.M.Clock.dial c.turns.moment) c.turns.recorder.pulse) (g.I.Inlet.inbox c.turns.inlet)
    (reel c.turns.recorder.catcher c.turns.recorder.tape (g.O.Sink.drain c.turns.output) (g.E.Sink.drain c.turns.errors)))
    (station (talk (g.W.Conn.line c.take_turn.new.wire) (g.M.Clock.dial c.take_turn.new.moment) c.take_turn.new.recorder.pulse)
    (g.I.Inlet.inbox c.take_turn.new.inlet)
    (reel c.take_turn.new.recorder.catcher c.take_turn.new.recorder.tape (g.O.Sink.drain c.take_turn.new.output) (g.E.Sink.drain c.take_turn.new.errors)))
    c.args.recorder.now.page.address c.args.lease.now _ _ c.in_err-take_turn.field-0.0 c.from_residual.result i.0 i.3 (omega (arith, i.1))
    (p.1 ∙ ap (λ (x : RecordEnd). Err x) p.2)
    (turn_at (device_tells g.W.Conn.tells g.I.Inlet.tells g.O.Sink.tells g.E.Sink.tells)
    (station (talk (g.W.Conn.line c.turns.wire) (g.M.Clock.dial c.turns.moment) c.turns.recorder.pulse) (g.I.Inlet.inbox c.turns.inlet)
    (reel c.turns.recorder.catcher c.turns.recorder.tape (g.O.Sink.drain c.turns.output) (g.E.Sink.drain c.turns.errors)))
    (station (talk (g.W.Conn.line c.take_turn.new.wire) (g.M.Clock.dial c.take_turn.new.moment) c.take_turn.new.recorder.pulse)
    (g.I.Inlet.inbox c.take_turn.new.inlet)
    (reel c.take_turn.new.recorder.catcher c.take_turn.new.recorder.tape (g.O.Sink.drain c.take_turn.new.output) (g.E.Sink.drain c.take_turn.new.errors)))
    c.args.recorder.now.page.address _ c.args.lease.now _ (Err c.in_err-take_turn.field-0.0) i.5 c.in_err-take_turn.ensures.turns)

pub returns-then-recorder-eq0-clause-turns : goal.returns-then-recorder-eq0-clause-turns
returns-then-recorder-eq0-clause-turns g c =
    let i = c.turns.invariant in
    let turn = turn_at (device_tells g.W.Conn.tells g.I.Inlet.tells g.O.Sink.tells g.E.Sink.tells)
    (station (talk (g.W.Conn.line c.turns.wire) (g.M.Clock.dial c.turns.moment) c.turns.recorder.pulse) (g.I.Inlet.inbox c.turns.inlet)
    (reel c.turns.recorder.catcher c.turns.recorder.tape (g.O.Sink.drain c.turns.output) (g.E.Sink.drain c.turns.errors)))
    (station (talk (g.W.Conn.line c.take_turn.new.wire) (g.M.Clock.dial c.take_turn.new.moment) c.take_turn.new.recorder.pulse)
    (g.I.Inlet.inbox c.take_turn.new.inlet)
    (reel c.take_turn.new.recorder.catcher c.take_turn.new.recorder.tape (g.O.Sink.drain c.take_turn.new.output) (g.E.Sink.drain c.take_turn.new.errors)))
    c.args.recorder.now.page.address _ c.args.lease.now 0 (Ok tt) i.5 c.in_ok-take_turn.ensures.turns in
    course-then (device_tells g.W.Conn.tells g.I.Inlet.tells g.O.Sink.tells g.E.Sink.tells)
    (station (talk (g.W.Conn.line c.args.wire.now) (g.M.Clock.dial c.args.moment.now) c.args.recorder.now.pulse) (g.I.Inlet.inbox c.args.inlet.now)
    (reel c.args.recorder.now.catcher c.args.recorder.now.tape (g.O.Sink.drain c.args.output.now) (g.E.Sink.drain c.args.errors.now)))
    (station (talk (g.W.Conn.line c.turns.wire) (g.M.Clock.dial c.turns.moment) c.turns.recorder.pulse) (g.I.Inlet.inbox c.turns.inlet)
    (reel c.turns.recorder.catcher c.turns.recorder.tape (g.O.Sink.drain c.turns.output) (g.E.Sink.drain c.turns.errors)))
    (station (talk (g.W.Conn.line c.take_turn.new.wire) (g.M.Clock.dial c.take_turn.new.moment) c.take_turn.new.recorder.pulse)
    (g.I.Inlet.inbox c.take_turn.new.inlet)
    (reel c.take_turn.new.recorder.catcher c.take_turn.new.recorder.tape (g.O.Sink.drain c.take_turn.new.output) (g.E.Sink.drain c.take_turn.new.errors)))
    c.args.recorder.now.page.address c.args.lease.now i.0 i.3 turn.0

pub turns-preserved : goal.turns-preserved
turns-preserved g c =
    let i = c.turns.invariant in
    let turn = turn_at (device_tells g.W.Conn.tells g.I.Inlet.tells g.O.Sink.tells g.E.Sink.tells)
    (station (talk (g.W.Conn.line c.turns.wire) (g.M.Clock.dial c.turns.moment) c.turns.recorder.pulse) (g.I.Inlet.inbox c.turns.inlet)
    (reel c.turns.recorder.catcher c.turns.recorder.tape (g.O.Sink.drain c.turns.output) (g.E.Sink.drain c.turns.errors)))
    (station (talk (g.W.Conn.line c.take_turn.new.wire) (g.M.Clock.dial c.take_turn.new.moment) c.take_turn.new.recorder.pulse)
    (g.I.Inlet.inbox c.take_turn.new.inlet)
    (reel c.take_turn.new.recorder.catcher c.take_turn.new.recorder.tape (g.O.Sink.drain c.take_turn.new.output) (g.E.Sink.drain c.take_turn.new.errors)))
    c.args.recorder.now.page.address _ c.args.lease.now 0 (Ok tt) i.5 c.in_ok-take_turn.ensures.turns in
    let n = course-next (device_tells g.W.Conn.tells g.I.Inlet.tells g.O.Sink.tells g.E.Sink.tells)
    (station (talk (g.W.Conn.line c.args.wire.now) (g.M.Clock.dial c.args.moment.now) c.args.recorder.now.pulse) (g.I.Inlet.inbox c.args.inlet.now)
    (reel c.args.recorder.now.catcher c.args.recorder.now.tape (g.O.Sink.drain c.args.output.now) (g.E.Sink.drain c.args.errors.now)))
    (station (talk (g.W.Conn.line c.turns.wire) (g.M.Clock.dial c.turns.moment) c.turns.recorder.pulse) (g.I.Inlet.inbox c.turns.inlet)
    (reel c.turns.recorder.catcher c.turns.recorder.tape (g.O.Sink.drain c.turns.output) (g.E.Sink.drain c.turns.errors)))
    (station (talk (g.W.Conn.line c.take_turn.new.wire) (g.M.Clock.dial c.take_turn.new.moment) c.take_turn.new.recorder.pulse)
    (g.I.Inlet.inbox c.take_turn.new.inlet)
    (reel c.take_turn.new.recorder.catcher c.take_turn.new.recorder.tape (g.O.Sink.drain c.take_turn.new.output) (g.E.Sink.drain c.take_turn.new.errors)))
    c.args.recorder.now.page.address c.args.lease.now i.0 i.3 turn in (
      n.0,
      omega (arith, n.1, i.1),
      omega (arith, i.2),
      omega arith,
      c.in_ok-take_turn.ensures.ready (omega arith),
      c.in_ok-take_turn.ensures.address ∙ i.5,
    )

pub returns-clause-turns : goal.returns-clause-turns
returns-clause-turns g c =
    let i = c.turns.invariant in
    stopped-silent (device_tells g.W.Conn.tells g.I.Inlet.tells g.O.Sink.tells g.E.Sink.tells)
    (station (talk (g.W.Conn.line c.args.wire.now) (g.M.Clock.dial c.args.moment.now) c.args.recorder.now.pulse) (g.I.Inlet.inbox c.args.inlet.now)
    (reel c.args.recorder.now.catcher c.args.recorder.now.tape (g.O.Sink.drain c.args.output.now) (g.E.Sink.drain c.args.errors.now)))
    (station (talk (g.W.Conn.line c.turns.wire) (g.M.Clock.dial c.turns.moment) c.turns.recorder.pulse) (g.I.Inlet.inbox c.turns.inlet)
    (reel c.turns.recorder.catcher c.turns.recorder.tape (g.O.Sink.drain c.turns.output) (g.E.Sink.drain c.turns.errors)))
    c.args.recorder.now.page.address c.args.lease.now _ i.0 (omega (arith, i.1, c.turns-test.false)) i.3
