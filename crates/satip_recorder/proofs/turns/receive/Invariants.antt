use Rattle.std.proofs.Common.{◌≡◌, ◌+◌, ◌<◌, length}
use Rattle.satip_client.specs.Pulses.{talk}
use Rattle.satip_recorder.specs.Courses.{Course, IsReady, reel, station}
use Rattle.satip_recorder.specs.Outsides.{device_tells}
use Rattle.satip_recorder.proofs.turns.receive.Given as goal

-- turns were taken, and the others are left
abbrev pub invariant-turns : goal.invariant-turns
invariant-turns g l =
    (course : Course (device_tells g.W.Conn.tells g.I.Inlet.tells g.O.Sink.tells g.E.Sink.tells)
    (station (talk (g.W.Conn.line l.initial.wire) (g.M.Clock.dial l.initial.moment) l.initial.recorder.pulse) (g.I.Inlet.inbox l.initial.inlet)
    (reel l.initial.recorder.catcher l.initial.recorder.tape (g.O.Sink.drain l.initial.output) (g.E.Sink.drain l.initial.errors)))
    (station (talk (g.W.Conn.line l.wire) (g.M.Clock.dial l.moment) l.recorder.pulse) (g.I.Inlet.inbox l.inlet)
    (reel l.recorder.catcher l.recorder.tape (g.O.Sink.drain l.output) (g.E.Sink.drain l.errors)))
    l.initial.recorder.page.address l.fn.lease)
    × (length course.moments + l.recorder.turns ≡ l.initial.recorder.turns)
    × (l.recorder.pulse.cseq + l.recorder.turns < 4294967295)
    × (0 < l.recorder.tape.left)
    × IsReady l.recorder.catcher
    × (l.recorder.page.address ≡ l.initial.recorder.page.address)

abbrev pub decreases-turns : goal.decreases-turns
decreases-turns g l = l.recorder.turns
