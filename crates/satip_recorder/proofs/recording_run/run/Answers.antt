use Rattle.std.proofs.Common.{Err, ap, ◌∙◌}
use Rattle.std.proofs.lemmas.Result.{err_from_is_err_and}
use Rattle.satip_client.specs.Pulses.{talk}
use Rattle.satip_client.specs.declared.ending.RecordEnd.{RecordEnd}
use Rattle.satip_recorder.specs.Courses.{reel, station}
use Rattle.satip_recorder.specs.Outsides.{device_tells, link, outside, task}
use Rattle.satip_recorder.proofs.RecordLemmas.{run_leaving, run_opening, run_receiving}
use Rattle.satip_recorder.proofs.recording_run.run.Goals as goal

pub returns-in_err-lease : goal.returns-in_err-lease
returns-in_err-lease g c =
    let p = err_from_is_err_and c.from_residual.result c.from_residual.ensures.1 in
    record {
      runs = λ count fresh.
          run_opening (device_tells g.W.Conn.tells g.I.Inlet.tells g.O.Sink.tells g.E.Sink.tells)
          (outside (g.W.Conn.line c.args.wire.now) (g.M.Clock.dial c.args.moment.now) (g.I.Inlet.inbox c.args.inlet.now) (g.O.Sink.drain c.args.output.now))
          (link (g.W.Conn.line c.open.new.wire) (g.M.Clock.dial c.open.new.moment)) (g.E.Sink.drain c.args.errors.now)
          (task c.args.recorder.now.page.address c.args.recorder.now.page.query count) c.port.result _ c.in_err-lease.field-0.0
          c.from_residual.result (p.1 ∙ ap (λ (x : RecordEnd). Err x) p.2) c.port.ensures.port fresh.muted c.in_err-lease.ensures.opens;
    }

pub returns-in_err-receive : goal.returns-in_err-receive
returns-in_err-receive g c =
    let p = err_from_is_err_and c.from_residual-in_err-receive.result c.from_residual-in_err-receive.ensures.1 in
    record {
      runs = λ count f.
          run_receiving (device_tells g.W.Conn.tells g.I.Inlet.tells g.O.Sink.tells g.E.Sink.tells)
          (outside (g.W.Conn.line c.args.wire.now) (g.M.Clock.dial c.args.moment.now) (g.I.Inlet.inbox c.args.inlet.now) (g.O.Sink.drain c.args.output.now))
          (link (g.W.Conn.line c.open.new.wire) (g.M.Clock.dial c.open.new.moment)) c.open.new.mark c.args.recorder.now.pulse.cseq
          c.args.recorder.now.catcher c.args.recorder.now.tape (g.E.Sink.drain c.args.errors.now)
          (station (talk (g.W.Conn.line c.receive.new.wire) (g.M.Clock.dial c.receive.new.moment) c.receive.new.recorder.pulse)
          (g.I.Inlet.inbox c.receive.new.inlet)
          (reel c.receive.new.recorder.catcher c.receive.new.recorder.tape (g.O.Sink.drain c.receive.new.output) (g.E.Sink.drain c.receive.new.errors)))
          (task c.args.recorder.now.page.address c.args.recorder.now.page.query count) _ c.port.result c.args.recorder.now.turns
          c.in_ok-lease.lease c.in_err-receive.field-0.0 c.from_residual-in_err-receive.result (p.1 ∙ ap (λ (x : RecordEnd). Err x) p.2)
          c.port.ensures.port f.cseq f.catcher f.left f.muted f.turns c.in_ok-lease.ensures.address c.in_ok-lease.ensures.opens
          c.in_err-receive.ensures.turns;
    }

pub returns : goal.returns
returns g c = record {
  runs = λ count f.
      run_leaving (device_tells g.W.Conn.tells g.I.Inlet.tells g.O.Sink.tells g.E.Sink.tells)
      (outside (g.W.Conn.line c.args.wire.now) (g.M.Clock.dial c.args.moment.now) (g.I.Inlet.inbox c.args.inlet.now) (g.O.Sink.drain c.args.output.now))
      (link (g.W.Conn.line c.open.new.wire) (g.M.Clock.dial c.open.new.moment)) (g.W.Conn.line c.leave.new.wire) c.open.new.mark
      c.args.recorder.now.pulse.cseq c.args.recorder.now.catcher c.args.recorder.now.tape (g.E.Sink.drain c.args.errors.now)
      (station (talk (g.W.Conn.line c.receive.new.wire) (g.M.Clock.dial c.receive.new.moment) c.receive.new.recorder.pulse)
      (g.I.Inlet.inbox c.receive.new.inlet)
      (reel c.receive.new.recorder.catcher c.receive.new.recorder.tape (g.O.Sink.drain c.receive.new.output) (g.E.Sink.drain c.receive.new.errors)))
      (task c.args.recorder.now.page.address c.args.recorder.now.page.query count) _ _ c.port.result c.in_ok-lease.lease c.leave.result
      c.port.ensures.port f.cseq f.catcher f.left f.muted c.in_ok-lease.ensures.address
      (c.in_ok-receive.ensures.address ∙ c.in_ok-lease.ensures.address) c.in_ok-lease.ensures.opens c.in_ok-receive.ensures.turns
      c.in_ok-receive.ensures.whole c.leave.ensures.leaves;
}
