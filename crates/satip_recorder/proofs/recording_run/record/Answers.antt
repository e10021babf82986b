use Rattle.satip_recorder.specs.Outsides.{device_tells, outside, task}
use Rattle.satip_recorder.proofs.RecordLemmas.{ends, ends_unbegun, runs_at}
use Rattle.satip_recorder.proofs.recording_run.record.Goals as goal

pub returns-in_default : goal.returns-in_default
returns-in_default g c = record {
  ends = ends_unbegun (device_tells g.W.Conn.tells g.I.Inlet.tells g.O.Sink.tells g.E.Sink.tells)
      (outside (g.W.Conn.line c.args.wire.now) (g.M.Clock.dial c.args.moment.now) (g.I.Inlet.inbox c.args.inlet.now) (g.O.Sink.drain c.args.output.now))
      _ _ (task c.args.wish.now.address.now c.args.wish.now.query.now c.args.wish.now.count) c.say_want.result c.say_want.ensures.end
      c.say_want.ensures.said;
}

pub returns : goal.returns
returns g c = record {
  ends = ends (device_tells g.W.Conn.tells g.I.Inlet.tells g.O.Sink.tells g.E.Sink.tells)
      (outside (g.W.Conn.line c.args.wire.now) (g.M.Clock.dial c.args.moment.now) (g.I.Inlet.inbox c.args.inlet.now) (g.O.Sink.drain c.args.output.now))
      (outside (g.W.Conn.line c.run.new.wire) (g.M.Clock.dial c.run.new.moment) (g.I.Inlet.inbox c.run.new.inlet) (g.O.Sink.drain c.run.new.output))
      _ _ _ (task c.args.wish.now.address.now c.args.wish.now.query.now c.args.wish.now.count) c.run.new.recorder.tape.muted c.say.new.tape.muted
      c.run.result c.end_of-end.result c.end_of-end.ensures.end
      (runs_at (device_tells g.W.Conn.tells g.I.Inlet.tells g.O.Sink.tells g.E.Sink.tells) _ _ _ _ c.args.wish.now.address.now _
      c.args.wish.now.query.now _ c.args.wish.now.count c.run.new.recorder.tape.muted c.run.result
      c.in-Ok.ensures.address c.in-Ok.ensures.query (c.run.ensures.runs c.args.wish.now.count c.in-Ok.ensures.fresh))
      c.say.ensures.tells;
}
