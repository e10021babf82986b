use Rattle.satip_pump.proofs.PauseLemmas.{ticks_pause, ticks_paced_more, ticks_paced_none}
use Rattle.satip_pump.proofs.TickLemmas.{ticks_none, ticks_more, ends_run}
use Rattle.satip_pump.proofs.ticker.submit_ticks.Goals as goal

pub loop-init : goal.loop-init
loop-init g c = (tt, tt, g.met.S.Service.same_self _, ticks_none _ _ _ _, ticks_paced_none _ _, c.requires.free)

pub returns-in-Some-tick-clause-run : goal.returns-in-Some-tick-clause-run
returns-in-Some-tick-clause-run g c =
    ends_run _ _ _ _ _ _ _ _ _ _ _ _ _ c.loop.invariant.3 c.now-now.ensures.reads c.in-Some-tick.ensures.ticked

pub returns-in-Some-tick-clause-pauses : goal.returns-in-Some-tick-clause-pauses
returns-in-Some-tick-clause-pauses g c =
    ticks_pause _ _ _ _ _ _ _ _ _ _ _ _ c.loop.invariant.4 c.pause.ensures.pauses c.pause.ensures.once c.in-Some-tick.ensures.ticked

pub loop-preserved : goal.loop-preserved
loop-preserved g c = (
  tt,
  tt,
  g.met.S.Service.same_then _ _ _ c.loop.invariant.2 c.tick.ensures.same,
  ticks_more (g.S.Service.may_want c.loop.service) _ _ _ _ _ _ _ _ _ _ _ c.loop.invariant.3 c.now-now.ensures.reads c.in_default.ensures.ticked,
  ticks_paced_more _ _ _ _ _ _ _ c.loop.invariant.4 c.pause.ensures.pauses c.pause.ensures.once c.in_default.ensures.ticked.adds.own,
  c.tick.ensures.free,
)
