-- What the pump did so far, as its last answer told.
use Rattle.std.proofs.Common.{◌≡◌, ◌+◌, ◌<◌, ◌≤◌, max, false, length}
use Rattle.satip_pump.specs.Pauses.{Paced, owed_by}
use Rattle.satip_pump.specs.PumpRuns.{play_state}
use Rattle.satip_pump.specs.Readings.{held}
use Rattle.satip_pump.specs.Runs.{Answered, pump_now}
use Rattle.satip_pump.proofs.pump.play_recordings.Given as goal

abbrev pub invariant-loop : goal.invariant-loop
invariant-loop g l =
    (goal.iterator-loop g).can_next l.iterator' × (goal.iterator-loop g).is_finite l.iterator'
    × g.S.Service.same l.fn.service l.service
    × ((g.M.MuxStore.shelf l.store).recording ≡ (g.M.MuxStore.shelf l.fn.store).recording)
    × (l.pump.front ≡ l.fn.front)
    × (l.pump.since < 64)
    × (l.pump.since + length l.pump.reading.buffer.packets ≤ 64)
    × Answered (g.S.Service.may_want l.fn.service) g.O.Outlet.tells g.M.From.Source.tells g.M.From.Source.feed l.fn.front
    (play_state g.S.Service.known g.M.MuxStore.shelf g.O.Outlet.outbox l.fn.service l.fn.store l.fn.outlet)
    (pump_now g.S.Service.known g.M.MuxStore.shelf g.O.Outlet.outbox l.service l.store l.outlet l.pump.reading) l.answer
    × Paced (g.S.Service.known l.fn.service).own (g.S.Service.known l.service).own (g.P.Pacer.pauses l.fn.pacer) (g.P.Pacer.pauses l.pacer)
    l.pump.since (owed_by l.answer)
    × ((g.M.MuxStore.shelf l.store).lent ≡ (g.M.MuxStore.shelf l.fn.store).lent + held l.pump.reading.source)
    × ((g.M.MuxStore.shelf l.store).peak ≤ max (g.M.MuxStore.shelf l.fn.store).peak ((g.M.MuxStore.shelf l.fn.store).lent + 1))
    × ((g.O.Outlet.outbox l.outlet).held ≡ false)
