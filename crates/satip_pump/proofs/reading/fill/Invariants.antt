use Rattle.std.proofs.Common.{◌≡◌, ◌+◌, ◌≤◌, length}
use Rattle.satip_pump.specs.Readings.{ReadsOn, read_state}
use Rattle.satip_pump.proofs.reading.fill.Given as goal

-- what was read so far
abbrev pub invariant-loop : goal.invariant-loop
invariant-loop g l =
    (goal.iterator-loop g).can_next l.iterator' × (goal.iterator-loop g).is_finite l.iterator'
    × ReadsOn g.M.From.Source.tells g.M.From.Source.feed (read_state g.M.MuxStore.shelf l.fn.store l.fn.reading)
    (read_state g.M.MuxStore.shelf l.store l.reading)
    × (l.reading.buffer.room + length l.reading.buffer.packets ≡ 64)
    × (length l.reading.buffer.packets ≤ l.most)
