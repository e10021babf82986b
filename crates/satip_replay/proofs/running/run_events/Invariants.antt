use Rattle.std.proofs.Common.{◌≡◌, List, Ok, length}
use Rattle.satip_plain.specs.declared.events.Event.{Event}
use Rattle.satip_plain.specs.Histories.{opening}
use Rattle.satip_script.specs.Scripts.{IsScript}
use Rattle.satip_core.specs.Serving.{Stands}
use Rattle.satip_replay.specs.Runs.{Midway}
use Rattle.satip_replay.proofs.running.run_events.Given as goal

-- the events so far were run, and all but the gathered text of them is written
abbrev pub invariant-events : goal.invariant-events
invariant-events g l =
    (l.server.setting ≡ l.initial.server.setting)
    × ((events : List Event) → Stands l.initial.server (opening l.initial.server.setting) → IsScript l.script (Ok events) → Midway g.O.Sink.tells
    (g.O.Sink.drain l.initial.output)
    (g.O.Sink.drain l.output)
    l.initial.server.setting events l.server l.text.items l.lines)

-- each turn reads a line
abbrev pub decreases-events : goal.decreases-events
decreases-events g l = length l.lines
