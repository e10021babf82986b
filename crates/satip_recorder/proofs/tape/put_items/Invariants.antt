use Rattle.std.proofs.Common.{◌≡◌, ◌<◌, false, List, ◌++◌, length}
use Rattle.satip_rtp_receiver.specs.declared.item.Item.{Item}
use Rattle.satip_rtp_receiver.specs.Runs.{all_items, drained}
use Rattle.satip_recorder.specs.Tapes.{Taped, deck}
use Rattle.satip_recorder.proofs.tape.put_items.Given as goal

-- some items were handed up, and the rest will be
abbrev pub invariant-items : goal.invariant-items
invariant-items g l =
    (so_far : List Item)
    × Taped g.O.Sink.tells g.E.Sink.tells (deck l.initial.tape (g.O.Sink.drain l.initial.output) (g.E.Sink.drain l.initial.errors))
    (deck l.tape (g.O.Sink.drain l.output) (g.E.Sink.drain l.errors)) so_far
    × (all_items l.initial.catcher ≡ so_far ++ all_items l.catcher)
    × (drained l.initial.catcher ≡ drained l.catcher)
    × (l.catcher.next < 65536)
    × (l.catcher.finished ≡ false)

-- each item has a place
abbrev pub decreases-items : goal.decreases-items
decreases-items g l = length l.catcher.held
