use Rattle.std.proofs.Common.{◌≡◌, ◌++◌, ◌+◌, ◌*◌, ℕ, List, None, length}
use Rattle.satip_frame.specs.Said.{Said}
use Rattle.satip_frame.specs.Stream.{Leads}
use Rattle.satip_frame.proofs.hearing.next_asked.Given as goal

-- the messages of the text are those in front of what waits, and none was read
abbrev pub invariant-pieces : goal.invariant-pieces
invariant-pieces g l =
    (l.framer.ended ≡ None)
    × ((text : List ℕ) (ms : List Said) → Leads text ms (l.initial.framer.bytes ++ l.initial.piece) → Leads text ms (l.framer.bytes ++ l.piece))
    × (l.request ≡ l.initial.request)

-- each turn gives the framer some of the piece, or the framer was full and drops line ends
abbrev pub decreases-pieces : goal.decreases-pieces
decreases-pieces g l = 2 * length l.piece + length l.framer.bytes
