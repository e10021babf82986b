use Rattle.std.specs.Prelude.{◌≡◌, ◌≤◌, ◌-◌, length, take, drop}
use Rattle.satip_audit.proofs.IndexLemmas.{Indexing}
use Rattle.satip_audit.proofs.indexing.index_lines.Given as goal

-- each line before the rest is right, and in the index
abbrev pub invariant-lines : goal.invariant-lines
invariant-lines l =
    Indexing l.initial.text (drop l.at l.text) (take l.at l.text) l.number l.index.starts l.index.spots.items × (l.at ≤ length l.text)
    × (length l.text ≡ length l.initial.text)

-- each turn reads a line
abbrev pub decreases-lines : goal.decreases-lines
decreases-lines l = length l.text - l.at
