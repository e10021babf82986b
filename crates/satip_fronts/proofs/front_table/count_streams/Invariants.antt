use Rattle.std.proofs.Common.{◌≡◌, length, take}
use Rattle.satip_fronts.specs.Rows.{AreCounted}
use Rattle.satip_fronts.proofs.front_table.count_streams.Given as goal

-- the places so far are counted
abbrev pub invariant-loop-place : goal.invariant-loop-place
invariant-loop-place l = record { counted : AreCounted (take l.place-index l.places) l.counts; long : length l.counts ≡ 16 }
