-- The kits so far have callers, and there is memory for the others.
use Rattle.std.proofs.Common.{◌≡◌, ◌+◌, ◌≤◌, length, vec_len, vec_capacity}
use Rattle.satip_jobs.proofs.Seating.{Seated}
use Rattle.satip_jobs.proofs.callers.seat_all.Given as goal

abbrev pub invariant-loop-number : goal.invariant-loop-number
invariant-loop-number g l = record {
  seated : Seated g.X.Crew.cell g.X.Crew.pass g.X.Crew.gear l.initial.root l.root l.initial.kits.items l.kits.items l.initial.gears.items l.gears.items
      l.seats.items;
  gears : vec_len l.gears ≡ vec_len l.kits;
  rooms : vec_len l.rooms ≡ vec_len l.kits;
  space : vec_len l.seats + vec_len l.kits ≤ vec_capacity l.seats;
  count : vec_len l.seats + vec_len l.kits ≡ vec_len l.initial.kits;
  number : l.number ≡ length l.seats.items;
  seats : l.number ≡ vec_len l.seats;
  kit_capacity : vec_capacity l.kits ≡ vec_capacity l.initial.kits;
  gear_capacity : vec_capacity l.gears ≡ vec_capacity l.initial.gears;
}

abbrev pub decreases-loop-number : goal.decreases-loop-number
decreases-loop-number g l = vec_len l.kits
