-- The passes of these callers were joined, and there is memory for the kits and gears of the others.
use Rattle.std.proofs.Common.{◌+◌, ◌≤◌, List, vec_len, vec_capacity}
use Rattle.satip_turn.specs.Shown.{Knows}
use Rattle.satip_jobs.specs.declared.seat.Seat.{Seat}
use Rattle.satip_jobs.specs.Crews.{AreAlone}
use Rattle.satip_jobs.proofs.Seating.{Joined}
use Rattle.satip_jobs.proofs.callers.join_all.Given as goal

abbrev pub invariant-loop-root : goal.invariant-loop-root
invariant-loop-root g l = record {
  knows : Knows (g.X.Crew.legal (g.X.Crew.cell l.initial.root).setting) (g.X.Crew.pass l.root);
  alone : AreAlone g.X.Crew.cell g.X.Crew.pass (g.X.Crew.cell l.initial.root) l.seats.items;
  joined : (done : List (Seat g.row.X.Denot g.row.K.Denot g.row.M.Denot))
      × Joined g.X.Crew.cell g.X.Crew.pass g.X.Crew.gear l.initial.root l.root l.initial.seats.items done l.seats.items l.kits.items l.gears.items l.worst;
  kit_space : vec_len l.kits + vec_len l.seats ≤ vec_capacity l.kits;
  gear_space : vec_len l.gears + vec_len l.seats ≤ vec_capacity l.gears;
}

abbrev pub decreases-loop-root : goal.decreases-loop-root
decreases-loop-root g l = vec_len l.seats
