use Rattle.std.proofs.Common.{◌≡◌, drop}
use Rattle.std.specs.List.{list_any}
use Rattle.satip_state.specs.Views.{plays_in}
use Rattle.satip_state.proofs.parts.Parts.is_playing.Given as goal

abbrev pub invariant-loop-place : goal.invariant-loop-place
invariant-loop-place l = list_any (plays_in l.number) (drop l.place l.self.table.seats) ≡ list_any (plays_in l.number) l.self.table.seats
