use Rattle.std.proofs.Common.{◌≡◌, drop}
use Rattle.satip_audit.specs.Spots.{places_of}
use Rattle.satip_audit.proofs.PlaceLemmas.{gap_in}
use Rattle.satip_audit.proofs.index.first_missing.Given as goal

-- none before is missing
abbrev pub invariant-spots : goal.invariant-spots
invariant-spots l = gap_in l.place (places_of (drop l.place l.spots)) ≡ gap_in 0 (places_of l.spots)
