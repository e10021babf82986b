use Rattle.std.proofs.Common.{◌≡◌, ◌-◌, drop}
use Rattle.satip_audit.specs.Spots.{places_of}
use Rattle.satip_audit.proofs.PlaceLemmas.{repeat_in}
use Rattle.satip_audit.proofs.index.first_repeated.Given as goal

-- none before was named twice
abbrev pub invariant-spots : goal.invariant-spots
invariant-spots l = repeat_in (places_of (drop (l.next - 1) l.spots)) ≡ repeat_in (places_of l.spots)
