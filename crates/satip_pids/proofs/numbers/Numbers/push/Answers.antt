use Rattle.std.proofs.Common.{◌≡◌, length, take, ap, arith}
use Rattle.std.proofs.lemmas.List.{length-take-le}
use Rattle.satip_pids.proofs.Packing.{IsPacked-push}
use Rattle.satip_pids.proofs.numbers.Numbers.push.Goals as goal

-- there is room for one more
pub invariant_of-self : goal.invariant_of-self
invariant_of-self g c =
    let s = c.self.inside in
    let packed = c.self.invariant in
    let long : length (take s.count s.places) ≡ s.count = length-take-le s.count s.places (omega (arith, packed.within, packed.size)) in
    IsPacked-push _ s.places s.count _ packed (omega (arith, long, ap length c.self.view_is, c.requires.room))
