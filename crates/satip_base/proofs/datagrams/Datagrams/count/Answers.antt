use Rattle.std.proofs.Common.{arith}
use Rattle.std.proofs.lemmas.List.{length-map}
use Rattle.satip_base.proofs.DatagramLemmas.{Tiles-sum}
use Rattle.satip_base.specs.DatagramFields.{cut_of}
use Rattle.satip_base.proofs.datagrams.Datagrams.count.Goals as goal

-- what is held and what is left make up the room
pub returns-clause-room : goal.returns-clause-room
returns-clause-room c =
    let d = c.self.inside in
    let sound = c.self.invariant in
    let together = Tiles-sum d.bytes.items _ _ d.heads.items sound.tiles (omega (arith, d.bytes.ok.0)) in
    rw (← c.self.view_is) record {
      bytes = omega (arith, together, sound.bytes);
      count = omega (arith, d.heads.ok.0, sound.heads, length-map d.heads.items (cut_of d.bytes.items));
    }
