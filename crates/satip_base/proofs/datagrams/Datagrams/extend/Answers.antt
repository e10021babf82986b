use Rattle.std.proofs.Common.{arith, refl, ◌≡◌, ◌+◌, ◌-◌, length}
use Rattle.std.proofs.lemmas.List.{length-map}
use Rattle.std.proofs.Math.ListN.{length-set}
use Rattle.satip_base.specs.DatagramFields.{cut_of}
use Rattle.satip_base.proofs.DatagramLemmas.{Tiles-longer, cuts_extended}
use Rattle.satip_base.proofs.datagrams.Datagrams.extend.Goals as goal

-- the last part is longer by the bytes
pub invariant_of-self : goal.invariant_of-self
invariant_of-self c =
    let d = c.self.inside in
    let sound = c.self.invariant in
    let added = c.append_reserved.ensures in
    let some = rw (← c.self.view_is) at c.requires.some in
    let room = rw (← c.self.view_is) at c.requires.bytes in
    let last : c.len-last.result - 1 + 1 ≡ length d.heads.items =
    omega (arith, some, d.heads.ok.0, c.len-last.ensures, length-map d.heads.items (cut_of d.bytes.items)) in
    record {
      bytes = omega (arith, sound.bytes, added.count, room);
      bytes_reserved = omega (arith, sound.bytes_reserved, added.capacity);
      heads = sound.heads;
      heads_reserved = sound.heads_reserved;
      tiles = Tiles-longer _ _ _ d.heads.items _ _ _ sound.tiles last c.index_mut.ensures.value refl c.len-end.ensures (omega (arith, added.count));
    }

pub returns : goal.returns
returns c =
    let d = c.self.inside in
    let sound = c.self.invariant in
    let added = c.append_reserved.ensures in
    let some = rw (← c.self.view_is) at c.requires.some in
    let room = rw (← c.self.view_is) at c.requires.bytes in
    let last : c.len-last.result - 1 + 1 ≡ length d.heads.items =
    omega (arith, some, d.heads.ok.0, c.len-last.ensures, length-map d.heads.items (cut_of d.bytes.items)) in
    let end : c.len-end.result ≡ length d.bytes.items + length c.args.bytes.now =
    omega (arith, d.bytes.ok.0, added.count, c.len-end.ensures) in
    rw (← c.self.view_is) record {
      lengthened = record {
        datagrams_are = rw added.items (cuts_extended _ _ _ _ d.heads.items _ _ _ sound.tiles d.bytes.ok.0 last c.index_mut.ensures.value refl refl end);
        count = simp (length-map, length-set);
        byte_room = refl;
        count_room = refl;
        byte_spare = omega (arith, sound.bytes, added.count, room);
        count_spare = refl;
      };
    }
