use Rattle.std.proofs.Common.{arith, ◌≡◌, sym, ◌<◌, length, slice_range}
use Rattle.satip_base.proofs.DatagramLemmas.{Tiles-read, slice_get-cuts}
use Rattle.satip_base.proofs.datagrams.Datagrams.datagram.Goals as goal

-- the head lies within the bytes
pub part-requires : goal.part-requires
part-requires c =
    let d = c.self.inside in
    let inside : c.args.place < length d.heads.items = omega (arith, d.heads.ok.0, c.len.ensures, c.if-place-len.false) in
    let part = Tiles-read _ _ d.heads.items c.self.invariant.tiles c.args.place _ inside c.index-head.ensures in
    record { ordered = part.ordered; within = omega (arith, part.ends, c.deref.ensures.len) }

pub returns : goal.returns
returns c =
    let d = c.self.inside in
    let head = c.index-head.result.now in
    let inside : c.args.place < length d.heads.items = omega (arith, d.heads.ok.0, c.len.ensures, c.if-place-len.false) in
    let cut : c.part.result.now ≡ slice_range d.bytes.items head.start head.end = rw (← c.deref.ensures.value) c.part.ensures.part in
    rw (← c.self.view_is) record { datagram = rw cut (sym (slice_get-cuts d.bytes.items d.heads.items c.args.place head inside c.index-head.ensures)) }
