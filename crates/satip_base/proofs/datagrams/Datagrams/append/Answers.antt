use Rattle.std.proofs.Common.{arith, refl, ◌≡◌, ◌+◌, length}
use Rattle.satip_base.proofs.DatagramLemmas.{Tiles-push, cuts_push}
use Rattle.satip_base.proofs.datagrams.Datagrams.append.Goals as goal

-- the new part stands behind all bytes
pub invariant_of-self : goal.invariant_of-self
invariant_of-self c =
    let sound = c.self.invariant in
    let added = c.append_reserved.ensures in
    let pushed = c.push_reserved.ensures in
    let bytes = rw (← c.self.view_is) at c.requires.bytes in
    let count = rw (← c.self.view_is) at c.requires.count in
    record {
      bytes = omega (arith, sound.bytes, added.count, bytes);
      bytes_reserved = omega (arith, sound.bytes_reserved, added.capacity);
      heads = omega (arith, sound.heads, pushed.len, count);
      heads_reserved = omega (arith, sound.heads_reserved, pushed.capacity);
      tiles = rw pushed.items (Tiles-push _ _ _ _ _ sound.tiles c.len-start.ensures
          (omega (arith, c.len-end.ensures, added.count)) c.len-end.ensures);
    }

pub returns : goal.returns
returns c =
    let d = c.self.inside in
    let sound = c.self.invariant in
    let added = c.append_reserved.ensures in
    let pushed = c.push_reserved.ensures in
    let bytes = rw (← c.self.view_is) at c.requires.bytes in
    let count = rw (← c.self.view_is) at c.requires.count in
    let start : c.len-start.result ≡ length d.bytes.items = omega (arith, d.bytes.ok.0, c.len-start.ensures) in
    let end : c.len-end.result ≡ length d.bytes.items + length c.args.bytes.now = omega (arith, d.bytes.ok.0, added.count, c.len-end.ensures) in
    rw (← c.self.view_is) record {
      bundled = record {
        datagrams_are = rw (added.items, pushed.items) (cuts_push _ _ _ _ d.heads.items _ sound.tiles (omega (arith, d.bytes.ok.0)) start end);
        byte_room = refl;
        count_room = refl;
        byte_spare = omega (arith, sound.bytes, added.count, bytes);
        count_spare = omega (arith, sound.heads, pushed.len, count);
      };
    }
