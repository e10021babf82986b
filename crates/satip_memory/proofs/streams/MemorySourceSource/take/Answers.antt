use Rattle.std.proofs.Common.{arith, refl, ◌≡◌, ◌≤◌, ◌+◌, length, length-append, drop, slice_range, ℕ}
use Rattle.satip_memory.proofs.ContentLemmas.{piece_taken}
use Rattle.satip_memory.proofs.streams.MemorySourceSource.take.Goals as goal

-- the piece stands at the front of the buffer
pub returns : goal.returns
returns c =
    let s = c.self.inside in
    let count = c.min-count.result in
    let copied : c.copy_from_slice.new.self ≡ slice_range s.text.items s.place (s.place + count) =
    rw (← c.deref.ensures.value) c.copy_from_slice.ensures.after in
    let within : s.place + count ≤ length s.text.items = omega (arith, s.text.ok.0, c.self.invariant.0) in
    rw (← c.self.view_is) record {
      takes = record {
        some = omega (arith, c.requires.room);
        within = omega (arith, length-append {A = ℕ}, c.copy_from_slice.ensures.len);
        before = c.if-self.false;
        after = c.if-self.false;
        faults = refl;
        taken = refl;
        content = λ _. piece_taken s.text.items (drop count c.args.buf.now) _ s.place count within copied;
      };
    }
