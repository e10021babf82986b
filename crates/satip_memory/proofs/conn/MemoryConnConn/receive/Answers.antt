use Rattle.std.proofs.Common.{arith, refl, sym, ◌≡◌, ◌≤◌, ◌+◌, length, length-append, drop, slice_range, ℕ}
use Rattle.std.proofs.lemmas.List.{append-nil}
use Rattle.satip_memory.proofs.ContentLemmas.{piece_received}
use Rattle.satip_memory.proofs.conn.MemoryConnConn.receive.Goals as goal

-- the piece that came in stands at the front of the buffer
pub returns : goal.returns
returns c =
    let s = c.self.inside in
    let count = c.min-count.result in
    let copied : c.copy_from_slice.new.self ≡ slice_range s.text.items s.place (s.place + count) =
    rw (← c.deref.ensures.value) c.copy_from_slice.ensures.after in
    let within : s.place + count ≤ length s.text.items = omega (arith, s.text.ok.0, c.self.invariant) in
    rw (← c.self.view_is) record {
      receives = record {
        some = omega arith;
        within = omega (arith, length-append {A = ℕ}, c.copy_from_slice.ensures.len);
        before = c.if-self.false;
        after = c.if-self.false;
        counts = record { idles = refl; receive_faults = refl; send_faults = refl };
        content = record {
          received = λ _. piece_received s.text.items (drop count c.args.buf.now) _ s.place count within copied;
          sent = λ _. sym (append-nil s.sent.items);
        };
      };
    }
