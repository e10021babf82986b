-- What leaves a packer whose held packets are one datagram.
use Rattle.std.proofs.Common.{◌≡◌, ℕ, ◌+◌, ◌*◌, ◌%◌, ◌<◌, Bool, [], ◌∷◌, length, drop, sum, refl, sym, zero-add, append-nil, arith}
use Rattle.std.proofs.Math.Seq.{drop-length}
use Rattle.satip_base.specs.declared.network.Address.{Address}
use Rattle.satip_base.specs.Output.{Output, Sends}
use Rattle.satip_rtp.specs.Cut.{cut}
use Rattle.satip_rtp.specs.Bytes.{rtp_datagram}
use Rattle.satip_rtp.specs.Sending.{SendsAll}
use Rattle.satip_rtp.specs.Packing.{Packing, after_cut, leaving}

-- what is left then
abbrev pub emptied : Packing → Packing
emptied p = record {
  ssrc = p.ssrc;
  held = [];
  next = (p.next + 1) % 65536;
  datagrams = (p.datagrams + 1) % 4294967296;
  octets = (p.octets + 188 * length p.held) % 4294967296;
}

pub after_cut-all : (flush : Bool) (p : Packing) → cut flush p.held ≡ p.held ∷ [] → after_cut flush p ≡ emptied p
after_cut-all flush p e =
    let whole : sum (length p.held ∷ []) ≡ length p.held = zero-add (length p.held) in
    let gone : drop (length p.held) p.held ≡ [] = drop-length p.held in
    rw e (rw whole (rw gone refl))

pub sends_all-one : (o : Output) (flush : Bool) (p : Packing) (clock : ℕ) (to : Address) (n : Output) → cut flush p.held ≡ p.held ∷ []
    → Sends o to (rtp_datagram p.next clock p.ssrc p.held) n → SendsAll o (leaving flush p clock to) n
sends_all-one o flush p clock to n e s = rw e (record {
  datagrams = s.datagrams;
  datagram_spare = rw zero-add s.datagram_spare;
  count_spare = omega (arith, s.count_spare);
  reply = s.reply;
  reply_spare = s.reply_spare;
})

-- where nothing is cut, nothing changes
pub after_cut-none : (flush : Bool) (p : Packing) → cut flush p.held ≡ [] → p.next < 65536 → p.datagrams < 4294967296 → p.octets < 4294967296
    → after_cut flush p ≡ p
after_cut-none flush p e next datagrams octets =
    let number : (p.next + 0) % 65536 ≡ p.next = omega arith in
    let count : (p.datagrams + 0) % 4294967296 ≡ p.datagrams = omega arith in
    let bytes : (p.octets + 188 * 0) % 4294967296 ≡ p.octets = omega arith in
    rw e (rw (number, count, bytes) refl)

pub sends_all-none : (o : Output) (flush : Bool) (p : Packing) (clock : ℕ) (to : Address) → cut flush p.held ≡ []
    → SendsAll o (leaving flush p clock to) o
sends_all-none o flush p clock to e = rw e (record {
  datagrams = sym (append-nil o.datagrams);
  datagram_spare = omega arith;
  count_spare = omega arith;
  reply = refl;
  reply_spare = refl;
})
