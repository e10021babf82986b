-- Datagrams sent one after another, and marks of slots.
use Rattle.std.proofs.Common.{◌≡◌, ◌≢◌, ℕ, ◌*◌, ◌%◌, ◌^◌, ◌<◌, max, Bool, true, false, cond, eqb, ◌||◌, List, [], ◌∷◌, ◌++◌, length, refl, sym, ap, ◌∙◌, arith, append_assoc, append-nil, length-append}
use Rattle.std.proofs.lemmas.Bool.Decides.{nat_tests}
use Rattle.std.proofs.lemmas.Nat.{one_shl}
use Rattle.std.proofs.lemmas.Nat.Bits.{bit_at-pow_same, bit_at-pow_other}
use Rattle.std.specs.Int.{bit_at}
use Rattle.std.specs.List.{concat}
use Rattle.std.proofs.lemmas.List.Sums.{sum_by-append}
use Rattle.satip_base.specs.Output.{Output, Datagram}
use Rattle.satip_rtp.specs.Sending.{SendsAll}

pub nothing_sent : (o : Output) → SendsAll o [] o
nothing_sent o = record {
  datagrams = sym (append-nil o.datagrams);
  datagram_spare = omega arith;
  count_spare = omega arith;
  reply = refl;
  reply_spare = refl;
}

infixl 20 ◌then_sends◌
pub ◌then_sends◌ : {o m n : Output} {ds es : List Datagram} → SendsAll o ds m → SendsAll m es n → SendsAll o (ds ++ es) n
◌then_sends◌ {o = o} {ds = ds} {es = es} first second = record {
  datagrams = rw (second.datagrams, first.datagrams) (append_assoc o.datagrams ds es);
  datagram_spare = omega (arith, sum_by-append (λ (d : Datagram). length d.bytes) ds es, first.datagram_spare, second.datagram_spare);
  count_spare = omega (arith, length-append ds es, first.count_spare, second.count_spare);
  reply = second.reply ∙ first.reply;
  reply_spare = second.reply_spare ∙ first.reply_spare;
}

-- one mark or the other
pub max-marks : (a b : Bool) → max (cond a 1 0) (cond b 1 0) ≡ cond (a || b) 1 0
max-marks true true = refl
max-marks true false = refl
max-marks false true = refl
max-marks false false = refl

-- the bit of a slot
pub slot_mark : (slot other : ℕ) → slot < 64 → bit_at (1 * 2 ^ slot % 18446744073709551616) other ≡ cond (eqb slot other) 1 0
slot_mark slot other h = ap (λ n. bit_at n other) (one_shl slot 64 h) ∙ each (eqb slot other) refl
  where
    each : (t : Bool) → eqb slot other ≡ t → bit_at (2 ^ slot) other ≡ cond t 1 0
    each true e =
        let same : other ≡ slot = grind (arith, nat_tests) in
        ap (λ n. bit_at (2 ^ slot) n) same ∙ bit_at-pow_same slot
    each false e =
        let differ : other ≢ slot = grind (arith, nat_tests) in
        bit_at-pow_other slot other differ

-- bytes of packets one behind the other
pub concat-append : (xs ys : List (List ℕ)) → concat (xs ++ ys) ≡ concat xs ++ concat ys
concat-append [] ys = refl
concat-append (x ∷ xs) ys = ap (λ t. x ++ t) (concat-append xs ys) ∙ sym (append_assoc x (concat xs) (concat ys))
