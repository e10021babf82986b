-- The packets in the bytes of a datagram.
use Rattle.std.proofs.Common.{◌≡◌, ℕ, zero, suc, ◌+◌, ◌*◌, ◌≤◌, List, [], ◌∷◌, ◌++◌, length, take, drop, refl, sym, ap, ◌∙◌, append-nil, append_assoc, length-append, add-one, arith}
use Rattle.std.proofs.Math.Seq.{take-add}
use Rattle.std.proofs.lemmas.List.{drop-take, drop-drop, take-take, take_at, drop_at, length-take-le}
use Rattle.std.proofs.lemmas.List.Folds.{concat-append}
use Rattle.std.proofs.lemmas.Slice.{take-put_mid_below, take-put_mid, drop-append-drop}
use Rattle.std.specs.List.{concat}
use borrow.Rule.Slice.PartMut.{put_mid}
use Rattle.satip_rtp.specs.Bytes.{rtp_header, rtp_datagram}
use Rattle.satip_rtp.specs.Held.{packets_in}

pub length-packets_in : (bytes : List ℕ) (n : ℕ) → length (packets_in bytes n) ≡ n
unfolding packets_in
length-packets_in bytes zero = refl
length-packets_in bytes (suc n) = omega (arith, length-append {A = List ℕ}, length-packets_in bytes n)

-- a part of equal fronts
part_same : (xs ys : List ℕ) (a k m : ℕ) → a + k ≤ m → take m xs ≡ take m ys → take k (drop a xs) ≡ take k (drop a ys)
part_same xs ys a k m within same =
    sym (drop-take a k xs)
    ∙ ap (λ t. drop a t) (sym (take-take (a + k) m xs within) ∙ ap (λ t. take (a + k) t) same ∙ take-take (a + k) m ys within)
    ∙ drop-take a k ys

-- what lies behind the packets doesn't count
packets_same : (xs ys : List ℕ) (n m : ℕ) → 12 + 188 * n ≤ m → take m xs ≡ take m ys → packets_in xs n ≡ packets_in ys n
unfolding packets_in
packets_same xs ys zero m within same = refl
packets_same xs ys (suc n) m within same =
    rw (packets_same xs ys n m (omega arith) same, part_same xs ys (12 + 188 * n) 188 m (omega arith) same) refl

-- a packet is put behind those before it
pub packets_put : (bytes packet : List ℕ) (n k : ℕ) → length packet ≡ 188 → 12 + 188 * n ≤ length bytes
    → packets_in (put_mid (12 + 188 * n) k bytes packet) (n + 1) ≡ packets_in bytes n ++ packet ∷ []
unfolding packets_in
packets_put bytes packet n k long within =
    let a : ℕ = 12 + 188 * n in
    let now = put_mid a k bytes packet in
    let before = packets_same now bytes n a (omega arith) (take-put_mid_below a k bytes packet a (omega arith) within) in
    let written : take (a + 188) now ≡ take a bytes ++ packet = take-put_mid a k bytes packet (a + 188) (omega (arith, long)) within in
    let last : take 188 (drop a now) ≡ packet =
    sym (drop-take a 188 now) ∙ ap (λ t. drop a t) written ∙ drop_at (take a bytes) packet a (length-take-le a bytes within) in
    ap (λ m. packets_in now m) (add-one n) ∙ rw (before, last) refl

-- what lies before the packets doesn't count
pub packets_headed : (header bytes : List ℕ) (n : ℕ) → length header ≡ 12 → packets_in (header ++ drop 12 bytes) n ≡ packets_in bytes n
unfolding packets_in
packets_headed header bytes zero long = refl
packets_headed header bytes (suc n) long =
    rw (packets_headed header bytes n long, drop-append-drop 12 bytes header (12 + 188 * n) (omega arith) long) refl

-- the packets joined
concat-packets_in : (bytes : List ℕ) (n : ℕ) → take 12 bytes ++ concat (packets_in bytes n) ≡ take (12 + 188 * n) bytes
unfolding packets_in
concat-packets_in bytes zero = append-nil (take 12 bytes)
concat-packets_in bytes (suc n) =
    let a : ℕ = 12 + 188 * n in
    let next = take 188 (drop a bytes) in
    ap (λ t. take 12 bytes ++ t) (concat-append (packets_in bytes n) (next ∷ []))
    ∙ ap (λ t. take 12 bytes ++ (concat (packets_in bytes n) ++ t)) (append-nil next)
    ∙ sym (append_assoc (take 12 bytes) (concat (packets_in bytes n)) next)
    ∙ ap (λ t. t ++ next) (concat-packets_in bytes n)
    ∙ sym (take-add a 188 bytes)
    ∙ ap (λ m. take m bytes) (omega arith)

-- a header and the packets make up a datagram
pub datagram_in : (bytes : List ℕ) (number clock ssrc n : ℕ)
    → take (12 + 188 * n) (rtp_header number clock ssrc ++ drop 12 bytes) ≡ rtp_datagram number clock ssrc (packets_in bytes n)
unfolding rtp_header rtp_datagram
datagram_in bytes number clock ssrc n =
    let header = rtp_header number clock ssrc in
    let now = header ++ drop 12 bytes in
    sym (concat-packets_in now n)
    ∙ ap (λ t. t ++ concat (packets_in now n)) (take_at header (drop 12 bytes) 12 refl)
    ∙ ap (λ ps. header ++ concat ps) (packets_headed header bytes n refl)

-- one more piece is written behind what was written
put_next : (front bytes piece : List ℕ) (a k : ℕ) → length front ≡ a
    → put_mid a k (front ++ drop a bytes) piece ≡ (front ++ piece) ++ drop (a + k) bytes
put_next front bytes piece a k start =
    let rest = drop a bytes in
    let xs = front ++ rest in
    ap (λ t. t ++ (piece ++ drop k (drop a xs))) (take_at front rest a start)
    ∙ ap (λ t. front ++ (piece ++ drop k t)) (drop_at front rest a start)
    ∙ ap (λ t. front ++ (piece ++ t)) (drop-drop k a bytes)
    ∙ sym (append_assoc front piece (drop (a + k) bytes))

-- the four pieces of a header are written
pub header_put : (bytes kind number time source : List ℕ) → length kind ≡ 2 → length number ≡ 2 → length time ≡ 4
    → put_mid 8 4 (put_mid 4 4 (put_mid 2 2 (kind ++ drop 2 bytes) number) time) source ≡ (((kind ++ number) ++ time) ++ source) ++ drop 12 bytes
header_put bytes kind number time source a b c =
    let two = put_next kind bytes number 2 2 a in
    let three = put_next (kind ++ number) bytes time 4 4 (omega (arith, length-append {A = ℕ}, a, b)) in
    let four = put_next ((kind ++ number) ++ time) bytes source 8 4 (omega (arith, length-append {A = ℕ}, a, b, c)) in
    ap (λ t. put_mid 8 4 (put_mid 4 4 t time) source) two ∙ ap (λ t. put_mid 8 4 t source) three ∙ four

-- packets that are held
pub none_held : (bytes : List ℕ) (n : ℕ) → n ≡ 0 → packets_in bytes n ≡ []
unfolding packets_in
none_held bytes n e = rw e refl
