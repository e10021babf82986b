-- Where packets stand in what was read.
use Rattle.std.proofs.Common.{◌≡◌, ◌≢◌, ℕ, ◌+◌, ◌-◌, ◌<◌, ◌≤◌, ◌⊎◌, ◌↔◌, IsNone, IfSome, slice_index, List, [], ◌∷◌, ◌++◌, Option, Some, None, inl, inr, length, take, drop, get_or, map, set, arith, suc, refl, sym, ◌∙◌, ap, subst, append_assoc, append-nil}
use Rattle.std.proofs.lemmas.List.{length-take-le, length-drop, drop-set-add, drop-take, get_or-take, take-take, take-append-drop}
use Rattle.std.proofs.lemmas.Slice.{take-put_mid_below}
use Rattle.std.proofs.Math.Seq.{drop-cons, take-suc-set, take-append-add}
use borrow.Rule.Slice.PartMut.{put_mid}
use Rattle.satip_base.specs.Streams.{Feed, Takes}
use Rattle.satip_base.specs.declared.streams.Taken.{Taken}
use Rattle.satip_base.specs.declared.streams.Taken.TheVariants.{Got, End, Failed}
use Rattle.satip_ts.specs.Packet.{IsPacket}
use Rattle.satip_ts.specs.Recording.{from_sync, cut_packets}
use Rattle.satip_ts.proofs.Packets.{cut_packets-skip, cut_packets-short, cut_packets-first}
use Rattle.satip_ts.proofs.Places.{held-drop, held-put_mid}
use Rattle.satip_ts.proofs.Sync.{from_sync-first, length-from_sync}
use Rattle.satip_plain.specs.Pumping.{rest_of}
use Rattle.satip_pump.specs.Buffers.{IsAtFront, Reads, bytes_in}
use Rattle.satip_pump.specs.BufferFields.{packet_at, AreStarts}

pub length_between : {X : Type 0} (xs : List X) (s e : ℕ) → s ≤ e → e ≤ length xs → length (take (e - s) (drop s xs)) ≡ e - s
length_between xs s e ordered within = length-take-le (e - s) (drop s xs) (omega (arith, length-drop s xs))

-- the first of them, and the others
pub front_between : {X : Type 0} (xs : List X) (s e : ℕ) (d : X) → s < e → e ≤ length xs
    → take (e - s) (drop s xs) ≡ get_or xs s d ∷ take (e - (s + 1)) (drop (s + 1) xs)
front_between {X = X} xs s e d some within =
    let one : e - s ≡ suc (e - (s + 1)) = omega arith in
    let next : s + 1 ≡ suc s = omega arith in
    let P : ℕ → Type 0 = λ n. take n (drop s xs) ≡ get_or xs s d ∷ take (e - (s + 1)) (drop (s + 1) xs) in
    let Q : ℕ → Type 0 = λ n. take (suc (e - (s + 1))) (drop s xs) ≡ get_or xs s d ∷ take (e - (s + 1)) (drop n xs) in
    subst P (sym one) (subst Q (sym next) (ap (λ (ys : List X). take (suc (e - (s + 1))) ys) (drop-cons xs s d (omega arith))))

-- one more behind them
pub push_between : {X : Type 0} (xs : List X) (s e : ℕ) (x : X) → s ≤ e → e < length xs
    → take (e + 1 - s) (drop s (set xs e x)) ≡ take (e - s) (drop s xs) ++ x ∷ []
push_between {X = X} xs s e x ordered within =
    let at : e ≡ s + (e - s) = omega arith in
    let one : e + 1 - s ≡ suc (e - s) = omega arith in
    let here : drop s (set xs e x) ≡ set (drop s xs) (e - s) x =
    ap (λ (n : ℕ). drop s (set xs n x)) at ∙ drop-set-add s xs (e - s) x in
    ap (λ (n : ℕ). take n (drop s (set xs e x))) one
    ∙ ap (λ (ys : List X). take (suc (e - s)) ys) here
    ∙ take-suc-set (drop s xs) (e - s) x (omega (arith, length-drop s xs))

-- a packet that ends within bytes that are the same
packet_same : (bs cs : List ℕ) (n s : ℕ) → take n bs ≡ take n cs → s + 188 ≤ n → packet_at bs s ≡ packet_at cs s
packet_same bs cs n s same within =
    let front : take (s + 188) bs ≡ take (s + 188) cs =
    sym (take-take (s + 188) n bs within) ∙ ap (λ (xs : List ℕ). take (s + 188) xs) same ∙ take-take (s + 188) n cs within in
    sym (drop-take s 188 bs) ∙ ap (λ (xs : List ℕ). drop s xs) front ∙ drop-take s 188 cs

pub packets_same : (bs cs : List ℕ) (n : ℕ) (starts : List ℕ) → take n bs ≡ take n cs → AreStarts bs n starts
    → map (packet_at bs) starts ≡ map (packet_at cs) starts
packets_same bs cs n [] same are = refl
packets_same bs cs n (s ∷ starts) same are =
    ap (λ (p : List ℕ). p ∷ map (packet_at bs) starts) (packet_same bs cs n s same are.0)
    ∙ ap (λ (ps : List (List ℕ)). packet_at cs s ∷ ps) (packets_same bs cs n starts same are.2)

pub starts_same : (bs cs : List ℕ) (n : ℕ) (starts : List ℕ) → take n bs ≡ take n cs → AreStarts bs n starts → AreStarts cs n starts
starts_same bs cs n [] same are = tt
starts_same bs cs n (s ∷ starts) same are =
    (are.0, subst IsPacket (packet_same bs cs n s same are.0) are.1, starts_same bs cs n starts same are.2)

pub starts_within : (bs : List ℕ) (m n : ℕ) (starts : List ℕ) → m ≤ n → AreStarts bs m starts → AreStarts bs n starts
starts_within bs m n [] more are = tt
starts_within bs m n (s ∷ starts) more are = (omega (arith, are.0), are.1, starts_within bs m n starts more are.2)

pub starts_more : (bs : List ℕ) (n : ℕ) (starts : List ℕ) (s : ℕ) → AreStarts bs n starts → s + 188 ≤ n → IsPacket (packet_at bs s)
    → AreStarts bs n (starts ++ s ∷ [])
starts_more bs n [] s are within is = (within, is, tt)
starts_more bs n (x ∷ starts) s are within is = (are.0, are.1, starts_more bs n starts s are.2 within is)

-- the packet that begins with the next sync byte of the rest
pub record IsNext (bytes rest : List ℕ) (s e : ℕ) : Type 0 where
  pub packet : IsPacket (packet_at bytes s)
  pub first : (more : List ℕ) → cut_packets (rest ++ more) ≡ packet_at bytes s ∷ cut_packets (take (e - (s + 188)) (drop (s + 188) bytes) ++ more)

pub cut_one : (bytes rest : List ℕ) (s e k : ℕ) → take (e - s) (drop s bytes) ≡ rest → e ≤ length bytes → drop k rest ≡ from_sync rest
    → s + k + 188 ≤ e → IsNext bytes rest (s + k) e
cut_one bytes rest s e k is within synced some =
    let at : ℕ = s + k in
    let left = take (e - at) (drop at bytes) in
    let found : left ≡ from_sync rest = held-drop bytes s e k (omega (arith, some)) ∙ ap (λ (xs : List ℕ). drop k xs) is ∙ synced in
    let size : length left ≡ e - at = length_between bytes at e (omega (arith, some)) within in
    let whole : length (packet_at bytes at) ≡ 188 = length-take-le 188 (drop at bytes) (omega (arith, some, within, length-drop at bytes)) in
    let same : packet_at bytes at ≡ take 188 left = sym (take-take 188 (e - at) (drop at bytes) (omega (arith, some))) in
    let parts : packet_at bytes at ++ take (e - (at + 188)) (drop (at + 188) bytes) ≡ from_sync rest =
    ap (λ (p : List ℕ). p ++ take (e - (at + 188)) (drop (at + 188) bytes)) same
    ∙ ap (λ (r : List ℕ). take 188 left ++ r) (held-drop bytes at e 188 some)
    ∙ take-append-drop 188 left ∙ found in
    let some_left : 0 < length (from_sync rest) = omega (arith, ap length found, size, some) in
    let sync : get_or (packet_at bytes at) 0 0 ≡ 71 =
    ap (λ (p : List ℕ). get_or p 0 0) same ∙ get_or-take 188 left 0 0 (omega arith)
    ∙ ap (λ (xs : List ℕ). get_or xs 0 0) found ∙ from_sync-first rest some_left in
    record {
      packet = record { whole = whole; synchronized = sync };
      first = λ more. cut_packets-first rest (packet_at bytes at) (take (e - (at + 188)) (drop (at + 188) bytes)) more parts whole;
    }

-- fewer than 188 bytes are left from the next sync byte on
pub record IsLast (rest rest' : List ℕ) : Type 0 where
  pub same : (more : List ℕ) → cut_packets (rest ++ more) ≡ cut_packets (rest' ++ more)
  pub none : cut_packets rest' ≡ []
  pub few : length rest' < 188

pub cut_none : (bytes rest : List ℕ) (s e k : ℕ) → take (e - s) (drop s bytes) ≡ rest → e ≤ length bytes → drop k rest ≡ from_sync rest
    → s + k ≤ e → e - (s + k) < 188 → IsLast rest (take (e - (s + k)) (drop (s + k) bytes))
cut_none bytes rest s e k is within synced inside few =
    let left = take (e - (s + k)) (drop (s + k) bytes) in
    let found : left ≡ from_sync rest = held-drop bytes s e k inside ∙ ap (λ (xs : List ℕ). drop k xs) is ∙ synced in
    let size : length left ≡ e - (s + k) = length_between bytes (s + k) e inside within in
    record {
      same = λ more. cut_packets-skip rest more ∙ ap (λ (xs : List ℕ). cut_packets (xs ++ more)) (sym found);
      none = cut_packets-short left (omega (arith, size, few, length-from_sync left));
      few = omega (arith, size, few);
    }

-- bytes were written behind the rest, of which so many were taken
pub rest_more : (bytes written : List ℕ) (s e count got : ℕ) → s ≤ e → e ≤ length bytes → length written ≡ count → got ≤ count
    → take (e + got - s) (drop s (put_mid e (e + count - e) bytes written)) ≡ take (e - s) (drop s bytes) ++ take got written
rest_more bytes written s e count got ordered within size few =
    let part = drop s (put_mid e (e + count - e) bytes written) in
    let rest = take (e - s) (drop s bytes) in
    let length_rest : length rest ≡ e - s = length_between bytes s e ordered within in
    let total : e + got - s ≡ length rest + got = omega (arith, length_rest) in
    sym (take-take (e + got - s) (e + count - s) part (omega arith))
    ∙ ap (λ (xs : List ℕ). take (e + got - s) xs) (held-put_mid bytes written s e count ordered within size)
    ∙ ap (λ (n : ℕ). take n (rest ++ written)) total
    ∙ take-append-add rest written got

pub front_same : (bytes written : List ℕ) (n e count : ℕ) → n ≤ e → e ≤ length bytes → take n bytes ≡ take n (put_mid e (e + count - e) bytes written)
front_same bytes written n e count below within = sym (take-put_mid_below e (e + count - e) bytes written n below within)

-- the place of the first packet that waits, and the others
pub starts_first : (bs places : List ℕ) (n given found : ℕ) → given < found → found ≤ length places → AreStarts bs n (take (found - given) (drop given places))
    → AreStarts bs n (get_or places given 0 ∷ take (found - (given + 1)) (drop (given + 1) places))
starts_first bs places n given found some within are =
    let P : List ℕ → Type 0 = λ starts. AreStarts bs n starts in
    subst P (front_between places given found 0 some within) are

pub packets_first : (bs places : List ℕ) (given found : ℕ) → given < found → found ≤ length places
    → map (packet_at bs) (take (found - given) (drop given places))
    ≡ packet_at bs (get_or places given 0) ∷ map (packet_at bs) (take (found - (given + 1)) (drop (given + 1) places))
packets_first bs places given found some within = ap (λ (starts : List ℕ). map (packet_at bs) starts) (front_between places given found 0 some within)

pub at_front : (packets others : List (List ℕ)) (packet : List ℕ) (result : Option (List ℕ)) → packets ≡ packet ∷ others → result ≡ Some packet
    → IsAtFront packets result
at_front packets others packet result front is =
    let P : Option (List ℕ) → Type 0 = λ r. IsAtFront packets r in
    subst P (sym is) (front ∙ ap (λ (ps : List (List ℕ)). packet ∷ rest_of ps) (sym front))

-- bytes that are a packet make one
pub packet_of : (bytes : List ℕ) (result : Option (List ℕ)) → IsPacket bytes → (IsNone result ↔ (slice_index bytes 0 ≢ 71)) → IfSome result (λ p. p ≡ bytes)
    → result ≡ Some bytes
packet_of bytes None is none some = absurd (none.0 refl is.synchronized)
packet_of bytes (Some p) is none some = ap (λ (x : List ℕ). Some x) some

-- what a source gave stands behind the rest
pub within_buf : (tells : Type 0) (o n : Feed) (buf : List ℕ) (taken : Taken) → Takes tells o n buf taken → bytes_in taken ≤ length buf
within_buf tells o n buf (Got count) takes = takes.within
within_buf tells o n buf End takes = omega arith
within_buf tells o n buf Failed takes = omega arith

rest_same : (bytes written : List ℕ) (s e count : ℕ) → s ≤ e → e ≤ length bytes → length written ≡ count
    → take (e + 0 - s) (drop s (put_mid e (e + count - e) bytes written)) ≡ take (e - s) (drop s bytes)
rest_same bytes written s e count ordered within size =
    rest_more bytes written s e count 0 ordered within size (omega arith) ∙ append-nil (take (e - s) (drop s bytes))

pub reads_on : (tells : Type 0) (o n : Feed) (bytes buf : List ℕ) (s e count : ℕ) (taken : Taken) → s ≤ e → e ≤ length bytes → length buf ≡ count
    → Takes tells o n buf taken
    → Reads tells o.left n.left n.faults (take (e - s) (drop s bytes)) (take (e + bytes_in taken - s) (drop s (put_mid e (e + count - e) bytes buf))) taken
reads_on tells o n bytes buf s e count (Got got) ordered within size takes =
    let few : got ≤ count = omega (arith, takes.within, size) in
    λ told. ap (λ (rest : List ℕ). rest ++ n.left) (rest_more bytes buf s e count got ordered within size few)
    ∙ append_assoc (take (e - s) (drop s bytes)) (take got buf) n.left
    ∙ ap (λ (text : List ℕ). take (e - s) (drop s bytes) ++ text) (sym (takes.content told))
reads_on tells o n bytes buf s e count End ordered within size takes = (rest_same bytes buf s e count ordered within size, takes.nothing_left)
reads_on tells o n bytes buf s e count Failed ordered within size takes =
    (rest_same bytes buf s e count ordered within size, some takes.faults, takes.content)
  where
    some : (o.faults < n.faults) ⊎ (18446744073709551615 ≤ n.faults) → n.faults ≢ 0
    some (inl x) = λ none. absurd (omega (arith, x, none))
    some (inr x) = λ none. absurd (omega (arith, x, none))
