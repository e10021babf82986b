-- Lemmas on the packets of a text.
use Rattle.std.proofs.Common.{ℕ, ◌≡◌, ◌+◌, ◌<◌, ◌≤◌, zero, suc, Bool, true, false, cond, leb, List, [], ◌∷◌, ◌++◌, length, take, drop, refl, sym, ap, ◌∙◌, arith, append_assoc, length-append, length-drop}
use Rattle.std.proofs.lemmas.Bool.Decides.{nat_tests}
use Rattle.std.proofs.lemmas.List.{take_at, drop_at}
use Rattle.satip_ts.specs.Recording.{from_sync, first_packets, cut_packets}
use Rattle.satip_ts.proofs.Sync.{length-from_sync, from_sync-append, from_sync-append_found}

-- a text that is too short has no packet
first_packets-short : (n : ℕ) (text : List ℕ) → length (from_sync text) < 188 → first_packets n text ≡ []
first_packets-short zero text h = refl
first_packets-short (suc n) text h =
    let test : leb 188 (length (from_sync text)) ≡ false = grind (arith, nat_tests) in
    ap (λ t. cond t (take 188 (from_sync text) ∷ first_packets n (drop 188 (from_sync text))) []) test

-- any two limits of at least the text's length give the same packets
first_packets-limit : (m n : ℕ) (text : List ℕ) → length text ≤ m → length text ≤ n → first_packets m text ≡ first_packets n text
first_packets-limit zero n text h k = sym (first_packets-short n text (omega (arith, length-from_sync text)))
first_packets-limit (suc m) zero text h k = first_packets-short (suc m) text (omega (arith, length-from_sync text))
first_packets-limit (suc m) (suc n) text h k =
    each (leb 188 (length (from_sync text))) refl (first_packets-limit m n (drop 188 (from_sync text)))
  where
    each : (t : Bool) → leb 188 (length (from_sync text)) ≡ t
        → (length (drop 188 (from_sync text)) ≤ m → length (drop 188 (from_sync text)) ≤ n
        → first_packets m (drop 188 (from_sync text)) ≡ first_packets n (drop 188 (from_sync text)))
        → cond t (take 188 (from_sync text) ∷ first_packets m (drop 188 (from_sync text))) []
        ≡ cond t (take 188 (from_sync text) ∷ first_packets n (drop 188 (from_sync text))) []
    each true e ih =
        let found : 188 ≤ length (from_sync text) = grind (arith, nat_tests) in
        let shorter : length (drop 188 (from_sync text)) + 188 ≤ length text = omega (arith, length-drop 188 (from_sync text), length-from_sync text) in
        ap (λ packets. take 188 (from_sync text) ∷ packets) (ih (omega arith) (omega arith))
    each false e ih = refl

-- texts with the same bytes from the next sync byte on have the same packets
first_packets-same : (n : ℕ) (a b : List ℕ) → from_sync a ≡ from_sync b → first_packets n a ≡ first_packets n b
first_packets-same zero a b e = refl
first_packets-same (suc n) a b e = ap (λ text. cond (leb 188 (length text)) (take 188 text ∷ first_packets n (drop 188 text)) []) e

cut_packets-same : (a b : List ℕ) → from_sync a ≡ from_sync b → cut_packets a ≡ cut_packets b
unfolding cut_packets
cut_packets-same a b e =
    first_packets-limit (length a) (length a + length b) a (omega arith) (omega arith)
    ∙ first_packets-same (length a + length b) a b e
    ∙ first_packets-limit (length a + length b) (length b) b (omega arith) (omega arith)

-- the first packet and the others
cut_packets-found : (text packet rest : List ℕ) → from_sync text ≡ packet ++ rest → length packet ≡ 188
    → cut_packets text ≡ packet ∷ cut_packets rest
unfolding cut_packets
cut_packets-found text packet rest e h =
    let whole = length-append packet rest in
    let test : leb 188 (length (packet ++ rest)) ≡ true = grind (arith, nat_tests) in
    let shorter : length rest ≤ length text = omega (arith, ap length e, length-from_sync text) in
    first_packets-limit (length text) (suc (length text)) text (omega arith) (omega arith)
    ∙ ap (λ text'. cond (leb 188 (length text')) (take 188 text' ∷ first_packets (length text) (drop 188 text')) []) e
    ∙ ap (λ t. cond t (take 188 (packet ++ rest) ∷ first_packets (length text) (drop 188 (packet ++ rest))) []) test
    ∙ ap (λ p. p ∷ first_packets (length text) (drop 188 (packet ++ rest))) (take_at packet rest 188 h)
    ∙ ap (λ r. packet ∷ first_packets (length text) r) (drop_at packet rest 188 h)
    ∙ ap (λ packets. packet ∷ packets) (first_packets-limit (length text) (length rest) rest shorter (omega arith))

-- the bytes before the next sync byte don't matter
pub cut_packets-skip : (text more : List ℕ) → cut_packets (text ++ more) ≡ cut_packets (from_sync text ++ more)
cut_packets-skip text more = sym (cut_packets-same (from_sync text ++ more) (text ++ more) (from_sync-append text more))

-- a text of fewer than 188 bytes from the next sync byte on has none
pub cut_packets-short : (text : List ℕ) → length (from_sync text) < 188 → cut_packets text ≡ []
unfolding cut_packets
cut_packets-short text h = first_packets-short (length text) text h

-- the packet that stands first, and the others, whatever comes behind
pub cut_packets-first : (text packet rest more : List ℕ) → packet ++ rest ≡ from_sync text → length packet ≡ 188
    → cut_packets (text ++ more) ≡ packet ∷ cut_packets (rest ++ more)
cut_packets-first text packet rest more e h =
    let found : 0 < length (from_sync text) = omega (arith, ap length e, length-append packet rest) in
    let front = from_sync-append_found text more found ∙ ap (λ t. t ++ more) (sym e) ∙ append_assoc packet rest more in
    cut_packets-found (text ++ more) packet (rest ++ more) front h
