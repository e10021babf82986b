-- What a list of datagrams tells of one session: number, SSRC and packets of each of its RTP datagrams.
use Rattle.std.proofs.Common.{arith, ◌≡◌, ℕ, suc, ◌+◌, ◌%◌, Bool, true, false, List, [], ◌∷◌, ◌++◌, map, length, refl, ap, sym, ◌∙◌, if◌then◌else◌}
use Rattle.std.specs.List.{flat_map}
use Rattle.satip_plain.specs.Types.{SessionId}
use Rattle.satip_plain.specs.State.{same_id}
use Rattle.satip_plain.specs.Sending.{Sent, Rtp, Report}
use Rattle.satip_plain.specs.Packets.{packets_for}
use Rattle.satip_plain.specs.Numbering.{numbered_before, numbers_for, counted}

pub record Told : Type 0 where
  pub number : ℕ
  pub ssrc : ℕ
  pub packets : List (List ℕ)

abbrev pub told_before : SessionId → Sent → List Told → List Told
told_before s (Rtp id to number clock ssrc packets) more = if same_id id s then record { number = number; ssrc = ssrc; packets = packets } ∷ more else more
told_before s (Report id view sender) more = more

abbrev pub told : SessionId → List Sent → List Told
told s [] = []
told s (d ∷ sent) = told_before s d (told s sent)

told_before-append : (s : SessionId) (d : Sent) (xs ys : List Told) → told_before s d (xs ++ ys) ≡ told_before s d xs ++ ys
told_before-append s (Rtp id to number clock ssrc packets) xs ys = by (same_id id s)
  where
    by : (b : Bool) → (if b then record { number = number; ssrc = ssrc; packets = packets } ∷ (xs ++ ys) else (xs ++ ys))
        ≡ (if b then record { number = number; ssrc = ssrc; packets = packets } ∷ xs else xs) ++ ys
    by true = refl
    by false = refl
told_before-append s (Report id view sender) xs ys = refl

pub told-append : (s : SessionId) (a b : List Sent) → told s (a ++ b) ≡ told s a ++ told s b
told-append s [] b = refl
told-append s (d ∷ a) b = ap (told_before s d) (told-append s a b) ∙ told_before-append s d (told s a) (told s b)

-- the numbers and the packets in what is told
abbrev pub packets_in : List Told → List (List ℕ)
packets_in ts = flat_map (λ t. t.packets) ts

abbrev pub numbers_in : List Told → List ℕ
numbers_in ts = map (λ t. t.number) ts

packets_one : (s : SessionId) (d : Sent) (ts : List Told) → packets_in (told_before s d ts) ≡ packets_for s d ++ packets_in ts
packets_one s (Rtp id to number clock ssrc packets) ts = by (same_id id s)
  where
    by : (b : Bool) → packets_in (if b then record { number = number; ssrc = ssrc; packets = packets } ∷ ts else ts)
        ≡ (if b then packets else []) ++ packets_in ts
    by true = refl
    by false = refl
packets_one s (Report id view sender) ts = refl

pub packets_told : (s : SessionId) (sent : List Sent) → flat_map (packets_for s) sent ≡ packets_in (told s sent)
packets_told s [] = refl
packets_told s (d ∷ sent) = ap (λ ps. packets_for s d ++ ps) (packets_told s sent) ∙ sym (packets_one s d (told s sent))

numbers_one : (s : SessionId) (d : Sent) (ts : List Told) → numbers_in (told_before s d ts) ≡ numbered_before s d (numbers_in ts)
numbers_one s (Rtp id to number clock ssrc packets) ts = by (same_id id s)
  where
    by : (b : Bool) → numbers_in (if b then record { number = number; ssrc = ssrc; packets = packets } ∷ ts else ts)
        ≡ (if b then number ∷ numbers_in ts else numbers_in ts)
    by true = refl
    by false = refl
numbers_one s (Report id view sender) ts = refl

pub numbers_told : (s : SessionId) (sent : List Sent) → numbers_for s sent ≡ numbers_in (told s sent)
numbers_told s [] = refl
numbers_told s (d ∷ sent) = ap (numbered_before s d) (numbers_told s sent) ∙ sym (numbers_one s d (told s sent))

-- groups of packets, as what they tell: numbered one after another from one that has so many before it
abbrev pub told_of : ℕ → ℕ → ℕ → List (List (List ℕ)) → List Told
told_of first ssrc n [] = []
told_of first ssrc n (g ∷ gs) = record { number = (first + n) % 65536; ssrc = ssrc; packets = g } ∷ told_of first ssrc (n + 1) gs

pub told_of-append : (first ssrc n : ℕ) (gs hs : List (List (List ℕ)))
    → told_of first ssrc n gs ++ told_of first ssrc (n + length gs) hs ≡ told_of first ssrc n (gs ++ hs)
told_of-append first ssrc n [] hs = let a : n + 0 ≡ n = omega arith in rw a refl
told_of-append first ssrc n (g ∷ gs) hs =
    let a : n + suc (length gs) ≡ (n + 1) + length gs = omega arith in
    rw a (ap (λ ts. record { number = (first + n) % 65536; ssrc = ssrc; packets = g } ∷ ts) (told_of-append first ssrc (n + 1) gs hs))

-- all packets of the groups
abbrev pub all_of : List (List (List ℕ)) → List (List ℕ)
all_of gs = flat_map (λ g. g) gs

pub packets_in-told_of : (first ssrc n : ℕ) (gs : List (List (List ℕ))) → packets_in (told_of first ssrc n gs) ≡ all_of gs
packets_in-told_of first ssrc n [] = refl
packets_in-told_of first ssrc n (g ∷ gs) = ap (λ ps. g ++ ps) (packets_in-told_of first ssrc (n + 1) gs)

pub numbers_in-told_of : (first ssrc n : ℕ) (gs : List (List (List ℕ))) → numbers_in (told_of first ssrc n gs) ≡ counted first n (length gs)
numbers_in-told_of first ssrc n [] = refl
numbers_in-told_of first ssrc n (g ∷ gs) = ap (λ xs. (first + n) % 65536 ∷ xs) (numbers_in-told_of first ssrc (n + 1) gs)
