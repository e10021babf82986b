-- The cut of packets into datagrams.
use Rattle.std.specs.Prelude.{ℕ, ◌≡◌, ◌≤◌, Bool, true, false, List, [], ◌∷◌, ◌++◌, length, drop, map, sum}
use Rattle.std.specs.List.{flat_map}

-- the packets of each datagram: 7, and fewer only in the last one under a flush
abbrev pub cut : {X : Type 0} → Bool → List X → List (List X)
cut flush (a ∷ b ∷ c ∷ d ∷ e ∷ f ∷ g ∷ rest) = (a ∷ b ∷ c ∷ d ∷ e ∷ f ∷ g ∷ []) ∷ cut flush rest
cut flush [] = []
cut true rest = rest ∷ []
cut false rest = []

-- the packets that are in no datagram
abbrev pub staying : {X : Type 0} → Bool → List X → List X
staying flush xs = drop (sum (map length (cut flush xs))) xs

-- a cut keeps all packets in order, at most six stay, and none under a flush
pub record LosesNothing (flush : Bool) (packets : List (List ℕ)) : Type 0 where
  pub whole : flat_map (λ part. part) (cut flush packets) ++ staying flush packets ≡ packets
  pub few : length (staying flush packets) ≤ 6
  pub none_flushed : flush ≡ true → staying flush packets ≡ []

-- the same for every list of packets
abbrev pub CutLosesNothing : Type 0
CutLosesNothing = (flush : Bool) (packets : List (List ℕ)) → LosesNothing flush packets
