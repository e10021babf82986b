-- The cut of few packets.
use Rattle.std.proofs.Common.{◌≡◌, ◌<◌, ◌≤◌, Bool, true, false, List, [], ◌∷◌, ◌++◌, length, map, drop, sum, refl, sym, ap, ◌∙◌, arith}
use Rattle.std.proofs.lemmas.List.{drop-drop, drop_at}
use Rattle.std.proofs.lemmas.List.Sums.{sum_by-cons}
use Rattle.std.specs.List.{flat_map}
use Rattle.satip_rtp.specs.Cut.{cut, staying, CutLosesNothing}

module _ {X : Type 0} where
  -- fewer than seven stay
  pub cut-short : (xs : List X) → length xs ≤ 6 → cut false xs ≡ []
  cut-short [] h = refl
  cut-short (a ∷ []) h = refl
  cut-short (a ∷ b ∷ []) h = refl
  cut-short (a ∷ b ∷ c ∷ []) h = refl
  cut-short (a ∷ b ∷ c ∷ d ∷ []) h = refl
  cut-short (a ∷ b ∷ c ∷ d ∷ e ∷ []) h = refl
  cut-short (a ∷ b ∷ c ∷ d ∷ e ∷ f ∷ []) h = refl
  cut-short (a ∷ b ∷ c ∷ d ∷ e ∷ f ∷ g ∷ rest) h = absurd (omega arith)

  -- one to seven leave under a flush
  pub cut-flushed : (xs : List X) → 0 < length xs → length xs ≤ 7 → cut true xs ≡ xs ∷ []
  cut-flushed [] k h = absurd (omega arith)
  cut-flushed (a ∷ []) k h = refl
  cut-flushed (a ∷ b ∷ []) k h = refl
  cut-flushed (a ∷ b ∷ c ∷ []) k h = refl
  cut-flushed (a ∷ b ∷ c ∷ d ∷ []) k h = refl
  cut-flushed (a ∷ b ∷ c ∷ d ∷ e ∷ []) k h = refl
  cut-flushed (a ∷ b ∷ c ∷ d ∷ e ∷ f ∷ []) k h = refl
  cut-flushed (a ∷ b ∷ c ∷ d ∷ e ∷ f ∷ g ∷ []) k h = refl
  cut-flushed (a ∷ b ∷ c ∷ d ∷ e ∷ f ∷ g ∷ x ∷ rest) k h = absurd (omega arith)

  -- seven leave
  pub cut-seven : (xs : List X) → length xs ≡ 7 → cut false xs ≡ xs ∷ []
  cut-seven [] h = absurd (omega arith)
  cut-seven (a ∷ []) h = absurd (omega arith)
  cut-seven (a ∷ b ∷ []) h = absurd (omega arith)
  cut-seven (a ∷ b ∷ c ∷ []) h = absurd (omega arith)
  cut-seven (a ∷ b ∷ c ∷ d ∷ []) h = absurd (omega arith)
  cut-seven (a ∷ b ∷ c ∷ d ∷ e ∷ []) h = absurd (omega arith)
  cut-seven (a ∷ b ∷ c ∷ d ∷ e ∷ f ∷ []) h = absurd (omega arith)
  cut-seven (a ∷ b ∷ c ∷ d ∷ e ∷ f ∷ g ∷ []) h = refl
  cut-seven (a ∷ b ∷ c ∷ d ∷ e ∷ f ∷ g ∷ x ∷ rest) h = absurd (omega arith)

  -- what stays behind seven more
  staying-seven : (flush : Bool) (front rest : List X) → length front ≡ 7 → drop (sum (7 ∷ map length (cut flush rest))) (front ++ rest) ≡ staying flush rest
  staying-seven flush front rest h =
      ap (λ n. drop n (front ++ rest)) (sum_by-cons (λ n. n) 7 (map length (cut flush rest)))
      ∙ sym (drop-drop (sum (map length (cut flush rest))) 7 (front ++ rest))
      ∙ ap (λ t. drop (sum (map length (cut flush rest))) t) (drop_at front rest 7 h)

  -- the datagrams' packets and those that stay are all
  whole : (flush : Bool) (xs : List X) → flat_map (λ part. part) (cut flush xs) ++ staying flush xs ≡ xs
  whole flush [] = refl
  whole true (a ∷ []) = refl
  whole false (a ∷ []) = refl
  whole true (a ∷ b ∷ []) = refl
  whole false (a ∷ b ∷ []) = refl
  whole true (a ∷ b ∷ c ∷ []) = refl
  whole false (a ∷ b ∷ c ∷ []) = refl
  whole true (a ∷ b ∷ c ∷ d ∷ []) = refl
  whole false (a ∷ b ∷ c ∷ d ∷ []) = refl
  whole true (a ∷ b ∷ c ∷ d ∷ e ∷ []) = refl
  whole false (a ∷ b ∷ c ∷ d ∷ e ∷ []) = refl
  whole true (a ∷ b ∷ c ∷ d ∷ e ∷ f ∷ []) = refl
  whole false (a ∷ b ∷ c ∷ d ∷ e ∷ f ∷ []) = refl
  whole flush (a ∷ b ∷ c ∷ d ∷ e ∷ f ∷ g ∷ rest) =
      let front = a ∷ b ∷ c ∷ d ∷ e ∷ f ∷ g ∷ [] in
      ap (λ t. front ++ (flat_map (λ part. part) (cut flush rest) ++ t)) (staying-seven flush front rest refl)
      ∙ ap (λ t. front ++ t) (whole flush rest)

  few : (flush : Bool) (xs : List X) → length (staying flush xs) ≤ 6
  few flush [] = omega arith
  few true (a ∷ []) = omega arith
  few false (a ∷ []) = omega arith
  few true (a ∷ b ∷ []) = omega arith
  few false (a ∷ b ∷ []) = omega arith
  few true (a ∷ b ∷ c ∷ []) = omega arith
  few false (a ∷ b ∷ c ∷ []) = omega arith
  few true (a ∷ b ∷ c ∷ d ∷ []) = omega arith
  few false (a ∷ b ∷ c ∷ d ∷ []) = omega arith
  few true (a ∷ b ∷ c ∷ d ∷ e ∷ []) = omega arith
  few false (a ∷ b ∷ c ∷ d ∷ e ∷ []) = omega arith
  few true (a ∷ b ∷ c ∷ d ∷ e ∷ f ∷ []) = omega arith
  few false (a ∷ b ∷ c ∷ d ∷ e ∷ f ∷ []) = omega arith
  few flush (a ∷ b ∷ c ∷ d ∷ e ∷ f ∷ g ∷ rest) =
      omega (arith, ap length (staying-seven flush (a ∷ b ∷ c ∷ d ∷ e ∷ f ∷ g ∷ []) rest refl), few flush rest)

  none_flushed : (xs : List X) → staying true xs ≡ []
  none_flushed [] = refl
  none_flushed (a ∷ []) = refl
  none_flushed (a ∷ b ∷ []) = refl
  none_flushed (a ∷ b ∷ c ∷ []) = refl
  none_flushed (a ∷ b ∷ c ∷ d ∷ []) = refl
  none_flushed (a ∷ b ∷ c ∷ d ∷ e ∷ []) = refl
  none_flushed (a ∷ b ∷ c ∷ d ∷ e ∷ f ∷ []) = refl
  none_flushed (a ∷ b ∷ c ∷ d ∷ e ∷ f ∷ g ∷ rest) = staying-seven true (a ∷ b ∷ c ∷ d ∷ e ∷ f ∷ g ∷ []) rest refl ∙ none_flushed rest

pub cut_loses_nothing : CutLosesNothing
cut_loses_nothing flush packets = record {
  whole = whole flush packets;
  few = few flush packets;
  none_flushed = λ e. ap (λ f. staying f packets) e ∙ none_flushed packets;
}
