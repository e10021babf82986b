-- What a taken datagram does to the places.
use Rattle.std.proofs.Common.{◌≡◌, ◌≢◌, ◌⊎◌, inl, inr, ℕ, ◌+◌, ◌-◌, ◌%◌, ◌<◌, ◌≤◌, ◌==◌, ◌||◌, nat_lt, nat_le, max, zero, suc, Bool, true, false, List, [], ◌∷◌, ◌++◌, length, set, get_or, replicate, Option, None, Some, is_some, refl, sym, ap, ◌∙◌, arith, if◌then◌else◌, length-append, get_or-set_same, get_or-set_other}
use Rattle.std.proofs.lemmas.Bool.{cases_lt}
use Rattle.std.proofs.lemmas.Bool.Decides.{nat_tests, eqb_tells}
use Rattle.std.proofs.lemmas.List.{ext_get_or, get_or_past, length-set, length-replicate, get_or_append_left, get_or-append_right}
use Rattle.satip_rtp_receiver.specs.Caught.{Placed, index_ahead, index_of, greater, greatest, is_index, has_arrived, passed, packets_of}
use Rattle.satip_rtp_receiver.specs.Catching.{ahead, put}
use Rattle.satip_rtp_receiver.proofs.IndexLemmas.{index-near, index-back, index-none, place-near, place-back, place-before, place-behind}
use Rattle.satip_rtp_receiver.proofs.SlotLemmas.{slots_from, length-slots, get_or-slots, has_arrived-more, packets_of-more, missing-above, IsSound}

-- the index is from p on
pub record LiesAt (m p : ℕ) (index : Option ℕ) (place j : ℕ) : Type 0 where
  pub lies : index ≡ Some j
  pub from : p ≤ j
  pub ahead : place ≡ j - p
  pub near : j < m + 32768

-- the index is below p
pub record LiesBelow (m p : ℕ) (index : Option ℕ) (place : ℕ) : Type 0 where
  pub apart : (i : ℕ) → p ≤ i → is_index i index ≡ false
  pub greatest : greater m index ≡ m
  pub passed : m + 1 - p + 32767 ≤ place

apart-from : (i j : ℕ) → j < i → (i == j) ≡ false
apart-from i j h = grind (arith, nat_tests)

below-some : (m p place j : ℕ) (index : Option ℕ) → index ≡ Some j → j < p → j ≤ m → m + 1 - p + 32767 ≤ place → LiesBelow m p index place
below-some m p place j index e a b h = record {
  apart = λ i l. ap (λ (x : Option ℕ). is_index i x) e ∙ apart-from i j (omega arith);
  greatest = ap (λ (x : Option ℕ). greater m x) e ∙ omega arith;
  passed = h;
}

below-none : (m p place : ℕ) (index : Option ℕ) → index ≡ None → m + 1 - p + 32767 ≤ place → LiesBelow m p index place
below-none m p place index e h = record {
  apart = λ i l. ap (λ (x : Option ℕ). is_index i x) e;
  greatest = ap (λ (x : Option ℕ). greater m x) e;
  passed = h;
}

pub lies : (first m p number : ℕ) → number < 65536 → p ≤ m + 1 → m + 1 ≤ p + 64
    → LiesBelow m p (index_of first m number) (ahead number ((first + p) % 65536))
    ⊎ ((j : ℕ) × LiesAt m p (index_of first m number) (ahead number ((first + p) % 65536)) j)
unfolding index_of
lies first m p number h a b =
    let far = ahead number ((first + m) % 65536) in
    let place = ahead number ((first + p) % 65536) in
    let least : far < 65536 = omega arith in
    elim (cases_lt far 32768) [
      | inl near ↦ elim (cases_lt (m + far) p) [
        | inl before ↦ inl (below-some m p place (m + far) (index_ahead m far) (index-near m far near) before (omega arith)
            (place-before first m p number far h a b refl near before))
        | inr from ↦ inr (
          m + far,
          record {
            lies = index-near m far near;
            from = from;
            ahead = place-near first m p number far h a b refl near from;
            near = omega arith;
          },
        )
      ]
      | inr back ↦ elim (cases_lt (m + far) 65536) [
        | inl none ↦ inl (below-none m p place (index_ahead m far) (index-none m far back none)
            (place-behind first m p number far h a b refl back (omega arith)))
        | inr some ↦ elim (cases_lt (m + far) (p + 65536)) [
          | inl before ↦ inl (below-some m p place (m + far - 65536) (index_ahead m far) (index-back m far back some least)
              (omega arith) (omega arith) (place-behind first m p number far h a b refl back before))
          | inr from ↦ inr (
            m + far - 65536,
            record {
              lies = index-back m far back some least;
              from = omega arith;
              ahead = place-back first m p number far h a b refl from;
              near = omega arith;
            },
          )
        ]
      ]
    ]

-- what `put` puts
put-within : (at : ℕ) (packets : List ℕ) (held : List (Option (List ℕ))) → at < length held → put at packets held ≡ set held at (Some packets)
put-within at packets held h =
    let e : nat_lt at (length held) ≡ true = grind (arith, nat_tests) in
    ap (λ b. if b then set held at (Some packets) else held ++ (replicate (at - length held) None ++ Some packets ∷ [])) e

put-behind : (at : ℕ) (packets : List ℕ) (held : List (Option (List ℕ))) → length held ≤ at
    → put at packets held ≡ held ++ (replicate (at - length held) None ++ Some packets ∷ [])
put-behind at packets held h =
    let e : nat_lt at (length held) ≡ false = grind (arith, nat_tests) in
    ap (λ b. if b then set held at (Some packets) else held ++ (replicate (at - length held) None ++ Some packets ∷ [])) e

last-here : (n : ℕ) (packets : List ℕ) → get_or (replicate n None ++ Some packets ∷ []) n None ≡ Some packets
last-here zero packets = refl
last-here (suc n) packets = last-here n packets

last-other : (n k : ℕ) (packets : List ℕ) → k ≢ n → get_or (replicate n None ++ Some packets ∷ []) k None ≡ None
last-other zero zero packets h = absurd (h refl)
last-other zero (suc k) packets h = refl
last-other (suc n) zero packets h = refl
last-other (suc n) (suc k) packets h = last-other n k packets (λ e. h (ap (λ i. suc i) e))

length-put : (at : ℕ) (packets : List ℕ) (held : List (Option (List ℕ))) → length (put at packets held) ≡ max (length held) (at + 1)
length-put at packets held =
    elim (cases_lt at (length held)) [
      | inl h ↦ ap length (put-within at packets held h) ∙ length-set held at (Some packets) ∙ omega arith
      | inr h ↦
          let r : List (Option (List ℕ)) = replicate (at - length held) None in
          omega (
            arith,
            ap length (put-behind at packets held h),
            length-append held (r ++ Some packets ∷ []),
            length-append r (Some packets ∷ []),
            length-replicate {A = Option (List ℕ)} (at - length held) None,
          )
    ]

put-here : (at : ℕ) (packets : List ℕ) (held : List (Option (List ℕ))) → get_or (put at packets held) at None ≡ Some packets
put-here at packets held =
    elim (cases_lt at (length held)) [
      | inl h ↦ ap (λ xs. get_or xs at None) (put-within at packets held h) ∙ get_or-set_same held at (Some packets) None h
      | inr h ↦
          let r : List (Option (List ℕ)) = replicate (at - length held) None in
          ap (λ xs. get_or xs at None) (put-behind at packets held h)
          ∙ get_or-append_right held (r ++ Some packets ∷ []) (length held) at None refl h
          ∙ last-here (at - length held) packets
    ]

put-other : (at k : ℕ) (packets : List ℕ) (held : List (Option (List ℕ))) → k ≢ at → get_or (put at packets held) k None ≡ get_or held k None
put-other at k packets held ne =
    elim (cases_lt at (length held)) [
      | inl h ↦ ap (λ xs. get_or xs k None) (put-within at packets held h) ∙ get_or-set_other held at k (Some packets) None ne
      | inr h ↦
          let r : List (Option (List ℕ)) = replicate (at - length held) None in
          ap (λ xs. get_or xs k None) (put-behind at packets held h)
          ∙ elim (cases_lt k (length held)) [
            | inl g ↦ get_or_append_left held (r ++ Some packets ∷ []) None k g
            | inr g ↦ get_or-append_right held (r ++ Some packets ∷ []) (length held) k None refl g
                ∙ last-other (at - length held) (k - length held) packets (λ e. ne (omega (arith, e)))
                ∙ sym (get_or_past held k None g)
          ]
    ]

-- the places with one more arrival
pub slot-formula : (i : ℕ) (ps : List Placed) (q : Placed) → passed ps ≤ i
    → packets_of [] (ps ++ q ∷ []) i
    ≡ (if has_arrived i ps then packets_of [] ps i else (if is_index i q.index then Some q.packets else None))
slot-formula i ps q h =
    let late : nat_le (passed ps) i ≡ true = grind (arith, nat_tests) in
    packets_of-more i ps q
    ∙ ap (λ b. if has_arrived i ps then packets_of [] ps i else (if is_index i q.index then (if b then Some q.packets else None) else None)) late

sound-step : (b a : Bool) (slot : Option (List ℕ)) (packets : List ℕ) → b ≡ is_some slot
    → (b || a) ≡ is_some (if b then slot else (if a then Some packets else None))
sound-step true a slot packets e = e
sound-step false true slot packets e = refl
sound-step false false slot packets e = refl

pub sound-more : (ps : List Placed) (q : Placed) → IsSound (passed ps) ps → IsSound (passed ps) (ps ++ q ∷ [])
sound-more ps q s i h =
    has_arrived-more i ps q ∙ sound-step (has_arrived i ps) (is_index i q.index) (packets_of [] ps i) q.packets (s i h)
    ∙ ap (λ (slot : Option (List ℕ)). is_some slot) (sym (slot-formula i ps q h))

kept-step : (b a : Bool) (slot : Option (List ℕ)) (packets : List ℕ) → b ≡ is_some slot → a ≡ false
    → (if b then slot else (if a then Some packets else None)) ≡ slot
kept-step true a slot packets e f = refl
kept-step false a None packets e f = ap (λ c. if c then Some packets else None) f
kept-step false a (Some old) packets e f = absurd (grind (arith, nat_tests))

pub slot-kept : (i : ℕ) (ps : List Placed) (q : Placed) → IsSound (passed ps) ps → passed ps ≤ i → is_index i q.index ≡ false
    → packets_of [] (ps ++ q ∷ []) i ≡ packets_of [] ps i
slot-kept i ps q s h e = slot-formula i ps q h ∙ kept-step (has_arrived i ps) (is_index i q.index) (packets_of [] ps i) q.packets (s i h) e

pub slot-arrived : (i : ℕ) (ps : List Placed) (q : Placed) → passed ps ≤ i → has_arrived i ps ≡ true
    → packets_of [] (ps ++ q ∷ []) i ≡ packets_of [] ps i
slot-arrived i ps q h e =
    slot-formula i ps q h
    ∙ ap (λ b. if b then packets_of [] ps i else (if is_index i q.index then Some q.packets else None)) e

pub same-slots : (n i : ℕ) (ps rs : List Placed) → ((k : ℕ) → i ≤ k → packets_of [] rs k ≡ packets_of [] ps k) → slots_from rs i n ≡ slots_from ps i n
same-slots zero i ps rs h = refl
same-slots (suc n) i ps rs h =
    ap (λ slot. slot ∷ slots_from rs (i + 1) n) (h i (omega arith))
    ∙ ap (λ t. packets_of [] ps i ∷ t) (same-slots n (i + 1) ps rs (λ k g. h k (omega arith)))

-- a place is missing exactly where its index hasn't arrived
none_unless : (slot : Option (List ℕ)) → false ≡ is_some slot → slot ≡ None
none_unless None e = refl
none_unless (Some packets) e = absurd (grind (arith, nat_tests))

pub slot-missing : (i from : ℕ) (ps : List Placed) → IsSound from ps → from ≤ i → has_arrived i ps ≡ false → packets_of [] ps i ≡ None
slot-missing i from ps s h e = none_unless (packets_of [] ps i) (sym e ∙ s i h)

slot-here : (j : ℕ) (ps : List Placed) (q : Placed) → passed ps ≤ j → has_arrived j ps ≡ false → q.index ≡ Some j
    → packets_of [] (ps ++ q ∷ []) j ≡ Some q.packets
slot-here j ps q h e f =
    let here : (j == j) ≡ true = grind (arith, nat_tests) in
    slot-formula j ps q h
    ∙ ap (λ b. if b then packets_of [] ps j else (if is_index j q.index then Some q.packets else None)) e
    ∙ ap (λ (x : Option ℕ). if is_index j x then Some q.packets else None) f
    ∙ ap (λ b. if b then Some q.packets else None) here

pub apart-other : (i j : ℕ) (index : Option ℕ) → index ≡ Some j → i ≢ j → is_index i index ≡ false
apart-other i j index e h =
    let other : (i == j) ≡ false = grind (arith, nat_tests) in
    ap (λ (x : Option ℕ). is_index i x) e ∙ other

pub old-slot : (ps : List Placed) (k : ℕ) → IsSound (passed ps) ps → passed ps ≤ greatest ps + 1
    → get_or (slots_from ps (passed ps) (greatest ps + 1 - passed ps)) k None ≡ packets_of [] ps (passed ps + k)
old-slot ps k s within =
    let p = passed ps in
    let n = greatest ps + 1 - p in
    elim (cases_lt k n) [
      | inl h ↦ get_or-slots ps p n k h
      | inr h ↦ get_or_past (slots_from ps p n) k None (omega (arith, length-slots ps p n))
          ∙ sym (slot-missing (p + k) p ps s (omega arith) (missing-above (p + k) ps (omega arith)))
    ]

put-slot : (j : ℕ) (ps : List Placed) (q : Placed) → IsSound (passed ps) ps → passed ps ≤ greatest ps + 1 → passed ps ≤ j
    → has_arrived j ps ≡ false → q.index ≡ Some j → (k : ℕ) → k < max (greatest ps) j + 1 - passed ps
    → get_or (put (j - passed ps) q.packets (slots_from ps (passed ps) (greatest ps + 1 - passed ps))) k None
    ≡ get_or (slots_from (ps ++ q ∷ []) (passed ps) (max (greatest ps) j + 1 - passed ps)) k None
put-slot j ps q s within from missing e k h =
    let p = passed ps in
    let old = slots_from ps p (greatest ps + 1 - p) in
    let new = get_or-slots (ps ++ q ∷ []) p (max (greatest ps) j + 1 - p) k h in
    let same : p + (j - p) ≡ j = omega arith in
    elim (eqb_tells k (j - p)) [
      | inl here ↦ ap (λ i. get_or (put (j - p) q.packets old) i None) here.1 ∙ put-here (j - p) q.packets old
          ∙ sym (slot-here j ps q from missing e) ∙ ap (λ i. packets_of [] (ps ++ q ∷ []) i) (sym same ∙ ap (λ i. p + i) (sym here.1)) ∙ sym new
      | inr other ↦ put-other (j - p) k q.packets old other.1 ∙ old-slot ps k s within
          ∙ sym (slot-kept (p + k) ps q s (omega arith) (apart-other (p + k) j q.index e (λ is. other.1 (omega (arith, is))))) ∙ sym new
    ]

-- a new arrival is put at its place
pub put-slots : (j : ℕ) (ps : List Placed) (q : Placed) → IsSound (passed ps) ps → passed ps ≤ greatest ps + 1 → passed ps ≤ j
    → has_arrived j ps ≡ false → q.index ≡ Some j
    → put (j - passed ps) q.packets (slots_from ps (passed ps) (greatest ps + 1 - passed ps))
    ≡ slots_from (ps ++ q ∷ []) (passed ps) (max (greatest ps) j + 1 - passed ps)
put-slots j ps q s within from missing e =
    let p = passed ps in
    let n = greatest ps + 1 - p in
    let m = max (greatest ps) j + 1 - p in
    let old = slots_from ps p n in
    let new = slots_from (ps ++ q ∷ []) p m in
    let count : length (put (j - p) q.packets old) ≡ m = omega (arith, length-put (j - p) q.packets old, length-slots ps p n) in
    ext_get_or None (put (j - p) q.packets old) new (count ∙ sym (length-slots (ps ++ q ∷ []) p m))
    (λ k l. put-slot j ps q s within from missing e k (omega (arith, l, count)))
