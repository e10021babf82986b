-- Whoever selects a packet is found by its slot's mark and place.
use Rattle.std.proofs.Common.{ℕ, ◌≡◌, ◌≢◌, ◌+◌, ◌*◌, ◌/◌, ◌%◌, ◌<◌, ◌≤◌, zero, suc, Bool, true, false, cond, eqb, ◌&&◌, ◌||◌, List, [], ◌∷◌, length, map, set, get_or, bit_or, w64, ◌^◌, inl, inr, ◌⊎◌, Option, Some, None, refl, sym, ap, subst, ◌∙◌, arith}
use Rattle.std.proofs.lemmas.Bool.{false≢true, cases_eq, cases_lt, eq-eqb, and_parts, or_parts}
use Rattle.std.proofs.lemmas.Bool.Decides.{nat_tests}
use Rattle.std.proofs.lemmas.Grind.{get_or-set_at}
use Rattle.std.proofs.lemmas.List.{length-map, get_or-set_other, get_or_past, set-get_or}
use Rattle.std.proofs.lemmas.Nat.Bits.{bit_at-zero, bit_at_set_same, bit_at_set_other, bit_at-trailing_zeros}
use Rattle.std.specs.Int.{bit_at, trailing_zeros}
use Rattle.std.specs.List.{list_any}
use Rattle.satip_ts.specs.Packet.{pid_of}
use Rattle.satip_flow.specs.Subscription.{Subscription, has_slot, takes, selects}
use Rattle.satip_flow.specs.Subscriptions.{SlotsApart, of_slot}
use Rattle.satip_flow.specs.Bits.{IsNextBit}
use Rattle.satip_flow.specs.Standing.{IsNowhere}
use Rattle.satip_flow.specs.Rows.{bit, marks, holds_of, IsMarked, IsPlaced, NoneMarked}
use Rattle.satip_flow.proofs.Slots.{slot_is, read_same, slot_below, at_most_64, nowhere}
use Rattle.satip_flow.proofs.SlotMaps.{passing, at_slot, found_at, found_any, none_any}
use Rattle.satip_flow.proofs.Marking.{bit_true}

-- one slot is not another's
lacks_at : (slot : ℕ) (xs : List Subscription) (i : ℕ) (d : Subscription) → list_any (has_slot slot) xs ≡ false → i < length xs
    → has_slot slot (get_or xs i d) ≡ false
lacks_at slot [] i d none h = absurd (omega (arith, h))
lacks_at slot (x ∷ xs) zero d none h = (or_parts (has_slot slot x) (list_any (has_slot slot) xs) none).0
lacks_at slot (x ∷ xs) (suc i) d none h = lacks_at slot xs i d (or_parts (has_slot slot x) (list_any (has_slot slot) xs) none).1 (omega (arith, h))

eqb_other : (a b : ℕ) → eqb a b ≡ false → eqb b a ≡ false
eqb_other a b h = grind (arith, nat_tests)

place_map : (f : Subscription → Subscription) → ((s : Subscription) → (f s).place ≡ s.place) → (xs : List Subscription) (i : ℕ) (d : Subscription)
    → i < length xs → (get_or (map f xs) i d).place ≡ (get_or xs i d).place
place_map f keeps [] i d h = absurd (omega (arith, h))
place_map f keeps (x ∷ xs) zero d h = keeps x
place_map f keeps (x ∷ xs) (suc i) d h = place_map f keeps xs i d (omega (arith, h))

pub placed_map : (places : List ℕ) (f : Subscription → Subscription) → ((s : Subscription) → (f s).place ≡ s.place) → (xs : List Subscription)
    → IsPlaced places xs → IsPlaced places (map f xs)
placed_map places f keeps xs placed = λ at d within.
    let inside : at < length xs = omega (arith, within, length-map xs f) in
    ap (λ place. get_or places place.slot 0) (place_map f keeps xs at d inside) ∙ placed at d inside

-- a slot that someone has
pub present_below : (slot : ℕ) (xs : List Subscription) → SlotsApart xs → list_any (has_slot slot) xs ≡ true → slot < 64
present_below slot [] apart present = absurd (false≢true present)
present_below slot (x ∷ xs) (below, apart, rest) present = each (has_slot slot x) refl (present_below slot xs rest) present
  where
    each : (t : Bool) → has_slot slot x ≡ t → (list_any (has_slot slot) xs ≡ true → slot < 64) → (t || list_any (has_slot slot) xs) ≡ true → slot < 64
    each true e later h = grind (arith, nat_tests, below, e)
    each false e later h = later h

-- the first subscribers' places are noted
abbrev pub NotedTo : ℕ → List ℕ → List Subscription → Type 0
NotedTo n places xs = (i : ℕ) (d : Subscription) → i < n → get_or places (get_or xs i d).place.slot 0 ≡ i

slots_differ_at : (xs : List Subscription) → SlotsApart xs → (i j : ℕ) (d : Subscription) → i < j → j < length xs
    → (get_or xs i d).place.slot ≢ (get_or xs j d).place.slot
slots_differ_at [] apart i j d lt h = absurd (omega (arith, h))
slots_differ_at (x ∷ xs) apart i zero d lt h = absurd (omega (arith, lt))
slots_differ_at (x ∷ xs) (below, apart, rest) zero (suc j) d lt h =
    let lacks = lacks_at x.place.slot xs j d apart (omega (arith, h)) in
    let other : (get_or xs j d).place.slot ≡ x.place.slot → ⊥ = λ same. false≢true (sym lacks ∙ eq-eqb (get_or xs j d).place.slot x.place.slot same) in
    λ same. other (sym same)
slots_differ_at (x ∷ xs) (below, apart, rest) (suc i) (suc j) d lt h = slots_differ_at xs rest i j d (omega (arith, lt)) (omega (arith, h))

pub noted_more : (n : ℕ) (places : List ℕ) (xs : List Subscription) (e : Subscription) → length places ≡ 64 → SlotsApart xs → n < length xs
    → NotedTo n places xs → NotedTo (n + 1) (set places (get_or xs n e).place.slot n) xs
noted_more n places xs e size apart within so_far = λ i d lt.
    let slot = (get_or xs n e).place.slot in
    let inside : slot < length places = omega (arith, size, slot_below xs apart n e within) in
    elim (cases_eq i n) [
      | inl same ↦
          let place : (get_or xs i d).place.slot ≡ slot = ap (λ j. (get_or xs j d).place.slot) same ∙ ap (λ s. s.place.slot) (read_same xs n d e within) in
          get_or-set_at places slot (get_or xs i d).place.slot n 0 place inside ∙ sym same
      | inr differs ↦
          let before : i < n = omega (arith, lt, differs) in
          let apart_at = slots_differ_at xs apart i n d before within in
          let other : (get_or xs i d).place.slot ≢ slot = λ same. apart_at (same ∙ ap (λ s. s.place.slot) (read_same xs n e d within)) in
          get_or-set_other places slot (get_or xs i d).place.slot n 0 other ∙ so_far i d before
    ]

-- the first slots' places are marked
abbrev pub FoundTo : ℕ → ℕ → List ℕ → ℕ → Type 0
FoundTo n slots places found = (slot : ℕ) → slot < n → bit_at slots slot ≡ 1 → bit_at found (get_or places slot 0 % 64) ≡ 1

still_set : (found place other : ℕ) → place < 64 → bit_at found other ≡ 1 → bit_at (bit_or found (1 * 2 ^ place % 2 ^ 64)) other ≡ 1
still_set found place other below one =
    elim (cases_eq other place) [
      | inl same ↦ ap (λ i. bit_at (bit_or found (1 * 2 ^ place % 2 ^ 64)) i) same ∙ bit_at_set_same w64 found place below
      | inr differs ↦ bit_at_set_other w64 found place below other differs ∙ one
    ]

pub found_more : (n next slots : ℕ) (places : List ℕ) (found : ℕ) → IsNextBit slots (n + 1) next → FoundTo n slots places found
    → FoundTo next slots places (bit_or found (1 * 2 ^ (get_or places n 0 % 64) % 2 ^ 64))
found_more n next slots places found is so_far = λ slot lt one.
    let place = get_or places n 0 % 64 in
    let below : place < 64 = omega arith in
    elim (cases_eq slot n) [
      | inl same ↦
          ap (λ i. bit_at (bit_or found (1 * 2 ^ place % 2 ^ 64)) (get_or places i 0 % 64)) same ∙ bit_at_set_same w64 found place below
      | inr differs ↦
          elim (cases_lt slot n) [
            | inl before ↦ still_set found place (get_or places slot 0 % 64) below (so_far slot before one)
            | inr behind ↦
                let none = is.clear slot (omega (arith, behind, differs)) lt in
                absurd (omega (arith, one, none))
          ]
    ]

-- nobody has a slot that is no place's
absent_unless : (slot : ℕ) (xs : List Subscription) → ((i : ℕ) (d : Subscription) → i < length xs → (get_or xs i d).place.slot ≡ slot → ⊥)
    → list_any (has_slot slot) xs ≡ false
absent_unless slot [] none = refl
absent_unless slot (x ∷ xs) none = each (has_slot slot x) refl (absent_unless slot xs (λ i d h same. none (suc i) d (omega (arith, h)) same))
  where
    each : (t : Bool) → has_slot slot x ≡ t → list_any (has_slot slot) xs ≡ false → (t || list_any (has_slot slot) xs) ≡ false
    each true e rest = absurd (none zero x (omega arith) (slot_is slot x e))
    each false e rest = rest

pub nowhere_past : (slot : ℕ) (xs : List Subscription) → SlotsApart xs → 64 ≤ slot → IsNowhere slot xs
nowhere_past slot xs apart past =
    nowhere slot xs (absent_unless slot xs (λ i d h same. absurd (omega (arith, slot_below xs apart i d h, same, past))))

pub nowhere_behind : (slot : ℕ) (places : List ℕ) (xs : List Subscription) → IsPlaced places xs → length xs ≤ get_or places slot 0 → IsNowhere slot xs
nowhere_behind slot places xs placed behind =
    nowhere slot xs (absent_unless slot xs (λ i d h same.
    let at : get_or places slot 0 ≡ i = ap (λ n. get_or places n 0) (sym same) ∙ placed i d h in
    absurd (omega (arith, at, h, behind))))

pub nowhere_other : (slot : ℕ) (places : List ℕ) (xs : List Subscription) (one : Subscription) → IsPlaced places xs → get_or places slot 0 < length xs
    → one ≡ get_or xs (get_or places slot 0) one → one.place.slot ≢ slot → IsNowhere slot xs
nowhere_other slot places xs one placed within is other =
    nowhere slot xs (absent_unless slot xs (λ i d h same.
    let at : get_or places slot 0 ≡ i = ap (λ n. get_or places n 0) (sym same) ∙ placed i d h in
    let one_is : one ≡ get_or xs i d = is ∙ ap (λ j. get_or xs j one) at ∙ read_same xs i one d h in
    absurd (other (ap (λ s. s.place.slot) one_is ∙ same))))

-- and whose place isn't marked by a slot isn't found
abbrev pub OnlyFound : ℕ → List ℕ → ℕ → Type 0
OnlyFound slots places found = (place : ℕ) → place < 64
    → ((slot : ℕ) → slot < 64 → bit_at slots slot ≡ 1 → get_or places slot 0 % 64 ≢ place) → bit_at found place ≡ 0

pub only_more : (n slots : ℕ) (places : List ℕ) (found : ℕ) → n < 64 → bit_at slots n ≡ 1 → OnlyFound slots places found
    → OnlyFound slots places (bit_or found (1 * 2 ^ (get_or places n 0 % 64) % 2 ^ 64))
only_more n slots places found below one so_far = λ place low none.
    let own = get_or places n 0 % 64 in
    let differs : place ≢ own = λ same. none n below one (sym same) in
    bit_at_set_other w64 found own (omega arith) place differs ∙ so_far place low none

-- so a subscriber is found exactly if it selects a packet
pub is_found : (rows places : List ℕ) (xs : List Subscription) (front : ℕ) (packet : List ℕ) (slots found known : ℕ) → SlotsApart xs
    → IsMarked rows known xs → IsPlaced places xs → pid_of packet < 8192 → slots ≡ marks rows front (pid_of packet)
    → ((slot : ℕ) → slot < 64 → bit_at slots slot ≡ 1 → bit_at found (get_or places slot 0 % 64) ≡ 1)
    → ((place : ℕ) → place < 64 → ((slot : ℕ) → slot < 64 → bit_at slots slot ≡ 1 → get_or places slot 0 % 64 ≢ place) → bit_at found place ≡ 0)
    → (at : ℕ) → at < length xs → (d : Subscription) → bit_at found at ≡ bit (selects front packet (get_or xs at d))
is_found rows places xs front packet slots found known apart marked placed pid is are only at within d =
    each (selects front packet (get_or xs at d)) refl
  where
    few : at < 64
    few = omega (arith, at_most_64 xs apart, within)

    of_bit : (slot : ℕ) → slot < 64 → bit_at slots slot ≡ bit (holds_of (takes front (pid_of packet)) (of_slot slot xs))
    of_bit slot below = ap (λ w. bit_at w slot) is ∙ marked.exact front (pid_of packet) slot pid below

    each : (t : Bool) → selects front packet (get_or xs at d) ≡ t → bit_at found at ≡ bit t
    each true e =
        let slot = (get_or xs at d).place.slot in
        let below = slot_below xs apart at d within in
        let one : bit_at slots slot ≡ 1 =
        of_bit slot below ∙ ap (λ o. bit (holds_of (takes front (pid_of packet)) o)) (at_slot xs at d apart within) ∙ ap bit e in
        let small : at % 64 ≡ at = omega (arith, few) in
        subst (λ n. bit_at found n ≡ 1) (ap (λ n. n % 64) (placed at d within) ∙ small) (are slot below one)
    each false e = only at few (λ slot below one same.
        let who = passing (takes front (pid_of packet)) (of_slot slot xs) (bit_true (holds_of (takes front (pid_of packet)) (of_slot slot xs))
        (sym (of_bit slot below) ∙ one)) in
        let place = found_at slot xs who.one who.is in
        let here : (get_or xs place.at d).place.slot ≡ slot = ap (λ s. s.place.slot) (place.is d) ∙ place.has in
        let noted : get_or places slot 0 ≡ place.at = ap (λ n. get_or places n 0) (sym here) ∙ placed place.at d place.within in
        let together : place.at ≡ at = omega (arith, noted, same, at_most_64 xs apart, place.within) in
        let selected : selects front packet (get_or xs at d) ≡ true =
        ap (λ n. selects front packet (get_or xs n d)) (sym together) ∙ ap (λ s. selects front packet s) (place.is d) ∙ who.passes in
        false≢true (sym e ∙ selected))

-- where no slot is marked, no subscriber takes packets
marks_none : (rows : List ℕ) (front pid slot : ℕ) → slot < 64 → NoneMarked rows → bit_at (marks rows front pid) slot ≡ 0
marks_none rows zero pid slot below none = bit_at-zero slot
marks_none rows (suc front) pid slot below none = each (cases_lt (8192 * front + pid) (length rows))
  where
    each : (8192 * front + pid < length rows) ⊎ (length rows ≤ 8192 * front + pid) → bit_at (get_or rows (8192 * front + pid) 0) slot ≡ 0
    each (inl within) = none (8192 * front + pid) slot within below
    each (inr past) = ap (λ w. bit_at w slot) (get_or_past rows (8192 * front + pid) 0 past) ∙ bit_at-zero slot

pub none_takes : (rows : List ℕ) (known : ℕ) (xs : List Subscription) → SlotsApart xs → NoneMarked rows → IsMarked rows known xs → (front pid : ℕ)
    → pid < 8192 → list_any (takes front pid) xs ≡ false
none_takes rows known xs apart none marked front pid low = none_any (takes front pid) xs (λ i d within.
    let s = get_or xs i d in
    let below = slot_below xs apart i d within in
    let shown = marked.exact front pid s.place.slot low below
    ∙ ap (λ o. bit (holds_of (takes front pid) o)) (at_slot xs i d apart within) in
    each (takes front pid s) (sym shown ∙ marks_none rows front pid s.place.slot below none))
  where
    each : (t : Bool) → bit t ≡ 0 → t ≡ false
    each true h = absurd (omega (arith, h))
    each false h = refl

-- and where none takes packets, no slot is marked
pub none_marked : (rows : List ℕ) (known : ℕ) (xs : List Subscription) → length rows ≡ 131072 → IsMarked rows known xs
    → ((front pid : ℕ) → pid < 8192 → list_any (takes front pid) xs ≡ false) → NoneMarked rows
none_marked rows known xs count marked none = λ at slot within below.
    let front = at / 8192 in
    let pid = at % 8192 in
    let low : pid < 8192 = omega arith in
    let place : 8192 * front + pid ≡ at = omega arith in
    ap (λ n. bit_at (get_or rows n 0) slot) (sym place) ∙ marked.exact (suc front) pid slot low below
    ∙ each (suc front) pid slot low (of_slot slot xs) refl
  where
    each : (front pid slot : ℕ) → pid < 8192 → (o : Option Subscription) → of_slot slot xs ≡ o → bit (holds_of (takes front pid) o) ≡ 0
    each front pid slot low None is = refl
    each front pid slot low (Some s) is = test (takes front pid s) refl
      where
        test : (t : Bool) → takes front pid s ≡ t → bit t ≡ 0
        test true e = absurd (false≢true (sym (none front pid low) ∙ found_any slot xs s (takes front pid) is e))
        test false e = refl

-- at first nobody is marked
pub marked_nobody : (rows : List ℕ) (known : ℕ) → NoneMarked rows → IsMarked rows known []
marked_nobody rows known none = record {
  fronts = λ slot s e. absurd (cc);
  exact = λ front pid slot low below. marks_none rows front pid slot below none;
  alike = λ j k s t j_below k_below e. absurd (cc);
}

-- a word without a bit is 0
pub word_none : (word : ℕ) → word < 2 ^ 64 → ((slot : ℕ) → slot < 64 → bit_at word slot ≡ 0) → word ≡ 0
word_none word fits none = each (cases_eq word 0)
  where
    each : (word ≡ 0) ⊎ (word ≡ 0 → ⊥) → word ≡ 0
    each (inl is) = is
    each (inr some) =
        let found = bit_at-trailing_zeros w64 word (omega (arith, some)) fits in
        let zeros = none (trailing_zeros w64 word) found.0 in
        absurd (omega (arith, zeros, found.1))
