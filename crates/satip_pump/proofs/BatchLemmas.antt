-- Datagrams that are appended one after another, and the room for them.
use Rattle.std.proofs.Common.{◌≡◌, ℕ, ◌+◌, ◌<◌, ◌≤◌, List, [], ◌∷◌, ◌++◌, length, take, length-append, append_assoc, append-nil, arith, refl, suc, zero, sym, ◌∙◌, ap, subst, Option, Some, None, IsSomeAnd, slice_get, true, nat_le}
use Rattle.std.proofs.lemmas.Bool.Decides.{nat_tests}
use Rattle.std.proofs.lemmas.List.{take_more}
use Rattle.std.proofs.lemmas.List.Sums.{sum_by-append, sum_by-cons}
use Rattle.std.proofs.lemmas.Option.{slice_get_within, get_or_from_slice_get}
use Rattle.std.proofs.lemmas.Bool.{and_parts}
use Rattle.satip_base.specs.Output.{Datagram, datagram_bytes}
use Rattle.satip_base.specs.Bundles.{Bundle, Bundled}
use Rattle.satip_pump.specs.Bundles.{has_room}

-- how much room there is
pub record HasRoom (b : Bundle) : Type 0 where
  pub bytes : 262144 ≤ b.byte_spare
  pub count : 256 ≤ b.count_spare

pub room_of : (b : Bundle) → has_room b ≡ true → HasRoom b
room_of b is =
    let both = and_parts (nat_le 262144 b.byte_spare) (nat_le 256 b.count_spare) is in
    let bytes = both.0 in
    let count = both.1 in
    record { bytes = grind (arith, nat_tests); count = grind (arith, nat_tests) }

-- nothing was appended
pub bundled_none : (b : Bundle) → Bundled b [] b
bundled_none b = record {
  datagrams_are = sym (append-nil b.datagrams);
  byte_room = refl;
  count_room = refl;
  byte_spare = omega arith;
  count_spare = omega arith;
}

pub bundled_then : (a b c : Bundle) (ds es : List Datagram) → Bundled a ds b → Bundled b es c → Bundled a (ds ++ es) c
bundled_then a b c ds es first second =
    let size : datagram_bytes (ds ++ es) ≡ datagram_bytes ds + datagram_bytes es = sum_by-append (λ (d : Datagram). length d.bytes) ds es in
    let count : length (ds ++ es) ≡ length ds + length es = length-append ds es in
    record {
      datagrams_are = second.datagrams_are ∙ ap (λ (front : List Datagram). front ++ es) first.datagrams_are ∙ append_assoc a.datagrams ds es;
      byte_room = second.byte_room ∙ first.byte_room;
      count_room = second.count_room ∙ first.count_room;
      byte_spare = omega (arith, size, first.byte_spare, second.byte_spare);
      count_spare = omega (arith, count, first.count_spare, second.count_spare);
    }

-- one datagram more of a list
pub bundled_more : (a b c : Bundle) (all : List Datagram) (place : ℕ) → Bundled a (take place all) b
    → IsSomeAnd (slice_get all place) (λ d. Bundled b (d ∷ []) c) → Bundled a (take (place + 1) all) c
bundled_more a b c all place before next = one_more (slice_get all place) refl next
  where
    one_more : (found : Option Datagram) → slice_get all place ≡ found → IsSomeAnd found (λ d. Bundled b (d ∷ []) c)
        → Bundled a (take (place + 1) all) c
    one_more None is next = absurd next
    one_more (Some d) is next =
        let shown : take (place + 1) all ≡ take place all ++ d ∷ [] =
        take_more all place d (slice_get_within all place d is)
        ∙ ap (λ (x : Datagram). take place all ++ x ∷ []) (get_or_from_slice_get all place d d is) in
        let P : List Datagram → Type 0 = λ ds. Bundled a ds c in
        subst P (sym shown) (bundled_then a b c (take place all) (d ∷ []) before next)

none_within : (all : List Datagram) (place : ℕ) → place < length all → slice_get all place ≡ None → ⊥
none_within [] place inside is = omega arith
none_within (d ∷ ds) zero inside is = cc is
none_within (d ∷ ds) (suc k) inside is = none_within ds k (omega arith) is

-- the first of some datagrams have no more bytes than all
front_bytes : (k : ℕ) (ds : List Datagram) → datagram_bytes (take k ds) ≤ datagram_bytes ds
front_bytes zero ds = omega arith
front_bytes (suc k) [] = omega arith
front_bytes (suc k) (d ∷ ds) =
    let rest = front_bytes k ds in
    let some = sum_by-cons (λ (x : Datagram). length x.bytes) d (take k ds) in
    let all = sum_by-cons (λ (x : Datagram). length x.bytes) d ds in
    omega (arith, rest, some, all)

-- where all fit behind none, the next fits behind those before it
pub next_fits : (a b : Bundle) (all : List Datagram) (place : ℕ) → place < length all → Bundled a (take place all) b
    → datagram_bytes all ≤ a.byte_spare → IsSomeAnd (slice_get all place) (λ d. length d.bytes ≤ b.byte_spare)
next_fits a b all place inside before fits = found_fits (slice_get all place) refl
  where
    found_fits : (found : Option Datagram) → slice_get all place ≡ found → IsSomeAnd found (λ d. length d.bytes ≤ b.byte_spare)
    found_fits None is = absurd (none_within all place inside is)
    found_fits (Some d) is =
        let shown : take (place + 1) all ≡ take place all ++ d ∷ [] =
        take_more all place d (slice_get_within all place d is)
        ∙ ap (λ (x : Datagram). take place all ++ x ∷ []) (get_or_from_slice_get all place d d is) in
        let size : datagram_bytes (take (place + 1) all) ≡ datagram_bytes (take place all) + datagram_bytes (d ∷ []) =
        ap datagram_bytes shown ∙ sum_by-append (λ (x : Datagram). length x.bytes) (take place all) (d ∷ []) in
        let one : datagram_bytes (d ∷ []) ≡ length d.bytes + 0 = sum_by-cons (λ (x : Datagram). length x.bytes) d [] in
        omega (arith, front_bytes (place + 1) all, size, one, before.byte_spare, fits)
