-- Rows and front ends have the same numbers.
use Rattle.std.proofs.Common.{◌≡◌, ◌∙◌, ℕ, ◌+◌, ◌<◌, ◌≤◌, ◌==◌, ◌||◌, nat_lt, Bool, true, false, cond, List, [], ◌∷◌, None, Some, find, position, is_some}
use Rattle.std.proofs.Common.{map, length, suc, refl, sym, ap, arith}
use Rattle.std.specs.List.{list_any, position_or_len}
use Rattle.std.specs.Option.{option_map}
use Rattle.std.proofs.lemmas.Bool.{ltb-true, le-leb, and_from, eqb-true, true≢false}
use Rattle.satip_tune.specs.declared.frontends.Front.{Front}
use Rattle.satip_tune.specs.declared.frontends.Mux.{Mux}
use Rattle.satip_tune.specs.declared.tunings.Tuning.{Tuning}
use Rattle.satip_tune.specs.Frontends.{mux_for, is_meant_of}
use Rattle.satip_fronts.specs.declared.front_table.FrontRow.{FrontRow}
use Rattle.satip_fronts.specs.Rows.{is_row}
use Rattle.satip_fronts.specs.FrontEnds.{IsNumbered, is_front, is_mux}

abbrev pub row_numbers : List FrontRow → List ℕ
row_numbers rows = map (λ (row : FrontRow). row.number) rows

abbrev pub front_numbers : List Front → List ℕ
front_numbers fronts = map (λ (front : Front). front.number) fronts

-- a front end has a row exactly where it is there
pub row_known : (number : ℕ) (rows : List FrontRow) (fronts : List Front) → row_numbers rows ≡ front_numbers fronts
    → is_some (find (is_row number) rows) ≡ list_any (is_front number) fronts
row_known number [] [] same = refl
row_known number [] (front ∷ fronts) same = cc
row_known number (row ∷ rows) [] same = cc
row_known number (row ∷ rows) (front ∷ fronts) same =
    let head : row.number ≡ front.number = cc in
    let tail : row_numbers rows ≡ front_numbers fronts = cc in
    each (row.number == number) (row_known number rows fronts tail) ∙ ap (λ n. (n == number) || list_any (is_front number) fronts) head
  where
    each : (b : Bool) → is_some (find (is_row number) rows) ≡ list_any (is_front number) fronts
        → is_some (cond b (Some row) (find (is_row number) rows)) ≡ (b || list_any (is_front number) fronts)
    each true rest = refl
    each false rest = rest

-- the number of a place in a list is one of its numbers from 1
pub is_mux-position : {X : Type 0} (p : X → Bool) (xs : List X) → is_mux (length xs) (option_map (λ place. place + 1) (position p xs)) ≡ true
is_mux-position p xs = each (nat_lt (position_or_len p xs) (length xs)) refl
  where
    each : (b : Bool) → nat_lt (position_or_len p xs) (length xs) ≡ b
        → is_mux (length xs) (option_map (λ place. place + 1) (cond b (Some (position_or_len p xs)) None)) ≡ true
    each false _ = refl
    each true below =
        let inside : position_or_len p xs < length xs = ltb-true _ _ below in
        and_from _ _ (le-leb 1 (position_or_len p xs + 1) (omega arith)) (le-leb (position_or_len p xs + 1) (length xs) (omega arith))

pub is_mux-mux_of : (muxes : List Mux) (tuning : Tuning) → is_mux (length muxes) (mux_for muxes tuning) ≡ true
is_mux-mux_of muxes tuning = is_mux-position (is_meant_of tuning) muxes

-- where a front end is there, its number is one of theirs
pub number_within : (from number : ℕ) (fronts : List Front) → IsNumbered from fronts → list_any (is_front number) fronts ≡ true
    → (from ≤ number) × (number < from + length fronts)
number_within from number [] numbered there = absurd (true≢false (sym there))
number_within from number (front ∷ fronts) numbered there =
    by (front.number == number) refl there (number_within (from + 1) number fronts numbered.1)
  where
    by : (b : Bool) → (front.number == number) ≡ b → (b || list_any (is_front number) fronts) ≡ true
        → (list_any (is_front number) fronts ≡ true → (from + 1 ≤ number) × (number < from + 1 + length fronts))
        → (from ≤ number) × (number < from + suc (length fronts))
    by true is there rest = let same = eqb-true front.number number is in (omega (arith, same, numbered.0), omega (arith, same, numbered.0))
    by false is there rest = (omega (arith, (rest there).0), omega (arith, (rest there).1))

-- a front end that has a row has a number from 1 to 16
pub row_within : (number : ℕ) (rows : List FrontRow) (fronts : List Front) → row_numbers rows ≡ front_numbers fronts → IsNumbered 1 fronts
    → length fronts ≤ 16 → is_some (find (is_row number) rows) ≡ true → (1 ≤ number) × (number ≤ 16)
row_within number rows fronts same numbered few there =
    let within = number_within 1 number fronts numbered (sym (row_known number rows fronts same) ∙ there) in
    (within.0, omega (arith, within.1))
