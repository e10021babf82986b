-- What holds of the front ends at all times goes on to hold.
use Rattle.std.proofs.Common.{◌≡◌, ◌∙◌, ℕ, ◌≤◌, ◌&&◌, ◌-◌, not, is_some, Bool, true, false, cond, List, [], ◌∷◌, Option, None, Some, map, length, replicate}
use Rattle.std.proofs.Common.{set, refl, ap, sym, length-set, zero, suc}
use Rattle.std.specs.List.{list_any, list_all}
use Rattle.std.proofs.lemmas.Bool.{and_parts, and_from, eqb-true}
use Rattle.satip_tune.specs.declared.frontends.Front.{Front}
use Rattle.satip_tune.specs.declared.frontends.Mux.{Mux}
use Rattle.satip_fronts.specs.declared.front_table.FrontRow.{FrontRow}
use Rattle.satip_fronts.specs.Rows.{is_at, is_row, freed, free_row, tuned_at, tuned_row, ended_at}
use Rattle.satip_fronts.specs.FrontEnds.{FrontEnds, Sound, IsNumbered, after_choice, all_free, blocked, choice, ended, is_mux, is_place, left, moved, new_row}
use Rattle.satip_fronts.specs.FrontEnds.{outlook, placed_at, settled, taken, tuned_rows}
use Rattle.satip_fronts.specs.Choice.{choose}
use Rattle.satip_fronts.specs.declared.choice.Place.{Place}
use Rattle.satip_tune.specs.Frontends.{mux_for}
use Rattle.satip_tune.specs.declared.tunings.Tuning.{Tuning}
use Rattle.satip_fronts.proofs.Numbers.{row_numbers, front_numbers, is_mux-mux_of}
use Rattle.satip_fronts.proofs.Choosing.{chosen_known, chosen_unless_blocked}

abbrev HasMux : ℕ → List FrontRow → Type 0
HasMux count rows = list_all (λ (row : FrontRow). is_mux count row.mux) rows ≡ true

-- front ends that serve no stream
new_numbers : (fronts : List Front) → row_numbers (map new_row fronts) ≡ front_numbers fronts
unfolding new_row
new_numbers [] = refl
new_numbers (front ∷ fronts) = ap (λ ns. front.number ∷ ns) (new_numbers fronts)

new_muxes : (count : ℕ) (fronts : List Front) → HasMux count (map new_row fronts)
unfolding new_row
new_muxes count [] = refl
new_muxes count (front ∷ fronts) = new_muxes count fronts

new_free : (fronts : List Front) → map (freed (replicate 64 None)) (map new_row fronts) ≡ map new_row fronts
unfolding new_row freed free_row
new_free [] = refl
new_free (front ∷ fronts) = ap (λ rows. new_row front ∷ rows) (new_free fronts)

pub sound_new : (fronts : List Front) (muxes : List Mux) → length fronts ≤ 16 → length muxes ≤ 256 → IsNumbered 1 fronts → Sound (all_free fronts muxes)
unfolding all_free
sound_new fronts muxes few received numbered = record {
  few = few;
  received = received;
  numbered = numbered;
  rows = new_numbers fronts;
  streams = refl;
  places = refl;
  muxes = new_muxes (length muxes) fronts;
  free = new_free fronts;
}

-- front ends with new rows and no places are all free
pub all_free-made : (fronts : List Front) (muxes : List Mux) (given : List Front) (rows : List FrontRow) (places : List (Option ℕ)) → given ≡ fronts
    → rows ≡ map new_row given → places ≡ replicate 64 None
    → ◌≡◌ {A = FrontEnds} (record { fronts = fronts; muxes = muxes; rows = rows; places = places }) (all_free fronts muxes)
unfolding all_free
all_free-made fronts muxes given rows places same new none =
    ap (λ r. record { fronts = fronts; muxes = muxes; rows = r; places = places }) (new ∙ ap (map new_row) same)
    ∙ ap (λ p. record { fronts = fronts; muxes = muxes; rows = map new_row fronts; places = p }) none

-- a row that is freed where its front end serves no stream
freed_number : (places : List (Option ℕ)) (row : FrontRow) → (freed places row).number ≡ row.number
unfolding freed free_row
freed_number places row = each (list_any (is_at row.number) places)
  where
    each : (b : Bool) → (cond b row (free_row row)).number ≡ row.number
    each true = refl
    each false = refl

freed_mux : (count : ℕ) (places : List (Option ℕ)) (row : FrontRow) → is_mux count row.mux ≡ true → is_mux count (freed places row).mux ≡ true
unfolding freed free_row
freed_mux count places row has = each (list_any (is_at row.number) places)
  where
    each : (b : Bool) → is_mux count (cond b row (free_row row)).mux ≡ true
    each true = has
    each false = refl

freed_twice : (places : List (Option ℕ)) (row : FrontRow) → freed places (freed places row) ≡ freed places row
unfolding freed free_row
freed_twice places row = each (list_any (is_at row.number) places) refl
  where
    each : (b : Bool) → list_any (is_at row.number) places ≡ b → freed places (cond b row (free_row row)) ≡ cond b row (free_row row)
    each true served = ap (λ b. cond b row (free_row row)) served
    each false unserved = ap (λ b. cond b (free_row row) (free_row (free_row row))) unserved

freed_numbers : (places : List (Option ℕ)) (rows : List FrontRow) → row_numbers (map (freed places) rows) ≡ row_numbers rows
freed_numbers places [] = refl
freed_numbers places (row ∷ rows) =
    ap (λ n. n ∷ row_numbers (map (freed places) rows)) (freed_number places row) ∙ ap (λ ns. row.number ∷ ns) (freed_numbers places rows)

freed_muxes : (count : ℕ) (places : List (Option ℕ)) (rows : List FrontRow) → HasMux count rows → HasMux count (map (freed places) rows)
freed_muxes count places [] has = refl
freed_muxes count places (row ∷ rows) has =
    let parts = and_parts _ _ has in
    and_from _ _ (freed_mux count places row parts.0) (freed_muxes count places rows parts.1)

freed_all_twice : (places : List (Option ℕ)) (rows : List FrontRow) → map (freed places) (map (freed places) rows) ≡ map (freed places) rows
freed_all_twice places [] = refl
freed_all_twice places (row ∷ rows) =
    ap (λ r. r ∷ map (freed places) (map (freed places) rows)) (freed_twice places row) ∙ ap (λ rs. freed places row ∷ rs) (freed_all_twice places rows)

-- front ends whose streams are at other places
pub sound_settled : (v : FrontEnds) (rows : List FrontRow) (places : List (Option ℕ)) → Sound v → row_numbers rows ≡ row_numbers v.rows
    → HasMux (length v.muxes) rows → length places ≡ 64 → list_all (is_place v.fronts) places ≡ true → Sound (settled (record v { rows = rows }) places)
unfolding settled
sound_settled v rows places sound numbers muxes long known = record {
  few = sound.few;
  received = sound.received;
  numbered = sound.numbered;
  rows = freed_numbers places rows ∙ numbers ∙ sound.rows;
  streams = long;
  places = known;
  muxes = freed_muxes (length v.muxes) places rows muxes;
  free = freed_all_twice places rows;
}

-- one place is written
pub all_places : (p : Option ℕ → Bool) (places : List (Option ℕ)) (at : ℕ) (place : Option ℕ) → list_all p places ≡ true → p place ≡ true
    → list_all p (set places at place) ≡ true
all_places p [] at place all one = refl
all_places p (other ∷ places) zero place all one = let parts = and_parts _ _ all in and_from _ _ one parts.1
all_places p (other ∷ places) (suc at) place all one = let parts = and_parts _ _ all in and_from _ _ parts.0 (all_places p places at place parts.1 one)

-- a front end that is tuned anew
tuned_number : (front : ℕ) (mux : Option ℕ) (row : FrontRow) → (tuned_at front mux row).number ≡ row.number
unfolding tuned_at tuned_row
tuned_number front mux row = each (is_row front row)
  where
    each : (b : Bool) → (cond b (tuned_row mux row) row).number ≡ row.number
    each true = refl
    each false = refl

tuned_mux : (count front : ℕ) (mux : Option ℕ) (row : FrontRow) → is_mux count mux ≡ true → is_mux count row.mux ≡ true
    → is_mux count (tuned_at front mux row).mux ≡ true
unfolding tuned_at tuned_row
tuned_mux count front mux row new old = each (is_row front row)
  where
    each : (b : Bool) → is_mux count (cond b (tuned_row mux row) row).mux ≡ true
    each true = new
    each false = old

pub tuned_numbers : (front : ℕ) (mux : Option ℕ) (rows : List FrontRow) → row_numbers (map (tuned_at front mux) rows) ≡ row_numbers rows
tuned_numbers front mux [] = refl
tuned_numbers front mux (row ∷ rows) =
    ap (λ n. n ∷ row_numbers (map (tuned_at front mux) rows)) (tuned_number front mux row) ∙ ap (λ ns. row.number ∷ ns) (tuned_numbers front mux rows)

pub tuned_muxes : (count front : ℕ) (mux : Option ℕ) (rows : List FrontRow) → is_mux count mux ≡ true → HasMux count rows
    → HasMux count (map (tuned_at front mux) rows)
tuned_muxes count front mux [] new has = refl
tuned_muxes count front mux (row ∷ rows) new has =
    let parts = and_parts _ _ has in
    and_from _ _ (tuned_mux count front mux row new parts.0) (tuned_muxes count front mux rows new parts.1)

-- the front ends once a stream moved
tuned_place_numbers : (place : Place) (mux : Option ℕ) (rows : List FrontRow) → row_numbers (tuned_rows place mux rows) ≡ row_numbers rows
unfolding tuned_rows
tuned_place_numbers place mux rows = each place.anew
  where
    each : (b : Bool) → row_numbers (cond b (map (tuned_at place.front mux) rows) rows) ≡ row_numbers rows
    each true = tuned_numbers place.front mux rows
    each false = refl

tuned_place_muxes : (count : ℕ) (place : Place) (mux : Option ℕ) (rows : List FrontRow) → is_mux count mux ≡ true → HasMux count rows
    → HasMux count (tuned_rows place mux rows)
unfolding tuned_rows
tuned_place_muxes count place mux rows new has = each place.anew
  where
    each : (b : Bool) → HasMux count (cond b (map (tuned_at place.front mux) rows) rows)
    each true = tuned_muxes count place.front mux rows new has
    each false = has

pub sound_moved : (v : FrontEnds) (stream : ℕ) (tuning : Tuning) (place : Place) → Sound v → choice v stream tuning ≡ Some place
    → Sound (moved v stream tuning place)
unfolding moved choice outlook
sound_moved v stream tuning place sound chosen =
    let mux = mux_for v.muxes tuning in
    let known = chosen_known (outlook v stream) mux tuning place chosen in
    sound_settled v (tuned_rows place mux v.rows) (placed_at v.places stream (Some place.front)) sound
    (tuned_place_numbers place mux v.rows)
    (tuned_place_muxes (length v.muxes) place mux v.rows (is_mux-mux_of v.muxes tuning) sound.muxes)
    (length-set v.places (stream - 1) (Some place.front) ∙ sound.streams)
    (all_places (is_place v.fronts) v.places (stream - 1) (Some place.front) sound.places known)

-- what was chosen, where the multiplexes were read from the stored fields
pub choice_is : (stored v : FrontEnds) (stream : ℕ) (tuning : Tuning) (read : List Mux) (mux : Option ℕ) (place : Option Place) → stored ≡ v
    → read ≡ stored.muxes → mux ≡ mux_for read tuning → place ≡ choose (outlook v stream) mux tuning → choice v stream tuning ≡ place
unfolding choice
choice_is stored v stream tuning read mux place same muxes wanted chosen =
    ap (λ ms. choose (outlook v stream) (mux_for ms tuning) tuning) (ap (λ (w : FrontEnds). w.muxes) (sym same) ∙ sym muxes)
    ∙ ap (λ m. choose (outlook v stream) m tuning) (sym wanted) ∙ sym chosen

-- none is chosen exactly where none is to be had
pub some_unless_blocked : (v : FrontEnds) (stream : ℕ) (tuning : Tuning) (place : Option Place) → choice v stream tuning ≡ place
    → is_some place ≡ not (blocked v stream tuning)
unfolding choice blocked
some_unless_blocked v stream tuning place chosen = ap is_some (sym chosen) ∙ chosen_unless_blocked (outlook v stream) (mux_for v.muxes tuning) tuning

-- the fields once a stream moved
pub moved_made : (v : FrontEnds) (stream : ℕ) (tuning : Tuning) (place : Place) (mux : Option ℕ) (given new out : List FrontRow) (places : List (Option ℕ)) →
    mux ≡ mux_for v.muxes tuning → given ≡ v.rows → places ≡ placed_at v.places stream (Some place.front)
    → new ≡ map (freed places) (tuned_rows place mux given) → out ≡ new →
    ◌≡◌ {A = FrontEnds} (record v { rows = out; places = places }) (moved v stream tuning place)
unfolding moved settled
moved_made v stream tuning place mux given new out places wanted same at changed written =
    let first : out ≡ map (freed places) (tuned_rows place (mux_for v.muxes tuning) v.rows) =
    written ∙ changed ∙ ap (λ m. map (freed places) (tuned_rows place m given)) wanted
    ∙ ap (λ rs. map (freed places) (tuned_rows place (mux_for v.muxes tuning) rs)) same in
    ap (λ (rs : List FrontRow). record v { rows = rs; places = places }) first
    ∙ ap (λ (ps : List (Option ℕ)). record v { rows = map (freed ps) (tuned_rows place (mux_for v.muxes tuning) v.rows); places = ps }) at

pub taken_some : (v : FrontEnds) (stream : ℕ) (tuning : Tuning) (place : Place) → choice v stream tuning ≡ Some place
    → moved v stream tuning place ≡ taken v stream tuning
unfolding taken
taken_some v stream tuning place chosen = ap (after_choice v stream tuning) (sym chosen)

pub taken_none : (v : FrontEnds) (stream : ℕ) (tuning : Tuning) → choice v stream tuning ≡ None → v ≡ taken v stream tuning
unfolding taken
taken_none v stream tuning chosen = ap (after_choice v stream tuning) (sym chosen)

-- the front ends once a stream left
pub sound_left : (v : FrontEnds) (stream : ℕ) → Sound v → Sound (left v stream)
unfolding left
sound_left v stream sound =
    sound_settled v v.rows (placed_at v.places stream None) sound refl sound.muxes
    (length-set v.places (stream - 1) None ∙ sound.streams)
    (all_places (is_place v.fronts) v.places (stream - 1) None sound.places refl)

pub left_made : (v : FrontEnds) (stream : ℕ) (given new out : List FrontRow) → given ≡ v.rows → new ≡ map (freed (placed_at v.places stream None)) given
    → out ≡ new →
    ◌≡◌ {A = FrontEnds} (record v { rows = out; places = placed_at v.places stream None }) (left v stream)
unfolding left settled
left_made v stream given new out same changed written =
    let first : out ≡ map (freed (placed_at v.places stream None)) v.rows = written ∙ changed ∙ ap (map (freed (placed_at v.places stream None))) same in
    ap (λ (rs : List FrontRow). record v { rows = rs; places = placed_at v.places stream None }) first

-- the front ends once a recording ended
ended_numbers : (front : ℕ) (rows : List FrontRow) → row_numbers (map (ended_at front) rows) ≡ row_numbers rows
unfolding ended_at
ended_numbers front [] = refl
ended_numbers front (row ∷ rows) = each (is_row front row) (ended_numbers front rows)
  where
    each : (b : Bool) → row_numbers (map (ended_at front) rows) ≡ row_numbers rows
        → ◌≡◌ {A = List ℕ} ((cond b (record row { ended = true }) row).number ∷ row_numbers (map (ended_at front) rows)) (row.number ∷ row_numbers rows)
    each true rest = ap (λ ns. row.number ∷ ns) rest
    each false rest = ap (λ ns. row.number ∷ ns) rest

ended_muxes : (count front : ℕ) (rows : List FrontRow) → HasMux count rows → HasMux count (map (ended_at front) rows)
unfolding ended_at
ended_muxes count front [] has = refl
ended_muxes count front (row ∷ rows) has =
    let parts = and_parts _ _ has in
    each (is_row front row) parts.0 (ended_muxes count front rows parts.1)
  where
    each : (b : Bool) → is_mux count row.mux ≡ true → HasMux count (map (ended_at front) rows)
        → (is_mux count (cond b (record row { ended = true }) row).mux && list_all (λ (r : FrontRow). is_mux count r.mux) (map (ended_at front) rows)) ≡ true
    each true one rest = and_from _ _ one rest
    each false one rest = and_from _ _ one rest

freed_ended : (places : List (Option ℕ)) (front : ℕ) (row : FrontRow) → list_any (is_at front) places ≡ true → freed places row ≡ row
    → freed places (ended_at front row) ≡ ended_at front row
unfolding freed ended_at
freed_ended places front row served free = each (is_row front row) refl
  where
    each : (b : Bool) → is_row front row ≡ b → freed places (cond b (record row { ended = true }) row) ≡ cond b (record row { ended = true }) row
    each true here =
        let same : row.number ≡ front = eqb-true row.number front here in
        ap (λ b. cond b (record row { ended = true }) (free_row (record row { ended = true }))) (ap (λ n. list_any (is_at n) places) same ∙ served)
    each false elsewhere = free

ended_free : (places : List (Option ℕ)) (front : ℕ) (rows : List FrontRow) → list_any (is_at front) places ≡ true → map (freed places) rows ≡ rows
    → map (freed places) (map (ended_at front) rows) ≡ map (ended_at front) rows
ended_free places front [] served free = refl
ended_free places front (row ∷ rows) served free =
    let head : freed places row ≡ row = cc in
    let tail : map (freed places) rows ≡ rows = cc in
    ap (λ r. r ∷ map (freed places) (map (ended_at front) rows)) (freed_ended places front row served head)
    ∙ ap (λ rs. ended_at front row ∷ rs) (ended_free places front rows served tail)

pub sound_ended : (v : FrontEnds) (front : ℕ) → Sound v → list_any (is_at front) v.places ≡ true → Sound (ended v front)
unfolding ended
sound_ended v front sound served = record {
  few = sound.few;
  received = sound.received;
  numbered = sound.numbered;
  rows = ended_numbers front v.rows ∙ sound.rows;
  streams = sound.streams;
  places = sound.places;
  muxes = ended_muxes (length v.muxes) front v.rows sound.muxes;
  free = ended_free v.places front v.rows served sound.free;
}

pub ended_made : (v : FrontEnds) (front : ℕ) (given new out : List FrontRow) → given ≡ v.rows → new ≡ map (ended_at front) given → out ≡ new →
    ◌≡◌ {A = FrontEnds} (record v { rows = out }) (ended v front)
unfolding ended
ended_made v front given new out same changed written =
    let first : out ≡ map (ended_at front) v.rows = written ∙ changed ∙ ap (map (ended_at front)) same in
    ap (λ (rs : List FrontRow). record v { rows = rs }) first
