-- All front ends, as contracts see them.
use Rattle.std.specs.Prelude.{◌≡◌, ℕ, ◌+◌, ◌-◌, ◌≤◌, ◌==◌, ◌&&◌, nat_le, Bool, true, false, if◌then◌else◌, List, [], ◌∷◌, Option, None, Some, length, map}
use Rattle.std.specs.Prelude.{find, slice_get, slice_set, count_by, replicate}
use Rattle.std.specs.List.{list_any, list_all}
use Rattle.std.specs.Option.{option_map, option_flatten, option_and_then}
use Rattle.satip_tune.specs.Frontends.{mux_for}
use Rattle.satip_tune.specs.declared.frontends.Front.{Front}
use Rattle.satip_tune.specs.declared.frontends.Mux.{Mux}
use Rattle.satip_tune.specs.declared.tunings.Tuning.{Tuning}
use Rattle.satip_fronts.specs.declared.choice.Place.{Place}
use Rattle.satip_fronts.specs.declared.front_table.FrontRow.{FrontRow}
use Rattle.satip_fronts.specs.declared.front_table.FrontState.{FrontState}
use Rattle.satip_fronts.specs.Rows.{is_at, is_row, tuned_at, freed, ended_at}
use Rattle.satip_fronts.specs.Choice.{Outlook, choose, blocked as blocked_at}

-- the front ends and multiplexes of the configuration, the state of each front end, and the front end of each stream: that of stream t is at t - 1
pub record FrontEnds : Type 0 where
  pub fronts : List Front
  pub muxes : List Mux
  pub rows : List FrontRow
  pub places : List (Option ℕ)

-- the front ends are numbered from this number on, in order
abbrev pub IsNumbered : ℕ → List Front → Type 0
IsNumbered from [] = Unit {0}
IsNumbered from (front ∷ fronts) = (front.number ≡ from) × IsNumbered (from + 1) fronts

-- the row of a front end that was never tuned
unfoldable pub new_row : Front → FrontRow
new_row front = record { number = front.number; mux = None; tune = 0; ended = false }

-- the front ends if none serves a stream or was tuned
unfoldable pub all_free : List Front → List Mux → FrontEnds
all_free fronts muxes = record { fronts = fronts; muxes = muxes; rows = map new_row fronts; places = replicate 64 None }

-- the front end of a stream
unfoldable pub front_of : List (Option ℕ) → ℕ → Option ℕ
front_of places stream = if stream == 0 then None else option_flatten (slice_get places (stream - 1))

-- the places after the stream's place became this one
abbrev pub placed_at : List (Option ℕ) → ℕ → Option ℕ → List (Option ℕ)
placed_at places stream place = slice_set places (stream - 1) place

-- the row of a front end
abbrev pub row_of : FrontEnds → ℕ → Option FrontRow
row_of v front = find (is_row front) v.rows

-- the multiplex of a front end, if it has one
unfoldable pub mux_at : List FrontRow → ℕ → Option ℕ
mux_at rows front = option_and_then (λ (row : FrontRow). row.mux) (find (is_row front) rows)

-- the state of a front end, with the number of its streams
unfoldable pub state_of : FrontEnds → ℕ → Option FrontState
state_of v front = option_map
    (λ (row : FrontRow). record { streams = count_by (is_at front) v.places; mux = row.mux; tune = row.tune; ended = row.ended })
    (row_of v front)

-- the data that the choice of a front end for this stream depends on
unfoldable pub outlook : FrontEnds → ℕ → Outlook
outlook v stream = record {
  fronts = v.fronts;
  mux_at = mux_at v.rows;
  own = front_of v.places stream;
  shared = λ front. list_any (is_at front) (placed_at v.places stream None);
}

-- the place of the stream with this tuning
unfoldable pub choice : FrontEnds → ℕ → Tuning → Option Place
choice v stream tuning = choose (outlook v stream) (mux_for v.muxes tuning) tuning

-- whether no front end is available for the stream with this tuning
unfoldable pub blocked : FrontEnds → ℕ → Tuning → Bool
blocked v stream tuning = blocked_at (outlook v stream) (mux_for v.muxes tuning) tuning

-- the front ends with these places; each that serves no stream is freed
unfoldable pub settled : FrontEnds → List (Option ℕ) → FrontEnds
settled v places = record v { rows = map (freed places) v.rows; places = places }

-- the rows after the place's front end was tuned, if the place says so
unfoldable pub tuned_rows : Place → Option ℕ → List FrontRow → List FrontRow
tuned_rows place mux rows = if place.anew then map (tuned_at place.front mux) rows else rows

-- the front ends after the stream moved to this place
unfoldable pub moved : FrontEnds → ℕ → Tuning → Place → FrontEnds
moved v stream tuning place =
    settled (record v { rows = tuned_rows place (mux_for v.muxes tuning) v.rows }) (placed_at v.places stream (Some place.front))

-- the front ends after the stream moved to a place, if there is one
abbrev pub after_choice : FrontEnds → ℕ → Tuning → Option Place → FrontEnds
after_choice v stream tuning None = v
after_choice v stream tuning (Some place) = moved v stream tuning place

-- the front ends after the stream took one for this tuning
unfoldable pub taken : FrontEnds → ℕ → Tuning → FrontEnds
taken v stream tuning = after_choice v stream tuning (choice v stream tuning)

-- the front ends after the stream left its own
unfoldable pub left : FrontEnds → ℕ → FrontEnds
left v stream = settled v (placed_at v.places stream None)

-- whether there is a row, and it has this tune number
abbrev pub has_tune : ℕ → Option FrontRow → Bool
has_tune tune None = false
has_tune tune (Some row) = row.tune == tune

-- whether the front end serves a stream and has this tune number, with these rows and places
abbrev pub is_current_in : List FrontRow → List (Option ℕ) → ℕ → ℕ → Bool
is_current_in rows places front tune = list_any (is_at front) places && has_tune tune (find (is_row front) rows)

-- whether the front end serves a stream and has this tune number
abbrev pub is_current : FrontEnds → ℕ → ℕ → Bool
is_current v front tune = is_current_in v.rows v.places front tune

-- the front ends after the recording of this one ended
unfoldable pub ended : FrontEnds → ℕ → FrontEnds
ended v front = record v { rows = map (ended_at front) v.rows }

-- whether the front end has this number
abbrev pub is_front : ℕ → Front → Bool
is_front number front = front.number == number

-- whether a stream with this place is at one of these front ends, or at none
abbrev pub is_place : List Front → Option ℕ → Bool
is_place fronts None = true
is_place fronts (Some number) = list_any (is_front number) fronts

-- whether a front end has no multiplex, or one of `count`, numbered from 1
abbrev pub is_mux : ℕ → Option ℕ → Bool
is_mux count None = true
is_mux count (Some number) = nat_le 1 number && nat_le number count

-- the invariant of the front ends
pub record Sound (v : FrontEnds) : Type 0 where
  pub few : length v.fronts ≤ 16
  pub received : length v.muxes ≤ 256
  pub numbered : IsNumbered 1 v.fronts
  pub rows : map (λ (row : FrontRow). row.number) v.rows ≡ map (λ (front : Front). front.number) v.fronts
  pub streams : length v.places ≡ 64
  pub places : list_all (is_place v.fronts) v.places ≡ true
  pub muxes : list_all (λ (row : FrontRow). is_mux (length v.muxes) row.mux) v.rows ≡ true
  pub free : map (freed v.places) v.rows ≡ v.rows
