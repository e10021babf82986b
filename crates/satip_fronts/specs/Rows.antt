-- The state of a front end, and its changes.
use Rattle.std.specs.Prelude.{◌≡◌, ℕ, ◌+◌, ◌%◌, ◌^◌, ◌<◌, ◌==◌, Bool, true, false, if◌then◌else◌, List, Option, None, Some, count_by, slice_index}
use Rattle.std.specs.List.{list_any}
use Rattle.satip_fronts.specs.declared.front_table.FrontRow.{FrontRow}

-- whether a stream with this place is at the front end of this number
abbrev pub is_at : ℕ → Option ℕ → Bool
is_at front None = false
is_at front (Some number) = number == front

-- whether the row is that of this front end
abbrev pub is_row : ℕ → FrontRow → Bool
is_row front row = row.number == front

-- the row after its front end was tuned: the next tune number, and the recording isn't ended
unfoldable pub tuned_row : Option ℕ → FrontRow → FrontRow
tuned_row mux row = record { number = row.number; mux = mux; tune = (row.tune + 1) % 2 ^ 64; ended = false }

-- the row after this front end was tuned
unfoldable pub tuned_at : ℕ → Option ℕ → FrontRow → FrontRow
tuned_at front mux row = if is_row front row then tuned_row mux row else row

-- the row of a freed front end: no multiplex, not ended, its tune number kept
unfoldable pub free_row : FrontRow → FrontRow
free_row row = record { number = row.number; mux = None; tune = row.tune; ended = false }

-- the row with these places of streams: freed if its front end serves none
unfoldable pub freed : List (Option ℕ) → FrontRow → FrontRow
freed places row = if list_any (is_at row.number) places then row else free_row row

-- the row after this front end's recording ended
unfoldable pub ended_at : ℕ → FrontRow → FrontRow
ended_at front row = if is_row front row then record row { ended = true } else row

-- the counts of the streams at each of 16 front ends: that of front end f is at f - 1
abbrev pub AreCounted : List (Option ℕ) → List ℕ → Type 0
AreCounted places counts = (k : ℕ) → k < 16 → slice_index counts k ≡ count_by (is_at (k + 1)) places

-- the counts with one more stream, at this place
abbrev pub CountedMore : Option ℕ → List ℕ → List ℕ → Type 0
CountedMore place old new = (k : ℕ) → k < 16 → slice_index new k ≡ slice_index old k + (if is_at (k + 1) place then 1 else 0)
