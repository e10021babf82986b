-- The value of a store over memory.
use Rattle.std.specs.Prelude.{◌==◌, ℕ, Bool, true, false, List, [], ◌∷◌, Option, Some, None}
use Rattle.satip_world.specs.Recordings.{StoreView}

-- a store over memory: multiplexes with their recordings, its fault count, the count of sources that are lent, and the most that ever were
pub record Shelf : Type 0 where
  pub recordings : List (ℕ × List ℕ)
  pub faults : ℕ
  pub lent : ℕ
  pub peak : ℕ

-- no multiplex has a recording, and no source was ever lent
abbrev pub empty_shelf : Shelf
empty_shelf = record { recordings = []; faults = 0; lent = 0; peak = 0 }

-- this recording if the test holds, and else another
abbrev pub recording_if : Bool → List ℕ → Option (List ℕ) → Option (List ℕ)
recording_if true recording other = Some recording
recording_if false recording other = other

-- the recording of a multiplex: the first that it has
abbrev pub recording_in : List (ℕ × List ℕ) → ℕ → Option (List ℕ)
recording_in [] mux = None
recording_in (row ∷ rows) mux = recording_if (row.0 == mux) row.1 (recording_in rows mux)

-- the view of a store
abbrev pub store_view : Shelf → StoreView
store_view s = record { recording = recording_in s.recordings; faults = s.faults; lent = s.lent; peak = s.peak }
