-- The recordings that a store over memory keeps.
use Rattle.std.specs.Prelude.{ℕ, List}
use Rattle.satip_memory.specs.declared.store.Reel.{Reel}

-- the multiplex of a reel, and its recording
abbrev pub row_of : Reel → ℕ × List ℕ
row_of reel = (reel.mux, reel.text.items)
