-- A store over files, as contracts see it.
use Rattle.std.specs.Prelude.{ℕ, None}
use Rattle.satip_world.specs.Recordings.{StoreView}

-- the counts of its faults and of its lent sources, and the most that were lent at once
pub record StoreCounts : Type 0 where
  pub faults : ℕ
  pub lent : ℕ
  pub peak : ℕ

-- it never failed, and never lent a source
abbrev pub fresh_counts : StoreCounts
fresh_counts = record { faults = 0; lent = 0; peak = 0 }

-- the view of such a store, which exposes no recording
abbrev pub counts_view : StoreCounts → StoreView
counts_view s = record { recording = λ mux. None; faults = s.faults; lent = s.lent; peak = s.peak }
