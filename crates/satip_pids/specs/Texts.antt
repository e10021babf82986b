-- The texts of PIDs.
use Rattle.std.specs.Prelude.{ℕ, List, [], ◌∷◌, map, decimal, codes}
use Rattle.std.specs.List.{join_with_byte}
use Rattle.satip_pids.specs.Pids.{Pids, Every, Only}

-- the PIDs with commas between them, or `none`
unfoldable pub listed_text : List ℕ → List ℕ
listed_text [] = codes "none"
listed_text (pid ∷ pids) = join_with_byte 44 (map decimal (pid ∷ pids))

-- a comma and a PID
abbrev pub next_text : ℕ → List ℕ
next_text pid = 44 ∷ decimal pid

-- the text of a set: `all`, `none` or numbers
unfoldable pub pids_text : Pids → List ℕ
pids_text Every = codes "all"
pids_text (Only pids) = listed_text pids
