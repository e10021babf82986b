-- The lines of one caller's entries.
use Rattle.std.specs.Prelude.{◌==◌, ℕ, ◌+◌, List, [], ◌∷◌, flat_map}
use Rattle.satip_base.specs.History.{kept_if}
use Rattle.satip_plain.specs.Histories.{Item}
use Rattle.satip_entry_writer.specs.Lines.{entry_line}

-- an entry, and the count of entries before it in its history
pub record Placed : Type 0 where
  pub place : ℕ
  pub entry : Item

-- an entry at a place
abbrev pub placed : ℕ → Item → Placed
placed place entry = record { place = place; entry = entry }

-- the entries of caller n, in order, if the first of all entries has this place
abbrev pub own_at : ℕ → ℕ → List Item → List Placed
own_at place n [] = []
own_at place n (e ∷ es) = kept_if (e.caller == n) (placed place e) (own_at (place + 1) n es)

-- the line of an entry of the job of this number
abbrev pub line_of : ℕ → Placed → List ℕ
line_of job p = entry_line p.place job p.entry.event p.entry.answer p.entry.out.reply p.entry.out.datagrams

-- the lines of all of them
abbrev pub lines_of : ℕ → List Placed → List ℕ
lines_of job ps = flat_map (line_of job) ps
