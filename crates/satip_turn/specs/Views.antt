-- The parts of a view.
use Rattle.std.specs.Prelude.{ℕ, Bool, true, false, List, [], ◌∷◌, ◌++◌, Some, None}
use Rattle.satip_base.specs.declared.entry.Entry.{Entry}
use Rattle.satip_turn.specs.declared.view.Row.{Row}
use Rattle.satip_turn.specs.declared.view.View.{View}

abbrev pub row : {E A O : Type 0} → ℕ → List (Entry E A O) → Row E A O
row number own = record { number = number; own = own }

-- the numbers of rows, in order
abbrev pub numbers_of : {E A O : Type 0} → List (Row E A O) → List ℕ
numbers_of [] = []
numbers_of (r ∷ rs) = r.number ∷ numbers_of rs

-- the rows that a view answers for: its own and those of the seats joined into it
abbrev pub held : {E A O C : Type 0} → View E A O C → List (Row E A O)
held v = row v.number v.own ∷ v.kept

-- the list, or nothing if the test holds
abbrev pub unless : {T : Type 0} → Bool → List T → List T
unless true xs = []
unless false xs = xs

-- the numbers that a view answers for
abbrev pub holders : {E A O C : Type 0} → View E A O C → List ℕ
holders v = unless v.spent (numbers_of (held v))

-- these numbers, and the number that it has drawn
abbrev pub numbers : {E A O C : Type 0} → View E A O C → List ℕ
numbers v = unless v.spent (numbers_of (held v ++ v.drawn))

-- the view of the first seat
abbrev pub opening_view : {E A O C : Type 0} → C → View E A O C
opening_view c = record {
  spent = false;
  turn = false;
  setting = Some c;
  number = 0;
  seen = [];
  whole = [];
  own = [];
  kept = [];
  made = [];
  drawn = [];
  heard = [];
  met = 0;
  looks = 0;
  looked = [];
}

-- the view of a seat that was joined into another
abbrev pub spent_view : {E A O C : Type 0} → View E A O C
spent_view = record {
  spent = true;
  turn = false;
  setting = None;
  number = 0;
  seen = [];
  whole = [];
  own = [];
  kept = [];
  made = [];
  drawn = [];
  heard = [];
  met = 0;
  looks = 0;
  looked = [];
}
