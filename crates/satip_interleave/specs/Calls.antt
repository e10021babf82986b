-- Calls of the lanes, one after another.
use Rattle.std.specs.Prelude.{ℕ, ◌<◌, ◌≤◌, List, [], ◌∷◌, ◌++◌, map, option_to_list}
use Rattle.satip_base.specs.declared.network.Address.{Address}
use Rattle.satip_interleave.specs.declared.lane.Drained.{Drained}
use Rattle.satip_interleave.specs.Lanes.{PlainLanes, no_lanes, entered, entered_number, put_to, lane_of, drained, drain_answer, left}

-- a call of the lanes: a connection enters, a datagram is sent to an address, or a lane is drained or given up
pub data Call : Type 0 where
  Enter : Call
  Put : Address → List ℕ → Call
  Drain : ℕ → Call
  Leave : ℕ → Call

-- the lanes after one call, and after a list of calls
abbrev pub called : Call → PlainLanes → PlainLanes
called Enter lanes = entered lanes
called (Put to bytes) lanes = put_to to bytes lanes
called (Drain number) lanes = drained number lanes
called (Leave number) lanes = left number lanes

abbrev pub after : PlainLanes → List Call → PlainLanes
after lanes [] = lanes
after lanes (c ∷ cs) = after (called c lanes) cs

-- the answer of a drain after these calls
abbrev pub drain_after : List Call → ℕ → Drained
drain_after calls number = drain_answer (lane_of number (after no_lanes calls).held)

-- the numbers that calls give to connections
abbrev pub number_of : Call → PlainLanes → List ℕ
number_of Enter lanes = option_to_list (entered_number lanes)
number_of (Put to bytes) lanes = []
number_of (Drain number) lanes = []
number_of (Leave number) lanes = []

-- the numbers that a list of calls gives, in order
abbrev pub numbers_given : PlainLanes → List Call → List ℕ
numbers_given lanes [] = []
numbers_given lanes (c ∷ cs) = number_of c lanes ++ numbers_given (called c lanes) cs

-- the numbers rise strictly, from above `low`
abbrev pub IsRising : ℕ → List ℕ → Type 0
IsRising low [] = Unit {0}
IsRising low (x ∷ xs) = (low < x) × IsRising x xs

-- no calls give a number twice: the numbers rise strictly
abbrev pub NumbersRise : Type 0
NumbersRise = (calls : List Call) → IsRising 0 (numbers_given no_lanes calls)

-- the numbers rise strictly, from above `low` up to `high`
abbrev pub IsRisingTo : ℕ → ℕ → List ℕ → Type 0
IsRisingTo low high [] = low ≤ high
IsRisingTo low high (x ∷ xs) = (low < x) × IsRisingTo x high xs

-- the held lanes have different numbers, all of which were given
abbrev pub HasOwnNumbers : PlainLanes → Type 0
HasOwnNumbers lanes = IsRisingTo 0 lanes.given (map (λ lane. lane.number) lanes.held)

-- the same after any calls
abbrev pub HeldByNumber : Type 0
HeldByNumber = (calls : List Call) → HasOwnNumbers (after no_lanes calls)
