-- The lanes of a tunnel as lists of frames, and the effect of each call on them.
use Rattle.std.specs.Prelude.{ℕ, ◌+◌, ◌-◌, nat_le, ◌==◌, not, ◌&&◌, ◌||◌, Bool, true, false, List, [], ◌∷◌, ◌++◌, length, find, is_some, Option, Some, None, if◌then◌else◌}
use Rattle.std.specs.List.{concat}
use Rattle.satip_base.specs.declared.network.Address.{Address}
use Rattle.satip_interleave.specs.declared.lane.Lane.{Lane}
use Rattle.satip_interleave.specs.declared.lane.Drained.{Drained}
use Rattle.satip_interleave.specs.declared.lane.Drained.TheVariants.{Frames, Empty, Broken, Gone}
use Rattle.satip_interleave.specs.Frames.{frame, fits_behind, first_frames, later_frames}

-- the number of lane numbers that were given, and the held lanes by rising number
pub record PlainLanes : Type 0 where
  pub given : ℕ
  pub held : List Lane

-- no number was given, and no lane is held
abbrev pub no_lanes : PlainLanes
no_lanes = record { given = 0; held = [] }

-- 64 lanes are held, or 16777215 numbers were given
abbrev pub is_full : PlainLanes → Bool
is_full lanes = nat_le 64 (length lanes.held) || nat_le 16777215 lanes.given

-- the number that an entering connection is given; none if no lane is free
abbrev pub entered_number : PlainLanes → Option ℕ
entered_number lanes = if is_full lanes then None else Some (lanes.given + 1)

-- the lane of a connection that just entered
abbrev pub fresh_lane : ℕ → Lane
fresh_lane number = record { number = number; frames = []; broken = false }

-- the lanes after a connection entered
abbrev pub entered : PlainLanes → PlainLanes
entered lanes =
    if is_full lanes then lanes
    else record { given = lanes.given + 1; held = lanes.held ++ fresh_lane (lanes.given + 1) ∷ [] }

-- the lane of a number, and the lanes after a change of it
abbrev pub has_number : ℕ → Lane → Bool
has_number number lane = lane.number == number

abbrev pub lane_of : ℕ → List Lane → Option Lane
lane_of number lanes = find (has_number number) lanes

abbrev pub change_lane : ℕ → (Lane → Lane) → List Lane → List Lane
change_lane number change [] = []
change_lane number change (l ∷ ls) = if has_number number l then change l ∷ ls else l ∷ change_lane number change ls

abbrev pub without_lane : ℕ → List Lane → List Lane
without_lane number [] = []
without_lane number (l ∷ ls) = if has_number number l then ls else l ∷ without_lane number ls

-- UDP ports 1 to 256 mean channels 0 to 255
abbrev pub is_channel_port : ℕ → Bool
is_channel_port port = nat_le 1 port && nat_le port 256

-- the lane after a datagram was sent to it
abbrev pub put_in : ℕ → List ℕ → Lane → Lane
put_in port bytes lane =
    if is_channel_port port && not lane.broken then
    (if fits_behind lane.frames bytes then record lane { frames = lane.frames ++ frame (port - 1) bytes ∷ [] }
    else record lane { broken = true })
    else lane

-- the lanes after a datagram was sent to an address; its host is the lane's number
abbrev pub put_to : Address → List ℕ → PlainLanes → PlainLanes
put_to to bytes lanes = record lanes { held = change_lane to.ip (put_in to.port bytes) lanes.held }

-- the frames that a drain takes, and its answer
abbrev pub taken_frames : Option Lane → List (List ℕ)
taken_frames None = []
taken_frames (Some lane) = first_frames 65536 lane.frames

-- the answer of a drain, by the lane's frames and whether it is broken
abbrev pub lane_answer : List (List ℕ) → Bool → Drained
lane_answer [] true = Broken
lane_answer [] false = Empty
lane_answer (f ∷ fs) broken = Frames (length (concat (first_frames 65536 (f ∷ fs))))

-- the answer of a drain; `Gone` if the lane isn't held
abbrev pub drain_answer : Option Lane → Drained
drain_answer None = Gone
drain_answer (Some lane) = lane_answer lane.frames lane.broken

-- the lane without the frames that a drain takes
abbrev pub drained_lane : Lane → Lane
drained_lane lane = record lane { frames = later_frames 65536 lane.frames }

-- the lanes after a drain of the lane with this number
abbrev pub drained : ℕ → PlainLanes → PlainLanes
drained number lanes = record lanes { held = change_lane number drained_lane lanes.held }

-- whether the lane of a number is held, and the lanes after its connection left
abbrev pub is_held : ℕ → PlainLanes → Bool
is_held number lanes = is_some (lane_of number lanes.held)

abbrev pub left : ℕ → PlainLanes → PlainLanes
left number lanes = record lanes { held = without_lane number lanes.held }
