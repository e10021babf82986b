-- The datagrams and drains of one lane.
use Rattle.std.specs.Prelude.{ℕ, ◌≡◌, ◌-◌, false, List, [], ◌∷◌, ◌++◌, if◌then◌else◌}
use Rattle.satip_interleave.specs.declared.lane.Lane.{Lane}
use Rattle.satip_interleave.specs.Frames.{frame, first_frames}
use Rattle.satip_interleave.specs.Lanes.{is_channel_port, put_in, drained_lane}

-- a datagram is sent to a port, or a drain takes the first frames
pub data Turn : Type 0 where
  Comes : ℕ → List ℕ → Turn
  Leaves : Turn

-- the lane after one turn
abbrev pub turned_lane : Turn → Lane → Lane
turned_lane (Comes port bytes) lane = put_in port bytes lane
turned_lane Leaves lane = drained_lane lane

-- the lane after a list of turns
abbrev pub lane_after : Lane → List Turn → Lane
lane_after lane [] = lane
lane_after lane (t ∷ ts) = lane_after (turned_lane t lane) ts

-- the frames of the datagrams that arrive
abbrev pub coming : Turn → List (List ℕ)
coming (Comes port bytes) = if is_channel_port port then frame (port - 1) bytes ∷ [] else []
coming Leaves = []

-- the frames of all datagrams that arrive, in order
abbrev pub all_coming : List Turn → List (List ℕ)
all_coming [] = []
all_coming (t ∷ ts) = coming t ++ all_coming ts

-- the frames that drains take
abbrev pub leaving : Turn → Lane → List (List ℕ)
leaving (Comes port bytes) lane = []
leaving Leaves lane = first_frames 65536 lane.frames

-- the frames that all drains take, in order
abbrev pub all_leaving : Lane → List Turn → List (List ℕ)
all_leaving lane [] = []
all_leaving lane (t ∷ ts) = leaving t lane ++ all_leaving (turned_lane t lane) ts

-- the frames that left and those that wait are a prefix of those that waited before and arrived; all of them unless the lane broke
pub record KeepsOrder (lane : Lane) (turns : List Turn) : Type 0 where
  pub lost : List (List ℕ)
  pub order : lane.frames ++ all_coming turns ≡ (all_leaving lane turns ++ (lane_after lane turns).frames) ++ lost
  pub none_lost : (lane_after lane turns).broken ≡ false → lost ≡ []

-- the same for any lane that isn't broken, and any turns
abbrev pub FramesKeepOrder : Type 0
FramesKeepOrder = (lane : Lane) (turns : List Turn) → lane.broken ≡ false → KeepsOrder lane turns
