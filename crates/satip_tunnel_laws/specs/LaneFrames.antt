-- The frames of a lane, read from a history's entries, and the frames that the drains of that lane took.
use Rattle.std.specs.Prelude.{◌≡◌, ℕ, ◌-◌, ◌==◌, ◌&&◌, Bool, true, false, List, [], ◌∷◌, ◌++◌, if◌then◌else◌}
use Rattle.std.specs.List.{concat}
use Rattle.satip_base.specs.Output.{Datagram}
use Rattle.satip_base.specs.Lists.{Begins, Each}
use Rattle.satip_interleave.specs.Frames.{frame}
use Rattle.satip_interleave.specs.Lanes.{is_channel_port}
use Rattle.satip_plain.specs.declared.setting.Setting.{Setting}
use Rattle.satip_interleave.specs.declared.events.TunnelEvent.{TunnelEvent}
use Rattle.satip_interleave.specs.declared.events.TunnelEvent.TheVariants.{Inner, Enter, Drain, Leave}
use Rattle.satip_interleave.specs.declared.events.TunnelAnswer.{TunnelAnswer}
use Rattle.satip_interleave.specs.declared.events.TunnelAnswer.TheVariants.{Lane, Frames, Empty, Left}
use Rattle.satip_interleave.specs.Histories.{TunnelItem, TunnelLegal}

-- the frame of a datagram, if it goes to a channel of the lane
abbrev pub frame_to : ℕ → Datagram → List (List ℕ)
frame_to x d = if d.to.ip == x && is_channel_port d.to.port then frame (d.to.port - 1) d.bytes ∷ [] else []

abbrev pub frames_to : ℕ → List Datagram → List (List ℕ)
frames_to x [] = []
frames_to x (d ∷ ds) = frame_to x d ++ frames_to x ds

-- the frames to the lane among the datagrams that an event sends
abbrev pub frames_by : ℕ → TunnelEvent → List Datagram → List (List ℕ)
frames_by x (Inner event) sent = frames_to x sent
frames_by x event sent = []

-- whether a connection entered and was given the lane, whether the lane was given up, and whether an event drains it
abbrev pub enters : ℕ → TunnelEvent → TunnelAnswer → Bool
enters x Enter (Lane number) = number == x
enters x event answer = false

abbrev pub leaves : ℕ → TunnelEvent → TunnelAnswer → Bool
leaves x (Leave number) Left = number == x
leaves x event answer = false

abbrev pub drains : ℕ → TunnelEvent → Bool
drains x (Drain number) = number == x
drains x event = false

-- the frames to the lane until it is given up
abbrev pub frames_until : List TunnelItem → ℕ → List (List ℕ)
frames_until [] x = []
frames_until (t ∷ ts) x = if leaves x t.event t.answer then [] else frames_by x t.event t.out.datagrams ++ frames_until ts x

-- the frames of the lane: those sent to it after it is given and before it is given up, in order
abbrev pub lane : List TunnelItem → ℕ → List (List ℕ)
lane [] x = []
lane (t ∷ ts) x = if enters x t.event t.answer then frames_until ts x else lane ts x

-- the bytes of the frames in the answers to the lane's drains
abbrev pub drained_by : ℕ → TunnelEvent → TunnelAnswer → List ℕ → List ℕ
drained_by x (Drain number) (Frames count) reply = if number == x then reply else []
drained_by x event answer reply = []

-- the bytes in the answers to all drains of the lane, in order
abbrev pub drained : List TunnelItem → ℕ → List ℕ
drained [] x = []
drained (t ∷ ts) x = drained_by x t.event t.answer t.out.reply ++ drained ts x

-- the entry after these is the last drain of the lane, and was answered that no frame waits
pub record EndsEmpty (h before : List TunnelItem) (x : ℕ) : Type 0 where
  pub last : TunnelItem
  pub later : List TunnelItem
  pub whole : h ≡ before ++ last ∷ later
  pub drained : drains x last.event ≡ true
  pub empty : last.answer ≡ Empty
  pub no_more : Each (λ t. drains x t.event ≡ false) later

-- the drains of the lane took a prefix of its frames, each of them whole. If the last drain was answered that no frame waits, they took all frames that it had
-- before that drain
pub record TakesFirst (h : List TunnelItem) (x : ℕ) : Type 0 where
  pub taken : List (List ℕ)
  pub joined : concat taken ≡ drained h x
  pub first : Begins taken (lane h x)
  pub all : (before : List TunnelItem) → EndsEmpty h before x → taken ≡ lane before x

-- the same for each lane of each legal history
abbrev pub FramesAreLanes : Type 0
FramesAreLanes = (c : Setting) (h : List TunnelItem) (x : ℕ) → TunnelLegal c h → TakesFirst h x
