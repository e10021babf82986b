-- The outcome of a recording, by its status.
use Rattle.std.specs.Prelude.{◌≡◌, ℕ, ◌⊎◌, Bool, true, List, [], ◌∷◌, Option, Some, None, option_map, is_some, IsSome, IsNone, IfSome, IsSomeAnd, MatchOption}
use Rattle.satip_base.specs.Streams.{Drain, Rose}
use Rattle.satip_base.specs.Lists.{Has}
use Rattle.satip_world.specs.Counts.{Rises}
use Rattle.satip_world.specs.Dials.{Dial, fresh_dial}
use Rattle.satip_world.specs.Lines.{Line, fresh_line}
use Rattle.satip_world.specs.Inboxes.{Inbox, fresh_inbox}
use Rattle.satip_config.specs.Lines.{Says}
use Rattle.satip_config.specs.Outcomes.{line_of}
use Rattle.satip_config.specs.declared.outcome.Outcome.TheVariants as outcomes
use Rattle.satip_client.specs.declared.ending.RecordEnd.{RecordEnd}
use Rattle.satip_client.specs.declared.ending.RecordEnd.TheVariants.{Done, OutputFault, Refused, BadReply, Silent, PeerFault, Closed, OutOfMemory}
use Rattle.satip_desk.specs.Streams.{Streams, Tells}
use Rattle.satip_desk.specs.Views.{DeskView}
use Rattle.satip_recorder.specs.Outsides.{DeviceTells, Outside, device_tells, outside, task}
use Rattle.satip_recorder.specs.Recordings.{Records, Ends}
use Rattle.satip_recorder.specs.Words.{Wanted}

-- the statuses of a recording
abbrev pub record_statuses : List ℕ
record_statuses = 0 ∷ 6 ∷ 10 ∷ 11 ∷ 12 ∷ 13 ∷ 14 ∷ 70 ∷ []

-- the state of the connection, the clock and the inlet after a recording, each if the desk gave it
pub record Left : Type 0 where
  pub wire : Option Line
  pub clock : Option Dial
  pub inlet : Option Inbox

-- the views of what the desk gave
abbrev pub left_of : {W M I : Type 0} → (W → Line) → (M → Dial) → (I → Inbox) → Option W → Option M → Option I → Left
left_of line dial inbox wire moment inlet =
    record { wire = option_map line wire; clock = option_map dial moment; inlet = option_map inbox inlet }

-- the three with the output, if all three are there
abbrev pub outside_of : Option Line → Option Dial → Option Inbox → Drain → Option Outside
outside_of (Some wire) (Some clock) (Some inlet) output = Some (outside wire clock inlet output)
outside_of (Some wire) (Some clock) None output = None
outside_of (Some wire) None inlet output = None
outside_of None clock inlet output = None

-- the same by what is left of them
abbrev pub outside_left : Left → Drain → Option Outside
outside_left left output = outside_of left.wire left.clock left.inlet output

-- a fact about an unused connection, clock and inlet of this port, and the output
pub record FromNew (port : ℕ) (output : Drain) (Holds : Outside → Type 0) : Type 0 where
  pub told : Bool
  pub said : Holds (outside fresh_line (fresh_dial told) (fresh_inbox port) output)

-- a recording with these three ended so; the inlet's port before is the one after
abbrev pub Ran : (k : DeviceTells) → Wanted → Option Outside → (s r : Streams) → RecordEnd → Type 0
Ran k w left s r end = IsSomeAnd left (λ b. FromNew b.inlet.port s.output (λ a.
    Ends k.errors s.errors r.errors end (λ lines. Records k a b (task w.address w.query w.count) lines end)))

-- the desk failed to give the connection or the inlet, and nothing was done but to log the line of the end
pub record NotGiven (error_tells : Type 0) (d f : DeskView) (s r : Streams) (left : Left) (status : ℕ) : Type 0 where
  pub rises : Rises d.faults f.faults
  pub status_is : status ≡ 13
  pub wire : IfSome left.wire (λ line. line ≡ fresh_line)
  pub clock : IsSomeAnd left.clock (λ dial. dial.readings ≡ [])
  pub output : r.output ≡ s.output
  pub said : Says error_tells s.errors r.errors (line_of outcomes.PeerFault)

-- the outcome of a recording: the wanted stream, the desk before and after, the input, the output and the error sink before and after, what is left of the
-- devices that the desk gave, and the status
pub record RecordingEnds (k : DeviceTells) (w : Wanted) (d f : DeskView) (s r : Streams) (left : Left) (status : ℕ) : Type 0 where
  pub status_is : Has status record_statuses
  -- nothing is read of the input
  pub input : r.input ≡ s.input
  -- the connection to the wanted address and the inlet come back exactly if the desk gave them; the clock always does
  pub wire_given : f.handed.wire ≡ option_map (λ _. w.to) left.wire
  pub clock_given : (f.handed.moment ≡ true) × IsSome left.clock
  pub inlet_given : f.handed.inlet ≡ is_some left.inlet
  -- the desk gave the inlet and its fault count stayed; or it failed, and nothing was done
  pub desk : MatchOption left.inlet (NotGiven k.errors d f s r left status) (λ _. f.faults ≡ d.faults)
  -- with status 0 SETUP, PLAY, each due OPTIONS and TEARDOWN were sent, and the first packets caught were written. With any other status a prefix of that was
  -- done; each of these but 70 has its cause, and with 70 nothing was done. A line was logged for each gap, and then that of the end; only a prefix of these
  -- lines if the sink failed
  pub recorded : status ≡ 0 → Ran k w (outside_left left r.output) s r Done
  pub output_rose : status ≡ 6 → Rose s.output.faults r.output.faults
  pub output_fault : status ≡ 6 → Ran k w (outside_left left r.output) s r OutputFault
  pub refused : status ≡ 10 → (code : ℕ) × Ran k w (outside_left left r.output) s r (Refused code)
  pub bad_reply : status ≡ 11 → Ran k w (outside_left left r.output) s r BadReply
  pub silent : status ≡ 12 → Ran k w (outside_left left r.output) s r Silent
  pub peer_fault : status ≡ 13 → IsNone left.inlet ⊎ Ran k w (outside_left left r.output) s r PeerFault
  pub closed : status ≡ 14 → Ran k w (outside_left left r.output) s r Closed
  pub wants : status ≡ 70 → Ran k w (outside_left left r.output) s r OutOfMemory

-- the same, by what is known of all devices
abbrev pub RecordEnds : (t : Tells) (w : Wanted) (d f : DeskView) (s r : Streams) (left : Left) (status : ℕ) → Type 0
RecordEnds t w d f s r left status = RecordingEnds (device_tells t.wire t.inlet t.output t.errors) w d f s r left status
