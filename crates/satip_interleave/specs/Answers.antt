-- The answers to the events of a tunnel.
use Rattle.std.specs.Prelude.{◌≡◌, ℕ, List, []}
use Rattle.std.specs.List.{concat}
use Rattle.satip_base.specs.Output.{Output}
use Rattle.satip_interleave.specs.Lanes.{PlainLanes, drain_answer, entered_number, is_held, lane_of, taken_frames}
use Rattle.satip_interleave.specs.declared.events.TunnelEvent.{TunnelEvent}
use Rattle.satip_interleave.specs.declared.events.TunnelEvent.TheVariants.{Inner, Enter, Drain, Leave}
use Rattle.satip_interleave.specs.declared.events.TunnelAnswer.{TunnelAnswer}
use Rattle.satip_interleave.specs.declared.events.TunnelAnswer.TheVariants.{Inner as InnerAnswer}
use Rattle.satip_interleave.specs.Tunnels.{drain_told, lane_told, left_told}

-- this reply was written, and no datagram
pub record Writes (reply : List ℕ) (out : Output) : Type 0 where
  pub written : out.reply ≡ reply
  pub unsent : out.datagrams ≡ []

-- the answer is this one, and this reply was written
pub record Answers (wanted : TunnelAnswer) (reply : List ℕ) (answer : TunnelAnswer) (out : Output) : Type 0 where
  pub told : answer ≡ wanted
  pub writes : Writes reply out

-- an answer of the server
abbrev pub IsInner : TunnelAnswer → Type 0
IsInner (InnerAnswer answer) = Unit {0}
IsInner _ = ⊥

-- the answer to an event over these lanes: the server answers its own events, the lanes all others
abbrev pub IsAnswered : PlainLanes → TunnelEvent → TunnelAnswer → Output → Type 0
IsAnswered lanes (Inner event) answer out = IsInner answer
IsAnswered lanes Enter answer out = Answers (lane_told (entered_number lanes)) [] answer out
IsAnswered lanes (Drain number) answer out =
    Answers (drain_told (drain_answer (lane_of number lanes.held))) (concat (taken_frames (lane_of number lanes.held))) answer out
IsAnswered lanes (Leave number) answer out = Answers (left_told (is_held number lanes)) [] answer out
