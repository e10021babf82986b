-- A served connection of a tunnel: its run, why it ended, and the state of the caller and the connection then.
use Rattle.std.specs.Prelude.{ℕ, List}
use Rattle.rand_chacha.specs.ChaCha.{ChaCha}
use Rattle.satip_base.specs.declared.identity.Draw.{Draw}
use Rattle.satip_interleave.specs.Histories.{TunnelItem, inners}
use Rattle.satip_world.specs.Lines.{Line}
use Rattle.satip_worker.specs.Answers.{ends_with_last}
use Rattle.satip_worker.specs.Progress.{Carries}
use Rattle.satip_tunnel.specs.declared.ends.TunnelEnd.{TunnelEnd}
use Rattle.satip_tunnel.specs.Requests.{TakesDraws}
use Rattle.satip_tunnel.specs.Seats.{Seat, Grows, SeesFull}
use Rattle.satip_tunnel.specs.Ends.{LineEnds}
use Rattle.satip_tunnel.specs.TunnelRun.{TunnelRun}

-- a connection was served between two states of draws, caller and connection
pub record ServesTunnel (tells : Type 0) (before after : ChaCha) (o n : Seat) (l m : Line) (end : TunnelEnd) : Type 0 where
  pub entries : List TunnelItem
  pub draws : List Draw
  pub received : List ℕ
  pub sent : List ℕ
  pub run : TunnelRun draws received sent (SeesFull n) end entries
  pub grows : Grows o n entries
  pub takes : TakesDraws before draws after
  pub carries : Carries tells l m received sent
  pub line_ends : LineEnds end l m (ends_with_last (inners entries))
