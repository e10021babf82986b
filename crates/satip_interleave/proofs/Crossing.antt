-- The tunnel may be shared among threads, and a caller may go to another, where its runtime may be shared.
use denote.RattleType.{RattleType}
use denote.Ref.{NamedLft}
use denote.Param.Send.{IsSend, IsSync, sendable}
use Rattle.satip_base.proofs.out.Out.TheSendSync.{the_send as out_send}
use Rattle.satip_interleave.proofs.one_tunnel.Tunnel.TheSendSync.{the_send as tunnel_send}
use Rattle.satip_turn.proofs.Crossing.{cell_sync, pass_send}
use Rattle.satip_interleave.specs.contracts.caller.TunnelCaller as Caller

pub caller_send : (ℓ : NamedLft) (R : RattleType) → IsSync R → IsSend (Caller.the_row ℓ R)
caller_send ℓ R s = search (sendable, cell_sync, pass_send, tunnel_send) depth 14

-- what a search for `Send` of what holds the tunnel, its passes, callers or an `Out` takes
pub ruleset crossing = (sendable, cell_sync, pass_send, tunnel_send, caller_send, out_send)
