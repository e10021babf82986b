-- The requests of a tunnel's connections, and the replies to them.
use Rattle.std.specs.Prelude.{ℕ, List}
use Rattle.satip_base.specs.declared.identity.Draw.{Draw}
use Rattle.satip_base.specs.Lists.{Each}
use Rattle.satip_interleave.specs.Histories.{TunnelItem, TunnelLegal}
use Rattle.satip_plain.specs.declared.setting.Setting.{Setting}
use Rattle.satip_rtsp.specs.declared.requests.Request.{Request}
use Rattle.satip_tunnel.specs.declared.ends.TunnelEnd.{TunnelEnd}
use Rattle.satip_tunnel.specs.Requests.{AsksInParts}
use Rattle.satip_tunnel.specs.TunnelRun.{TunnelRun}
use Rattle.satip_tunnel_laws.specs.Answered.{KeepsPlain}
use Rattle.satip_tunnel_laws.specs.Owners.{IsConnectionOf}
use Rattle.satip_tunnel_serve.specs.Splits.{AreReplies}
use Rattle.satip_tunnel_serve.specs.Wires.{pieces}

-- the requests of a received text with frames keep no CR and no LF
abbrev pub RequestsArePlain : Type 0
RequestsArePlain = (text : List ℕ) (all : List Request) → AsksInParts text all → Each (λ r. KeepsPlain r.refusal) all

-- the replies of each connection of a tunnel, rewritten to channels, have the form of replies
abbrev pub RunsReply : Type 0
RunsReply =
    (c : Setting) (h before entries : List TunnelItem) (caller : ℕ) (draws : List Draw) (received sent : List ℕ) (end : TunnelEnd)
    → TunnelLegal c h → IsConnectionOf h before entries caller → TunnelRun draws received sent (Unit {0}) end entries → AreReplies (pieces entries)
