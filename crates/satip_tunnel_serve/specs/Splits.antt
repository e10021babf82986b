-- The split of the bytes that a connection of a tunnel is sent into replies and frames.
use Rattle.std.specs.Prelude.{◌≡◌, ℕ, ◌==◌, Bool, List, [], ◌∷◌, ◌++◌, filter, slice_index}
use Rattle.std.specs.List.{flat_map}
use Rattle.satip_base.specs.declared.identity.Draw.{Draw}
use Rattle.satip_base.specs.Lists.{Begins, Each}
use Rattle.satip_tunnel_laws.specs.Pieces.{IsPiece, IsReply}
use Rattle.satip_plain.specs.declared.setting.Setting.{Setting}
use Rattle.satip_interleave.specs.Histories.{TunnelItem, TunnelLegal}
use Rattle.satip_tunnel_laws.specs.LaneFrames.{EndsEmpty, lane}
use Rattle.satip_tunnel_laws.specs.Owners.{AreAllBefore, CallersDrainOwn, IsConnectionOf}
use Rattle.satip_tunnel.specs.declared.ends.TunnelEnd.{TunnelEnd}
use Rattle.satip_tunnel.specs.TunnelRun.{TunnelRun}
use Rattle.satip_tunnel.specs.Wire.{wire}
use Rattle.satip_tunnel_serve.specs.Wires.{IsGivenAtFirst, Piece, Reply, Framed}

-- the replies among pieces have the form of replies
abbrev pub AreReplies : List Piece → Type 0
AreReplies [] = Unit {0}
AreReplies (Reply bytes ∷ ps) = IsReply bytes × AreReplies ps
AreReplies (Framed bytes ∷ ps) = AreReplies ps

-- whether a part begins with `$`
abbrev pub is_framed : List ℕ → Bool
is_framed part = slice_index part 0 == 36

-- the wire is replies and frames, in this way and in no other. The frames among its parts are a prefix of the lane's. If the last drain was answered that no
-- frame waits, they are all frames that the lane had before that drain
pub record WireSplits (h before entries : List TunnelItem) (caller x : ℕ) : Type 0 where
  pub parts : List (List ℕ)
  pub each : Each IsPiece parts
  pub joined : flat_map (λ part. part) parts ≡ wire entries
  pub only : (others : List (List ℕ)) → Each IsPiece others → flat_map (λ part. part) others ≡ wire entries → others ≡ parts
  pub first : Begins (filter is_framed parts) (lane h x)
  pub all : (part : List TunnelItem) → (ends : EndsEmpty entries part x) → AreAllBefore h (before ++ part) ends.last caller x (filter is_framed parts)

-- the same for each run of a connection that was given a lane, if callers drain only lanes that they were given
abbrev pub WiresSplitOneWay : Type 0
WiresSplitOneWay =
    (c : Setting) (h before entries : List TunnelItem) (numbers : List ℕ) (caller x : ℕ)
    (draws : List Draw) (received sent : List ℕ) (end : TunnelEnd)
    → TunnelLegal c h → CallersDrainOwn numbers h → IsConnectionOf h before entries caller → TunnelRun draws received sent (Unit {0}) end entries
    → IsGivenAtFirst x entries → WireSplits h before entries caller x
