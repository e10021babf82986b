-- The bytes that a connection of a tunnel is sent: its replies, and between them the frames of its lane.
use Rattle.std.specs.Prelude.{◌≡◌, ℕ, List, [], ◌∷◌, ◌++◌}
use Rattle.std.specs.List.{concat}
use Rattle.satip_base.specs.declared.identity.Draw.{Draw}
use Rattle.satip_base.specs.Output.{Output}
use Rattle.satip_rtsp_interleaved.specs.Turned.{turned}
use Rattle.satip_base.specs.Lists.{Begins}
use Rattle.satip_plain.specs.declared.setting.Setting.{Setting}
use Rattle.satip_interleave.specs.declared.events.TunnelEvent.{TunnelEvent}
use Rattle.satip_interleave.specs.declared.events.TunnelEvent.TheVariants.{Inner, Drain}
use Rattle.satip_interleave.specs.declared.events.TunnelAnswer.{TunnelAnswer}
use Rattle.satip_interleave.specs.declared.events.TunnelAnswer.TheVariants.{Lane, Frames}
use Rattle.satip_interleave.specs.Histories.{TunnelItem, TunnelLegal}
use Rattle.satip_tunnel_laws.specs.LaneFrames.{EndsEmpty, lane}
use Rattle.satip_tunnel_laws.specs.Owners.{AreAllBefore, CallersDrainOwn, DrainsOwn, IsConnectionOf}
use Rattle.satip_tunnel.specs.declared.ends.TunnelEnd.{TunnelEnd}
use Rattle.satip_tunnel.specs.TunnelRun.{TunnelRun}

-- a piece of these bytes: a rewritten reply, or frames
pub data Piece : Type 0 where
  Reply : List ℕ → Piece
  Framed : List ℕ → Piece

-- the pieces sent for an entry: one for a request or for a drain with frames, and else none
abbrev pub pieces_by : TunnelEvent → TunnelAnswer → Output → List Piece
pieces_by (Inner event) answer out = Reply (turned out.reply) ∷ []
pieces_by (Drain number) (Frames count) out = Framed out.reply ∷ []
pieces_by event answer out = []

-- the pieces of entries, in order
abbrev pub pieces : List TunnelItem → List Piece
pieces [] = []
pieces (t ∷ ts) = pieces_by t.event t.answer t.out ++ pieces ts

-- the bytes of the frames among pieces
abbrev pub frames_of : List Piece → List ℕ
frames_of [] = []
frames_of (Reply bytes ∷ ps) = frames_of ps
frames_of (Framed bytes ∷ ps) = bytes ++ frames_of ps

-- the first of the entries was given the lane
pub record IsGivenAtFirst (x : ℕ) (entries : List TunnelItem) : Type 0 where
  pub first : TunnelItem
  pub rest : List TunnelItem
  pub whole : entries ≡ first ∷ rest
  pub given : first.answer ≡ Lane x

-- the frames among the pieces of a connection are a prefix of its lane's, each of them whole. If the last drain was answered that no frame waits, they are all
-- frames that the lane had before that drain
pub record WireHasLane (h before entries : List TunnelItem) (caller x : ℕ) : Type 0 where
  pub taken : List (List ℕ)
  pub joined : concat taken ≡ frames_of (pieces entries)
  pub first : Begins taken (lane h x)
  pub all : (part : List TunnelItem) → (ends : EndsEmpty entries part x) → AreAllBefore h (before ++ part) ends.last caller x taken

-- the run of a connection drains and gives up only the lane that it was given, full history or not
abbrev pub RunsDrainOwn : Type 0
RunsDrainOwn =
    (draws : List Draw) (received sent : List ℕ) (end : TunnelEnd) (entries : List TunnelItem) → TunnelRun draws received sent (Unit {0}) end entries
    → DrainsOwn entries

-- the same for each run of a connection that was given a lane, if callers drain only lanes that they were given
abbrev pub WiresHaveLanes : Type 0
WiresHaveLanes =
    (c : Setting) (h before entries : List TunnelItem) (numbers : List ℕ) (caller x : ℕ)
    (draws : List Draw) (received sent : List ℕ) (end : TunnelEnd)
    → TunnelLegal c h → CallersDrainOwn numbers h → IsConnectionOf h before entries caller → TunnelRun draws received sent (Unit {0}) end entries
    → IsGivenAtFirst x entries → WireHasLane h before entries caller x
