-- The run of a connection of a tunnel: its entries, by the bytes that it received.
use Rattle.std.specs.Prelude.{◌≡◌, ℕ, List, [], ◌∷◌, ◌++◌, length}
use Rattle.satip_base.specs.declared.identity.Draw.{Draw}
use Rattle.satip_rtsp.specs.declared.requests.Request.{Request}
use Rattle.satip_interleave.specs.declared.events.TunnelEvent.TheVariants.{Enter}
use Rattle.satip_interleave.specs.declared.events.TunnelAnswer.{TunnelAnswer}
use Rattle.satip_interleave.specs.declared.events.TunnelAnswer.TheVariants.{Lane, Full as no_lane}
use Rattle.satip_interleave.specs.Histories.{TunnelItem}
use Rattle.satip_tunnel.specs.declared.ends.TunnelEnd.{TunnelEnd}
use Rattle.satip_tunnel.specs.declared.ends.TunnelEnd.TheVariants.{Full, Spent}
use Rattle.satip_tunnel.specs.Walk.{Stance, Free, Walk, lane_peer}
use Rattle.satip_tunnel.specs.Requests.{AsksInParts, drawn_events, asked_events}
use Rattle.satip_tunnel.specs.Ends.{StopsAt, Leaves, LeftOver, DrawsTaken, WireSent}

-- the entries of a connection after its Enter, which was answered with the lane: requests and drains, and last a Leave. It took these draws, and received and
-- sent these bytes; `full` says that the history is full
pub record LaneRun (lane : ℕ) (draws : List Draw) (received sent : List ℕ) (full : Type 0) (end : TunnelEnd) (entries : List TunnelItem) : Type 0 where
  pub body : List TunnelItem
  pub last : List TunnelItem
  pub entries_are : entries ≡ body ++ last
  -- the lane is drained after each request, and at other times, until a drain isn't answered with frames
  pub stance : Stance
  pub walk : Walk lane Free body stance
  pub stops : StopsAt end stance
  pub leaves : Leaves lane full end last
  -- the executed requests and those left over are all requests of the bytes received
  pub made : List Request
  pub left : List Request
  pub asks : AsksInParts received (made ++ left)
  pub left_over : LeftOver end left
  -- each request has the lane as its peer, and takes the next draw
  pub events : asked_events body ≡ drawn_events (lane_peer lane) draws made
  pub drawn : DrawsTaken end (length draws) (length made) left
  -- the rewritten replies and the frames were sent
  pub sent_is : WireSent end body sent

-- nothing was drawn, received or sent
pub record HadNone (draws : List Draw) (received sent : List ℕ) : Type 0 where
  pub undrawn : draws ≡ []
  pub unheard : received ≡ []
  pub unsent : sent ≡ []

-- the history was full before the connection entered
pub record NotEntered (full : Type 0) (end : TunnelEnd) : Type 0 where
  pub end_is : end ≡ Spent
  pub filled : full

-- no lane was given, and no entry follows
pub record TurnedAway (end : TunnelEnd) (entries : List TunnelItem) : Type 0 where
  pub end_is : end ≡ Full
  pub none : entries ≡ []

-- the entries after an Enter with this answer
abbrev pub EnteredRun : TunnelAnswer → (draws : List Draw) (received sent : List ℕ) (full : Type 0) → TunnelEnd → List TunnelItem → Type 0
EnteredRun (Lane lane) draws received sent full end entries = LaneRun lane draws received sent full end entries
EnteredRun no_lane draws received sent full end entries = HadNone draws received sent × TurnedAway end entries
EnteredRun _ draws received sent full end entries = ⊥

-- all entries of a connection; the first is its Enter
abbrev pub TunnelRun : (draws : List Draw) (received sent : List ℕ) (full : Type 0) → TunnelEnd → List TunnelItem → Type 0
TunnelRun draws received sent full end [] = HadNone draws received sent × NotEntered full end
TunnelRun draws received sent full end (t ∷ ts) = (t.event ≡ Enter) × EnteredRun t.answer draws received sent full end ts
