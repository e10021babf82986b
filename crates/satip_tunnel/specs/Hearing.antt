-- A connection of a tunnel in the middle of its text.
use Rattle.std.specs.Prelude.{◌≡◌, ◌⊎◌, ℕ, ◌+◌, ◌≤◌, true, false, List, [], ◌∷◌, ◌++◌, map, length}
use Rattle.rand_chacha.specs.ChaCha.{ChaCha}
use Rattle.satip_base.specs.declared.identity.Draw.{Draw}
use Rattle.satip_base.specs.declared.limits.TheConstants.{LONGEST_HISTORY}
use Rattle.satip_rtsp_interleaved.specs.Requests.{asked_by_tunnel}
use Rattle.satip_frame.specs.declared.framing.Break.{Break}
use Rattle.satip_frame.specs.Said.{Said}
use Rattle.satip_frame.specs.Stream.{Unfinished, Broken as broken_tail}
use Rattle.satip_rtsp_interleaved.specs.Parts.{Parts}
use Rattle.satip_rtsp_interleaved.specs.Held.{Held, IsReadUpTo}
use Rattle.satip_rtsp.specs.declared.requests.Request.{Request}
use Rattle.satip_rtsp.specs.Asked.{broken_request}
use Rattle.satip_interleave.specs.Histories.{TunnelItem, inners}
use Rattle.satip_world.specs.Counts.{Rises}
use Rattle.satip_world.specs.Lines.{Line}
use Rattle.satip_world.specs.Pausing.{RisesBy}
use Rattle.satip_worker.specs.Answers.{ends_with_last}
use Rattle.satip_worker.specs.Progress.{Carries, SameFaults}
use Rattle.satip_tunnel.specs.declared.ends.Heard.{Heard}
use Rattle.satip_tunnel.specs.declared.ends.Heard.TheVariants.{All, Closed, Broken, Lost, Spent}
use Rattle.satip_tunnel.specs.declared.ends.TunnelEnd.{TunnelEnd}
use Rattle.satip_tunnel.specs.declared.ends.TunnelEnd.TheVariants.{Full as end_full, Broken as end_broken, Done as end_done, ReadFault as end_unread, WriteFault as end_lost, Spent as end_spent}
use Rattle.satip_tunnel.specs.Ends.{StopsAt, LeftOver, DrawsTaken, WireSent, LineEnds, IsLeave, unleft_end}
use Rattle.satip_tunnel.specs.Pauses.{dry_in}
use Rattle.satip_tunnel.specs.Walk.{Stance, Free, Walk, lane_peer}
use Rattle.satip_tunnel.specs.Wire.{wire}
use Rattle.satip_tunnel.specs.Requests.{AsksInParts, TakesDraws, asked_events, drawn_events}
use Rattle.satip_tunnel.specs.Seats.{ConnState, Seat, Grows, SeesFull, conn_at}

-- the start of a connection after its Enter: its lane, and the states of the draws, the caller and the connection. And since then: the number of pieces that
-- completed no message and were drained after, the number of receives that found nothing, and the number of pauses
pub record Course : Type 0 where
  pub lane : ℕ
  pub draws : ChaCha
  pub seat : Seat
  pub line : Line
  pub pieces : ℕ
  pub idles : ℕ
  pub paused : ℕ

-- a connection: its caller and its line, and the state of the draws
pub record TalkState : Type 0 where
  pub conn : ConnState
  pub draws : ChaCha

abbrev pub talk_at : Seat → Line → ChaCha → TalkState
talk_at seat line draws = record { conn = conn_at seat line; draws = draws }

-- since the start these entries were made, with these draws, and these bytes received and sent. Drains that found no frame followed a request or a piece that
-- completed no message, or a receive that found nothing, and then a pause followed them
pub record SoFar (tells : Type 0) (course : Course) (n : TalkState) (received sent : List ℕ)
    (stance : Stance) (body : List TunnelItem) (draws : List Draw) : Type 0 where
  pub walk : Walk course.lane Free body stance
  pub dry : dry_in body ≤ length (inners body) + (course.pieces + course.paused)
  pub few : course.pieces ≤ length received
  pub quiet : RisesBy course.idles course.line.idles n.conn.line.idles
  pub grows : Grows course.seat n.conn.seat body
  pub takes : TakesDraws course.draws draws n.draws
  pub carries : Carries tells course.line n.conn.line received sent

-- these first messages of the text were answered, and the parter holds the bytes after them; no receive and no send failed
pub record Stands (tells : Type 0) (course : Course) (n : TalkState) (received text : List ℕ)
    (messages : List Said) (parter : Held) : Type 0 where
  pub leads : IsReadUpTo text messages parter
  pub body : List TunnelItem
  pub draws : List Draw
  pub counted : length draws ≡ length (map asked_by_tunnel messages)
  pub events : asked_events body ≡ drawn_events (lane_peer course.lane) draws (map asked_by_tunnel messages)
  pub unended : ends_with_last (inners body) ≡ false
  pub so_far : SoFar tells course n received (wire body) Free body draws
  pub calm : SameFaults course.line n.conn.line

-- all messages of the text were answered, and more may follow
pub record Listens (tells : Type 0) (course : Course) (n : TalkState) (received text : List ℕ) (parter : Held) : Type 0 where
  pub messages : List Said
  pub read : Parts text messages Unfinished
  pub stands : Stands tells course n received text messages parter

-- the text is broken, and all its requests were answered; no receive and no send failed
pub record HasClosed (tells : Type 0) (course : Course) (n : TalkState) (received text : List ℕ) : Type 0 where
  pub messages : List Said
  pub cause : Break
  pub read : Parts text messages (broken_tail cause)
  pub body : List TunnelItem
  pub draws : List Draw
  pub counted : length draws ≡ length (map asked_by_tunnel messages ++ broken_request cause ∷ [])
  pub events : asked_events body ≡ drawn_events (lane_peer course.lane) draws (map asked_by_tunnel messages ++ broken_request cause ∷ [])
  pub ended : ends_with_last (inners body) ≡ true
  pub so_far : SoFar tells course n received (wire body) Free body draws
  pub calm : SameFaults course.line n.conn.line

-- the first requests of the text were executed, up to this end of the connection
pub record MadeFirst (tells : Type 0) (course : Course) (n : TalkState) (received text : List ℕ) (end : TunnelEnd) : Type 0 where
  pub body : List TunnelItem
  pub draws : List Draw
  pub sent : List ℕ
  pub stance : Stance
  pub made : List Request
  pub left : List Request
  pub asks : AsksInParts text (made ++ left)
  pub left_over : LeftOver end left
  pub events : asked_events body ≡ drawn_events (lane_peer course.lane) draws made
  pub drawn : DrawsTaken end (length draws) (length made) left
  pub stops : StopsAt end stance
  pub sent_is : WireSent end body sent
  pub so_far : SoFar tells course n received sent stance body draws

-- a send failed, but no receive
pub record HasLost (tells : Type 0) (course : Course) (n : TalkState) (received text : List ℕ) : Type 0 where
  pub first : MadeFirst tells course n received text end_lost
  pub faults : Rises course.line.send_faults n.conn.line.send_faults
  pub receives : n.conn.line.receive_faults ≡ course.line.receive_faults

-- the history was full
pub record HasStopped (tells : Type 0) (course : Course) (n : TalkState) (received text : List ℕ) : Type 0 where
  pub first : MadeFirst tells course n received text end_spent
  pub full : SeesFull n.conn.seat

-- the outcome of hearing a text
abbrev pub Hears : (tells : Type 0) (course : Course) (n : TalkState) (received text : List ℕ) (parter : Held) → Heard → Type 0
Hears tells course n received text parter All = Listens tells course n received text parter
Hears tells course n received text parter Closed = HasClosed tells course n received text
Hears tells course n received text parter Broken = MadeFirst tells course n received text end_broken
Hears tells course n received text parter Lost = HasLost tells course n received text
Hears tells course n received text parter Spent = HasStopped tells course n received text

-- the outcome of hearing a piece: the lane was drained after it at most once, but for the drains after requests
pub record HearsPiece (tells : Type 0) (course : Course) (n : TalkState) (received text : List ℕ) (parter : Held) (heard : Heard) : Type 0 where
  pub pieces : ℕ
  pub once : pieces ≤ course.pieces + 1
  pub hears : Hears tells (record course { pieces = pieces }) n received text parter heard

-- the history is full, if the connection ends by a full history
abbrev pub IsFullAt : TunnelEnd → (seen : ℕ) → Type 0
IsFullAt end_full seen = Unit {0}
IsFullAt end_broken seen = Unit {0}
IsFullAt end_done seen = Unit {0}
IsFullAt end_unread seen = Unit {0}
IsFullAt end_lost seen = Unit {0}
IsFullAt end_spent seen = seen ≡ LONGEST_HISTORY

-- a connection ended so, and its lane wasn't given up yet
pub record Talked (tells : Type 0) (course : Course) (n : TalkState) (end : TunnelEnd) : Type 0 where
  pub received : List ℕ
  pub first : MadeFirst tells course n received received end
  pub line_ends : LineEnds end course.line n.conn.line (ends_with_last (inners first.body))
  pub full : IsFullAt end (length n.conn.seat.pass.seen)

-- the lane was given up
pub record Left (lane : ℕ) (o n : Seat) (before after : TunnelEnd) : Type 0 where
  pub last : List TunnelItem
  pub leave : IsLeave lane last
  pub grows : Grows o n last
  pub end : after ≡ before

-- the history was full before the lane was given up
pub record Unleft (o n : Seat) (before after : TunnelEnd) : Type 0 where
  pub grows : Grows o n []
  pub full : length n.pass.seen ≡ LONGEST_HISTORY
  pub end : after ≡ unleft_end before

-- the outcome of giving the lane up; it isn't tried if the history was full already
abbrev pub Finishes : ℕ → (o n : Seat) → (before after : TunnelEnd) → Type 0
Finishes lane o n end_full after = Left lane o n end_full after ⊎ Unleft o n end_full after
Finishes lane o n end_broken after = Left lane o n end_broken after ⊎ Unleft o n end_broken after
Finishes lane o n end_done after = Left lane o n end_done after ⊎ Unleft o n end_done after
Finishes lane o n end_unread after = Left lane o n end_unread after ⊎ Unleft o n end_unread after
Finishes lane o n end_lost after = Left lane o n end_lost after ⊎ Unleft o n end_lost after
Finishes lane o n end_spent after = (after ≡ end_spent) × (n ≡ o)
