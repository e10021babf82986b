-- A client that awaits the reply to a request.
use Rattle.std.specs.Prelude.{◌≡◌, ℕ, ◌+◌, ◌<◌, ◌≤◌, ◌⊎◌, length, true, List, [], ◌++◌, Result, Ok, Err}
use Rattle.satip_base.specs.declared.limits.TheConstants.{PIECE}
use Rattle.satip_world.specs.Counts.{Rises}
use Rattle.satip_world.specs.Lines.{Line, Grew, InputEnded, ReceiveFailed, SendFailed, WasIdle}
use Rattle.satip_world.specs.declared.connections.Received.{Received}
use Rattle.satip_world.specs.declared.connections.Received.TheVariants as got
use Rattle.satip_client.specs.Replies.{HasNoReply, CanBecomeReply}
use Rattle.satip_client.specs.declared.ending.RecordEnd.{RecordEnd}
use Rattle.satip_client.specs.declared.ending.RecordEnd.TheVariants.{Done, OutputFault, Refused, BadReply, Silent, PeerFault, Closed, OutOfMemory}

-- the text begins with no whole reply, and more bytes can make it begin with one
pub record IsOpen (text : List ℕ) : Type 0 where
  pub no_reply : HasNoReply text
  pub can_become : CanBecomeReply text

-- with any bytes more that make up fewer than so many, the text is open
abbrev pub StaysOpen : List ℕ → ℕ → Type 0
StaysOpen text needed = (more : List ℕ) → length (text ++ more) < needed → IsOpen (text ++ more)

-- the text begins with a whole reply, or no more bytes make it begin with one
abbrev pub IsSettled : List ℕ → Type 0
IsSettled text = IsOpen text → ⊥

-- the last bytes received are one piece, and before them the text was still open
pub record HasLastPiece (before got : List ℕ) : Type 0 where
  pub first : List ℕ
  pub piece : List ℕ
  pub whole : got ≡ first ++ piece
  pub was_open : IsOpen (before ++ first)
  pub short : length piece ≤ PIECE

-- no more was received after `before` than the piece with which the text was no longer open; nothing was if it was settled
abbrev pub IsUpToPiece : (before got : List ℕ) → Type 0
IsUpToPiece before got = (got ≡ []) ⊎ HasLastPiece before got

-- no fault was counted on the connection
pub record SameFaults (o n : Line) : Type 0 where
  pub receive_faults : n.receive_faults ≡ o.receive_faults
  pub send_faults : n.send_faults ≡ o.send_faults

-- nothing came in at least `times` times, or the count is at its largest value
abbrev pub WasIdleFor : (times : ℕ) → (o n : Line) → Type 0
WasIdleFor times o n = (o.idles + times ≤ n.idles) ⊎ (18446744073709551615 ≤ n.idles)

-- the bytes received were appended to those held
pub record TookIn (tells : Type 0) (o n : Line) (before now : List ℕ) : Type 0 where
  pub got : List ℕ
  pub held : now ≡ before ++ got
  pub content : Grew tells o n got []
  pub faults : SameFaults o n
  pub idles : o.idles ≤ n.idles

-- one piece was received
pub record TookPiece (tells : Type 0) (o n : Line) (before now : List ℕ) : Type 0 where
  pub took : TookIn tells o n before now
  pub more : length before < length now
  pub short : length now ≤ length before + PIECE
  pub idles : n.idles ≡ o.idles

-- the outcome of one receive
abbrev pub TakesIn : (tells : Type 0) (o n : Line) (before now : List ℕ) → Received → Type 0
TakesIn tells o n before now (got.Got count) = TookPiece tells o n before now
TakesIn tells o n before now got.Idle = (now ≡ before) × WasIdle tells o n
TakesIn tells o n before now got.End = (now ≡ before) × InputEnded tells o n
TakesIn tells o n before now got.Failed = (now ≡ before) × ReceiveFailed tells o n

-- a request was sent and bytes were received; the bytes held then are settled, and were open before the last piece
pub record Asked (tells : Type 0) (o n : Line) (request before now : List ℕ) : Type 0 where
  pub got : List ℕ
  pub held : now ≡ before ++ got
  pub content : Grew tells o n got request
  pub faults : SameFaults o n
  pub idles : o.idles ≤ n.idles
  pub settled : IsSettled now
  pub up_to : IsUpToPiece before got

-- a request was sent, its reply isn't whole, and for this cause it isn't awaited any more
pub record Unanswered (tells : Type 0) (o n : Line) (request before : List ℕ) (cause : Type 0) : Type 0 where
  pub got : List ℕ
  pub content : Grew tells o n got request
  pub faults : SameFaults o n
  pub still_open : IsOpen (before ++ got)
  pub cause_is : cause

-- a request was sent, its reply isn't whole, and a receive failed
pub record AwaitFailed (tells : Type 0) (o n : Line) (request before : List ℕ) : Type 0 where
  pub got : List ℕ
  pub content : Grew tells o n got request
  pub send_faults : n.send_faults ≡ o.send_faults
  pub rose : Rises o.receive_faults n.receive_faults
  pub still_open : IsOpen (before ++ got)

-- the send of a request failed and nothing was received, or a receive failed before its reply was whole
abbrev pub AskFailed : (tells : Type 0) (o n : Line) (request before : List ℕ) → Type 0
AskFailed tells o n request before = SendFailed tells o n request ⊎ AwaitFailed tells o n request before

-- the number of idle receives after which a reply isn't awaited any more
abbrev pub idle_limit : ℕ
idle_limit = 10000

-- the outcome of a request and its reply
abbrev pub Asks : (tells : Type 0) (o n : Line) (request before now : List ℕ) → Result (Unit {0}) RecordEnd → Type 0
Asks tells o n request before now (Ok done) = Asked tells o n request before now
Asks tells o n request before now (Err Done) = ⊥
Asks tells o n request before now (Err OutputFault) = ⊥
Asks tells o n request before now (Err (Refused code)) = ⊥
Asks tells o n request before now (Err BadReply) = ⊥
Asks tells o n request before now (Err Silent) = Unanswered tells o n request before (WasIdleFor idle_limit o n)
Asks tells o n request before now (Err PeerFault) = AskFailed tells o n request before
Asks tells o n request before now (Err Closed) = Unanswered tells o n request before (n.ended ≡ true)
Asks tells o n request before now (Err OutOfMemory) = ⊥
