-- The first two requests of a recording, and the last one.
use Rattle.std.specs.Prelude.{◌≡◌, ℕ, ◌⊎◌, List, [], ◌++◌, drop, Result, Ok, Err}
use Rattle.satip_world.specs.Dials.{Reads}
use Rattle.satip_world.specs.Lines.{Line, Grew, SentAll, SendFailed}
use Rattle.satip_client.specs.Requests.{setup_request, play_request, teardown_request}
use Rattle.satip_client.specs.Grants.{IsNoGrant}
use Rattle.satip_client.specs.Exchanges.{HasGrant, HasAnswer, HasOtherNumber, EndsAsking, SetUp}
use Rattle.satip_client.specs.Leases.{Terms}
use Rattle.satip_client.specs.Waits.{IsUpToPiece, SameFaults}
use Rattle.satip_recorder.specs.Outsides.{Link, SetupWords}
use Rattle.satip_client.specs.declared.ending.RecordEnd.{RecordEnd}
use Rattle.satip_client.specs.declared.ending.RecordEnd.TheVariants.{Done, OutputFault, Refused, BadReply, Silent, PeerFault, Closed, OutOfMemory}

-- SETUP and PLAY were sent and accepted. The bytes received before PLAY was sent begin with a reply that gives these terms; the bytes after that reply begin
-- with one that accepts PLAY. After each reply no more was received than the rest of its last piece
pub record Opened (tells : Type 0) (o n : Link) (words : SetupWords) (mark : ℕ) (terms : Terms) : Type 0 where
  pub first : List ℕ
  pub second : List ℕ
  pub size : ℕ
  pub granted : HasGrant first terms size
  pub setup_piece : IsUpToPiece [] first
  pub accepted : HasAnswer 2 (drop size first ++ second)
  pub play_piece : IsUpToPiece (drop size first) second
  pub content : Grew tells o.wire n.wire (first ++ second)
      (setup_request words.address words.query words.port ++ play_request words.address terms.stream terms.session)
  pub faults : SameFaults o.wire n.wire
  pub reads : Reads o.clock n.clock mark

-- SETUP gave nothing, for the cause of this end
pub record EndsSetUp (tells : Type 0) (o n : Link) (words : SetupWords) (end : RecordEnd) : Type 0 where
  pub clock : n.clock ≡ o.clock
  pub ends : EndsAsking IsNoGrant 1 tells o.wire n.wire (setup_request words.address words.query words.port) [] end

-- SETUP gave these terms, and PLAY ended the recording, for the cause of this end
pub record EndsPlay (tells : Type 0) (o n : Link) (words : SetupWords) (end : RecordEnd) : Type 0 where
  pub between : Line
  pub terms : Terms
  pub held : List ℕ
  pub mark : ℕ
  pub reads : Reads o.clock n.clock mark
  pub set_up : SetUp tells o.wire between (setup_request words.address words.query words.port) [] held terms
  pub ends : EndsAsking (HasOtherNumber 2) 2 tells between n.wire (play_request words.address terms.stream terms.session) held end

-- SETUP or PLAY ended the recording
abbrev pub EndsOpening : (tells : Type 0) (o n : Link) (words : SetupWords) → RecordEnd → Type 0
EndsOpening tells o n words end = EndsSetUp tells o n words end ⊎ EndsPlay tells o n words end

-- the outcome of SETUP and PLAY
abbrev pub Opens : (tells : Type 0) (o n : Link) (words : SetupWords) (mark : ℕ) → Result Terms RecordEnd → Type 0
Opens tells o n words mark (Ok terms) = Opened tells o n words mark terms
Opens tells o n words mark (Err end) = EndsOpening tells o n words end

-- a prefix of the last request was sent, and a fault was counted
abbrev pub LeavesNot : (tells : Type 0) (o n : Line) (request : List ℕ) → RecordEnd → Type 0
LeavesNot tells o n request Done = ⊥
LeavesNot tells o n request OutputFault = ⊥
LeavesNot tells o n request (Refused code) = ⊥
LeavesNot tells o n request BadReply = ⊥
LeavesNot tells o n request Silent = ⊥
LeavesNot tells o n request PeerFault = SendFailed tells o n request
LeavesNot tells o n request Closed = ⊥
LeavesNot tells o n request OutOfMemory = ⊥

-- the outcome of TEARDOWN
abbrev pub Leaves : (tells : Type 0) (o n : Line) (address : List ℕ) → Terms → (cseq : ℕ) → Result (Unit {0}) RecordEnd → Type 0
Leaves tells o n address terms cseq (Ok done) = SentAll tells o n (teardown_request address terms.stream cseq terms.session)
Leaves tells o n address terms cseq (Err end) = LeavesNot tells o n (teardown_request address terms.stream cseq terms.session) end
