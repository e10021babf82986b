-- A connection as contracts see it, and the effect of one call.
use Rattle.std.specs.Prelude.{◌≡◌, ℕ, suc, ◌≤◌, Bool, true, false, List, [], ◌++◌, length, take}
use Rattle.satip_base.specs.declared.streams.Put.{Put}
use Rattle.satip_base.specs.declared.streams.Put.TheVariants.{Whole, Failed as send_failed}
use Rattle.satip_world.specs.declared.connections.Received.{Received}
use Rattle.satip_world.specs.declared.connections.Received.TheVariants.{Got, Idle, End, Failed as receive_failed}
use Rattle.satip_world.specs.Counts.{Rises}

-- a connection: the bytes received and sent, whether its input ended, the count of idles, and the counts of failed receives and sends
pub record Line : Type 0 where
  pub received : List ℕ
  pub sent : List ℕ
  pub ended : Bool
  pub idles : ℕ
  pub receive_faults : ℕ
  pub send_faults : ℕ

-- a connection that has received and sent nothing yet
abbrev pub fresh_line : Line
fresh_line = record { received = []; sent = []; ended = false; idles = 0; receive_faults = 0; send_faults = 0 }

-- these bytes were received and these were sent, if the content is exposed
pub record Grew (tells : Type 0) (o n : Line) (got put : List ℕ) : Type 0 where
  pub received : tells → n.received ≡ o.received ++ got
  pub sent : tells → n.sent ≡ o.sent ++ put

-- no count rose
pub record SameCounts (o n : Line) : Type 0 where
  pub idles : n.idles ≡ o.idles
  pub receive_faults : n.receive_faults ≡ o.receive_faults
  pub send_faults : n.send_faults ≡ o.send_faults

-- `count` bytes were received and are at the front of the buffer
pub record GotBytes (tells : Type 0) (o n : Line) (buf : List ℕ) (count : ℕ) : Type 0 where
  pub some : 1 ≤ count
  pub within : count ≤ length buf
  pub before : o.ended ≡ false
  pub after : n.ended ≡ false
  pub counts : SameCounts o n
  pub content : Grew tells o n (take count buf) []

-- nothing was received
pub record WasIdle (tells : Type 0) (o n : Line) : Type 0 where
  pub before : o.ended ≡ false
  pub after : n.ended ≡ false
  pub idles : Rises o.idles n.idles
  pub one_idle : n.idles ≤ suc o.idles
  pub receive_faults : n.receive_faults ≡ o.receive_faults
  pub send_faults : n.send_faults ≡ o.send_faults
  pub content : Grew tells o n [] []

-- the input has ended, for ever
pub record InputEnded (tells : Type 0) (o n : Line) : Type 0 where
  pub after : n.ended ≡ true
  pub counts : SameCounts o n
  pub content : Grew tells o n [] []

-- a receive failed
pub record ReceiveFailed (tells : Type 0) (o n : Line) : Type 0 where
  pub before : o.ended ≡ false
  pub after : n.ended ≡ false
  pub idles : n.idles ≡ o.idles
  pub receive_faults : Rises o.receive_faults n.receive_faults
  pub send_faults : n.send_faults ≡ o.send_faults
  pub content : Grew tells o n [] []

-- the effect of one call of `receive`, with the buffer as the call leaves it
abbrev pub Receives : (tells : Type 0) (o n : Line) (buf : List ℕ) → Received → Type 0
Receives tells o n buf (Got count) = GotBytes tells o n buf count
Receives tells o n buf Idle = WasIdle tells o n
Receives tells o n buf End = InputEnded tells o n
Receives tells o n buf receive_failed = ReceiveFailed tells o n

-- all bytes were sent
pub record SentAll (tells : Type 0) (o n : Line) (bytes : List ℕ) : Type 0 where
  pub ended : n.ended ≡ o.ended
  pub counts : SameCounts o n
  pub content : Grew tells o n [] bytes

-- a send failed, and a prefix of the bytes was sent
pub record SendFailed (tells : Type 0) (o n : Line) (bytes : List ℕ) : Type 0 where
  pub part : List ℕ
  pub rest : List ℕ
  pub whole : bytes ≡ part ++ rest
  pub ended : n.ended ≡ o.ended
  pub idles : n.idles ≡ o.idles
  pub receive_faults : n.receive_faults ≡ o.receive_faults
  pub send_faults : Rises o.send_faults n.send_faults
  pub content : Grew tells o n [] part

-- the effect of one call of `send`
abbrev pub Sends : (tells : Type 0) (o n : Line) (bytes : List ℕ) → Put → Type 0
Sends tells o n bytes Whole = SentAll tells o n bytes
Sends tells o n bytes send_failed = SendFailed tells o n bytes
