-- The keeping alive of a session: a client sends a request when half of its time is over since the last mark.
use Rattle.std.specs.Prelude.{◌≡◌, ℕ, ◌+◌, ◌*◌, nat_le, Bool, if◌then◌else◌, List, [], ◌++◌, Result, Ok, Err}
use Rattle.satip_world.specs.Counts.{Rises}
use Rattle.satip_world.specs.Dials.{Dial, Reads}
use Rattle.satip_world.specs.Lines.{Line, Grew}
use Rattle.satip_client.specs.Requests.{options_request}
use Rattle.satip_client.specs.Leases.{Terms}
use Rattle.satip_client.specs.Waits.{SameFaults}
use Rattle.satip_client.specs.declared.pulse.Pulse.{Pulse}
use Rattle.satip_client.specs.declared.ending.RecordEnd.{RecordEnd}
use Rattle.satip_client.specs.declared.ending.RecordEnd.TheVariants.{Done, OutputFault, Refused, BadReply, Silent, PeerFault, Closed, OutOfMemory}

-- whether half of the time is over: `timeout` seconds are twice 500 * `timeout` milliseconds
abbrev pub is_due_at : (timeout mark now : ℕ) → Bool
is_due_at timeout mark now = nat_le (mark + timeout * 500) now

-- the mark and the next number after a reading of the clock; a reading after which a request is sent is the next mark
abbrev pub after_reading : ℕ → Pulse → ℕ → Pulse
after_reading timeout pulse now =
    if is_due_at timeout pulse.mark now then record { mark = now; cseq = pulse.cseq + 1 } else pulse

-- the bytes sent after a reading
abbrev pub sent_at : (address : List ℕ) → Terms → Pulse → ℕ → List ℕ
sent_at address terms pulse now =
    if is_due_at terms.timeout pulse.mark now then options_request address pulse.cseq terms.session else []

-- the state of the requests: the connection, the clock, the mark and the next number
pub record Talk : Type 0 where
  pub wire : Line
  pub clock : Dial
  pub pulse : Pulse

abbrev pub talk : Line → Dial → Pulse → Talk
talk wire clock pulse = record { wire = wire; clock = clock; pulse = pulse }

-- after this reading the request was sent if it was due
pub record Beat (tells : Type 0) (o n : Talk) (address : List ℕ) (terms : Terms) (moment : ℕ) : Type 0 where
  pub pulse : n.pulse ≡ after_reading terms.timeout o.pulse moment
  pub content : Grew tells o.wire n.wire [] (sent_at address terms o.pulse moment)
  pub faults : SameFaults o.wire n.wire
  pub idles : n.wire.idles ≡ o.wire.idles

-- a prefix of the request was sent, and a fault was counted
pub record BeatFailed (tells : Type 0) (o n : Line) (text : List ℕ) : Type 0 where
  pub part : List ℕ
  pub rest : List ℕ
  pub whole : text ≡ part ++ rest
  pub content : Grew tells o n [] part
  pub rose : Rises o.send_faults n.send_faults

-- the bytes sent after a reading
abbrev pub BeatsAs : (tells : Type 0) (o n : Talk) (address : List ℕ) (terms : Terms) (moment : ℕ) → Result (Unit {0}) RecordEnd → Type 0
BeatsAs tells o n address terms moment (Ok done) = Beat tells o n address terms moment
BeatsAs tells o n address terms moment (Err Done) = ⊥
BeatsAs tells o n address terms moment (Err OutputFault) = ⊥
BeatsAs tells o n address terms moment (Err (Refused code)) = ⊥
BeatsAs tells o n address terms moment (Err BadReply) = ⊥
BeatsAs tells o n address terms moment (Err Silent) = ⊥
BeatsAs tells o n address terms moment (Err PeerFault) = BeatFailed tells o.wire n.wire (sent_at address terms o.pulse moment)
BeatsAs tells o n address terms moment (Err Closed) = ⊥
BeatsAs tells o n address terms moment (Err OutOfMemory) = ⊥

-- the outcome of one call: a reading of the clock, and the bytes sent after it
pub record Beats (tells : Type 0) (o n : Talk) (address : List ℕ) (terms : Terms) (result : Result (Unit {0}) RecordEnd) : Type 0 where
  pub moment : ℕ
  pub reads : Reads o.clock n.clock moment
  pub beats : BeatsAs tells o n address terms moment result
