-- A client that keeps its session alive, receives datagrams, puts them in order and writes their packets, turn by turn.
use Rattle.std.specs.Prelude.{◌≡◌, ℕ, ◌+◌, ◌<◌, ◌≤◌, ◌⊎◌, true, length, List, [], ◌∷◌, ◌++◌, take, Result, Ok, Err}
use Rattle.satip_base.specs.Streams.{Drain, PutAll, FailedToPut}
use Rattle.satip_base.specs.declared.streams.Put.{Put}
use Rattle.satip_base.specs.declared.streams.Put.TheVariants.{Whole, Failed}
use Rattle.satip_world.specs.Counts.{Rises}
use Rattle.satip_world.specs.Dials.{Dial}
use Rattle.satip_world.specs.Lines.{Line, Grew}
use Rattle.satip_world.specs.Inboxes.{Inbox}
use Rattle.satip_rtp_receiver.specs.Caught.{Datagram}
use Rattle.satip_rtp_receiver.specs.Catching.{Catch, Rests}
use Rattle.satip_rtp_receiver.specs.Runs.{handed_up, after_all}
use Rattle.satip_rtp_receiver.specs.declared.item.Item.{Item}
use Rattle.satip_client.specs.Leases.{Terms}
use Rattle.satip_client.specs.Pulses.{Talk, after_reading, sent_at}
use Rattle.satip_client.specs.Waits.{SameFaults}
use Rattle.satip_client.specs.declared.pulse.Pulse.{Pulse}
use Rattle.satip_client.specs.declared.ending.RecordEnd.{RecordEnd}
use Rattle.satip_client.specs.declared.ending.RecordEnd.TheVariants.{Done, OutputFault, Refused, BadReply, Silent, PeerFault, Closed, OutOfMemory}
use Rattle.satip_recorder.specs.Outsides.{DeviceTells}
use Rattle.satip_recorder.specs.Tapes.{Deck, deck, Taped, Tells, gap_lines, packets_in}
use Rattle.satip_recorder.specs.Arrivals.{AreRead, TookTurns}
use Rattle.satip_recorder.specs.declared.tape.Tape.{Tape}

-- the state of the datagrams: the catcher, the bytes still to be written, the output and the error sink
pub record Reel : Type 0 where
  pub catcher : Catch
  pub tape : Tape
  pub output : Drain
  pub errors : Drain

abbrev pub reel : Catch → Tape → Drain → Drain → Reel
reel catcher tape output errors = record { catcher = catcher; tape = tape; output = output; errors = errors }

abbrev pub deck_of : Reel → Deck
deck_of r = deck r.tape r.output r.errors

-- the state of a recording: that of the requests, the inlet, and that of the datagrams
pub record Station : Type 0 where
  pub talk : Talk
  pub inlet : Inbox
  pub reel : Reel

abbrev pub station : Talk → Inbox → Reel → Station
station talk inlet reel = record { talk = talk; inlet = inlet; reel = reel }

-- these moments were read one after another
pub record ReadsAll (o n : Dial) (moments : List ℕ) : Type 0 where
  pub told : n.told ≡ true → o.told ≡ true
  pub readings : n.told ≡ true → n.readings ≡ o.readings ++ moments

-- the mark and the next number after these readings
abbrev pub after_readings : (timeout : ℕ) → Pulse → List ℕ → Pulse
after_readings timeout pulse [] = pulse
after_readings timeout pulse (moment ∷ moments) = after_readings timeout (after_reading timeout pulse moment) moments

-- the requests that keep the session alive, sent after these readings
abbrev pub options_sent : (address : List ℕ) → Terms → Pulse → List ℕ → List ℕ
options_sent address terms pulse [] = []
options_sent address terms pulse (moment ∷ moments) =
    sent_at address terms pulse moment ++ options_sent address terms (after_reading terms.timeout pulse moment) moments

-- after each of these readings the request was sent if it was due
pub record Beaten (tells : Type 0) (o n : Talk) (address : List ℕ) (terms : Terms) (moments : List ℕ) : Type 0 where
  pub clock : ReadsAll o.clock n.clock moments
  pub pulse : n.pulse ≡ after_readings terms.timeout o.pulse moments
  pub asked : Grew tells o.wire n.wire [] (options_sent address terms o.pulse moments)
  pub faults : SameFaults o.wire n.wire

-- a prefix of those requests was sent; unless a send failed it is all of them
pub record BeatenUntil (tells : Type 0) (o n : Talk) (address : List ℕ) (terms : Terms) : Type 0 where
  pub moments : List ℕ
  pub clock : ReadsAll o.clock n.clock moments
  pub part : List ℕ
  pub rest : List ℕ
  pub whole : options_sent address terms o.pulse moments ≡ part ++ rest
  pub asked : Grew tells o.wire n.wire [] part
  pub sent_all : Rises o.wire.send_faults n.wire.send_faults ⊎ (rest ≡ [])

-- the items that the catcher hands up of these datagrams were written and logged
pub record Wound (tells_output tells_errors : Type 0) (o n : Reel) (datagrams : List (List ℕ)) : Type 0 where
  pub arrivals : List Datagram
  pub read : AreRead datagrams arrivals
  pub taped : Taped tells_output tells_errors (deck_of o) (deck_of n) (handed_up o.catcher arrivals)
  pub caught : 0 < n.tape.left → n.catcher ≡ after_all o.catcher arrivals

-- in this many turns these datagrams were received: each turn was a receive, and there were no more receives
pub record Caught (tells tells_output tells_errors : Type 0) (i j : Inbox) (o n : Reel) (turns : ℕ) : Type 0 where
  pub port : j.port ≡ i.port
  pub datagrams : List (List ℕ)
  pub given : tells → j.given ≡ i.given ++ datagrams
  pub faults : j.faults ≡ i.faults
  pub took : TookTurns turns i j
  pub timed : length datagrams ≤ turns
  pub counted : j.count + j.idles ≤ i.count + i.idles + turns
  pub wound : Wound tells_output tells_errors o n datagrams

-- the bytes were written; with the end of an output fault only a prefix of them was, and the output failed
abbrev pub IsWritten : RecordEnd → (tells : Type 0) (o n : Drain) (bytes : List ℕ) → Type 0
IsWritten Done tells o n bytes = PutAll tells o n bytes
IsWritten OutputFault tells o n bytes = FailedToPut tells o n bytes
IsWritten (Refused code) tells o n bytes = PutAll tells o n bytes
IsWritten BadReply tells o n bytes = PutAll tells o n bytes
IsWritten Silent tells o n bytes = PutAll tells o n bytes
IsWritten PeerFault tells o n bytes = PutAll tells o n bytes
IsWritten Closed tells o n bytes = PutAll tells o n bytes
IsWritten OutOfMemory tells o n bytes = PutAll tells o n bytes

-- a prefix of the items that the catcher hands up of these datagrams was written and logged. Unless the output failed it is all of them, and bytes are missing
pub record WoundUntil (tells_output tells_errors : Type 0) (o n : Reel) (end : RecordEnd) (datagrams : List (List ℕ)) : Type 0 where
  pub arrivals : List Datagram
  pub read : AreRead datagrams arrivals
  pub handed : List Item
  pub left_out : List Item
  pub whole : handed_up o.catcher arrivals ≡ handed ++ left_out
  pub written : IsWritten end tells_output o.output n.output (take o.tape.left (packets_in handed))
  pub told : Tells tells_errors o.errors n.errors (gap_lines o.tape.left handed) o.tape.muted n.tape.muted
  pub all : (end ≡ OutputFault → ⊥) → (left_out ≡ []) × (length (packets_in handed) < o.tape.left)

-- these datagrams were received until this end
pub record CaughtUntil (tells tells_output tells_errors : Type 0) (i j : Inbox) (o n : Reel) (end : RecordEnd) : Type 0 where
  pub port : j.port ≡ i.port
  pub datagrams : List (List ℕ)
  pub given : tells → j.given ≡ i.given ++ datagrams
  pub wound : WoundUntil tells_output tells_errors o n end datagrams

-- one datagram was taken
abbrev pub Winds : (tells_output tells_errors : Type 0) (o n : Reel) (bytes : List ℕ) → Put → Type 0
Winds tells_output tells_errors o n bytes Whole = Wound tells_output tells_errors o n (bytes ∷ [])
Winds tells_output tells_errors o n bytes Failed = WoundUntil tells_output tells_errors o n OutputFault (bytes ∷ [])

-- the cause of an end by one turn of the inlet
abbrev pub CatchCause : (i j : Inbox) → RecordEnd → Type 0
CatchCause i j Done = ⊥
CatchCause i j OutputFault = j.faults ≡ i.faults
CatchCause i j (Refused code) = ⊥
CatchCause i j BadReply = ⊥
CatchCause i j Silent = ⊥
CatchCause i j PeerFault = Rises i.faults j.faults
CatchCause i j Closed = ⊥
CatchCause i j OutOfMemory = ⊥

-- one turn of the inlet
abbrev pub Catches : (tells tells_output tells_errors : Type 0) (i j : Inbox) (o n : Reel) → Result (Unit {0}) RecordEnd → Type 0
Catches tells tells_output tells_errors i j o n (Ok done) = Caught tells tells_output tells_errors i j o n 1
Catches tells tells_output tells_errors i j o n (Err end) =
    (caught : CaughtUntil tells tells_output tells_errors i j o n end) × (length caught.datagrams ≤ 1)
    × (j.count + j.idles ≤ i.count + i.idles + 1) × CatchCause i j end

-- the cause of an end while receiving, after this many readings of the clock: no turn left for `Silent`, each with its reading, and a fault for `PeerFault`;
-- nothing is said of an output fault
abbrev pub Cause : (limit readings : ℕ) (a b : Line) (i j : Inbox) → RecordEnd → Type 0
Cause limit readings a b i j Done = ⊥
Cause limit readings a b i j OutputFault = Unit {0}
Cause limit readings a b i j (Refused code) = ⊥
Cause limit readings a b i j BadReply = ⊥
Cause limit readings a b i j Silent = (limit ≤ readings) × TookTurns limit i j
Cause limit readings a b i j PeerFault = Rises a.send_faults b.send_faults ⊎ Rises i.faults j.faults
Cause limit readings a b i j Closed = ⊥
Cause limit readings a b i j OutOfMemory = ⊥

-- a number of turns of receiving
pub record Course (k : DeviceTells) (o n : Station) (address : List ℕ) (terms : Terms) : Type 0 where
  pub moments : List ℕ
  pub talks : Beaten k.wire o.talk n.talk address terms moments
  pub reels : Caught k.inlet k.output k.errors o.inlet n.inlet o.reel n.reel (length moments)

-- receiving ended with this end and its cause; the clock was read for each receive, and only `PeerFault` comes with a fault
pub record Stopped (k : DeviceTells) (o n : Station) (address : List ℕ) (terms : Terms) (limit : ℕ) (end : RecordEnd) : Type 0 where
  pub talks : BeatenUntil k.wire o.talk n.talk address terms
  pub reels : CaughtUntil k.inlet k.output k.errors o.inlet n.inlet o.reel n.reel end
  pub timed : length reels.datagrams ≤ length talks.moments
  pub counted : n.inlet.count + n.inlet.idles ≤ o.inlet.count + o.inlet.idles + length talks.moments
  pub faults : (end ≡ PeerFault → ⊥) → SameFaults o.talk.wire n.talk.wire × (n.inlet.faults ≡ o.inlet.faults)
  pub cause : Cause limit (length talks.moments) o.talk.wire n.talk.wire o.inlet n.inlet end

-- the outcome of receiving
abbrev pub Turns : (k : DeviceTells) (o n : Station) (address : List ℕ) (terms : Terms) (limit : ℕ) → Result (Unit {0}) RecordEnd → Type 0
Turns k o n address terms limit (Ok done) = Course k o n address terms
Turns k o n address terms limit (Err end) = Stopped k o n address terms limit end

-- one turn of receiving
abbrev pub TakesTurn : (k : DeviceTells) (o n : Station) (address : List ℕ) (terms : Terms) (limit : ℕ) → Result (Unit {0}) RecordEnd → Type 0
TakesTurn k o n address terms limit (Ok done) = (course : Course k o n address terms) × (length course.moments ≡ 1)
TakesTurn k o n address terms limit (Err end) = Stopped k o n address terms limit end

-- a catcher that can take a datagram
pub record IsReady (c : Catch) : Type 0 where
  pub rests : Rests c
  pub number : c.next < 65536
