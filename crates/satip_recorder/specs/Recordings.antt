-- A whole recording: its requests, its datagrams, its output and lines, and its end.
use Rattle.std.specs.Prelude.{◌≡◌, ℕ, ◌+◌, ◌*◌, ◌<◌, ◌≤◌, ◌⊎◌, Bool, false, List, [], ◌∷◌, ◌++◌, length, take, drop, Result, Ok, Err}
use Rattle.satip_base.specs.Streams.{Drain, PutAll}
use Rattle.satip_world.specs.Counts.{Rises}
use Rattle.satip_world.specs.Lines.{Line, Grew}
use Rattle.satip_rtp_receiver.specs.Caught.{Datagram, caught}
use Rattle.satip_rtp_receiver.specs.Catching.{catching}
use Rattle.satip_rtp_receiver.specs.declared.item.Item.{Item}
use Rattle.satip_client.specs.Requests.{setup_request, play_request, teardown_request}
use Rattle.satip_client.specs.Exchanges.{HasGrant, HasAnswer}
use Rattle.satip_config.specs.Lines.{Says}
use Rattle.satip_config.specs.Outcomes.{line_of}
use Rattle.satip_client.specs.Leases.{Terms}
use Rattle.satip_client.specs.Waits.{IsUpToPiece, SameFaults}
use Rattle.satip_client.specs.declared.pulse.Pulse.{Pulse}
use Rattle.satip_client.specs.declared.ending.RecordEnd.{RecordEnd}
use Rattle.satip_client.specs.declared.ending.RecordEnd.TheVariants.{Done, OutputFault, Refused, BadReply, Silent, PeerFault, Closed, OutOfMemory}
use Rattle.satip_recorder.specs.Outcomes.{outcome_of}
use Rattle.satip_recorder.specs.Outsides.{DeviceTells, Link, Outside, Task, link, setup_words}
use Rattle.satip_recorder.specs.Tapes.{gap_lines, packets_in, Tells}
use Rattle.satip_recorder.specs.Arrivals.{AreRead}
use Rattle.satip_recorder.specs.Courses.{ReadsAll, after_readings, options_sent, IsWritten, Cause}
use Rattle.satip_recorder.specs.Openings.{EndsOpening}
use Rattle.satip_recorder.specs.declared.recorder.Recorder.{Recorder}
use Rattle.satip_recorder.specs.declared.tape.Tape.{Tape}

-- the bytes of `count` packets
abbrev pub bytes_of : ℕ → ℕ
bytes_of count = count * 188

-- the largest number of turns; in each a datagram arrives or none does
abbrev pub turn_limit : ℕ → ℕ
turn_limit count = count * 64 + 10000

-- nothing was written or logged yet
abbrev pub fresh_tape : ℕ → Tape
fresh_tape count = record { left = bytes_of count; muted = false }

-- a recorder of `count` packets that did nothing yet
pub record IsFresh (count : ℕ) (recorder : Recorder) : Type 0 where
  pub cseq : recorder.pulse.cseq ≡ 3
  pub catcher : recorder.catcher ≡ catching
  pub left : recorder.tape.left ≡ bytes_of count
  pub muted : recorder.tape.muted ≡ false
  pub turns : recorder.turns ≡ turn_limit count

-- the mark and the number of the third request; SETUP and PLAY have the numbers 1 and 2
abbrev pub first_pulse : ℕ → Pulse
first_pulse mark = record { mark = mark; cseq = 3 }

-- the terms that SETUP gave, and the bytes received while SETUP and PLAY were answered; after each reply no more than the rest of its last piece
pub record Opening (terms : Terms) (got : List ℕ) : Type 0 where
  pub first : List ℕ
  pub second : List ℕ
  pub whole : got ≡ first ++ second
  pub size : ℕ
  pub granted : HasGrant first terms size
  pub setup_piece : IsUpToPiece [] first
  pub accepted : HasAnswer 2 (drop size first ++ second)
  pub play_piece : IsUpToPiece (drop size first) second

-- all packets were written. The requests sent are SETUP, PLAY and each due OPTIONS, and then `last`; the lines are those of the gaps. The clock was read for
-- each receive
pub record Filled (k : DeviceTells) (o n : Outside) (w : Task) (terms : Terms) (pulse : Pulse) (last lines : List ℕ) : Type 0 where
  pub mark : ℕ
  pub moments : List ℕ
  pub got : List ℕ
  pub opening : Opening terms got
  pub requests : Grew k.wire o.wire n.wire got
      (setup_request w.address w.query o.inlet.port ++ play_request w.address terms.stream terms.session
      ++ options_sent w.address terms (first_pulse mark) moments ++ last)
  pub pulse_is : pulse ≡ after_readings terms.timeout (first_pulse mark) moments
  pub clock : ReadsAll o.clock n.clock (mark ∷ moments)
  pub port : n.inlet.port ≡ o.inlet.port
  pub datagrams : List (List ℕ)
  pub arrivals : List Datagram
  pub given : k.inlet → n.inlet.given ≡ o.inlet.given ++ datagrams
  pub timed : length datagrams ≤ length moments
  pub counted : n.inlet.count + n.inlet.idles ≤ o.inlet.count + o.inlet.idles + length moments
  pub read : AreRead datagrams arrivals
  pub enough : bytes_of w.count ≤ length (packets_in (caught false arrivals))
  pub written : PutAll k.output o.output n.output (take (bytes_of w.count) (packets_in (caught false arrivals)))
  pub lines_are : lines ≡ gap_lines (bytes_of w.count) (caught false arrivals)

-- all packets were written, the stream was given back, and no fault was counted
pub record Completed (k : DeviceTells) (o n : Outside) (w : Task) (lines : List ℕ) : Type 0 where
  pub terms : Terms
  pub pulse : Pulse
  pub filled : Filled k o n w terms pulse (teardown_request w.address terms.stream pulse.cseq terms.session) lines
  pub faults : SameFaults o.wire n.wire × (n.inlet.faults ≡ o.inlet.faults)

-- the cause of an end at TEARDOWN
abbrev pub LeaveCause : (a b : Line) → RecordEnd → Type 0
LeaveCause a b Done = ⊥
LeaveCause a b OutputFault = ⊥
LeaveCause a b (Refused code) = ⊥
LeaveCause a b BadReply = ⊥
LeaveCause a b Silent = ⊥
LeaveCause a b PeerFault = Rises a.send_faults b.send_faults
LeaveCause a b Closed = ⊥
LeaveCause a b OutOfMemory = ⊥

-- all packets were written, and TEARDOWN wasn't sent whole; no receive failed
pub record EndedLeaving (k : DeviceTells) (o n : Outside) (w : Task) (lines : List ℕ) (end : RecordEnd) : Type 0 where
  pub terms : Terms
  pub pulse : Pulse
  pub part : List ℕ
  pub rest : List ℕ
  pub whole : teardown_request w.address terms.stream pulse.cseq terms.session ≡ part ++ rest
  pub filled : Filled k o n w terms pulse part lines
  pub cause : LeaveCause o.wire n.wire end
  pub faults : (n.wire.receive_faults ≡ o.wire.receive_faults) × (n.inlet.faults ≡ o.inlet.faults)

-- SETUP and PLAY were accepted, and receiving ended with this end. A prefix of the due OPTIONS was sent, all of them unless a send failed, and a prefix of the
-- items that were caught was handed up. Unless the output failed it is all of them, and packets are missing. The clock was read for each receive
pub record EndedReceiving (k : DeviceTells) (o n : Outside) (w : Task) (lines : List ℕ) (end : RecordEnd) : Type 0 where
  pub terms : Terms
  pub mark : ℕ
  pub moments : List ℕ
  pub got : List ℕ
  pub opening : Opening terms got
  pub part : List ℕ
  pub rest : List ℕ
  pub whole : options_sent w.address terms (first_pulse mark) moments ≡ part ++ rest
  pub sent_all : Rises o.wire.send_faults n.wire.send_faults ⊎ (rest ≡ [])
  pub requests : Grew k.wire o.wire n.wire got
      (setup_request w.address w.query o.inlet.port ++ play_request w.address terms.stream terms.session ++ part)
  pub clock : ReadsAll o.clock n.clock (mark ∷ moments)
  pub port : n.inlet.port ≡ o.inlet.port
  pub datagrams : List (List ℕ)
  pub arrivals : List Datagram
  pub given : k.inlet → n.inlet.given ≡ o.inlet.given ++ datagrams
  pub timed : length datagrams ≤ length moments
  pub counted : n.inlet.count + n.inlet.idles ≤ o.inlet.count + o.inlet.idles + length moments
  pub read : AreRead datagrams arrivals
  pub handed : List Item
  pub left_out : List Item
  pub items : caught false arrivals ≡ handed ++ left_out
  pub all : (end ≡ OutputFault → ⊥) → (left_out ≡ []) × (length (packets_in handed) < bytes_of w.count)
  pub written : IsWritten end k.output o.output n.output (take (bytes_of w.count) (packets_in handed))
  pub lines_are : lines ≡ gap_lines (bytes_of w.count) handed
  pub cause : Cause (turn_limit w.count) (length moments) o.wire n.wire o.inlet n.inlet end
  pub faults : (end ≡ PeerFault → ⊥) → SameFaults o.wire n.wire × (n.inlet.faults ≡ o.inlet.faults)

abbrev pub link_of : Outside → Link
link_of a = link a.wire a.clock

-- SETUP or PLAY ended the recording: no datagram was received, no packet written and no gap logged
pub record EndedOpening (k : DeviceTells) (o n : Outside) (w : Task) (lines : List ℕ) (end : RecordEnd) : Type 0 where
  pub ends : EndsOpening k.wire (link_of o) (link_of n) (setup_words w.address w.query o.inlet.port) end
  pub inlet : n.inlet ≡ o.inlet
  pub output : n.output ≡ o.output
  pub lines_are : lines ≡ []

-- nothing was done
pub record NotBegun (o n : Outside) (lines : List ℕ) : Type 0 where
  pub same : n ≡ o
  pub lines_are : lines ≡ []

-- the outcome of a recording, with the lines of its gaps
abbrev pub Records : (k : DeviceTells) (o n : Outside) (w : Task) (lines : List ℕ) → RecordEnd → Type 0
Records k o n w lines Done = Completed k o n w lines
Records k o n w lines OutputFault = EndedReceiving k o n w lines OutputFault
Records k o n w lines (Refused code) = EndedOpening k o n w lines (Refused code)
Records k o n w lines BadReply = EndedOpening k o n w lines BadReply
Records k o n w lines Silent = EndedOpening k o n w lines Silent ⊎ EndedReceiving k o n w lines Silent
Records k o n w lines PeerFault =
    EndedOpening k o n w lines PeerFault ⊎ (EndedReceiving k o n w lines PeerFault ⊎ EndedLeaving k o n w lines PeerFault)
Records k o n w lines Closed = EndedOpening k o n w lines Closed
Records k o n w lines OutOfMemory = NotBegun o n lines

-- the end of a recording, by the result of its run
abbrev pub end_for : Result (Unit {0}) RecordEnd → RecordEnd
end_for (Ok done) = Done
end_for (Err end) = end

-- the outcome of a run, with the lines logged so far; `r` and `s` are the error sink before and after
pub record Runs (k : DeviceTells) (o n : Outside) (r s : Drain) (w : Task) (muted : Bool) (result : Result (Unit {0}) RecordEnd) : Type 0 where
  pub lines : List ℕ
  pub records : Records k o n w lines (end_for result)
  pub told : Tells k.errors r s lines false muted

-- a recording had this outcome; the lines of its gaps were logged, and then that of its end
pub record Ends (tells : Type 0) (r s : Drain) (end : RecordEnd) (Comes : List ℕ → Type 0) : Type 0 where
  pub lines : List ℕ
  pub comes : Comes lines
  pub said : Says tells r s (lines ++ line_of (outcome_of end))
