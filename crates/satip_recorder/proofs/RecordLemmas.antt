-- A whole recording, by its parts.
use Rattle.std.proofs.Common.{◌≡◌, inl, inr, ℕ, Bool, true, false, List, [], ◌∷◌, ◌++◌, length, take, refl, sym, ap, ◌∙◌, subst, arith, append_assoc, append-nil, Result, Ok, Err}
use Rattle.satip_base.specs.Streams.{Drain, PutAll}
use Rattle.satip_world.specs.Counts.{Rises}
use Rattle.satip_world.specs.Dials.{Dial, Reads}
use Rattle.satip_world.specs.Lines.{Line, Grew}
use Rattle.satip_world.specs.Inboxes.{Inbox}
use Rattle.satip_rtp_receiver.specs.Caught.{Datagram, caught}
use Rattle.satip_rtp_receiver.specs.Catching.{Catch, catching}
use Rattle.satip_rtp_receiver.specs.Runs.{handed_up}
use Rattle.satip_rtp_receiver.specs.declared.item.Item.{Item}
use Rattle.satip_rtp_receiver.proofs.AllLemmas.{always_catches_all}
use Rattle.satip_client.specs.Requests.{setup_request, play_request, teardown_request}
use Rattle.satip_client.specs.Leases.{Terms}
use Rattle.satip_client.specs.declared.ending.RecordEnd.{RecordEnd}
use Rattle.satip_client.specs.declared.ending.RecordEnd.TheVariants.{Done, OutputFault, Refused, BadReply, Silent, PeerFault, Closed, OutOfMemory}
use Rattle.satip_client.specs.declared.pulse.Pulse.{Pulse}
use Rattle.satip_client.specs.Pulses.{talk}
use Rattle.satip_config.specs.Lines.{Says}
use Rattle.satip_config.specs.Outcomes.{line_of}
use Rattle.satip_config.specs.declared.outcome.Outcome.TheVariants as outcomes
use Rattle.satip_client.proofs.PulseLemmas.{grew_then, faults_then}
use Rattle.satip_recorder.specs.Tapes.{gap_lines, packets_in, Tells}
use Rattle.satip_recorder.specs.Arrivals.{AreRead}
use Rattle.satip_recorder.specs.Outcomes.{outcome_of}
use Rattle.satip_recorder.specs.Outsides.{DeviceTells, Link, Outside, SetupWords, Task, outside, setup_words, task}
use Rattle.satip_recorder.specs.Courses.{Station, reel, station, ReadsAll, options_sent, Course, Stopped}
use Rattle.satip_recorder.specs.Openings.{Opened, EndsOpening, Leaves, LeavesNot}
use Rattle.satip_recorder.specs.Recordings.{bytes_of, turn_limit, fresh_tape, link_of, first_pulse, Opening, Filled, EndedLeaving, EndedReceiving, EndedOpening, Records, Runs, Ends, LeaveCause, end_for}
use Rattle.satip_recorder.specs.declared.tape.Tape.{Tape}
use Rattle.satip_recorder.proofs.ArrivalLemmas.{small, turns-none}
use Rattle.satip_recorder.proofs.CourseLemmas.{cause-after, sent-after}
use Rattle.satip_recorder.proofs.TapeLemmas.{tells-none, tells-then}

abbrev pub numbered : ℕ → ℕ → Pulse
numbered mark cseq = record { mark = mark; cseq = cseq }

-- what is handed up is what is caught
catches : (xs : List (List ℕ)) (ds : List Datagram) → AreRead xs ds → handed_up catching ds ≡ caught false ds
catches xs ds read = (always_catches_all ds (small xs ds read)).before_end

reads-first : (d e f : Dial) (mark : ℕ) (moments : List ℕ) → Reads d e mark → ReadsAll e f moments → ReadsAll d f (mark ∷ moments)
reads-first d e f mark moments reads all = record {
  told = λ told. reads.told (all.told told);
  readings = λ told. all.readings told ∙ ap (λ (t : List ℕ). t ++ moments) (reads.readings (all.told told))
      ∙ append_assoc d.readings (mark ∷ []) moments;
}

opening : (tells : Type 0) (o n : Link) (words : SetupWords) (mark : ℕ) (terms : Terms) → (opened : Opened tells o n words mark terms)
    → Opening terms (opened.first ++ opened.second)
opening tells o n words mark terms opened = record {
  first = opened.first;
  second = opened.second;
  whole = refl;
  size = opened.size;
  granted = opened.granted;
  setup_piece = opened.setup_piece;
  accepted = opened.accepted;
  play_piece = opened.play_piece;
}

-- only bytes that were sent came in between
grew_sent : (tells : Type 0) (o m n : Line) (got put more : List ℕ) → Grew tells o m got put → Grew tells m n [] more → Grew tells o n got (put ++ more)
grew_sent tells o m n got put more first second =
    subst (λ (t : List ℕ). Grew tells o n t (put ++ more)) (append-nil got) (grew_then tells o m n got put [] more first second)

-- the state of a recording that received nothing yet, and of one that goes on
abbrev pub first_station : Link → (mark : ℕ) → Inbox → (count : ℕ) → (p r : Drain) → Station
first_station m mark i count p r = station (talk m.wire m.clock (first_pulse mark)) i (reel catching (fresh_tape count) p r)

abbrev pub seen_of : Station → Outside
seen_of n = outside n.talk.wire n.talk.clock n.inlet n.reel.output

-- a recording whose connection sent more
abbrev pub seen_at : Line → Station → Outside
seen_at x n = outside x n.talk.clock n.inlet n.reel.output

pub filled : (k : DeviceTells) (o : Outside) (m : Link) (x : Line) (mark : ℕ) (r : Drain) (n : Station) (w : Task) (terms : Terms) (last : List ℕ)
    → Opened k.wire (link_of o) m (setup_words w.address w.query o.inlet.port) mark terms
    → (course : Course k (first_station m mark o.inlet w.count o.output r) n w.address terms)
    → n.reel.tape.left ≡ 0 → Grew k.wire n.talk.wire x [] last
    → Filled k o (seen_at x n) w terms n.talk.pulse last (gap_lines (bytes_of w.count) (handed_up catching course.reels.wound.arrivals))
filled k o m x mark r n w terms last opened course full sent =
    let ds = course.reels.wound.arrivals in
    let is = catches course.reels.datagrams ds course.reels.wound.read in
    record {
      mark = mark;
      moments = course.moments;
      got = opened.first ++ opened.second;
      opening = opening k.wire (link_of o) m (setup_words w.address w.query o.inlet.port) mark terms opened;
      requests = grew_sent k.wire o.wire n.talk.wire x (opened.first ++ opened.second)
          (setup_request w.address w.query o.inlet.port ++ play_request w.address terms.stream terms.session
          ++ options_sent w.address terms (first_pulse mark) course.moments) last
          (grew_sent k.wire o.wire m.wire n.talk.wire (opened.first ++ opened.second)
          (setup_request w.address w.query o.inlet.port ++ play_request w.address terms.stream terms.session)
          (options_sent w.address terms (first_pulse mark) course.moments) opened.content course.talks.asked) sent;
      pulse_is = course.talks.pulse;
      clock = reads-first o.clock m.clock n.talk.clock mark course.moments opened.reads course.talks.clock;
      port = course.reels.port;
      datagrams = course.reels.datagrams;
      arrivals = ds;
      given = course.reels.given;
      timed = course.reels.timed;
      counted = course.reels.counted;
      read = course.reels.wound.read;
      enough = omega (arith, course.reels.wound.taped.left, full, ap (λ (items : List Item). length (packets_in items)) is);
      written = subst (λ (items : List Item). PutAll k.output o.output n.reel.output (take (bytes_of w.count) (packets_in items))) is
          course.reels.wound.taped.written;
      lines_are = ap (λ (items : List Item). gap_lines (bytes_of w.count) items) is;
    }

pub ended_receiving : (k : DeviceTells) (o : Outside) (m : Link) (mark : ℕ) (r : Drain) (n : Station) (w : Task) (terms : Terms) (end : RecordEnd)
    → Opened k.wire (link_of o) m (setup_words w.address w.query o.inlet.port) mark terms
    → (stopped : Stopped k (first_station m mark o.inlet w.count o.output r) n w.address terms (turn_limit w.count) end)
    → EndedReceiving k o (seen_of n) w (gap_lines (bytes_of w.count) stopped.reels.wound.handed) end
ended_receiving k o m mark r n w terms end opened stopped =
    let wound = stopped.reels.wound in
    let limit = turn_limit w.count in
    let readings = length stopped.talks.moments in
    record {
      terms = terms;
      mark = mark;
      moments = stopped.talks.moments;
      got = opened.first ++ opened.second;
      opening = opening k.wire (link_of o) m (setup_words w.address w.query o.inlet.port) mark terms opened;
      part = stopped.talks.part;
      rest = stopped.talks.rest;
      whole = stopped.talks.whole;
      sent_all = sent-after o.wire.send_faults m.wire.send_faults n.talk.wire.send_faults stopped.talks.rest opened.faults.send_faults
          stopped.talks.sent_all;
      requests = grew_sent k.wire o.wire m.wire n.talk.wire (opened.first ++ opened.second)
          (setup_request w.address w.query o.inlet.port ++ play_request w.address terms.stream terms.session) stopped.talks.part
          opened.content stopped.talks.asked;
      clock = reads-first o.clock m.clock n.talk.clock mark stopped.talks.moments opened.reads stopped.talks.clock;
      port = stopped.reels.port;
      datagrams = stopped.reels.datagrams;
      arrivals = wound.arrivals;
      given = stopped.reels.given;
      timed = stopped.timed;
      counted = stopped.counted;
      read = wound.read;
      handed = wound.handed;
      left_out = wound.left_out;
      items = sym (catches stopped.reels.datagrams wound.arrivals wound.read) ∙ wound.whole;
      all = wound.all;
      written = wound.written;
      lines_are = refl;
      cause = cause-after limit limit 0 readings readings o.wire m.wire n.talk.wire o.inlet o.inlet n.inlet end (omega arith) (omega arith)
          opened.faults.send_faults refl (turns-none o.inlet) stopped.cause;
      faults = λ other.
          let calm = stopped.faults other in
          (faults_then o.wire m.wire n.talk.wire opened.faults calm.0, calm.1);
    }

-- what an end of each part comes to
opening-records : (k : DeviceTells) (o n : Outside) (w : Task) (lines : List ℕ) (end : RecordEnd) → EndedOpening k o n w lines end
    → Records k o n w lines end
opening-records k o n w lines Done is = elim is.ends [ inl s ↦ absurd s.ends | inr s ↦ absurd s.ends ]
opening-records k o n w lines OutputFault is = elim is.ends [ inl s ↦ absurd s.ends | inr s ↦ absurd s.ends ]
opening-records k o n w lines (Refused code) is = is
opening-records k o n w lines BadReply is = is
opening-records k o n w lines Silent is = inl is
opening-records k o n w lines PeerFault is = inl is
opening-records k o n w lines Closed is = is
opening-records k o n w lines OutOfMemory is = elim is.ends [ inl s ↦ absurd s.ends | inr s ↦ absurd s.ends ]

receiving-records : (k : DeviceTells) (o n : Outside) (w : Task) (lines : List ℕ) (end : RecordEnd) → EndedReceiving k o n w lines end
    → Records k o n w lines end
receiving-records k o n w lines Done is = absurd is.cause
receiving-records k o n w lines OutputFault is = is
receiving-records k o n w lines (Refused code) is = absurd is.cause
receiving-records k o n w lines BadReply is = absurd is.cause
receiving-records k o n w lines Silent is = inr is
receiving-records k o n w lines PeerFault is = inr (inl is)
receiving-records k o n w lines Closed is = absurd is.cause
receiving-records k o n w lines OutOfMemory is = absurd is.cause

leaving-records : (k : DeviceTells) (o n : Outside) (w : Task) (lines : List ℕ) (end : RecordEnd) → EndedLeaving k o n w lines end
    → Records k o n w lines end
leaving-records k o n w lines Done is = absurd is.cause
leaving-records k o n w lines OutputFault is = absurd is.cause
leaving-records k o n w lines (Refused code) is = absurd is.cause
leaving-records k o n w lines BadReply is = absurd is.cause
leaving-records k o n w lines Silent is = absurd is.cause
leaving-records k o n w lines PeerFault is = inr (inr is)
leaving-records k o n w lines Closed is = absurd is.cause
leaving-records k o n w lines OutOfMemory is = absurd is.cause

pub said-of : (tells : Type 0) (o n : Drain) (lines : List ℕ) (muted : Bool) → Tells tells o n lines false muted → Says tells o n lines
said-of tells o n lines false told = inl told
said-of tells o n lines true told = inr told

-- the run ended at its first requests, while it received, or at its last request
pub runs_opening : (k : DeviceTells) (o n : Outside) (r s : Drain) (w : Task) (muted : Bool) (end : RecordEnd)
    → EndsOpening k.wire (link_of o) (link_of n) (setup_words w.address w.query o.inlet.port) end → n.inlet ≡ o.inlet → n.output ≡ o.output
    → Tells k.errors r s [] false muted → Runs k o n r s w muted (Err end)
runs_opening k o n r s w muted end ends inlet output told = record {
  lines = [];
  records = opening-records k o n w [] end (record { ends = ends; inlet = inlet; output = output; lines_are = refl });
  told = told;
}

pub runs_receiving : (k : DeviceTells) (o : Outside) (m : Link) (mark : ℕ) (r : Drain) (n : Station) (w : Task) (terms : Terms) (end : RecordEnd)
    → Opened k.wire (link_of o) m (setup_words w.address w.query o.inlet.port) mark terms
    → Stopped k (first_station m mark o.inlet w.count o.output r) n w.address terms (turn_limit w.count) end
    → Runs k o (seen_of n) r n.reel.errors w n.reel.tape.muted (Err end)
runs_receiving k o m mark r n w terms end opened stopped = record {
  lines = gap_lines (bytes_of w.count) stopped.reels.wound.handed;
  records = receiving-records k o (seen_of n) w (gap_lines (bytes_of w.count) stopped.reels.wound.handed) end
      (ended_receiving k o m mark r n w terms end opened stopped);
  told = stopped.reels.wound.told;
}

-- how the last request ends a run
leaves-cause : (t : Type 0) (o w x : Line) (request : List ℕ) (end : RecordEnd) → w.send_faults ≡ o.send_faults → LeavesNot t w x request end
    → LeaveCause o x end
leaves-cause t o w x request Done same is = is
leaves-cause t o w x request OutputFault same is = is
leaves-cause t o w x request (Refused code) same is = is
leaves-cause t o w x request BadReply same is = is
leaves-cause t o w x request Silent same is = is
leaves-cause t o w x request PeerFault same is = subst (λ (k : ℕ). Rises k x.send_faults) same is.send_faults
leaves-cause t o w x request Closed same is = is
leaves-cause t o w x request OutOfMemory same is = is

record SentPart (t : Type 0) (w x : Line) (request : List ℕ) : Type 0 where
  part : List ℕ
  rest : List ℕ
  whole : request ≡ part ++ rest
  content : Grew t w x [] part
  receives : x.receive_faults ≡ w.receive_faults

sent-part : (t : Type 0) (w x : Line) (request : List ℕ) (end : RecordEnd) → LeavesNot t w x request end → SentPart t w x request
sent-part t w x request Done is = absurd is
sent-part t w x request OutputFault is = absurd is
sent-part t w x request (Refused code) is = absurd is
sent-part t w x request BadReply is = absurd is
sent-part t w x request Silent is = absurd is
sent-part t w x request PeerFault is = record { part = is.part; rest = is.rest; whole = is.whole; content = is.content; receives = is.receive_faults }
sent-part t w x request Closed is = absurd is
sent-part t w x request OutOfMemory is = absurd is

pub runs_leaving : (k : DeviceTells) (o : Outside) (m : Link) (x : Line) (mark : ℕ) (r : Drain) (n : Station) (w : Task) (terms : Terms)
    (result : Result (Unit {0}) RecordEnd) → Opened k.wire (link_of o) m (setup_words w.address w.query o.inlet.port) mark terms
    → Course k (first_station m mark o.inlet w.count o.output r) n w.address terms
    → n.reel.tape.left ≡ 0 → Leaves k.wire n.talk.wire x w.address terms n.talk.pulse.cseq result
    → Runs k o (seen_at x n) r n.reel.errors w n.reel.tape.muted result
runs_leaving k o m x mark r n w terms (Ok done) opened course full sent = record {
  lines = gap_lines (bytes_of w.count) (handed_up catching course.reels.wound.arrivals);
  records = record {
    terms = terms;
    pulse = n.talk.pulse;
    filled = filled k o m x mark r n w terms (teardown_request w.address terms.stream n.talk.pulse.cseq terms.session) opened course full sent.content;
    faults = (
      faults_then o.wire n.talk.wire x (faults_then o.wire m.wire n.talk.wire opened.faults course.talks.faults)
          (record { receive_faults = sent.counts.receive_faults; send_faults = sent.counts.send_faults }),
      course.reels.faults,
    );
  };
  told = course.reels.wound.taped.told;
}
runs_leaving k o m x mark r n w terms (Err end) opened course full is =
    let request = teardown_request w.address terms.stream n.talk.pulse.cseq terms.session in
    let s = sent-part k.wire n.talk.wire x request end is in
    let lines = gap_lines (bytes_of w.count) (handed_up catching course.reels.wound.arrivals) in
    record {
      lines = lines;
      records = leaving-records k o (seen_at x n) w lines end (record {
        terms = terms;
        pulse = n.talk.pulse;
        part = s.part;
        rest = s.rest;
        whole = s.whole;
        filled = filled k o m x mark r n w terms s.part opened course full s.content;
        cause = leaves-cause k.wire o.wire n.talk.wire x request end (course.talks.faults.send_faults ∙ opened.faults.send_faults) is;
        faults = (s.receives ∙ course.talks.faults.receive_faults ∙ opened.faults.receive_faults, course.reels.faults);
      });
      told = course.reels.wound.taped.told;
    }

-- the line of the end follows
pub ends : (k : DeviceTells) (o n : Outside) (r m s : Drain) (w : Task) (muted silent : Bool) (result : Result (Unit {0}) RecordEnd) (end : RecordEnd)
    → end ≡ end_for result → Runs k o n r m w muted result → Tells k.errors m s (line_of (outcome_of end)) muted silent
    → Ends k.errors r s end (λ (lines : List ℕ). Records k o n w lines end)
ends k o n r m s w muted silent result end is run told = record {
  lines = run.lines;
  comes = subst (λ (x : RecordEnd). Records k o n w run.lines x) (sym is) run.records;
  said = said-of k.errors r s (run.lines ++ line_of (outcome_of end)) silent
      (tells-then k.errors r m s run.lines (line_of (outcome_of end)) false muted silent run.told told);
}

pub ends_unbegun : (k : DeviceTells) (o : Outside) (r s : Drain) (w : Task) (end : RecordEnd) → end ≡ OutOfMemory
    → Says k.errors r s (line_of outcomes.OutOfMemory) → Ends k.errors r s end (λ (lines : List ℕ). Records k o o w lines end)
ends_unbegun k o r s w end is said =
    subst (λ (x : RecordEnd). Ends k.errors r s x (λ (lines : List ℕ). Records k o o w lines x)) (sym is) (record {
      lines = [];
      comes = record { same = refl; lines_are = refl };
      said = said;
    })

abbrev tape_of : ℕ → Bool → Tape
tape_of left muted = record { left = left; muted = muted }

tape-fresh : (count : ℕ) (t : Tape) → t.left ≡ bytes_of count → t.muted ≡ false → t ≡ fresh_tape count
tape-fresh count t left muted = ap (λ (k : ℕ). tape_of k t.muted) left ∙ ap (λ (b : Bool). tape_of (bytes_of count) b) muted

-- the state of a fresh recorder
abbrev pub made_station : Link → (mark cseq : ℕ) → Inbox → Catch → Tape → (p r : Drain) → Station
made_station m mark cseq i c v p r = station (talk m.wire m.clock (numbered mark cseq)) i (reel c v p r)

station-first : (m : Link) (mark cseq : ℕ) (i : Inbox) (c : Catch) (v : Tape) (p r : Drain) (count : ℕ) → cseq ≡ 3 → c ≡ catching
    → v.left ≡ bytes_of count → v.muted ≡ false → made_station m mark cseq i c v p r ≡ first_station m mark i count p r
station-first m mark cseq i c v p r count first new left quiet =
    ap (λ (k : ℕ). made_station m mark k i c v p r) first ∙ ap (λ (x : Catch). made_station m mark 3 i x v p r) new
    ∙ ap (λ (t : Tape). made_station m mark 3 i catching t p r) (tape-fresh count v left quiet)

-- a run, by what its calls come to
pub run_opening : (k : DeviceTells) (o : Outside) (n : Link) (r : Drain) (w : Task) (port : ℕ) (muted : Bool) (end : RecordEnd)
    (result : Result (Unit {0}) RecordEnd) → result ≡ Err end → port ≡ o.inlet.port → muted ≡ false
    → EndsOpening k.wire (link_of o) n (setup_words w.address w.query port) end
    → Runs k o (outside n.wire n.clock o.inlet o.output) r r w muted result
run_opening k o n r w port muted end result is at quiet ends =
    let after = outside n.wire n.clock o.inlet o.output in
    subst (λ (y : Result (Unit {0}) RecordEnd). Runs k o after r r w muted y) (sym is)
    (runs_opening k o after r r w muted end
    (subst (λ (p : ℕ). EndsOpening k.wire (link_of o) n (setup_words w.address w.query p) end) at ends) refl refl
    (subst (λ (b : Bool). Tells k.errors r r [] false b) (sym quiet) (tells-none k.errors r false)))

pub run_receiving : (k : DeviceTells) (o : Outside) (m : Link) (mark cseq : ℕ) (c : Catch) (v : Tape) (r : Drain) (n : Station) (w : Task)
    (other : List ℕ) (port turns : ℕ) (terms : Terms) (end : RecordEnd) (result : Result (Unit {0}) RecordEnd)
    → result ≡ Err end → port ≡ o.inlet.port → cseq ≡ 3 → c ≡ catching → v.left ≡ bytes_of w.count → v.muted ≡ false → turns ≡ turn_limit w.count
    → other ≡ w.address → Opened k.wire (link_of o) m (setup_words w.address w.query port) mark terms
    → Stopped k (made_station m mark cseq o.inlet c v o.output r) n other terms turns end
    → Runs k o (seen_of n) r n.reel.errors w n.reel.tape.muted result
run_receiving k o m mark cseq c v r n w other port turns terms end result is at first new left quiet limit same opened stopped =
    subst (λ (z : Result (Unit {0}) RecordEnd). Runs k o (seen_of n) r n.reel.errors w n.reel.tape.muted z) (sym is)
    (runs_receiving k o m mark r n w terms end
    (subst (λ (p : ℕ). Opened k.wire (link_of o) m (setup_words w.address w.query p) mark terms) at opened)
    (subst (λ (x : Station). Stopped k x n w.address terms (turn_limit w.count) end)
    (station-first m mark cseq o.inlet c v o.output r w.count first new left quiet)
    (subst (λ (l : ℕ). Stopped k (made_station m mark cseq o.inlet c v o.output r) n w.address terms l end) limit
    (subst (λ (a : List ℕ). Stopped k (made_station m mark cseq o.inlet c v o.output r) n a terms turns end) same stopped))))

pub run_leaving : (k : DeviceTells) (o : Outside) (m : Link) (x : Line) (mark cseq : ℕ) (c : Catch) (v : Tape) (r : Drain) (n : Station) (w : Task)
    (other third : List ℕ) (port : ℕ) (terms : Terms) (result : Result (Unit {0}) RecordEnd) → port ≡ o.inlet.port → cseq ≡ 3 → c ≡ catching
    → v.left ≡ bytes_of w.count → v.muted ≡ false → other ≡ w.address → third ≡ w.address
    → Opened k.wire (link_of o) m (setup_words w.address w.query port) mark terms
    → Course k (made_station m mark cseq o.inlet c v o.output r) n other terms
    → n.reel.tape.left ≡ 0 → Leaves k.wire n.talk.wire x third terms n.talk.pulse.cseq result
    → Runs k o (seen_at x n) r n.reel.errors w n.reel.tape.muted result
run_leaving k o m x mark cseq c v r n w other third port terms result at first new left quiet same again opened course full leaves =
    runs_leaving k o m x mark r n w terms result
    (subst (λ (p : ℕ). Opened k.wire (link_of o) m (setup_words w.address w.query p) mark terms) at opened)
    (subst (λ (y : Station). Course k y n w.address terms) (station-first m mark cseq o.inlet c v o.output r w.count first new left quiet)
    (subst (λ (a : List ℕ). Course k (made_station m mark cseq o.inlet c v o.output r) n a terms) same course))
    full (subst (λ (a : List ℕ). Leaves k.wire n.talk.wire x a terms n.talk.pulse.cseq result) again leaves)

-- a run by a page of this address and this query
pub runs_at : (k : DeviceTells) (o n : Outside) (r s : Drain) (address other query another : List ℕ) (count : ℕ) (muted : Bool)
    (result : Result (Unit {0}) RecordEnd) → other ≡ address → another ≡ query → Runs k o n r s (task other another count) muted result
    → Runs k o n r s (task address query count) muted result
runs_at k o n r s address other query another count muted result same again run =
    subst (λ (x : List ℕ). Runs k o n r s (task x query count) muted result) same
    (subst (λ (x : List ℕ). Runs k o n r s (task other x count) muted result) again run)
