-- Turns of receiving, one after another.
use Rattle.std.proofs.Common.{◌≡◌, inl, inr, ℕ, ◌+◌, ◌<◌, ◌≤◌, ◌⊎◌, List, [], ◌∷◌, ◌++◌, length, refl, sym, ap, ◌∙◌, subst, arith, append_assoc, append-nil, length-append, Result, Ok, Err}
use Rattle.satip_world.specs.Counts.{Rises}
use Rattle.satip_world.specs.Dials.{Dial, Reads}
use Rattle.satip_world.specs.Lines.{Line, Grew}
use Rattle.satip_world.specs.Inboxes.{Inbox}
use Rattle.satip_rtp_receiver.specs.Catching.{Catch, catching}
use Rattle.satip_client.proofs.PulseLemmas.{grew_then, grew_none, faults_then}
use Rattle.satip_client.specs.Leases.{Terms}
use Rattle.satip_client.specs.Pulses.{Talk, after_reading, sent_at, Beat, BeatFailed, Beats}
use Rattle.satip_client.specs.declared.ending.RecordEnd.{RecordEnd}
use Rattle.satip_client.specs.declared.ending.RecordEnd.TheVariants.{Done, OutputFault, Refused, BadReply, Silent, PeerFault, Closed, OutOfMemory}
use Rattle.satip_client.specs.declared.pulse.Pulse.{Pulse}
use Rattle.satip_recorder.specs.Arrivals.{TookTurns}
use Rattle.satip_recorder.specs.Outsides.{DeviceTells}
use Rattle.satip_recorder.specs.Courses.{Reel, Station, station, ReadsAll, after_readings, options_sent, Beaten, BeatenUntil, Caught, CatchCause, Cause, Catches, Course, Stopped, Turns, TakesTurn, IsReady}
use Rattle.satip_recorder.proofs.ArrivalLemmas.{turns-then, turns-fewer, turns-none}
use Rattle.satip_recorder.proofs.WoundLemmas.{caught-then, caught-until, wound-none, wound-all}

readings-then : (timeout : ℕ) (pulse : Pulse) (xs ys : List ℕ)
    → after_readings timeout pulse (xs ++ ys) ≡ after_readings timeout (after_readings timeout pulse xs) ys
readings-then timeout pulse [] ys = refl
readings-then timeout pulse (x ∷ xs) ys = readings-then timeout (after_reading timeout pulse x) xs ys

options-then : (address : List ℕ) (terms : Terms) (pulse : Pulse) (xs ys : List ℕ)
    → options_sent address terms pulse (xs ++ ys)
    ≡ options_sent address terms pulse xs ++ options_sent address terms (after_readings terms.timeout pulse xs) ys
options-then address terms pulse [] ys = refl
options-then address terms pulse (x ∷ xs) ys =
    let next = after_reading terms.timeout pulse x in
    ap (λ (t : List ℕ). sent_at address terms pulse x ++ t) (options-then address terms next xs ys)
    ∙ sym (append_assoc (sent_at address terms pulse x) (options_sent address terms next xs)
    (options_sent address terms (after_readings terms.timeout next xs) ys))

reads-then : (o m n : Dial) (xs ys : List ℕ) → ReadsAll o m xs → ReadsAll m n ys → ReadsAll o n (xs ++ ys)
reads-then o m n xs ys first second = record {
  told = λ told. first.told (second.told told);
  readings = λ told. second.readings told ∙ ap (λ (t : List ℕ). t ++ ys) (first.readings (second.told told)) ∙ append_assoc o.readings xs ys;
}

asked-then : (address : List ℕ) (terms : Terms) (p q : Pulse) (xs ys : List ℕ) → q ≡ after_readings terms.timeout p xs
    → options_sent address terms p xs ++ options_sent address terms q ys ≡ options_sent address terms p (xs ++ ys)
asked-then address terms p q xs ys is =
    ap (λ (x : Pulse). options_sent address terms p xs ++ options_sent address terms x ys) is ∙ sym (options-then address terms p xs ys)

beaten-then : (tells : Type 0) (a m b : Talk) (address : List ℕ) (terms : Terms) (xs ys : List ℕ) → Beaten tells a m address terms xs
    → Beaten tells m b address terms ys → Beaten tells a b address terms (xs ++ ys)
beaten-then tells a m b address terms xs ys first second = record {
  clock = reads-then a.clock m.clock b.clock xs ys first.clock second.clock;
  pulse = second.pulse ∙ ap (λ (p : Pulse). after_readings terms.timeout p ys) first.pulse ∙ sym (readings-then terms.timeout a.pulse xs ys);
  asked = subst (λ (t : List ℕ). Grew tells a.wire b.wire [] t) (asked-then address terms a.pulse m.pulse xs ys first.pulse)
      (grew_then tells a.wire m.wire b.wire [] (options_sent address terms a.pulse xs) [] (options_sent address terms m.pulse ys)
      first.asked second.asked);
  faults = faults_then a.wire m.wire b.wire first.faults second.faults;
}

rises-from : (o m n : ℕ) → m ≡ o → Rises m n → Rises o n
rises-from o m n same rises = subst (λ (k : ℕ). Rises k n) same rises

-- all was sent unless a send failed, from an earlier count of faults on
pub sent-after : (o m n : ℕ) (rest : List ℕ) → m ≡ o → Rises m n ⊎ (rest ≡ []) → Rises o n ⊎ (rest ≡ [])
sent-after o m n rest same (inl rises) = inl (rises-from o m n same rises)
sent-after o m n rest same (inr none) = inr none

beaten-until : (tells : Type 0) (a m b : Talk) (address : List ℕ) (terms : Terms) (xs : List ℕ) → Beaten tells a m address terms xs
    → BeatenUntil tells m b address terms → BeatenUntil tells a b address terms
beaten-until tells a m b address terms xs first second =
    let sent = options_sent address terms a.pulse xs in
    record {
      moments = xs ++ second.moments;
      clock = reads-then a.clock m.clock b.clock xs second.moments first.clock second.clock;
      part = sent ++ second.part;
      rest = second.rest;
      whole = sym (asked-then address terms a.pulse m.pulse xs second.moments first.pulse)
          ∙ ap (λ (t : List ℕ). sent ++ t) second.whole ∙ sym (append_assoc sent second.part second.rest);
      asked = grew_then tells a.wire m.wire b.wire [] sent [] second.part first.asked second.asked;
      sent_all = sent-after a.wire.send_faults m.wire.send_faults b.wire.send_faults second.rest first.faults.send_faults second.sent_all;
    }

beaten-all : (tells : Type 0) (a b : Talk) (address : List ℕ) (terms : Terms) (xs : List ℕ) → Beaten tells a b address terms xs
    → BeatenUntil tells a b address terms
beaten-all tells a b address terms xs first = record {
  moments = xs;
  clock = first.clock;
  part = options_sent address terms a.pulse xs;
  rest = [];
  whole = sym (append-nil (options_sent address terms a.pulse xs));
  asked = first.asked;
  sent_all = inr refl;
}

beaten-none : (tells : Type 0) (a : Talk) (address : List ℕ) (terms : Terms) → Beaten tells a a address terms []
beaten-none tells a address terms = record {
  clock = record { told = λ told. told; readings = λ _. sym (append-nil a.clock.readings) };
  pulse = refl;
  asked = grew_none tells a.wire;
  faults = record { receive_faults = refl; send_faults = refl };
}

-- one reading
beaten-one : (tells : Type 0) (o n : Talk) (address : List ℕ) (terms : Terms) (moment : ℕ) → Reads o.clock n.clock moment
    → Beat tells o n address terms moment → Beaten tells o n address terms (moment ∷ [])
beaten-one tells o n address terms moment reads beat = record {
  clock = record { told = reads.told; readings = reads.readings };
  pulse = beat.pulse;
  asked = subst (λ (t : List ℕ). Grew tells o.wire n.wire [] t) (sym (append-nil (sent_at address terms o.pulse moment))) beat.content;
  faults = beat.faults;
}

beaten-failed : (tells : Type 0) (o n : Talk) (address : List ℕ) (terms : Terms) (moment : ℕ) → Reads o.clock n.clock moment
    → BeatFailed tells o.wire n.wire (sent_at address terms o.pulse moment) → BeatenUntil tells o n address terms
beaten-failed tells o n address terms moment reads beat = record {
  moments = moment ∷ [];
  clock = record { told = reads.told; readings = reads.readings };
  part = beat.part;
  rest = beat.rest;
  whole = append-nil (sent_at address terms o.pulse moment) ∙ beat.whole;
  asked = beat.content;
  sent_all = inl beat.rose;
}

-- nothing more came
caught-nothing : (tells tells_output tells_errors : Type 0) (i : Inbox) (o : Reel) → Caught tells tells_output tells_errors i i o o 0
caught-nothing tells tells_output tells_errors i o = record {
  port = refl;
  datagrams = [];
  given = λ _. sym (append-nil i.given);
  faults = refl;
  took = turns-none i;
  timed = omega arith;
  counted = omega arith;
  wound = wound-none tells_output tells_errors o;
}

cause-of : (limit readings : ℕ) (a b : Line) (i j : Inbox) (end : RecordEnd) → CatchCause i j end → Cause limit readings a b i j end
cause-of limit readings a b i j Done cause = cause
cause-of limit readings a b i j OutputFault cause = tt
cause-of limit readings a b i j (Refused code) cause = cause
cause-of limit readings a b i j BadReply cause = cause
cause-of limit readings a b i j Silent cause = absurd cause
cause-of limit readings a b i j PeerFault cause = inr cause
cause-of limit readings a b i j Closed cause = cause
cause-of limit readings a b i j OutOfMemory cause = cause

-- an end by the inlet other than `PeerFault` comes with no fault of it
calm-inlet : (i j : Inbox) (end : RecordEnd) → CatchCause i j end → (end ≡ PeerFault → ⊥) → j.faults ≡ i.faults
calm-inlet i j Done cause other = absurd cause
calm-inlet i j OutputFault cause other = cause
calm-inlet i j (Refused code) cause other = absurd cause
calm-inlet i j BadReply cause other = absurd cause
calm-inlet i j Silent cause other = absurd cause
calm-inlet i j PeerFault cause other = absurd (other refl)
calm-inlet i j Closed cause other = absurd cause
calm-inlet i j OutOfMemory cause other = absurd cause

-- after `k` turns with a reading each
pub cause-after : (limit rest k all more : ℕ) (a m b : Line) (i l j : Inbox) (end : RecordEnd) → limit ≤ k + rest → all ≡ k + more
    → m.send_faults ≡ a.send_faults → l.faults ≡ i.faults → TookTurns k i l → Cause rest more m b l j end → Cause limit all a b i j end
cause-after limit rest k all more a m b i l j Done less sum sends faults took cause = cause
cause-after limit rest k all more a m b i l j OutputFault less sum sends faults took cause = cause
cause-after limit rest k all more a m b i l j (Refused code) less sum sends faults took cause = cause
cause-after limit rest k all more a m b i l j BadReply less sum sends faults took cause = cause
cause-after limit rest k all more a m b i l j Silent less sum sends faults took cause =
    (omega (arith, less, sum, cause.0), turns-fewer (k + rest) limit i j less (turns-then k rest i l j took cause.1))
cause-after limit rest k all more a m b i l j PeerFault less sum sends faults took (inl rises) =
    inl (rises-from a.send_faults m.send_faults b.send_faults sends rises)
cause-after limit rest k all more a m b i l j PeerFault less sum sends faults took (inr rises) =
    inr (rises-from i.faults l.faults j.faults faults rises)
cause-after limit rest k all more a m b i l j Closed less sum sends faults took cause = cause
cause-after limit rest k all more a m b i l j OutOfMemory less sum sends faults took cause = cause

-- one turn after others
pub course-then : (k : DeviceTells) (o m n : Station) (address : List ℕ) (terms : Terms) → Course k o m address terms → 0 < m.reel.tape.left
    → Course k m n address terms → Course k o n address terms
course-then k o m n address terms first some second = record {
  moments = first.moments ++ second.moments;
  talks = beaten-then k.wire o.talk m.talk n.talk address terms first.moments second.moments first.talks second.talks;
  reels = subst (λ (turns : ℕ). Caught k.inlet k.output k.errors o.inlet n.inlet o.reel n.reel turns) (sym (length-append first.moments second.moments))
      (caught-then k.inlet k.output k.errors o.inlet m.inlet n.inlet o.reel m.reel n.reel (length first.moments) (length second.moments)
      first.reels some second.reels);
}

pub course-next : (k : DeviceTells) (o m n : Station) (address : List ℕ) (terms : Terms) → (first : Course k o m address terms)
    → 0 < m.reel.tape.left → (second : (c : Course k m n address terms) × (length c.moments ≡ 1))
    → (c : Course k o n address terms) × (length c.moments ≡ length first.moments + 1)
unfolding course-then
course-next k o m n address terms first some second =
    (course-then k o m n address terms first some second.0, omega (arith, length-append first.moments second.0.moments, second.1))

pub stopped-after : (k : DeviceTells) (o m n : Station) (address : List ℕ) (terms : Terms) (limit rest : ℕ) (end : RecordEnd)
    (result : Result (Unit {0}) RecordEnd) → (first : Course k o m address terms) → 0 < m.reel.tape.left
    → limit ≤ length first.moments + rest → result ≡ Err end → Stopped k m n address terms rest end → Turns k o n address terms limit result
unfolding beaten-until
stopped-after k o m n address terms limit rest end result first some less is second =
    let reels = caught-until k.inlet k.output k.errors o.inlet m.inlet n.inlet o.reel m.reel n.reel (length first.moments) end
    first.reels some second.reels in
    let turns = length-append first.moments second.talks.moments in
    subst (λ (r : Result (Unit {0}) RecordEnd). Turns k o n address terms limit r) (sym is) (record {
      talks = beaten-until k.wire o.talk m.talk n.talk address terms first.moments first.talks second.talks;
      reels = reels.0;
      timed = omega (arith, turns, reels.1, first.reels.timed, second.timed);
      counted = omega (arith, turns, first.reels.counted, second.counted);
      cause = cause-after limit rest (length first.moments) (length (first.moments ++ second.talks.moments)) (length second.talks.moments)
          o.talk.wire m.talk.wire n.talk.wire o.inlet m.inlet n.inlet end less turns first.talks.faults.send_faults
          first.reels.faults first.reels.took second.cause;
      faults = λ other.
          let calm = second.faults other in
          (faults_then o.talk.wire m.talk.wire n.talk.wire first.talks.faults calm.0, calm.1 ∙ first.reels.faults);
    })

pub course-begun : (k : DeviceTells) (o : Station) (address : List ℕ) (terms : Terms)
    → (c : Course k o o address terms) × (length c.moments ≡ 0)
course-begun k o address terms = (
  record {
    moments = [];
    talks = beaten-none k.wire o.talk address terms;
    reels = caught-nothing k.inlet k.output k.errors o.inlet o.reel;
  },
  refl,
)

-- one turn
pub stopped-catching : (k : DeviceTells) (o n : Station) (address : List ℕ) (terms : Terms) (limit : ℕ) (end : RecordEnd) (moment : ℕ)
    → Reads o.talk.clock n.talk.clock moment → Beat k.wire o.talk n.talk address terms moment
    → Catches k.inlet k.output k.errors o.inlet n.inlet o.reel n.reel (Err end) → Stopped k o n address terms limit end
unfolding beaten-all
stopped-catching k o n address terms limit end moment reads beat caught = record {
  talks = beaten-all k.wire o.talk n.talk address terms (moment ∷ []) (beaten-one k.wire o.talk n.talk address terms moment reads beat);
  reels = caught.0;
  timed = caught.1;
  counted = caught.2;
  cause = cause-of limit (length (moment ∷ [])) o.talk.wire n.talk.wire o.inlet n.inlet end caught.3;
  faults = λ other. (beat.faults, calm-inlet o.inlet n.inlet end caught.3 other);
}

-- all turns were taken
pub stopped-silent : (k : DeviceTells) (o n : Station) (address : List ℕ) (terms : Terms) (limit : ℕ) → (course : Course k o n address terms)
    → limit ≤ length course.moments → 0 < n.reel.tape.left → Stopped k o n address terms limit Silent
unfolding beaten-all
stopped-silent k o n address terms limit course all some = record {
  talks = beaten-all k.wire o.talk n.talk address terms course.moments course.talks;
  reels = record {
    port = course.reels.port;
    datagrams = course.reels.datagrams;
    given = course.reels.given;
    wound = wound-all k.output k.errors o.reel n.reel Silent course.reels.datagrams course.reels.wound some (λ bytes puts. puts);
  };
  timed = course.reels.timed;
  counted = course.reels.counted;
  cause = (all, turns-fewer (length course.moments) limit o.inlet n.inlet all course.reels.took);
  faults = λ other. (course.talks.faults, course.reels.faults);
}

-- the request that keeps the session alive wasn't sent whole
pub stopped-failed : (k : DeviceTells) (o n : Talk) (i : Inbox) (r : Reel) (address : List ℕ) (terms : Terms) (limit moment : ℕ)
    → 0 < r.tape.left → Reads o.clock n.clock moment → BeatFailed k.wire o.wire n.wire (sent_at address terms o.pulse moment)
    → Stopped k (station o i r) (station n i r) address terms limit PeerFault
stopped-failed k o n i r address terms limit moment some reads beat = record {
  talks = beaten-failed k.wire o n address terms moment reads beat;
  reels = record {
    port = refl;
    datagrams = [];
    given = λ _. sym (append-nil i.given);
    wound = wound-all k.output k.errors r r PeerFault [] (wound-none k.output k.errors r) some (λ bytes puts. puts);
  };
  timed = omega arith;
  counted = omega arith;
  cause = inl beat.rose;
  faults = λ other. absurd (other refl);
}

-- one turn, by what its parts come to
pub turn-taken : (k : DeviceTells) (o n : Station) (address : List ℕ) (terms : Terms) (limit : ℕ) (result : Result (Unit {0}) RecordEnd)
    → Beats k.wire o.talk n.talk address terms (Ok tt) → Catches k.inlet k.output k.errors o.inlet n.inlet o.reel n.reel result
    → TakesTurn k o n address terms limit result
turn-taken k o n address terms limit (Ok done) b caught = (
  record {
    moments = b.moment ∷ [];
    talks = beaten-one k.wire o.talk n.talk address terms b.moment b.reads b.beats;
    reels = caught;
  },
  refl,
)
turn-taken k o n address terms limit (Err end) b caught = stopped-catching k o n address terms limit end b.moment b.reads b.beats caught

stopped-beat : (k : DeviceTells) (o n : Talk) (i : Inbox) (r : Reel) (address : List ℕ) (terms : Terms) (limit : ℕ) (end : RecordEnd)
    → 0 < r.tape.left → Beats k.wire o n address terms (Err end) → Stopped k (station o i r) (station n i r) address terms limit end
stopped-beat k o n i r address terms limit Done some b = absurd b.beats
stopped-beat k o n i r address terms limit OutputFault some b = absurd b.beats
stopped-beat k o n i r address terms limit (Refused code) some b = absurd b.beats
stopped-beat k o n i r address terms limit BadReply some b = absurd b.beats
stopped-beat k o n i r address terms limit Silent some b = absurd b.beats
stopped-beat k o n i r address terms limit PeerFault some b = stopped-failed k o n i r address terms limit b.moment some b.reads b.beats
stopped-beat k o n i r address terms limit Closed some b = absurd b.beats
stopped-beat k o n i r address terms limit OutOfMemory some b = absurd b.beats

pub turn-failed : (k : DeviceTells) (o n : Talk) (i : Inbox) (r : Reel) (address : List ℕ) (terms : Terms) (limit : ℕ) (end : RecordEnd)
    (result : Result (Unit {0}) RecordEnd) → 0 < r.tape.left → result ≡ Err end → Beats k.wire o n address terms (Err end)
    → TakesTurn k (station o i r) (station n i r) address terms limit result
turn-failed k o n i r address terms limit end result some is b =
    subst (λ (x : Result (Unit {0}) RecordEnd). TakesTurn k (station o i r) (station n i r) address terms limit x) (sym is)
    (stopped-beat k o n i r address terms limit end some b)

-- a turn of a page with this address
pub turn_at : (k : DeviceTells) (o n : Station) (address other : List ℕ) (terms : Terms) (limit : ℕ) (result : Result (Unit {0}) RecordEnd)
    → other ≡ address → TakesTurn k o n other terms limit result → TakesTurn k o n address terms limit result
turn_at k o n address other terms limit result same turn =
    subst (λ (x : List ℕ). TakesTurn k o n x terms limit result) same turn

-- a new catcher can take a datagram
pub ready-new : (c : Catch) → c ≡ catching → IsReady c
ready-new c is = subst (λ (x : Catch). IsReady x) (sym is) (record {
  rests = record { unfinished = refl; few = omega arith };
  number = omega arith;
})
