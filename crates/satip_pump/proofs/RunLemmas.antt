-- A pump's run, answer by answer.
use Rattle.std.proofs.Common.{◌≡◌, ◌≢◌, ℕ, ◌+◌, ◌≤◌, ◌==◌, ◌⊎◌, Bool, true, false, if◌then◌else◌, List, [], ◌∷◌, ◌++◌, flat_map, Option, Some, None, option_map, Result, Ok, Err, refl, sym, ap, ◌∙◌, subst, append-nil, inl, inr, arith}
use Rattle.satip_base.specs.Streams.{Feed}
use Rattle.std.proofs.lemmas.Bool.Decides.{nat_tests}
use Rattle.satip_base.specs.Output.{Datagram, Output}
use Rattle.satip_base.specs.declared.entry.Taken.{Taken}
use Rattle.satip_base.specs.History.{entry, entries}
use Rattle.satip_base.specs.Lists.{Each}
use Rattle.satip_plain.specs.declared.answers.Answer.{Answer}
use Rattle.satip_plain.specs.declared.answers.Answer.TheVariants.{Replied, Get, Beat, Work as WorkIs, Pulled, Closed}
use Rattle.satip_plain.specs.declared.answers.Work.{Work}
use Rattle.satip_plain.specs.declared.answers.Work.TheVariants.{Tune, Nothing, Stopping}
use Rattle.satip_plain.specs.declared.events.Event.{Event}
use Rattle.satip_plain.specs.declared.events.Event.TheVariants.{Packet, Ended, Ask}
use Rattle.satip_plain.specs.Histories.{Item}
use Rattle.satip_plain.specs.declared.fault.ServiceFault.{ServiceFault}
use Rattle.satip_plain.specs.declared.fault.ServiceFault.TheVariants.{Spent as ServiceSpent, Want as ServiceWant}
use Rattle.satip_plain.specs.Calls.{Cause}
use Rattle.satip_plain.specs.Known.{Known, AddsAll}
use Rattle.satip_plain.specs.Suits.{Suits}
use Rattle.satip_plain.proofs.Growing.{adds_nothing, adds_then, adds_one, adds_no_more}
use Rattle.satip_world.specs.Deliveries.{Delivers}
use Rattle.satip_world.specs.Outboxes.{Outbox}
use Rattle.satip_world.specs.Recordings.{StoreView}
use Rattle.satip_world.proofs.DeliveryLemmas.{delivers_none}
use Rattle.satip_pump.specs.declared.ends.JobEnd.TheVariants.{Stopped, Spent, Want}
use Rattle.satip_pump.specs.declared.reading.Reading.{Reading}
use Rattle.satip_pump.specs.Ends.{ended_by}
use Rattle.satip_pump.specs.Buffers.{Buffered}
use Rattle.satip_pump.specs.Events.{MakesOne, MakesNone, datagrams_of}
use Rattle.satip_pump.specs.Loads.{is_of, Gives}
use Rattle.satip_plain.specs.Pumping.{Reel, Due, Asking, Feeding, Finished, fresh, tuned, after_work, work_told, moved, none_of, after_entry, IsFirst, IsDue, one_if_left, early_by, early_end, Pumps}
use Rattle.satip_pump.specs.PumpRuns.{RoseBy, last_from, PumpState, PumpRun}
use Rattle.satip_plain.specs.Pumping.{rest_of}
use Rattle.satip_pump.specs.Readings.{AreToldLeft, Stands, ReadsOn, GoesTo}
use Rattle.satip_pump.specs.Runs.{SoFar, PumpNow, Runs, Feeds, Fails, Answered}
use Rattle.satip_pump.specs.Works.{Works, Gave}
use Rattle.satip_pump.proofs.TickLemmas.{delivers_both, delivers_entry}
use Rattle.satip_pump.proofs.ReadingLemmas.{rose_less, rose_later, rose_none}

-- one part of a run after another
pub pumps_then : (front : ℕ) (recording : ℕ → Option (List ℕ)) (a b c : Due) (es fs : List Item) (m n : ℕ)
    → Pumps front recording a es b m → Pumps front recording b fs c n → Pumps front recording a (es ++ fs) c (m + n)
pumps_then front recording a b c [] fs m n first second =
    let P : Due → Type 0 = λ d. Pumps front recording d fs c n in
    let Q : ℕ → Type 0 = λ k. Pumps front recording a fs c k in
    let none = first.1 in
    let same : n ≡ m + n = omega arith in
    subst Q same (subst P first.0 second)
pumps_then front recording a b c (e ∷ es) fs m n first second =
    let k : ℕ = first.1.0 in
    let count = first.1.2 in (
      first.0,
      (k + n, pumps_then front recording (after_entry recording a e) b c es fs k n first.1.1 second, omega (arith, count)),
    )

pub last_then : (answer : Option Answer) (es fs : List Item) → last_from answer (es ++ fs) ≡ last_from (last_from answer es) fs
last_then answer [] fs = refl
last_then answer (e ∷ es) fs = last_then (Some e.answer) es fs

-- the state of a pump
abbrev pub shown : (ℕ → Option (List ℕ)) → Known → Outbox → ℕ → PumpState
shown recording known outbox faults = record { recording = recording; known = known; outbox = outbox; faults = faults }

-- and its reading
abbrev pub pumping : {F : Type 0} → (ℕ → Option (List ℕ)) → Known → Outbox → ℕ → Reading F → PumpNow F
pumping recording known outbox faults reading = record { state = shown recording known outbox faults; reading = reading }

-- nothing was asked yet
pub so_far_none : (tells : Type 0) (front : ℕ) (o : PumpState) → SoFar tells front o o (Asking None) None 0
so_far_none tells front o = record {
  entries = [];
  recordings = refl;
  adds = adds_nothing o.known;
  pumps = (refl, refl);
  delivers = delivers_none tells o.outbox;
  answered = refl;
}

-- some entries more
pub so_far_then : (tells : Type 0) (front : ℕ) (o n p : PumpState) (due next : Due) (last last' : Option Answer) (early more : ℕ) (es : List Item)
    → SoFar tells front o n due last early → p.recording ≡ n.recording → AddsAll n.known p.known es → Pumps front o.recording due es next more
    → Delivers tells n.outbox p.outbox (datagrams_of es) → last_from last es ≡ last' → SoFar tells front o p next last' (early + more)
so_far_then tells front o n p due next last last' early more es so_far same adds pumps delivers answered = record {
  entries = so_far.entries ++ es;
  recordings = same ∙ so_far.recordings;
  adds = adds_then o.known n.known p.known so_far.entries es so_far.adds adds;
  pumps = pumps_then front o.recording (Asking None) due next so_far.entries es early more so_far.pumps pumps;
  delivers = delivers_both tells o.outbox n.outbox p.outbox so_far.entries es so_far.delivers delivers;
  answered = last_then None so_far.entries es ∙ ap (λ (a : Option Answer). last_from a es) so_far.answered ∙ answered;
}

-- one entry more
pub so_far_one : (tells : Type 0) (front : ℕ) (o n p : PumpState) (due : Due) (last : Option Answer) (early : ℕ) (event : Event) (work : Work)
    → SoFar tells front o n due last early → p.recording ≡ n.recording → IsDue front due event
    → (made : MakesOne n.known p.known tells n.outbox p.outbox event (WorkIs work))
    → SoFar tells front o p (after_entry o.recording due (entry made.caller event (WorkIs work) made.out)) (Some (WorkIs work))
    (early + (early_end due (entry made.caller event (WorkIs work) made.out) + 0))
so_far_one tells front o n p due last early event work so_far same is_due made =
    let e : Item = entry made.caller event (WorkIs work) made.out in
    so_far_then tells front o n p due (after_entry o.recording due e) last (Some (WorkIs work)) early (early_end due e + 0) (e ∷ [])
    so_far same (adds_one n.known p.known e made.adds) (is_due, (0, (refl, refl), refl)) (delivers_entry tells n.outbox p.outbox e made.delivers) refl

-- no entry more
pub so_far_unmade : (may_want : Bool) (tells : Type 0) (front : ℕ) (o n p : PumpState) (due : Due) (last : Option Answer) (early : ℕ) (fault : ServiceFault)
    → SoFar tells front o n due last early → p.recording ≡ n.recording → MakesNone may_want n.known p.known n.outbox p.outbox fault
    → SoFar tells front o p due last early
so_far_unmade may_want tells front o n p due last early fault so_far same none = record {
  entries = so_far.entries;
  recordings = same ∙ so_far.recordings;
  adds = let Q : List Item → Type 0 = λ es. AddsAll o.known p.known es in
      subst Q (append-nil so_far.entries)
      (adds_then o.known n.known p.known so_far.entries [] so_far.adds (adds_no_more n.known p.known none.unmade.adds));
  pumps = so_far.pumps;
  delivers = let P : Outbox → Type 0 = λ q. Delivers tells o.outbox q (datagrams_of so_far.entries) in subst P (sym none.unsent) so_far.delivers;
  answered = so_far.answered;
}

-- the store changed, but for its recordings
pub so_far_kept : (tells : Type 0) (front : ℕ) (o n : PumpState) (recording : ℕ → Option (List ℕ)) (faults : ℕ) (due : Due) (last : Option Answer) (early : ℕ)
    → SoFar tells front o n due last early → recording ≡ n.recording → SoFar tells front o (shown recording n.known n.outbox faults) due last early
so_far_kept tells front o n recording faults due last early so_far same = record {
  entries = so_far.entries;
  recordings = same ∙ so_far.recordings;
  adds = so_far.adds;
  pumps = so_far.pumps;
  delivers = so_far.delivers;
  answered = so_far.answered;
}

if_true : {A : Type 0} (b : Bool) (x y : A) → b ≡ true → (if b then x else y) ≡ x
if_true true x y is = refl
if_true false x y is = absurd (cc is)

alike : (m n : ℕ) → m ≡ n → (m == n) ≡ true
alike m n same = grind (arith, nat_tests)

-- work to read for a number is of that number
pub of_itself : (mux tune : ℕ) → is_of tune (Tune mux tune) ≡ true
of_itself mux tune = alike tune tune refl

alike_is : (m n : ℕ) → (m == n) ≡ true → m ≡ n
alike_is m n same = grind (arith, nat_tests)

-- work for the number that is read for leaves what is read as it is
pub stays : (recording : ℕ → Option (List ℕ)) (reel : Reel) (tune : ℕ) (work : Work) → reel.tune ≡ tune → is_of tune work ≡ true
    → after_work recording (Some reel) work ≡ Feeding reel
stays recording reel number (Tune mux tune) same for_it =
    ap (λ (r : Reel). Feeding r) (if_true (reel.tune == tune) reel (fresh recording mux tune) (alike reel.tune tune (same ∙ sym (alike_is tune number for_it))))
stays recording reel number Nothing same for_it = absurd (cc for_it)
stays recording reel number Stopping same for_it = absurd (cc for_it)

-- what a tuning leads to is read for its number
pub tuned_for : (recording : ℕ → Option (List ℕ)) (reel : Option Reel) (mux tune : ℕ) → (tuned recording reel mux tune).tune ≡ tune
tuned_for recording None mux tune = refl
tuned_for recording (Some reel) mux tune = one_of (reel.tune == tune) refl
  where
    one_of : (b : Bool) → (reel.tune == tune) ≡ b → (if b then reel else fresh recording mux tune).tune ≡ tune
    one_of true is = alike_is reel.tune tune is
    one_of false is = refl

not_stopping : (tune : ℕ) (work : Work) → is_of tune work ≡ true → Some (WorkIs work) ≢ Some (WorkIs Stopping)
not_stopping tune (Tune mux number) for_it is = cc is
not_stopping tune Nothing for_it is = cc is
not_stopping tune Stopping for_it is = absurd (cc for_it)

rose_fewer : (m n a b : ℕ) → m ≤ n → RoseBy n a b → RoseBy m a b
rose_fewer m n a b fewer r = record { rose = less r.rose; kept = r.kept }
  where
    less : (a + n ≤ b) ⊎ (18446744073709551615 ≤ b) → (a + m ≤ b) ⊎ (18446744073709551615 ≤ b)
    less (inl x) = inl (omega arith)
    less (inr x) = inr x

-- the datagrams of what was taken
datagrams_given : (caller : ℕ) (ts : List (Taken Event Answer Output))
    → datagrams_of (entries caller ts) ≡ flat_map (λ (t : Taken Event Answer Output). t.out.datagrams) ts
datagrams_given caller [] = refl
datagrams_given caller (t ∷ ts) = ap (λ (ds : List Datagram). t.out.datagrams ++ ds) (datagrams_given caller ts)

-- an answer to a packet tells work
packet_work : (front tune : ℕ) (packet : List ℕ) (answer : Answer) → Suits (Packet front tune packet) answer → answer ≡ WorkIs (work_told answer)
packet_work front tune packet (Replied replied) suits = absurd suits
packet_work front tune packet (Get answer) suits = absurd suits
packet_work front tune packet (Beat beat) suits = absurd suits
packet_work front tune packet (WorkIs work) suits = refl
packet_work front tune packet (Pulled pulled) suits = absurd suits
packet_work front tune packet (Closed closed) suits = absurd suits

-- the last answer of a burst
last_given : (front caller tune : ℕ) (packets : List (List ℕ)) (work : Work) (ts : List (Taken Event Answer Output)) (waiting : List (List ℕ)) (last : Work)
    → Gives front tune packets work ts waiting last → Each (λ (t : Taken Event Answer Output). Suits t.event t.answer) ts
    → last_from (Some (WorkIs work)) (entries caller ts) ≡ Some (WorkIs last)
last_given front caller tune packets work [] waiting last gives suit = ap (λ (w : Work). Some (WorkIs w)) (sym gives.1)
last_given front caller tune packets work (t ∷ ts) waiting last gives suit =
    let P : Event → Type 0 = λ v. Suits v t.answer in
    let told : t.answer ≡ WorkIs (work_told t.answer) = packet_work front tune gives.0 t.answer (subst P gives.3 suit.0) in
    ap (λ (a : Answer). last_from (Some a) (entries caller ts)) told
    ∙ last_given front caller tune gives.1 (work_told t.answer) ts waiting last gives.5 suit.1

module _ {F : Type 0} (reads : Type 0) (feed : F → Feed) where
  -- the first packet that waits is the first that is left
  first_waits : (told : Option (List (List ℕ))) (packet : List ℕ) (rest : List (List ℕ)) (held : List ℕ) (source : Option F) (owed : ℕ)
      → AreToldLeft reads feed told (packet ∷ rest) held source owed
      → IsFirst packet told × AreToldLeft reads feed (option_map rest_of told) rest held source owed
  first_waits None packet rest held source owed is = (tt, tt)
  first_waits (Some []) packet rest held (Some source) owed is = absurd (cc is.1)
  first_waits (Some []) packet rest held None owed is = absurd (cc is.1)
  first_waits (Some (p ∷ ps)) packet rest held (Some source) owed is = (cc is.1, (is.0, ap rest_of is.1))
  first_waits (Some (p ∷ ps)) packet rest held None owed is = (cc is.1, (is.0, ap rest_of is.1, is.2, is.3))

  -- a burst of packets is a part of a run
  pub record GavePart (front : ℕ) (recording : ℕ → Option (List ℕ)) (from : Due) (es : List Item) (tune : ℕ) (waiting : List (List ℕ)) (held : List ℕ)
      (source : Option F) (owed : ℕ) (last : Work) : Type 0 where
    pub reel : Reel
    pub same : reel.tune ≡ tune
    pub told : AreToldLeft reads feed reel.left waiting held source owed
    pub pumps : Pumps front recording from es (after_work recording (Some reel) last) 0

  pub gives_pumps : (front : ℕ) (recording : ℕ → Option (List ℕ)) (reel : Reel) (caller tune : ℕ) (packets : List (List ℕ)) (work : Work)
      (ts : List (Taken Event Answer Output)) (waiting : List (List ℕ)) (last : Work) (held : List ℕ) (source : Option F) (owed : ℕ)
      → Gives front tune packets work ts waiting last → reel.tune ≡ tune → AreToldLeft reads feed reel.left packets held source owed
      → GavePart front recording (after_work recording (Some reel) work) (entries caller ts) tune waiting held source owed last
  gives_pumps front recording reel caller tune packets work [] waiting last held source owed gives same told =
      let P : List (List ℕ) → Type 0 = λ ps. AreToldLeft reads feed reel.left ps held source owed in
      record {
        reel = reel;
        same = same;
        told = subst P (sym gives.0) told;
        pumps = (ap (λ (w : Work). after_work recording (Some reel) w) gives.1, refl);
      }
  gives_pumps front recording reel caller tune packets work (t ∷ ts) waiting last held source owed gives same told =
      let e : Item = entry caller t.event t.answer t.out in
      let packet : List ℕ = gives.0 in
      let P : List (List ℕ) → Type 0 = λ ps. AreToldLeft reads feed reel.left ps held source owed in
      let first = first_waits reel.left packet gives.1 held source owed (subst P gives.2 told) in
      let next : Reel = record reel { left = option_map rest_of reel.left } in
      let rest = gives_pumps front recording next caller tune gives.1 (work_told t.answer) ts waiting last held source owed gives.5 same first.1 in
      let event : t.event ≡ Packet front reel.tune packet = gives.3 ∙ ap (λ (n : ℕ). Packet front n packet) (sym same) in
      let M : Event → Type 0 = λ v. Pumps front recording (after_work recording (Some (moved v reel)) (work_told t.answer)) (entries caller ts)
      (after_work recording (Some rest.reel) last) 0 in
      let after : Pumps front recording (after_entry recording (Feeding reel) e) (entries caller ts) (after_work recording (Some rest.reel) last) 0 =
      subst M (sym event) rest.pumps in
      let by_event : early_end (Feeding reel) e ≡ 0 = ap (λ (v : Event). early_by v reel) event in
      let none : 0 ≡ early_end (Feeding reel) e + 0 = omega arith in
      let D : Due → Type 0 = λ d. Pumps front recording d (e ∷ entries caller ts) (after_work recording (Some rest.reel) last) 0 in
      record {
        reel = rest.reel;
        same = rest.same;
        told = rest.told;
        pumps = subst D (sym (stays recording reel tune work same gives.4)) (inl (packet, event, first.0), (0, after, none));
      }

  -- the service answered a question
  pub asked : (may_want : Bool) (front : ℕ) (tells : Type 0) (o : PumpState) (recording : ℕ → Option (List ℕ)) (l m : Known) (n p : Outbox) (now : ℕ)
      (reading : Reading F) (result : Result Work ServiceFault)
      → Runs tells reads feed front o (pumping recording l n now reading) Nothing → Works may_want l m tells n p (Ask front) result
      → Answered may_want tells reads feed front o (pumping recording m p now reading) result
  asked may_want front tells o recording l m n p now reading (Ok work) runs made =
      let P : ℕ → Type 0 = λ e. Stands reads feed o.faults now e (runs.reel) reading in
      let none : runs.early ≡ runs.early + (0 + 0) = omega arith in
      record {
        reel = runs.reel;
        early = runs.early + (0 + 0);
        so_far = so_far_one tells front o (shown recording l n now) (shown recording m p now) (Asking runs.reel) (Some (WorkIs Nothing)) runs.early
            (Ask front) work runs.so_far refl refl made;
        stands = subst P none runs.stands;
      }
  asked may_want front tells o recording l m n p now reading (Err fault) runs none = record {
    due = Asking runs.reel;
    last = Some (WorkIs Nothing);
    early = runs.early;
    so_far = so_far_unmade may_want tells front o (shown recording l n now) (shown recording m p now) (Asking runs.reel) (Some (WorkIs Nothing)) runs.early
        fault runs.so_far refl none;
    few = rose_less runs.early runs.stands.owed o.faults now runs.stands.few;
    going = λ is. cc is;
    cause = none.unmade.cause;
  }

  -- so it is where the work before it was nothing
  pub asked_after : (may_want : Bool) (front : ℕ) (tells : Type 0) (o : PumpState) (recording : ℕ → Option (List ℕ)) (l m : Known) (n p : Outbox) (now : ℕ)
      (work : Work) (reading : Reading F) (result : Result Work ServiceFault)
      → work ≡ Nothing → Runs tells reads feed front o (pumping recording l n now reading) work → Works may_want l m tells n p (Ask front) result
      → Answered may_want tells reads feed front o (pumping recording m p now reading) result
  asked_after may_want front tells o recording l m n p now work reading result is runs works =
      let P : Work → Type 0 = λ w. Runs tells reads feed front o (pumping recording l n now reading) w in
      asked may_want front tells o recording l m n p now reading result (subst P is runs) works

  -- the service answered the first question
  pub asked_first : (may_want : Bool) (front : ℕ) (tells : Type 0) (recording : ℕ → Option (List ℕ)) (k m : Known) (o p : Outbox) (first : ℕ)
      (reading : Reading F) (result : Result Work ServiceFault)
      → reading.tune ≡ None → Works may_want k m tells o p (Ask front) result
      → Answered may_want tells reads feed front (shown recording k o first) (pumping recording m p first reading) result
  asked_first may_want front tells recording k m o p first reading (Ok work) begun made = record {
    reel = None;
    early = 0 + (0 + 0);
    so_far = so_far_one tells front (shown recording k o first) (shown recording k o first) (shown recording m p first) (Asking None) None 0 (Ask front) work
        (so_far_none tells front (shown recording k o first)) refl refl made;
    stands = record { owed = 0; is_reel = begun; few = rose_none first };
  }
  asked_first may_want front tells recording k m o p first reading (Err fault) begun none = record {
    due = Asking None;
    last = None;
    early = 0;
    so_far = so_far_unmade may_want tells front (shown recording k o first) (shown recording k o first) (shown recording m p first) (Asking None) None 0 fault
        (so_far_none tells front (shown recording k o first)) refl none;
    few = rose_none first;
    going = λ is. cc is;
    cause = none.unmade.cause;
  }

  -- a tuning is read for
  pub turned : (front : ℕ) (tells : Type 0) (o : PumpState) (k : Known) (n : Outbox) (r s t : StoreView) (mux tune : ℕ) (old mid new : Reading F)
      → Runs tells reads feed front o (pumping r.recording k n r.faults old) (Tune mux tune)
      → GoesTo reads feed mux tune (record { store = r; reading = old }) (record { store = s; reading = mid })
      → s.recording ≡ r.recording → ReadsOn reads feed (record { store = s; reading = mid }) (record { store = t; reading = new })
      → Feeds tells reads feed front o (pumping t.recording k n t.faults new) (Tune mux tune) tune
  turned front tells o k n r s t mux tune old mid new runs goes same on =
      let reel : Reel = tuned r.recording runs.reel mux tune in
      let R : (ℕ → Option (List ℕ)) → Type 0 = λ f. Stands reads feed o.faults t.faults runs.early (Some (tuned f runs.reel mux tune)) new in
      record {
        reel = tuned o.recording runs.reel mux tune;
        early = runs.early;
        so_far = so_far_kept tells front o (shown r.recording k n r.faults) t.recording t.faults (Feeding (tuned o.recording runs.reel mux tune))
            (Some (WorkIs (Tune mux tune))) runs.early runs.so_far (on.recordings ∙ same);
        stands = subst R runs.so_far.recordings (on.goes o.faults runs.early (Some reel) (goes o.faults runs.early runs.reel runs.stands));
        same = tuned_for o.recording runs.reel mux tune;
      }

  -- where nothing waits and nothing is read, a fault was there for packets that are left
  owed_for : (told : Option (List (List ℕ))) (held : List ℕ) (owed : ℕ) → AreToldLeft reads feed told [] held None owed → one_if_left told ≤ owed
  owed_for None held owed is = omega arith
  owed_for (Some []) held owed is = omega arith
  owed_for (Some (p ∷ ps)) held owed is = elim is.2 [
    | inl none ↦ absurd (cc (is.1, none))
    | inr one ↦ omega (arith, one)
  ]

  -- and none of them is left
  over : (told : Option (List (List ℕ))) (held : List ℕ) (owed : ℕ) → AreToldLeft reads feed told [] held None owed
      → AreToldLeft reads feed (none_of told) [] held None 0
  over None held owed is = tt
  over (Some ps) held owed is = ([], refl, inl refl, is.3)

  -- the end of a recording was answered
  pub finished : (may_want : Bool) (front : ℕ) (tells : Type 0) (o : PumpState) (recording : ℕ → Option (List ℕ)) (l m : Known) (n p : Outbox) (now : ℕ)
      (work : Work) (tune : ℕ) (reading : Reading F) (result : Result Work ServiceFault)
      → Feeds tells reads feed front o (pumping recording l n now reading) work tune → is_of tune work ≡ true
      → reading.buffer.packets ≡ [] → reading.source ≡ None → Works may_want l m tells n p (Ended front tune) result
      → Answered may_want tells reads feed front o (pumping recording m p now reading) result
  finished may_want front tells o recording l m n p now work tune reading (Ok next) feeds for_it empty shut made =
      let reel : Reel = feeds.reel in
      let ended : Reel = record reel { left = none_of reel.left } in
      let early : ℕ = one_if_left reel.left in
      let P : List (List ℕ) → Type 0 = λ ps. AreToldLeft reads feed reel.left ps reading.buffer.rest reading.source feeds.stands.owed in
      let Q : Option F → Type 0 = λ s. AreToldLeft reads feed reel.left [] reading.buffer.rest s feeds.stands.owed in
      let told : AreToldLeft reads feed reel.left [] reading.buffer.rest None feeds.stands.owed = subst Q shut (subst P empty feeds.stands.is_reel.1) in
      let R : Option F → Type 0 = λ s. AreToldLeft reads feed (none_of reel.left) [] reading.buffer.rest s 0 in
      let S : List (List ℕ) → Type 0 = λ ps. AreToldLeft reads feed (none_of reel.left) ps reading.buffer.rest reading.source 0 in
      let event : Ended front tune ≡ Ended front reel.tune = ap (λ (n : ℕ). Ended front n) (sym feeds.same) in
      let few : early ≤ feeds.stands.owed = owed_for reel.left reading.buffer.rest feeds.stands.owed told in
      record {
        reel = Some ended;
        early = feeds.early + (early + 0);
        so_far = so_far_one tells front o (shown recording l n now) (shown recording m p now) (Feeding reel) (Some (WorkIs work)) feeds.early
            (Ended front tune) next feeds.so_far refl (inr event) made;
        stands = record {
          owed = 0;
          is_reel = (feeds.stands.is_reel.0, subst S (sym empty) (subst R (sym shut) (over reel.left reading.buffer.rest feeds.stands.owed told)));
          few = rose_fewer (feeds.early + (early + 0) + 0) (feeds.early + feeds.stands.owed) o.faults now (omega (arith, few)) feeds.stands.few;
        };
      }
  finished may_want front tells o recording l m n p now work tune reading (Err fault) feeds for_it empty shut none = record {
    due = Feeding feeds.reel;
    last = Some (WorkIs work);
    early = feeds.early;
    so_far = so_far_unmade may_want tells front o (shown recording l n now) (shown recording m p now) (Feeding feeds.reel) (Some (WorkIs work)) feeds.early
        fault feeds.so_far refl none;
    few = rose_less feeds.early feeds.stands.owed o.faults now feeds.stands.few;
    going = not_stopping tune work for_it;
    cause = none.unmade.cause;
  }

  -- what a burst gave is a part of the run
  pub record Given (tells : Type 0) (front : ℕ) (o n : PumpState) (reading : Reading F) (last : Work) : Type 0 where
    pub reel : Reel
    pub early : ℕ
    pub so_far : SoFar tells front o n (after_work o.recording (Some reel) last) (Some (WorkIs last)) early
    pub stands : Stands reads feed o.faults n.faults early (Some reel) reading

  part_given : (may_want : Bool) (front : ℕ) (tells : Type 0) (o : PumpState) (recording : ℕ → Option (List ℕ)) (l m : Known) (n p : Outbox) (now : ℕ)
      (work : Work) (tune : ℕ) (reading : Reading F) (q : Buffered) (result : Result Work ServiceFault)
      → Feeds tells reads feed front o (pumping recording l n now reading) work tune → is_of tune work ≡ true
      → (gave : Gave may_want tells front tune work (record { known = l; outbox = n; buffered = reading.buffer })
      (record { known = m; outbox = p; buffered = q }) result)
      → Given tells front o (shown recording m p now) (record reading { buffer = q }) gave.last
  part_given may_want front tells o recording l m n p now work tune reading q result feeds for_it gave =
      let part = gives_pumps front o.recording feeds.reel gave.caller tune reading.buffer.packets work gave.taken q.packets gave.last reading.buffer.rest
      reading.source
      feeds.stands.owed gave.gives feeds.same feeds.stands.is_reel.1 in
      let D : Due → Type 0 = λ d. Pumps front o.recording d (entries gave.caller gave.taken) (after_work o.recording (Some part.reel) gave.last) 0 in
      let P : List Datagram → Type 0 = λ ds. Delivers tells n p ds in
      let S : ℕ → Type 0 = λ e. Stands reads feed o.faults now e (Some part.reel) (record reading { buffer = q }) in
      let R : List ℕ → Type 0 = λ rest. AreToldLeft reads feed part.reel.left q.packets rest reading.source feeds.stands.owed in
      let none : feeds.early ≡ feeds.early + 0 = omega arith in
      record {
        reel = part.reel;
        early = feeds.early + 0;
        so_far = so_far_then tells front o (shown recording l n now) (shown recording m p now) (Feeding feeds.reel)
            (after_work o.recording (Some part.reel) gave.last) (Some (WorkIs work)) (Some (WorkIs gave.last))
            feeds.early 0 (entries gave.caller gave.taken) feeds.so_far refl gave.adds
            (subst D (stays o.recording feeds.reel tune work feeds.same for_it) part.pumps)
            (subst P (sym (datagrams_given gave.caller gave.taken)) gave.delivers)
            (last_given front gave.caller tune reading.buffer.packets work gave.taken q.packets gave.last gave.gives gave.suit);
        stands = subst S none record {
          owed = feeds.stands.owed;
          is_reel = (feeds.stands.is_reel.0 ∙ ap (λ (n : ℕ). Some n) (feeds.same ∙ sym part.same), subst R (sym gave.rest) part.told);
          few = feeds.stands.few;
        };
      }

  pub given : (may_want : Bool) (front : ℕ) (tells : Type 0) (o : PumpState) (recording : ℕ → Option (List ℕ)) (l m : Known) (n p : Outbox) (now : ℕ)
      (work : Work) (tune : ℕ) (reading : Reading F) (q : Buffered) (result : Result Work ServiceFault)
      → Feeds tells reads feed front o (pumping recording l n now reading) work tune → is_of tune work ≡ true
      → Gave may_want tells front tune work (record { known = l; outbox = n; buffered = reading.buffer })
      (record { known = m; outbox = p; buffered = q }) result
      → Answered may_want tells reads feed front o (pumping recording m p now (record reading { buffer = q })) result
  given may_want front tells o recording l m n p now work tune reading q (Ok next) feeds for_it gave =
      let part = part_given may_want front tells o recording l m n p now work tune reading q (Ok next) feeds for_it gave in
      let P : Work → Type 0 = λ w. Runs tells reads feed front o (pumping recording m p now (record reading { buffer = q })) w in
      subst P (sym gave.ends) record { reel = Some part.reel; early = part.early; so_far = part.so_far; stands = part.stands }
  given may_want front tells o recording l m n p now work tune reading q (Err fault) feeds for_it gave =
      let part = part_given may_want front tells o recording l m n p now work tune reading q (Err fault) feeds for_it gave in
      record {
        due = after_work o.recording (Some part.reel) gave.last;
        last = Some (WorkIs gave.last);
        early = part.early;
        so_far = part.so_far;
        few = rose_less part.early part.stands.owed o.faults now part.stands.few;
        going = not_stopping tune gave.last gave.ends.0;
        cause = gave.ends.1;
      }

  -- the service stops
  pub stops : (front : ℕ) (tells : Type 0) (o : PumpState) (recording recording' : ℕ → Option (List ℕ)) (l : Known) (n : Outbox) (now later : ℕ)
      (reading : Reading F)
      → Runs tells reads feed front o (pumping recording l n now reading) Stopping → recording' ≡ recording → now ≤ later
      → PumpRun tells front o (shown recording' l n later) Stopped
  stops front tells o recording recording' l n now later reading runs same more = record {
    entries = runs.so_far.entries;
    due = Finished;
    early = runs.early;
    recordings = same ∙ runs.so_far.recordings;
    adds = runs.so_far.adds;
    pumps = runs.so_far.pumps;
    few = rose_later runs.early o.faults now later (rose_less runs.early runs.stands.owed o.faults now runs.stands.few) more;
    delivers = runs.so_far.delivers;
    stopped = (λ _. runs.so_far.answered, λ _. refl);
  }

-- the service made no entry of an event
pub fails : (may_want : Bool) (front : ℕ) (tells : Type 0) (o : PumpState) (recording recording' : ℕ → Option (List ℕ)) (l : Known) (n : Outbox)
    (now later : ℕ) (fault : ServiceFault)
    → Fails may_want tells front o (shown recording l n now) fault → recording' ≡ recording → now ≤ later
    → PumpRun tells front o (shown recording' l n later) (ended_by fault)
fails may_want front tells o recording recording' l n now later fault failed same more = record {
  entries = failed.so_far.entries;
  due = failed.due;
  early = failed.early;
  recordings = same ∙ failed.so_far.recordings;
  adds = failed.so_far.adds;
  pumps = failed.so_far.pumps;
  few = rose_later failed.early o.faults now later failed.few more;
  delivers = failed.so_far.delivers;
  stopped = (λ is. absurd (no_stop fault is), λ is. absurd (failed.going (sym failed.so_far.answered ∙ is)));
}
  where
    no_stop : (fault : ServiceFault) → ended_by fault ≡ Stopped → ⊥
    no_stop ServiceSpent is = cc is
    no_stop ServiceWant is = cc is

-- why a pump ended so
pub spent_by : (may_want : Bool) (l : Known) (fault : ServiceFault) → Cause may_want l fault → ended_by fault ≡ Spent → l.length ≡ 18446744073709551615
spent_by may_want l ServiceSpent cause is = cause
spent_by may_want l ServiceWant cause is = absurd (cc is)

pub want_by : (may_want : Bool) (l : Known) (fault : ServiceFault) → Cause may_want l fault → ended_by fault ≡ Want → may_want ≡ true
want_by may_want l ServiceSpent cause is = absurd (cc is)
want_by may_want l ServiceWant cause is = cause
