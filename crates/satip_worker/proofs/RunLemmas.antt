-- The run of an RTSP connection at each of its ends.
use Rattle.std.proofs.Common.{◌≡◌, ℕ, ◌+◌, Bool, false, true, List, [], ◌++◌, length, take, arith, refl, sym, ap, ◌∙◌, subst, inl, inr}
use Rattle.std.proofs.lemmas.List.{append-nil}
use Rattle.rand_chacha.specs.ChaCha.{ChaCha}
use Rattle.satip_frame.specs.Held.{Held, new_framer}
use Rattle.satip_rtsp.specs.declared.requests.Request.{Request}
use Rattle.satip_rtsp.specs.Asked.{asked, broken_request}
use Rattle.satip_frame.proofs.TextLemmas.{nothing_asked, more_came, all_so_far}
use Rattle.satip_world.specs.Lines.{Line, GotBytes, WasIdle, InputEnded, ReceiveFailed}
use Rattle.satip_world.specs.declared.doors.ConnEnd.{ConnEnd}
use Rattle.satip_world.specs.declared.doors.ConnEnd.TheVariants.{Done, ReadFault, WriteFault}
use Rattle.satip_world.specs.declared.doors.DoorKind.TheVariants.{Rtsp}
use Rattle.satip_plain.specs.declared.fault.ServiceFault.{ServiceFault}
use Rattle.satip_plain.specs.declared.fault.ServiceFault.TheVariants.{Spent, Want}
use Rattle.satip_worker.specs.Drawing.{draws_at, before_draw}
use Rattle.satip_worker.specs.Answers.{events_of}
use Rattle.satip_worker.specs.Ends.{LineEnds, ServiceEnds, end_of}
use Rattle.satip_worker.specs.Progress.{Stage, ConnState, Carries, SameFaults}
use Rattle.satip_worker.specs.Requests.{AsksAll}
use Rattle.satip_worker.specs.RtspRun.{LeftOver, RepliesSent, draws_taken, replies}
use Rattle.satip_worker.specs.Served.{ServesConn}
use Rattle.satip_worker.specs.Hearing.{Course, Answered, Stands, Listens, HasClosed, HasLost, HasStopped}
use Rattle.satip_worker.proofs.ProgressLemmas.{makes_nothing, calm_counts, calm_from, calm_idle, calm_then, carries_nothing, carries_got, carries_idle, carries_ended, carries_failed, carries_on, rises_from}

-- the draws that a connection took, and its run
abbrev pub Ran : (ct ot : Type 0) (course : Course) (n : ConnState) (draws : ChaCha) → ConnEnd → Type 0
Ran ct ot course n draws end = (to : ℕ) × (draws ≡ before_draw course.key course.stream to)
    × ServesConn ct ot Rtsp course.peer (draws_at course.key course.stream course.from to) course.start n end

-- nothing came in yet
pub listens_from : (ct ot : Type 0) (course : Course) (draws : ChaCha) (framer : Held) → framer ≡ new_framer
    → draws ≡ before_draw course.key course.stream course.from
    → Listens ct ot course course.start draws [] framer.bytes
listens_from ct ot course draws framer new are = record {
  requests = [];
  heard = rw new (nothing_asked asked);
  answered = record {
    entries = [];
    events = refl;
    ends = refl;
    draws_are = are ∙ ap (λ (n : ℕ). before_draw course.key course.stream n) (omega arith);
    makes = makes_nothing ot course.start.stage;
    carries = carries_nothing ct course.start.line;
    calm = calm_from course.start.line;
  };
}

module _ (ct ot : Type 0) (course : Course) (n : ConnState) (draws : ChaCha) (text : List ℕ) (requests : List Request) (over : Bool)
    (answered : Answered ct ot course n draws text requests over) where
  -- the line went on, and nothing failed
  answered_line : (line : Line) (longer : List ℕ) → Carries ct course.start.line line longer (replies answered.entries) → SameFaults n.line line
      → Answered ct ot course (record { stage = n.stage; line = line }) draws longer requests over
  answered_line line longer carries calm = record {
    entries = answered.entries;
    events = answered.events;
    ends = answered.ends;
    draws_are = answered.draws_are;
    makes = answered.makes;
    carries = carries;
    calm = calm_then course.start.line n.line line answered.calm calm;
  }

  -- all that was asked has its entries, and no byte came in later
  ran_to_done : (line : Line) → Carries ct n.line line [] [] → (asks : AsksAll text requests) (end : ConnEnd) → LeftOver end []
      → RepliesSent end answered.entries (replies answered.entries)
      → draws_taken end answered.entries ≡ length answered.entries → LineEnds end course.start.line line over → ServiceEnds end course.start.stage.may_want n.stage.known
      → Ran ct ot course (record { stage = n.stage; line = line }) draws end
  ran_to_done line carries asks end left sent taken line_ends service =
      let L : Bool → Type 0 = λ b. LineEnds end course.start.line line b in (
        course.from + length answered.entries,
        answered.draws_are,
        record {
          entries = answered.entries;
          received = text;
          sent = replies answered.entries;
          run = record {
            requests = requests;
            asks = asks;
            rest = [];
            events = sym answered.events ∙ sym (append-nil (events_of answered.entries));
            left_over = left;
            replies_sent = sent;
            draws = ap (λ (k : ℕ). course.from + k) (sym taken);
          };
          makes = answered.makes;
          carries = carries_on ct course.start.line n.line line text (replies answered.entries) answered.carries carries;
          line_ends = subst L (sym answered.ends) line_ends;
          service_ends = service;
        },
      )

module _ (ct ot : Type 0) (course : Course) (o : Stage) (m m' : Line) (draws : ChaCha) (text held : List ℕ)
    (listens : Listens ct ot course (record { stage = o; line = m }) draws text held) where
  -- some bytes came in
  pub stands_got : (buf : List ℕ) (count : ℕ) → GotBytes ct m m' buf count
      → Stands ct ot course (record { stage = o; line = m' }) draws (text ++ take count buf) (held ++ take count buf)
  stands_got buf count got = record {
    requests = listens.requests;
    first = more_came asked text (take count buf) held (take count buf) listens.requests refl listens.heard;
    answered = answered_line ct ot course (record { stage = o; line = m }) draws text listens.requests false listens.answered m' (text ++ take count buf)
        (carries_got ct course.start.line m m' text _ buf count listens.answered.carries got) (calm_counts m m' got.counts);
  }

  -- nothing came in
  pub listens_idle : WasIdle ct m m' → Listens ct ot course (record { stage = o; line = m' }) draws text held
  listens_idle idle = record {
    requests = listens.requests;
    heard = listens.heard;
    answered = answered_line ct ot course (record { stage = o; line = m }) draws text listens.requests false listens.answered m' text
        (carries_on ct course.start.line m m' text _ listens.answered.carries (carries_idle ct m m' idle)) (calm_idle ct m m' idle);
  }

  -- the input ended
  pub ran_to_end : InputEnded ct m m' → Ran ct ot course (record { stage = o; line = m' }) draws Done
  ran_to_end ended =
      ran_to_done ct ot course (record { stage = o; line = m }) draws text listens.requests false listens.answered m' (carries_ended ct m m' ended)
      (all_so_far asked broken_request text listens.requests held listens.heard) Done refl refl refl (record {
        is_over = inl (ended.after, refl);
        calm = calm_then course.start.line m m' listens.answered.calm (calm_counts m m' ended.counts);
      }) tt

  -- a receive failed
  pub ran_to_read_fault : ReceiveFailed ct m m' → Ran ct ot course (record { stage = o; line = m' }) draws ReadFault
  ran_to_read_fault failed =
      ran_to_done ct ot course (record { stage = o; line = m }) draws text listens.requests false listens.answered m' (carries_failed ct m m' failed)
      (all_so_far asked broken_request text listens.requests held listens.heard) ReadFault refl refl refl (record {
        goes_on = failed.after;
        unanswered = refl;
        faults = rises_from course.start.line.receive_faults m.receive_faults m'.receive_faults listens.answered.carries.receive_faults failed.receive_faults;
        sends = failed.send_faults ∙ listens.answered.calm.send_faults;
      }) tt

module _ (ct ot : Type 0) (course : Course) (n : ConnState) (draws : ChaCha) (text : List ℕ) where
  -- a closing reply was sent
  pub ran_to_closing : n.line.ended ≡ false → HasClosed ct ot course n draws text → Ran ct ot course n draws Done
  ran_to_closing goes_on closed =
      ran_to_done ct ot course n draws text closed.requests true closed.answered n.line (carries_nothing ct n.line) closed.asks Done refl refl refl
      (record { is_over = inr (goes_on, refl); calm = closed.answered.calm }) tt

  -- a send failed
  pub ran_to_write_fault : n.line.ended ≡ false → HasLost ct ot course n draws text → Ran ct ot course n draws WriteFault
  ran_to_write_fault goes_on lost = (
    course.from + length lost.entries,
    lost.draws_are,
    record {
      entries = lost.entries;
      received = text;
      sent = lost.sent;
      run = record {
        requests = lost.first.requests;
        asks = lost.first.asks;
        rest = lost.first.rest;
        events = lost.first.events;
        left_over = tt;
        replies_sent = lost.in_part;
        draws = refl;
      };
      makes = lost.makes;
      carries = lost.carries;
      line_ends = record { goes_on = goes_on; faults = lost.faults; receives = lost.receives };
      service_ends = tt;
    },
  )

  -- the service made no entry
  pub ran_to_stop : (fault : ServiceFault) → HasStopped ct ot course n draws text fault → Ran ct ot course n draws (end_of fault)
  ran_to_stop Spent stopped = (
    course.from + (length stopped.entries + 1),
    stopped.draws_are,
    record {
      entries = stopped.entries;
      received = text;
      sent = _;
      run = record {
        requests = stopped.first.requests;
        asks = stopped.first.asks;
        rest = stopped.first.rest;
        events = stopped.first.events;
        left_over = stopped.more;
        replies_sent = refl;
        draws = refl;
      };
      makes = stopped.makes;
      carries = stopped.carries;
      line_ends = tt;
      service_ends = stopped.cause;
    },
  )
  ran_to_stop Want stopped = (
    course.from + (length stopped.entries + 1),
    stopped.draws_are,
    record {
      entries = stopped.entries;
      received = text;
      sent = _;
      run = record {
        requests = stopped.first.requests;
        asks = stopped.first.asks;
        rest = stopped.first.rest;
        events = stopped.first.events;
        left_over = stopped.more;
        replies_sent = refl;
        draws = refl;
      };
      makes = stopped.makes;
      carries = stopped.carries;
      line_ends = tt;
      service_ends = stopped.cause;
    },
  )
