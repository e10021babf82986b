-- A connection of a tunnel from its Enter to its end.
use Rattle.std.proofs.Common.{◌≡◌, ◌∙◌, ℕ, ◌+◌, ◌<◌, ◌≤◌, false, List, [], ◌∷◌, ◌++◌, append-nil, length, length-append, map, take, arith, refl, sym, subst, inl, inr}
use Rattle.std.proofs.lemmas.List.{length-take-le}
use Rattle.rand_chacha.specs.ChaCha.{ChaCha}
use Rattle.satip_rtsp_interleaved.specs.Requests.{asked_by_tunnel}
use Rattle.satip_frame.specs.Stream.{Unfinished, Broken as broken_tail}
use Rattle.satip_rtsp_interleaved.specs.Held.{Held, new_parter}
use Rattle.satip_rtsp_interleaved.proofs.PartLemmas.{empty_ends}
use Rattle.satip_rtsp.specs.declared.requests.Request.{Request}
use Rattle.satip_rtsp.specs.Asked.{broken_request}
use Rattle.satip_world.specs.Lines.{Line, GotBytes, WasIdle, InputEnded, ReceiveFailed}
use Rattle.satip_world.proofs.PausingLemmas.{rises_none, rises_once}
use Rattle.satip_worker.specs.Progress.{Carries, SameFaults}
use Rattle.satip_worker.proofs.PauseLemmas.{rises_kept}
use Rattle.satip_worker.proofs.ProgressLemmas.{calm_counts, calm_from, calm_idle, calm_then, carries_nothing, carries_got, carries_idle, carries_on, rises_from}
use Rattle.satip_tunnel.specs.declared.ends.Heard.{Heard}
use Rattle.satip_tunnel.specs.declared.ends.Heard.TheVariants.{All as heard_all, Broken as heard_broken, Lost as heard_lost, Spent as heard_spent}
use Rattle.satip_tunnel.specs.declared.ends.TunnelEnd.TheVariants.{Broken, Done, ReadFault, WriteFault, Spent}
use Rattle.satip_tunnel.specs.Walk.{Stance, Free, Draining, Over}
use Rattle.satip_tunnel.specs.Wire.{wire}
use Rattle.satip_tunnel.specs.Requests.{AsksInParts}
use Rattle.satip_tunnel.specs.Seats.{Seat, conn_at}
use Rattle.satip_tunnel.specs.Exchanges.{Drains, DrainsInPart, DrainsToStop}
use Rattle.satip_tunnel.specs.Hearing.{Course, TalkState, SoFar, Listens, HasClosed, MadeFirst, HasLost, HasStopped, Hears, HearsPiece, Talked, talk_at}
use Rattle.satip_tunnel.proofs.SeatLemmas.{grows_none}
use Rattle.satip_tunnel.proofs.DrawLemmas.{takes_none}
use Rattle.satip_tunnel.proofs.WalkLemmas.{wire-append, in_part_behind}
use Rattle.satip_tunnel.proofs.HearingLemmas.{asks_all, so_far_drained, so_far_counted, course_after, events_drained, over_drained}

-- one receive more found nothing
abbrev pub course_idle : Course → Course
course_idle course = record course { idles = course.idles + 1 }

-- nothing came in yet
abbrev pub course_from : (lane : ℕ) → ChaCha → Seat → Line → Course
course_from lane draws seat line = record { lane = lane; draws = draws; seat = seat; line = line; pieces = 0; idles = 0; paused = 0 }

pub listens_from : (tells : Type 0) (lane : ℕ) (draws : ChaCha) (seat : Seat) (line : Line) (parter : Held) → parter ≡ new_parter
    → Listens tells (course_from lane draws seat line) (talk_at seat line draws) [] [] parter
listens_from tells lane draws seat line parter new = record {
  messages = [];
  read = empty_ends;
  stands = record {
    leads = rw new (λ more. refl);
    body = [];
    draws = [];
    counted = refl;
    events = refl;
    unended = refl;
    so_far = record {
      walk = refl;
      dry = omega arith;
      few = omega arith;
      quiet = rises_none line.idles;
      grows = grows_none seat;
      takes = takes_none draws;
      carries = carries_nothing tells line;
    };
    calm = calm_from line;
  };
}

module _ (tells : Type 0) (course : Course) (n : Seat) (m m' : Line) (c : ChaCha) (text : List ℕ) (parter : Held)
    (listens : Listens tells course (talk_at n m c) text text parter) where
  -- some bytes came in
  pub listens_got : (buf : List ℕ) (count : ℕ) → GotBytes tells m m' buf count → Listens tells course (talk_at n m' c) (text ++ take count buf) text parter
  listens_got buf count got =
      let s = listens.stands in
      record {
        messages = listens.messages;
        read = listens.read;
        stands = record {
          leads = s.leads;
          body = s.body;
          draws = s.draws;
          counted = s.counted;
          events = s.events;
          unended = s.unended;
          so_far = record {
            walk = s.so_far.walk;
            dry = s.so_far.dry;
            few = let few = s.so_far.few in omega (arith, few, length-append text (take count buf));
            quiet = rises_kept course.idles course.line.idles m.idles m'.idles s.so_far.quiet got.counts.idles;
            grows = s.so_far.grows;
            takes = s.so_far.takes;
            carries = carries_got tells course.line m m' text (wire s.body) buf count s.so_far.carries got;
          };
          calm = calm_then course.line m m' s.calm (calm_counts m m' got.counts);
        };
      }

  -- each piece counted has at least one of the bytes before them
  pub few_got : (buf : List ℕ) (count : ℕ) → GotBytes tells m m' buf count → course.pieces < length (text ++ take count buf)
  few_got buf count got =
      let few = listens.stands.so_far.few in
      let some = got.some in
      omega (arith, few, some, length-append text (take count buf), length-take-le count buf got.within)

  -- nothing came in
  pub listens_idle : WasIdle tells m m' → Listens tells (course_idle course) (talk_at n m' c) text text parter
  listens_idle idle =
      let s = listens.stands in
      record {
        messages = listens.messages;
        read = listens.read;
        stands = record {
          leads = s.leads;
          body = s.body;
          draws = s.draws;
          counted = s.counted;
          events = s.events;
          unended = s.unended;
          so_far = record {
            walk = s.so_far.walk;
            dry = s.so_far.dry;
            few = s.so_far.few;
            quiet = rises_once course.idles course.line.idles m.idles m'.idles s.so_far.quiet idle.idles idle.one_idle;
            grows = s.so_far.grows;
            takes = s.so_far.takes;
            carries = carries_on tells course.line m m' text (wire s.body) s.so_far.carries (carries_idle tells m m' idle);
          };
          calm = calm_then course.line m m' s.calm (calm_idle tells m m' idle);
        };
      }

  -- the requests of what was received
  all_asked : AsksInParts text (map asked_by_tunnel listens.messages ++ [])
  all_asked = asks_all text listens.messages Unfinished listens.read

  -- what was made, where the line went on
  so_far_on : Carries tells m m' [] [] → m'.idles ≡ m.idles → SoFar tells course (talk_at n m' c) text (wire listens.stands.body) Free listens.stands.body listens.stands.draws
  so_far_on carries same =
      let s = listens.stands in
      record {
        walk = s.so_far.walk;
        dry = s.so_far.dry;
        few = s.so_far.few;
        quiet = rises_kept course.idles course.line.idles m.idles m'.idles s.so_far.quiet same;
        grows = s.so_far.grows;
        takes = s.so_far.takes;
        carries = carries_on tells course.line m m' text (wire s.body) s.so_far.carries carries;
      }

  -- the input ended
  pub talked_to_end : InputEnded tells m m' → Talked tells course (talk_at n m' c) Done
  talked_to_end ended =
      let s = listens.stands in
      record {
        received = text;
        first = record {
          body = s.body;
          draws = s.draws;
          sent = wire s.body;
          stance = Free;
          made = map asked_by_tunnel listens.messages;
          left = [];
          asks = all_asked;
          left_over = refl;
          events = s.events;
          drawn = s.counted;
          stops = refl;
          sent_is = refl;
          so_far = so_far_on (record {
            content = ended.content;
            idles = omega (arith, ended.counts.idles);
            receive_faults = omega (arith, ended.counts.receive_faults);
            send_faults = omega (arith, ended.counts.send_faults);
          }) ended.counts.idles;
        };
        line_ends = record {
          is_over = inl (ended.after, s.unended);
          calm = calm_then course.line m m' s.calm (calm_counts m m' ended.counts);
        };
        full = tt;
      }

  -- a receive failed
  pub talked_to_read_fault : ReceiveFailed tells m m' → Talked tells course (talk_at n m' c) ReadFault
  talked_to_read_fault failed =
      let s = listens.stands in
      record {
        received = text;
        first = record {
          body = s.body;
          draws = s.draws;
          sent = wire s.body;
          stance = Free;
          made = map asked_by_tunnel listens.messages;
          left = [];
          asks = all_asked;
          left_over = refl;
          events = s.events;
          drawn = s.counted;
          stops = refl;
          sent_is = refl;
          so_far = so_far_on (record {
            content = failed.content;
            idles = omega (arith, failed.idles);
            receive_faults = failed.receive_faults.kept;
            send_faults = omega (arith, failed.send_faults);
          }) failed.idles;
        };
        line_ends = record {
          goes_on = failed.after;
          unanswered = s.unended;
          faults = rises_from course.line.receive_faults m.receive_faults m'.receive_faults s.so_far.carries.receive_faults failed.receive_faults;
          sends = failed.send_faults ∙ s.calm.send_faults;
        };
        full = tt;
      }

-- ---- drains after a piece that completed no message, or where nothing came in

module _ (tells : Type 0) (course : Course) (o n : Seat) (l m : Line) (c : ChaCha) (received text : List ℕ) (parter : Held)
    (listens : Listens tells course (talk_at o l c) received text parter) where
  -- all frames were sent
  listens_counted : (pieces paused : ℕ) → pieces + paused ≡ (course.pieces + course.paused) + 1 → pieces ≤ length received
      → Drains tells course.lane (conn_at o l) (conn_at n m) Free Free → Listens tells (course_after course pieces paused) (talk_at n m c) received text parter
  listens_counted pieces paused one few d =
      let s = listens.stands in
      let P : List ℕ → Type 0 = λ w. SoFar tells (course_after course pieces paused) (talk_at n m c) received w Free (s.body ++ d.entries) s.draws in
      record {
        messages = listens.messages;
        read = listens.read;
        stands = record {
          leads = s.leads;
          body = s.body ++ d.entries;
          draws = s.draws;
          counted = s.counted;
          events = events_drained s.body d.entries _ s.events d.none_asked;
          unended = over_drained s.body d.entries d.none_asked ∙ s.unended;
          so_far = subst P (sym (wire-append s.body d.entries))
              (so_far_counted tells course o n l m c received (wire s.body) s.body s.draws s.so_far pieces paused one few Free d.entries (wire d.entries)
              d.talks d.dry);
          calm = calm_then course.line l m s.calm d.calm;
        };
      }

  -- after a piece
  listens_after : course.pieces < length received → Drains tells course.lane (conn_at o l) (conn_at n m) Free Free
      → Listens tells (course_after course (course.pieces + 1) course.paused) (talk_at n m c) received text parter
  listens_after more d =
      listens_counted (course.pieces + 1) course.paused (omega arith) (omega (arith, more)) d

  -- where nothing came in; the connection pauses then
  pub listens_drained : Drains tells course.lane (conn_at o l) (conn_at n m) Free Free
      → Listens tells (course_after course course.pieces (course.paused + 1)) (talk_at n m c) received text parter
  listens_drained d = listens_counted course.pieces (course.paused + 1) (omega arith) listens.stands.so_far.few d

  -- the lane is broken
  pub drains_to_break : Drains tells course.lane (conn_at o l) (conn_at n m) Free Over → MadeFirst tells course (talk_at n m c) received text Broken
  drains_to_break d =
      let s = listens.stands in
      let P : List ℕ → Type 0 = λ w. SoFar tells course (talk_at n m c) received w Over (s.body ++ d.entries) s.draws in
      record {
        body = s.body ++ d.entries;
        draws = s.draws;
        sent = wire (s.body ++ d.entries);
        stance = Over;
        made = map asked_by_tunnel listens.messages;
        left = [];
        asks = asks_all text listens.messages Unfinished listens.read;
        left_over = tt;
        events = events_drained s.body d.entries _ s.events d.none_asked;
        drawn = s.counted;
        stops = refl;
        sent_is = refl;
        so_far = subst P (sym (wire-append s.body d.entries))
            (so_far_drained tells course o n l m c received (wire s.body) s.body s.draws s.so_far Over d.entries (wire d.entries) d.talks
            (let none = d.dry in omega (arith, none)));
      }

  -- a send failed
  pub drains_to_lose : DrainsInPart tells course.lane (conn_at o l) (conn_at n m) Free → HasLost tells course (talk_at n m c) received text
  drains_to_lose d =
      let s = listens.stands in
      record {
        first = record {
          body = s.body ++ d.entries;
          draws = s.draws;
          sent = wire s.body ++ d.sent;
          stance = Draining;
          made = map asked_by_tunnel listens.messages;
          left = [];
          asks = asks_all text listens.messages Unfinished listens.read;
          left_over = tt;
          events = events_drained s.body d.entries _ s.events d.none_asked;
          drawn = s.counted;
          stops = refl;
          sent_is = in_part_behind s.body d.entries d.sent d.in_part;
          so_far = so_far_drained tells course o n l m c received (wire s.body) s.body s.draws s.so_far Draining d.entries d.sent d.talks
              (let none = d.dry in omega (arith, none));
        };
        faults = rises_from course.line.send_faults l.send_faults m.send_faults s.so_far.carries.send_faults d.faults;
        receives = d.receives ∙ s.calm.receive_faults;
      }

  -- the history was full
  pub drains_to_stop : DrainsToStop tells course.lane (conn_at o l) (conn_at n m) Free → HasStopped tells course (talk_at n m c) received text
  drains_to_stop stop =
      let s = listens.stands in
      let d = stop.drains in
      let P : List ℕ → Type 0 = λ w. SoFar tells course (talk_at n m c) received w stop.to (s.body ++ d.entries) s.draws in
      record {
        first = record {
          body = s.body ++ d.entries;
          draws = s.draws;
          sent = wire (s.body ++ d.entries);
          stance = stop.to;
          made = map asked_by_tunnel listens.messages;
          left = [];
          asks = asks_all text listens.messages Unfinished listens.read;
          left_over = tt;
          events = events_drained s.body d.entries _ s.events d.none_asked;
          drawn = inl s.counted;
          stops = stop.going;
          sent_is = refl;
          so_far = subst P (sym (wire-append s.body d.entries))
              (so_far_drained tells course o n l m c received (wire s.body) s.body s.draws s.so_far stop.to d.entries (wire d.entries) d.talks
              (let none = stop.dry in omega (arith, none)));
        };
        full = stop.full;
      }

-- ---- a piece

-- the lane wasn't drained but after requests
pub piece_heard : (tells : Type 0) (course : Course) (n : TalkState) (received text : List ℕ) (parter : Held) (heard : Heard)
    → Hears tells course n received text parter heard → HearsPiece tells course n received text parter heard
piece_heard tells course n received text parter heard hears = record { pieces = course.pieces; once = omega arith; hears = hears }

-- the lane was drained after a piece that completed no message
module _ (tells : Type 0) (course : Course) (o n : Seat) (l m : Line) (c : ChaCha) (received text : List ℕ) (parter : Held) (lane : ℕ)
    (same : course.lane ≡ lane) (listens : Listens tells course (talk_at o l c) received text parter) where
  -- on this course
  drains_here : (to : Stance) → Drains tells lane (conn_at o l) (conn_at n m) Free to → Drains tells course.lane (conn_at o l) (conn_at n m) Free to
  drains_here to d =
      let P : ℕ → Type 0 = λ x. Drains tells x (conn_at o l) (conn_at n m) Free to in
      subst P (sym same) d

  pub piece_on : course.pieces < length received → Drains tells lane (conn_at o l) (conn_at n m) Free Free
      → HearsPiece tells course (talk_at n m c) received text parter heard_all
  piece_on more d = record {
    pieces = course.pieces + 1;
    once = omega arith;
    hears = listens_after tells course o n l m c received text parter listens more (drains_here Free d);
  }

  pub piece_broken : Drains tells lane (conn_at o l) (conn_at n m) Free Over → HearsPiece tells course (talk_at n m c) received text parter heard_broken
  piece_broken d =
      piece_heard tells course (talk_at n m c) received text parter heard_broken
      (drains_to_break tells course o n l m c received text parter listens (drains_here Over d))

  pub piece_lost : DrainsInPart tells lane (conn_at o l) (conn_at n m) Free → HearsPiece tells course (talk_at n m c) received text parter heard_lost
  piece_lost d =
      let P : ℕ → Type 0 = λ x. DrainsInPart tells x (conn_at o l) (conn_at n m) Free in
      piece_heard tells course (talk_at n m c) received text parter heard_lost
      (drains_to_lose tells course o n l m c received text parter listens (subst P (sym same) d))

  pub piece_stopped : DrainsToStop tells lane (conn_at o l) (conn_at n m) Free → HearsPiece tells course (talk_at n m c) received text parter heard_spent
  piece_stopped d =
      let P : ℕ → Type 0 = λ x. DrainsToStop tells x (conn_at o l) (conn_at n m) Free in
      piece_heard tells course (talk_at n m c) received text parter heard_spent
      (drains_to_stop tells course o n l m c received text parter listens (subst P (sym same) d))

-- a piece came in and was heard, as the clause says
pub heard_piece : (tells : Type 0) (course : Course) (o n : Seat) (k l m : Line) (c d : ChaCha) (text : List ℕ) (old new : Held) (buf : List ℕ) (count : ℕ)
    (heard : Heard) → Listens tells course (talk_at o k c) text text old → GotBytes tells k l buf count
    → ((course' : Course) (received text' : List ℕ) → course'.lane ≡ course.lane → course'.pieces < length received
    → Listens tells course' (talk_at o l c) received text' old → HearsPiece tells course' (talk_at n m d) received (text' ++ take count buf) new heard)
    → HearsPiece tells course (talk_at n m d) (text ++ take count buf) (text ++ take count buf) new heard
heard_piece tells course o n k l m c d text old new buf count heard listens got hears =
    hears course (text ++ take count buf) text refl (few_got tells course o k l c text old listens buf count got)
    (listens_got tells course o k l c text old listens buf count got)

-- ---- how it ended

module _ (tells : Type 0) (course : Course) (n : Seat) (m : Line) (c : ChaCha) (text : List ℕ) where
  -- a closing reply was sent
  pub talked_to_closing : m.ended ≡ false → HasClosed tells course (talk_at n m c) text text → Talked tells course (talk_at n m c) Done
  talked_to_closing goes_on closed =
      let all : List Request = map asked_by_tunnel closed.messages ++ broken_request closed.cause ∷ [] in
      let A : List Request → Type 0 = λ rs. AsksInParts text rs in
      record {
        received = text;
        first = record {
          body = closed.body;
          draws = closed.draws;
          sent = wire closed.body;
          stance = Free;
          made = all;
          left = [];
          asks = subst A (sym (append-nil all)) (asks_all text closed.messages (broken_tail closed.cause) closed.read);
          left_over = refl;
          events = closed.events;
          drawn = closed.counted;
          stops = refl;
          sent_is = refl;
          so_far = closed.so_far;
        };
        line_ends = record { is_over = inr (goes_on, closed.ended); calm = closed.calm };
        full = tt;
      }

  -- the lane is broken
  pub talked_to_break : MadeFirst tells course (talk_at n m c) text text Broken → Talked tells course (talk_at n m c) Broken
  talked_to_break first = record { received = text; first = first; line_ends = tt; full = tt }

  -- a send failed
  pub talked_to_write_fault : m.ended ≡ false → HasLost tells course (talk_at n m c) text text → Talked tells course (talk_at n m c) WriteFault
  talked_to_write_fault goes_on lost = record {
    received = text;
    first = lost.first;
    line_ends = record { goes_on = goes_on; faults = lost.faults; receives = lost.receives };
    full = tt;
  }

  -- the history was full
  pub talked_to_stop : HasStopped tells course (talk_at n m c) text text → Talked tells course (talk_at n m c) Spent
  talked_to_stop stopped = record { received = text; first = stopped.first; line_ends = tt; full = stopped.full }
