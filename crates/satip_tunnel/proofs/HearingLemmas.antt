-- A connection of a tunnel goes on with one message more.
use Rattle.std.proofs.Common.{◌≡◌, ◌≢◌, ◌∙◌, ℕ, ◌+◌, ◌≤◌, Bool, true, false, List, [], ◌∷◌, ◌++◌, append_assoc, append-nil, length, length-append, map, arith, refl, sym, ap, subst, inl, inr, take, drop}
use Rattle.std.proofs.lemmas.List.{map-append, map_push, take-append-drop}
use Rattle.rand_chacha.specs.ChaCha.{ChaCha}
use Rattle.satip_base.specs.declared.identity.Draw.{Draw}
use Rattle.satip_rtsp_interleaved.specs.Requests.{asked_by_tunnel}
use Rattle.satip_frame.specs.declared.framing.Break.{Break}
use Rattle.satip_frame.specs.Said.{Said}
use Rattle.satip_frame.specs.Stream.{Tail, Unfinished, Broken as broken_tail}
use Rattle.satip_rtsp_interleaved.specs.Parts.{Parts}
use Rattle.satip_rtsp_interleaved.specs.Frames.{inside}
use Rattle.satip_rtsp_interleaved.specs.Held.{Held, IsReadUpTo}
use Rattle.satip_rtsp_interleaved.proofs.PartLemmas.{parts_of, list_grows, broken_stays, leads_first}
use Rattle.satip_plain.specs.declared.events.Event.{Event}
use Rattle.satip_plain.specs.declared.events.Event.TheVariants.{Request as Asks}
use Rattle.satip_plain.specs.Histories.{Item}
use Rattle.satip_rtsp.specs.declared.requests.Request.{Request}
use Rattle.satip_rtsp.specs.Asked.{broken_request}
use Rattle.satip_interleave.proofs.Entries.{inners-append}
use Rattle.satip_interleave.specs.Histories.{TunnelItem, inners}
use Rattle.satip_world.specs.Lines.{Line}
use Rattle.satip_worker.specs.Answers.{events_of, ends_with, ends_with_last}
use Rattle.satip_worker.specs.Requests.{asked_by_tail}
use Rattle.satip_worker.proofs.EventLemmas.{ends_with_last_push}
use Rattle.satip_worker.proofs.PauseLemmas.{rises_kept}
use Rattle.satip_worker.proofs.ProgressLemmas.{calm_then, carries_sent, rises_from}
use Rattle.satip_tunnel.specs.declared.ends.TunnelEnd.{TunnelEnd}
use Rattle.satip_tunnel.specs.declared.ends.TunnelEnd.TheVariants.{Full as end_full, Broken as end_broken, Done as end_done, ReadFault as end_unread, WriteFault as end_lost, Spent as end_spent}
use Rattle.satip_tunnel.specs.Ends.{LeftOver, DrawsTaken}
use Rattle.satip_tunnel.specs.Walk.{Stance, Free, Draining, Over, lane_peer}
use Rattle.satip_tunnel.specs.Pauses.{dry_at, dry_in}
use Rattle.satip_tunnel.specs.Wire.{wire}
use Rattle.satip_tunnel.specs.Requests.{AsksInParts, TakesDraws, asked_events, drawn_events}
use Rattle.satip_tunnel.specs.Seats.{Seat, conn_at}
use Rattle.satip_tunnel.specs.Exchanges.{Talks, Answers, AnswersInPart, AnswersToStop, StopsUnasked}
use Rattle.satip_tunnel.specs.Hearing.{Course, SoFar, Stands, Listens, HasClosed, MadeFirst, HasLost, HasStopped, talk_at}
use Rattle.satip_tunnel.proofs.PauseLemmas.{dry_behind}
use Rattle.satip_tunnel.proofs.SeatLemmas.{grows_then}
use Rattle.satip_tunnel.proofs.WalkLemmas.{walk_then, wire-append, in_part_behind}
use Rattle.satip_tunnel.proofs.DrawLemmas.{takes_then, drawn_next, drawn_over, length_push}

-- ---- what a text asks

-- the requests of more messages
requests_longer : (messages first others : List Said) (tail : Tail) → messages ≡ first ++ others
    → map asked_by_tunnel messages ++ asked_by_tail tail ≡ map asked_by_tunnel first ++ (map asked_by_tunnel others ++ asked_by_tail tail)
requests_longer messages first others tail is =
    ap (λ (ms : List Said). map asked_by_tunnel ms ++ asked_by_tail tail) is
    ∙ ap (λ (rs : List Request). rs ++ asked_by_tail tail) (map-append asked_by_tunnel first others)
    ∙ append_assoc (map asked_by_tunnel first) (map asked_by_tunnel others) (asked_by_tail tail)

-- what a text asks behind these requests
pub record AsksBehind (text : List ℕ) (made : List Request) : Type 0 where
  pub left : List Request
  pub asks : AsksInParts text (made ++ left)

-- the first messages of a text are the first of what it asks
pub asks_first : (text : List ℕ) (messages : List Said) (parter : Held) → IsReadUpTo text messages parter → AsksBehind text (map asked_by_tunnel messages)
asks_first text messages parter leads =
    let reading = parts_of text in
    let others = leads_first text messages reading.0 (inside parter.to_come) parter.bytes reading.1 leads reading.2 in
    record {
      left = map asked_by_tunnel others.0 ++ asked_by_tail reading.1;
      asks = record {
        messages = reading.0;
        tail = reading.1;
        read = reading.2;
        requests = sym (requests_longer reading.0 messages others.0 reading.1 others.1);
      };
    }

-- and one of them more
pub asks_next : (text : List ℕ) (messages : List Said) (said : Said) (parter : Held) → IsReadUpTo text (messages ++ said ∷ []) parter
    → (behind : AsksBehind text (map asked_by_tunnel messages)) × (behind.left ≢ [])
asks_next text messages said parter leads =
    let reading = parts_of text in
    let others = leads_first text (messages ++ said ∷ []) reading.0 (inside parter.to_come) parter.bytes reading.1 leads reading.2 in
    let is : reading.0 ≡ messages ++ said ∷ others.0 = others.1 ∙ append_assoc messages (said ∷ []) others.0 in (
      record {
        left = asked_by_tunnel said ∷ (map asked_by_tunnel others.0 ++ asked_by_tail reading.1);
        asks = record {
          messages = reading.0;
          tail = reading.1;
          read = reading.2;
          requests = sym (requests_longer reading.0 messages (said ∷ others.0) reading.1 is);
        };
      },
      λ e. cc e,
    )

-- all that a text asks that was read to its end
pub asks_all : (text : List ℕ) (messages : List Said) (tail : Tail) → Parts text messages tail
    → AsksInParts text (map asked_by_tunnel messages ++ asked_by_tail tail)
asks_all text messages tail read = record { messages = messages; tail = tail; read = read; requests = refl }

-- what a longer text asks begins with what the text asks
pub record AsksMore (text : List ℕ) (all : List Request) : Type 0 where
  pub others : List Request
  pub asks : AsksInParts text (all ++ others)

asks_more_by : (text more : List ℕ) (messages : List Said) (tail : Tail) → Parts text messages tail
    → AsksMore (text ++ more) (map asked_by_tunnel messages ++ asked_by_tail tail)
asks_more_by text more messages Unfinished read =
    let reading = parts_of (text ++ more) in
    let grown = list_grows text more messages reading.0 Unfinished reading.1 read reading.2 in
    record {
      others = map asked_by_tunnel grown.0 ++ asked_by_tail reading.1;
      asks = record {
        messages = reading.0;
        tail = reading.1;
        read = reading.2;
        requests = ap (λ (rs : List Request). rs ++ (map asked_by_tunnel grown.0 ++ asked_by_tail reading.1)) (append-nil (map asked_by_tunnel messages))
            ∙ sym (requests_longer reading.0 messages grown.0 reading.1 grown.1);
      };
    }
asks_more_by text more messages (broken_tail cause) read = record {
  others = [];
  asks = record {
    messages = messages;
    tail = broken_tail cause;
    read = broken_stays text more messages cause read;
    requests = append-nil (map asked_by_tunnel messages ++ broken_request cause ∷ []);
  };
}

asks_more : (text more : List ℕ) (all : List Request) → AsksInParts text all → AsksMore (text ++ more) all
asks_more text more all asks =
    let P : List Request → Type 0 = λ rs. AsksMore (text ++ more) rs in
    subst P (sym asks.requests) (asks_more_by text more asks.messages asks.tail asks.read)

-- ---- entries behind others

module _ (tells : Type 0) (course : Course) (o n : Seat) (l m : Line) (before after : ChaCha) (received sent : List ℕ)
    (body : List TunnelItem) (draws : List Draw) (so_far : SoFar tells course (talk_at o l before) received sent Free body draws) where
  pub so_far_then : (to : Stance) (entries : List TunnelItem) (more : List ℕ) (taken : List Draw)
      → Talks tells course.lane (conn_at o l) (conn_at n m) Free to entries more → dry_in entries ≤ length (inners entries) → TakesDraws before taken after
      → SoFar tells course (talk_at n m after) received (sent ++ more) to (body ++ entries) (draws ++ taken)
  so_far_then to entries more taken talks dry takes = record {
    walk = walk_then course.lane Free Free to body entries so_far.walk talks.walk;
    dry = dry_behind body entries (course.pieces + course.paused) 0 (course.pieces + course.paused) so_far.dry (omega (arith, dry)) (omega arith);
    few = so_far.few;
    quiet = rises_kept course.idles course.line.idles l.idles m.idles so_far.quiet talks.idles;
    grows = grows_then course.seat o n body entries so_far.grows talks.grows;
    takes = takes_then course.draws before after draws taken so_far.takes takes;
    carries = carries_sent tells course.line l m received sent more so_far.carries talks.carries;
  }

-- no draw was taken behind these
pub so_far_drained : (tells : Type 0) (course : Course) (o n : Seat) (l m : Line) (c : ChaCha) (received sent : List ℕ)
    (body : List TunnelItem) (draws : List Draw) → SoFar tells course (talk_at o l c) received sent Free body draws
    → (to : Stance) (entries : List TunnelItem) (more : List ℕ) → Talks tells course.lane (conn_at o l) (conn_at n m) Free to entries more
    → dry_in entries ≤ length (inners entries) → SoFar tells course (talk_at n m c) received (sent ++ more) to (body ++ entries) draws
so_far_drained tells course o n l m c received sent body draws so_far to entries more talks dry = record {
  walk = walk_then course.lane Free Free to body entries so_far.walk talks.walk;
  dry = dry_behind body entries (course.pieces + course.paused) 0 (course.pieces + course.paused) so_far.dry (omega (arith, dry)) (omega arith);
  few = so_far.few;
  quiet = rises_kept course.idles course.line.idles l.idles m.idles so_far.quiet talks.idles;
  grows = grows_then course.seat o n body entries so_far.grows talks.grows;
  takes = so_far.takes;
  carries = carries_sent tells course.line l m received sent more so_far.carries talks.carries;
}

-- after this number of pieces that completed no message, and this number of pauses
abbrev pub course_after : Course → (pieces paused : ℕ) → Course
course_after course pieces paused = record course { pieces = pieces; paused = paused }

-- the lane was drained once more after a piece that completed no message, or at a receive that found nothing
pub so_far_counted : (tells : Type 0) (course : Course) (o n : Seat) (l m : Line) (c : ChaCha) (received sent : List ℕ)
    (body : List TunnelItem) (draws : List Draw) → SoFar tells course (talk_at o l c) received sent Free body draws
    → (pieces paused : ℕ) → pieces + paused ≡ (course.pieces + course.paused) + 1 → pieces ≤ length received
    → (to : Stance) (entries : List TunnelItem) (more : List ℕ) → Talks tells course.lane (conn_at o l) (conn_at n m) Free to entries more
    → dry_in entries ≤ 1 → SoFar tells (course_after course pieces paused) (talk_at n m c) received (sent ++ more) to (body ++ entries) draws
so_far_counted tells course o n l m c received sent body draws so_far pieces paused one few to entries more talks dry = record {
  walk = walk_then course.lane Free Free to body entries so_far.walk talks.walk;
  dry = dry_behind body entries (course.pieces + course.paused) 1 (pieces + paused) so_far.dry (omega (arith, dry)) one;
  few = few;
  quiet = rises_kept course.idles course.line.idles l.idles m.idles so_far.quiet talks.idles;
  grows = grows_then course.seat o n body entries so_far.grows talks.grows;
  takes = so_far.takes;
  carries = carries_sent tells course.line l m received sent more so_far.carries talks.carries;
}

-- the server's events of entries behind others
asked_events-append : (xs ys : List TunnelItem) → asked_events (xs ++ ys) ≡ asked_events xs ++ asked_events ys
asked_events-append xs ys =
    ap (λ (es : List Item). events_of es) (inners-append xs ys) ∙ map-append (λ (e : Item). e.event) (inners xs) (inners ys)

-- one of them more
pub events_next : (lane : ℕ) (body entries : List TunnelItem) (item : Item) (draws : List Draw) (draw : Draw) (made : List Request) (request : Request)
    → length draws ≡ length made → asked_events body ≡ drawn_events (lane_peer lane) draws made
    → inners entries ≡ item ∷ [] → item.event ≡ Asks (lane_peer lane) draw request
    → asked_events (body ++ entries) ≡ drawn_events (lane_peer lane) (draws ++ draw ∷ []) (made ++ request ∷ [])
events_next lane body entries item draws draw made request counted are asked is =
    asked_events-append body entries
    ∙ ap (λ (es : List Event). es ++ asked_events entries) are
    ∙ ap (λ (es : List Item). drawn_events (lane_peer lane) draws made ++ events_of es) asked
    ∙ ap (λ (e : Event). drawn_events (lane_peer lane) draws made ++ e ∷ []) is
    ∙ sym (drawn_next (lane_peer lane) draws draw made request counted)

-- none of them more
pub events_drained : (body entries : List TunnelItem) (events : List Event) → asked_events body ≡ events → inners entries ≡ []
    → asked_events (body ++ entries) ≡ events
events_drained body entries events are none =
    asked_events-append body entries ∙ ap (λ (es : List Item). asked_events body ++ events_of es) none ∙ append-nil (asked_events body) ∙ are

-- as many draws as requests
counted_next : (draws : List Draw) (draw : Draw) (made : List Request) (request : Request) → length draws ≡ length made
    → length (draws ++ draw ∷ []) ≡ length (made ++ request ∷ [])
counted_next draws draw made request counted = omega (arith, length-append draws (draw ∷ []), length-append made (request ∷ []))

-- whether the last reply was a closing one
pub over_next : (body entries : List TunnelItem) (item : Item) → inners entries ≡ item ∷ []
    → ends_with_last (inners (body ++ entries)) ≡ ends_with item.answer
over_next body entries item asked =
    ap (λ (es : List Item). ends_with_last es) (inners-append body entries ∙ ap (λ (es : List Item). inners body ++ es) asked)
    ∙ ends_with_last_push (inners body) item

pub over_drained : (body entries : List TunnelItem) → inners entries ≡ [] → ends_with_last (inners (body ++ entries)) ≡ ends_with_last (inners body)
over_drained body entries none =
    ap (λ (es : List Item). ends_with_last es) (inners-append body entries ∙ ap (λ (es : List Item). inners body ++ es) none ∙ append-nil (inners body))

-- ---- one request more

module _ (tells : Type 0) (course : Course) (o n : Seat) (l m : Line) (before after : ChaCha) (received text : List ℕ) (messages : List Said)
    (parter : Held) (stands : Stands tells course (talk_at o l before) received text messages parter)
    (draw : Draw) (takes : TakesDraws before (draw ∷ []) after) (request : Request) where
  abbrev event : Event
  event = Asks (lane_peer course.lane) draw request

  abbrev made : List Request
  made = map asked_by_tunnel messages

  -- what was made then
  so_far_next : (to : Stance) (entries : List TunnelItem) (more : List ℕ) → Talks tells course.lane (conn_at o l) (conn_at n m) Free to entries more
      → dry_in entries ≤ length (inners entries)
      → SoFar tells course (talk_at n m after) received (wire stands.body ++ more) to (stands.body ++ entries) (stands.draws ++ draw ∷ [])
  so_far_next to entries more talks dry =
      so_far_then tells course o n l m before after received (wire stands.body) stands.body stands.draws stands.so_far to entries more (draw ∷ []) talks dry
      takes

  so_far_whole : (to : Stance) (entries : List TunnelItem) → Talks tells course.lane (conn_at o l) (conn_at n m) Free to entries (wire entries)
      → dry_in entries ≤ length (inners entries)
      → SoFar tells course (talk_at n m after) received (wire (stands.body ++ entries)) to (stands.body ++ entries) (stands.draws ++ draw ∷ [])
  so_far_whole to entries talks dry =
      let P : List ℕ → Type 0 = λ s. SoFar tells course (talk_at n m after) received s to (stands.body ++ entries) (stands.draws ++ draw ∷ []) in
      subst P (sym (wire-append stands.body entries)) (so_far_next to entries (wire entries) talks dry)

  -- at most one drain behind a request found no frame
  dry_once : (to : Stance) (entries : List TunnelItem) (item : Item) → inners entries ≡ item ∷ [] → dry_in entries ≤ dry_at to
      → dry_in entries ≤ length (inners entries)
  dry_once Free entries item asked dry = let one : length (inners entries) ≡ 1 = ap (λ (h : List Item). length h) asked in omega (arith, one, dry)
  dry_once Draining entries item asked dry = omega (arith, dry)
  dry_once Over entries item asked dry = omega (arith, dry)

  -- it was answered, and the text goes on
  pub stands_next : (said : Said) (next : Held) → request ≡ asked_by_tunnel said → IsReadUpTo text (messages ++ said ∷ []) next
      → Answers tells course.lane (conn_at o l) (conn_at n m) event false Free
      → Stands tells course (talk_at n m after) received text (messages ++ said ∷ []) next
  stands_next said next is leads a =
      let whole : made ++ request ∷ [] ≡ map asked_by_tunnel (messages ++ said ∷ []) =
      ap (λ (r : Request). made ++ r ∷ []) is ∙ sym (map_push asked_by_tunnel messages said) in
      record {
        leads = leads;
        body = stands.body ++ a.entries;
        draws = stands.draws ++ draw ∷ [];
        counted = counted_next stands.draws draw made request stands.counted ∙ ap (λ (rs : List Request). length rs) whole;
        events = events_next course.lane stands.body a.entries a.item stands.draws draw made request stands.counted stands.events a.asked a.event_is
            ∙ ap (λ (rs : List Request). drawn_events (lane_peer course.lane) (stands.draws ++ draw ∷ []) rs) whole;
        unended = over_next stands.body a.entries a.item a.asked ∙ a.answer_is;
        so_far = so_far_whole Free a.entries a.talks (dry_once Free a.entries a.item a.asked a.dry);
        calm = calm_then course.line l m stands.calm a.calm;
      }

  -- what is no message was answered
  pub closes_text : (cause : Break) → request ≡ broken_request cause → Parts text messages (broken_tail cause)
      → Answers tells course.lane (conn_at o l) (conn_at n m) event true Free → HasClosed tells course (talk_at n m after) received text
  closes_text cause is read a =
      let whole : made ++ request ∷ [] ≡ made ++ broken_request cause ∷ [] = ap (λ (r : Request). made ++ r ∷ []) is in
      record {
        messages = messages;
        cause = cause;
        read = read;
        body = stands.body ++ a.entries;
        draws = stands.draws ++ draw ∷ [];
        counted = counted_next stands.draws draw made request stands.counted ∙ ap (λ (rs : List Request). length rs) whole;
        events = events_next course.lane stands.body a.entries a.item stands.draws draw made request stands.counted stands.events a.asked a.event_is
            ∙ ap (λ (rs : List Request). drawn_events (lane_peer course.lane) (stands.draws ++ draw ∷ []) rs) whole;
        ended = over_next stands.body a.entries a.item a.asked ∙ a.answer_is;
        so_far = so_far_whole Free a.entries a.talks (dry_once Free a.entries a.item a.asked a.dry);
        calm = calm_then course.line l m stands.calm a.calm;
      }

  -- the lane is broken
  pub breaks : (over : Bool) → AsksBehind text (made ++ request ∷ []) → Answers tells course.lane (conn_at o l) (conn_at n m) event over Over
      → MadeFirst tells course (talk_at n m after) received text end_broken
  breaks over behind a = record {
    body = stands.body ++ a.entries;
    draws = stands.draws ++ draw ∷ [];
    sent = wire (stands.body ++ a.entries);
    stance = Over;
    made = made ++ request ∷ [];
    left = behind.left;
    asks = behind.asks;
    left_over = tt;
    events = events_next course.lane stands.body a.entries a.item stands.draws draw made request stands.counted stands.events a.asked a.event_is;
    drawn = counted_next stands.draws draw made request stands.counted;
    stops = refl;
    sent_is = refl;
    so_far = so_far_whole Over a.entries a.talks (dry_once Over a.entries a.item a.asked a.dry);
  }

  -- a send failed
  pub loses : AsksBehind text (made ++ request ∷ []) → AnswersInPart tells course.lane (conn_at o l) (conn_at n m) event → HasLost tells course (talk_at n m after) received text
  loses behind a = record {
    first = record {
      body = stands.body ++ a.entries;
      draws = stands.draws ++ draw ∷ [];
      sent = wire stands.body ++ a.sent;
      stance = Draining;
      made = made ++ request ∷ [];
      left = behind.left;
      asks = behind.asks;
      left_over = tt;
      events = events_next course.lane stands.body a.entries a.item stands.draws draw made request stands.counted stands.events a.asked a.event_is;
      drawn = counted_next stands.draws draw made request stands.counted;
      stops = refl;
      sent_is = in_part_behind stands.body a.entries a.sent a.in_part;
      so_far = so_far_next Draining a.entries a.sent a.talks (let none = a.dry in omega (arith, none));
    };
    faults = rises_from course.line.send_faults l.send_faults m.send_faults stands.so_far.carries.send_faults a.faults;
    receives = a.receives ∙ stands.calm.receive_faults;
  }

  -- the history was full behind it
  pub stops_behind : (over : Bool) → AsksBehind text (made ++ request ∷ []) → AnswersToStop tells course.lane (conn_at o l) (conn_at n m) event over
      → HasStopped tells course (talk_at n m after) received text
  stops_behind over behind stop =
      let a = stop.answers in
      record {
        first = record {
          body = stands.body ++ a.entries;
          draws = stands.draws ++ draw ∷ [];
          sent = wire (stands.body ++ a.entries);
          stance = stop.to;
          made = made ++ request ∷ [];
          left = behind.left;
          asks = behind.asks;
          left_over = tt;
          events = events_next course.lane stands.body a.entries a.item stands.draws draw made request stands.counted stands.events a.asked a.event_is;
          drawn = inl (counted_next stands.draws draw made request stands.counted);
          stops = stop.going;
          sent_is = refl;
          so_far = so_far_whole stop.to a.entries a.talks (dry_once stop.to a.entries a.item a.asked a.dry);
        };
        full = stop.full;
      }

  -- the history was full before it
  pub stops_before : (behind : AsksBehind text made) → behind.left ≢ [] → StopsUnasked tells course.lane (conn_at o l) (conn_at n m)
      → HasStopped tells course (talk_at n m after) received text
  stops_before behind more stop =
      let none : stands.body ++ [] ≡ stands.body = append-nil stands.body in
      let quiet : wire stands.body ++ [] ≡ wire stands.body = append-nil (wire stands.body) in
      let P : List TunnelItem → Type 0 = λ es. SoFar tells course (talk_at n m after) received (wire stands.body ++ []) Free es (stands.draws ++ draw ∷ []) in
      let Q : List ℕ → Type 0 = λ s. SoFar tells course (talk_at n m after) received s Free stands.body (stands.draws ++ draw ∷ []) in
      record {
        first = record {
          body = stands.body;
          draws = stands.draws ++ draw ∷ [];
          sent = wire stands.body;
          stance = Free;
          made = made;
          left = behind.left;
          asks = behind.asks;
          left_over = tt;
          events = stands.events ∙ sym (drawn_over (lane_peer course.lane) stands.draws draw made stands.counted);
          drawn = inr (length_push stands.draws draw ∙ ap (λ (k : ℕ). k + 1) stands.counted, more);
          stops = tt;
          sent_is = refl;
          so_far = subst Q quiet (subst P none (so_far_next Free [] [] stop.talks (omega arith)));
        };
        full = stop.full;
      }

-- ---- a longer text

pub stands_at : (tells : Type 0) (course : Course) (n : Seat) (m : Line) (c : ChaCha) (received text : List ℕ) (messages : List Said) (parter next : Held)
    → Stands tells course (talk_at n m c) received text messages parter → IsReadUpTo text messages next
    → Stands tells course (talk_at n m c) received text messages next
stands_at tells course n m c received text messages parter next stands leads = record {
  leads = leads;
  body = stands.body;
  draws = stands.draws;
  counted = stands.counted;
  events = stands.events;
  unended = stands.unended;
  so_far = stands.so_far;
  calm = stands.calm;
}

pub stands_fed : (tells : Type 0) (course : Course) (n : Seat) (m : Line) (c : ChaCha) (received text piece : List ℕ) (messages : List Said)
    (parter fed : Held) → Stands tells course (talk_at n m c) received text messages parter → IsReadUpTo (text ++ piece) messages fed
    → Stands tells course (talk_at n m c) received (text ++ piece) messages fed
stands_fed tells course n m c received text piece messages parter fed stands leads = record {
  leads = leads;
  body = stands.body;
  draws = stands.draws;
  counted = stands.counted;
  events = stands.events;
  unended = stands.unended;
  so_far = stands.so_far;
  calm = stands.calm;
}

pub closed_stays : (tells : Type 0) (course : Course) (n : Seat) (m : Line) (c : ChaCha) (received text more : List ℕ)
    → HasClosed tells course (talk_at n m c) received text → HasClosed tells course (talk_at n m c) received (text ++ more)
closed_stays tells course n m c received text more closed = record {
  messages = closed.messages;
  cause = closed.cause;
  read = broken_stays text more closed.messages closed.cause closed.read;
  body = closed.body;
  draws = closed.draws;
  counted = closed.counted;
  events = closed.events;
  ended = closed.ended;
  so_far = closed.so_far;
  calm = closed.calm;
}

-- more behind what is there leaves it there
more_behind : {X : Type 0} (some behind : List X) → some ≢ [] → some ++ behind ≢ []
more_behind [] behind is = absurd (is refl)
more_behind (x ∷ some) behind is = λ e. cc e

-- an end at which requests may be left
abbrev pub MayLeave : TunnelEnd → Type 0
MayLeave end_full = ⊥
MayLeave end_broken = Unit {0}
MayLeave end_done = ⊥
MayLeave end_unread = ⊥
MayLeave end_lost = Unit {0}
MayLeave end_spent = Unit {0}

left_longer : (end : TunnelEnd) (left others : List Request) → MayLeave end → LeftOver end (left ++ others)
left_longer end_full left others may = absurd may
left_longer end_broken left others may = tt
left_longer end_done left others may = absurd may
left_longer end_unread left others may = absurd may
left_longer end_lost left others may = tt
left_longer end_spent left others may = tt

drawn_longer : (end : TunnelEnd) (taken made : ℕ) (left others : List Request) → MayLeave end → DrawsTaken end taken made left
    → DrawsTaken end taken made (left ++ others)
drawn_longer end_full taken made left others may drawn = absurd may
drawn_longer end_broken taken made left others may drawn = drawn
drawn_longer end_done taken made left others may drawn = absurd may
drawn_longer end_unread taken made left others may drawn = absurd may
drawn_longer end_lost taken made left others may drawn = drawn
drawn_longer end_spent taken made left others may (inl same) = inl same
drawn_longer end_spent taken made left others may (inr one) = inr (one.0, more_behind left others one.1)

pub first_stays : (tells : Type 0) (course : Course) (n : Seat) (m : Line) (c : ChaCha) (received text more : List ℕ) (end : TunnelEnd) → MayLeave end
    → MadeFirst tells course (talk_at n m c) received text end → MadeFirst tells course (talk_at n m c) received (text ++ more) end
first_stays tells course n m c received text more end may first =
    let longer = asks_more text more (first.made ++ first.left) first.asks in
    let A : List Request → Type 0 = λ rs. AsksInParts (text ++ more) rs in
    record {
      body = first.body;
      draws = first.draws;
      sent = first.sent;
      stance = first.stance;
      made = first.made;
      left = first.left ++ longer.others;
      asks = subst A (append_assoc first.made first.left longer.others) longer.asks;
      left_over = left_longer end first.left longer.others may;
      events = first.events;
      drawn = drawn_longer end (length first.draws) (length first.made) first.left longer.others may first.drawn;
      stops = first.stops;
      sent_is = first.sent_is;
      so_far = first.so_far;
    }

pub lost_stays : (tells : Type 0) (course : Course) (n : Seat) (m : Line) (c : ChaCha) (received text more : List ℕ)
    → HasLost tells course (talk_at n m c) received text → HasLost tells course (talk_at n m c) received (text ++ more)
lost_stays tells course n m c received text more lost = record {
  first = first_stays tells course n m c received text more end_lost tt lost.first;
  faults = lost.faults;
  receives = lost.receives;
}

pub stopped_stays : (tells : Type 0) (course : Course) (n : Seat) (m : Line) (c : ChaCha) (received text more : List ℕ)
    → HasStopped tells course (talk_at n m c) received text → HasStopped tells course (talk_at n m c) received (text ++ more)
stopped_stays tells course n m c received text more stopped = record {
  first = first_stays tells course n m c received text more end_spent tt stopped.first;
  full = stopped.full;
}

-- a piece in its parts
pub piece_parts : (heard rest piece : List ℕ) (count : ℕ) → piece ≡ heard ++ rest → piece ≡ (heard ++ take count rest) ++ drop count rest
piece_parts heard rest piece count whole =
    whole ∙ ap (λ (r : List ℕ). heard ++ r) (sym (take-append-drop count rest)) ∙ sym (append_assoc heard (take count rest) (drop count rest))

-- a text and the piece behind it, in its parts
pub text_parts : (text heard rest piece : List ℕ) (count : ℕ) → piece ≡ heard ++ rest
    → ((text ++ heard) ++ take count rest) ++ drop count rest ≡ text ++ piece
text_parts text heard rest piece count whole =
    append_assoc (text ++ heard) (take count rest) (drop count rest)
    ∙ ap (λ (r : List ℕ). (text ++ heard) ++ r) (take-append-drop count rest)
    ∙ append_assoc text heard rest
    ∙ ap (λ (p : List ℕ). text ++ p) (sym whole)

-- none of a piece was heard
pub heard_none : (tells : Type 0) (course : Course) (n : Seat) (m : Line) (c : ChaCha) (received text piece : List ℕ) (parter : Held)
    → Listens tells course (talk_at n m c) received text parter
    → (heard : List ℕ) × (piece ≡ heard ++ piece) × Listens tells course (talk_at n m c) received (text ++ heard) parter
heard_none tells course n m c received text piece parter listens =
    let P : List ℕ → Type 0 = λ t. Listens tells course (talk_at n m c) received t parter in
    ([], refl, subst P (sym (append-nil text)) listens)
