-- The run of an HTTP connection at each of its ends.
use Rattle.std.proofs.Common.{◌≡◌, ℕ, ◌+◌, Bool, false, List, [], ◌∷◌, ◌++◌, refl, sym, ap, ◌∙◌, subst, inl, inr, Option}
use Rattle.std.proofs.lemmas.List.{append-nil}
use Rattle.rand_chacha.specs.ChaCha.{ChaCha}
use Rattle.satip_base.specs.declared.network.Peer.{Peer}
use Rattle.satip_base.specs.declared.identity.Draw.{Draw}
use Rattle.satip_base.specs.declared.identity.SessionId.{SessionId}
use Rattle.satip_frame.specs.Stream.{Unfinished}
use Rattle.satip_http.specs.declared.requests.HttpRequest.{HttpRequest}
use Rattle.satip_plain.specs.declared.answers.Answer.{Answer}
use Rattle.satip_plain.specs.declared.events.Event.TheVariants.{Get}
use Rattle.satip_plain.specs.Histories.{Item}
use Rattle.satip_world.specs.Counts.{Rises}
use Rattle.satip_world.specs.Lines.{Line}
use Rattle.satip_world.specs.declared.doors.ConnEnd.{ConnEnd}
use Rattle.satip_world.specs.declared.doors.ConnEnd.TheVariants.{Done, ReadFault, WriteFault, Spent as spent, Want as wants}
use Rattle.satip_world.specs.declared.doors.DoorKind.TheVariants.{Http}
use Rattle.satip_plain.specs.declared.fault.ServiceFault.{ServiceFault}
use Rattle.satip_worker.specs.Answers.{ends_with, ends_with_last}
use Rattle.satip_worker.specs.Drawing.{draw_at, draws_at, before_draw}
use Rattle.satip_worker.specs.Ends.{LineEnds, ServiceEnds, end_of}
use Rattle.satip_worker.specs.FirstAsked.{AsksFirst, ReadAsked, ReadNothing, ReadFailed}
use Rattle.satip_worker.specs.HttpRun.{FollowsGet, Gets, HttpEntries, HttpRun, Pulls}
use Rattle.satip_worker.specs.HttpTurns.{IsStart, IsRefusal, ClosesSession}
use Rattle.satip_worker.specs.Progress.{Stage, SameFaults}
use Rattle.satip_worker.specs.Served.{ServesConn}
use Rattle.satip_worker.specs.Streaming.{Streams}
use Rattle.satip_worker.specs.Turns.{ReplySent, ReplyLost, TurnUnmade}
use Rattle.satip_worker.proofs.ProgressLemmas.{makes_nothing, makes_then, calm_then, carries_then, carries_sent, carries_on, rises_from}
use Rattle.satip_worker.proofs.FirstLemmas.{first_longer, first_read}
use Rattle.satip_worker.proofs.StreamLemmas.{unmade_end, service_ends_of, line_ends_unmade, line_ends_closed}

-- the draws that a connection took, and its run
abbrev pub RanHttp : (ct ot : Type 0) (peer : Peer) (key : List ℕ) (stream from : ℕ) (o n : Stage) (l m : Line) (draws : ChaCha) → ConnEnd → Type 0
RanHttp ct ot peer key stream from o n l m draws end = (to : ℕ) × (draws ≡ before_draw key stream to)
    × ServesConn ct ot Http peer (draws_at key stream from to) (record { stage = o; line = l }) (record { stage = n; line = m }) end

-- what was asked first has these entries
http_run : (peer : Peer) (drawn : ℕ → Draw) (from : ℕ) (received more sent : List ℕ) (end : ConnEnd) (entries : List Item) (request : HttpRequest)
    → AsksFirst received request → Gets peer (drawn from) request end entries sent
    → HttpRun peer drawn from (from + 1) (received ++ more) sent end entries
http_run peer drawn from received more sent end entries request first gets =
    let read = first_read (received ++ more) request (first_longer received more request first) in
    let P : Option HttpRequest → Type 0 = λ r. HttpEntries peer drawn from (from + 1) end entries sent r in
    record { messages = read.messages; tail = read.tail; read = read.read; entries_are = subst P (sym read.first) (gets, refl) }

-- with nothing more received
http_run_here : (peer : Peer) (drawn : ℕ → Draw) (from : ℕ) (received sent : List ℕ) (end : ConnEnd) (entries : List Item) (request : HttpRequest)
    → AsksFirst received request → Gets peer (drawn from) request end entries sent
    → HttpRun peer drawn from (from + 1) received sent end entries
http_run_here peer drawn from received sent end entries request first gets =
    let P : List ℕ → Type 0 = λ r. HttpRun peer drawn from (from + 1) r sent end entries in
    subst P (append-nil received) (http_run peer drawn from received [] sent end entries request first gets)

-- what the line shows from an earlier moment, since when nothing had failed
line_ends_from : (end : ConnEnd) (l m n : Line) (over : Bool) → SameFaults l m → LineEnds end m n over → LineEnds end l n over
line_ends_from Done l m n over calm ends = record { is_over = ends.is_over; calm = calm_then l m n calm ends.calm }
line_ends_from ReadFault l m n over calm ends = record {
  goes_on = ends.goes_on;
  unanswered = ends.unanswered;
  faults = subst (λ (k : ℕ). Rises k n.receive_faults) calm.receive_faults ends.faults;
  sends = ends.sends ∙ calm.send_faults;
}
line_ends_from WriteFault l m n over calm ends = record {
  goes_on = ends.goes_on;
  faults = subst (λ (k : ℕ). Rises k n.send_faults) calm.send_faults ends.faults;
  receives = ends.receives ∙ calm.receive_faults;
}
line_ends_from spent l m n over calm ends = tt
line_ends_from wants l m n over calm ends = tt

-- with an entry in front
line_ends_behind : (id : SessionId) (end : ConnEnd) (l n : Line) (e : Item) (entries : List Item) (sent : List ℕ) → Pulls id end entries sent
    → LineEnds end l n (ends_with_last entries) → LineEnds end l n (ends_with_last (e ∷ entries))
line_ends_behind id end l n e [] sent pulls ends = line_ends_unmade end l n (ends_with e.answer) pulls.0
line_ends_behind id end l n e (f ∷ entries) sent pulls ends = ends

module _ (ct ot : Type 0) (peer : Peer) (key : List ℕ) (stream from : ℕ) (o : Stage) (l m : Line) (draws : ChaCha) where
  -- the input ended before anything was asked
  pub ran_to_nothing : ReadNothing ct l m → draws ≡ before_draw key stream from → RanHttp ct ot peer key stream from o o l m draws Done
  ran_to_nothing read are = (
    from,
    are,
    record {
      entries = [];
      received = read.received;
      sent = [];
      run = record { messages = []; tail = Unfinished; read = read.nothing; entries_are = (refl, refl, refl) };
      makes = makes_nothing ot o;
      carries = read.carries;
      line_ends = record { is_over = inl (read.ended, refl); calm = read.calm };
      service_ends = tt;
    },
  )

  -- a receive failed before anything was asked
  pub ran_to_failure : ReadFailed ct l m → draws ≡ before_draw key stream from → RanHttp ct ot peer key stream from o o l m draws ReadFault
  ran_to_failure read are = (
    from,
    are,
    record {
      entries = [];
      received = read.received;
      sent = [];
      run = record { messages = []; tail = Unfinished; read = read.nothing; entries_are = (refl, refl, refl) };
      makes = makes_nothing ot o;
      carries = read.carries;
      line_ends = record { goes_on = read.goes_on; unanswered = refl; faults = read.faults; sends = read.sends };
      service_ends = tt;
    },
  )

module _ (ct ot : Type 0) (peer : Peer) (key : List ℕ) (stream from : ℕ) (o n : Stage) (l k m : Line) (draws : ChaCha) (request : HttpRequest)
    (read : ReadAsked ct l k request) (taken : draws ≡ before_draw key stream (from + 1)) where
  -- a refusal was sent
  pub ran_to_refusal : m.ended ≡ k.ended → ReplySent ct ot (record { stage = o; line = k }) (record { stage = n; line = m }) (Get peer (draw_at key stream from) request) IsRefusal
      → RanHttp ct ot peer key stream from o n l m draws Done
  ran_to_refusal same turn =
      let e = turn.entry in
      let P : Answer → Type 0 = λ a. FollowsGet Done a e.out.reply e.out.reply [] in (
        from + 1,
        taken,
        record {
          entries = e ∷ [];
          received = read.received;
          sent = e.out.reply;
          run = http_run_here peer (draw_at key stream) from read.received e.out.reply Done (e ∷ []) request read.first
              (turn.event_is, subst P (sym turn.answer_is.1) (refl, inl (refl, refl)));
          makes = turn.makes;
          carries = carries_sent ct l k m read.received [] e.out.reply read.carries turn.carries;
          line_ends = record {
            is_over = inr (same ∙ read.goes_on, ap (λ (a : Answer). ends_with a) turn.answer_is.1);
            calm = calm_then l k m read.calm turn.calm;
          };
          service_ends = tt;
        },
      )

  -- a beginning of a refusal was sent
  pub ran_to_cut_refusal : m.ended ≡ k.ended → ReplyLost ct ot (record { stage = o; line = k }) (record { stage = n; line = m }) (Get peer (draw_at key stream from) request) IsRefusal
      → RanHttp ct ot peer key stream from o n l m draws WriteFault
  ran_to_cut_refusal same turn =
      let e = turn.entry in
      let P : Answer → Type 0 = λ a. FollowsGet WriteFault a e.out.reply turn.part [] in (
        from + 1,
        taken,
        record {
          entries = e ∷ [];
          received = read.received;
          sent = turn.part;
          run = http_run_here peer (draw_at key stream) from read.received turn.part WriteFault (e ∷ []) request read.first
              (turn.event_is, subst P (sym turn.answer_is.1) (refl, inr (turn.rest, turn.reply, refl)));
          makes = turn.makes;
          carries = carries_sent ct l k m read.received [] turn.part read.carries turn.carries;
          line_ends = record {
            goes_on = same ∙ read.goes_on;
            faults = rises_from l.send_faults k.send_faults m.send_faults read.carries.send_faults turn.faults;
            receives = turn.receives ∙ read.calm.receive_faults;
          };
          service_ends = tt;
        },
      )

  -- the GET has no entry
  pub ran_to_unmade : (fault : ServiceFault) → TurnUnmade ct ot (record { stage = o; line = k }) (record { stage = n; line = m }) fault → RanHttp ct ot peer key stream from o n l m draws (end_of fault)
  ran_to_unmade fault turn = (
    from + 1,
    taken,
    record {
      entries = [];
      received = read.received;
      sent = [];
      run = http_run_here peer (draw_at key stream) from read.received [] (end_of fault) [] request read.first (unmade_end fault, refl);
      makes = turn.makes;
      carries = carries_on ct l k m read.received [] read.carries turn.carries;
      line_ends = line_ends_unmade (end_of fault) l m false (unmade_end fault);
      service_ends = service_ends_of fault o.may_want n.known turn.cause;
    },
  )

  -- a beginning of a head was sent, and the session was closed
  pub ran_to_cut_start : (id : SessionId) (n' : Stage) (end : ConnEnd) → m.ended ≡ k.ended
      → ReplyLost ct ot (record { stage = o; line = k }) (record { stage = n; line = m }) (Get peer (draw_at key stream from) request) (IsStart id)
      → ClosesSession ot n n' id WriteFault end → RanHttp ct ot peer key stream from o n' l m draws end
  ran_to_cut_start id n' end same turn closed =
      let e = turn.entry in
      let P : Answer → Type 0 = λ a. FollowsGet end a e.out.reply turn.part closed.entries in
      let W : Bool → Type 0 = λ w. ServiceEnds end w n'.known in (
        from + 1,
        taken,
        record {
          entries = e ∷ closed.entries;
          received = read.received;
          sent = turn.part;
          run = http_run_here peer (draw_at key stream) from read.received turn.part end (e ∷ closed.entries) request read.first
              (turn.event_is, subst P (sym turn.answer_is) (inr (record { rest = turn.rest; part = turn.reply; closes = closed.closes })));
          makes = makes_then ot o n n' (e ∷ []) closed.entries turn.makes closed.makes;
          carries = carries_sent ct l k m read.received [] turn.part read.carries turn.carries;
          line_ends = line_ends_closed id WriteFault end l m (e ∷ []) closed.entries closed.closes closed.unended (record {
            goes_on = same ∙ read.goes_on;
            faults = rises_from l.send_faults k.send_faults m.send_faults read.carries.send_faults turn.faults;
            receives = turn.receives ∙ read.calm.receive_faults;
          });
          service_ends = subst W turn.makes.may_want closed.service_ends;
        },
      )

  -- a session started and was pulled
  pub ran_to_stream : (id : SessionId) (n' : Stage) (m' : Line) (end : ConnEnd)
      → ReplySent ct ot (record { stage = o; line = k }) (record { stage = n; line = m }) (Get peer (draw_at key stream from) request) (IsStart id)
      → Streams ct ot id (record { stage = n; line = m }) (record { stage = n'; line = m' }) end → RanHttp ct ot peer key stream from o n' l m' draws end
  ran_to_stream id n' m' end turn streams =
      let e = turn.entry in
      let P : Answer → Type 0 = λ a. FollowsGet end a e.out.reply (e.out.reply ++ streams.sent) streams.entries in
      let W : Bool → Type 0 = λ w. ServiceEnds end w n'.known in
      let start = carries_sent ct l k m read.received [] e.out.reply read.carries turn.carries in (
        from + 1,
        taken,
        record {
          entries = e ∷ streams.entries;
          received = read.received ++ streams.received;
          sent = e.out.reply ++ streams.sent;
          run = http_run peer (draw_at key stream) from read.received streams.received (e.out.reply ++ streams.sent) end (e ∷ streams.entries) request
              read.first (turn.event_is, subst P (sym turn.answer_is) (inl (record { rest = streams.sent; whole = refl; goes_on = streams.pulls })));
          makes = makes_then ot o n n' (e ∷ []) streams.entries turn.makes streams.makes;
          carries = carries_then ct l m m' read.received e.out.reply streams.received streams.sent start streams.carries;
          line_ends = line_ends_behind id end l m' e streams.entries streams.sent streams.pulls
              (line_ends_from end l m m' (ends_with_last streams.entries) (calm_then l k m read.calm turn.calm) streams.line_ends);
          service_ends = subst W turn.makes.may_want streams.service_ends;
        },
      )
