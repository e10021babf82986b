-- A session that is pulled again and again.
use Rattle.std.proofs.Common.{◌≡◌, ℕ, Bool, true, false, List, [], ◌∷◌, ◌++◌, take, append_assoc, arith, refl, sym, ap, ◌∙◌, subst, inl, inr}
use Rattle.satip_base.specs.declared.identity.SessionId.{SessionId}
use Rattle.satip_plain.specs.declared.answers.Answer.{Answer}
use Rattle.satip_plain.specs.declared.events.Event.TheVariants.{Pull}
use Rattle.satip_plain.specs.Histories.{Item}
use Rattle.satip_world.specs.Lines.{Line, GotBytes, WasIdle, InputEnded, ReceiveFailed}
use Rattle.satip_world.specs.declared.doors.ConnEnd.{ConnEnd}
use Rattle.satip_world.specs.declared.doors.ConnEnd.TheVariants.{Done, ReadFault, WriteFault, Spent as spent, Want as wants}
use Rattle.satip_plain.specs.Calls.{Cause}
use Rattle.satip_plain.specs.Known.{Known}
use Rattle.satip_plain.specs.declared.fault.ServiceFault.{ServiceFault}
use Rattle.satip_plain.specs.declared.fault.ServiceFault.TheVariants.{Spent, Want}
use Rattle.satip_worker.specs.Answers.{ends_with, ends_with_last}
use Rattle.satip_worker.specs.Ends.{LineEnds, ServiceEnds, is_unmade, end_of}
use Rattle.satip_worker.specs.HttpRun.{Closes, FollowsPull, Pulls}
use Rattle.satip_worker.specs.HttpTurns.{IsSome, IsNone, IsGone, ClosesSession}
use Rattle.satip_worker.specs.Progress.{Stage, Makes, Carries, SameFaults}
use Rattle.satip_worker.specs.Streaming.{Streams}
use Rattle.satip_worker.specs.Turns.{ReplySent, ReplyLost, EntryMade, TurnUnmade}
use Rattle.satip_worker.proofs.ProgressLemmas.{makes_nothing, makes_then, calm_counts, calm_from, calm_idle, calm_then, carries_nothing, carries_sent, carries_received, carries_on, rises_from}
use Rattle.satip_worker.proofs.EventLemmas.{ends_with_last_push}

-- the service made no entry
pub unmade_end : (fault : ServiceFault) → is_unmade (end_of fault) ≡ true
unmade_end Spent = refl
unmade_end Want = refl

-- what the service shows then
pub service_ends_of : (fault : ServiceFault) (may_want : Bool) (known : Known) → Cause may_want known fault → ServiceEnds (end_of fault) may_want known
service_ends_of Spent may_want known cause = cause
service_ends_of Want may_want known cause = cause

-- nothing is said of the line where the service made no entry
pub line_ends_unmade : (end : ConnEnd) (l m : Line) (over : Bool) → is_unmade end ≡ true → LineEnds end l m over
line_ends_unmade Done l m over unmade = absurd (cc)
line_ends_unmade ReadFault l m over unmade = absurd (cc)
line_ends_unmade WriteFault l m over unmade = absurd (cc)
line_ends_unmade spent l m over unmade = tt
line_ends_unmade wants l m over unmade = tt

-- what the line shows where the session was closed
pub line_ends_closed : (id : SessionId) (cause end : ConnEnd) (l m : Line) (front closes : List Item) → Closes id cause end closes
    → ends_with_last closes ≡ false → LineEnds cause l m false → LineEnds end l m (ends_with_last (front ++ closes))
line_ends_closed id cause end l m front [] closed unended ends = line_ends_unmade end l m (ends_with_last (front ++ [])) closed
line_ends_closed id cause end l m front (e ∷ []) closed unended ends =
    let E : ConnEnd → Type 0 = λ x. LineEnds x l m (ends_with_last (front ++ e ∷ [])) in
    let B : Bool → Type 0 = λ b. LineEnds cause l m b in
    subst E (sym closed.1) (subst B (sym (ends_with_last_push front e ∙ unended)) ends)
line_ends_closed id cause end l m front (e ∷ f ∷ es) closed unended ends = absurd closed

-- the input ended
ended_carries : (ct : Type 0) (m m' : Line) → InputEnded ct m m' → Carries ct m m' [] []
ended_carries ct m m' ended = record {
  content = ended.content;
  idles = omega (arith, ended.counts.idles);
  receive_faults = omega (arith, ended.counts.receive_faults);
  send_faults = omega (arith, ended.counts.send_faults);
}

-- a receive failed
failed_carries : (ct : Type 0) (m m' : Line) → ReceiveFailed ct m m' → Carries ct m m' [] []
failed_carries ct m m' failed = record {
  content = failed.content;
  idles = omega (arith, failed.idles);
  receive_faults = failed.receive_faults.kept;
  send_faults = omega (arith, failed.send_faults);
}

-- whatever follows, the session goes on with it
abbrev pub GoesOn : SessionId → List Item → List ℕ → Type 0
GoesOn id entries sent =
    (end : ConnEnd) (further : List Item) (more : List ℕ) → Pulls id end further more → Pulls id end (entries ++ further) (sent ++ more)

-- the session was pulled so far, and nothing failed
pub record StreamsOn (ct ot : Type 0) (id : SessionId) (o n : Stage) (l m : Line) : Type 0 where
  pub entries : List Item
  pub received : List ℕ
  pub sent : List ℕ
  pub goes_on : GoesOn id entries sent
  pub makes : Makes ot o n entries
  pub carries : Carries ct l m received sent
  pub calm : SameFaults l m

-- no pull yet
pub streams_from : (ct ot : Type 0) (id : SessionId) (o : Stage) (l : Line) → StreamsOn ct ot id o o l l
streams_from ct ot id o l = record {
  entries = [];
  received = [];
  sent = [];
  goes_on = λ end further more pulls. pulls;
  makes = makes_nothing ot o;
  carries = carries_nothing ct l;
  calm = calm_from l;
}

-- one entry more, behind which the session goes on
goes_further : (id : SessionId) (entries : List Item) (sent : List ℕ) (e : Item) (reply : List ℕ) → GoesOn id entries sent
    → ((end : ConnEnd) (further : List Item) (more : List ℕ) → Pulls id end further more → Pulls id end (e ∷ further) (reply ++ more))
    → GoesOn id (entries ++ e ∷ []) (sent ++ reply)
goes_further id entries sent e reply goes one = λ end further more pulls.
    let E : List Item → Type 0 = λ es. Pulls id end es ((sent ++ reply) ++ more) in
    let T : List ℕ → Type 0 = λ s. Pulls id end (entries ++ (e ∷ further)) s in
    subst E (sym (append_assoc entries (e ∷ []) further))
    (subst T (sym (append_assoc sent reply more)) (goes end (e ∷ further) (reply ++ more) (one end further more pulls)))

-- a pull whose packets were sent
after_sent : (id : SessionId) (e : Item) → e.event ≡ Pull id → IsSome e.answer
    → (end : ConnEnd) (further : List Item) (more : List ℕ) → Pulls id end further more → Pulls id end (e ∷ further) (e.out.reply ++ more)
after_sent id e event answer end further more pulls =
    let P : Answer → Type 0 = λ a. FollowsPull id end a e.out.reply (e.out.reply ++ more) further (Pulls id end further) in
    (event, subst P (sym answer.1) (inl (record { rest = more; whole = refl; goes_on = pulls })))

-- a pull that found nothing
after_empty : (id : SessionId) (e : Item) → e.event ≡ Pull id → IsNone e.answer
    → (end : ConnEnd) (further : List Item) (more : List ℕ) → Pulls id end further more → Pulls id end (e ∷ further) ([] ++ more)
after_empty id e event answer end further more pulls =
    let P : Answer → Type 0 = λ a. FollowsPull id end a e.out.reply more further (Pulls id end further) in
    (event, subst P (sym answer) (inl pulls))

module _ (ct ot : Type 0) (id : SessionId) (o n n' : Stage) (l m m' : Line) (on : StreamsOn ct ot id o n l m) where
  -- packets were sent
  pub streams_sent : ReplySent ct ot (record { stage = n; line = m }) (record { stage = n'; line = m' }) (Pull id) IsSome → StreamsOn ct ot id o n' l m'
  streams_sent turn = record {
    entries = on.entries ++ turn.entry ∷ [];
    received = on.received;
    sent = on.sent ++ turn.entry.out.reply;
    goes_on = goes_further id on.entries on.sent turn.entry turn.entry.out.reply on.goes_on (after_sent id turn.entry turn.event_is turn.answer_is);
    makes = makes_then ot o n n' on.entries (turn.entry ∷ []) on.makes turn.makes;
    carries = carries_sent ct l m m' on.received on.sent turn.entry.out.reply on.carries turn.carries;
    calm = calm_then l m m' on.calm turn.calm;
  }

  -- a pull found nothing
  pub streams_empty : EntryMade ct ot (record { stage = n; line = m }) (record { stage = n'; line = m' }) (Pull id) IsNone → StreamsOn ct ot id o n' l m'
  streams_empty turn = record {
    entries = on.entries ++ turn.entry ∷ [];
    received = on.received;
    sent = on.sent ++ [];
    goes_on = goes_further id on.entries on.sent turn.entry [] on.goes_on (after_empty id turn.entry turn.event_is turn.answer_is);
    makes = makes_then ot o n n' on.entries (turn.entry ∷ []) on.makes turn.makes;
    carries = carries_sent ct l m m' on.received on.sent [] on.carries turn.carries;
    calm = calm_then l m m' on.calm turn.calm;
  }

  -- no further entry was made
  pub streams_unmade : (fault : ServiceFault) → TurnUnmade ct ot (record { stage = n; line = m }) (record { stage = n'; line = m' }) fault → Streams ct ot id (record { stage = o; line = l }) (record { stage = n'; line = m' }) (end_of fault)
  streams_unmade fault turn =
      let E : List Item → Type 0 = λ es. Makes ot o n' es in
      let W : Bool → Type 0 = λ w. Cause w n'.known fault in
      record {
        entries = on.entries ++ [];
        received = on.received;
        sent = on.sent ++ [];
        pulls = on.goes_on (end_of fault) [] [] (unmade_end fault, refl);
        makes = makes_then ot o n n' on.entries [] on.makes turn.makes;
        carries = carries_sent ct l m m' on.received on.sent [] on.carries turn.carries;
        line_ends = line_ends_unmade (end_of fault) l m' (ends_with_last (on.entries ++ [])) (unmade_end fault);
        service_ends = service_ends_of fault o.may_want n'.known (subst W on.makes.may_want turn.cause);
      }

  -- the session is gone
  pub streams_gone : m'.ended ≡ false → EntryMade ct ot (record { stage = n; line = m }) (record { stage = n'; line = m' }) (Pull id) IsGone → Streams ct ot id (record { stage = o; line = l }) (record { stage = n'; line = m' }) Done
  streams_gone goes_on turn =
      let e = turn.entry in
      let P : Answer → Type 0 = λ a. FollowsPull id Done a e.out.reply [] [] (Pulls id Done []) in
      record {
        entries = on.entries ++ e ∷ [];
        received = on.received;
        sent = on.sent ++ [];
        pulls = on.goes_on Done (e ∷ []) [] (turn.event_is, subst P (sym turn.answer_is) (refl, refl, refl));
        makes = makes_then ot o n n' on.entries (e ∷ []) on.makes turn.makes;
        carries = carries_sent ct l m m' on.received on.sent [] on.carries turn.carries;
        line_ends = record {
          is_over = inr (goes_on, ends_with_last_push on.entries e ∙ ap (λ (a : Answer). ends_with a) turn.answer_is);
          calm = calm_then l m m' on.calm turn.calm;
        };
        service_ends = tt;
      }

module _ (ct ot : Type 0) (id : SessionId) (o n n' n'' : Stage) (l m m' m'' : Line) (on : StreamsOn ct ot id o n l m) (end : ConnEnd) where
  -- the session was closed behind an entry
  closed_behind : (e : Item) (cause : ConnEnd) (part : List ℕ) (received : List ℕ) → Makes ot n n' (e ∷ [])
      → (closed : ClosesSession ot n' n'' id cause end) → Pulls id end (e ∷ closed.entries) part
      → Carries ct l m'' received (on.sent ++ part) → LineEnds cause l m'' false → Streams ct ot id (record { stage = o; line = l }) (record { stage = n''; line = m'' }) end
  closed_behind e cause part received makes closed pulls carries ends =
      let L : List Item → Type 0 = λ es. LineEnds end l m'' (ends_with_last es) in
      let W : Bool → Type 0 = λ w. ServiceEnds end w n''.known in
      record {
        entries = on.entries ++ (e ∷ closed.entries);
        received = received;
        sent = on.sent ++ part;
        pulls = on.goes_on end (e ∷ closed.entries) part pulls;
        makes = makes_then ot o n n'' on.entries (e ∷ closed.entries) on.makes
            (makes_then ot n n' n'' (e ∷ []) closed.entries makes closed.makes);
        carries = carries;
        line_ends = subst L (append_assoc on.entries (e ∷ []) closed.entries)
            (line_ends_closed id cause end l m'' (on.entries ++ e ∷ []) closed.entries closed.closes closed.unended ends);
        service_ends = subst W (makes.may_want ∙ on.makes.may_want) closed.service_ends;
      }

  -- a send failed
  pub streams_cut : m''.ended ≡ false → ReplyLost ct ot (record { stage = n; line = m }) (record { stage = n'; line = m'' }) (Pull id) IsSome
      → ClosesSession ot n' n'' id WriteFault end → Streams ct ot id (record { stage = o; line = l }) (record { stage = n''; line = m'' }) end
  streams_cut goes_on turn closed =
      let e = turn.entry in
      let P : Answer → Type 0 = λ a. FollowsPull id end a e.out.reply turn.part closed.entries (Pulls id end closed.entries) in
      closed_behind e WriteFault turn.part on.received turn.makes closed
      (turn.event_is, subst P (sym turn.answer_is.1) (inr (record { rest = turn.rest; part = turn.reply; closes = closed.closes })))
      (carries_sent ct l m m'' on.received on.sent turn.part on.carries turn.carries)
      (record {
        goes_on = goes_on;
        faults = rises_from l.send_faults m.send_faults m''.send_faults on.carries.send_faults turn.faults;
        receives = turn.receives ∙ on.calm.receive_faults;
      })

  -- nothing was queued, and the input ended
  pub streams_ended : EntryMade ct ot (record { stage = n; line = m }) (record { stage = n'; line = m' }) (Pull id) IsNone → InputEnded ct m' m'' → ClosesSession ot n' n'' id Done end
      → Streams ct ot id (record { stage = o; line = l }) (record { stage = n''; line = m'' }) end
  streams_ended turn ended closed =
      let e = turn.entry in
      let P : Answer → Type 0 = λ a. FollowsPull id end a e.out.reply [] closed.entries (Pulls id end closed.entries) in
      closed_behind e Done [] on.received turn.makes closed
      (turn.event_is, subst P (sym turn.answer_is) (inr (refl, inl closed.closes)))
      (carries_sent ct l m m'' on.received on.sent [] on.carries (carries_on ct m m' m'' [] [] turn.carries (ended_carries ct m' m'' ended)))
      (record {
        is_over = inl (ended.after, refl);
        calm = calm_then l m' m'' (calm_then l m m' on.calm turn.calm) (calm_counts m' m'' ended.counts);
      })

  -- nothing was queued, and a receive failed
  pub streams_failed : EntryMade ct ot (record { stage = n; line = m }) (record { stage = n'; line = m' }) (Pull id) IsNone → ReceiveFailed ct m' m'' → ClosesSession ot n' n'' id ReadFault end
      → Streams ct ot id (record { stage = o; line = l }) (record { stage = n''; line = m'' }) end
  streams_failed turn failed closed =
      let e = turn.entry in
      let P : Answer → Type 0 = λ a. FollowsPull id end a e.out.reply [] closed.entries (Pulls id end closed.entries) in
      let through = carries_on ct m m' m'' [] [] turn.carries (failed_carries ct m' m'' failed) in
      closed_behind e ReadFault [] on.received turn.makes closed
      (turn.event_is, subst P (sym turn.answer_is) (inr (refl, inr closed.closes)))
      (carries_sent ct l m m'' on.received on.sent [] on.carries through)
      (record {
        goes_on = failed.after;
        unanswered = refl;
        faults = rises_from l.receive_faults m'.receive_faults m''.receive_faults
            (omega (arith, on.carries.receive_faults, turn.carries.receive_faults)) failed.receive_faults;
        sends = failed.send_faults ∙ turn.calm.send_faults ∙ on.calm.send_faults;
      })

-- the line went on by some bytes that were dropped
pub streams_got : (ct ot : Type 0) (id : SessionId) (o n : Stage) (l m m' : Line) (buf : List ℕ) (count : ℕ) → StreamsOn ct ot id o n l m
    → GotBytes ct m m' buf count → StreamsOn ct ot id o n l m'
streams_got ct ot id o n l m m' buf count on got = record {
  entries = on.entries;
  received = on.received ++ take count buf;
  sent = on.sent;
  goes_on = on.goes_on;
  makes = on.makes;
  carries = carries_received ct l m m' on.received on.sent (take count buf) on.carries (record {
    content = got.content;
    idles = omega (arith, got.counts.idles);
    receive_faults = omega (arith, got.counts.receive_faults);
    send_faults = omega (arith, got.counts.send_faults);
  });
  calm = calm_then l m m' on.calm (calm_counts m m' got.counts);
}

-- nothing came in
pub streams_idle : (ct ot : Type 0) (id : SessionId) (o n : Stage) (l m m' : Line) → StreamsOn ct ot id o n l m → WasIdle ct m m'
    → StreamsOn ct ot id o n l m'
streams_idle ct ot id o n l m m' on idle = record {
  entries = on.entries;
  received = on.received;
  sent = on.sent;
  goes_on = on.goes_on;
  makes = on.makes;
  carries = carries_on ct l m m' on.received on.sent on.carries (record {
    content = idle.content;
    idles = idle.idles.kept;
    receive_faults = omega (arith, idle.receive_faults);
    send_faults = omega (arith, idle.send_faults);
  });
  calm = calm_then l m m' on.calm (calm_idle ct m m' idle);
}
