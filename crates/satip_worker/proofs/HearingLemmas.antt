-- An RTSP connection goes on with one request more.
use Rattle.std.proofs.Common.{◌≡◌, ℕ, ◌+◌, Bool, true, false, List, [], ◌∷◌, ◌++◌, length, arith, refl, sym, ap, ◌∙◌, subst, Option, Some, None}
use Rattle.std.proofs.lemmas.List.{append-nil}
use Rattle.rand_chacha.specs.ChaCha.{ChaCha}
use Rattle.satip_base.specs.declared.network.Peer.{Peer}
use Rattle.satip_frame.specs.declared.framing.Break.{Break}
use Rattle.satip_frame.specs.declared.framing.Break.TheVariants as causes_of
use Rattle.satip_frame.specs.Said.{Said}
use Rattle.satip_rtsp.specs.declared.requests.Refusal.{Refusal}
use Rattle.satip_rtsp.specs.declared.requests.Refusal.TheVariants.{Broken, TooLong, NoCseq, Version, Method, Require, Target, Query}
use Rattle.satip_rtsp.specs.declared.requests.Request.{Request}
use Rattle.satip_rtsp.specs.Asked.{asked, broken_request}
use Rattle.satip_rtsp.proofs.Causes.{causes}
use Rattle.satip_frame.specs.Asking.{AsksNext, AsksLast, AsksMore}
use Rattle.satip_frame.proofs.TextLemmas.{all_with_last, all_is_more, first_is_less}
use Rattle.satip_plain.specs.Histories.{Item}
use Rattle.satip_plain.specs.declared.events.Event.TheVariants.{Request as Asks}
use Rattle.satip_plain.specs.Calls.{Cause}
use Rattle.satip_plain.specs.Suits.{closes}
use Rattle.satip_worker.specs.declared.turns.Turn.{Turn}
use Rattle.satip_worker.specs.declared.turns.Turn.TheVariants.{Sent, Lost, Unmade}
use Rattle.satip_worker.specs.Drawing.{draw_at, before_draw}
use Rattle.satip_worker.specs.Progress.{ConnState, Makes, Carries}
use Rattle.satip_worker.specs.RtspRun.{replies}
use Rattle.satip_worker.specs.Turns.{Turns}
use Rattle.satip_worker.specs.Hearing.{Course, drawn, Answered, Stands, HasLost, HasStopped}
use Rattle.satip_worker.proofs.ProgressLemmas.{makes_then, calm_then, carries_sent, carries_on, rises_from}
use Rattle.satip_worker.proofs.EventLemmas.{next_event, events_next, ends_with_last_push, replies_push, length_push, first_entries, entries_before}

-- a connection goes on after each refusal of a message
goes_on_after : (refusal : Option Refusal) → (refusal ≡ Some Broken → ⊥) → (refusal ≡ Some TooLong → ⊥) → closes refusal ≡ false
goes_on_after None whole short = refl
goes_on_after (Some Broken) whole short = absurd (whole refl)
goes_on_after (Some TooLong) whole short = absurd (short refl)
goes_on_after (Some NoCseq) whole short = refl
goes_on_after (Some Version) whole short = refl
goes_on_after (Some Method) whole short = refl
goes_on_after (Some (Require kept)) whole short = refl
goes_on_after (Some Target) whole short = refl
goes_on_after (Some (Query fault)) whole short = refl

closes_message : (message : Said) → closes (asked message).refusal ≡ false
closes_message message = let found = causes message in goes_on_after (asked message).refusal found.not_broken found.not_too_long

-- and ends with what is no message
closes_broken : (cause : Break) → closes (broken_request cause).refusal ≡ true
closes_broken causes_of.Bad = refl
closes_broken causes_of.TooLong = refl

-- a whole piece waits
pub stands_whole : (ct ot : Type 0) (course : Course) (n : ConnState) (draws : ChaCha) (text held piece given : List ℕ) → given ≡ piece
    → Stands ct ot course n draws text (held ++ piece) → Stands ct ot course n draws text (held ++ given)
stands_whole ct ot course n draws text held piece given is stands = rw is stands

-- each request takes the next draw
abbrev pub TakesDraw : ChaCha → ChaCha → Type 0
TakesDraw draws draws' = (key : List ℕ) (stream number : ℕ) → draws ≡ before_draw key stream number → draws' ≡ before_draw key stream (number + 1)

-- what a request comes to, whatever its draw is
abbrev pub TurnsAny : (ct ot : Type 0) (n n' : ConnState) → ChaCha → Peer → Request → Turn → Type 0
TurnsAny ct ot n n' draws peer request turn = (key : List ℕ) (stream number : ℕ) → draws ≡ before_draw key stream number
    → Turns ct ot n n' (Asks peer (draw_at key stream number) request) (closes request.refusal) turn

-- what one more request comes to on the course of a connection
abbrev pub TurnsOn : (ct ot : Type 0) (course : Course) (n : ConnState) (draws : ChaCha) (text : List ℕ) (requests : List Request) → Bool → Turn → Type 0
TurnsOn ct ot course n draws text requests over Sent = Answered ct ot course n draws text requests over
TurnsOn ct ot course n draws text requests over Lost = HasLost ct ot course n draws text
TurnsOn ct ot course n draws text requests over (Unmade fault) = HasStopped ct ot course n draws text fault

-- the draws behind one more
drawn_next : (course : Course) (draws : ChaCha) (count next : ℕ) → next ≡ count + 1
    → draws ≡ before_draw course.key course.stream ((course.from + count) + 1) → draws ≡ drawn course next
drawn_next course draws count next is are =
    let same : (course.from + count) + 1 ≡ course.from + next = omega (arith, is) in
    are ∙ ap (λ (n : ℕ). before_draw course.key course.stream n) same

module _ (ct ot : Type 0) (course : Course) (n n' : ConnState) (draws draws' : ChaCha) (text : List ℕ) (requests : List Request)
    (request : Request) (answered : Answered ct ot course n draws text requests false) (more : AsksMore asked broken_request text (requests ++ request ∷ []))
    (taken : draws' ≡ before_draw course.key course.stream ((course.from + length answered.entries) + 1)) where
  turns_here : (over : Bool) (turn : Turn) → Turns ct ot n n' (next_event course answered.entries request) over turn
      → TurnsOn ct ot course n' draws' text (requests ++ request ∷ []) over turn
  turns_here over Sent turn =
      let P : List ℕ → Type 0 = λ s. Carries ct course.start.line n'.line text s in
      record {
        entries = answered.entries ++ turn.entry ∷ [];
        events = events_next course answered.entries turn.entry requests request answered.events turn.event_is;
        ends = ends_with_last_push answered.entries turn.entry ∙ turn.answer_is;
        draws_are = drawn_next course draws' _ _ (length_push answered.entries turn.entry) taken;
        makes = makes_then ot course.start.stage n.stage n'.stage answered.entries (turn.entry ∷ []) answered.makes turn.makes;
        carries = subst P (sym (replies_push answered.entries turn.entry))
            (carries_sent ct course.start.line n.line n'.line text (replies answered.entries) turn.entry.out.reply answered.carries turn.carries);
        calm = calm_then course.start.line n.line n'.line answered.calm turn.calm;
      }
  turns_here over Lost turn = record {
    entries = answered.entries ++ turn.entry ∷ [];
    first = first_entries course text (answered.entries ++ turn.entry ∷ []) (requests ++ request ∷ []) more
        (events_next course answered.entries turn.entry requests request answered.events turn.event_is);
    sent = replies answered.entries ++ turn.part;
    in_part = record {
      before = answered.entries;
      last = turn.entry;
      entries_are = refl;
      part = turn.part;
      rest = turn.rest;
      reply = turn.reply;
      sent_is = refl;
    };
    draws_are = drawn_next course draws' _ _ (length_push answered.entries turn.entry) taken;
    makes = makes_then ot course.start.stage n.stage n'.stage answered.entries (turn.entry ∷ []) answered.makes turn.makes;
    carries = carries_sent ct course.start.line n.line n'.line text (replies answered.entries) turn.part answered.carries turn.carries;
    faults = rises_from course.start.line.send_faults n.line.send_faults n'.line.send_faults answered.carries.send_faults turn.faults;
    receives = turn.receives ∙ answered.calm.receive_faults;
  }
  turns_here over (Unmade fault) turn =
      let first = entries_before course text answered.entries requests request more answered.events in
      let P : List Item → Type 0 = λ es. Makes ot course.start.stage n'.stage es in
      let W : Bool → Type 0 = λ w. Cause w n'.stage.known fault in
      record {
        entries = answered.entries;
        first = first.0;
        more = first.1;
        draws_are = drawn_next course draws' (length answered.entries) (length answered.entries + 1) refl taken;
        makes = subst P (append-nil answered.entries) (makes_then ot course.start.stage n.stage n'.stage answered.entries [] answered.makes turn.makes);
        carries = carries_on ct course.start.line n.line n'.line text (replies answered.entries) answered.carries turn.carries;
        cause = subst W answered.makes.may_want turn.cause;
      }

module _ (ct ot : Type 0) (course : Course) (n n' : ConnState) (draws draws' : ChaCha) (text : List ℕ) (requests : List Request)
    (request : Request) (answered : Answered ct ot course n draws text requests false) (peer : Peer) (same : course.peer ≡ peer)
    (takes : TakesDraw draws draws') (turn : Turn) (turns : TurnsAny ct ot n n' draws peer request turn) where
  turns_on : AsksMore asked broken_request text (requests ++ request ∷ [])
      → TurnsOn ct ot course n' draws' text (requests ++ request ∷ []) (closes request.refusal) turn
  turns_on more =
      let number : ℕ = course.from + length answered.entries in
      let P : Peer → Type 0 = λ p. Turns ct ot n n' (Asks p (draw_at course.key course.stream number) request) (closes request.refusal) turn in
      turns_here ct ot course n n' draws draws' text requests request answered more (takes course.key course.stream number answered.draws_are)
      (closes request.refusal) turn (subst P (sym same) (turns course.key course.stream number answered.draws_are))

  -- a message's request was made
  pub message_turns : (rest : List ℕ) → AsksNext asked text requests request rest
      → TurnsOn ct ot course n' draws' text (requests ++ request ∷ []) false turn
  message_turns rest next =
      let B : Bool → Type 0 = λ b. TurnsOn ct ot course n' draws' text (requests ++ request ∷ []) b turn in
      subst B (ap (λ (r : Request). closes r.refusal) next.request_is ∙ closes_message next.message)
      (turns_on (first_is_less asked broken_request text (requests ++ request ∷ []) rest next.first))

  -- the request of what is no message was made
  pub last_turns : AsksLast asked broken_request text requests request
      → TurnsOn ct ot course n' draws' text (requests ++ request ∷ []) true turn
  last_turns last =
      let B : Bool → Type 0 = λ b. TurnsOn ct ot course n' draws' text (requests ++ request ∷ []) b turn in
      subst B (ap (λ (r : Request). closes r.refusal) last.request_is ∙ closes_broken last.cause)
      (turns_on (all_is_more asked broken_request text (requests ++ request ∷ []) (all_with_last asked broken_request text requests request last)))
