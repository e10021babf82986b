-- A run that goes on event by event.
use Rattle.std.proofs.Common.{◌≡◌, ℕ, List, [], ◌∷◌, ◌++◌, map, append_assoc, append-nil, refl, sym, ◌∙◌, ap, subst, Option, Some, None, Ok}
use Rattle.std.specs.Prelude.{flat_map}
use Rattle.std.proofs.lemmas.List.Concat.{flat_map-append}
use Rattle.satip_base.specs.Output.{Output}
use Rattle.satip_base.specs.Streams.{Drain, Began, PutAll, FailedToPut}
use Rattle.satip_plain.specs.declared.answers.Answer.{Answer}
use Rattle.satip_plain.specs.declared.events.Event.{Event}
use Rattle.satip_plain.specs.declared.setting.Setting.{Setting}
use Rattle.satip_plain.specs.Types.{Config}
use Rattle.satip_plain.specs.State.{State}
use Rattle.satip_plain.specs.Steps.{Outcome, step}
use Rattle.satip_plain.specs.Histories.{Item, after, after_from, datagram, opening}
use Rattle.satip_script.specs.declared.lines.Line.TheVariants.{Event as EventLine, Wrong}
use Rattle.satip_script.specs.declared.parts.EventParts.{EventParts}
use Rattle.satip_script.specs.Lines.{lines_of}
use Rattle.satip_script.specs.Forms.{Form}
use Rattle.satip_script.specs.InParts.{PartsGivenAfter, form_in}
use Rattle.satip_script.specs.Reading.{IsFormed}
use Rattle.satip_script.specs.Scripts.{Gives, GivenAfter, IsScript}
use Rattle.satip_script.specs.Runs.{output_with, item_of, run, run_from}
use Rattle.satip_script.specs.Printed.{answer_line, datagram_line, entry_text, printed}
use Rattle.satip_script.proofs.LawProofs.{one_formed, run_grows, printed_grows}
use Rattle.satip_core.specs.Held.{Held}
use Rattle.satip_core.specs.Doing.{Did}
use Rattle.satip_core.specs.Serving.{Stands, Steps}
use Rattle.satip_replay.specs.Ends.{StopsWanting}
use Rattle.satip_replay.specs.Runs.{Answered, AnswersForm, AnswersNext, Moved, Passed, Midway}

-- ---- the plain server

after_more : (c : Config) (h : List Item) (e : Item) (st : State) → after_from c st (h ++ e ∷ []) ≡ (step c (after_from c st h) e.event).state
after_more c [] e st = refl
after_more c (x ∷ h) e st = after_more c h e (step c st x.event).state

-- the state behind one more event
after_event : (s : Setting) (first : List Event) (e : Event) → after s (run s (first ++ e ∷ [])) ≡ (step s.config (after s (run s first)) e).state
after_event s first e = ap (λ (h : List Item). after s h) (run_grows s first e)
    ∙ after_more s.config (run s first) (item_of e (step s.config (after s (run s first)) e)) (opening s)

-- the lines of one more event
printed_event : (s : Setting) (first : List Event) (e : Event)
    → printed (run s (first ++ e ∷ [])) ≡ printed (run s first)
    ++ entry_text (step s.config (after s (run s first)) e).answer
    (output_with (step s.config (after s (run s first)) e).reply (map datagram (step s.config (after s (run s first)) e).sent))
printed_event s first e =
    ap (λ (h : List Item). printed h) (run_grows s first e)
    ∙ printed_grows (run s first) (item_of e (step s.config (after s (run s first)) e))

-- what the server wrote is printed as the plain server's
did_text : (c : Config) (s : Held) (said : Answer) (out : Output) (o : Outcome) → Did c s.kept said out o
    → entry_text said out ≡ entry_text o.answer (output_with o.reply (map datagram o.sent))
did_text c s said out o did =
    ap (λ (a : Answer). answer_line a out.reply ++ flat_map datagram_line out.datagrams) did.answer
    ∙ ap (λ (r : List ℕ). answer_line o.answer r ++ flat_map datagram_line out.datagrams) did.reply
    ∙ ap (λ (ds : List _). answer_line o.answer o.reply ++ flat_map datagram_line ds) did.datagrams

run_from-append : (c : Config) (st : State) (xs ys : List Event) → (more : List Item) × (run_from c st (xs ++ ys) ≡ run_from c st xs ++ more)
run_from-append c st [] ys = (run_from c st ys, refl)
run_from-append c st (x ∷ xs) ys =
    let rest = run_from-append c (step c st x).state xs ys in
    (rest.0, ap (λ (h : List Item). item_of x (step c st x) ∷ h) rest.1)

-- the printed run of the first events begins that of all
printed_first : (s : Setting) (xs ys : List Event) → (more : List ℕ) × (printed (run s (xs ++ ys)) ≡ printed (run s xs) ++ more)
printed_first s xs ys =
    let rest = run_from-append s.config (opening s) xs ys in (
      printed rest.0,
      ap (λ (h : List Item). printed h) rest.1 ∙ flat_map-append (λ (e : Item). entry_text e.answer e.out) (run s xs) rest.0,
    )

-- ---- texts that are sent part by part

-- more is sent of what is left
moved_twice : (before between now text left rest : List ℕ) → Moved before between text left → Moved between now left rest → Moved before now text rest
moved_twice before between now text left rest a b = record {
  part = a.part ++ b.part;
  whole = a.whole ∙ ap (λ (t : List ℕ). a.part ++ t) b.whole ∙ sym (append_assoc a.part b.part rest);
  sent = b.sent ∙ ap (λ (t : List ℕ). t ++ b.part) a.sent ∙ append_assoc before a.part b.part;
}

-- a beginning of what is left, and of what stands behind it
moved_began : (before between now text left : List ℕ) → Moved before between text left → Began between now left → Began before now text
moved_began before between now text left a b = record {
  part = a.part ++ b.part;
  rest = b.rest;
  whole = a.whole ∙ ap (λ (t : List ℕ). a.part ++ t) b.whole ∙ sym (append_assoc a.part b.part b.rest);
  sent = b.sent ∙ ap (λ (t : List ℕ). t ++ b.part) a.sent ∙ append_assoc before a.part b.part;
}

-- nothing more is sent of what is left
moved_nothing : (before now text left : List ℕ) → Moved before now text left → Began before now text
moved_nothing before now text left a = record { part = a.part; rest = left; whole = a.whole; sent = a.sent }

-- a beginning stays one when more is to come
began_longer : (before now text more : List ℕ) → Began before now text → Began before now (text ++ more)
began_longer before now text more began = record {
  part = began.part;
  rest = began.rest ++ more;
  whole = ap (λ (t : List ℕ). t ++ more) began.whole ∙ append_assoc began.part began.rest more;
  sent = began.sent;
}

-- more text, of which nothing was sent
moved_entry : (before now text left entry : List ℕ) → Moved before now text left → Moved before now (text ++ entry) (left ++ entry)
moved_entry before now text left entry a = record {
  part = a.part;
  whole = ap (λ (t : List ℕ). t ++ entry) a.whole ∙ append_assoc a.part left entry;
  sent = a.sent;
}

-- ---- one event

-- the next event is answered by its parts
pub parts_answered : (events : List Event) (left : List (List ℕ)) (old new : Held) (parts : EventParts) (said : Option Answer) (out : Output)
    → AnswersForm (form_in parts) old new out said
    → PartsGivenAfter events left (Some parts) → AnswersNext events left old new out said
parts_answered events left old new parts None out steps given = absurd (steps given.0 given.1)
parts_answered events left old new parts (Some answer) out steps given =
    record { event = given.0; given = given.2; steps = steps given.0 given.1 }

-- one event is asked for, and it is answered
pub form_answered : (form : Option Form) (e : Event) (old new : Held) (said : Answer) (out : Output) → IsFormed form (EventLine e) → Steps old e new said out
    → AnswersForm form old new out (Some said)
form_answered form e old new said out is steps f has =
    let lines : EventLine f ≡ EventLine e = one_formed form (EventLine f) (EventLine e) has is in
    let same : f ≡ e = cc in
    subst (λ g. Steps old g new said out) (sym same) steps

-- none is asked for
pub form_wrong : (form : Option Form) (old new : Held) (said : Option Answer) (out : Output) → IsFormed form Wrong → AnswersForm form old new out said
form_wrong form old new said out is f has =
    let lines : EventLine f ≡ Wrong = one_formed form (EventLine f) Wrong has is in
    cc lines

-- ---- the loop

-- nothing was run yet
pub midway_from : (tells : Type 0) (o : Drain) (s : Setting) (script : List ℕ) (events : List Event) (server : Held) (text : List ℕ) (lines : List (List ℕ))
    → IsScript script (Ok events) → lines ≡ lines_of script → Stands server (opening s) → text ≡ []
    → Midway tells o o s events server text lines
midway_from tells o s script events server text lines is whole stands none = record {
  first = [];
  others = events;
  whole = refl;
  gives = (1, rw whole is);
  stands = stands;
  passed = record { faults = refl; content = λ _. rw none (record { part = []; whole = refl; sent = sym (append-nil o.sent) }) };
}

module _ (tells : Type 0) (o m : Drain) (s : Setting) (events : List Event) (server next : Held) (text more : List ℕ) (lines left : List (List ℕ))
    (e : Event) (said : Answer) (out : Output)
    (midway : Midway tells o m s events server text lines)
    (behind : GivenAfter midway.others left (Some e))
    (setting : server.setting ≡ s) (same : next.setting ≡ server.setting)
    (steps : Steps server e next said out) (added : more ≡ text ++ entry_text said out) where
  whole_now : events ≡ (midway.first ++ e ∷ []) ++ behind.0
  whole_now =
      midway.whole ∙ ap (λ (es : List Event). midway.first ++ es) behind.1 ∙ sym (append_assoc midway.first (e ∷ []) behind.0)

  did : Did s.config next.kept said out (step s.config (after s (run s midway.first)) e)
  did = subst (λ (t : Setting). Did t.config next.kept said out (step t.config (after s (run s midway.first)) e)) setting (steps _ midway.stands)

  stands_now : Stands next (after s (run s (midway.first ++ e ∷ [])))
  stands_now = rw (same, setting, after_event s midway.first e) did.stands

  -- the entry is printed behind the others
  printed_now : printed (run s (midway.first ++ e ∷ [])) ≡ printed (run s midway.first) ++ entry_text said out
  printed_now = printed_event s midway.first e
      ∙ ap (λ (t : List ℕ). printed (run s midway.first) ++ t) (sym (did_text s.config next said out (step s.config (after s (run s midway.first)) e) did))

  gathered : tells → Moved o.sent m.sent (printed (run s (midway.first ++ e ∷ []))) more
  gathered told = rw (printed_now, added) (moved_entry o.sent m.sent (printed (run s midway.first)) text (entry_text said out) (midway.passed.content told))

  midway_more : (n : Drain) (rest : List ℕ) → Passed tells m n more rest → Midway tells o n s events next rest left
  midway_more n rest passed = record {
    first = midway.first ++ e ∷ [];
    others = behind.0;
    whole = whole_now;
    gives = behind.2;
    stands = stands_now;
    passed = record {
      faults = passed.faults ∙ midway.passed.faults;
      content = λ told. moved_twice o.sent m.sent n.sent (printed (run s (midway.first ++ e ∷ []))) more rest (gathered told) (passed.content told);
    };
  }

  began_now : (now : List ℕ) → Began o.sent now (printed (run s (midway.first ++ e ∷ []))) → Began o.sent now (printed (run s events))
  began_now now began =
      let rest = printed_first s (midway.first ++ e ∷ []) behind.0 in
      rw (whole_now, rest.1) (began_longer o.sent now (printed (run s (midway.first ++ e ∷ []))) rest.0 began)

  fails_midway : (n : Drain) → FailedToPut tells m n more → FailedToPut tells o n (printed (run s events))
  fails_midway n failed = record {
    faults = rw (← midway.passed.faults) failed.faults;
    content = λ told. began_now n.sent (moved_began o.sent m.sent n.sent _ more (gathered told) (failed.content told));
  }

-- the same, where the step is known by the answer
pub answered_more : (tells : Type 0) (o m n : Drain) (s : Setting) (events : List Event) (server next : Held) (text more rest : List ℕ)
    (lines left : List (List ℕ)) (said : Answer) (out : Output)
    → Midway tells o m s events server text lines
    → ((events : List Event) → Gives lines events → Answered events left server next said out)
    → server.setting ≡ s → next.setting ≡ server.setting → more ≡ text ++ entry_text said out
    → Passed tells m n more rest → Midway tells o n s events next rest left
answered_more tells o m n s events server next text more rest lines left said out midway answered setting same added passed =
    let a = answered midway.others midway.gives in
    midway_more tells o m s events server next text more lines left a.event said out midway a.given setting same a.steps added n rest passed

pub answered_fails : (tells : Type 0) (o m n : Drain) (s : Setting) (events : List Event) (server next : Held) (text more : List ℕ)
    (lines left : List (List ℕ)) (said : Answer) (out : Output)
    → Midway tells o m s events server text lines
    → ((events : List Event) → Gives lines events → Answered events left server next said out)
    → server.setting ≡ s → next.setting ≡ server.setting → more ≡ text ++ entry_text said out
    → FailedToPut tells m n more → FailedToPut tells o n (printed (run s events))
answered_fails tells o m n s events server next text more lines left said out midway answered setting same added failed =
    let a = answered midway.others midway.gives in
    fails_midway tells o m s events server next text more lines left a.event said out midway a.given setting same a.steps added n failed

-- memory was refused between two entries
pub stops_midway : (tells : Type 0) (o n : Drain) (s : Setting) (events : List Event) (server : Held) (text : List ℕ) (lines : List (List ℕ))
    → Midway tells o n s events server text lines → StopsWanting tells o n (printed (run s events))
stops_midway tells o n s events server text lines midway = record {
  faults = midway.passed.faults;
  content = λ told.
      let rest = printed_first s midway.first midway.others in
      rw (midway.whole, rest.1) (began_longer o.sent n.sent (printed (run s midway.first)) rest.0
      (moved_nothing o.sent n.sent (printed (run s midway.first)) text (midway.passed.content told)));
}

module _ (tells : Type 0) (o m n : Drain) (s : Setting) (events : List Event) (server : Held) (text : List ℕ) (lines left : List (List ℕ))
    (midway : Midway tells o m s events server text lines)
    (given : (events : List Event) → Gives lines events → GivenAfter events left None) where
  all_first : events ≡ midway.first
  all_first = midway.whole ∙ ap (λ (es : List Event). midway.first ++ es) (given midway.others midway.gives) ∙ append-nil midway.first

  pub ends_midway : (rest : List ℕ) → Passed tells m n text rest → rest ≡ [] → PutAll tells o n (printed (run s events))
  ends_midway rest passed none = record {
    faults = passed.faults ∙ midway.passed.faults;
    content = λ told.
        let moved = moved_twice o.sent m.sent n.sent (printed (run s midway.first)) text rest (midway.passed.content told) (passed.content told) in
        rw all_first (moved.sent ∙ ap (λ (t : List ℕ). o.sent ++ t) (sym (moved.whole ∙ ap (λ (t : List ℕ). moved.part ++ t) none ∙ append-nil moved.part)));
  }

  pub fails_at_end : FailedToPut tells m n text → FailedToPut tells o n (printed (run s events))
  fails_at_end failed = record {
    faults = rw (← midway.passed.faults) failed.faults;
    content = λ told.
        rw all_first (moved_began o.sent m.sent n.sent (printed (run s midway.first)) text (midway.passed.content told) (failed.content told));
  }
