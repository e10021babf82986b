-- The laws on lines, scripts and runs.
use Rattle.std.proofs.Common.{◌≡◌, ℕ, ◌+◌, Bool, true, false, ◌⊎◌, List, [], ◌∷◌, ◌++◌, append-nil, map, Option, Some, None, Result, Ok, Err, refl, sym, ap, ◌∙◌, subst, inl, inr}
use Rattle.std.specs.Prelude.{MatchBool}
use Rattle.std.proofs.lemmas.List.Concat.{flat_map-append}
use Rattle.satip_base.specs.Output.{Output}
use Rattle.satip_base.specs.Lists.{Each}
use Rattle.satip_plain.specs.declared.events.Event.{Event}
use Rattle.satip_plain.specs.declared.answers.Answer.{Answer}
use Rattle.satip_plain.specs.declared.setting.Setting.{Setting}
use Rattle.satip_plain.specs.Types.{Config}
use Rattle.satip_plain.specs.State.{State}
use Rattle.satip_plain.specs.Steps.{Outcome, step}
use Rattle.satip_plain.specs.Values.{IsServable, IsSetting, IsEvent}
use Rattle.satip_plain.specs.Histories.{Item, Fits, LegalFrom, after, after_from, datagram, opening}
use Rattle.satip_script.specs.declared.lines.Line.{Line}
use Rattle.satip_script.specs.declared.lines.Line.TheVariants.{Skip, Event as EventLine, Wrong}
use Rattle.satip_script.specs.Lines.{lines_of, words_of, is_skipped_text}
use Rattle.satip_script.specs.Forms.{Form, Rtsp, Http, Other, form_of}
use Rattle.satip_script.specs.Texts.{Told, Tells, TellsNothing}
use Rattle.satip_script.specs.Reading.{IsTold, IsFormed, IsLine, rtsp_event, http_event}
use Rattle.satip_script.specs.Scripts.{with_event, ComesTo, IsScript}
use Rattle.satip_script.specs.Runs.{output_with, item_of, run_from, run, IsRun}
use Rattle.satip_script.specs.Printed.{entry_text, printed}
use Rattle.satip_script.proofs.TextLemmas.{one_told, told_or_not}

-- ---- one line

one_telling : (text : List ℕ) (event : Told → Event) (a b : Line) → IsTold text event a → IsTold text event b → a ≡ b
one_telling text event Skip b x y = absurd x
one_telling text event (EventLine e) Skip x y = absurd y
one_telling text event (EventLine e) (EventLine f) x y =
    ap EventLine (x.2 ∙ ap event (one_told text x.0 y.0 x.1 y.1) ∙ sym y.2)
one_telling text event (EventLine e) Wrong x y = absurd (y x.0 x.1)
one_telling text event Wrong Skip x y = absurd y
one_telling text event Wrong (EventLine f) x y = absurd (x y.0 y.1)
one_telling text event Wrong Wrong x y = refl

pub one_formed : (form : Option Form) (a b : Line) → IsFormed form a → IsFormed form b → a ≡ b
one_formed None a b x y = x ∙ sym y
one_formed (Some (Rtsp call)) a b x y = one_telling call.text (rtsp_event call) a b x y
one_formed (Some (Http call)) a b x y = one_telling call.text (http_event call) a b x y
one_formed (Some (Other e)) a b x y = x ∙ sym y

one_by : (skipped : Bool) (form : Option Form) (a b : Line) → MatchBool skipped (a ≡ Skip) (IsFormed form a) → MatchBool skipped (b ≡ Skip) (IsFormed form b)
    → a ≡ b
one_by true form a b x y = x ∙ sym y
one_by false form a b x y = one_formed form a b x y

pub line_is_one : (line : List ℕ) (a b : Line) → IsLine line a → IsLine line b → a ≡ b
line_is_one line a b x y = one_by (is_skipped_text line) (form_of (words_of line)) a b x y

formed_kept : (form : Option Form) → IsFormed form Skip → ⊥
formed_kept None x = cc x
formed_kept (Some (Rtsp call)) x = x
formed_kept (Some (Http call)) x = x
formed_kept (Some (Other e)) x = cc x

kept_by : (skipped : Bool) (form : Option Form) → skipped ≡ false → MatchBool skipped (Skip ≡ Skip) (IsFormed form Skip) → ⊥
kept_by true form kept x = cc kept
kept_by false form kept x = formed_kept form x

-- a line that isn't to be skipped is an event or wrong
pub line_is_kept : (line : List ℕ) → is_skipped_text line ≡ false → IsLine line Skip → ⊥
line_is_kept line kept x = kept_by (is_skipped_text line) (form_of (words_of line)) kept x

telling : (text : List ℕ) (event : Told → Event) → ((told : Told) × Tells text told) ⊎ TellsNothing text → (l : Line) × IsTold text event l
telling text event (inl x) = (EventLine (event x.0), (x.0, x.1, refl))
telling text event (inr none) = (Wrong, none)

formed : (form : Option Form) → (l : Line) × IsFormed form l
formed None = (Wrong, refl)
formed (Some (Rtsp call)) = telling call.text (rtsp_event call) (told_or_not call.text)
formed (Some (Http call)) = telling call.text (http_event call) (told_or_not call.text)
formed (Some (Other e)) = (EventLine e, refl)

some_by : (skipped : Bool) (form : Option Form) → (l : Line) × MatchBool skipped (l ≡ Skip) (IsFormed form l)
some_by true form = (Skip, refl)
some_by false form = formed form

pub line_is_some : (line : List ℕ) → (l : Line) × IsLine line l
line_is_some line = some_by (is_skipped_text line) (form_of (words_of line))

-- ---- one script

comes_one : (number : ℕ) (lines : List (List ℕ)) (a b : Result (List Event) ℕ) → ComesTo number lines a → ComesTo number lines b → a ≡ b
comes_one number [] a b x y = x ∙ sym y
comes_one number (line ∷ lines) a b (inl x) (inl y) = x.1 ∙ sym y.1
comes_one number (line ∷ lines) a b (inl x) (inr (inl y)) = let no = line_is_one line Wrong Skip x.0 y.0 in cc no
comes_one number (line ∷ lines) a b (inl x) (inr (inr y)) = let no = line_is_one line Wrong (EventLine y.0) x.0 y.2 in cc no
comes_one number (line ∷ lines) a b (inr (inl x)) (inl y) = let no = line_is_one line Skip Wrong x.0 y.0 in cc no
comes_one number (line ∷ lines) a b (inr (inl x)) (inr (inl y)) = comes_one (number + 1) lines a b x.1 y.1
comes_one number (line ∷ lines) a b (inr (inl x)) (inr (inr y)) = let no = line_is_one line Skip (EventLine y.0) x.0 y.2 in cc no
comes_one number (line ∷ lines) a b (inr (inr x)) (inl y) = let no = line_is_one line (EventLine x.0) Wrong x.2 y.0 in cc no
comes_one number (line ∷ lines) a b (inr (inr x)) (inr (inl y)) = let no = line_is_one line (EventLine x.0) Skip x.2 y.0 in cc no
comes_one number (line ∷ lines) a b (inr (inr x)) (inr (inr y)) =
    let same : EventLine x.0 ≡ EventLine y.0 = line_is_one line (EventLine x.0) (EventLine y.0) x.2 y.2 in
    let event : x.0 ≡ y.0 = cc in
    let others = comes_one (number + 1) lines x.1 y.1 x.3 y.3 in
    x.4 ∙ ap (λ e. with_event e x.1) event ∙ ap (with_event y.0) others ∙ sym y.4

comes_by : (number : ℕ) (line : List ℕ) (lines : List (List ℕ)) (l : Line) → IsLine line l → (r : Result (List Event) ℕ) × ComesTo (number + 1) lines r
    → (result : Result (List Event) ℕ) × ComesTo number (line ∷ lines) result
comes_by number line lines Skip x r = (r.0, inr (inl (x, r.1)))
comes_by number line lines (EventLine e) x r = (with_event e r.0, inr (inr (e, r.0, x, r.1, refl)))
comes_by number line lines Wrong x r = (Err number, inl (x, refl))

comes_some : (number : ℕ) (lines : List (List ℕ)) → (result : Result (List Event) ℕ) × ComesTo number lines result
comes_some number [] = (Ok [], refl)
comes_some number (line ∷ lines) =
    let l = line_is_some line in
    comes_by number line lines l.0 l.1 (comes_some (number + 1) lines)

pub script_is_one : (text : List ℕ) (a b : Result (List Event) ℕ) → IsScript text a → IsScript text b → a ≡ b
script_is_one text a b x y = comes_one 1 (lines_of text) a b x y

pub script_is_some : (text : List ℕ) → (result : Result (List Event) ℕ) × IsScript text result
script_is_some text = comes_some 1 (lines_of text)

-- ---- one run

run_legal : (c : Config) (st : State) (events : List Event) → LegalFrom c st (run_from c st events)
run_legal c st [] = tt
run_legal c st (e ∷ events) =
    (record { answer = refl; reply = refl; datagrams = refl }, run_legal c (step c st e).state events)

run_events : (c : Config) (st : State) (events : List Event) → map (λ (e : Item). e.event) (run_from c st events) ≡ events
run_events c st [] = refl
run_events c st (e ∷ events) = ap (λ es. e ∷ es) (run_events c (step c st e).state events)

run_values : (c : Config) (st : State) (events : List Event) → Each IsEvent events → Each (λ (e : Item). IsEvent e.event) (run_from c st events)
run_values c st [] x = tt
run_values c st (e ∷ events) x = (x.0, run_values c (step c st e).state events x.1)

run_callers : (c : Config) (st : State) (events : List Event) → Each (λ (e : Item). e.caller ≡ 0) (run_from c st events)
run_callers c st [] = tt
run_callers c st (e ∷ events) = (refl, run_callers c (step c st e).state events)

run_outs : (c : Config) (st : State) (events : List Event) → Each (λ (e : Item). e.out ≡ output_with e.out.reply e.out.datagrams) (run_from c st events)
run_outs c st [] = tt
run_outs c st (e ∷ events) = (refl, run_outs c (step c st e).state events)

pub run_is_run : (c : Setting) (events : List Event) → IsServable c.config → IsSetting c → Each IsEvent events → IsRun c events (run c events)
run_is_run c events servable setting values = record {
  legal = record {
    servable = servable;
    setting = setting;
    events = run_values c.config (opening c) events values;
    entries = run_legal c.config (opening c) events;
  };
  made = run_events c.config (opening c) events;
  callers = run_callers c.config (opening c) events;
  outs = run_outs c.config (opening c) events;
}

item_is : (e : Item) (f : Event) (o : Outcome) → e.event ≡ f → e.caller ≡ 0 → e.out ≡ output_with e.out.reply e.out.datagrams → Fits o e → e ≡ item_of f o
item_is e f o event caller out fits =
    let whole : e.out ≡ output_with o.reply (map datagram o.sent) =
    out ∙ ap (λ r. output_with r e.out.datagrams) fits.reply ∙ ap (λ ds. output_with o.reply ds) fits.datagrams in
    let same : (n m : ℕ) (x y : Event) (a b : Answer) (p q : Output) → n ≡ m → x ≡ y → a ≡ b → p ≡ q
    → ◌≡◌ {A = Item} (record { caller = n; event = x; answer = a; out = p }) (record { caller = m; event = y; answer = b; out = q }) =
    λ n m x y a b p q i j k l. cc in
    same _ _ _ _ _ _ _ _ caller event fits.answer whole

run_only : (c : Config) (st : State) (events : List Event) (h : List Item) → LegalFrom c st h → map (λ (e : Item). e.event) h ≡ events
    → Each (λ (e : Item). e.caller ≡ 0) h → Each (λ (e : Item). e.out ≡ output_with e.out.reply e.out.datagrams) h → h ≡ run_from c st events
run_only c st [] [] legal made callers outs = refl
run_only c st [] (e ∷ h) legal made callers outs = cc made
run_only c st (f ∷ events) [] legal made callers outs = cc made
run_only c st (f ∷ events) (e ∷ h) legal made callers outs =
    let event : e.event ≡ f = cc in
    let others : map (λ (e : Item). e.event) h ≡ events = cc in
    let fits : Fits (step c st f) e = subst (λ g. Fits (step c st g) e) event legal.0 in
    let rest : LegalFrom c (step c st f).state h = subst (λ g. LegalFrom c (step c st g).state h) event legal.1 in
    ap (λ x. x ∷ h) (item_is e f (step c st f) event callers.0 outs.0 fits)
    ∙ ap (λ xs. item_of f (step c st f) ∷ xs) (run_only c (step c st f).state events h rest others callers.1 outs.1)

pub run_is_only : (c : Setting) (events : List Event) (h : List Item) → IsRun c events h → h ≡ run c events
run_is_only c events h x = run_only c.config (opening c) events h x.legal.entries x.made x.callers x.outs

run_from_grows : (c : Config) (st : State) (events : List Event) (e : Event)
    → run_from c st (events ++ e ∷ []) ≡ run_from c st events ++ item_of e (step c (after_from c st (run_from c st events)) e) ∷ []
run_from_grows c st [] e = refl
run_from_grows c st (f ∷ events) e = ap (λ xs. item_of f (step c st f) ∷ xs) (run_from_grows c (step c st f).state events e)

pub run_grows : (c : Setting) (events : List Event) (e : Event)
    → run c (events ++ e ∷ []) ≡ run c events ++ item_of e (step c.config (after c (run c events)) e) ∷ []
run_grows c events e = run_from_grows c.config (opening c) events e

pub printed_grows : (h : List Item) (e : Item) → printed (h ++ e ∷ []) ≡ printed h ++ entry_text e.answer e.out
printed_grows h e =
    flat_map-append (λ (e : Item). entry_text e.answer e.out) h (e ∷ []) ∙ ap (λ (t : List ℕ). printed h ++ t) (append-nil (entry_text e.answer e.out))
