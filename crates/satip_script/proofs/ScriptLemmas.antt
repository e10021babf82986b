-- Lines that were read, one after another.
use Rattle.std.proofs.Common.{◌≡◌, ℕ, ◌+◌, ◌≤◌, ◌<◌, List, [], ◌∷◌, length, Some, false, Result, Ok, Err, refl, sym, ap, ◌∙◌, subst, inl, inr, arith}
use Rattle.std.proofs.lemmas.List.Splits.{length-slice_split}
use Rattle.std.proofs.lemmas.List.Sums.{count_by-le-length}
use Rattle.satip_tune.specs.Pieces.{is_byte}
use Rattle.satip_plain.specs.declared.events.Event.{Event}
use Rattle.satip_script.specs.declared.lines.Line.TheVariants.{Skip, Event as EventLine, Wrong}
use Rattle.satip_script.specs.declared.parts.EventParts.{EventParts}
use Rattle.satip_script.specs.Lines.{lines_of, is_skipped_text}
use Rattle.satip_script.specs.InParts.{AreParts, AreWrong, HasParts, PartsGivenAfter}
use Rattle.satip_script.specs.Reading.{IsLine}
use Rattle.satip_script.specs.Scripts.{with_event, ComesTo, IsScript, Gives, IsOver, HasNext, GivenAfter}
use Rattle.satip_script.proofs.LawProofs.{line_is_one, line_is_kept}
use Rattle.satip_script.proofs.PartLemmas.{line_of_parts, parts_of_line}

-- ---- the whole text

-- no line before this number is wrong; whatever the lines from there on come to, the text comes to
pub record Reads (text : List ℕ) (number : ℕ) (left : List (List ℕ)) : Type 0 where
  pub before : Result (List Event) ℕ → Result (List Event) ℕ
  pub wrong : (n : ℕ) → before (Err n) ≡ Err n
  pub right : (events : List Event) → (all : List Event) × (before (Ok events) ≡ Ok all)
  pub goes_on : (result : Result (List Event) ℕ) → ComesTo number left result → IsScript text (before result)
  pub few : number + length left ≤ length (lines_of text) + 1

pub reads_none : (text : List ℕ) (left : List (List ℕ)) → left ≡ lines_of text → Reads text 1 left
reads_none text left e = record {
  before = λ r. r;
  wrong = λ n. refl;
  right = λ events. (events, refl);
  goes_on = λ result x. subst (λ ls. ComesTo 1 ls result) e x;
  few = omega (arith, ap length e);
}

module _ (text : List ℕ) (number : ℕ) (line : List ℕ) (old left : List (List ℕ)) (is : old ≡ line ∷ left) (reads : Reads text number old) where
  few_left : number + 1 + length left ≤ length (lines_of text) + 1
  few_left = omega (arith, reads.few, ap length is)

  pub reads_skip : IsLine line Skip → Reads text (number + 1) left
  reads_skip skip = record {
    before = reads.before;
    wrong = reads.wrong;
    right = reads.right;
    goes_on = λ result x. reads.goes_on result (subst (λ ls. ComesTo number ls result) (sym is) (inr (inl (skip, x))));
    few = few_left;
  }

  pub reads_event : (e : Event) → IsLine line (EventLine e) → Reads text (number + 1) left
  reads_event e event = record {
    before = λ r. reads.before (with_event e r);
    wrong = reads.wrong;
    right = λ events. reads.right (e ∷ events);
    goes_on = λ result x. reads.goes_on (with_event e result)
        (subst (λ ls. ComesTo number ls (with_event e result)) (sym is) (inr (inr (e, result, event, x, refl))));
    few = few_left;
  }

  pub reads_wrong : IsLine line Wrong → IsScript text (Err number)
  reads_wrong wrong =
      subst (IsScript text) (reads.wrong number)
      (reads.goes_on (Err number) (subst (λ ls. ComesTo number ls (Err number)) (sym is) (inl (wrong, refl))))

pub reads_all : (text : List ℕ) (number : ℕ) (left : List (List ℕ)) → left ≡ [] → Reads text number left → (events : List Event) × IsScript text (Ok events)
reads_all text number left e reads =
    let all = reads.right [] in
    (all.0, subst (IsScript text) all.1 (reads.goes_on (Ok []) (subst (λ ls. ComesTo number ls (Ok [])) (sym e) refl)))

-- ---- the next event

-- the lines between are skipped ones
pub record Passed (first now : List (List ℕ)) : Type 0 where
  pub over : IsOver now → IsOver first
  pub next : (e : Event) (left : List (List ℕ)) → HasNext now e left → HasNext first e left
  pub given : (events : List Event) → Gives first events → Gives now events
  pub shorter : length now ≤ length first

pub passed_none : (lines : List (List ℕ)) → Passed lines lines
passed_none lines = record { over = λ x. x; next = λ e left x. x; given = λ events x. x; shorter = omega arith }

gives_skip : (line : List ℕ) (lines : List (List ℕ)) (events : List Event) → IsLine line Skip → Gives (line ∷ lines) events → Gives lines events
gives_skip line lines events skip (number, inl x) = let no = line_is_one line Skip Wrong skip x.0 in cc no
gives_skip line lines events skip (number, inr (inl x)) = (number + 1, x.1)
gives_skip line lines events skip (number, inr (inr x)) = let no = line_is_one line Skip (EventLine x.0) skip x.2 in cc no

ok_with_event : (e : Event) (r : Result (List Event) ℕ) (events : List Event) → Ok events ≡ with_event e r
    → (others : List Event) × (r ≡ Ok others) × (events ≡ e ∷ others)
ok_with_event e (Ok others) events h = let same : events ≡ e ∷ others = cc in (others, refl, same)
ok_with_event e (Err n) events h = cc h

gives_event : (line : List ℕ) (lines : List (List ℕ)) (events : List Event) (e : Event) → IsLine line (EventLine e) → Gives (line ∷ lines) events
    → GivenAfter events lines (Some e)
gives_event line lines events e event (number, inl x) = let no = line_is_one line (EventLine e) Wrong event x.0 in cc no
gives_event line lines events e event (number, inr (inl x)) = let no = line_is_one line (EventLine e) Skip event x.0 in cc no
gives_event line lines events e event (number, inr (inr x)) =
    let line_same : EventLine e ≡ EventLine x.0 = line_is_one line (EventLine e) (EventLine x.0) event x.2 in
    let same : e ≡ x.0 = cc in
    let others = ok_with_event x.0 x.1 events x.4 in
    (others.0, others.2 ∙ ap (λ f. f ∷ others.0) (sym same), (number + 1, subst (ComesTo (number + 1) lines) others.1 x.3))

gives_wrong : (line : List ℕ) (lines : List (List ℕ)) (events : List Event) → IsLine line Wrong → Gives (line ∷ lines) events → ⊥
gives_wrong line lines events wrong (number, inl x) = cc (x.1)
gives_wrong line lines events wrong (number, inr (inl x)) = let no = line_is_one line Wrong Skip wrong x.0 in cc no
gives_wrong line lines events wrong (number, inr (inr x)) = let no = line_is_one line Wrong (EventLine x.0) wrong x.2 in cc no

-- a line that isn't skipped has the first event
gives_kept : (line : List ℕ) (lines : List (List ℕ)) (events : List Event) → is_skipped_text line ≡ false → Gives (line ∷ lines) events
    → (e : Event) × IsLine line (EventLine e)
gives_kept line lines events kept (number, inl x) = cc (x.1)
gives_kept line lines events kept (number, inr (inl x)) = absurd (line_is_kept line kept x.0)
gives_kept line lines events kept (number, inr (inr x)) = (x.0, x.2)

gives_end : (events : List Event) → Gives [] events → events ≡ []
gives_end events x = let same : Ok events ≡ Ok [] = x.1 in cc

module _ (first now left : List (List ℕ)) (line : List ℕ) (is : now ≡ line ∷ left) (passed : Passed first now) where
  pub passed_skip : IsLine line Skip → Passed first left
  passed_skip skip = record {
    over = λ x. passed.over (subst IsOver (sym is) (inr (skip, x)));
    next = λ e after x. passed.next e after (subst (λ ls. HasNext ls e after) (sym is) (inr (skip, x)));
    given = λ events x. gives_skip line left events skip (subst (λ ls. Gives ls events) is (passed.given events x));
    shorter = omega (arith, passed.shorter, ap length is);
  }

  pub next_event : (e : Event) → IsLine line (EventLine e) → HasNext first e left
  next_event e event = passed.next e left (subst (λ ls. HasNext ls e left) (sym is) (inl (event, refl)))

  pub event_given : (e : Event) → IsLine line (EventLine e) → (events : List Event) → Gives first events → GivenAfter events left (Some e)
  event_given e event events x = gives_event line left events e event (subst (λ ls. Gives ls events) is (passed.given events x))

  pub parts_given : (parts : EventParts) → HasParts line (Some parts) → (events : List Event) → Gives first events → PartsGivenAfter events left (Some parts)
  parts_given parts has events x =
      let e = gives_kept line left events has.kept (subst (λ ls. Gives ls events) is (passed.given events x)) in
      (e.0, parts_of_line line parts (EventLine e.0) has e.1, event_given e.0 e.1 events x)

  pub next_parts : (parts : EventParts) → HasParts line (Some parts) → (e : Event) → AreParts parts e → HasNext first e left
  next_parts parts has e are = next_event e (line_of_parts line parts (EventLine e) has are)

  pub event_shorter : length left < length first
  event_shorter = omega (arith, passed.shorter, ap length is)

  pub over_wrong : IsLine line Wrong → IsOver first
  over_wrong wrong = passed.over (subst IsOver (sym is) (inl wrong))

  pub parts_wrong : (parts : EventParts) → HasParts line (Some parts) → AreWrong parts → IsOver first
  parts_wrong parts has wrong = over_wrong (line_of_parts line parts Wrong has wrong)

  pub wrong_given : IsLine line Wrong → (events : List Event) → Gives first events → events ≡ []
  wrong_given wrong events x = absurd (gives_wrong line left events wrong (subst (λ ls. Gives ls events) is (passed.given events x)))

pub over_end : (first now : List (List ℕ)) → now ≡ [] → Passed first now → IsOver first
over_end first now e passed = passed.over (subst IsOver (sym e) tt)

pub end_given : (first now : List (List ℕ)) → now ≡ [] → Passed first now → (events : List Event) → Gives first events → events ≡ []
end_given first now e passed events x = gives_end events (subst (λ ls. Gives ls events) e (passed.given events x))

-- a text has at most one line more than bytes
pub lines_few : (text : List ℕ) → length (lines_of text) ≤ length text + 1
lines_few text = omega (arith, length-slice_split (is_byte 10) text, count_by-le-length (is_byte 10) text)
