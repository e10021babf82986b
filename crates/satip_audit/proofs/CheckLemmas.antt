-- Lines behind each other, of which the first wrong one is looked for.
use Rattle.std.proofs.Common.{◌≡◌, ℕ, ◌+◌, ◌<◌, ◌≤◌, ◌^◌, Bool, true, false, ◌||◌, List, [], ◌∷◌, ◌++◌, length, length-append, append_assoc, append-nil, flat_map, decimal, codes, refl, sym, ap, ◌∙◌, arith}
use Rattle.std.specs.List.{list_any}
use Rattle.std.proofs.lemmas.List.Concat.{flat_map-append}
use Rattle.hex.specs.Hex.{encode_lower}
use Rattle.satip_base.specs.Lists.{Each}
use Rattle.satip_base.proofs.Elements.{Each-append}
use Rattle.satip_entry_writer.specs.Lines.{entry_line, start_line}
use Rattle.satip_entry_reader.specs.ReadingEntries.{entry_text}
use Rattle.satip_audit.specs.Cuts.{is_byte}
use Rattle.satip_audit.specs.Checks.{IsWrong}
use Rattle.satip_audit.specs.Journals.{BeginsWithNone, Entered, HasWrongLine, IsNote, IsPlaced, IsText, Note, Placed, Start, note_text, placed_line}
use Rattle.satip_audit.proofs.EntryLemmas.{are_bytes}
use Rattle.satip_audit.proofs.LineLemmas.{digits_without_end, no_end}

lacks_by : (t a b : Bool) → (t || a) ≡ false → (a ≡ false → b ≡ false) → (t || b) ≡ false
lacks_by true a b h more = absurd (cc h)
lacks_by false a b h more = more h

lacks_both : (p : ℕ → Bool) (xs ys : List ℕ) → list_any p xs ≡ false → list_any p ys ≡ false → list_any p (xs ++ ys) ≡ false
lacks_both p [] ys a b = b
lacks_both p (x ∷ xs) ys a b = lacks_by (p x) (list_any p xs) (list_any p (xs ++ ys)) a (λ h. lacks_both p xs ys h b)

-- a line ends with LF, and has no other
pub record Lined (line : List ℕ) : Type 0 where
  pub body : List ℕ
  pub lacks : list_any (is_byte 10) body ≡ false
  pub is : line ≡ body ++ 10 ∷ []

start_lined : (now : ℕ) → now < 2 ^ 64 → Lined (start_line now)
unfolding start_line
start_lined now small = record {
  body = codes "start " ++ decimal now;
  lacks = lacks_both (is_byte 10) (codes "start ") (decimal now) refl (no_end now small);
  is = sym (append_assoc (codes "start ") (decimal now) (10 ∷ []));
}

entry_lined : (p : Placed) → IsPlaced p → Lined (placed_line p)
unfolding entry_line
entry_lined p h =
    let digits = encode_lower (entry_text p.entry) in
    let third = codes " " ++ digits in
    let second = decimal p.caller ++ third in
    let first = decimal p.place ++ (codes " " ++ second) in
    let no_third = digits_without_end (entry_text p.entry) (are_bytes (entry_text p.entry) h.bytes) in
    let no_second = lacks_both (is_byte 10) (decimal p.caller) third (no_end p.caller h.caller) no_third in
    let no_first = lacks_both (is_byte 10) (decimal p.place) (codes " " ++ second) (no_end p.place h.place) no_second in
    record {
      body = codes "entry " ++ first;
      lacks = lacks_both (is_byte 10) (codes "entry ") first refl no_first;
      is = sym (
          append_assoc (codes "entry ") first (10 ∷ [])
          ∙ ap (λ (t : List ℕ). codes "entry " ++ t) (
          append_assoc (decimal p.place) (codes " " ++ second) (10 ∷ [])
          ∙ ap (λ (t : List ℕ). decimal p.place ++ (codes " " ++ t)) (append_assoc (decimal p.caller) third (10 ∷ []))));
    }

pub lined : (note : Note) → IsNote note → Lined (note_text note)
lined (Start now) h = start_lined now h
lined (Entered p) h = entry_lined p h

-- lines before a rest, the first of which is the next
pub record Midway (text rest : List ℕ) (number : ℕ) : Type 0 where
  pub before : List Note
  pub right : Each IsNote before
  pub whole : text ≡ flat_map note_text before ++ rest
  pub number_is : number ≡ length before + 1
  pub short : number + length rest ≤ length text + 1

abbrev pub midway_from : (text : List ℕ) → Midway text text 1
midway_from text = record { before = []; right = tt; whole = refl; number_is = refl; short = omega arith }

abbrev pub midway_more : (text rest line behind : List ℕ) (number : ℕ) → Midway text rest number → rest ≡ line ++ behind → length behind < length rest
    → (note : Note) → IsNote note → line ≡ note_text note → Midway text behind (number + 1)
midway_more text rest line behind number m cut shorter note within is =
    let count = m.number_is in
    let short = m.short in
    record {
      before = m.before ++ note ∷ [];
      right = Each-append IsNote m.before (note ∷ []) m.right (within, tt);
      whole =
          m.whole ∙ ap (λ (t : List ℕ). flat_map note_text m.before ++ t) cut
          ∙ sym (append_assoc (flat_map note_text m.before) line behind)
          ∙ ap (λ (t : List ℕ). t ++ behind)
          (sym (flat_map-append note_text m.before (note ∷ [])
          ∙ ap (λ (t : List ℕ). flat_map note_text m.before ++ t) (append-nil (note_text note) ∙ sym is)));
      number_is = omega (arith, count, length-append m.before (note ∷ []));
      short = omega (arith, short, shorter);
    }

wrong_at : (text rest : List ℕ) (number : ℕ) → Midway text rest number → (rest ≡ [] → ⊥) → BeginsWithNone rest → HasWrongLine text number
wrong_at text rest number m more wrong = record {
  before = m.before;
  right = m.right;
  rest = rest;
  whole = m.whole;
  more = more;
  wrong = wrong;
  number_is = m.number_is;
}

-- where there is no LF, no line stands in front
pub no_line : (text rest : List ℕ) (number : ℕ) → Midway text rest number → (rest ≡ [] → ⊥)
    → ((body behind : List ℕ) → list_any (is_byte 10) body ≡ false → rest ≡ (body ++ 10 ∷ []) ++ behind → ⊥) → HasWrongLine text number
no_line text rest number m more none = wrong_at text rest number m more (λ note behind within e.
    let l = lined note within in
    none l.body behind l.lacks (e ∙ ap (λ (t : List ℕ). t ++ behind) l.is))

-- where the first line is wrong, no line stands in front
pub wrong_line : (text rest line left : List ℕ) (number : ℕ) → Midway text rest number → (rest ≡ [] → ⊥)
    → ((body behind : List ℕ) → list_any (is_byte 10) body ≡ false → rest ≡ (body ++ 10 ∷ []) ++ behind → (line ≡ body ++ 10 ∷ []) × (left ≡ behind))
    → IsWrong line → HasWrongLine text number
wrong_line text rest line left number m more finds wrong = wrong_at text rest number m more (λ note behind within e.
    let l = lined note within in
    let found = finds l.body behind l.lacks (e ∙ ap (λ (t : List ℕ). t ++ behind) l.is) in
    wrong note within (found.0 ∙ sym l.is))

pub all_right : (text rest : List ℕ) (number : ℕ) (m : Midway text rest number) → rest ≡ [] → IsText text m.before
all_right text rest number m none = record {
  right = m.right;
  whole = m.whole ∙ ap (λ (t : List ℕ). flat_map note_text m.before ++ t) none ∙ append-nil (flat_map note_text m.before);
}

-- a line that is neither a start nor an entry is wrong
pub neither : (line : List ℕ) → ((now : ℕ) → now < 2 ^ 64 → line ≡ start_line now → ⊥) → ((p : Placed) → IsPlaced p → line ≡ placed_line p → ⊥) → IsWrong line
neither line a b (Start now) within e = a now within e
neither line a b (Entered p) within e = b p within e

pub not_nil : (xs : List ℕ) → 0 < length xs → xs ≡ [] → ⊥
not_nil xs some none = omega (arith, some, ap length none)
