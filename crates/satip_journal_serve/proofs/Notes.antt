-- Journals as what their lines say.
use Rattle.std.proofs.Common.{◌≡◌, ◌∙◌, ℕ, ◌+◌, ◌<◌, ◌≤◌, ◌^◌, Bool, true, false, List, [], ◌∷◌, ◌++◌, length, map, flat_map, refl, sym, ap, arith}
use Rattle.std.specs.Prelude.{◌==◌}
use Rattle.std.specs.List.{All}
use Rattle.std.proofs.lemmas.List.Concat.{flat_map-append}
use Rattle.std.proofs.lemmas.List.Elements.{All-cons, All-head, All-nil, All-tail}
use Rattle.satip_base.specs.History.{kept_if}
use Rattle.satip_base.specs.Lists.{Each}
use Rattle.satip_base.proofs.Elements.{Each-append}
use Rattle.satip_plain.specs.Histories.{Item}
use Rattle.satip_audit.specs.Journals.{Entered, IsNote, Note, Placed, Start, note_text}
use Rattle.satip_journal.specs.Places.{Placed as Own, line_of, lines_of, own_at, placed}
use Rattle.satip_entry_writer.specs.Entries.{IsTyped, told}
use Rattle.satip_journal_serve.specs.Journals.{journals, journals_from}
use Rattle.satip_entry_writer.proofs.InBytes.{record_in_bytes}

-- what the line of an entry says that the job of this number made
abbrev pub noted : ℕ → Own → Placed
noted job x = record { place = x.place; caller = job; entry = told x.entry }

abbrev pub notes_of : ℕ → List Own → List Note
notes_of job [] = []
notes_of job (x ∷ xs) = Entered (noted job x) ∷ notes_of job xs

abbrev pub notes_from : ℕ → List ℕ → List Item → List (List Note)
notes_from job [] h = []
notes_from job (n ∷ ns) h = notes_of job (own_at 0 n h) ∷ notes_from (job + 1) ns h

abbrev pub all_notes : ℕ → ℕ → List ℕ → List Item → List (List Note)
all_notes start n ns h = (Start start ∷ notes_of 0 (own_at 0 n h)) ∷ notes_from 1 ns h

abbrev pub joined : List (List Note) → List Note
joined lists = flat_map (λ (notes : List Note). notes) lists

abbrev pub text_of : List Note → List ℕ
text_of notes = flat_map note_text notes

lines_are : (job : ℕ) (xs : List Own) → text_of (notes_of job xs) ≡ lines_of job xs
lines_are job [] = refl
lines_are job (x ∷ xs) = ap (λ (t : List ℕ). line_of job x ++ t) (lines_are job xs)

texts_from : (job : ℕ) (ns : List ℕ) (h : List Item) → map text_of (notes_from job ns h) ≡ journals_from job ns h
texts_from job [] h = refl
texts_from job (n ∷ ns) h = λ i. lines_are job (own_at 0 n h) i ∷ texts_from (job + 1) ns h i

pub texts_are : (start n : ℕ) (ns : List ℕ) (h : List Item) → map text_of (all_notes start n ns h) ≡ journals start n ns h
texts_are start n ns h = λ i. (note_text (Start start) ++ lines_are 0 (own_at 0 n h) i) ∷ texts_from 1 ns h i

-- put together they are the text of all notes
pub text_joined : (lists : List (List Note)) → flat_map (λ (text : List ℕ). text) (map text_of lists) ≡ text_of (joined lists)
text_joined [] = refl
text_joined (notes ∷ lists) =
    ap (λ (t : List ℕ). text_of notes ++ t) (text_joined lists) ∙ sym (flat_map-append note_text notes (joined lists))

-- ---- each line is right

record IsRight (x : Own) : Type 0 where
  place : x.place < 2 ^ 64
  typed : IsTyped x.entry

each_kept : {T : Type 0} (P : T → Type 0) (b : Bool) (x : T) (xs : List T) → P x → Each P xs → Each P (kept_if b x xs)
each_kept P true x xs p ps = (p, ps)
each_kept P false x xs p ps = ps

own_right : (place n : ℕ) (h : List Item) → Each IsTyped h → place + length h ≤ 2 ^ 64 → Each IsRight (own_at place n h)
own_right place n [] typed short = tt
own_right place n (e ∷ es) typed short =
    each_kept IsRight (e.caller == n) (placed place e) (own_at (place + 1) n es) (record { place = omega (arith, short); typed = typed.0 })
    (own_right (place + 1) n es typed.1 (omega (arith, short)))

notes_right : (job : ℕ) (xs : List Own) → job < 2 ^ 64 → Each IsRight xs → Each IsNote (notes_of job xs)
notes_right job [] small right = tt
notes_right job (x ∷ xs) small right = (
  record { place = right.0.place; caller = small; entry = right.0.typed.entry; bytes = record_in_bytes x.entry right.0.typed },
  notes_right job xs small right.1,
)

lists_right : (job : ℕ) (ns : List ℕ) (h : List Item) → Each IsTyped h → length h ≤ 2 ^ 64 → job + length ns ≤ 2 ^ 64
    → All (λ (notes : List Note). Each IsNote notes) (notes_from job ns h)
lists_right job [] h typed short few = All-nil (λ (notes : List Note). Each IsNote notes)
lists_right job (n ∷ ns) h typed short few =
    All-cons (λ (notes : List Note). Each IsNote notes) (notes_of job (own_at 0 n h)) (notes_from (job + 1) ns h)
    (notes_right job (own_at 0 n h) (omega (arith, few)) (own_right 0 n h typed (omega (arith, short))))
    (lists_right (job + 1) ns h typed short (omega (arith, few)))

pub all_right : (start n : ℕ) (ns : List ℕ) (h : List Item) → start < 2 ^ 64 → Each IsTyped h → length h ≤ 2 ^ 64 → 1 + length ns ≤ 2 ^ 64
    → All (λ (notes : List Note). Each IsNote notes) (all_notes start n ns h)
all_right start n ns h small typed short few =
    All-cons (λ (notes : List Note). Each IsNote notes) (Start start ∷ notes_of 0 (own_at 0 n h)) (notes_from 1 ns h)
    (small, notes_right 0 (own_at 0 n h) (omega arith) (own_right 0 n h typed (omega (arith, short)))) (lists_right 1 ns h typed short few)

pub joined_right : (P : Note → Type 0) (lists : List (List Note)) → All (λ (notes : List Note). Each P notes) lists → Each P (joined lists)
joined_right P [] h = tt
joined_right P (notes ∷ lists) h =
    Each-append P notes (joined lists) (All-head (λ (notes : List Note). Each P notes) notes lists h)
    (joined_right P lists (All-tail (λ (notes : List Note). Each P notes) notes lists h))
