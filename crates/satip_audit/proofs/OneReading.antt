-- A text of journals says one thing.
use Rattle.std.proofs.Common.{◌≡◌, ℕ, ◌<◌, ◌^◌, List, [], ◌∷◌, ◌++◌, length, length-append, append_assoc, append-nil, flat_map, decimal, codes, false, Ok, Err, Result, refl, sym, ap, ◌∙◌, arith}
use Rattle.std.specs.List.{list_any}
use Rattle.std.proofs.lemmas.List.{append_cancel_left, append_cancel_right}
use Rattle.std.proofs.lemmas.Option.{same_Some}
use Rattle.hex.specs.Hex.{encode_lower}
use Rattle.satip_base.specs.Lists.{Each}
use Rattle.satip_entry_writer.specs.Lines.{entry_line, start_line}
use Rattle.satip_entry_reader.specs.ReadingEntries.{Entry, entry_text}
use Rattle.satip_audit.specs.Cuts.{is_byte, words_line}
use Rattle.satip_audit.specs.Journals.{BeginsWithNone, Entered, HasWrongLine, IsNote, IsPlaced, IsText, Note, Placed, Start, note_text, placed_line}
use Rattle.satip_audit.proofs.EntryLemmas.{as_words}
use Rattle.satip_audit.proofs.LineLemmas.{no_space, number_read}
use Rattle.satip_audit.specs.OneThing.{SaysOneThing}
use Rattle.satip_audit.proofs.CheckLemmas.{lined}
use Rattle.satip_audit.proofs.LineAgain.{cut_same, same_entry}

cut_both : (at : ℕ) (a b x y : List ℕ) → list_any (is_byte at) a ≡ false → list_any (is_byte at) b ≡ false → a ++ at ∷ x ≡ b ++ at ∷ y → (a ≡ b) × (x ≡ y)
cut_both at a b x y no_a no_b e =
    let behind = cut_same at a b x y no_a no_b e in
    (append_cancel_right a b (at ∷ x) (e ∙ ap (λ (t : List ℕ). b ++ at ∷ t) (sym behind)), behind)

same_decimal : (n m : ℕ) → n < 2 ^ 64 → m < 2 ^ 64 → decimal n ≡ decimal m → n ≡ m
same_decimal n m small other e = same_Some n m (sym (number_read (decimal n) n small refl) ∙ number_read (decimal n) m other e)

same_start : (n m : ℕ) → n < 2 ^ 64 → m < 2 ^ 64 → start_line n ≡ start_line m → n ≡ m
unfolding start_line
same_start n m small other e =
    same_decimal n m small other (append_cancel_right (decimal n) (decimal m) (codes "\n") (append_cancel_left (codes "start ") _ _ e))

other_kind : (n : ℕ) (p : Placed) → start_line n ≡ placed_line p → ⊥
unfolding start_line entry_line
other_kind n p e = let first : ◌≡◌ {A = ℕ} 115 101 = cc e in omega (arith, first)

same_placed : (p q : Placed) → IsPlaced p → IsPlaced q → placed_line p ≡ placed_line q → p ≡ q
same_placed p q is_p is_q e =
    let dp = encode_lower (entry_text p.entry) in
    let dq = encode_lower (entry_text q.entry) in
    let words : words_line p.place p.caller dp ≡ words_line q.place q.caller dq = sym (as_words p) ∙ e ∙ as_words q in
    let one = append_cancel_left (codes "entry ") _ _ words in
    let two = cut_both 32 (decimal p.place) (decimal q.place) _ _ (no_space p.place is_p.place) (no_space q.place is_q.place) one in
    let three = cut_both 32 (decimal p.caller) (decimal q.caller) _ _ (no_space p.caller is_p.caller) (no_space q.caller is_q.caller) two.1 in
    let place : p.place ≡ q.place = same_decimal p.place q.place is_p.place is_q.place two.0 in
    let caller : p.caller ≡ q.caller = same_decimal p.caller q.caller is_p.caller is_q.caller three.0 in
    let entry : p.entry ≡ q.entry = same_entry p q is_p is_q e in
    let f : ℕ → Placed = λ n. record { place = n; caller = p.caller; entry = p.entry } in
    let g : ℕ → Placed = λ n. record { place = q.place; caller = n; entry = p.entry } in
    let h : Entry → Placed = λ x. record { place = q.place; caller = q.caller; entry = x } in
    ap f place ∙ ap g caller ∙ ap h entry

same_note : (x y : Note) → IsNote x → IsNote y → note_text x ≡ note_text y → x ≡ y
same_note (Start n) (Start m) is_x is_y e = ap (λ (k : ℕ). Start k) (same_start n m is_x is_y e)
same_note (Start n) (Entered q) is_x is_y e = absurd (other_kind n q e)
same_note (Entered p) (Start m) is_x is_y e = absurd (other_kind m p (sym e))
same_note (Entered p) (Entered q) is_x is_y e = ap (λ (k : Placed). Entered k) (same_placed p q is_x is_y e)

-- the first lines of one text
same_first : (x y : Note) (r s : List ℕ) → IsNote x → IsNote y → note_text x ++ r ≡ note_text y ++ s → (x ≡ y) × (r ≡ s)
same_first x y r s is_x is_y e =
    let a = lined x is_x in
    let b = lined y is_y in
    let left : note_text x ++ r ≡ a.body ++ 10 ∷ r = ap (λ (t : List ℕ). t ++ r) a.is ∙ append_assoc a.body (10 ∷ []) r in
    let right : note_text y ++ s ≡ b.body ++ 10 ∷ s = ap (λ (t : List ℕ). t ++ s) b.is ∙ append_assoc b.body (10 ∷ []) s in
    let both = cut_both 10 a.body b.body r s a.lacks b.lacks (sym left ∙ e ∙ right) in
    (same_note x y is_x is_y (a.is ∙ ap (λ (t : List ℕ). t ++ 10 ∷ []) both.0 ∙ sym b.is), both.1)

same_front : (a b : List Note) (r s : List ℕ) → Each IsNote a → Each IsNote b → BeginsWithNone r → BeginsWithNone s
    → flat_map note_text a ++ r ≡ flat_map note_text b ++ s → (a ≡ b) × (r ≡ s)
same_front [] [] r s is_a is_b none_r none_s e = (refl, e)
same_front [] (y ∷ b) r s is_a is_b none_r none_s e =
    absurd (none_r y (flat_map note_text b ++ s) is_b.0 (e ∙ append_assoc (note_text y) (flat_map note_text b) s))
same_front (x ∷ a) [] r s is_a is_b none_r none_s e =
    absurd (none_s x (flat_map note_text a ++ r) is_a.0 (sym e ∙ append_assoc (note_text x) (flat_map note_text a) r))
same_front (x ∷ a) (y ∷ b) r s is_a is_b none_r none_s e =
    let first = same_first x y (flat_map note_text a ++ r) (flat_map note_text b ++ s) is_a.0 is_b.0
    (sym (append_assoc (note_text x) (flat_map note_text a) r) ∙ e ∙ append_assoc (note_text y) (flat_map note_text b) s) in
    let rest = same_front a b r s is_a.1 is_b.1 none_r none_s first.1 in
    (ap (λ (n : Note). n ∷ a) first.0 ∙ ap (λ (l : List Note). y ∷ l) rest.0, rest.1)

-- no line stands in front of nothing
none_in_nothing : BeginsWithNone []
none_in_nothing note more is e =
    let l = lined note is in
    let long = ap (λ (t : List ℕ). length t) (e ∙ ap (λ (t : List ℕ). t ++ more) l.is ∙ append_assoc l.body (10 ∷ []) more) in
    let some = length-append l.body (10 ∷ more) in
    omega (arith, long, some)

whole_text : (text : List ℕ) (notes : List Note) → IsText text notes → text ≡ flat_map note_text notes ++ []
whole_text text notes is = is.whole ∙ sym (append-nil (flat_map note_text notes))

not_both : (text : List ℕ) (notes : List Note) (n : ℕ) → IsText text notes → HasWrongLine text n → ⊥
not_both text notes n is wrong =
    let same = same_front notes wrong.before [] wrong.rest is.right wrong.right none_in_nothing wrong.wrong (sym (whole_text text notes is) ∙ wrong.whole) in
    wrong.more (sym same.1)

pub one_thing : SaysOneThing
one_thing text (Ok a) (Ok b) is_a is_b =
    let f : List Note → Result (List Note) ℕ = λ l. Ok l in
    ap f
    (same_front a b [] [] is_a.right is_b.right none_in_nothing none_in_nothing (sym (whole_text text a is_a) ∙ whole_text text b is_b)).0
one_thing text (Ok a) (Err m) is_a is_b = absurd (not_both text a m is_a is_b)
one_thing text (Err n) (Ok b) is_a is_b = absurd (not_both text b n is_b is_a)
one_thing text (Err n) (Err m) a b =
    let same = same_front a.before b.before a.rest b.rest a.right b.right a.wrong b.wrong (sym a.whole ∙ b.whole) in
    let long = ap (λ (l : List Note). length l) same.0 in
    let left = a.number_is in
    let right = b.number_is in
    let e : n ≡ m = omega (arith, long, left, right) in
    let f : ℕ → Result (List Note) ℕ = λ k. Err k in
    ap f e
