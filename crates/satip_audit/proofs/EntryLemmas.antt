-- Lines of entries: what is written is read again.
use Rattle.std.proofs.Common.{◌≡◌, ℕ, zero, suc, ◌<◌, ◌≤◌, ◌^◌, List, [], ◌∷◌, length, length-append, take, Some, None, refl, sym, ap, ◌∙◌, arith}
use Rattle.std.proofs.lemmas.List.Elements.{All-head, All-tail}
use Rattle.std.proofs.lemmas.Option.{same_Some}
use Rattle.std.proofs.lemmas.List.{length-take-le}
use Rattle.hex.specs.Hex.{IsBytes, encode_lower, lower_digits}
use Rattle.hex.proofs.HexLemmas.{length-encode_with}
use Rattle.satip_base.specs.Output.{IsWithinRoom}
use Rattle.satip_plain.specs.Values.{AreBytes}
use Rattle.satip_entry_writer.specs.Lines.{entry_line}
use Rattle.satip_entry_writer.proofs.Bounds.{record_bound}
use Rattle.satip_entry_reader.specs.ReadingEntries.{Entry, IsEntry, entry_text}
use Rattle.satip_audit.specs.Cuts.{words_line}
use Rattle.satip_audit.specs.Journals.{Placed, placed_line}
use Rattle.satip_audit.specs.Verdicts.{output_of}

-- a line by its words
pub as_words : (p : Placed) → placed_line p ≡ words_line p.place p.caller (encode_lower (entry_text p.entry))
unfolding entry_line
as_words p = refl

-- each byte is less than 256, and so is what stands for a byte behind the end
pub are_bytes : (xs : List ℕ) → AreBytes xs → IsBytes xs
are_bytes [] h i = omega arith
are_bytes (x ∷ xs) h zero = All-head (λ byte. byte < 2 ^ 8) x xs h
are_bytes (x ∷ xs) h (suc i) = are_bytes xs (All-tail (λ byte. byte < 2 ^ 8) x xs h) i

within : (e : Entry) → IsEntry e → IsWithinRoom (output_of e.reply e.datagrams)
within e h =
    let reply = h.reply in
    let bytes = h.bytes in
    let count = h.count in
    record { reply = omega (arith, reply); bytes = omega (arith, bytes); count = omega (arith, count) }

-- a record fits the room
pub record_short : (e : Entry) → IsEntry e → length (entry_text e) ≤ 400000
record_short e h =
    let bound = record_bound e.event e.answer (output_of e.reply e.datagrams) h.event (within e h) in
    omega (arith, bound)

-- a line depends on its numbers and its record alone
pub same_line : (q p : Placed) → q.place ≡ p.place → q.caller ≡ p.caller → entry_text q.entry ≡ entry_text p.entry → placed_line q ≡ placed_line p
same_line q p place caller text =
    as_words q ∙ ap (λ (n : ℕ). words_line n q.caller (encode_lower (entry_text q.entry))) place
    ∙ ap (λ (n : ℕ). words_line p.place n (encode_lower (entry_text q.entry))) caller
    ∙ ap (λ (t : List ℕ). words_line p.place p.caller (encode_lower t)) text ∙ sym (as_words p)

-- a line is longer than its record
line_long : (q : Placed) → length (entry_text q.entry) ≤ length (placed_line q)
line_long q =
    omega (arith, ap (λ (l : List ℕ). length l) (as_words q), length-append {A = ℕ}, length-encode_with lower_digits (entry_text q.entry))

pub fits_line : (room line : List ℕ) (q : Placed) (most count : ℕ) → take most room ≡ entry_text q.entry → line ≡ placed_line q → most ≡ count
    → count ≤ length room → count ≤ length line
fits_line room line q most count right is same within =
    let taken = length-take-le most room (omega (arith, same, within)) in
    omega (arith, same, taken, ap (λ (l : List ℕ). length l) right, line_long q, ap (λ (l : List ℕ). length l) is)

-- the bytes that were decoded
pub front_is : (room bytes : List ℕ) (count most : ℕ) → most ≡ count → Some count ≡ Some (length bytes) → take (length bytes) room ≡ bytes
    → take most room ≡ bytes
front_is room bytes count most same is front =
    ap (λ (n : ℕ). take n room) (same ∙ same_Some count (length bytes) is) ∙ front

pub none_is : (n : ℕ) → None ≡ Some n → ⊥
none_is n e = cc e
