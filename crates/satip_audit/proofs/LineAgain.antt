-- Lines of entries: the same line is of the same entry.
use Rattle.std.proofs.Common.{◌≡◌, ℕ, zero, suc, ◌/◌, ◌%◌, ◌<◌, ◌≤◌, Bool, true, false, List, [], ◌∷◌, ◌++◌, append-nil, map, codes, decimal, None, Some, refl, sym, ap, ◌∙◌, subst, arith}
use Rattle.std.specs.Prelude.{slice_index}
use Rattle.std.specs.Bool.{MatchBool}
use Rattle.std.specs.List.{list_any}
use Rattle.std.proofs.lemmas.Bool.{eqb-false, or_parts}
use Rattle.std.proofs.lemmas.List.{append_cancel_left, append_cancel_right, get_or_past}
use Rattle.std.proofs.lemmas.Option.{same_Some}
use Rattle.hex.specs.Hex.{IsBytes, encode_lower, encode_with, hex_digit_value, lower_digits}
use Rattle.hex.proofs.HexLemmas.{IsDigits-lower_digits}
use Rattle.satip_base.specs.Output.{Output}
use Rattle.satip_plain.specs.declared.answers.Answer.{Answer}
use Rattle.satip_plain.specs.declared.events.Event.{Event}
use Rattle.satip_plain.specs.Types.{Config}
use Rattle.satip_plain.specs.State.{State}
use Rattle.satip_plain.specs.Steps.{step}
use Rattle.satip_plain.specs.Histories.{Fits, datagram}
use Rattle.satip_core.specs.Standing.{StandsFor}
use Rattle.satip_entry_reader.proofs.ValuesAgain.{none_begins}
use Rattle.satip_entry_reader.specs.ReadingEntries.{Entry, IsEntry, entry_text, entry_read}
use Rattle.satip_entry_reader.proofs.EntriesAgain.{entry_again}
use Rattle.satip_core.specs.Held.{Held}
use Rattle.satip_core.specs.Serving.{Stands, Steps}
use Rattle.satip_audit.specs.Cuts.{is_byte, words_line}
use Rattle.satip_audit.specs.Journals.{IsPlaced, Placed, placed_line}
use Rattle.satip_audit.proofs.EntryLemmas.{are_bytes, as_words}
use Rattle.satip_audit.proofs.LineLemmas.{no_space}
use Rattle.satip_audit.specs.Replaying.{DoesOther, DoesSo, SaysSame}
use Rattle.satip_audit.specs.Verdicts.{item}

-- ---- texts that are cut at the same byte

head_lacks : (at c : ℕ) (b : List ℕ) → list_any (is_byte at) (c ∷ b) ≡ false → (c ≡ at → ⊥) × (list_any (is_byte at) b ≡ false)
head_lacks at c b h = let both = or_parts (is_byte at c) (list_any (is_byte at) b) h in (eqb-false c at both.0, both.1)

pub cut_same : (at : ℕ) (a b x y : List ℕ) → list_any (is_byte at) a ≡ false → list_any (is_byte at) b ≡ false → a ++ at ∷ x ≡ b ++ at ∷ y → x ≡ y
cut_same at [] [] x y no_a no_b e = cc e
cut_same at [] (c ∷ b) x y no_a no_b e = let first : c ≡ at = cc e in absurd ((head_lacks at c b no_b).0 first)
cut_same at (c ∷ a) [] x y no_a no_b e = let first : c ≡ at = cc e in absurd ((head_lacks at c a no_a).0 first)
cut_same at (c ∷ a) (d ∷ b) x y no_a no_b e =
    let rest : a ++ at ∷ x ≡ b ++ at ∷ y = cc e in
    cut_same at a b x y (head_lacks at c a no_a).1 (head_lacks at d b no_b).1 rest

-- ---- digits of the same bytes

none_is : (n : ℕ) → None ≡ Some n → ⊥
none_is n e = cc e

same_digit : (i j : ℕ) → j < 16 → slice_index lower_digits i ≡ slice_index lower_digits j → i ≡ j
same_digit i j small e =
    let read : hex_digit_value (slice_index lower_digits i) ≡ Some j = ap hex_digit_value e ∙ IsDigits-lower_digits j small in
    let within : i < 16 → i ≡ j = λ h. same_Some i j (sym (IsDigits-lower_digits i h) ∙ read) in
    let beyond : 16 ≤ i → 1 ≤ 0 = λ h.
    let past : slice_index lower_digits i ≡ 0 = get_or_past lower_digits i 0 h in
    absurd (none_is j (sym (ap hex_digit_value past) ∙ read)) in
    grind (arith, within, beyond)

same_byte : (x y : ℕ) → x / 16 ≡ y / 16 → x % 16 ≡ y % 16 → x ≡ y
same_byte x y high low = omega (arith, high, low)

pub same_digits : (a b : List ℕ) → IsBytes b → encode_lower a ≡ encode_lower b → a ≡ b
unfolding encode_with
same_digits [] [] are e = refl
same_digits [] (y ∷ b) are e = absurd (cc e)
same_digits (x ∷ a) [] are e = absurd (cc e)
same_digits (x ∷ a) (y ∷ b) are e =
    let byte : y < 256 = are zero in
    let first : slice_index lower_digits (x / 16) ≡ slice_index lower_digits (y / 16) = cc e in
    let second : slice_index lower_digits (x % 16) ≡ slice_index lower_digits (y % 16) = cc e in
    let rest : encode_lower a ≡ encode_lower b = cc e in
    let high : x / 16 ≡ y / 16 = same_digit (x / 16) (y / 16) (omega (arith, byte)) first in
    let low : x % 16 ≡ y % 16 = same_digit (x % 16) (y % 16) (omega arith) second in
    let here : x ≡ y = same_byte x y high low in
    let more : a ≡ b = same_digits a b (λ i. are (suc i)) rest in
    ap (λ (n : ℕ). n ∷ a) here ∙ ap (λ (l : List ℕ). y ∷ l) more

-- ---- the same line

same_text : (a b : Entry) → IsEntry a → IsEntry b → entry_text a ≡ entry_text b → a ≡ b
same_text a b is_a is_b e = (none_begins IsEntry entry_text entry_read entry_again a b [] [] is_a is_b (ap (λ (t : List ℕ). t ++ []) e)).0

pub same_entry : (p q : Placed) → IsPlaced p → IsPlaced q → placed_line p ≡ placed_line q → p.entry ≡ q.entry
same_entry p q is_p is_q e =
    let dp = encode_lower (entry_text p.entry) in
    let dq = encode_lower (entry_text q.entry) in
    let words : words_line p.place p.caller dp ≡ words_line q.place q.caller dq = sym (as_words p) ∙ e ∙ as_words q in
    let one = append_cancel_left (codes "entry ") _ _ words in
    let two = cut_same 32 (decimal p.place) (decimal q.place) _ _ (no_space p.place is_p.place) (no_space q.place is_q.place) one in
    let three = cut_same 32 (decimal p.caller) (decimal q.caller) _ _ (no_space p.caller is_p.caller) (no_space q.caller is_q.caller) two in
    let digits : dp ≡ dq = append_cancel_right dp dq (codes "\n") three in
    same_text p.entry q.entry is_p.entry is_q.entry
    (same_digits (entry_text p.entry) (entry_text q.entry) (are_bytes (entry_text q.entry) is_q.bytes) digits)

-- ---- what the server did, against a record

-- an entry is what its event does
record DoesEntry (c : Config) (new : Held) (st : State) (e : Entry) : Type 0 where
  stands : StandsFor c new.kept (step c st e.event).state
  answer : e.answer ≡ (step c st e.event).answer
  reply : e.reply ≡ (step c st e.event).reply
  datagrams : e.datagrams ≡ map datagram (step c st e.event).sent

abbrev pub made : Event → Answer → Output → Entry
made event answer out = record { event = event; answer = answer; reply = out.reply; datagrams = out.datagrams }

-- the entry that is read is the one whose record the bytes are
read_is : (e q : Entry) (bytes : List ℕ) → IsEntry q → bytes ≡ entry_text q → entry_read bytes ≡ Some (e, []) → e ≡ q
read_is e q bytes is same read =
    let whole : entry_read bytes ≡ Some (q, []) = ap entry_read (same ∙ sym (append-nil (entry_text q))) ∙ entry_again q [] is in
    ap (λ (x : Entry × List ℕ). x.0) (same_Some (e, []) (q, []) (sym read ∙ whole))

module _ (old new : Held) (event : Event) (answer : Answer) (said : Output) (done : Answer) (out : Output) (bytes : List ℕ)
    (steps : Steps old event new done out) (read : entry_read bytes ≡ Some (made event answer said, [])) (p : Placed) (is_p : IsEntry p.entry)
    (same : bytes ≡ entry_text p.entry) where
  abbrev e : Entry
  e = made event answer said

  both : e ≡ p.entry
  both = read_is e p.entry bytes is_p same read

  so : done ≡ answer → SaysSame out said → DoesSo old p new
  so answers outputs = λ st stands.
      let did = steps st stands in
      let here : DoesEntry old.setting.config new st e = record {
        stands = did.stands;
        answer = sym answers ∙ did.answer;
        reply = sym outputs.reply ∙ did.reply;
        datagrams = sym outputs.datagrams ∙ did.datagrams;
      } in
      let there : DoesEntry old.setting.config new st p.entry = subst (λ (x : Entry). DoesEntry old.setting.config new st x) both here in
      record { stands = there.stands; fits = record { answer = there.answer; reply = there.reply; datagrams = there.datagrams } }

  theirs : (st : State) → Stands old st → Fits (step old.setting.config st p.entry.event) (item p) → (done ≡ answer) × SaysSame out said
  theirs st stands fits =
      let c = old.setting.config in
      let did = steps st stands in
      let F : Entry → Type 0 = λ x. (x.answer ≡ (step c st x.event).answer) × (x.reply ≡ (step c st x.event).reply)
      × (x.datagrams ≡ map datagram (step c st x.event).sent) in
      let mine : F e = subst F (sym both) (fits.answer, fits.reply, fits.datagrams) in
      (did.answer ∙ sym mine.0, record { reply = did.reply ∙ sym mine.1; datagrams = did.datagrams ∙ sym mine.2 })

  pub other_answer : (done ≡ answer → ⊥) → DoesOther old p
  other_answer differ = λ st stands fits. differ (theirs st stands fits).0

  pub does : (b : Bool) → done ≡ answer → MatchBool b (SaysSame out said) (SaysSame out said → ⊥) → MatchBool b (DoesSo old p new) (DoesOther old p)
  does true answers outputs = so answers outputs
  does false answers differ = λ st stands fits. differ (theirs st stands fits).1
