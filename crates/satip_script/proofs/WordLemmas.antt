-- How many words are left, and what they ask for.
use Rattle.std.proofs.Common.{◌≡◌, ℕ, ◌≢◌, Bool, true, false, List, [], ◌∷◌, length, Option, Some, None, refl, sym, ap, ◌∙◌, arith}
use Rattle.std.specs.Prelude.{◌&&◌, ◌||◌, is_some}
use Rattle.std.specs.Char.{is_ascii_hexdigit}
use Rattle.std.specs.List.{list_all, list_any, onto_first, slice_split}
use Rattle.std.proofs.lemmas.Bool.Decides.{nat_tests}
use Rattle.std.proofs.lemmas.List.Splits.{length-slice_split, slice_split-cons_yes, slice_split-cons_no}
use Rattle.satip_base.specs.Numbers.{number_of, ip_of}
use Rattle.satip_tune.specs.Pieces.{is_byte}
use Rattle.satip_tune.proofs.Places.{slice_split-no}
use Rattle.satip_plain.specs.Types.{Draw}
use Rattle.satip_ts.specs.Digits.{bytes_of, packet_of}
use Rattle.satip_ts.proofs.HexDigits.{no_digits_read}
use Rattle.satip_ts.proofs.PacketDigits.{not_all_digits}
use Rattle.satip_script.specs.Lines.{one_word_of, two_words_of, three_words_of}
use Rattle.satip_script.specs.Forms.{call_by, call_from, packet_by, packet_event, stop_by}
use Rattle.satip_script.specs.Parts.{greatest, draw_of}

some_left : (p : ℕ → Bool) (bs : List ℕ) → length (slice_split p bs) ≢ 0
some_left p bs = omega (arith, length-slice_split p bs)

more_than_one : (a : List ℕ) (ws : List (List ℕ)) → length ws ≢ 0 → one_word_of (a ∷ ws) ≡ None
unfolding one_word_of
more_than_one a [] some = absurd (some refl)
more_than_one a (b ∷ ws) some = refl

more_than_two : (a b : List ℕ) (ws : List (List ℕ)) → length ws ≢ 0 → two_words_of (a ∷ b ∷ ws) ≡ None
unfolding two_words_of
more_than_two a b [] some = absurd (some refl)
more_than_two a b (c ∷ ws) some = refl

pub past_one : (p : ℕ → Bool) (a bs : List ℕ) → one_word_of (a ∷ slice_split p bs) ≡ None
past_one p a bs = more_than_one a (slice_split p bs) (some_left p bs)

pub past_two : (p : ℕ → Bool) (a b bs : List ℕ) → two_words_of (a ∷ b ∷ slice_split p bs) ≡ None
past_two p a b bs = more_than_two a b (slice_split p bs) (some_left p bs)

pub ruleset word_counts = (past_one, past_two)

more_than_none : (ws : List (List ℕ)) → length ws ≢ 0 → stop_by ws ≡ None
more_than_none [] some = absurd (some refl)
more_than_none (b ∷ ws) some = refl

pub past_none : (p : ℕ → Bool) (bs : List ℕ) → stop_by (slice_split p bs) ≡ None
past_none p bs = more_than_none (slice_split p bs) (some_left p bs)

-- ---- a last word with a space in it

is_no_digit : (b : ℕ) → is_byte 32 b ≡ true → is_ascii_hexdigit b ≡ false
is_no_digit b h = let same : b ≡ 32 = grind (arith, nat_tests) in rw same refl

and-false : (a b : Bool) → b ≡ false → (a && b) ≡ false
and-false true b h = h
and-false false b h = refl

no_digits_by : (b : ℕ) (bs : List ℕ) (here : Bool) → is_byte 32 b ≡ here → (here || list_any (is_byte 32) bs) ≡ true
    → (list_any (is_byte 32) bs ≡ true → list_all is_ascii_hexdigit bs ≡ false) → list_all is_ascii_hexdigit (b ∷ bs) ≡ false
no_digits_by b bs true is some behind = rw (is_no_digit b is) refl
no_digits_by b bs false is some behind = and-false (is_ascii_hexdigit b) (list_all is_ascii_hexdigit bs) (behind some)

-- a text with a space is none of digits
no_digits : (bs : List ℕ) → list_any (is_byte 32) bs ≡ true → list_all is_ascii_hexdigit bs ≡ false
no_digits [] some = cc some
no_digits (b ∷ bs) some = no_digits_by b bs (is_byte 32 b) refl some (no_digits bs)

-- a text that is cut
record IsCut (parts : List (List ℕ)) : Type 0 where
  first : List ℕ
  second : List ℕ
  others : List (List ℕ)
  is : parts ≡ first ∷ second ∷ others

cut_here : (parts whole : List (List ℕ)) → length parts ≢ 0 → whole ≡ [] ∷ parts → IsCut whole
cut_here [] whole some is = absurd (some refl)
cut_here (part ∷ parts) whole some is = record { first = []; second = part; others = parts; is = is }

cut_later : (b : ℕ) (parts whole : List (List ℕ)) → IsCut parts → whole ≡ onto_first b parts → IsCut whole
cut_later b parts whole cut is = record {
  first = b ∷ cut.first;
  second = cut.second;
  others = cut.others;
  is = is ∙ ap (onto_first b) cut.is;
}

cut_by : (b : ℕ) (bs : List ℕ) (here : Bool) → is_byte 32 b ≡ here → (here || list_any (is_byte 32) bs) ≡ true
    → (list_any (is_byte 32) bs ≡ true → IsCut (slice_split (is_byte 32) bs)) → IsCut (slice_split (is_byte 32) (b ∷ bs))
cut_by b bs true is some behind =
    cut_here (slice_split (is_byte 32) bs) _ (some_left (is_byte 32) bs) (slice_split-cons_yes (is_byte 32) b bs is)
cut_by b bs false is some behind =
    cut_later b (slice_split (is_byte 32) bs) _ (behind some) (slice_split-cons_no (is_byte 32) b bs is)

is_cut : (bs : List ℕ) → list_any (is_byte 32) bs ≡ true → IsCut (slice_split (is_byte 32) bs)
is_cut [] some = cc some
is_cut (b ∷ bs) some = cut_by b bs (is_byte 32 b) refl some (is_cut bs)

past_three : (a b : List ℕ) (parts : List (List ℕ)) → IsCut parts → three_words_of (a ∷ b ∷ parts) ≡ None
unfolding three_words_of
past_three a b parts cut = rw cut.is refl

only_three : (a b c : List ℕ) (parts : List (List ℕ)) → parts ≡ c ∷ [] → three_words_of (a ∷ b ∷ parts) ≡ Some (a, b, c)
unfolding three_words_of
only_three a b c parts is = rw is refl

no_packet : (front tune : Option ℕ) → packet_event front tune None ≡ None
no_packet None tune = refl
no_packet (Some front) None = refl
no_packet (Some front) (Some tune) = refl

none_of : (o : Option (List ℕ)) → is_some o ≡ false → o ≡ None
none_of None e = refl
none_of (Some x) e = cc e

packet_by_case : (a b bs : List ℕ) (spaced : Bool) → list_any (is_byte 32) bs ≡ spaced
    → packet_by (three_words_of (a ∷ b ∷ slice_split (is_byte 32) bs)) ≡ packet_event (number_of 65535 a) (number_of greatest b) (packet_of bs)
packet_by_case a b bs true is =
    ap packet_by (past_three a b (slice_split (is_byte 32) bs) (is_cut bs is))
    ∙ sym (ap (packet_event (number_of 65535 a) (number_of greatest b)) (none_of (packet_of bs) (not_all_digits bs (no_digits bs is)))
    ∙ no_packet (number_of 65535 a) (number_of greatest b))
packet_by_case a b bs false is = ap packet_by (only_three a b bs (slice_split (is_byte 32) bs) (slice_split-no (is_byte 32) bs is))

-- a packet's digits may be told without a look for spaces
pub packet_of_rest : (a b bs : List ℕ)
    → packet_by (three_words_of (a ∷ b ∷ slice_split (is_byte 32) bs)) ≡ packet_event (number_of 65535 a) (number_of greatest b) (packet_of bs)
packet_of_rest a b bs = packet_by_case a b bs (list_any (is_byte 32) bs) refl

no_call : (ip : Option ℕ) (draw : Option Draw) → call_from ip draw None ≡ None
no_call None draw = refl
no_call (Some ip) None = refl
no_call (Some ip) (Some draw) = refl

call_by_case : (a b bs : List ℕ) (spaced : Bool) → list_any (is_byte 32) bs ≡ spaced
    → call_by (three_words_of (a ∷ b ∷ slice_split (is_byte 32) bs)) ≡ call_from (ip_of a) (draw_of b) (bytes_of bs)
call_by_case a b bs true is =
    ap call_by (past_three a b (slice_split (is_byte 32) bs) (is_cut bs is))
    ∙ sym (ap (call_from (ip_of a) (draw_of b)) (no_digits_read bs (no_digits bs is)) ∙ no_call (ip_of a) (draw_of b))
call_by_case a b bs false is = ap call_by (only_three a b bs (slice_split (is_byte 32) bs) (slice_split-no (is_byte 32) bs is))

-- nor those of a text
pub call_of_rest : (a b bs : List ℕ)
    → call_by (three_words_of (a ∷ b ∷ slice_split (is_byte 32) bs)) ≡ call_from (ip_of a) (draw_of b) (bytes_of bs)
call_of_rest a b bs = call_by_case a b bs (list_any (is_byte 32) bs) refl
