-- What a text of bytes says, by its messages.
use Rattle.std.proofs.Common.{◌≡◌, ◌≢◌, ℕ, zero, suc, ◌+◌, ◌<◌, ◌≤◌, ◌⊎◌, Bool, true, false, List, [], ◌∷◌, ◌++◌, length, take, drop, Option, Some, None, Ok, refl, sym, ap, ◌∙◌, subst, inl, inr, ⊎_elim, arith, length-append, length-take, length-drop, lit<, IsTrue}
use Rattle.std.specs.Prelude.{IsSomeAnd, ◌||◌, nat_eq, slice_index_or}
use Rattle.std.proofs.lemmas.Bool.{cases_lt}
use Rattle.std.proofs.lemmas.Bool.Decides.{nat_tests}
use Rattle.std.proofs.lemmas.List.{take-append-le, drop-append-le, take-append-drop, drop_all}
use Rattle.std.proofs.lemmas.List.Elements.{All-head}
use Rattle.hex.specs.Hex.{decode_of}
use Rattle.hex.proofs.HexLemmas.{decode_of-same}
use Rattle.httparse.specs.Ascii.{space}
use Rattle.httparse.specs.Grammar.{is_token_byte, IsToken, print_end}
use Rattle.httparse.specs.Pieces.{is_newline}
use Rattle.httparse.proofs.PieceLemmas.{token_is_no_newline}
use Rattle.satip_frame.specs.declared.framing.Break.{Break}
use Rattle.satip_frame.specs.Head.{HasNoEmptyLine, IsHeadEnd, IsGoodHead, ends_in_empty_line}
use Rattle.satip_frame.specs.Said.{Said}
use Rattle.satip_frame.specs.Held.{Held, new_framer}
use Rattle.satip_frame.specs.Stream.{Tail, Unfinished, Broken, skip_newlines, Begins, Ends, Messages, Leads}
use Rattle.satip_frame.proofs.StreamLemmas.{begins_unique, begins_and_ends, skip_newlines_again, skip_shorter, one_list, broken_stays, leads-append}
use Rattle.satip_frame.proofs.FramerLemmas.{unfinished_short}
use Rattle.satip_frame.proofs.ReadingLemmas.{reading_of}
use Rattle.satip_script.specs.declared.messages.Look.{Look}
use Rattle.satip_script.specs.Inner.{Sees, newline_first}
use Rattle.satip_ts.proofs.HexDigits.{length-digits}
use Rattle.satip_script.specs.Texts.{Told, Whole, NotWhole, Tells, TellsNothing}

-- ---- line ends at the front

clean_cons : (c : ℕ) (text : List ℕ) → is_newline c ≡ false → skip_newlines (c ∷ text) ≡ c ∷ text
clean_cons c text e = rw e refl

clean_by : (n : ℕ) (text : List ℕ) (b : ℕ) (more : List ℕ) → take n text ≡ b ∷ more → is_token_byte b ≡ true → skip_newlines text ≡ text
clean_by zero text b more e token = cc e
clean_by (suc n) [] b more e token = cc e
clean_by (suc n) (c ∷ text) b more e token =
    let same : c ≡ b = cc in
    clean_cons c text (subst (λ v. is_newline v ≡ false) (sym same) (token_is_no_newline b token))

method_first : (n : ℕ) (text method y z w : List ℕ) → take n text ≡ ((method ++ y) ++ z) ++ w → IsToken method → skip_newlines text ≡ text
method_first n text [] y z w e token = absurd (omega (arith, token.0))
method_first n text (b ∷ method) y z w e token =
    clean_by n text b (((method ++ y) ++ z) ++ w) e (All-head (λ v. is_token_byte v ≡ true) b method token.1)

-- nothing stands before a message
pub begins_clean : (text : List ℕ) (m : Said) (rest : List ℕ) → Begins text m rest → skip_newlines text ≡ text
begins_clean text m rest x =
    method_first x.head text m.method (space ∷ m.target) (space ∷ m.version) (print_end x.has_head.good.reads.line_end ++ x.has_head.good.reads.block)
    x.has_head.good.reads.text x.has_head.good.reads.method

skip_same_by : (b : ℕ) (text : List ℕ) (r : Bool) → is_newline b ≡ r → length (skip_newlines (b ∷ text)) ≡ length (b ∷ text)
    → skip_newlines (b ∷ text) ≡ b ∷ text
skip_same_by b text true e same =
    let less : length (skip_newlines text) ≡ length (b ∷ text) = rw e at same in
    absurd (omega (arith, less, skip_shorter text))
skip_same_by b text false e same = rw e refl

-- a text that keeps its length keeps its bytes
pub skip_same : (text : List ℕ) → length (skip_newlines text) ≡ length text → skip_newlines text ≡ text
skip_same [] same = refl
skip_same (b ∷ text) same = skip_same_by b text (is_newline b) refl same

skip_taken_by : (n b : ℕ) (text : List ℕ) (r : Bool) → is_newline b ≡ r → skip_newlines (b ∷ text) ≡ b ∷ text
    → skip_newlines (take (suc n) (b ∷ text)) ≡ take (suc n) (b ∷ text)
skip_taken_by n b text true e same =
    let less : length (skip_newlines text) ≡ length (b ∷ text) = ap length (rw e at same) in
    absurd (omega (arith, less, skip_shorter text))
skip_taken_by n b text false e same = rw e refl

-- a beginning of a text with nothing to drop has nothing to drop
pub skip_taken : (n : ℕ) (text : List ℕ) → skip_newlines text ≡ text → skip_newlines (take n text) ≡ take n text
skip_taken zero text same = refl
skip_taken (suc n) [] same = refl
skip_taken (suc n) (b ∷ text) same = skip_taken_by n b text (is_newline b) refl same

-- ---- one reading

no_empty_line : HasNoEmptyLine 0 []
no_empty_line zero within ends = cc ends
no_empty_line (suc k) within ends = absurd (omega arith)

abbrev list_told : Told → List Said
list_told (Whole m) = m ∷ []
list_told (NotWhole cause) = []

abbrev tail_told : Told → Tail
tail_told (Whole m) = Unfinished
tail_told (NotWhole cause) = Broken cause

-- the messages of a text that says something
pub told_messages : (text : List ℕ) (told : Told) → Tells text told → Messages text (list_told told) (tail_told told)
told_messages text (Whole m) x =
    ([], subst (λ t. Begins t m []) (sym (begins_clean text m [] x)) x, inl (lit< tt, no_empty_line))
told_messages text (NotWhole cause) x = x

same_told : (a b : Told) → list_told a ≡ list_told b → tail_told a ≡ tail_told b → a ≡ b
same_told (Whole m) (Whole n) e f = let same : m ≡ n = cc in ap Whole same
same_told (Whole m) (NotWhole cause) e f = cc
same_told (NotWhole cause) (Whole m) e f = cc
same_told (NotWhole cause) (NotWhole other) e f = let same : cause ≡ other = cc in ap NotWhole same

-- a text says one thing
pub one_told : (text : List ℕ) (a b : Told) → Tells text a → Tells text b → a ≡ b
one_told text a b x y =
    let same = one_list text _ _ _ _ (told_messages text a x) (told_messages text b y) in
    same_told a b same.0 same.1

not_unfinished : (told : Told) → list_told told ≡ [] → tail_told told ≡ Unfinished → ⊥
not_unfinished (Whole m) e f = cc e
not_unfinished (NotWhole cause) e f = cc f

-- an unfinished text says nothing
pub unfinished_tells : (text : List ℕ) → Messages text [] Unfinished → TellsNothing text
unfinished_tells text x = λ told y.
    let same = one_list text _ _ _ _ (told_messages text told y) x in
    not_unfinished told same.0 same.1

-- nor does one with bytes behind its message
pub more_tells : (text : List ℕ) (m : Said) (rest : List ℕ) → Begins (skip_newlines text) m rest → length rest ≢ 0 → TellsNothing text
more_tells text m rest x some (Whole n) y =
    let clean = begins_clean text n [] y in
    let same = begins_unique x (subst (λ t. Begins t n []) (sym clean) y) in
    some (ap length same.1)
more_tells text m rest x some (NotWhole cause) y = begins_and_ends (Broken cause) x y

-- nor one with line ends before its message
pub behind_newlines_tells : (text : List ℕ) (m : Said) (rest : List ℕ) → Begins (skip_newlines text) m rest → skip_newlines text ≢ text → TellsNothing text
behind_newlines_tells text m rest x begun (Whole n) y = begun (begins_clean text n [] y)
behind_newlines_tells text m rest x begun (NotWhole cause) y = begins_and_ends (Broken cause) x y

-- a text that says nothing behind its line ends says nothing
pub nothing_behind_newlines : (text : List ℕ) → TellsNothing (skip_newlines text) → TellsNothing text
nothing_behind_newlines text none (Whole m) y =
    none (Whole m) (subst (λ t. Begins t m []) (sym (begins_clean text m [] y)) y)
nothing_behind_newlines text none (NotWhole cause) y =
    none (NotWhole cause) (subst (λ t. Ends t (Broken cause)) (sym (skip_newlines_again text)) y)

pub broken_behind_newlines : (text : List ℕ) (cause : Break) → Messages (skip_newlines text) [] (Broken cause) → Messages text [] (Broken cause)
broken_behind_newlines text cause x = subst (λ t. Ends t (Broken cause)) (skip_newlines_again text) x

-- ---- the last byte

take_less : (text more : List ℕ) (k n : ℕ) → k ≤ n → n ≤ length text → take k (text ++ more) ≡ take k text
take_less text more k n below inside = take-append-le k text more (omega arith)

head_end_less : (text more : List ℕ) (n : ℕ) → n ≤ length text → IsHeadEnd (text ++ more) n → IsHeadEnd text n
head_end_less text more n inside end = record {
  in_range = inside;
  within = end.within;
  ends = subst (λ t. IsTrue (ends_in_empty_line t)) (take_less text more n n (omega arith) inside) end.ends;
  first = λ k below ends.
      end.first k below (subst (λ t. IsTrue (ends_in_empty_line t)) (sym (take_less text more k n (omega arith) inside)) ends);
}

-- a message that ends within a text's beginning stands in that
begins_less : (text more : List ℕ) (m : Said) (rest : List ℕ) → (x : Begins (text ++ more) m rest) → x.head + x.body ≤ length text
    → Begins text m (drop (x.head + x.body) text)
begins_less text more m rest x inside = record {
  head = x.head;
  body = x.body;
  has_head = record {
    end = head_end_less text more x.head (omega arith) x.has_head.end;
    good = subst (λ t. IsGoodHead t m x.body) (take_less text more x.head x.head (omega arith) (omega arith)) x.has_head.good;
  };
  fits = x.fits;
  whole = inside;
  rest_is = refl;
}

-- where all but the last byte is no whole message, a message ends with the last byte
pub ends_with_last : (front last : List ℕ) (m : Said) (rest : List ℕ) → Messages front [] Unfinished → skip_newlines front ≡ front
    → length last ≡ 1 → Begins (front ++ last) m rest → Begins (front ++ last) m []
ends_with_last front last m rest unfinished clean one x =
    ⊎_elim (λ far.
    let whole : length (front ++ last) ≤ x.head + x.body = omega (arith, length-append front last) in
    let none : rest ≡ [] = x.rest_is ∙ drop_all (x.head + x.body) (front ++ last) whole in
    subst (λ r. Begins (front ++ last) m r) none x)
    (λ near. absurd (begins_and_ends Unfinished (begins_less front last m rest x near)
    (subst (λ t. Ends t Unfinished) clean unfinished)))
    (cases_lt (length front) (x.head + x.body))

-- ---- more bytes

take_more : (text more : List ℕ) (k n : ℕ) → k ≤ n → n ≤ length text → take k text ≡ take k (text ++ more)
take_more text more k n below inside = sym (take_less text more k n below inside)

head_end_more : (text more : List ℕ) (n : ℕ) → IsHeadEnd text n → IsHeadEnd (text ++ more) n
head_end_more text more n end = record {
  in_range = omega (arith, end.in_range, length-append text more);
  within = end.within;
  ends = subst (λ t. IsTrue (ends_in_empty_line t)) (take_more text more n n (omega arith) end.in_range) end.ends;
  first = λ k below ends.
      end.first k below (subst (λ t. IsTrue (ends_in_empty_line t)) (take_less text more k n (omega arith) end.in_range) ends);
}

-- a message stays where it stands
begins_more : (text more : List ℕ) (m : Said) (rest : List ℕ) → Begins text m rest → Begins (text ++ more) m (rest ++ more)
begins_more text more m rest x = record {
  head = x.head;
  body = x.body;
  has_head = record {
    end = head_end_more text more x.head x.has_head.end;
    good = subst (λ t. IsGoodHead t m x.body) (take_more text more x.head x.head (omega arith) x.has_head.end.in_range) x.has_head.good;
  };
  fits = x.fits;
  whole = omega (arith, x.whole, length-append text more);
  rest_is = ap (λ r. r ++ more) x.rest_is ∙ sym (drop-append-le (x.head + x.body) text more x.whole);
}

-- ---- what a framer says of a text and its beginning

some_out : (o : Option Said) (P : Said → Type 0) → IsSomeAnd o P → (m : Said) × P m
some_out None P x = absurd x
some_out (Some m) P x = (m, x)

some_to : (o : Option Said) (P Q : Said → Type 0) → ((m : Said) → P m → Q m) → IsSomeAnd o P → IsSomeAnd o Q
some_to None P Q f x = x
some_to (Some m) P Q f x = f m x

-- bytes that were fed to an empty framer
pub first_bytes : (old : Held) (front bytes : List ℕ) → old ≡ new_framer → bytes ≡ old.bytes ++ front → bytes ≡ front
first_bytes old front bytes empty fed = fed ∙ ap (λ (h : Held). h.bytes ++ front) empty

pub first_leads : (front bytes : List ℕ) → bytes ≡ front → Leads front [] bytes
first_leads front bytes e = ap skip_newlines (sym e)

pub fed_leads : (front last old new : List ℕ) → Leads front [] old → new ≡ old ++ last → Leads (front ++ last) [] new
fed_leads front last old new leads fed = subst (λ (n : List ℕ). Leads (front ++ last) [] n) (sym fed) (leads-append front last [] old leads)

-- a message in a beginning has something behind it
pub front_message : (text : List ℕ) (count : ℕ) (held : Held) → skip_newlines text ≡ text → count < length text
    → IsSomeAnd held.found (λ m. Leads (take count text) ([] ++ m ∷ []) held.bytes) → TellsNothing text
front_message text count held clean less x =
    let found = some_out held.found (λ m. Leads (take count text) ([] ++ m ∷ []) held.bytes) x in
    let m = found.0 in
    let after = found.1.0 in
    let here : Begins (take count text) m after = subst (λ t. Begins t m after) (skip_taken count text clean) found.1.1 in
    let whole : Begins text m (after ++ drop count text) =
    subst (λ t. Begins t m (after ++ drop count text)) (take-append-drop count text) (begins_more (take count text) (drop count text) m after here) in
    more_tells text m (after ++ drop count text) (subst (λ t. Begins t m (after ++ drop count text)) (sym clean) whole)
    (λ none. omega (arith, length-append after (drop count text), length-drop count text))

-- a message that ends with the last byte
pub last_message : (front last : List ℕ) (held : Held) → length last ≡ 1 → skip_newlines front ≡ front → skip_newlines (front ++ last) ≡ front ++ last
    → Messages front [] Unfinished → IsSomeAnd held.found (λ m. Leads (front ++ last) ([] ++ m ∷ []) held.bytes)
    → IsSomeAnd held.found (λ m. Begins (front ++ last) m [])
last_message front last held one clean whole unfinished x =
    some_to held.found (λ m. Leads (front ++ last) ([] ++ m ∷ []) held.bytes) (λ m. Begins (front ++ last) m [])
    (λ m y. ends_with_last front last m y.0 unfinished clean one (subst (λ t. Begins t m y.0) whole y.1)) x

-- a beginning that is unfinished is short
pub front_short : (text : List ℕ) (count : ℕ) → skip_newlines text ≡ text → count ≤ length text → Messages (take count text) [] Unfinished → count < 12288
front_short text count clean within x =
    let short = unfinished_short (take count text) (subst (λ t. Ends t Unfinished) (skip_taken count text clean) x) in
    omega (arith, short, length-take count text, within)

pub front_broken : (text : List ℕ) (count : ℕ) (cause : Break) → Messages (take count text) [] (Broken cause) → Messages text [] (Broken cause)
front_broken text count cause x =
    subst (λ t. Messages t [] (Broken cause)) (take-append-drop count text) (broken_stays (take count text) (drop count text) [] cause x)

pub joined_sees : (text : List ℕ) (count : ℕ) (held : Held) (look : Look) → Sees (take count text ++ drop count text) held look → Sees text held look
joined_sees text count held look x = subst (λ t. Sees t held look) (take-append-drop count text) x

-- a text behind its line ends
pub sees_behind : (text : List ℕ) (held : Held) (look : Look) → skip_newlines text ≡ text → Sees (skip_newlines text) held look → Sees text held look
sees_behind text held look clean x = subst (λ t. Sees t held look) clean x

pub whole_behind : (text : List ℕ) (held : Held) → length (skip_newlines text) ≢ length text → IsSomeAnd held.found (λ m. Begins (skip_newlines text) m [])
    → TellsNothing text
whole_behind text held other x =
    let found = some_out held.found (λ m. Begins (skip_newlines text) m []) x in
    behind_newlines_tells text found.0 [] found.1 (λ same. other (ap length same))

-- a text of line ends alone
pub nothing_left : (text : List ℕ) → skip_newlines text ≡ [] → TellsNothing text
nothing_left text none = unfinished_tells text (subst (λ t. Ends t Unfinished) (sym none) (inl (lit< tt, no_empty_line)))

-- the request of what a framer found
pub found_told : {R : Type 0} (o : Option Said) (text : List ℕ) (of : Said → R) (told_of : Told → R) → ((m : Said) → told_of (Whole m) ≡ of m)
    → (r : R) → IsSomeAnd o (λ m. Begins text m []) → IsSomeAnd o (λ m. r ≡ of m) → (told : Told) × Tells text told × (r ≡ told_of told)
found_told None text of told_of same r x y = absurd x
found_told (Some m) text of told_of same r x y = (Whole m, x, y ∙ sym (same m))

-- ---- line ends at the front, by the first byte

pub skip_first : (text : List ℕ) → newline_first text ≡ true → skip_newlines text ≡ skip_newlines (drop 1 text)
skip_first [] e = cc e
skip_first (b ∷ text) e = rw e refl

pub skip_none : (text : List ℕ) → newline_first text ≡ false → skip_newlines text ≡ text
skip_none [] e = refl
skip_none (b ∷ text) e = rw e refl

pub some_first : (text : List ℕ) → newline_first text ≡ true → 1 ≤ length text
some_first [] e = cc e
some_first (b ∷ text) e = omega arith

pub first_tested : (text out : List ℕ) → 1 ≤ length text → out ≡ take 1 text
    → newline_first text ≡ (nat_eq (slice_index_or out 0 0) 13 || nat_eq (slice_index_or out 0 0) 10)
first_tested [] out some e = absurd (omega arith)
first_tested (b ∷ text) out some e = rw e refl

pub no_first : (text : List ℕ) → length text < 1 → false ≡ newline_first text
no_first [] none = refl
no_first (b ∷ text) none = absurd (omega arith)

pub or_first : (v : ℕ) → v ≡ 13 → nat_eq v 13 ≡ (nat_eq v 13 || nat_eq v 10)
or_first v e = rw e refl

or_by : (a b : Bool) → a ≡ false → b ≡ (a || b)
or_by true b e = cc e
or_by false b e = refl

pub or_second : (v : ℕ) → (v ≡ 13 → ⊥) → nat_eq v 10 ≡ (nat_eq v 13 || nat_eq v 10)
or_second v other = let no : nat_eq v 13 ≡ false = grind (arith, nat_tests) in or_by (nat_eq v 13) (nat_eq v 10) no

-- ---- what is left behind line ends

no_bytes : (xs : List ℕ) → length xs ≡ 0 → xs ≡ []
no_bytes [] e = refl
no_bytes (x ∷ xs) e = absurd (omega arith)

pub empty_rest : (text rest : List ℕ) (empty : Bool) → empty ≡ nat_eq (length rest) 0 → empty ≡ true → decode_of rest ≡ Ok text → text ≡ []
empty_rest text rest empty is holds read =
    let none : length rest ≡ 0 = let test : nat_eq (length rest) 0 ≡ true = sym is ∙ holds in grind (arith, nat_tests) in
    no_bytes text (omega (arith, none, length-digits rest text read))

pub two_left : (text rest : List ℕ) (empty : Bool) → empty ≡ nat_eq (length rest) 0 → empty ≡ false → decode_of rest ≡ Ok text → 2 ≤ length rest
two_left text rest empty is fails read =
    let some : length rest ≢ 0 = let test : nat_eq (length rest) 0 ≡ false = sym is ∙ fails in grind (arith, nat_tests) in
    omega (arith, some, length-digits rest text read)

-- what is left has no line end at its front
pub left_clean : (text other rest : List ℕ) → decode_of rest ≡ Ok (skip_newlines text) → decode_of rest ≡ Ok other → skip_newlines other ≡ other
left_clean text other rest left read =
    subst (λ t. skip_newlines t ≡ t) (decode_of-same rest (skip_newlines text) other left read) (skip_newlines_again text)

-- ---- each text says something or nothing

abbrev IsToldOrNot : List ℕ → Type 0
IsToldOrNot text = ((told : Told) × Tells text told) ⊎ TellsNothing text

told_by : (text : List ℕ) (m : Said) (rest : List ℕ) → Begins (skip_newlines text) m rest → (skip_newlines text ≡ text) ⊎ (skip_newlines text ≢ text)
    → IsToldOrNot text
told_by text m rest x (inr begun) = inr (behind_newlines_tells text m rest x begun)
told_by text m [] x (inl clean) = inl (Whole m, subst (λ t. Begins t m []) clean x)
told_by text m (b ∷ rest) x (inl clean) = inr (more_tells text m (b ∷ rest) x (λ e. omega arith))

same_or_not : (text : List ℕ) → (skip_newlines text ≡ text) ⊎ (skip_newlines text ≢ text)
same_or_not text =
    ⊎_elim (λ less. inr λ e. let f = ap length e in omega arith)
    (λ enough. inl (skip_same text (omega (arith, skip_shorter text))))
    (cases_lt (length (skip_newlines text)) (length text))

told_of : (text : List ℕ) (ms : List Said) (t : Tail) → Messages text ms t → IsToldOrNot text
told_of text [] Unfinished x = inr (unfinished_tells text x)
told_of text [] (Broken cause) x = inl (NotWhole cause, x)
told_of text (m ∷ ms) t x = told_by text m x.0 x.1 (same_or_not text)

pub told_or_not : (text : List ℕ) → IsToldOrNot text
told_or_not text = let r = reading_of text in told_of text r.0 r.1 r.2
