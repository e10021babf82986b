-- Each text has messages and a tail: every piece of the grammar can be told from its bytes.
use Rattle.std.proofs.Common.{◌≡◌, ℕ, zero, suc, ◌+◌, ◌<◌, ◌≤◌, ◌⊎◌, Bool, true, false, List, [], ◌∷◌, ◌++◌, length, take, drop, map, refl, sym, ap, ◌∙◌, subst, inl, inr, ⊎_elim, arith, append_assoc, append-nil, length-append, Some, None, Option, IsTrue, flat_map}
use Rattle.std.specs.Char.{is_ascii_graphic}
use Rattle.std.proofs.lemmas.Bool.{cases_lt, cases_eq, cases_Bool}
use Rattle.std.proofs.lemmas.List.Elements.{All-cons, All-nil}
use Rattle.httparse.specs.Ascii.{space}
use Rattle.httparse.specs.Grammar.{AllPass, is_token_byte, is_value_byte, LineEnd, crlf, lf, print_end, Field, print_field, ReadsSection, IsField}
use Rattle.httparse.specs.Pieces.{Piece, Begins as StartsWith, Then, Stops, Word, Newline, Text, FieldLine, FieldLines}
use Rattle.httparse.specs.Spans.{name_and_value}
use Rattle.httparse.proofs.GrammarLemmas.{section_unique}
use Rattle.httparse.proofs.PieceLemmas.{IsDeterministic, Stops-print_end, Section_skip, Section_line, FieldLine_parts, Name_deterministic, colon_ends_token, space_ends_token, print_field-append}
use Rattle.httparse.proofs.ReadLemmas.{FieldLine_done}
use Rattle.httparse.proofs.RunLemmas.{run_unique, run_unstopped}
use Rattle.satip_frame.specs.declared.framing.Break.TheVariants.{Bad, TooLong}
use Rattle.satip_frame.specs.Said.{Said, body_length}
use Rattle.satip_frame.specs.Head.{ends_in_empty_line, HasNoEmptyLine, IsHeadEnd, ReadsHead, IsGoodHead}
use Rattle.satip_frame.specs.Places.{LastWord, Line}
use Rattle.satip_frame.specs.Stream.{Tail, Unfinished, Broken, skip_newlines, HasHead, Begins, Ends, Messages}
use Rattle.satip_frame.proofs.LineLemmas.{Line_deterministic, Method_deterministic, Target_deterministic}
use Rattle.satip_frame.proofs.HeadLemmas.{line_of_head, line_text}
use Rattle.satip_frame.proofs.StreamLemmas.{reads_unique, begins_some, skip_shorter}

-- the text starts with the piece, or it doesn't
abbrev Told : {A : Type 0} → Piece A → List ℕ → Type 0
Told G text = StartsWith G text ⊎ (StartsWith G text → ⊥)

-- ---- runs and words

-- the longest front of bytes that pass the test
record Front (test : ℕ → Bool) (text : List ℕ) : Type 0 where
  run : List ℕ
  rest : List ℕ
  split : text ≡ run ++ rest
  pass : AllPass test run
  stops : (rest ≡ []) ⊎ Stops test rest

front_by : (test : ℕ → Bool) (b : ℕ) (text : List ℕ) (r : Bool) → test b ≡ r → Front test text → Front test (b ∷ text)
front_by test b text true e front = record {
  run = b ∷ front.run;
  rest = front.rest;
  split = ap (λ t. b ∷ t) front.split;
  pass = All-cons (λ v. test v ≡ true) b front.run e front.pass;
  stops = front.stops;
}
front_by test b text false e front =
    record { run = []; rest = b ∷ text; split = refl; pass = All-nil (λ v. test v ≡ true); stops = inr e }

front_of : (test : ℕ → Bool) (text : List ℕ) → Front test text
front_of test [] = record { run = []; rest = []; split = refl; pass = All-nil (λ v. test v ≡ true); stops = inl refl }
front_of test (b ∷ text) = front_by test b text (test b) refl (front_of test text)

-- a run that something stops is the longest front
front_is : (test : ℕ → Bool) (text : List ℕ) (front : Front test text) (w r : List ℕ) → AllPass test w → Stops test r → text ≡ w ++ r
    → (front.run ≡ w) × (front.rest ≡ r)
front_is test text front w r all stops e =
    ⊎_elim (λ none.
    let whole : front.run ≡ w ++ r = sym (append-nil front.run) ∙ ap (λ t. front.run ++ t) (sym none) ∙ sym front.split ∙ e in
    absurd (run_unstopped test w r (subst (AllPass test) whole front.pass) stops))
    (λ stopped. run_unique test front.run w front.rest r front.pass all stopped stops (sym front.split ∙ e))
    front.stops

word_at : (test : ℕ → Bool) (stop : ℕ) → test stop ≡ false → (text run rest : List ℕ) → text ≡ run ++ rest → AllPass test run
    → ((w r : List ℕ) → AllPass test w → text ≡ w ++ stop ∷ r → (run ≡ w) × (rest ≡ stop ∷ r)) → Told (Word test stop) text
word_at test stop fails text [] rest split pass is = inr λ x.
    let none = (is x.0 x.1 x.2.1 x.2.2).0 in omega (arith, x.2.0, ap length none)
word_at test stop fails text (b ∷ run) [] split pass is = inr λ x.
    let same = (is x.0 x.1 x.2.1 x.2.2).1 in cc
word_at test stop fails text (b ∷ run) (c ∷ rest) split pass is =
    ⊎_elim (λ same. inl (b ∷ run, rest, (omega arith, pass, split ∙ ap (λ d. (b ∷ run) ++ d ∷ rest) same)))
    (λ other. inr λ x. let same = (is x.0 x.1 x.2.1 x.2.2).1 in other (cc))
    (cases_eq c stop)

word_told : (test : ℕ → Bool) (stop : ℕ) → test stop ≡ false → (text : List ℕ) → Told (Word test stop) text
word_told test stop fails text =
    let front = front_of test text in
    word_at test stop fails text front.run front.rest front.split front.pass
    (λ w r all e. front_is test text front w (stop ∷ r) all fails e)

-- ---- line ends

newline_neither : (text : List ℕ) → ((r : List ℕ) → text ≡ 13 ∷ 10 ∷ r → ⊥) → ((r : List ℕ) → text ≡ 10 ∷ r → ⊥) → StartsWith Newline text → ⊥
newline_neither text cr nl (crlf, r, e) = cr r e
newline_neither text cr nl (lf, r, e) = nl r e

newline_after_cr : (text : List ℕ) → Told Newline (13 ∷ text)
newline_after_cr [] = inr (newline_neither (13 ∷ []) (λ r e. cc) (λ r e. let no_cr : ◌≡◌ {A = ℕ} 13 10 = cc in omega arith))
newline_after_cr (c ∷ text) =
    ⊎_elim (λ same. inl (crlf, text, ap (λ d. 13 ∷ d ∷ text) same))
    (λ other. inr (newline_neither (13 ∷ c ∷ text) (λ r e. other (cc)) (λ r e. let no_cr : ◌≡◌ {A = ℕ} 13 10 = cc in omega arith)))
    (cases_eq c 10)

newline_told : (text : List ℕ) → Told Newline text
newline_told [] = inr (newline_neither [] (λ r e. cc) (λ r e. cc))
newline_told (b ∷ text) =
    ⊎_elim (λ same. inl (lf, text, ap (λ d. d ∷ text) same))
    (λ not_lf. ⊎_elim (λ same. subst (λ d. Told Newline (d ∷ text)) (sym same) (newline_after_cr text))
    (λ not_cr. inr (newline_neither (b ∷ text) (λ r e. not_cr (cc)) (λ r e. not_lf (cc))))
    (cases_eq b 13))
    (cases_eq b 10)

-- bytes that pass the test, up to the end of their line
abbrev Lined : (ℕ → Bool) → Piece (List ℕ × LineEnd)
Lined test t text rest = AllPass test t.0 × (text ≡ t.0 ++ (print_end t.1 ++ rest))

module _ (test : ℕ → Bool) (cr : test 13 ≡ false) (nl : test 10 ≡ false) where
  lined_is : (text : List ℕ) (front : Front test text) (t : List ℕ × LineEnd) (r : List ℕ) → Lined test t text r
      → (front.run ≡ t.0) × (front.rest ≡ print_end t.1 ++ r)
  lined_is text front t r x = front_is test text front t.0 (print_end t.1 ++ r) x.0 (Stops-print_end test cr nl t.1 r) x.1

  lined_told : (text : List ℕ) → Told (Lined test) text
  lined_told text =
      let front = front_of test text in
      ⊎_elim (λ end. inl ((front.run, end.0), end.1, (front.pass, front.split ∙ ap (λ t. front.run ++ t) end.2)))
      (λ none. inr λ x. none (x.0.1, x.1, (lined_is text front x.0 x.1 x.2).1))
      (newline_told front.rest)

  lined_unique : (text : List ℕ) (s t : List ℕ × LineEnd) (r q : List ℕ) → Lined test s text r → Lined test t text q → s.0 ≡ t.0
  lined_unique text s t r q x y =
      (run_unique test s.0 t.0 _ _ x.0 y.0 (Stops-print_end test cr nl s.1 r) (Stops-print_end test cr nl t.1 q) (sym x.1 ∙ y.1)).0

last_word_told : (text : List ℕ) → Told LastWord text
last_word_told text =
    ⊎_elim (λ x.
    ⊎_elim (λ some.
    ⊎_elim (λ many. inr λ y.
    let same = lined_unique is_ascii_graphic refl refl text x.0 y.0 x.1 y.1 x.2 (y.2.2, y.2.3) in
    omega (arith, y.2.1, ap length same))
    (λ few. inl (x.0, x.1, (some, few, x.2.0, x.2.1)))
    (cases_lt 16 (length x.0.0)))
    (λ none. inr λ y.
    let same = lined_unique is_ascii_graphic refl refl text x.0 y.0 x.1 y.1 x.2 (y.2.2, y.2.3) in
    omega (arith, y.2.0, ap length same))
    (cases_lt 0 (length x.0.0)))
    (λ none. inr λ y. none (y.0, y.1, (y.2.2, y.2.3)))
    (lined_told is_ascii_graphic refl refl text)

-- ---- one piece behind another

then_told : {A B : Type 0} (G : Piece A) (H : Piece B) → IsDeterministic G → ((rest : List ℕ) → Told H rest) → (text : List ℕ)
    → Told G text → Told (Then G H) text
then_told G H one told text (inr none) = inr λ x. none (x.0.0, x.2.0, x.2.1)
then_told G H one told text (inl g) =
    ⊎_elim (λ h. inl ((g.0, h.0), h.1, (g.1, g.2, h.2)))
    (λ none. inr λ x.
    let same = one.unique x.0.0 g.0 text x.2.0 g.1 x.2.1 g.2 in
    none (x.0.1, x.1, subst (λ (m : List ℕ). H x.0.1 m x.1) same.1 x.2.2))
    (told g.1)

line_told : (text : List ℕ) → Told Line text
line_told text =
    then_told (Word is_token_byte space) (Then (Word is_ascii_graphic space) LastWord) Method_deterministic
    (λ rest. then_told (Word is_ascii_graphic space) LastWord Target_deterministic last_word_told rest
    (word_told is_ascii_graphic space refl rest))
    text (word_told is_token_byte space space_ends_token text)

field_told : (text : List ℕ) → Told FieldLine text
field_told text =
    ⊎_elim (λ x. inl (record { name = x.0.0; raw = x.0.1.0; end = x.0.1.1 }, x.1, FieldLine_done x.0.0 x.0.1.0 x.0.1.1 text x.2.0 x.1 x.2.1 x.2.2))
    (λ none. inr λ x. none ((x.0.name, (x.0.raw, x.0.end)), x.1, FieldLine_parts x.0 text x.1 x.2))
    (then_told (Word is_token_byte 58) Text Name_deterministic (lined_told is_value_byte refl refl) text
    (word_told is_token_byte 58 colon_ends_token text))

-- ---- header blocks

-- the text is a header block, the whole of it
abbrev IsBlock : List ℕ → Type 0
IsBlock text = (fields : List Field) × (last : LineEnd) × ReadsSection text fields last []

block_of_end : (text : List ℕ) (last : LineEnd) (rest : List ℕ) → Newline last text rest → IsBlock text ⊎ (IsBlock text → ⊥)
block_of_end text last [] e = inl ([], last, (All-nil IsField, e))
block_of_end text last (c ∷ rest) e = inr λ x.
    let same = section_unique text x.0 [] x.1 last [] (c ∷ rest) x.2 (All-nil IsField, e) in
    let none : [] ≡ c ∷ rest = same.2 in cc

block_with : (f : Field) (text rest : List ℕ) → FieldLine f text rest → IsBlock rest → IsBlock text
block_with f text rest line block = (
  f ∷ block.0,
  block.1,
  (
    All-cons IsField f block.0 line.0 block.2.0,
    line.1 ∙ ap (λ t. print_field f ++ t) block.2.1 ∙ regroup (print_field f) (flat_map print_field block.0) (print_end block.1),
  ),
)
  where
    regroup : (a b c : List ℕ) → a ++ ((b ++ c) ++ []) ≡ ((a ++ b) ++ c) ++ []
    regroup a b c = simp append_assoc

block_without : (f : Field) (text rest : List ℕ) → FieldLine f text rest → (IsBlock rest → ⊥) → IsBlock text → ⊥
block_without f text rest line none block =
    let skipped = Section_skip (f ∷ []) block.0 block.1 text rest [] (one_line f text rest line) block.2 in
    none (skipped.0, block.1, skipped.2)
  where
    one_line : (f : Field) (text rest : List ℕ) → FieldLine f text rest → FieldLines (f ∷ []) text rest
    one_line f text rest line =
        (All-cons IsField f [] line.0 (All-nil IsField), line.1 ∙ ap (λ t. t ++ rest) (sym (append-nil (print_field f))))

field_takes : (f : Field) (text rest : List ℕ) → FieldLine f text rest → length rest < length text
field_takes f text rest line =
    let e : length text ≡ length (f.name ++ 58 ∷ (f.raw ++ (print_end f.end ++ rest))) = ap length (line.1 ∙ print_field-append f rest) in
    omega (arith, simp length-append at e)

block_at : (text : List ℕ) → Told Newline text → Told FieldLine text → ((rest : List ℕ) → length rest < length text → IsBlock rest ⊎ (IsBlock rest → ⊥))
    → IsBlock text ⊎ (IsBlock text → ⊥)
block_at text (inl end) field later = block_of_end text end.0 end.1 end.2
block_at text (inr no_end) (inr no_field) later = inr λ x.
    ⊎_elim (λ end. no_end end) (λ field. no_field field) (Section_line (x.0, x.1) text [] x.2)
block_at text (inr no_end) (inl field) later =
    ⊎_elim (λ block. inl (block_with field.0 text field.1 field.2 block))
    (λ none. inr (block_without field.0 text field.1 field.2 none))
    (later field.1 (field_takes field.0 text field.1 field.2))

block_told_in : (fuel : ℕ) (text : List ℕ) → length text < fuel → IsBlock text ⊎ (IsBlock text → ⊥)
block_told_in zero text short = absurd (omega arith)
block_told_in (suc fuel) text short =
    block_at text (newline_told text) (field_told text) (λ rest shorter. block_told_in fuel rest (omega arith))

block_told : (text : List ℕ) → IsBlock text ⊎ (IsBlock text → ⊥)
block_told text = block_told_in (length text + 1) text (omega arith)

-- ---- heads

abbrev IsGood : List ℕ → Type 0
IsGood head = (m : Said) × (n : ℕ) × IsGoodHead head m n

-- a head of so many headers gives a length of its body, or none
with_body : (head : List ℕ) (m : Said) (o : Option ℕ) → ReadsHead head m → body_length m.headers ≡ o → IsGood head ⊎ (IsGood head → ⊥)
with_body head m (Some n) reads body = inl (m, n, record { reads = reads; body = body })
with_body head m None reads body = inr λ x.
    let same = reads_unique x.2.reads reads in
    let none : Some x.1 ≡ None = sym x.2.body ∙ ap (λ (k : Said). body_length k.headers) same ∙ body in cc

-- a first line and a block
with_block : (head : List ℕ) (m t v : List ℕ) (e : LineEnd) (block : List ℕ) → Line (m, (t, (v, e))) head block → IsBlock block
    → IsGood head ⊎ (IsGood head → ⊥)
with_block head m t v e block line (fields, last, section) =
    ⊎_elim (λ many. inr λ x.
    let same = Line_deterministic.unique (x.0.method, (x.0.target, (x.0.version, x.2.reads.line_end))) (m, (t, (v, e))) head x.2.reads.block block
    (line_of_head x.2.reads) line in
    let fields_same = (section_unique block x.2.reads.fields fields x.2.reads.last last [] []
    (subst (λ b. ReadsSection b x.2.reads.fields x.2.reads.last []) same.1 x.2.reads.section) section).0 in
    omega (arith, x.2.reads.few, ap length fields_same))
    (λ few.
    let said : Said = record { method = m; target = t; version = v; headers = map name_and_value fields } in
    let reads : ReadsHead head said = record {
      method = (line.1.0, line.1.1);
      target = (line.2.1.0, line.2.1.1);
      version = (line.2.2.0, line.2.2.2);
      version_short = line.2.2.1;
      line_end = e;
      block = block;
      text = line_text m t v e head block line;
      fields = fields;
      last = last;
      section = section;
      few = few;
      headers = refl;
    } in
    with_body head said (body_length (map name_and_value fields)) reads refl)
    (cases_lt 64 (length fields))

good_told : (head : List ℕ) → IsGood head ⊎ (IsGood head → ⊥)
good_told head =
    ⊎_elim (λ line.
    ⊎_elim (λ block. with_block head line.0.0 line.0.1.0 line.0.1.1.0 line.0.1.1.1 line.1 line.2 block)
    (λ none. inr λ x.
    let same = Line_deterministic.unique (x.0.method, (x.0.target, (x.0.version, x.2.reads.line_end))) line.0 head x.2.reads.block line.1
    (line_of_head x.2.reads) line.2 in
    none (x.2.reads.fields, x.2.reads.last, subst (λ b. ReadsSection b x.2.reads.fields x.2.reads.last []) same.1 x.2.reads.section))
    (block_told line.1))
    (λ none. inr λ x. none (_, _, line_of_head x.2.reads))
    (line_told head)

-- ---- where a head ends

-- the first empty line of the first n bytes
record FirstEnd (text : List ℕ) (n : ℕ) : Type 0 where
  at : ℕ
  within : at ≤ n
  ends : IsTrue (ends_in_empty_line (take at text))
  first : (k : ℕ) → k < at → IsTrue (ends_in_empty_line (take k text)) → ⊥

pub no_line_first : (text : List ℕ) (k : ℕ) → k ≤ 0 → IsTrue (ends_in_empty_line (take k text)) → ⊥
no_line_first text k none ends =
    let zero_is : k ≡ 0 = omega arith in
    let at_zero : false ≡ true = subst (λ j. IsTrue (ends_in_empty_line (take j text))) zero_is ends in cc

one_line_more : (text : List ℕ) (n : ℕ) → HasNoEmptyLine n text → ends_in_empty_line (take (suc n) text) ≡ false
    → HasNoEmptyLine (suc n) text
one_line_more text n none last k below ends =
    ⊎_elim (λ less. none k (omega arith) ends)
    (λ more.
    let same : k ≡ suc n = omega arith in
    let here : ends_in_empty_line (take (suc n) text) ≡ true = subst (λ j. IsTrue (ends_in_empty_line (take j text))) same ends in
    let both : true ≡ false = sym here ∙ last in cc)
    (cases_lt k (suc n))

find_end_more : (text : List ℕ) (n : ℕ) → FirstEnd text n ⊎ HasNoEmptyLine n text → FirstEnd text (suc n) ⊎ HasNoEmptyLine (suc n) text
find_end_more text n (inl found) = inl (record { at = found.at; within = omega (arith, found.within); ends = found.ends; first = found.first })
find_end_more text n (inr none) =
    ⊎_elim (λ ends. inl (record { at = suc n; within = omega arith; ends = ends; first = λ k below e. none k (omega arith) e }))
    (λ last. inr (one_line_more text n none last))
    (cases_Bool (ends_in_empty_line (take (suc n) text)))

find_end : (text : List ℕ) (n : ℕ) → FirstEnd text n ⊎ HasNoEmptyLine n text
find_end text zero = inr (no_line_first text)
find_end text (suc n) = find_end_more text n (find_end text n)

-- ---- texts

abbrev Front_of : List ℕ → Type 0
Front_of text = ((m : Said) × (rest : List ℕ) × Begins text m rest) ⊎ ((t : Tail) × Ends text t)

with_good : (text : List ℕ) (head : ℕ) → IsHeadEnd text head → IsGood (take head text) → Front_of text
with_good text head end (m, body, good) =
    let has : HasHead text head m body = record { end = end; good = good } in
    ⊎_elim (λ long. inr (Broken TooLong, (head, m, body, has, long)))
    (λ fits.
    ⊎_elim (λ short. inr (Unfinished, inr (head, m, body, has, fits, short)))
    (λ whole. inl (m, drop (head + body) text, record { head = head; body = body; has_head = has; fits = fits; whole = whole; rest_is = refl }))
    (cases_lt (length text) (head + body)))
    (cases_lt 4096 body)

with_end : (text : List ℕ) (head : ℕ) → IsHeadEnd text head → Front_of text
with_end text head end =
    ⊎_elim (λ good. with_good text head end good)
    (λ bad. inr (Broken Bad, inr (head, end, λ m n good. bad (m, n, good))))
    (good_told (take head text))

head_end_from : (text : List ℕ) (n : ℕ) (found : FirstEnd text n) → n ≤ length text → n ≤ 8192 → IsHeadEnd text found.at
head_end_from text n found inside most =
    record { in_range = omega (arith, found.within); within = omega (arith, found.within); ends = found.ends; first = found.first }

front_told : (text : List ℕ) → Front_of text
front_told text =
    ⊎_elim (λ short.
    ⊎_elim (λ found. with_end text found.at (head_end_from text (length text) found (omega arith) (omega arith)))
    (λ none. inr (Unfinished, inl (short, none)))
    (find_end text (length text)))
    (λ long.
    ⊎_elim (λ found. with_end text found.at (head_end_from text 8192 found long (omega arith)))
    (λ none. inr (Broken Bad, inl (long, none)))
    (find_end text 8192))
    (cases_lt (length text) 8192)

abbrev Reading : List ℕ → Type 0
Reading text = (ms : List Said) × (t : Tail) × Messages text ms t

reading_at : (text : List ℕ) → Front_of (skip_newlines text) → ((rest : List ℕ) → length rest < length text → Reading rest) → Reading text
reading_at text (inr (t, ends)) later = ([], t, ends)
reading_at text (inl (m, rest, begins)) later =
    let others = later rest (omega (arith, begins_some begins, skip_shorter text)) in
    (m ∷ others.0, others.1, (rest, begins, others.2))

reading_in : (fuel : ℕ) (text : List ℕ) → length text < fuel → Reading text
reading_in zero text short = absurd (omega arith)
reading_in (suc fuel) text short =
    reading_at text (front_told (skip_newlines text)) (λ rest shorter. reading_in fuel rest (omega arith))

-- each text has messages and a tail
pub reading_of : (text : List ℕ) → Reading text
reading_of text = reading_in (length text + 1) text (omega arith)
