-- A header block that is cut short: the shortest bytes that end it, if any do.
use Rattle.std.proofs.Common.{◌≡◌, ◌⊎◌, inl, inr, ℕ, ◌+◌, ◌<◌, ◌≤◌, Bool, true, false, IsTrue, List, [], ◌∷◌, ◌++◌, length, Some, refl, sym, ap, ◌∙◌, subst, arith, append_assoc, append-nil, length-append}
use Rattle.std.specs.List.{All, flat_map}
use Rattle.std.specs.Str.{str_eq_ignore_ascii_case}
use Rattle.std.specs.Str.Parse.{digits_value}
use Rattle.std.proofs.lemmas.List.Elements.{All-head, All-tail, All-push, All-nil, All-append}
use Rattle.httparse.specs.Grammar.{AllPass, is_token_byte, is_value_byte, trim_ows, LineEnd, crlf, lf, print_end, Field, IsField, IsToken, print_field, print_section}
use Rattle.httparse.proofs.GrammarLemmas.{cons-append}
use Rattle.httparse.proofs.OpenLemmas.{letter_is_token}
use Rattle.satip_base.specs.Numbers.{number_of}
use Rattle.satip_frame.specs.Said.{most}
use Rattle.satip_client.proofs.Cuts.{IsInside, cut, inside-front, inside-shorter}
use Rattle.satip_client.proofs.Values.{length_name, lengths, lengths-append, IsLength, length-before, length-other, length-only, length-with, longer-name, AreDigits, number-digits, digits-number, trims, value-cut, blank-digit}

-- what can follow a block that is cut short: the empty line, or the rest of a field and the empty line
pub data Ending : Type 0 where
  empty_line after_line after_name after_blanks after_length : Ending

abbrev pub print_ending : Ending → List ℕ
print_ending empty_line = 10 ∷ []
print_ending after_line = 10 ∷ 10 ∷ []
print_ending after_name = 58 ∷ 10 ∷ 10 ∷ []
print_ending after_blanks = 48 ∷ 10 ∷ 10 ∷ []
print_ending after_length = 65 ∷ 58 ∷ 10 ∷ 10 ∷ []

-- the text and an ending are a block of at most `count` fields and `limit` bytes, which announces a length behind the fields before it
pub record Closes (text : List ℕ) (before : List Field) (count limit : ℕ) : Type 0 where
  pub ending : Ending
  pub fields : List Field
  pub last : LineEnd
  pub reads : text ++ print_ending ending ≡ print_section fields last
  pub all : All IsField fields
  pub few : length fields ≤ count
  pub length_is : IsLength (lengths (before ++ fields))
  pub short : length (text ++ print_ending ending) ≤ limit

-- a line end that is cut short
pub record ClosesLine (text : List ℕ) : Type 0 where
  pub end : LineEnd
  pub reads : text ++ 10 ∷ [] ≡ print_end end

close-cr : (x : ℕ) (xs : List ℕ) (i : IsInside (x ∷ xs) (13 ∷ 10 ∷ [])) → ClosesLine (x ∷ xs)
close-cr x [] i = let same : x ≡ 13 = cc (i.is) in record { end = crlf; reads = ap (λ b. b ∷ 10 ∷ []) same }
close-cr x (y ∷ ys) i = absurd (omega (arith, inside-shorter (x ∷ y ∷ ys) (13 ∷ 10 ∷ []) i))

pub close-line : (text : List ℕ) (end : LineEnd) → IsInside text (print_end end) → ClosesLine text
close-line [] end i = record { end = lf; reads = refl }
close-line (x ∷ xs) crlf i = close-cr x xs i
close-line (x ∷ xs) lf i = absurd (omega (arith, inside-shorter (x ∷ xs) (10 ∷ []) i))

pub end-length : (end : LineEnd) → 1 ≤ length (print_end end)
end-length crlf = omega arith
end-length lf = omega arith

-- one more field, and the empty line
with-field : (text : List ℕ) (before : List Field) (count limit : ℕ) (ending : Ending) (g : Field)
    → text ++ print_ending ending ≡ print_field g ++ 10 ∷ [] → IsField g → IsLength (lengths (before ++ g ∷ []))
    → 1 ≤ count → length (text ++ print_ending ending) ≤ limit → Closes text before count limit
with-field text before count limit ending g e field l some short = record {
  ending = ending;
  fields = g ∷ [];
  last = lf;
  reads = e ∙ ap (λ (t : List ℕ). t ++ 10 ∷ []) (sym (append-nil (print_field g)));
  all = All-push IsField [] g (All-nil IsField) field;
  few = omega arith;
  length_is = l;
  short = short;
}

-- the empty line alone
with-none : (before gs : List Field) (count limit : ℕ) → IsLength (lengths (before ++ gs)) → 1 ≤ limit → Closes [] before count limit
with-none before gs count limit l some = record {
  ending = empty_line;
  fields = [];
  last = lf;
  reads = refl;
  all = All-nil IsField;
  few = omega arith;
  length_is = subst (λ fs. IsLength (lengths fs)) (sym (append-nil before)) (length-before before gs l);
  short = some;
}

no-bytes : AllPass is_value_byte []
no-bytes = All-nil (λ b. IsTrue (is_value_byte b))

true_or_false : (b : Bool) → (b ≡ true) ⊎ (b ≡ false)
true_or_false true = inl refl
true_or_false false = inr refl

regroup : (name raw end : List ℕ) → (name ++ 58 ∷ raw) ++ end ≡ name ++ (58 ∷ (raw ++ end))
regroup name raw end = simp (append_assoc, cons-append)

pub print_field-length : (f : Field) → length (print_field f) ≡ length f.name + 1 + length f.raw + length (print_end f.end)
print_field-length f =
    ap length (regroup f.name f.raw (print_end f.end)) ∙ length-append f.name (58 ∷ (f.raw ++ print_end f.end))
    ∙ omega (arith, length-append f.raw (print_end f.end))

-- a name that nothing follows yet, which may be a beginning
name-line : (name : List ℕ) → name ++ 58 ∷ 10 ∷ 10 ∷ [] ≡ ((name ++ 58 ∷ []) ++ 10 ∷ []) ++ 10 ∷ []
name-line name = simp (append_assoc, cons-append)

longer-line : (name : List ℕ) → name ++ 65 ∷ 58 ∷ 10 ∷ 10 ∷ [] ≡ (((name ++ 65 ∷ []) ++ 58 ∷ []) ++ 10 ∷ []) ++ 10 ∷ []
longer-line name = simp (append_assoc, cons-append)

in-name : (name : List ℕ) (before gs : List Field) (count limit : ℕ) → IsToken name → IsLength (lengths (before ++ gs))
    → 1 ≤ count → length name + 3 ≤ limit
    → (str_eq_ignore_ascii_case name length_name ≡ true → length name + 4 ≤ limit) → Closes name before count limit
in-name name before gs count limit token l some fits fits_more = elim (true_or_false (str_eq_ignore_ascii_case name length_name)) [
  | inl named ↦
      let g : Field = record { name = name ++ 65 ∷ []; raw = []; end = lf } in
      let all : AllPass is_token_byte (name ++ 65 ∷ []) = All-push (λ b. IsTrue (is_token_byte b)) name 65 token.1 letter_is_token in
      let long : 0 < length (name ++ 65 ∷ []) = omega (arith, length-append name (65 ∷ [])) in
      with-field name before count limit after_length g (longer-line name) (record { name = (long, all); raw = no-bytes })
      (length-other before gs g (longer-name name 65 named) l) some (omega (arith, fits_more named, length-append name (print_ending after_length)))
  | inr other ↦
      let g : Field = record { name = name; raw = []; end = lf } in
      with-field name before count limit after_name g (name-line name) (record { name = token; raw = no-bytes })
      (length-other before gs g other l) some (omega (arith, length-append name (print_ending after_name)))
]

-- a value that is cut short
value-line : (name raw : List ℕ) → (name ++ 58 ∷ raw) ++ 10 ∷ 10 ∷ [] ≡ ((name ++ 58 ∷ raw) ++ 10 ∷ []) ++ 10 ∷ []
value-line name raw = simp (append_assoc, cons-append)

digit-line : (name raw : List ℕ) → (name ++ 58 ∷ raw) ++ 48 ∷ 10 ∷ 10 ∷ [] ≡ ((name ++ 58 ∷ (raw ++ 48 ∷ [])) ++ 10 ∷ []) ++ 10 ∷ []
digit-line name raw = simp (append_assoc, cons-append)

value-length : (name raw w : List ℕ) → length ((name ++ 58 ∷ raw) ++ w) ≡ length name + 1 + length raw + length w
value-length name raw w = omega (arith, length-append (name ++ 58 ∷ raw) w, length-append name (58 ∷ raw))

pub number_is : (bytes : List ℕ) → AreDigits bytes → (n : ℕ) → number_of most bytes ≡ Some n → digits_value 10 bytes ≡ n
number_is bytes d n e = (number-digits bytes n e).1

in-value : (start : List ℕ) (f : Field) (before gs : List Field) (count limit : ℕ) → IsField f → IsInside start f.raw
    → IsLength (lengths (before ++ f ∷ gs)) → 1 ≤ count → length f.name + length f.raw + 3 ≤ limit
    → Closes (f.name ++ 58 ∷ start) before count limit
in-value start f before gs count limit field inside l some fits =
    let text = f.name ++ 58 ∷ start in
    let shorter = inside-shorter start f.raw inside in
    let raw : AllPass is_value_byte start = inside-front (λ b. IsTrue (is_value_byte b)) start f.raw inside field.raw in
    let line_fits : length (text ++ print_ending after_line) ≤ limit = omega (arith, value-length f.name start (print_ending after_line)) in
    let g : Field = record { name = f.name; raw = start; end = lf } in
    let is_field : IsField g = record { name = field.name; raw = raw } in
    elim (true_or_false (str_eq_ignore_ascii_case f.name length_name)) [
      | inr other ↦
          with-field text before count limit after_line g (value-line f.name start) is_field (length-other before (f ∷ gs) g other l) some line_fits
      | inl named ↦
          let o = length-only before f gs named l in
          let d = number-digits (trim_ows f.raw) o.number o.is in
          elim (value-cut start f.raw inside d.0) [
            | inl blank ↦
                let h : Field = record { name = f.name; raw = start ++ 48 ∷ []; end = lf } in
                let bytes : AllPass is_value_byte (start ++ 48 ∷ []) = All-push (λ b. IsTrue (is_value_byte b)) start 48 raw refl in
                with-field text before count limit after_blanks h (digit-line f.name start) (record { name = field.name; raw = bytes })
                (length-with before h named (record { none = o.none; number = 0; is = blank-digit start blank; short = omega arith })) some
                (omega (arith, value-length f.name start (print_ending after_blanks)))
            | inr smaller ↦
                with-field text before count limit after_line g (value-line f.name start) is_field
                (length-with before g named (record {
                  none = o.none;
                  number = digits_value 10 (trim_ows start);
                  is = digits-number (trim_ows start) smaller.digits;
                  short = omega (arith, smaller.less, d.1, o.short);
                })) some line_fits
          ]
    ]

-- the end of a line that is cut short
end-line : (name raw over end : List ℕ) → over ++ 10 ∷ [] ≡ end
    → (name ++ 58 ∷ (raw ++ over)) ++ 10 ∷ 10 ∷ [] ≡ ((name ++ 58 ∷ raw) ++ end) ++ 10 ∷ []
end-line name raw over end e =
    regroup-more name raw over ∙ ap (λ (t : List ℕ). ((name ++ 58 ∷ raw) ++ t) ++ 10 ∷ []) e
  where
    regroup-more : (name raw over : List ℕ)
        → (name ++ 58 ∷ (raw ++ over)) ++ 10 ∷ 10 ∷ [] ≡ ((name ++ 58 ∷ raw) ++ (over ++ 10 ∷ [])) ++ 10 ∷ []
    regroup-more name raw over = simp (append_assoc, cons-append)

in-end : (over : List ℕ) (f : Field) (before gs : List Field) (count limit : ℕ) → IsField f → IsInside over (print_end f.end)
    → IsLength (lengths (before ++ f ∷ gs)) → 1 ≤ count → length (print_field f) + 1 ≤ limit
    → Closes (f.name ++ 58 ∷ (f.raw ++ over)) before count limit
in-end over f before gs count limit field inside l some fits =
    let c = close-line over f.end inside in
    let g : Field = record { name = f.name; raw = f.raw; end = c.end } in
    let shorter = inside-shorter over (print_end f.end) inside in
    let size : length (f.name ++ 58 ∷ (f.raw ++ over) ++ print_ending after_line) ≤ limit =
    omega (arith, value-length f.name (f.raw ++ over) (print_ending after_line), length-append f.raw over, print_field-length f) in
    with-field (f.name ++ 58 ∷ (f.raw ++ over)) before count limit after_line g (end-line f.name f.raw over (print_end c.end) c.reads)
    (record { name = field.name; raw = field.raw })
    (subst IsLength (lengths-append before (f ∷ []) ∙ sym (lengths-append before (g ∷ []))) (length-front-one before f gs l)) some size
  where
    length-front-one : (before : List Field) (f : Field) (gs : List Field) → IsLength (lengths (before ++ f ∷ gs)) → IsLength (lengths (before ++ f ∷ []))
    length-front-one before f gs l =
        length-before (before ++ f ∷ []) gs (subst (λ fs. IsLength (lengths fs)) (sym (append_assoc before (f ∷ []) gs)) l)

-- a name with all that is behind it missing
after-name : (f : Field) (before gs : List Field) (count limit : ℕ) → IsField f → IsLength (lengths (before ++ f ∷ gs))
    → 1 ≤ count → length (print_field f) + 1 ≤ limit → Closes f.name before count limit
after-name f before gs count limit field l some fits =
    let size = print_field-length f in
    let end = end-length f.end in
    in-name f.name before (f ∷ gs) count limit field.name l some (omega arith) (λ named.
    let o = length-only before f gs named l in
    let d = number-digits (trim_ows f.raw) o.number o.is in
    omega (arith, d.0.some, value-shorter f.raw))
  where
    value-shorter : (raw : List ℕ) → length (trim_ows raw) ≤ length raw
    value-shorter raw =
        let t = trims raw in
        omega (arith, ap length t.is, length-append t.front (trim_ows raw ++ t.back), length-append (trim_ows raw) t.back)

behind-colon : (start : List ℕ) (f : Field) (byte : ℕ) (left : List ℕ) (before gs : List Field) (count limit : ℕ) → IsField f
    → start ++ byte ∷ left ≡ f.raw ++ print_end f.end → IsLength (lengths (before ++ f ∷ gs)) → 1 ≤ count → length (print_field f) + 1 ≤ limit
    → Closes (f.name ++ 58 ∷ start) before count limit
behind-colon start f byte left before gs count limit field e l some fits =
    let size = print_field-length f in
    let end = end-length f.end in
    elim (cut start (byte ∷ left) f.raw (print_end f.end) e) [
      | inl inside ↦ in-value start f before gs count limit field inside l some (omega arith)
      | inr behind ↦
          let cut_end : IsInside behind.over (print_end f.end) = record { byte = byte; left = left; is = sym behind.rest } in
          subst (λ (t : List ℕ). Closes (f.name ++ 58 ∷ t) before count limit) (sym behind.is)
          (in-end behind.over f before gs count limit field cut_end l some fits)
    ]

behind-name : (over : List ℕ) (f : Field) (byte : ℕ) (left : List ℕ) (before gs : List Field) (count limit : ℕ) → IsField f
    → over ++ byte ∷ left ≡ 58 ∷ (f.raw ++ print_end f.end) → IsLength (lengths (before ++ f ∷ gs)) → 1 ≤ count → length (print_field f) + 1 ≤ limit
    → Closes (f.name ++ over) before count limit
behind-name [] f byte left before gs count limit field e l some fits =
    subst (λ (t : List ℕ). Closes t before count limit) (sym (append-nil f.name)) (after-name f before gs count limit field l some fits)
behind-name (b ∷ start) f byte left before gs count limit field e l some fits =
    let colon : b ≡ 58 = cc in
    subst (λ (c : ℕ). Closes (f.name ++ c ∷ start) before count limit) (sym colon)
    (behind-colon start f byte left before gs count limit field (cc) l some fits)

-- a field line that is cut short
in-field : (text : List ℕ) (f : Field) (before gs : List Field) (count limit : ℕ) → IsField f → IsInside text (print_field f)
    → IsLength (lengths (before ++ f ∷ gs)) → 1 ≤ count → length (print_field f) + 1 ≤ limit → Closes text before count limit
in-field [] f before gs count limit field inside l some fits = with-none before (f ∷ gs) count limit l (omega arith)
in-field (t ∷ ts) f before gs count limit field inside l some fits =
    let text = t ∷ ts in
    let size = print_field-length f in
    let end = end-length f.end in
    elim (cut text (inside.byte ∷ inside.left) f.name (58 ∷ (f.raw ++ print_end f.end)) (sym inside.is ∙ regroup f.name f.raw (print_end f.end))) [
      | inl in_name ↦
          let shorter = inside-shorter text f.name in_name in
          let all : AllPass is_token_byte text = inside-front (λ b. IsTrue (is_token_byte b)) text f.name in_name field.name.1 in
          in-name text before (f ∷ gs) count limit (omega arith, all) l some (omega arith) (λ _. omega arith)
      | inr behind ↦
          subst (λ (x : List ℕ). Closes x before count limit) (sym behind.is)
          (behind-name behind.over f inside.byte inside.left before gs count limit field behind.rest l some fits)
    ]

section-cons : (f : Field) (fs : List Field) (last : LineEnd) (rest : List ℕ)
    → print_section (f ∷ fs) last ++ rest ≡ print_field f ++ (print_section fs last ++ rest)
section-cons f fs last rest = shift (print_field f) (flat_map print_field fs) (print_end last) rest
  where
    shift : (a b c d : List ℕ) → ((a ++ b) ++ c) ++ d ≡ a ++ ((b ++ c) ++ d)
    shift a b c d = simp append_assoc

section-length : (f : Field) (fs : List Field) (last : LineEnd)
    → length (print_section (f ∷ fs) last) ≡ length (print_field f) + length (print_section fs last)
section-length f fs last =
    ap length (append_assoc (print_field f) (flat_map print_field fs) (print_end last)) ∙ length-append (print_field f) (print_section fs last)

section-some : (fs : List Field) (last : LineEnd) → 1 ≤ length (print_section fs last)
section-some fs last = omega (arith, length-append (flat_map print_field fs) (print_end last), end-length last)

-- the fields before the one that is cut short
one-more : (f : Field) (over : List ℕ) (before : List Field) (count limit : ℕ) → IsField f → Closes over (before ++ f ∷ []) count limit
    → Closes (print_field f ++ over) before (count + 1) (length (print_field f) + limit)
one-more f over before count limit field c = record {
  ending = c.ending;
  fields = f ∷ c.fields;
  last = c.last;
  reads = append_assoc (print_field f) over (print_ending c.ending) ∙ ap (λ (t : List ℕ). print_field f ++ t) c.reads
      ∙ sym (append_assoc (print_field f) (flat_map print_field c.fields) (print_end c.last));
  all = All-append IsField (f ∷ []) c.fields (All-push IsField [] f (All-nil IsField) field) c.all;
  few = omega (arith, c.few);
  length_is = subst (λ fs. IsLength (lengths fs)) (append_assoc before (f ∷ []) c.fields) c.length_is;
  short = omega (
    arith,
    c.short,
    ap length (append_assoc (print_field f) over (print_ending c.ending)),
    length-append (print_field f) (over ++ print_ending c.ending),
  );
}

pub closes : (fs : List Field) (before : List Field) (last : LineEnd) (text more rest : List ℕ) → text ++ more ≡ print_section fs last ++ rest
    → length text < length (print_section fs last) → All IsField fs → IsLength (lengths (before ++ fs))
    → Closes text before (length fs) (length (print_section fs last))
closes [] before last text more rest e short all l = elim (cut text more (print_end last) rest e) [
  | inl inside ↦
      let c = close-line text last inside in record {
        ending = empty_line;
        fields = [];
        last = c.end;
        reads = c.reads;
        all = All-nil IsField;
        few = omega arith;
        length_is = l;
        short = omega (arith, inside-shorter text (print_end last) inside, length-append text (10 ∷ []));
      }
  | inr behind ↦ absurd (omega (arith, ap length behind.is, length-append (print_end last) behind.over))
]
closes (f ∷ fs) before last text more rest e short all l =
    let size = section-length f fs last in
    let field = All-head IsField f fs all in
    elim (cut text more (print_field f) (print_section fs last ++ rest) (e ∙ section-cons f fs last rest)) [
      | inl inside ↦
          in-field text f before fs (length (f ∷ fs)) (length (print_section (f ∷ fs) last)) field inside l (omega arith)
          (omega (arith, section-some fs last))
      | inr behind ↦
          let below : length behind.over < length (print_section fs last) =
          omega (arith, ap length behind.is, length-append (print_field f) behind.over) in
          let c = closes fs (before ++ f ∷ []) last behind.over more rest behind.rest below (All-tail IsField f fs all)
          (subst (λ hs. IsLength (lengths hs)) (sym (append_assoc before (f ∷ []) fs)) l) in
          let n : length fs + 1 ≡ length (f ∷ fs) = omega arith in
          let t = one-more f behind.over before (length fs) (length (print_section fs last)) field c in
          subst (λ (x : List ℕ). Closes x before (length (f ∷ fs)) (length (print_section (f ∷ fs) last))) (sym behind.is)
          (subst (λ (k : ℕ). Closes (print_field f ++ behind.over) before (length (f ∷ fs)) k) (sym size)
          (subst (λ (k : ℕ). Closes (print_field f ++ behind.over) before k (length (print_field f) + length (print_section fs last))) n t))
    ]
