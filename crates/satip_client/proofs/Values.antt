-- The length of the body that a header block announces, where its last field is cut short.
use Rattle.std.proofs.Common.{◌≡◌, ◌⊎◌, inl, inr, ℕ, ◌≤◌, ◌&&◌, nat_le, Bool, true, false, IsTrue, if◌then◌else◌, List, [], ◌∷◌, ◌++◌, length, reverse, map, filter, Some, None, codes, refl, sym, ap, ◌∙◌, subst, arith, append-nil, length-append}
use Rattle.std.specs.Char.{is_ascii_digit, to_ascii_lowercase}
use Rattle.std.specs.List.{list_all}
use Rattle.std.specs.Str.{str_eq_ignore_ascii_case, str_to_ascii_lowercase}
use Rattle.std.specs.Str.Parse.{digits_value}
use Rattle.std.proofs.lemmas.Bool.Decides.{nat_tests}
use Rattle.std.proofs.lemmas.List.{map-append, length-map, length-reverse, reverse-append, reverse-reverse, take_at}
use Rattle.std.proofs.lemmas.List.Elements.{filter-append, All-head, All-tail, All-push, All-nil, All-append}
use Rattle.std.proofs.lemmas.List.Folds.{list_all-append}
use Rattle.std.proofs.lemmas.List.Sums.{AllPass-from_list_all}
use Rattle.std.proofs.lemmas.Slice.Eq.{bytes_eq-Decides}
use Rattle.std.proofs.lemmas.Str.Parse.{digits_value-take-le}
use Rattle.std.proofs.lemmas.Bool.{false_from_ne_true, and_parts}
use Rattle.httparse.specs.Grammar.{AllPass, is_ows, skip_ows, trim_ows, Field, field_value}
use Rattle.httparse.specs.Spans.{name_and_value}
use Rattle.httparse.proofs.TrimLemmas.{AllPass-reverse}
use Rattle.satip_base.specs.Numbers.{are_digits, number_of}
use Rattle.satip_frame.specs.Said.{is_named, values_of, most, length_from}
use Rattle.satip_client.proofs.Cuts.{cut, All-front, inside-front, IsInside}

abbrev pub length_name : List ℕ
length_name = codes "Content-Length"

-- the values of Content-Length
abbrev pub lengths : List Field → List (List ℕ)
lengths fields = values_of length_name (map name_and_value fields)

pub lengths-append : (fs gs : List Field) → lengths (fs ++ gs) ≡ lengths fs ++ lengths gs
lengths-append fs gs =
    ap (λ hs. values_of length_name hs) (map-append name_and_value fs gs)
    ∙ ap (λ (hs : List (List ℕ × List ℕ)). map (λ h. h.1) hs) (filter-append (is_named length_name) (map name_and_value fs) (map name_and_value gs))
    ∙ map-append (λ (h : List ℕ × List ℕ). h.1) (filter (is_named length_name) (map name_and_value fs)) (filter (is_named length_name) (map name_and_value gs))

one-value : (b : Bool) (v : Bool) (h : List ℕ × List ℕ) → b ≡ v
    → map (λ (x : List ℕ × List ℕ). x.1) (if b then h ∷ [] else []) ≡ (if v then h.1 ∷ [] else [])
one-value true true h e = refl
one-value true false h e = absurd (grind (arith, nat_tests))
one-value false true h e = absurd (grind (arith, nat_tests))
one-value false false h e = refl

-- the values of one field
pub lengths-one : (f : Field) (named : Bool) → str_eq_ignore_ascii_case f.name length_name ≡ named
    → lengths (f ∷ []) ≡ (if named then field_value f ∷ [] else [])
lengths-one f named e = one-value (str_eq_ignore_ascii_case f.name length_name) named (name_and_value f) e

-- a length that isn't too long
pub record IsLength (values : List (List ℕ)) : Type 0 where
  pub body : ℕ
  pub is : length_from values ≡ Some body
  pub short : body ≤ 4096

pub length-front : (vs ws : List (List ℕ)) → IsLength (vs ++ ws) → IsLength vs
length-front [] ws l = record { body = 0; is = refl; short = omega arith }
length-front (v ∷ []) [] l = l
length-front (v ∷ []) (w ∷ ws) l = absurd (cc (l.is))
length-front (v ∷ u ∷ vs) ws l = absurd (cc (l.is))

-- the fields before the cut
pub length-before : (fs gs : List Field) → IsLength (lengths (fs ++ gs)) → IsLength (lengths fs)
length-before fs gs l = length-front (lengths fs) (lengths gs) (subst IsLength (lengths-append fs gs) l)

-- and one more field of another name
pub length-other : (fs gs : List Field) (f : Field) → str_eq_ignore_ascii_case f.name length_name ≡ false
    → IsLength (lengths (fs ++ gs)) → IsLength (lengths (fs ++ f ∷ []))
length-other fs gs f other l =
    subst IsLength (sym (lengths-append fs (f ∷ []) ∙ ap (λ vs. lengths fs ++ vs) (lengths-one f false other) ∙ append-nil (lengths fs)))
    (length-before fs gs l)

-- the values of a length: only one, and a number
pub record IsOnly (before : List (List ℕ)) (value : List ℕ) : Type 0 where
  pub none : before ≡ []
  pub number : ℕ
  pub is : number_of most value ≡ Some number
  pub short : number ≤ 4096

only : (vs : List (List ℕ)) (v : List ℕ) (ws : List (List ℕ)) → IsLength (vs ++ v ∷ ws) → IsOnly vs v
only [] v [] l = record { none = refl; number = l.body; is = l.is; short = l.short }
only [] v (w ∷ ws) l = absurd (cc (l.is))
only (u ∷ []) v ws l = absurd (cc (l.is))
only (u ∷ t ∷ vs) v ws l = absurd (cc (l.is))

pub length-only : (fs : List Field) (f : Field) (gs : List Field) → str_eq_ignore_ascii_case f.name length_name ≡ true
    → IsLength (lengths (fs ++ f ∷ gs)) → IsOnly (lengths fs) (field_value f)
length-only fs f gs named l =
    only (lengths fs) (field_value f) (lengths gs)
    (subst IsLength (lengths-append fs (f ∷ gs)
    ∙ ap (λ vs. lengths fs ++ vs) (lengths-append (f ∷ []) gs ∙ ap (λ vs. vs ++ lengths gs) (lengths-one f true named))) l)

pub length-with : (fs : List Field) (f : Field) → str_eq_ignore_ascii_case f.name length_name ≡ true
    → IsOnly (lengths fs) (field_value f) → IsLength (lengths (fs ++ f ∷ []))
length-with fs f named o =
    subst IsLength (sym (lengths-append fs (f ∷ []) ∙ ap (λ vs. vs ++ lengths (f ∷ [])) o.none ∙ lengths-one f true named))
    (record { body = o.number; is = o.is; short = o.short })

-- a name that is one byte longer is another name
pub longer-name : (name : List ℕ) (b : ℕ) → str_eq_ignore_ascii_case name length_name ≡ true
    → str_eq_ignore_ascii_case (name ++ b ∷ []) length_name ≡ false
longer-name name b e =
    let same = (bytes_eq-Decides (str_to_ascii_lowercase name) (str_to_ascii_lowercase length_name)).0 e in
    let size : length name ≡ 14 = sym (length-map name to_ascii_lowercase) ∙ ap length same in
    false_from_ne_true (str_eq_ignore_ascii_case (name ++ b ∷ []) length_name) (λ t.
    let other = (bytes_eq-Decides (str_to_ascii_lowercase (name ++ b ∷ [])) (str_to_ascii_lowercase length_name)).0 t in
    omega (arith, ap length other, length-map (name ++ b ∷ []) to_ascii_lowercase, length-append name (b ∷ []), size))

-- ---- digits

pub record AreDigits (bytes : List ℕ) : Type 0 where
  pub some : 1 ≤ length bytes
  pub few : length bytes ≤ 20
  pub all : list_all is_ascii_digit bytes ≡ true
  pub fits : digits_value 10 bytes ≤ most

number-if : (b : Bool) (n m : ℕ) → (if b then Some n else None) ≡ Some m → (b ≡ true) × (n ≡ m)
number-if true n m e = (refl, cc)
number-if false n m e = absurd (cc)

pub number-digits : (bytes : List ℕ) (n : ℕ) → number_of most bytes ≡ Some n → AreDigits bytes × (digits_value 10 bytes ≡ n)
unfolding number_of
number-digits bytes n e =
    let t = number-if (are_digits 20 bytes && nat_le (digits_value 10 bytes) most) (digits_value 10 bytes) n e in
    let all = and_parts (are_digits 20 bytes) (nat_le (digits_value 10 bytes) most) t.0 in
    let front = and_parts (nat_le 1 (length bytes) && nat_le (length bytes) 20) (list_all is_ascii_digit bytes) all.0 in
    let sizes = and_parts (nat_le 1 (length bytes)) (nat_le (length bytes) 20) front.0 in
    let some = sizes.0 in
    let few = sizes.1 in
    let fits = all.1 in
    (record { some = grind (arith, nat_tests, some); few = grind (arith, nat_tests, few); all = front.1; fits = grind (arith, nat_tests, fits) }, t.1)

pub digits-number : (bytes : List ℕ) → AreDigits bytes → number_of most bytes ≡ Some (digits_value 10 bytes)
unfolding number_of
digits-number bytes d =
    let some : nat_le 1 (length bytes) ≡ true = grind (arith, nat_tests, d.some) in
    let few : nat_le (length bytes) 20 ≡ true = grind (arith, nat_tests, d.few) in
    let fits : nat_le (digits_value 10 bytes) most ≡ true = grind (arith, nat_tests, d.fits) in
    rw (some, few, d.all, fits)

digits-front : (xs ys : List ℕ) → 1 ≤ length xs → AreDigits (xs ++ ys) → AreDigits xs
digits-front xs ys some d =
    let less : digits_value 10 xs ≤ digits_value 10 (xs ++ ys) =
    subst (λ (t : List ℕ). digits_value 10 t ≤ digits_value 10 (xs ++ ys)) (take_at xs ys (length xs) refl)
    (digits_value-take-le 10 (xs ++ ys) (length xs) (omega arith)) in
    record {
      some = some;
      few = omega (arith, d.few, length-append xs ys);
      all = (and_parts (list_all is_ascii_digit xs) (list_all is_ascii_digit ys) (sym (list_all-append is_ascii_digit xs ys) ∙ d.all)).0;
      fits = omega (arith, less, d.fits);
    }

-- ---- blanks at the ends

pub record Trims (raw value : List ℕ) : Type 0 where
  pub front : List ℕ
  pub back : List ℕ
  pub is : raw ≡ front ++ (value ++ back)
  pub blank_front : AllPass is_ows front
  pub blank_back : AllPass is_ows back

record Skips (bytes : List ℕ) : Type 0 where
  front : List ℕ
  is : bytes ≡ front ++ skip_ows bytes
  blank : AllPass is_ows front

skips-if : (b : ℕ) (bytes : List ℕ) (t : Bool) → is_ows b ≡ t → Skips bytes → Skips (b ∷ bytes)
skips-if b bytes true e s = record {
  front = b ∷ s.front;
  is = ap (λ (t : List ℕ). b ∷ t) s.is ∙ ap (λ (t : Bool). b ∷ s.front ++ (if t then skip_ows bytes else b ∷ bytes)) (sym e);
  blank = All-append (λ x. IsTrue (is_ows x)) (b ∷ []) s.front (All-push (λ x. IsTrue (is_ows x)) [] b (All-nil (λ x. IsTrue (is_ows x))) e) s.blank;
}
skips-if b bytes false e s = record {
  front = [];
  is = ap (λ (t : Bool). if t then skip_ows bytes else b ∷ bytes) (sym e);
  blank = All-nil (λ x. IsTrue (is_ows x));
}

skips : (bytes : List ℕ) → Skips bytes
skips [] = record { front = []; is = refl; blank = All-nil (λ x. IsTrue (is_ows x)) }
skips (b ∷ bytes) = skips-if b bytes (is_ows b) refl (skips bytes)

pub trims : (raw : List ℕ) → Trims raw (trim_ows raw)
unfolding trim_ows
trims raw =
    let s = skips raw in
    let left = skip_ows raw in
    let t = skips (reverse left) in
    let behind : left ≡ reverse (skip_ows (reverse left)) ++ reverse t.front =
    sym (reverse-reverse left) ∙ ap (λ (x : List ℕ). reverse x) t.is ∙ reverse-append t.front (skip_ows (reverse left)) in
    record {
      front = s.front;
      back = reverse t.front;
      is = s.is ∙ ap (λ (x : List ℕ). s.front ++ x) behind;
      blank_front = s.blank;
      blank_back = AllPass-reverse is_ows t.front t.blank;
    }

skip-blank : (front bytes : List ℕ) → AllPass is_ows front → skip_ows (front ++ bytes) ≡ skip_ows bytes
skip-blank [] bytes all = refl
skip-blank (b ∷ front) bytes all =
    let first : is_ows b ≡ true = All-head (λ x. IsTrue (is_ows x)) b front all in
    ap (λ (t : Bool). if t then skip_ows (front ++ bytes) else b ∷ (front ++ bytes)) first
    ∙ skip-blank front bytes (All-tail (λ x. IsTrue (is_ows x)) b front all)

digit-no-blank : (b : ℕ) → is_ascii_digit b ≡ true → is_ows b ≡ false
digit-no-blank b e = grind (arith, nat_tests)

skip-digits : (ds back : List ℕ) → 1 ≤ length ds → AllPass is_ascii_digit ds → skip_ows (ds ++ back) ≡ ds ++ back
skip-digits [] back some all = absurd (omega arith)
skip-digits (d ∷ ds) back some all =
    let no : is_ows d ≡ false = digit-no-blank d (All-head (λ x. IsTrue (is_ascii_digit x)) d ds all) in
    ap (λ (t : Bool). if t then skip_ows (ds ++ back) else d ∷ (ds ++ back)) no

length-reversed : (xs : List ℕ) → length (reverse xs) ≡ length xs
length-reversed xs = length-reverse xs

pub trim-digits : (front ds back : List ℕ) → AllPass is_ows front → 1 ≤ length ds → AllPass is_ascii_digit ds → AllPass is_ows back
    → trim_ows (front ++ (ds ++ back)) ≡ ds
unfolding trim_ows
trim-digits front ds back f some all g =
    let start : skip_ows (front ++ (ds ++ back)) ≡ ds ++ back = skip-blank front (ds ++ back) f ∙ skip-digits ds back some all in
    let turned : reverse (ds ++ back) ≡ reverse back ++ (reverse ds ++ []) =
    reverse-append ds back ∙ ap (λ (t : List ℕ). reverse back ++ t) (sym (append-nil (reverse ds))) in
    let end : skip_ows (reverse (ds ++ back)) ≡ reverse ds ++ [] =
    ap skip_ows turned ∙ skip-blank (reverse back) (reverse ds ++ []) (AllPass-reverse is_ows back g)
    ∙ skip-digits (reverse ds) [] (omega (arith, length-reversed ds)) (AllPass-reverse is_ascii_digit ds all) in
    ap (λ (t : List ℕ). reverse (skip_ows (reverse t))) start ∙ ap (λ (t : List ℕ). reverse t) (end ∙ append-nil (reverse ds)) ∙ reverse-reverse ds

-- ---- a value that is cut short

-- its beginning is blank, or a smaller number
pub record IsSmaller (start value : List ℕ) : Type 0 where
  pub digits : AreDigits (trim_ows start)
  pub less : digits_value 10 (trim_ows start) ≤ digits_value 10 value

smaller : (start front ds back value : List ℕ) → start ≡ front ++ (ds ++ back) → AllPass is_ows front → AllPass is_ows back
    → AreDigits ds → digits_value 10 ds ≤ digits_value 10 value → IsSmaller start value
smaller start front ds back value e f b d less =
    let same : trim_ows start ≡ ds = ap trim_ows e ∙ trim-digits front ds back f d.some (AllPass-from_list_all is_ascii_digit ds d.all) b in
    record {
      digits = subst AreDigits (sym same) d;
      less = subst (λ (t : List ℕ). digits_value 10 t ≤ digits_value 10 value) (sym same) less;
    }

value-digits : (start value front back ds : List ℕ) → start ≡ front ++ ds → AllPass is_ows front → AreDigits value → IsInside ds value
    → AllPass is_ows start ⊎ IsSmaller start value
value-digits start value front back [] e f d i =
    inl (subst (λ (t : List ℕ). AllPass is_ows t) (sym (e ∙ append-nil front)) f)
value-digits start value front back (x ∷ xs) e f d i =
    let whole : AreDigits ((x ∷ xs) ++ i.byte ∷ i.left) = subst AreDigits i.is d in
    let less : digits_value 10 (x ∷ xs) ≤ digits_value 10 value =
    subst (λ (t : List ℕ). digits_value 10 (x ∷ xs) ≤ digits_value 10 t) (sym i.is)
    (subst (λ (t : List ℕ). digits_value 10 t ≤ digits_value 10 ((x ∷ xs) ++ i.byte ∷ i.left)) (take_at (x ∷ xs) (i.byte ∷ i.left) (length (x ∷ xs)) refl)
    (digits_value-take-le 10 ((x ∷ xs) ++ i.byte ∷ i.left) (length (x ∷ xs)) (omega arith))) in
    inr (smaller start front (x ∷ xs) [] value (e ∙ ap (λ (t : List ℕ). front ++ t) (sym (append-nil (x ∷ xs)))) f (All-nil (λ b. IsTrue (is_ows b)))
    (digits-front (x ∷ xs) (i.byte ∷ i.left) (omega arith) whole) less)

pub value-cut : (start raw : List ℕ) → IsInside start raw → AreDigits (trim_ows raw)
    → AllPass is_ows start ⊎ IsSmaller start (trim_ows raw)
value-cut start raw i d =
    let t = trims raw in
    let value = trim_ows raw in
    elim (cut start (i.byte ∷ i.left) t.front (value ++ t.back) (sym i.is ∙ t.is)) [
      | inl blank ↦ inl (inside-front (λ b. IsTrue (is_ows b)) start t.front blank t.blank_front)
      | inr behind ↦ elim (cut behind.over (i.byte ∷ i.left) value t.back behind.rest) [
        | inl cut_short ↦ value-digits start value t.front t.back behind.over behind.is t.blank_front d cut_short
        | inr past ↦
            let blank : AllPass is_ows past.over =
            All-front (λ b. IsTrue (is_ows b)) past.over (i.byte ∷ i.left)
            (subst (λ (x : List ℕ). AllPass is_ows x) (sym past.rest) t.blank_back) in
            inr (smaller start t.front value past.over value (behind.is ∙ ap (λ (x : List ℕ). t.front ++ x) past.is) t.blank_front blank d (omega arith))
      ]
    ]

-- a blank value with a digit behind it
pub blank-digit : (start : List ℕ) → AllPass is_ows start → number_of most (trim_ows (start ++ 48 ∷ [])) ≡ Some 0
blank-digit start blank =
    let digit : AllPass is_ascii_digit (48 ∷ []) = AllPass-from_list_all is_ascii_digit (48 ∷ []) refl in
    let same : trim_ows (start ++ 48 ∷ []) ≡ 48 ∷ [] = trim-digits start (48 ∷ []) [] blank (omega arith) digit (All-nil (λ b. IsTrue (is_ows b))) in
    ap (λ (t : List ℕ). number_of most t) same
    ∙ digits-number (48 ∷ []) (record { some = omega arith; few = omega arith; all = refl; fits = omega arith })
