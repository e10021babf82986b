-- What the scans of a status line say of its parts.
use Rattle.std.proofs.Common.{◌≡◌, ◌≢◌, ◌⊎◌, inl, inr, ℕ, ◌+◌, ◌-◌, ◌*◌, ◌<◌, ◌≤◌, true, IsTrue, List, [], ◌∷◌, ◌++◌, length, get_or, take, drop, slice_range, Option, Some, None, MatchOption, IfSome, IfNone, refl, sym, ap, ◌∙◌, subst, arith, append_assoc, append-nil, length-append, take-append-drop, nat_eq}
use Rattle.std.specs.Char.{is_ascii_digit, digit_value}
use Rattle.std.specs.List.{starts_with}
use Rattle.std.specs.Str.Parse.{digits_value}
use Rattle.std.proofs.lemmas.Bool.{cases_lt}
use Rattle.std.proofs.lemmas.Bool.Decides.{nat_tests}
use Rattle.std.proofs.lemmas.List.{drop_more, drop_all, drop_at, take_at}
use Rattle.std.proofs.lemmas.List.Elements.{All-push, All-nil}
use Rattle.std.proofs.lemmas.Slice.Eq.{bytes_eq-Decides}
use Rattle.httparse.specs.Grammar.{AllPass, LineEnd, crlf, lf, print_end}
use Rattle.httparse.specs.Pieces.{IsRunAt}
use Rattle.httparse.proofs.PieceLemmas.{Stops-print_end}
use Rattle.httparse.proofs.RunLemmas.{IsRunAt_pass, IsRunAt_unique, IsRunAt_open, drop_split}
use Rattle.httparse.proofs.TrimLemmas.{slice_first, slice_empty}
use Rattle.satip_client.specs.Heads.{is_byte_of_phrase, IsReason}
use Rattle.satip_client.specs.Places.{HasStatus, HasLine}
use Rattle.satip_client.proofs.Endings.{start}

-- ---- the version and the digits

pub status-rest : (text digits rest : List ℕ) → HasStatus text digits rest → rest ≡ drop 12 text
status-rest text digits rest h =
    let size : length (start ++ digits) ≡ 12 = omega (arith, h.three, length-append start digits) in
    sym (ap (λ (t : List ℕ). drop 12 t) (h.text_is ∙ sym (append_assoc start digits rest)) ∙ drop_at (start ++ digits) rest 12 size)

pub status-length : (text digits rest : List ℕ) → HasStatus text digits rest → 12 ≤ length text
status-length text digits rest h =
    omega (arith, h.three, ap length h.text_is, length-append start (digits ++ rest), length-append digits rest)

pub status-starts : (text digits rest : List ℕ) → HasStatus text digits rest → starts_with nat_eq text start ≡ true
status-starts text digits rest h =
    let front : take 9 text ≡ start = ap (λ (t : List ℕ). take 9 t) h.text_is ∙ take_at start (digits ++ rest) 9 refl in
    (bytes_eq-Decides start (take 9 text)).1 (sym front)

pub three-read : (text digits rest : List ℕ) → length digits ≡ 3 → text ≡ start ++ (digits ++ rest)
    → digits ≡ get_or text 9 0 ∷ get_or text 10 0 ∷ get_or text 11 0 ∷ []
three-read text [] rest three e = absurd (omega arith)
three-read text (a ∷ []) rest three e = absurd (omega arith)
three-read text (a ∷ b ∷ []) rest three e = absurd (omega arith)
three-read text (a ∷ b ∷ c ∷ []) rest three e =
    let x : a ≡ get_or text 9 0 = sym (ap (λ (t : List ℕ). get_or t 9 0) e) in
    let y : b ≡ get_or text 10 0 = sym (ap (λ (t : List ℕ). get_or t 10 0) e) in
    let z : c ≡ get_or text 11 0 = sym (ap (λ (t : List ℕ). get_or t 11 0) e) in
    cc
three-read text (a ∷ b ∷ c ∷ d ∷ ds) rest three e = absurd (omega arith)

-- the three bytes are the digits
pub status-digits : (text digits rest : List ℕ) → HasStatus text digits rest
    → AllPass is_ascii_digit (get_or text 9 0 ∷ get_or text 10 0 ∷ get_or text 11 0 ∷ [])
status-digits text digits rest h =
    subst (λ (t : List ℕ). AllPass is_ascii_digit t) (three-read text digits rest h.three h.text_is) h.all

pub status-from : (text : List ℕ) → 12 ≤ length text → starts_with nat_eq text start ≡ true
    → AllPass is_ascii_digit (get_or text 9 0 ∷ get_or text 10 0 ∷ get_or text 11 0 ∷ [])
    → HasStatus text (get_or text 9 0 ∷ get_or text 10 0 ∷ get_or text 11 0 ∷ []) (drop 12 text)
status-from text long starts all =
    let front : start ≡ take 9 text = (bytes_eq-Decides start (take 9 text)).0 starts in
    let at9 : 9 < length text = omega arith in
    let at10 : 10 < length text = omega arith in
    let at11 : 11 < length text = omega arith in
    let behind : drop 9 text ≡ get_or text 9 0 ∷ get_or text 10 0 ∷ get_or text 11 0 ∷ drop 12 text =
    drop_more text 9 0 at9 ∙ ap (λ (t : List ℕ). get_or text 9 0 ∷ t)
    (drop_more text 10 0 at10 ∙ ap (λ (t : List ℕ). get_or text 10 0 ∷ t) (drop_more text 11 0 at11)) in
    record {
      three = refl;
      all = all;
      text_is = sym (take-append-drop 9 text) ∙ ap (λ (t : List ℕ). t ++ drop 9 text) (sym front) ∙ ap (λ (t : List ℕ). start ++ t) behind;
    }

-- ---- three digits

pub digit-value : (b : ℕ) → is_ascii_digit b ≡ true → digit_value b ≡ b - 48
digit-value b e = grind (arith, nat_tests)

pub three-value : (a b c : ℕ) → is_ascii_digit a ≡ true → is_ascii_digit b ≡ true → is_ascii_digit c ≡ true
    → (a - 48) * 100 + (b - 48) * 10 + (c - 48) ≡ digits_value 10 (a ∷ b ∷ c ∷ [])
three-value a b c x y z = omega (arith, digit-value a x, digit-value b y, digit-value c z)

pub three-all : (a b c : ℕ) → is_ascii_digit a ≡ true → is_ascii_digit b ≡ true → is_ascii_digit c ≡ true
    → AllPass is_ascii_digit (a ∷ b ∷ c ∷ [])
three-all a b c x y z =
    let P : ℕ → Type 0 = λ v. IsTrue (is_ascii_digit v) in
    All-push P (a ∷ b ∷ []) c (All-push P (a ∷ []) b (All-push P [] a (All-nil P) x) y) z

abbrev three_of : List ℕ → List ℕ
three_of text = get_or text 9 0 ∷ get_or text 10 0 ∷ get_or text 11 0 ∷ []

pub status-found : (text : List ℕ) (r : Option ℕ) → 12 ≤ length text → starts_with nat_eq text start ≡ true
    → MatchOption r (AllPass is_ascii_digit (three_of text) → ⊥) (λ n. AllPass is_ascii_digit (three_of text) × (n ≡ digits_value 10 (three_of text)))
    → IfSome r (λ n. (digits : List ℕ) × HasStatus text digits (drop 12 text) × (n ≡ digits_value 10 digits))
status-found text None long starts m = tt
status-found text (Some n) long starts m = (three_of text, status-from text long starts m.0, m.1)

pub status-none : (text : List ℕ) (r : Option ℕ)
    → MatchOption r (AllPass is_ascii_digit (three_of text) → ⊥) (λ n. AllPass is_ascii_digit (three_of text) × (n ≡ digits_value 10 (three_of text)))
    → IfNone r ((digits rest : List ℕ) → HasStatus text digits rest → ⊥)
status-none text None m = λ digits rest h. m (status-digits text digits rest h)
status-none text (Some n) m = tt

-- ---- the reason

pub space-no-end : (end : LineEnd) (rest more : List ℕ) → print_end end ++ rest ≡ 32 ∷ more → ⊥
space-no-end crlf rest more e = let no : ◌≡◌ {A = ℕ} 13 32 = cc in absurd (omega arith)
space-no-end lf rest more e = let no : ◌≡◌ {A = ℕ} 10 32 = cc in absurd (omega arith)

-- what stands behind the digits is no space: there is no reason
pub no-reason : (text : List ℕ) → ((length text ≡ 12) ⊎ (get_or text 12 0 ≢ 32)) → 12 ≤ length text
    → (reason : List ℕ) (end : LineEnd) (rest : List ℕ) → IsReason reason → drop 12 text ≡ reason ++ (print_end end ++ rest)
    → (slice_range text 12 12 ≡ reason) × (drop 12 text ≡ print_end end ++ rest)
no-reason text other long [] end rest is e = (slice_empty text 12 12 refl long, e)
no-reason text (inl none) long (x ∷ xs) end rest is e =
    let empty : [] ≡ (x ∷ xs) ++ (print_end end ++ rest) = sym (drop_all 12 text (omega arith)) ∙ e in
    absurd (cc)
no-reason text (inr other) long (x ∷ xs) end rest is e = elim (cases_lt 12 (length text)) [
  | inl inside ↦
      let first : get_or text 12 0 ∷ drop 13 text ≡ x ∷ (xs ++ (print_end end ++ rest)) = sym (drop_more text 12 0 inside) ∙ e in
      let same : get_or text 12 0 ≡ x = cc in
      absurd (other (same ∙ is.0))
  | inr past ↦
      let empty : [] ≡ (x ∷ xs) ++ (print_end end ++ rest) = sym (drop_all 12 text past) ∙ e in
      absurd (cc)
]

module _ {text : List ℕ} {stop : ℕ} (inside : 12 < length text) (space : get_or text 12 0 ≡ 32) (run : IsRunAt is_byte_of_phrase text 13 stop) where
  split : drop 12 text ≡ 32 ∷ drop 13 text
  split = drop_more text 12 0 inside ∙ ap (λ (b : ℕ). b ∷ drop 13 text) space

  slice : slice_range text 12 stop ≡ 32 ∷ slice_range text 13 stop
  slice = slice_first text 12 stop (omega (arith, run.ordered)) run.in_range ∙ ap (λ (b : ℕ). b ∷ slice_range text 13 stop) space

  pub reason-run : IsReason (slice_range text 12 stop)
  reason-run = subst IsReason (sym slice) (refl, IsRunAt_pass run)

  pub reason-only : (reason : List ℕ) (end : LineEnd) (rest : List ℕ) → IsReason reason → drop 12 text ≡ reason ++ (print_end end ++ rest)
      → (slice_range text 12 stop ≡ reason) × (drop stop text ≡ print_end end ++ rest)
  reason-only [] end rest is e = absurd (space-no-end end rest (drop 13 text) (sym e ∙ split))
  reason-only (x ∷ xs) end rest is e =
      let behind : drop 13 text ≡ xs ++ (print_end end ++ rest) = cc (split, e) in
      let stops = Stops-print_end is_byte_of_phrase refl refl end rest in
      elim (cases_lt stop (length text)) [
        | inl within ↦
            let same = IsRunAt_unique run within [] xs (print_end end ++ rest) is.1 stops (append-nil (drop 13 text) ∙ behind) in
            (slice ∙ ap (λ (t : List ℕ). 32 ∷ t) same.0 ∙ ap (λ (b : ℕ). b ∷ xs) (sym is.0), sym (append-nil (drop stop text)) ∙ same.1)
        | inr past ↦ absurd (IsRunAt_open run past xs (print_end end ++ rest) stops behind)
      ]

pub empty-reason : (text : List ℕ) → 12 ≤ length text → IsReason (slice_range text 12 12)
empty-reason text long = subst IsReason (sym (slice_empty text 12 12 refl long)) tt

-- ---- the line

pub line-status : (text digits reason : List ℕ) (end : LineEnd) (rest : List ℕ) → HasLine text digits reason end rest
    → HasStatus text digits (reason ++ (print_end end ++ rest))
line-status text digits reason end rest h = record { three = h.three; all = h.all; text_is = h.text_is }

pub line-from : (text digits : List ℕ) (stop next : ℕ) (end : LineEnd) → HasStatus text digits (drop 12 text) → 12 ≤ stop
    → IsReason (slice_range text 12 stop) → drop stop text ≡ print_end end ++ drop next text
    → HasLine text digits (slice_range text 12 stop) end (drop next text)
line-from text digits stop next end h begin is e = record {
  three = h.three;
  all = h.all;
  is_reason = is;
  text_is = h.text_is ∙ ap (λ (t : List ℕ). start ++ (digits ++ t)) (drop_split text 12 stop begin ∙ ap (λ (t : List ℕ). slice_range text 12 stop ++ t) e);
}
