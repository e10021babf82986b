-- A head that is cut short: the shortest bytes that end it, if any do.
use Rattle.std.proofs.Common.{◌≡◌, ◌⊎◌, inl, inr, ℕ, ◌+◌, ◌<◌, ◌≤◌, IsTrue, List, [], ◌∷◌, ◌++◌, length, drop, codes, refl, sym, ap, ◌∙◌, subst, arith, append_assoc, append-nil, length-append}
use Rattle.std.specs.Char.{is_ascii_digit}
use Rattle.std.specs.List.{flat_map}
use Rattle.std.proofs.lemmas.List.{drop_at}
use Rattle.std.proofs.lemmas.List.Elements.{All-push, All-nil}
use Rattle.httparse.specs.Grammar.{AllPass, LineEnd, lf, print_end, IsField, print_field, print_section}
use Rattle.satip_frame.specs.Said.{body_length}
use Rattle.satip_client.specs.Heads.{Head, print_head, is_byte_of_phrase, IsReason, IsHead}
use Rattle.satip_client.specs.Places.{HasSomeHead}
use Rattle.satip_client.proofs.Cuts.{IsInside, cut, All-front, inside-front, inside-shorter}
use Rattle.satip_client.proofs.Values.{lengths, IsLength}
use Rattle.satip_client.proofs.Sections.{Ending, after_line, print_ending, closes, close-line, end-length}

abbrev pub start : List ℕ
start = codes "RTSP/1.0 "

-- the shortest head
abbrev pub shortest : List ℕ
shortest = start ++ (48 ∷ 48 ∷ 48 ∷ 10 ∷ 10 ∷ [])

-- the text goes on as the shortest head, or ends with one of the endings
abbrev pub CanEnd : List ℕ → Type 0
CanEnd text =
    ((length text < 12) × HasSomeHead (text ++ drop (length text) shortest))
    ⊎ ((12 ≤ length text) × (ending : Ending) × HasSomeHead (text ++ print_ending ending))

whole : (h : Head) (size : ℕ) (text : List ℕ) → IsHead h size → text ≡ print_head h → HasSomeHead text
whole h size text is e = (h, size, record { is_head = is; rest = []; text_is = e ∙ sym (append-nil (print_head h)) })

-- a head without headers
abbrev plain : List ℕ → List ℕ → LineEnd → Head
plain digits reason end = record { digits = digits; reason = reason; line_end = end; fields = []; last = lf }

plain-head : (digits reason : List ℕ) (end : LineEnd) → length digits ≡ 3 → AllPass is_ascii_digit digits → IsReason reason
    → length (print_head (plain digits reason end)) ≤ 8192 → IsHead (plain digits reason end) 0
unfolding body_length
plain-head digits reason end three all is short = record {
  three = three;
  digits = all;
  reason = is;
  fields = All-nil IsField;
  few = omega arith;
  short = short;
  body = refl;
  body_short = omega arith;
}

pub head-length : (h : Head) → length (print_head h)
    ≡ 9 + length h.digits + length h.reason + length (print_end h.line_end) + length (print_section h.fields h.last)
head-length h =
    let behind = print_end h.line_end ++ print_section h.fields h.last in
    omega (
      arith,
      length-append start (h.digits ++ (h.reason ++ behind)),
      length-append h.digits (h.reason ++ behind),
      length-append h.reason behind,
      length-append (print_end h.line_end) (print_section h.fields h.last),
    )

short-head : (digits : List ℕ) → length digits ≡ 3 → AllPass is_ascii_digit digits → HasSomeHead (start ++ (digits ++ 10 ∷ 10 ∷ []))
short-head digits three all =
    whole (plain digits [] lf) 0 (start ++ (digits ++ 10 ∷ 10 ∷ []))
    (plain-head digits [] lf three all tt (omega (arith, head-length (plain digits [] lf)))) refl

zeros : AllPass is_ascii_digit (48 ∷ 48 ∷ 48 ∷ [])
zeros = All-push P (48 ∷ 48 ∷ []) 48 (All-push P (48 ∷ []) 48 (All-push P [] 48 (All-nil P) refl) refl) refl
  where
    P : ℕ → Type 0
    P b = IsTrue (is_ascii_digit b)

-- the text ends in the version
in-version : (text : List ℕ) → IsInside text start → CanEnd text
in-version text i =
    let tail : List ℕ = 48 ∷ 48 ∷ 48 ∷ 10 ∷ 10 ∷ [] in
    let split : shortest ≡ text ++ ((i.byte ∷ i.left) ++ tail) = ap (λ (t : List ℕ). t ++ tail) i.is ∙ append_assoc text (i.byte ∷ i.left) tail in
    let dropped : drop (length text) shortest ≡ (i.byte ∷ i.left) ++ tail =
    ap (λ (t : List ℕ). drop (length text) t) split ∙ drop_at text _ (length text) refl in
    let all : text ++ drop (length text) shortest ≡ shortest = ap (λ (t : List ℕ). text ++ t) dropped ∙ sym split in
    inl (omega (arith, inside-shorter text start i), subst HasSomeHead (sym all) (short-head (48 ∷ 48 ∷ 48 ∷ []) refl zeros))

-- the text ends in the three digits
in-digits : (ds : List ℕ) → length ds ≤ 2 → AllPass is_ascii_digit ds → CanEnd (start ++ ds)
in-digits [] few all = inl (omega arith, short-head (48 ∷ 48 ∷ 48 ∷ []) refl zeros)
in-digits (x ∷ []) few all =
    let P : ℕ → Type 0 = λ b. IsTrue (is_ascii_digit b) in
    inl (omega arith, short-head (x ∷ 48 ∷ 48 ∷ []) refl (All-push P (x ∷ 48 ∷ []) 48 (All-push P (x ∷ []) 48 all refl) refl))
in-digits (x ∷ y ∷ []) few all =
    let P : ℕ → Type 0 = λ b. IsTrue (is_ascii_digit b) in
    inl (omega arith, short-head (x ∷ y ∷ 48 ∷ []) refl (All-push P (x ∷ y ∷ []) 48 all refl))
in-digits (x ∷ y ∷ z ∷ ds) few all = absurd (omega arith)

reason-front : (reason whole : List ℕ) → IsInside reason whole → IsReason whole → IsReason reason
reason-front [] whole i r = tt
reason-front (x ∷ xs) whole i r =
    let is = subst IsReason i.is r in
    (is.0, All-front (λ b. IsTrue (is_byte_of_phrase b)) xs (i.byte ∷ i.left) is.1)

-- the text ends in the reason, or in the end of the line
after-digits : (digits : List ℕ) (b : List ℕ) → length digits ≡ 3 → 12 ≤ length (start ++ (digits ++ b))
after-digits digits b three = omega (arith, length-append start (digits ++ b), length-append digits b)

line-open : (digits reason over end : List ℕ) → over ++ 10 ∷ [] ≡ end
    → (start ++ (digits ++ (reason ++ over))) ++ 10 ∷ 10 ∷ [] ≡ start ++ (digits ++ (reason ++ (end ++ 10 ∷ [])))
line-open digits reason over end e =
    shift digits reason over ∙ ap (λ (t : List ℕ). start ++ (digits ++ (reason ++ (t ++ 10 ∷ [])))) e
  where
    shift : (digits reason over : List ℕ)
        → (start ++ (digits ++ (reason ++ over))) ++ 10 ∷ 10 ∷ [] ≡ start ++ (digits ++ (reason ++ ((over ++ 10 ∷ []) ++ 10 ∷ [])))
    shift digits reason over = simp append_assoc

in-line : (digits reason over : List ℕ) (end : LineEnd) → length digits ≡ 3 → AllPass is_ascii_digit digits → IsReason reason
    → over ++ 10 ∷ [] ≡ print_end end → length reason + length over + 14 ≤ 8192 → CanEnd (start ++ (digits ++ (reason ++ over)))
in-line digits reason over end three all is e fits =
    let h = plain digits reason end in
    let size : length (print_end end) ≡ length over + 1 = ap length (sym e) ∙ length-append over (10 ∷ []) in
    inr (
      after-digits digits (reason ++ over) three,
      after_line,
      whole h 0 _ (plain-head digits reason end three all is (omega (arith, head-length h, size, three))) (line-open digits reason over (print_end end) e),
    )

block-open : (digits reason end text w block : List ℕ) → text ++ w ≡ block
    → (start ++ (digits ++ (reason ++ (end ++ text)))) ++ w ≡ start ++ (digits ++ (reason ++ (end ++ block)))
block-open digits reason end text w block e =
    shift digits reason end text w ∙ ap (λ (t : List ℕ). start ++ (digits ++ (reason ++ (end ++ t)))) e
  where
    shift : (digits reason end text w : List ℕ)
        → (start ++ (digits ++ (reason ++ (end ++ text)))) ++ w ≡ start ++ (digits ++ (reason ++ (end ++ (text ++ w))))
    shift digits reason end text w = simp append_assoc

-- the text ends in the header block
in-block : (h : Head) (size : ℕ) (text more rest : List ℕ) → IsHead h size → text ++ more ≡ print_section h.fields h.last ++ rest
    → length text < length (print_section h.fields h.last)
    → CanEnd (start ++ (h.digits ++ (h.reason ++ (print_end h.line_end ++ text))))
unfolding body_length
in-block h size text more rest is e short =
    let l : IsLength (lengths h.fields) = record { body = size; is = is.body; short = is.body_short } in
    let c = closes h.fields [] h.last text more rest e short is.fields l in
    let g : Head = record h { fields = c.fields; last = c.last } in
    let three = is.three in
    let fits : length (print_head g) ≤ 8192 =
    omega (arith, head-length h, head-length g, is.short, c.short, ap length c.reads) in
    inr (
      after-digits h.digits _ three,
      c.ending,
      whole g c.length_is.body _ (record {
        three = is.three;
        digits = is.digits;
        reason = is.reason;
        fields = c.all;
        few = omega (arith, c.few, is.few);
        short = fits;
        body = c.length_is.is;
        body_short = c.length_is.short;
      }) (block-open h.digits h.reason (print_end h.line_end) text (print_ending c.ending) (print_section c.fields c.last) c.reads),
    )

behind-reason : (h : Head) (size : ℕ) (b more rest : List ℕ) → IsHead h size
    → b ++ more ≡ print_end h.line_end ++ (print_section h.fields h.last ++ rest)
    → length b < length (print_end h.line_end) + length (print_section h.fields h.last)
    → CanEnd (start ++ (h.digits ++ (h.reason ++ b)))
behind-reason h size b more rest is e short = elim (cut b more (print_end h.line_end) (print_section h.fields h.last ++ rest) e) [
  | inl inside ↦
      let c = close-line b h.line_end inside in
      in-line h.digits h.reason b c.end is.three is.digits is.reason c.reads
      (omega (arith, head-length h, is.short, is.three, inside-shorter b (print_end h.line_end) inside, section-some h))
  | inr behind ↦
      let below : length behind.over < length (print_section h.fields h.last) =
      omega (arith, ap length behind.is, length-append (print_end h.line_end) behind.over) in
      subst (λ (t : List ℕ). CanEnd (start ++ (h.digits ++ (h.reason ++ t)))) (sym behind.is)
      (in-block h size behind.over more rest is behind.rest below)
]
  where
    section-some : (h : Head) → 1 ≤ length (print_section h.fields h.last)
    section-some h = omega (arith, length-append (flat_map print_field h.fields) (print_end h.last), end-length h.last)

behind-digits : (h : Head) (size : ℕ) (b more rest : List ℕ) → IsHead h size
    → b ++ more ≡ h.reason ++ (print_end h.line_end ++ (print_section h.fields h.last ++ rest))
    → length b < length h.reason + length (print_end h.line_end) + length (print_section h.fields h.last)
    → CanEnd (start ++ (h.digits ++ b))
behind-digits h size b more rest is e short = elim (cut b more h.reason (print_end h.line_end ++ (print_section h.fields h.last ++ rest)) e) [
  | inl inside ↦
      subst (λ (t : List ℕ). CanEnd (start ++ (h.digits ++ t))) (append-nil b)
      (in-line h.digits b [] lf is.three is.digits (reason-front b h.reason inside is.reason) refl
      (omega (arith, head-length h, is.short, is.three, inside-shorter b h.reason inside, section-some h, end-length h.line_end)))
  | inr behind ↦
      let below : length behind.over < length (print_end h.line_end) + length (print_section h.fields h.last) =
      omega (arith, ap length behind.is, length-append h.reason behind.over) in
      subst (λ (t : List ℕ). CanEnd (start ++ (h.digits ++ t))) (sym behind.is)
      (behind-reason h size behind.over more rest is behind.rest below)
]
  where
    section-some : (h : Head) → 1 ≤ length (print_section h.fields h.last)
    section-some h = omega (arith, length-append (flat_map print_field h.fields) (print_end h.last), end-length h.last)

behind-version : (h : Head) (size : ℕ) (b more rest : List ℕ) → IsHead h size
    → b ++ more ≡ h.digits ++ (h.reason ++ (print_end h.line_end ++ (print_section h.fields h.last ++ rest)))
    → length b < length h.digits + length h.reason + length (print_end h.line_end) + length (print_section h.fields h.last)
    → CanEnd (start ++ b)
behind-version h size b more rest is e short =
    elim (cut b more h.digits (h.reason ++ (print_end h.line_end ++ (print_section h.fields h.last ++ rest))) e) [
      | inl inside ↦
          in-digits b (omega (arith, inside-shorter b h.digits inside, is.three))
          (inside-front (λ x. IsTrue (is_ascii_digit x)) b h.digits inside is.digits)
      | inr behind ↦
          let below : length behind.over < length h.reason + length (print_end h.line_end) + length (print_section h.fields h.last) =
          omega (arith, ap length behind.is, length-append h.digits behind.over) in
          subst (λ (t : List ℕ). CanEnd (start ++ t)) (sym behind.is) (behind-digits h size behind.over more rest is behind.rest below)
    ]

pub head-split : (h : Head) (rest : List ℕ)
    → print_head h ++ rest ≡ start ++ (h.digits ++ (h.reason ++ (print_end h.line_end ++ (print_section h.fields h.last ++ rest))))
head-split h rest = shift start h.digits h.reason (print_end h.line_end) (print_section h.fields h.last) rest
  where
    shift : (a b c d e f : List ℕ) → (a ++ (b ++ (c ++ (d ++ e)))) ++ f ≡ a ++ (b ++ (c ++ (d ++ (e ++ f))))
    shift a b c d e f = simp append_assoc

-- a text that is cut short before the end of its head can end so
pub can-end : (text more : List ℕ) (h : Head) (size : ℕ) (rest : List ℕ) → IsHead h size → text ++ more ≡ print_head h ++ rest
    → length text < length (print_head h) → CanEnd text
can-end text more h size rest is e short =
    elim (cut text more start (h.digits ++ (h.reason ++ (print_end h.line_end ++ (print_section h.fields h.last ++ rest)))) (e ∙ head-split h rest)) [
      | inl inside ↦ in-version text inside
      | inr behind ↦
          let below : length behind.over < length h.digits + length h.reason + length (print_end h.line_end) + length (print_section h.fields h.last) =
          omega (arith, ap length behind.is, length-append start behind.over, head-length h) in
          subst CanEnd (sym behind.is) (behind-version h size behind.over more rest is behind.rest below)
    ]
