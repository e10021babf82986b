-- A head is read in one way, and so as the parser of header blocks reads it.
use Rattle.std.proofs.Common.{◌≡◌, inl, inr, ℕ, ◌+◌, ◌-◌, ◌<◌, ◌≤◌, List, [], ◌∷◌, ◌++◌, length, take, drop, map, replicate, Bool, true, false, IsTrue, Option, Some, None, IfSome, IsSomeAnd, is_some, refl, sym, ap, ◌∙◌, subst, arith, append_assoc, append-nil, length-append, length-drop, length-take}
use Rattle.std.proofs.lemmas.Bool.{cases_lt}
use Rattle.std.proofs.lemmas.List.{length-map, length-replicate}
use Rattle.httparse.specs.Grammar.{LineEnd, print_end, Field, print_section, ReadsSection}
use Rattle.httparse.specs.Spans.{header_bytes, name_and_value, IsSectionAt}
use Rattle.httparse.proofs.GrammarLemmas.{section_unique}
use Rattle.httparse.specs.declared.spans.HeaderSpan.{HeaderSpan}
use Rattle.std.specs.Str.Parse.{digits_value}
use Rattle.httparse.proofs.PieceLemmas.{Stops-print_end, print_end_unique}
use Rattle.httparse.proofs.RunLemmas.{run_unique}
use Rattle.satip_frame.specs.Said.{body_length}
use Rattle.satip_client.specs.Heads.{Head, print_head, is_byte_of_phrase, IsReason, HasHead, HasReply}
use Rattle.satip_client.specs.Places.{HasLine, IsLineAt, IsHeadAt, HasSomeHead}
use Rattle.satip_client.specs.Replies.{Says, IsReply, HasNoReply, CanBecomeReply, NeverHasReply}
use Rattle.satip_client.specs.declared.reply.ReplyView.{ReplyView}
use Rattle.satip_client.specs.declared.heads.HeadRead.{HeadRead}
use Rattle.satip_client.specs.declared.heads.StatusLine.{StatusLine}
use Rattle.satip_client.proofs.Cuts.{cut}
use Rattle.satip_client.proofs.Endings.{start, shortest, head-length, head-split, can-end}
use Rattle.satip_client.proofs.Sections.{Ending, empty_line, after_line, after_name, after_blanks, after_length, print_ending}
use Rattle.satip_client.proofs.Lines.{status-rest, three-read, line-status, space-no-end}

-- ---- one line

reason-unique : (r s : List ℕ) (e f : LineEnd) (p q : List ℕ) → IsReason r → IsReason s → r ++ (print_end e ++ p) ≡ s ++ (print_end f ++ q)
    → (r ≡ s) × (e ≡ f) × (p ≡ q)
reason-unique [] [] e f p q x y eq = let same = print_end_unique e f p q eq in (refl, same.0, same.1)
reason-unique [] (b ∷ bs) e f p q x y eq =
    absurd (space-no-end e p (bs ++ (print_end f ++ q)) (eq ∙ ap (λ (c : ℕ). c ∷ (bs ++ (print_end f ++ q))) y.0))
reason-unique (a ∷ cs) [] e f p q x y eq =
    absurd (space-no-end f q (cs ++ (print_end e ++ p)) (sym eq ∙ ap (λ (c : ℕ). c ∷ (cs ++ (print_end e ++ p))) x.0))
reason-unique (a ∷ cs) (b ∷ bs) e f p q x y eq =
    let behind : cs ++ (print_end e ++ p) ≡ bs ++ (print_end f ++ q) = cc in
    let run = run_unique is_byte_of_phrase cs bs (print_end e ++ p) (print_end f ++ q) x.1 y.1
    (Stops-print_end is_byte_of_phrase refl refl e p) (Stops-print_end is_byte_of_phrase refl refl f q) behind in
    let ends = print_end_unique e f p q run.1 in
    (cc (run.0, x.0, y.0), ends.0, ends.1)

record IsSameLine (ds r : List ℕ) (e : LineEnd) (p : List ℕ) (cs s : List ℕ) (f : LineEnd) (q : List ℕ) : Type 0 where
  digits : ds ≡ cs
  reason : r ≡ s
  end : e ≡ f
  rest : p ≡ q

line-unique : (text ds r : List ℕ) (e : LineEnd) (p cs s : List ℕ) (f : LineEnd) (q : List ℕ) → HasLine text ds r e p → HasLine text cs s f q
    → IsSameLine ds r e p cs s f q
line-unique text ds r e p cs s f q x y =
    let behind = status-rest text ds (r ++ (print_end e ++ p)) (line-status text ds r e p x)
    ∙ sym (status-rest text cs (s ++ (print_end f ++ q)) (line-status text cs s f q y)) in
    let same = reason-unique r s e f p q x.is_reason y.is_reason behind in
    record {
      digits = three-read text ds (r ++ (print_end e ++ p)) x.three x.text_is ∙ sym (three-read text cs (s ++ (print_end f ++ q)) y.three y.text_is);
      reason = same.0;
      end = same.1;
      rest = same.2;
    }

-- the status line of a head
pub head-line : {text : List ℕ} {h : Head} {size : ℕ} (has : HasHead text h size)
    → HasLine text h.digits h.reason h.line_end (print_section h.fields h.last ++ has.rest)
head-line {text} {h} has = record {
  three = has.is_head.three;
  all = has.is_head.digits;
  is_reason = has.is_head.reason;
  text_is = has.text_is ∙ head-split h has.rest;
}

-- ---- one head

-- a text has one head
pub head-unique : {text : List ℕ} {h k : Head} {a b : ℕ} → HasHead text h a → HasHead text k b
    → (length (print_head h) ≡ length (print_head k)) × (a ≡ b)
head-unique {text} {h} {k} {a} {b} x y =
    let line = line-unique text h.digits h.reason h.line_end (print_section h.fields h.last ++ x.rest) k.digits k.reason k.line_end
    (print_section k.fields k.last ++ y.rest) (head-line x) (head-line y) in
    let section = section_unique (print_section h.fields h.last ++ x.rest) h.fields k.fields h.last k.last x.rest y.rest (x.is_head.fields, refl)
    (subst (λ (t : List ℕ). ReadsSection t k.fields k.last y.rest) (sym line.rest) (y.is_head.fields, refl)) in
    let both : Some a ≡ Some b = sym x.is_head.body ∙ ap (λ (fs : List Field). body_length (map name_and_value fs)) section.0 ∙ y.is_head.body in (
      omega (
        arith,
        ap length x.text_is,
        length-append (print_head h) x.rest,
        ap length y.text_is,
        length-append (print_head k) y.rest,
        ap length section.2,
      ),
      cc,
    )

module _ {text : List ℕ} {line : StatusLine} (at : IsLineAt text line) where
  line-size : line.end ≡ 12 + length at.reason + length (print_end at.end)
  line-size =
      let left = drop line.end text in
      omega (
        arith,
        at.within,
        at.has.three,
        ap length at.has.text_is,
        length-drop line.end text,
        length-append start (at.digits ++ (at.reason ++ (print_end at.end ++ left))),
        length-append at.digits (at.reason ++ (print_end at.end ++ left)),
        length-append at.reason (print_end at.end ++ left),
        length-append (print_end at.end) left,
      )

  same-line : {h : Head} {size : ℕ} (has : HasHead text h size)
      → IsSameLine at.digits at.reason at.end (drop line.end text) h.digits h.reason h.line_end (print_section h.fields h.last ++ has.rest)
  same-line {h} has =
      line-unique text at.digits at.reason at.end (drop line.end text) h.digits h.reason h.line_end (print_section h.fields h.last ++ has.rest)
      at.has (head-line has)

  -- the header block stands behind the line
  pub block-of : {h : Head} {size : ℕ} (has : HasHead text h size) → ReadsSection (drop line.end text) h.fields h.last has.rest
  block-of has = (has.is_head.fields, (same-line has).rest)

  pub end-of : {h : Head} {size : ℕ} (has : HasHead text h size) (headers : List HeaderSpan) (end count : ℕ)
      → IsSectionAt text line.end headers end count h.fields h.last → end ≡ length (print_head h)
  end-of {h} has headers end count section =
      let same = same-line has in
      omega (arith, section.len_is, line-size, head-length h, has.is_head.three, ap length same.reason, ap (λ e. length (print_end e)) same.end)

  pub body-of : {h : Head} {size : ℕ} (has : HasHead text h size) (headers : List HeaderSpan) (end count : ℕ)
      → IsSectionAt text line.end headers end count h.fields h.last → body_length (map (header_bytes text) (take count headers)) ≡ Some size
  body-of has headers end count section = ap body_length section.fields_are ∙ has.is_head.body

  -- a head is the one that was read
  pub only-head : {h : Head} {size : ℕ} (has : HasHead text h size) (headers : List HeaderSpan) (end count n : ℕ)
      → IsSectionAt text line.end headers end count h.fields h.last → Some n ≡ body_length (map (header_bytes text) (take count headers))
      → IsHeadAt text headers (record { status = line.status; headers = count; end = end; body = n }) h size
  only-head {h} {size} has headers end count n section e =
      let body : Some n ≡ Some size = e ∙ body-of has headers end count section in
      record {
        has = has;
        end = end-of has headers end count section;
        status = at.status ∙ ap (λ (ds : List ℕ). digits_value 10 ds) (same-line has).digits;
        body = cc;
        headers_are = section.fields_are;
      }

  -- a line and a whole block are a head
  pub head-from : (headers : List HeaderSpan) (end count n : ℕ) (fields : List Field) (last : LineEnd)
      → IsSectionAt text line.end headers end count fields last → count ≤ 64 → end ≤ 8192
      → Some n ≡ body_length (map (header_bytes text) (take count headers)) → n ≤ 4096
      → (h : Head) × IsHeadAt text headers (record { status = line.status; headers = count; end = end; body = n }) h n
  head-from headers end count n fields last section few short e body_short =
      let h : Head = record { digits = at.digits; reason = at.reason; line_end = at.end; fields = fields; last = last } in
      let size : length (take count headers) ≡ length fields = simp length-map at (ap length section.fields_are) in
      let whole : end ≡ length (print_head h) = omega (arith, section.len_is, line-size, head-length h, at.has.three) in (
        h,
        record {
          has = record {
            is_head = record {
              three = at.has.three;
              digits = at.has.all;
              reason = at.has.is_reason;
              fields = section.reads.0;
              few = omega (arith, size, length-take count headers);
              short = omega (arith, whole);
              body = sym (e ∙ ap body_length section.fields_are);
              body_short = body_short;
            };
            rest = drop end text;
            text_is = at.has.text_is
                ∙ ap (λ (t : List ℕ). start ++ (at.digits ++ (at.reason ++ (print_end at.end ++ t)))) section.reads.1
                ∙ sym (head-split h (drop end text));
          };
          end = whole;
          status = at.status;
          body = refl;
          headers_are = section.fields_are;
        },
      )

-- ---- more bytes

pub head-more : {text : List ℕ} {h : Head} {size : ℕ} (more : List ℕ) → HasHead text h size → HasHead (text ++ more) h size
head-more {text} {h} more has = record {
  is_head = has.is_head;
  rest = has.rest ++ more;
  text_is = ap (λ (t : List ℕ). t ++ more) has.text_is ∙ append_assoc (print_head h) has.rest more;
}

pub head-within : {text : List ℕ} {h : Head} {size : ℕ} → HasHead text h size → length (print_head h) ≤ length text
head-within {text} {h} has = omega (arith, ap length has.text_is, length-append (print_head h) has.rest)

-- with as many bytes as its body has, a head is a reply
pub reply-more : {text : List ℕ} {h : Head} {size : ℕ} → HasHead text h size → HasReply (text ++ replicate size 0) h size
reply-more {text} {h} {size} has = record {
  has_head = head-more (replicate size 0) has;
  whole = omega (arith, head-within has, length-append text (replicate size 0), length-replicate {A = ℕ} size 0);
}

front-of : (text over : List ℕ) (h : Head) → print_head h ≡ text ++ over → length (print_head h) ≤ length text → text ≡ print_head h ++ []
front-of text [] h e short = sym (append-nil text) ∙ sym e ∙ sym (append-nil (print_head h))
front-of text (x ∷ xs) h e short = absurd (omega (arith, ap length e, length-append text (x ∷ xs)))

-- a head that ends within the text doesn't need what follows
pub head-front : {text : List ℕ} {h : Head} {size : ℕ} (more : List ℕ) → HasHead (text ++ more) h size → length (print_head h) ≤ length text
    → HasHead text h size
head-front {text} {h} more has short = elim (cut (print_head h) has.rest text more (sym has.text_is)) [
  | inl inside ↦ record { is_head = has.is_head; rest = inside.byte ∷ inside.left; text_is = inside.is }
  | inr behind ↦ record { is_head = has.is_head; rest = []; text_is = front-of text behind.over h behind.is short }
]

-- ---- what the code answers

pub some-head : (whole : List ℕ) (headers : List HeaderSpan) (r : Option HeadRead)
    → IfSome r (λ read. (h : Head) × IsHeadAt whole headers read h read.body)
    → ((h : Head) (size : ℕ) → HasHead whole h size → IsSomeAnd r (λ read. IsHeadAt whole headers read h size))
    → (IsTrue (is_some r) → HasSomeHead whole) × (HasSomeHead whole → IsTrue (is_some r))
some-head whole headers None found only = (λ no. absurd (let f : false ≡ true = no in cc), λ some. absurd (only some.0 some.1 some.2))
some-head whole headers (Some read) found only = (λ _. (found.0, read.body, found.1.has), λ _. refl)

-- nothing that can end the text ends it
pub never-short : (text : List ℕ) → length text < 12 → (HasSomeHead (text ++ drop (length text) shortest) → ⊥)
    → (more : List ℕ) (h : Head) (size : ℕ) → HasHead (text ++ more) h size → length text < length (print_head h) → ⊥
never-short text short none more h size has cut_short = elim (can-end text more h size has.rest has.is_head has.text_is cut_short) [
  | inl ends ↦ none ends.1
  | inr ends ↦ absurd (omega (arith, ends.0))
]

pub record NoEnding (text : List ℕ) : Type 0 where
  pub on_empty_line : HasSomeHead (text ++ 10 ∷ []) → ⊥
  pub on_line : HasSomeHead (text ++ 10 ∷ 10 ∷ []) → ⊥
  pub on_name : HasSomeHead (text ++ 58 ∷ 10 ∷ 10 ∷ []) → ⊥
  pub on_blanks : HasSomeHead (text ++ 48 ∷ 10 ∷ 10 ∷ []) → ⊥
  pub on_length : HasSomeHead (text ++ 65 ∷ 58 ∷ 10 ∷ 10 ∷ []) → ⊥

no-ending : (text : List ℕ) → NoEnding text → (e : Ending) → HasSomeHead (text ++ print_ending e) → ⊥
no-ending text none empty_line some = none.on_empty_line some
no-ending text none after_line some = none.on_line some
no-ending text none after_name some = none.on_name some
no-ending text none after_blanks some = none.on_blanks some
no-ending text none after_length some = none.on_length some

pub never-long : (text : List ℕ) → 12 ≤ length text → NoEnding text
    → (more : List ℕ) (h : Head) (size : ℕ) → HasHead (text ++ more) h size → length text < length (print_head h) → ⊥
never-long text long none more h size has cut_short = elim (can-end text more h size has.rest has.is_head has.text_is cut_short) [
  | inl ends ↦ absurd (omega (arith, ends.0))
  | inr ends ↦ no-ending text none ends.1 ends.2
]

pub untrue : (b : Bool) (P : Type 0) → ((IsTrue b → P) × (P → IsTrue b)) → b ≡ false → P → ⊥
untrue b P test fails p = let holds : b ≡ true = test.1 p in cc

pub may-become : (text : List ℕ) → ((more : List ℕ) × HasSomeHead (text ++ more)) → CanBecomeReply text
may-become text m =
    let size = m.1.1 in
    let zeros = replicate size 0 in
    (m.0 ++ zeros, m.1.0, size, subst (λ (t : List ℕ). HasReply t m.1.0 size) (append_assoc text m.0 zeros) (reply-more m.1.2))

pub never-becomes : (text : List ℕ) → ((h : Head) (size : ℕ) → HasHead text h size → ⊥)
    → ((more : List ℕ) (h : Head) (size : ℕ) → HasHead (text ++ more) h size → length text < length (print_head h) → ⊥)
    → NeverHasReply text
never-becomes text none never more h size reply = elim (cases_lt (length text) (length (print_head h))) [
  | inl short ↦ never more h size reply.has_head short
  | inr long ↦ none h size (head-front more reply.has_head long)
]

module _ {text : List ℕ} {headers : List HeaderSpan} {read : HeadRead}
    (found : (h : Head) × IsHeadAt text headers read h read.body)
    (only : (h : Head) (size : ℕ) → HasHead text h size → IsHeadAt text headers read h size) where
  -- some of the body isn't there
  pub body-open : length text - read.end < read.body → HasNoReply text × CanBecomeReply text
  body-open less = (
    λ h size reply. let at = only h size reply.has_head in omega (arith, at.end, at.body, reply.whole),
    (replicate read.body 0, found.0, read.body, reply-more found.1.has),
  )

  -- all of it is
  pub body-whole : (view : ReplyView) → read.body ≤ length text - read.end → ((h : Head) (size : ℕ) → IsHeadAt text headers read h size → Says h size view)
      → IsReply text view
  body-whole view enough says =
      (found.0, read.body, record { has_head = found.1.has; whole = omega (arith, found.1.end, head-within found.1.has) }, says found.0 read.body found.1)
