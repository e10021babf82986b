-- Texts of messages: what one begins with is determined, and stays when more bytes come.
use Rattle.std.proofs.Common.{◌≡◌, ℕ, ◌+◌, ◌<◌, ◌≤◌, Bool, true, false, cond, List, [], ◌∷◌, ◌++◌, length, take, drop, map, refl, sym, ap, ◌∙◌, subst, inl, inr, ⊎_elim, arith, length-append, length-drop, Some, IsTrue}
use Rattle.std.proofs.lemmas.Bool.{cases_order, cases_lt}
use Rattle.std.proofs.lemmas.List.{take-append-le, drop-append-le}
use Rattle.httparse.specs.Grammar.{ReadsSection}
use Rattle.httparse.specs.Pieces.{is_newline}
use Rattle.httparse.specs.Spans.{name_and_value}
use Rattle.httparse.proofs.GrammarLemmas.{section_unique}
use Rattle.satip_frame.specs.declared.framing.Break.{Break}
use Rattle.satip_frame.specs.declared.framing.Break.TheVariants.{Bad, TooLong}
use Rattle.satip_frame.specs.Said.{Said, body_length}
use Rattle.satip_frame.specs.Head.{IsHeadEnd, HasNoEmptyLine, ends_in_empty_line, ReadsHead, IsGoodHead}
use Rattle.satip_frame.specs.Stream.{Tail, Unfinished, Broken, skip_newlines, HasHead, Begins, Ends, IsHeadBad, IsBodyTooLong, Messages, Leads, AreFirst}
use Rattle.satip_frame.proofs.LineLemmas.{Line_deterministic}
use Rattle.satip_frame.proofs.HeadLemmas.{line_of_head}

-- ---- one head

pub head_end_unique : {text : List ℕ} {a b : ℕ} → IsHeadEnd text a → IsHeadEnd text b → a ≡ b
head_end_unique {text} {a} {b} x y =
    ⊎_elim (λ same. same) (⊎_elim (λ less. absurd (y.first a less x.ends)) (λ more. absurd (x.first b more y.ends))) (cases_order a b)

-- a head reads as one message
pub reads_unique : {head : List ℕ} {m n : Said} → ReadsHead head m → ReadsHead head n → m ≡ n
reads_unique {head} {m} {n} x y =
    let line = Line_deterministic.unique (m.method, (m.target, (m.version, x.line_end))) (n.method, (n.target, (n.version, y.line_end)))
    head x.block y.block (line_of_head x) (line_of_head y) in
    let section = section_unique y.block x.fields y.fields x.last y.last [] []
    (subst (λ b. ReadsSection b x.fields x.last []) line.1 x.section) y.section in
    let headers : m.headers ≡ n.headers = x.headers ∙ ap (λ fs. map name_and_value fs) section.0 ∙ sym y.headers in
    λ i. record { method = (line.0 i).0; target = (line.0 i).1.0; version = (line.0 i).1.1.0; headers = headers i }

pub good_unique : {head : List ℕ} {m n : Said} {a b : ℕ} → IsGoodHead head m a → IsGoodHead head n b → (m ≡ n) × (a ≡ b)
good_unique {head} {m} {n} {a} {b} x y =
    let same = reads_unique x.reads y.reads in
    let both : Some a ≡ Some b = sym x.body ∙ ap (λ (k : Said). body_length k.headers) same ∙ y.body in
    (same, cc)

pub has_head_unique : {text : List ℕ} {h k : ℕ} {m n : Said} {a b : ℕ} → HasHead text h m a → HasHead text k n b
    → (h ≡ k) × (m ≡ n) × (a ≡ b)
has_head_unique {text} {h} {k} {m} {n} {a} {b} x y =
    let end = head_end_unique x.end y.end in
    let good = good_unique x.good (subst (λ i. IsGoodHead (take i text) n b) (sym end) y.good) in
    (end, good.0, good.1)

-- ---- one beginning

pub begins_unique : {text : List ℕ} {m n : Said} {r q : List ℕ} → Begins text m r → Begins text n q → (m ≡ n) × (r ≡ q)
begins_unique {text} {m} {n} {r} {q} x y =
    let same = has_head_unique x.has_head y.has_head in
    let sum : x.head + x.body ≡ y.head + y.body = omega (arith, same.0, same.2) in
    (same.1, x.rest_is ∙ ap (λ i. drop i text) sum ∙ sym y.rest_is)

-- a text with a head doesn't lack one
open_without_end : {text : List ℕ} {h : ℕ} → IsHeadEnd text h → HasNoEmptyLine (length text) text → ⊥
open_without_end {text} {h} end none = none h end.in_range end.ends

endless_without_end : {text : List ℕ} {h : ℕ} → IsHeadEnd text h → HasNoEmptyLine 8192 text → ⊥
endless_without_end {text} {h} end none = none h end.within end.ends

bad_without_good : {text : List ℕ} {h : ℕ} {m : Said} {b : ℕ} → HasHead text h m b → IsHeadBad text → ⊥
bad_without_good {text} {h} {m} {b} has bad =
    let end = head_end_unique has.end bad.1 in
    bad.2 m b (subst (λ i. IsGoodHead (take i text) m b) end has.good)

pub begins_and_ends : {text : List ℕ} {m : Said} {r : List ℕ} (t : Tail) → Begins text m r → Ends text t → ⊥
begins_and_ends Unfinished x (inl open_head) = open_without_end x.has_head.end open_head.1
begins_and_ends Unfinished x (inr body) =
    let same = has_head_unique x.has_head body.3 in omega (arith, same.0, same.2, x.whole, body.5)
begins_and_ends (Broken Bad) x (inl endless) = endless_without_end x.has_head.end endless.1
begins_and_ends (Broken Bad) x (inr bad) = bad_without_good x.has_head bad
begins_and_ends (Broken TooLong) x long =
    let same = has_head_unique x.has_head long.3 in omega (arith, same.2, x.fits, long.4)

-- ---- one end

bad_alone : {text : List ℕ} → Ends text (Broken Bad) → Ends text Unfinished → ⊥
bad_alone {text} (inl endless) (inl open_head) = omega (arith, endless.0, open_head.0)
bad_alone {text} (inl endless) (inr body) = endless_without_end body.3.end endless.1
bad_alone {text} (inr bad) (inl open_head) = open_without_end bad.1 open_head.1
bad_alone {text} (inr bad) (inr body) = bad_without_good body.3 bad

long_alone : {text : List ℕ} → IsBodyTooLong text → Ends text Unfinished → ⊥
long_alone {text} long (inl open_head) = open_without_end long.3.end open_head.1
long_alone {text} long (inr body) = let same = has_head_unique long.3 body.3 in omega (arith, same.2, long.4, body.4)

bad_not_long : {text : List ℕ} → Ends text (Broken Bad) → IsBodyTooLong text → ⊥
bad_not_long {text} (inl endless) long = endless_without_end long.3.end endless.1
bad_not_long {text} (inr bad) long = bad_without_good long.3 bad

pub ends_unique : (text : List ℕ) (s t : Tail) → Ends text s → Ends text t → s ≡ t
ends_unique text Unfinished Unfinished x y = refl
ends_unique text Unfinished (Broken Bad) x y = absurd (bad_alone y x)
ends_unique text Unfinished (Broken TooLong) x y = absurd (long_alone y x)
ends_unique text (Broken Bad) Unfinished x y = absurd (bad_alone x y)
ends_unique text (Broken Bad) (Broken Bad) x y = refl
ends_unique text (Broken Bad) (Broken TooLong) x y = absurd (bad_not_long x y)
ends_unique text (Broken TooLong) Unfinished x y = absurd (long_alone x y)
ends_unique text (Broken TooLong) (Broken Bad) x y = absurd (bad_not_long y x)
ends_unique text (Broken TooLong) (Broken TooLong) x y = refl

-- ---- what is left of a text

skip_newlines_by : (b : ℕ) (text : List ℕ) (r : Bool) → is_newline b ≡ r → skip_newlines (skip_newlines text) ≡ skip_newlines text
    → skip_newlines (cond (is_newline b) (skip_newlines text) (b ∷ text)) ≡ cond (is_newline b) (skip_newlines text) (b ∷ text)
skip_newlines_by b text true e again = rw e again
skip_newlines_by b text false e again = rw (e, e) refl

pub skip_newlines_again : (text : List ℕ) → skip_newlines (skip_newlines text) ≡ skip_newlines text
skip_newlines_again [] = refl
skip_newlines_again (b ∷ text) = skip_newlines_by b text (is_newline b) refl (skip_newlines_again text)

-- the messages of a text go on with those of what is left
pub ends_from_rest : (text : List ℕ) (ms : List Said) (rest : List ℕ) (t : Tail) → Leads text ms rest → Ends (skip_newlines rest) t
    → Messages text ms t
ends_from_rest text [] rest t leads ends = subst (λ x. Ends x t) (sym leads) ends
ends_from_rest text (m ∷ ms) rest t leads ends = (leads.0, leads.1, ends_from_rest leads.0 ms rest t leads.2 ends)

-- and what is left has the tail of the text
pub rest_ends : (text : List ℕ) (ms : List Said) (rest : List ℕ) (t : Tail) → Leads text ms rest → Messages text ms t
    → Ends (skip_newlines rest) t
rest_ends text [] rest t leads ends = subst (λ x. Ends x t) leads ends
rest_ends text (m ∷ ms) rest t leads messages =
    let same = begins_unique messages.1 leads.1 in
    rest_ends leads.0 ms rest t leads.2 (subst (λ x. Messages x ms t) same.1 messages.2)

-- one more message
pub leads_more : (text : List ℕ) (ms : List Said) (rest : List ℕ) (m : Said) (after : List ℕ) → Leads text ms rest
    → Begins (skip_newlines rest) m after → Leads text (ms ++ m ∷ []) after
leads_more text [] rest m after leads begins = (after, subst (λ x. Begins x m after) (sym leads) begins, refl)
leads_more text (n ∷ ms) rest m after leads begins = (leads.0, leads.1, leads_more leads.0 ms rest m after leads.2 begins)

-- CR and LF that are dropped count nowhere
pub leads_skipped : (text : List ℕ) (ms : List Said) (rest : List ℕ) → Leads text ms rest → Leads text ms (skip_newlines rest)
leads_skipped text [] rest leads = leads ∙ sym (skip_newlines_again rest)
leads_skipped text (m ∷ ms) rest leads = (leads.0, leads.1, leads_skipped leads.0 ms rest leads.2)

-- ---- more bytes

take_more : (text more : List ℕ) (k n : ℕ) → k ≤ n → n ≤ length text → take k (text ++ more) ≡ take k text
take_more text more k n below inside = take-append-le k text more (omega arith)

pub no_line_more : (text more : List ℕ) (n : ℕ) → n ≤ length text → HasNoEmptyLine n text → HasNoEmptyLine n (text ++ more)
no_line_more text more n inside none = λ k below ends.
    none k below (subst (λ t. IsTrue (ends_in_empty_line t)) (take_more text more k n below inside) ends)

head_end_more : {text : List ℕ} {n : ℕ} (more : List ℕ) → IsHeadEnd text n → IsHeadEnd (text ++ more) n
head_end_more {text} {n} more end = record {
  in_range = omega (arith, end.in_range, length-append text more);
  within = end.within;
  ends = subst (λ t. IsTrue (ends_in_empty_line t)) (sym (take_more text more n n (omega arith) end.in_range)) end.ends;
  first = λ k below ends.
      end.first k below (subst (λ t. IsTrue (ends_in_empty_line t)) (take_more text more k n (omega arith) end.in_range) ends);
}

pub has_head_more : {text : List ℕ} {h : ℕ} {m : Said} {b : ℕ} (more : List ℕ) → HasHead text h m b → HasHead (text ++ more) h m b
has_head_more {text} {h} {m} {b} more has = record {
  end = head_end_more more has.end;
  good = subst (λ t. IsGoodHead t m b) (sym (take_more text more h h (omega arith) has.end.in_range)) has.good;
}

pub begins_more : {text : List ℕ} {m : Said} {rest : List ℕ} (more : List ℕ) → Begins text m rest → Begins (text ++ more) m (rest ++ more)
begins_more {text} {m} {rest} more x = record {
  head = x.head;
  body = x.body;
  has_head = has_head_more more x.has_head;
  fits = x.fits;
  whole = omega (arith, x.whole, length-append text more);
  rest_is = ap (λ r. r ++ more) x.rest_is ∙ sym (drop-append-le (x.head + x.body) text more x.whole);
}

pub broken_more : (text : List ℕ) (cause : Break) (more : List ℕ) → Ends text (Broken cause) → Ends (text ++ more) (Broken cause)
broken_more text Bad more (inl endless) =
    inl (omega (arith, endless.0, length-append text more), no_line_more text more 8192 endless.0 endless.1)
broken_more text Bad more (inr bad) =
    inr (
      bad.0,
      head_end_more more bad.1,
      λ m b good.
          bad.2 m b (subst (λ t. IsGoodHead t m b) (take_more text more bad.0 bad.0 (omega arith) bad.1.in_range) good),
    )
broken_more text TooLong more long = (long.0, long.1, long.2, has_head_more more long.3, long.4)

skip_append_by : (b : ℕ) (text more : List ℕ) (r : Bool) → is_newline b ≡ r
    → skip_newlines (text ++ more) ≡ skip_newlines (skip_newlines text ++ more)
    → cond (is_newline b) (skip_newlines (text ++ more)) (b ∷ (text ++ more))
    ≡ skip_newlines (cond (is_newline b) (skip_newlines text) (b ∷ text) ++ more)
skip_append_by b text more true e again = rw e again
skip_append_by b text more false e again = rw (e, e) refl

skip_some_by : (b : ℕ) (text more : List ℕ) (r : Bool) → is_newline b ≡ r
    → 0 < length (cond (is_newline b) (skip_newlines text) (b ∷ text))
    → (0 < length (skip_newlines text) → skip_newlines (text ++ more) ≡ skip_newlines text ++ more)
    → cond (is_newline b) (skip_newlines (text ++ more)) (b ∷ (text ++ more))
    ≡ cond (is_newline b) (skip_newlines text) (b ∷ text) ++ more
skip_some_by b text more true e some again = rw e (again (rw e at some))
skip_some_by b text more false e some again = rw e refl

skip_shorter_by : (b : ℕ) (text : List ℕ) (r : Bool) → is_newline b ≡ r → length (skip_newlines text) ≤ length text
    → length (cond (is_newline b) (skip_newlines text) (b ∷ text)) ≤ length (b ∷ text)
skip_shorter_by b text true e again = rw e (omega arith)
skip_shorter_by b text false e again = rw e (omega arith)

-- the text behind its line ends, when more bytes come
pub skip_newlines-append : (text more : List ℕ) → skip_newlines (text ++ more) ≡ skip_newlines (skip_newlines text ++ more)
skip_newlines-append [] more = refl
skip_newlines-append (b ∷ text) more = skip_append_by b text more (is_newline b) refl (skip_newlines-append text more)

skip_some : (text more : List ℕ) → 0 < length (skip_newlines text) → skip_newlines (text ++ more) ≡ skip_newlines text ++ more
skip_some [] more some = absurd (omega arith)
skip_some (b ∷ text) more some = skip_some_by b text more (is_newline b) refl some (skip_some text more)

pub skip_shorter : (text : List ℕ) → length (skip_newlines text) ≤ length text
skip_shorter [] = omega arith
skip_shorter (b ∷ text) = skip_shorter_by b text (is_newline b) refl (skip_shorter text)

-- a head isn't empty, since an empty line ends it
head_some : {text : List ℕ} {n : ℕ} → IsHeadEnd text n → 0 < n
head_some {text} {n} end = ⊎_elim (λ some. some) (λ none.
    let zero_is : n ≡ 0 = omega arith in
    let zero_bytes : take n text ≡ [] = ap (λ k. take k text) zero_is in
    let yes : false ≡ true = subst (λ t. IsTrue (ends_in_empty_line t)) zero_bytes end.ends in
    absurd (cc)) (cases_lt 0 n)

pub begins_some : {text : List ℕ} {m : Said} {rest : List ℕ} → Begins text m rest → length rest < length text
begins_some {text} {m} {rest} x =
    let some = head_some x.has_head.end in
    omega (arith, ap length x.rest_is, length-drop (x.head + x.body) text, x.whole)

-- a message at the front stays there
begins_skipped_more : (text more : List ℕ) (m : Said) (rest : List ℕ) → Begins (skip_newlines text) m rest
    → Begins (skip_newlines (text ++ more)) m (rest ++ more)
begins_skipped_more text more m rest x =
    let some = begins_some x in
    subst (λ t. Begins t m (rest ++ more)) (sym (skip_some text more (omega arith))) (begins_more more x)

pub broken_some : (text : List ℕ) (cause : Break) → Ends text (Broken cause) → 0 < length text
broken_some text Bad (inl endless) = omega (arith, endless.0)
broken_some text Bad (inr bad) = omega (arith, head_some bad.1, bad.1.in_range)
broken_some text TooLong long = omega (arith, head_some long.3.end, long.3.end.in_range)

-- ---- the laws

pub one_list : (text : List ℕ) (ms ns : List Said) (s t : Tail) → Messages text ms s → Messages text ns t → (ms ≡ ns) × (s ≡ t)
one_list text [] [] s t x y = (refl, ends_unique (skip_newlines text) s t x y)
one_list text [] (n ∷ ns) s t x y = absurd (begins_and_ends s y.1 x)
one_list text (m ∷ ms) [] s t x y = absurd (begins_and_ends t x.1 y)
one_list text (m ∷ ms) (n ∷ ns) s t x y =
    let first = begins_unique x.1 y.1 in
    let others = one_list y.0 ms ns s t (subst (λ r. Messages r ms s) first.1 x.2) y.2 in
    (λ i. first.0 i ∷ others.0 i, others.1)

pub list_grows : (text more : List ℕ) (ms ns : List Said) (s t : Tail) → Messages text ms s → Messages (text ++ more) ns t
    → (others : List Said) × (ns ≡ ms ++ others)
list_grows text more [] ns s t x y = (ns, refl)
list_grows text more (m ∷ ms) [] s t x y = absurd (begins_and_ends t (begins_skipped_more text more m x.0 x.1) y)
list_grows text more (m ∷ ms) (n ∷ ns) s t x y =
    let first = begins_unique y.1 (begins_skipped_more text more m x.0 x.1) in
    let others = list_grows x.0 more ms ns s t x.2 (subst (λ r. Messages r ns t) first.1 y.2) in
    (others.0, λ i. first.0 i ∷ others.1 i)

pub broken_stays : (text more : List ℕ) (ms : List Said) (cause : Break) → Messages text ms (Broken cause)
    → Messages (text ++ more) ms (Broken cause)
broken_stays text more [] cause x =
    subst (λ t. Ends t (Broken cause)) (sym (skip_some text more (broken_some (skip_newlines text) cause x))) (broken_more (skip_newlines text) cause more x)
broken_stays text more (m ∷ ms) cause x =
    (x.0 ++ more, begins_skipped_more text more m x.0 x.1, broken_stays x.0 more ms cause x.2)

pub leads_first : (text : List ℕ) (ms ns : List Said) (rest : List ℕ) (t : Tail) → Leads text ms rest → Messages text ns t
    → (others : List Said) × (ns ≡ ms ++ others)
leads_first text [] ns rest t x y = (ns, refl)
leads_first text (m ∷ ms) [] rest t x y = absurd (begins_and_ends t x.1 y)
leads_first text (m ∷ ms) (n ∷ ns) rest t x y =
    let first = begins_unique y.1 x.1 in
    let others = leads_first x.0 ms ns rest t x.2 (subst (λ r. Messages r ns t) first.1 y.2) in
    (others.0, λ i. first.0 i ∷ others.1 i)

pub all_lead : (text : List ℕ) (ms : List Said) (t : Tail) → Messages text ms t → AreFirst ms text
all_lead text [] t x = (text, refl)
all_lead text (m ∷ ms) t x = let others = all_lead x.0 ms t x.2 in (others.0, (x.0, x.1, others.1))

pub leads-append : (text more : List ℕ) (ms : List Said) (rest : List ℕ) → Leads text ms rest → Leads (text ++ more) ms (rest ++ more)
leads-append text more [] rest x =
    skip_newlines-append text more ∙ ap (λ t. skip_newlines (t ++ more)) x ∙ sym (skip_newlines-append rest more)
leads-append text more (m ∷ ms) rest x =
    (x.0 ++ more, begins_skipped_more text more m x.0 x.1, leads-append x.0 more ms rest x.2)

pub first_fit : (text : List ℕ) (ms : List Said) (rest : List ℕ) → Leads text ms rest → length ms ≤ length text
first_fit text [] rest x = omega arith
first_fit text (m ∷ ms) rest x =
    omega (arith, first_fit x.0 ms rest x.2, begins_some x.1, skip_shorter text)
