-- The messages of a text with frames: determined, and kept when more bytes come.
use Rattle.std.proofs.Common.{◌≡◌, ℕ, zero, suc, ◌+◌, ◌<◌, List, [], ◌∷◌, ◌++◌, length, refl, sym, ap, ◌∙◌, subst, inl, arith, append_assoc, append-nil, lit<}
use Rattle.satip_frame.specs.declared.framing.Break.{Break}
use Rattle.satip_frame.specs.Said.{Said}
use Rattle.satip_frame.specs.Stream.{Tail, Unfinished, Broken, Begins, Ends, Messages}
use Rattle.satip_frame.proofs.StreamLemmas.{begins_unique, begins_and_ends, ends_unique, begins_some, begins_more, broken_some, broken_more}
use Rattle.satip_frame.proofs.ReadingLemmas.{no_line_first, reading_of}
use Rattle.satip_rtsp_interleaved.specs.Frames.{Spot, Between, behind, frame, IsStart}
use Rattle.satip_rtsp_interleaved.specs.Laws.{Frame, Message, joined, messages_in, WholePartsAreRead}
use Rattle.satip_rtsp_interleaved.specs.Parts.{Parts, Leads}
use Rattle.satip_rtsp_interleaved.proofs.FrameLemmas.{behind_clean, behind_some, behind_shorter, frame_passed, start_here}

-- ---- one message at the front

begins_behind_more : (text more : List ℕ) (m : Said) (rest : List ℕ) → Begins (behind Between text) m rest
    → Begins (behind Between (text ++ more)) m (rest ++ more)
begins_behind_more text more m rest x =
    let some = begins_some x in
    subst (λ t. Begins t m (rest ++ more)) (sym (behind_some Between text more (omega (arith, some)))) (begins_more more x)

-- ---- nothing at the front

pub empty_ends : Ends [] Unfinished
empty_ends = inl (lit< tt, no_line_first [])

ends_behind_more : (text more : List ℕ) (cause : Break) → Ends (behind Between text) (Broken cause) → Ends (behind Between (text ++ more)) (Broken cause)
ends_behind_more text more cause x =
    let t = behind Between text in
    subst (λ s. Ends s (Broken cause)) (sym (behind_some Between text more (broken_some t cause x))) (broken_more t cause more x)

-- ---- the laws

pub one_list : (text : List ℕ) (ms ns : List Said) (s t : Tail) → Parts text ms s → Parts text ns t → (ms ≡ ns) × (s ≡ t)
one_list text [] [] s t x y = (refl, ends_unique (behind Between text) s t x y)
one_list text [] (n ∷ ns) s t x y = absurd (begins_and_ends s y.1 x)
one_list text (m ∷ ms) [] s t x y = absurd (begins_and_ends t x.1 y)
one_list text (m ∷ ms) (n ∷ ns) s t x y =
    let first = begins_unique x.1 y.1 in
    let others = one_list y.0 ms ns s t (subst (λ r. Parts r ms s) first.1 x.2) y.2 in
    (λ i. first.0 i ∷ others.0 i, others.1)

pub list_grows : (text more : List ℕ) (ms ns : List Said) (s t : Tail) → Parts text ms s → Parts (text ++ more) ns t
    → (others : List Said) × (ns ≡ ms ++ others)
list_grows text more [] ns s t x y = (ns, refl)
list_grows text more (m ∷ ms) [] s t x y = absurd (begins_and_ends t (begins_behind_more text more m x.0 x.1) y)
list_grows text more (m ∷ ms) (n ∷ ns) s t x y =
    let first = begins_unique y.1 (begins_behind_more text more m x.0 x.1) in
    let others = list_grows x.0 more ms ns s t x.2 (subst (λ r. Parts r ns t) first.1 y.2) in
    (others.0, λ i. first.0 i ∷ others.1 i)

pub broken_stays : (text more : List ℕ) (ms : List Said) (cause : Break) → Parts text ms (Broken cause)
    → Parts (text ++ more) ms (Broken cause)
broken_stays text more [] cause x = ends_behind_more text more cause x
broken_stays text more (m ∷ ms) cause x =
    (x.0 ++ more, begins_behind_more text more m x.0 x.1, broken_stays x.0 more ms cause x.2)

pub leads_first : (text : List ℕ) (ms ns : List Said) (spot : Spot) (rest : List ℕ) (t : Tail) → Leads text ms spot rest → Parts text ns t
    → (others : List Said) × (ns ≡ ms ++ others)
leads_first text [] ns spot rest t x y = (ns, refl)
leads_first text (m ∷ ms) [] spot rest t x y = absurd (begins_and_ends t x.1 y)
leads_first text (m ∷ ms) (n ∷ ns) spot rest t x y =
    let first = begins_unique y.1 x.1 in
    let others = leads_first x.0 ms ns spot rest t x.2 (subst (λ r. Parts r ns t) first.1 y.2) in
    (others.0, λ i. first.0 i ∷ others.1 i)

-- the same text behind frames has the same messages
pub same_parts : (a b : List ℕ) (ms : List Said) (t : Tail) → behind Between a ≡ behind Between b → Parts a ms t → Parts b ms t
same_parts a b [] t e x = subst (λ s. Ends s t) e x
same_parts a b (m ∷ ms) t e x = (x.0, subst (λ s. Begins s m x.0) e x.1, x.2)

-- ---- each text has messages and a tail

abbrev Reading : List ℕ → Type 0
Reading text = (ms : List Said) × (t : Tail) × Parts text ms t

reading_at : (text : List ℕ) (ns : List Said) (t : Tail) → Messages (behind Between text) ns t
    → ((rest : List ℕ) → length rest < length text → Reading rest) → Reading text
reading_at text [] t x later = ([], t, subst (λ s. Ends s t) (behind_clean Between text) x)
reading_at text (m ∷ ns) t x later =
    let begins : Begins (behind Between text) m x.0 = subst (λ s. Begins s m x.0) (behind_clean Between text) x.1 in
    let others = later x.0 (omega (arith, begins_some begins, behind_shorter Between text)) in
    (m ∷ others.0, others.1, (x.0, begins, others.2))

reading_in : (fuel : ℕ) (text : List ℕ) → length text < fuel → Reading text
reading_in zero text short = absurd (omega (arith, short))
reading_in (suc fuel) text short =
    let front = reading_of (behind Between text) in
    reading_at text front.0 front.1 front.2 (λ rest shorter. reading_in fuel rest (omega (arith, short, shorter)))

pub parts_of : (text : List ℕ) → Reading text
parts_of text = reading_in (length text + 1) text (omega arith)

-- ---- what is left of a text

at_end : (text : List ℕ) (spot : Spot) (rest : List ℕ) → Leads text [] spot rest → behind Between text ≡ behind spot rest
at_end text spot rest leads =
    ap (λ t. behind Between t) (sym (append-nil text)) ∙ leads [] ∙ ap (λ t. behind spot t) (append-nil rest)

-- the messages of a text go on with those of what is left
pub ends_from_rest : (text : List ℕ) (ms : List Said) (spot : Spot) (rest : List ℕ) (t : Tail) → Leads text ms spot rest
    → Ends (behind spot rest) t → Parts text ms t
ends_from_rest text [] spot rest t leads ends = subst (λ x. Ends x t) (sym (at_end text spot rest leads)) ends
ends_from_rest text (m ∷ ms) spot rest t leads ends = (leads.0, leads.1, ends_from_rest leads.0 ms spot rest t leads.2 ends)

-- one more message
pub leads_more : (text : List ℕ) (ms : List Said) (spot : Spot) (rest : List ℕ) (m : Said) (after : List ℕ) → Leads text ms spot rest
    → Begins (behind spot rest) m after → Leads text (ms ++ m ∷ []) Between after
leads_more text [] spot rest m after leads begins =
    (after, subst (λ x. Begins x m after) (sym (at_end text spot rest leads)) begins, λ more. refl)
leads_more text (n ∷ ms) spot rest m after leads begins = (leads.0, leads.1, leads_more leads.0 ms spot rest m after leads.2 begins)

-- what goes on in the same way
pub leads_on : (text : List ℕ) (ms : List Said) (spot next : Spot) (rest after : List ℕ) → Leads text ms spot rest
    → ((more : List ℕ) → behind spot (rest ++ more) ≡ behind next (after ++ more)) → Leads text ms next after
leads_on text [] spot next rest after leads same = λ more. leads more ∙ same more
leads_on text (m ∷ ms) spot next rest after leads same = (leads.0, leads.1, leads_on leads.0 ms spot next rest after leads.2 same)

pub leads-append : (text more : List ℕ) (ms : List Said) (spot : Spot) (rest : List ℕ) → Leads text ms spot rest
    → Leads (text ++ more) ms spot (rest ++ more)
leads-append text more [] spot rest x = λ later.
    ap (λ t. behind Between t) (append_assoc text more later) ∙ x (more ++ later) ∙ ap (λ t. behind spot t) (sym (append_assoc rest more later))
leads-append text more (m ∷ ms) spot rest x =
    (x.0 ++ more, begins_behind_more text more m x.0 x.1, leads-append x.0 more ms spot rest x.2)

-- ---- whole parts

start_more : (bytes more : List ℕ) → IsStart bytes → IsStart (bytes ++ more)
start_more [] more start = absurd start
start_more (b ∷ bytes) more start = start

pub whole_parts : WholePartsAreRead
whole_parts [] whole = empty_ends
whole_parts (Frame channel bytes ∷ parts) whole =
    same_parts (joined parts) (frame channel bytes ++ joined parts) (messages_in parts) Unfinished
    (sym (frame_passed channel bytes (joined parts))) (whole_parts parts whole.1)
whole_parts (Message bytes m ∷ parts) whole =
    let rest = joined parts in (
      rest,
      subst (λ t. Begins t m rest) (sym (start_here (bytes ++ rest) (start_more bytes rest whole.0))) (begins_more rest whole.1),
      whole_parts parts whole.2,
    )
