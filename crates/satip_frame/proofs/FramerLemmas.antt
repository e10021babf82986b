-- What a framer may answer from what stands at the front of its bytes.
use Rattle.std.proofs.Common.{◌≡◌, ℕ, ◌+◌, ◌-◌, ◌<◌, ◌≤◌, List, [], ◌∷◌, ◌++◌, length, take, drop, min, sym, ap, ◌∙◌, subst, inl, inr, arith, length-append, length-drop, drop-drop, append_assoc, append-nil}
use Rattle.httparse.specs.declared.spans.HeaderSpan.{HeaderSpan}
use Rattle.satip_frame.specs.declared.looking.Found.{Found}
use Rattle.satip_frame.specs.declared.looking.Front.{Front}
use Rattle.satip_frame.specs.declared.looking.Seen.{Seen}
use Rattle.satip_frame.specs.declared.looking.Front.TheVariants.{Whole, More, Bad, TooLong}
use Rattle.satip_frame.specs.declared.framing.Break.{Break}
use Rattle.satip_frame.specs.declared.framing.Break.TheVariants.{Bad as cause_bad, TooLong as cause_too_long}
use Rattle.satip_frame.specs.declared.framing.Step.{Step}
use Rattle.satip_frame.specs.Held.{Held, step_of, Tells}
use Rattle.satip_frame.specs.Said.{Said}
use Rattle.satip_frame.specs.Head.{HasNoEmptyLine, IsHeadEnd, IsGoodHead}
use Rattle.satip_frame.specs.Stream.{Tail, Unfinished, Broken, skip_newlines, HasHead, Ends, Begins, Messages, Leads}
use Rattle.satip_frame.specs.Fronts.{IsSeen, IsFront}
use Rattle.satip_frame.specs.Inner.{IsPlace, said_in}
use Rattle.satip_frame.specs.Places.{said_at}
use Rattle.satip_frame.proofs.ReadingLemmas.{no_line_first}
use Rattle.satip_frame.proofs.StreamLemmas.{no_line_more, has_head_more, ends_from_rest, rest_ends, ends_unique, begins_and_ends, leads_more, leads_skipped, skip_newlines_again, skip_shorter, leads-append}

-- ---- what was seen

pub nothing_seen : (text : List ℕ) → IsSeen text (record { looked = 0; needed = 0 })
nothing_seen text = record {
  within = omega arith;
  none = no_line_first text;
  waits = λ more short. absurd (omega arith);
}

pub seen_more : (text more : List ℕ) (seen : Seen) → IsSeen text seen → IsSeen (text ++ more) seen
seen_more text more seen known = record {
  within = omega (arith, known.within, length-append text more);
  none = no_line_more text more seen.looked known.within known.none;
  waits = λ others short.
      let same : (text ++ more) ++ others ≡ text ++ (more ++ others) = append_assoc text more others in
      subst (λ t. Ends t Unfinished) (sym same) (known.waits (more ++ others) (subst (λ t. length t < seen.needed) same short));
}

-- fewer bytes than are needed
pub still_waits : (text : List ℕ) (seen : Seen) → IsSeen text seen → length text < seen.needed → Ends text Unfinished × IsSeen text seen
still_waits text seen known short =
    let same : text ++ [] ≡ text = append-nil text in (
      subst (λ t. Ends t Unfinished) same (known.waits [] (subst (λ t. length t < seen.needed) (sym same) short)),
      known,
    )

-- a head that is looked for in the whole text
pub head_open : (text : List ℕ) → length text < 8192 → HasNoEmptyLine (min 8192 (length text)) text
    → Ends text Unfinished × IsSeen text (record { looked = length text; needed = 0 })
head_open text short none =
    let all : min 8192 (length text) ≡ length text = omega (arith, short) in
    let open_head = subst (λ n. HasNoEmptyLine n text) all none in (
      inl (short, open_head),
      record { within = omega arith; none = open_head; waits = λ more below. absurd (omega arith) },
    )

-- a head whose body isn't whole
pub body_open : (text : List ℕ) (seen : Seen) (head : ℕ) (m : Said) (body : ℕ) → IsSeen text seen → IsHeadEnd text head
    → IsGoodHead (take head text) m body → body ≤ 4096 → length text < head + body
    → Ends text Unfinished × IsSeen text (record { looked = seen.looked; needed = head + body })
body_open text seen head m body known end good fits short =
    let has : HasHead text head m body = record { end = end; good = good } in (
      inr (head, m, body, has, fits, short),
      record {
        within = known.within;
        none = known.none;
        waits = λ more below. inr (head, m, body, has_head_more more has, fits, below);
      },
    )

-- ---- what stands at the front

-- behind the line ends at start the bytes go on at next, where this stands
pub record Stands (items : List ℕ) (start next : ℕ) (headers : List HeaderSpan) (front : Front) : Type 0 where
  pub within : next ≤ length items
  pub skipped : drop next items ≡ skip_newlines (drop start items)
  pub is_front : IsFront (drop next items) headers front

pub stands : {items seen : List ℕ} {start next : ℕ} {headers : List HeaderSpan} {a b : Front} → seen ≡ items → a ≡ b → next ≤ length seen
    → drop next seen ≡ skip_newlines (drop start seen) → IsFront (drop next seen) headers a → Stands items start next headers b
stands {items} {seen} {start} {next} {headers} {a} {b} e f within skipped front = record {
  within = subst (λ xs. next ≤ length xs) e within;
  skipped = subst (λ xs. drop next xs ≡ skip_newlines (drop start xs)) e skipped;
  is_front = subst (IsFront (drop next items) headers) f (subst (λ xs. IsFront (drop next xs) headers a) e front);
}

module _ {items : List ℕ} {start next : ℕ} {headers : List HeaderSpan} {found : Found} (here : Stands items start next headers (Whole found)) where
  -- the message lies in the bytes
  pub whole_within : next + found.len ≤ length items
  whole_within = omega (arith, here.is_front.within, here.within, length-drop next items)

  pub whole_place : IsPlace items headers (record { at = next; found = found })
  whole_place = record {
    within = omega (arith, here.is_front.within, here.is_front.head_first, here.within, length-drop next items);
    line = here.is_front.line;
    counted = omega (arith, here.is_front.counted);
    headers_within = here.is_front.headers_within;
  }

  whole_begins : Begins (skip_newlines (drop start items)) (said_in items headers (record { at = next; found = found })) (drop (next + found.len) items)
  whole_begins =
      let head : take (next + found.head - next) (drop next items) ≡ take found.head (drop next items) =
      ap (λ n. take n (drop next items)) (omega arith) in
      subst (λ b. Begins b (said_in items headers (record { at = next; found = found })) (drop (next + found.len) items)) here.skipped
      (subst (λ h. Begins (drop next items) (said_at h found.line (take found.headers headers)) (drop (next + found.len) items)) (sym head)
      (subst (λ r. Begins (drop next items) (said_at (take found.head (drop next items)) found.line (take found.headers headers)) r)
      (drop-drop found.len next items) here.is_front.begins))

  -- it is the next one of each text
  pub whole_told : (held : List ℕ) → drop start items ≡ held → (text : List ℕ) (ms : List Said) → Leads text ms held
      → Leads text (ms ++ said_in items headers (record { at = next; found = found }) ∷ []) (drop (next + found.len) items)
  whole_told held e text ms leads =
      leads_more text ms held _ _ leads
      (subst (λ b. Begins (skip_newlines b) (said_in items headers (record { at = next; found = found })) (drop (next + found.len) items)) e whole_begins)

  -- and no text ends there
  pub whole_exact : (held : List ℕ) → drop start items ≡ held → (text : List ℕ) (ms : List Said) (tail : Tail) → Leads text ms held
      → Messages text ms tail → ⊥
  whole_exact held e text ms tail leads messages =
      begins_and_ends tail (subst (λ b. Begins (skip_newlines b) (said_in items headers (record { at = next; found = found })) (drop (next + found.len) items))
      e whole_begins)
      (rest_ends text ms held tail leads messages)

-- behind the line ends at start the text ends at next, with this tail
pub record StandsAtEnd (items : List ℕ) (start next : ℕ) (tail : Tail) : Type 0 where
  pub skipped : drop next items ≡ skip_newlines (drop start items)
  pub ends : Ends (drop next items) tail

module _ {items : List ℕ} {start next : ℕ} {headers : List HeaderSpan} where
  pub at_more : {seen : Seen} → Stands items start next headers (More seen) → StandsAtEnd items start next Unfinished
  at_more {seen} here = record { skipped = here.skipped; ends = here.is_front.0 }

  pub at_bad : Stands items start next headers Bad → StandsAtEnd items start next (Broken cause_bad)
  at_bad here = record { skipped = here.skipped; ends = here.is_front }

  pub at_too_long : Stands items start next headers TooLong → StandsAtEnd items start next (Broken cause_too_long)
  at_too_long here = record { skipped = here.skipped; ends = here.is_front }

module _ {items : List ℕ} {start next : ℕ} {tail : Tail} (here : StandsAtEnd items start next tail) where
  -- a text that was read up to here has this tail
  pub end_told : (held : List ℕ) → drop start items ≡ held → (text : List ℕ) (ms : List Said) → Leads text ms held
      → Messages text ms tail × Leads text ms (drop next items)
  end_told held e text ms leads =
      let same : drop next items ≡ skip_newlines held = here.skipped ∙ ap skip_newlines e in (
        ends_from_rest text ms held tail leads (subst (λ b. Ends b tail) same here.ends),
        subst (λ b. Leads text ms b) (sym same) (leads_skipped text ms held leads),
      )

  -- and no other
  pub end_exact : (held : List ℕ) → drop start items ≡ held → (text : List ℕ) (ms : List Said) (t : Tail) → Leads text ms held
      → Messages text ms t → tail ≡ t
  end_exact held e text ms t leads messages =
      let same : drop next items ≡ skip_newlines held = here.skipped ∙ ap skip_newlines e in
      ends_unique (skip_newlines held) tail t (subst (λ b. Ends b tail) same here.ends) (rest_ends text ms held t leads messages)

-- a text that is unfinished leaves room for more
pub unfinished_short : (text : List ℕ) → Ends text Unfinished → length text < 12288
unfinished_short text (inl open_head) = omega (arith, open_head.0)
unfinished_short text (inr body) = omega (arith, body.3.end.within, body.4, body.5)

-- a text that ended stays so
pub ended_told : (held : Held) (cause : Break) (step : Step) → step ≡ step_of (Broken cause) → Ends (skip_newlines held.bytes) (Broken cause)
    → (text : List ℕ) (ms : List Said) → Leads text ms held.bytes → Tells text ms held step
ended_told held cause_bad step e ends text ms leads =
    subst (Tells text ms held) (sym e) (ends_from_rest text ms held.bytes (Broken cause_bad) leads ends, leads)
ended_told held cause_too_long step e ends text ms leads =
    subst (Tells text ms held) (sym e) (ends_from_rest text ms held.bytes (Broken cause_too_long) leads ends, leads)

pub ended_exact : (bytes : List ℕ) (cause : Break) (step : Step) → step ≡ step_of (Broken cause) → Ends (skip_newlines bytes) (Broken cause)
    → (text : List ℕ) (ms : List Said) (tail : Tail) → Leads text ms bytes → Messages text ms tail → step ≡ step_of tail
ended_exact bytes cause step e ends text ms tail leads messages =
    e ∙ ap step_of (ends_unique (skip_newlines bytes) (Broken cause) tail ends (rest_ends text ms bytes tail leads messages))

pub ended_here : {items : List ℕ} {start next : ℕ} {tail : Tail} → StandsAtEnd items start next tail → Ends (skip_newlines (drop next items)) tail
ended_here {items} {start} {next} {tail} here =
    let same : drop next items ≡ skip_newlines (drop next items) =
    here.skipped ∙ sym (skip_newlines_again (drop start items)) ∙ ap skip_newlines (sym here.skipped) in
    subst (λ b. Ends b tail) same here.ends

-- what is held gets no longer
pub held_shorter : {items : List ℕ} {start next : ℕ} {headers : List HeaderSpan} {front : Front} → Stands items start next headers front
    → (held : List ℕ) → drop start items ≡ held → (k : ℕ) → next ≤ k → length (drop k items) ≤ length held
held_shorter {items} {start} {next} {headers} {front} here held e k past =
    omega (arith, length-drop k items, length-drop next items, ap length here.skipped, skip_shorter (drop start items), ap length e)

-- a text goes on with the bytes that are taken
pub leads_on : (new old taken : List ℕ) → new ≡ old ++ taken → (text : List ℕ) (ms : List Said) → Leads text ms old
    → Leads (text ++ taken) ms new
leads_on new old taken e text ms leads = subst (Leads (text ++ taken) ms) (sym e) (leads-append text taken ms old leads)
