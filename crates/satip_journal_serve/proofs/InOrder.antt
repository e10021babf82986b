-- The entries of all journals in order are those of the history, but for the numbers of their callers.
use Rattle.std.proofs.Common.{◌≡◌, ◌∙◌, ℕ, suc, ◌+◌, Bool, true, false, List, [], ◌∷◌, ◌++◌, length, refl, sym, ap, subst, arith, inl, inr, ⊎_elim}
use Rattle.std.specs.Prelude.{◌==◌}
use Rattle.std.specs.List.{All, Contains}
use Rattle.std.proofs.lemmas.Bool.Decides.{eqb_tells}
use Rattle.std.proofs.lemmas.List.Elements.{All-cons, All-contains, All-nil, All-weaker, Contains-append_right}
use Rattle.satip_base.specs.History.{kept_if}
use Rattle.satip_base.specs.Lists.{Each, Has}
use Rattle.satip_base.proofs.Elements.{Has-append_left, Has-append_right}
use Rattle.satip_plain.specs.declared.events.Event.{Event}
use Rattle.satip_plain.specs.Types.{Config}
use Rattle.satip_plain.specs.State.{State}
use Rattle.satip_plain.specs.Steps.{step}
use Rattle.satip_plain.specs.Histories.{Fits, Item, LegalFrom}
use Rattle.satip_audit.specs.Journals.{Note, Placed, Start}
use Rattle.satip_audit.specs.Verdicts.{at_place, entered, in_order, item}
use Rattle.satip_audit.proofs.IndexLemmas.{entered-append}
use Rattle.satip_journal.specs.Places.{Placed as Own, own_at, placed}
use Rattle.satip_journal_serve.proofs.Notes.{all_notes, joined, noted, notes_from, notes_of}
use Rattle.satip_journal_serve.proofs.Counting.{all_at}

-- ---- each entry of a history is noted in a list

has_kept : (b : Bool) (x y : Own) (xs : List Own) → Has x xs → Has x (kept_if b y xs)
has_kept true x y xs h = inr h
has_kept false x y xs h = h

first_kept : (n : ℕ) (x : Own) (e : Item) (xs : List Own) → e.caller ≡ n → x ≡ placed x.place e → Has x (kept_if (e.caller == n) x xs)
first_kept n x e xs same is =
    ⊎_elim (λ t. subst (λ (b : Bool). Has x (kept_if b x xs)) (sym t.0) (inl refl)) (λ t. absurd (t.1 same)) (eqb_tells e.caller n)

has_own : (place n : ℕ) (h : List Item) (x : Own) → x.entry.caller ≡ n → Has x (all_at place h) → Has x (own_at place n h)
has_own place n [] x own has = absurd has
has_own place n (e ∷ es) x own has =
    ⊎_elim
    (λ (here : x ≡ placed place e).
    let P : Own → Type 0 = λ y. y.entry.caller ≡ n → Has y (own_at place n (e ∷ es)) in
    subst P (sym here) (λ same. first_kept n (placed place e) e (own_at (place + 1) n es) same refl) own)
    (λ (more : Has x (all_at (place + 1) es)).
    has_kept (e.caller == n) x (placed place e) (own_at (place + 1) n es) (has_own (place + 1) n es x own more))
    has

has_noted : (job : ℕ) (xs : List Own) (x : Own) → Has x xs → Has (noted job x) (entered (notes_of job xs))
has_noted job [] x has = absurd has
has_noted job (y ∷ xs) x has =
    ⊎_elim (λ (same : x ≡ y). inl (ap (noted job) same)) (λ (more : Has x xs). inr (has_noted job xs x more)) has

-- one of the lists has the note of an entry
pub record IsNoted (lists : List (List Note)) (x : Own) : Type 0 where
  pub job : ℕ
  pub notes : List Note
  pub contains : Contains lists notes
  pub has : Has (noted job x) (entered notes)

noted_later : (notes : List Note) (lists : List (List Note)) (x : Own) → IsNoted lists x → IsNoted (notes ∷ lists) x
noted_later notes lists x is = record {
  job = is.job;
  notes = is.notes;
  contains = Contains-append_right (notes ∷ []) lists is.notes is.contains;
  has = is.has;
}

noted_from : (job : ℕ) (ns : List ℕ) (h : List Item) (x : Own) → Has x (all_at 0 h) → Has x.entry.caller ns → IsNoted (notes_from job ns h) x
noted_from job [] h x has caller = absurd caller
noted_from job (n ∷ ns) h x has caller =
    ⊎_elim
    (λ (same : x.entry.caller ≡ n).
    let is : IsNoted (notes_of job (own_at 0 n h) ∷ notes_from (job + 1) ns h) x = record {
      job = job;
      notes = notes_of job (own_at 0 n h);
      contains = (0, omega arith, refl);
      has = has_noted job (own_at 0 n h) x (has_own 0 n h x same has);
    } in
    is)
    (λ (more : Has x.entry.caller ns).
    noted_later (notes_of job (own_at 0 n h)) (notes_from (job + 1) ns h) x (noted_from (job + 1) ns h x has more))
    caller

pub noted_all : (start n : ℕ) (ns : List ℕ) (h : List Item) (x : Own) → Has x (all_at 0 h) → Has x.entry.caller (n ∷ ns)
    → IsNoted (all_notes start n ns h) x
noted_all start n ns h x has caller =
    ⊎_elim
    (λ (same : x.entry.caller ≡ n).
    let is : IsNoted (all_notes start n ns h) x = record {
      job = 0;
      notes = Start start ∷ notes_of 0 (own_at 0 n h);
      contains = (0, omega arith, refl);
      has = has_noted 0 (own_at 0 n h) x (has_own 0 n h x same has);
    } in
    is)
    (λ (more : Has x.entry.caller ns).
    noted_later (Start start ∷ notes_of 0 (own_at 0 n h)) (notes_from 1 ns h) x (noted_from 1 ns h x has more))
    caller

abbrev Reaches : List Note → List Note → Type 0
Reaches whole notes = (p : Placed) → Has p (entered notes) → Has p (entered whole)

reach : (lists : List (List Note)) → All (Reaches (joined lists)) lists
reach [] = All-nil (Reaches [])
reach (notes ∷ lists) =
    let cut = entered-append notes (joined lists) in
    let front : Reaches (joined (notes ∷ lists)) notes =
    λ p has. subst (λ (ps : List Placed). Has p ps) (sym cut) (Has-append_left p (entered notes) (entered (joined lists)) has) in
    let on : (other : List Note) → Reaches (joined lists) other → Reaches (joined (notes ∷ lists)) other =
    λ other reaches p has.
    subst (λ (ps : List Placed). Has p ps) (sym cut) (Has-append_right p (entered notes) (entered (joined lists)) (reaches p has)) in
    All-cons (Reaches (joined (notes ∷ lists))) notes lists front
    (All-weaker (Reaches (joined lists)) (Reaches (joined (notes ∷ lists))) on lists (reach lists))

pub has_joined : (lists : List (List Note)) (notes : List Note) (p : Placed) → Contains lists notes → Has p (entered notes) → Has p (entered (joined lists))
has_joined lists notes p contains has = All-contains (Reaches (joined lists)) lists notes (reach lists) contains p has

-- each place of a history is that of an entry
pub all_have : (h : List Item) (callers : List ℕ) → Each (λ e. Has e.caller callers) h → (place : ℕ) (x : Own) → Has x (all_at place h)
    → Has x.entry.caller callers
all_have [] callers all place x has = absurd has
all_have (e ∷ es) callers all place x has =
    ⊎_elim
    (λ (here : x ≡ placed place e). let P : Own → Type 0 = λ y. Has y.entry.caller callers in subst P (sym here) all.0)
    (λ (more : Has x (all_at (place + 1) es)). all_have es callers all.1 (place + 1) x more)
    has

-- ---- the same entries but for their callers and spares

record Same (a b : Item) : Type 0 where
  event : b.event ≡ a.event
  answer : b.answer ≡ a.answer
  reply : b.out.reply ≡ a.out.reply
  datagrams : b.out.datagrams ≡ a.out.datagrams

abbrev AreSame : List Item → List Item → Type 0
AreSame [] [] = Unit {0}
AreSame [] (b ∷ bs) = ⊥
AreSame (a ∷ more) [] = ⊥
AreSame (a ∷ more) (b ∷ bs) = Same a b × AreSame more bs

legal_same : (c : Config) (st : State) (h k : List Item) → AreSame h k → LegalFrom c st h → LegalFrom c st k
legal_same c st [] [] same legal = tt
legal_same c st [] (b ∷ bs) same legal = absurd same
legal_same c st (a ∷ more) [] same legal = absurd same
legal_same c st (a ∷ more) (b ∷ bs) same legal =
    let s = same.0 in
    let fits : Fits (step c st a.event) b = record {
      answer = s.answer ∙ legal.0.answer;
      reply = s.reply ∙ legal.0.reply;
      datagrams = s.datagrams ∙ legal.0.datagrams;
    } in
    let P : Event → Type 0 = λ event. Fits (step c st event) b × LegalFrom c (step c st event).state bs in
    subst P (sym s.event) (fits, legal_same c (step c st a.event).state more bs same.1 legal.1)

-- the entry of a place is this one
pub record Stands (entries : List Placed) (x : Own) : Type 0 where
  pub job : ℕ
  pub is : at_place x.place entries ≡ item (noted job x) ∷ []

order_same : (entries : List Placed) (place : ℕ) (h : List Item) → Each (Stands entries) (all_at place h) → AreSame h (in_order place (length h) entries)
order_same entries place [] each = tt
order_same entries place (e ∷ es) each =
    let here = each.0 in
    let on : place + 1 ≡ suc place = omega arith in
    let rest : AreSame es (in_order (suc place) (length es) entries) =
    subst (λ (p : ℕ). AreSame es (in_order p (length es) entries)) on (order_same entries (place + 1) es each.1) in
    let same : Same e (item (noted here.job (placed place e))) = record { event = refl; answer = refl; reply = refl; datagrams = refl } in
    subst (λ (l : List Item). AreSame (e ∷ es) (l ++ in_order (suc place) (length es) entries)) (sym here.is) (same, rest)

pub legal_order : (c : Config) (st : State) (entries : List Placed) (h : List Item) → Each (Stands entries) (all_at 0 h) → LegalFrom c st h
    → LegalFrom c st (in_order 0 (length h) entries)
legal_order c st entries h each legal = legal_same c st h (in_order 0 (length h) entries) (order_same entries 0 h each) legal
