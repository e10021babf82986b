-- How often places are named by the journals of callers.
use Rattle.std.proofs.Common.{◌≡◌, ◌∙◌, ℕ, suc, ◌+◌, Bool, true, false, cond, List, [], ◌∷◌, ◌++◌, length, map, refl, ap, subst, arith, inl, inr, ⊎_elim, length-append}
use Rattle.std.specs.Prelude.{◌==◌, sum_by}
use Rattle.std.proofs.lemmas.List.{map-append}
use Rattle.std.proofs.lemmas.Bool.Decides.{eqb_tells}
use Rattle.std.proofs.lemmas.List.Sums.{sum_by-append, sum_by-cons}
use Rattle.satip_base.specs.History.{kept_if}
use Rattle.satip_base.specs.Lists.{Each, Has}
use Rattle.satip_plain.specs.Histories.{Item}
use Rattle.satip_turn.specs.Faithful.{AreApart}
use Rattle.satip_audit.specs.Journals.{Note, Placed, Start}
use Rattle.satip_audit.specs.Places.{Counts, times}
use Rattle.satip_audit.specs.Verdicts.{entered, places_in, starts}
use Rattle.satip_audit.proofs.IndexLemmas.{entered-append, starts-append}
use Rattle.satip_journal.specs.Places.{Placed as Own, own_at, placed}
use Rattle.satip_journal_serve.proofs.Notes.{all_notes, joined, notes_from, notes_of}

abbrev pub places : List Own → List ℕ
places xs = map (λ (x : Own). x.place) xs

-- all entries of a history with their places
abbrev pub all_at : ℕ → List Item → List Own
all_at place [] = []
all_at place (e ∷ es) = placed place e ∷ all_at (place + 1) es

pub all_count : (place : ℕ) (h : List Item) → Counts place (places (all_at place h))
all_count place [] = tt
all_count place (e ∷ es) =
    let on : place + 1 ≡ suc place = omega arith in
    (refl, subst (λ (p : ℕ). Counts p (places (all_at (place + 1) es))) on (all_count (place + 1) es))

-- v for each of the callers that is c
abbrev hits : ℕ → ℕ → List ℕ → ℕ
hits c v [] = 0
hits c v (n ∷ ns) = cond (c == n) v 0 + hits c v ns

miss : (c v n : ℕ) → (c ≡ n → ⊥) → cond (c == n) v 0 ≡ 0
miss c v n other = ⊎_elim (λ t. absurd (other t.1)) (λ t. ap (λ (b : Bool). cond b v 0) t.0) (eqb_tells c n)

hit : (c v n : ℕ) → c ≡ n → cond (c == n) v 0 ≡ v
hit c v n same = ⊎_elim (λ t. ap (λ (b : Bool). cond b v 0) t.0) (λ t. absurd (t.1 same)) (eqb_tells c n)

hits_none : (c v : ℕ) (ns : List ℕ) → (Has c ns → ⊥) → hits c v ns ≡ 0
hits_none c v [] none = refl
hits_none c v (n ∷ ns) none =
    let here = miss c v n (λ same. none (inl same)) in
    let rest = hits_none c v ns (λ has. none (inr has)) in
    omega (arith, here, rest)

hits_one : (c v : ℕ) (ns : List ℕ) → AreApart ns → Has c ns → hits c v ns ≡ v
hits_one c v [] apart has = absurd has
hits_one c v (n ∷ ns) apart has =
    ⊎_elim
    (λ (same : c ≡ n).
    let here = hit c v n same in
    let rest = hits_none c v ns (λ more. apart.0 (subst (λ (k : ℕ). Has k ns) same more)) in
    omega (arith, here, rest))
    (λ (more : Has c ns).
    let here = miss c v n (λ same. apart.0 (subst (λ (k : ℕ). Has k ns) same more)) in
    let rest = hits_one c v ns apart.1 more in
    omega (arith, here, rest))
    has

-- how often all of the callers name a place, and how many entries they have
abbrev pub named : ℕ → List ℕ → List Item → ℕ → ℕ
named place [] h q = 0
named place (n ∷ ns) h q = times (places (own_at place n h)) q + named place ns h q

abbrev pub owned : ℕ → List ℕ → List Item → ℕ
owned place [] h = 0
owned place (n ∷ ns) h = length (own_at place n h) + owned place ns h

times_kept : (b : Bool) (place : ℕ) (e : Item) (xs : List Own) (q : ℕ)
    → times (places (kept_if b (placed place e) xs)) q ≡ cond b (cond (place == q) 1 0) 0 + times (places xs) q
times_kept true place e xs q = sum_by-cons (λ (p : ℕ). cond (p == q) 1 0) place (places xs)
times_kept false place e xs q = omega arith

length_kept : (b : Bool) (x : Own) (xs : List Own) → length (kept_if b x xs) ≡ cond b 1 0 + length xs
length_kept true x xs = omega arith
length_kept false x xs = omega arith

named_step : (place : ℕ) (e : Item) (es : List Item) (q : ℕ) (ns : List ℕ)
    → named place ns (e ∷ es) q ≡ hits e.caller (cond (place == q) 1 0) ns + named (place + 1) ns es q
named_step place e es q [] = omega arith
named_step place e es q (n ∷ ns) =
    let here = times_kept (e.caller == n) place e (own_at (place + 1) n es) q in
    let rest = named_step place e es q ns in
    omega (arith, here, rest)

owned_step : (place : ℕ) (e : Item) (es : List Item) (ns : List ℕ) → owned place ns (e ∷ es) ≡ hits e.caller 1 ns + owned (place + 1) ns es
owned_step place e es [] = omega arith
owned_step place e es (n ∷ ns) =
    let here = length_kept (e.caller == n) (placed place e) (own_at (place + 1) n es) in
    let rest = owned_step place e es ns in
    omega (arith, here, rest)

named_none : (place : ℕ) (ns : List ℕ) (q : ℕ) → named place ns [] q ≡ 0
named_none place [] q = refl
named_none place (n ∷ ns) q = let rest = named_none place ns q in omega (arith, rest)

owned_none : (place : ℕ) (ns : List ℕ) → owned place ns [] ≡ 0
owned_none place [] = refl
owned_none place (n ∷ ns) = let rest = owned_none place ns in omega (arith, rest)

-- where each entry is of one of the callers, whose numbers differ
module _ (ns : List ℕ) (apart : AreApart ns) where
  pub named_all : (place : ℕ) (h : List Item) (q : ℕ) → Each (λ e. Has e.caller ns) h → named place ns h q ≡ times (places (all_at place h)) q
  named_all place [] q all = named_none place ns q
  named_all place (e ∷ es) q all =
      let step = named_step place e es q ns in
      let one = hits_one e.caller (cond (place == q) 1 0) ns apart all.0 in
      let rest = named_all (place + 1) es q all.1 in
      let count = sum_by-cons (λ (p : ℕ). cond (p == q) 1 0) place (places (all_at (place + 1) es)) in
      omega (arith, step, one, rest, count)

  pub owned_all : (place : ℕ) (h : List Item) → Each (λ e. Has e.caller ns) h → owned place ns h ≡ length h
  owned_all place [] all = owned_none place ns
  owned_all place (e ∷ es) all =
      let step = owned_step place e es ns in
      let one = hits_one e.caller 1 ns apart all.0 in
      let rest = owned_all (place + 1) es all.1 in
      omega (arith, step, one, rest)

-- ---- the same of notes

notes_places : (job : ℕ) (xs : List Own) → places_in (entered (notes_of job xs)) ≡ places xs
notes_places job [] = refl
notes_places job (x ∷ xs) = ap (λ (l : List ℕ). x.place ∷ l) (notes_places job xs)

notes_long : (job : ℕ) (xs : List Own) → length (entered (notes_of job xs)) ≡ length xs
notes_long job [] = refl
notes_long job (x ∷ xs) = let rest = notes_long job xs in omega (arith, rest)

notes_starts : (job : ℕ) (xs : List Own) → starts (notes_of job xs) ≡ []
notes_starts job [] = refl
notes_starts job (x ∷ xs) = notes_starts job xs

abbrev pub times_in : ℕ → List Note → ℕ
times_in q notes = times (places_in (entered notes)) q

abbrev pub count_in : List Note → ℕ
count_in notes = length (entered notes)

abbrev pub starts_in : List Note → ℕ
starts_in notes = length (starts notes)

from_times : (job : ℕ) (ns : List ℕ) (h : List Item) (q : ℕ) → sum_by (times_in q) (notes_from job ns h) ≡ named 0 ns h q
from_times job [] h q = refl
from_times job (n ∷ ns) h q =
    let step = sum_by-cons (times_in q) (notes_of job (own_at 0 n h)) (notes_from (job + 1) ns h) in
    let here : times_in q (notes_of job (own_at 0 n h)) ≡ times (places (own_at 0 n h)) q =
    ap (λ (l : List ℕ). times l q) (notes_places job (own_at 0 n h)) in
    let rest = from_times (job + 1) ns h q in
    omega (arith, step, here, rest)

pub all_times : (start n : ℕ) (ns : List ℕ) (h : List Item) (q : ℕ) → sum_by (times_in q) (all_notes start n ns h) ≡ named 0 (n ∷ ns) h q
all_times start n ns h q =
    let step = sum_by-cons (times_in q) (Start start ∷ notes_of 0 (own_at 0 n h)) (notes_from 1 ns h) in
    let here : times_in q (Start start ∷ notes_of 0 (own_at 0 n h)) ≡ times (places (own_at 0 n h)) q =
    ap (λ (l : List ℕ). times l q) (notes_places 0 (own_at 0 n h)) in
    let rest = from_times 1 ns h q in
    omega (arith, step, here, rest)

from_count : (job : ℕ) (ns : List ℕ) (h : List Item) → sum_by count_in (notes_from job ns h) ≡ owned 0 ns h
from_count job [] h = refl
from_count job (n ∷ ns) h =
    let step = sum_by-cons count_in (notes_of job (own_at 0 n h)) (notes_from (job + 1) ns h) in
    let here : count_in (notes_of job (own_at 0 n h)) ≡ length (own_at 0 n h) = notes_long job (own_at 0 n h) in
    let rest = from_count (job + 1) ns h in
    omega (arith, step, here, rest)

pub all_counted : (start n : ℕ) (ns : List ℕ) (h : List Item) → sum_by count_in (all_notes start n ns h) ≡ owned 0 (n ∷ ns) h
all_counted start n ns h =
    let step = sum_by-cons count_in (Start start ∷ notes_of 0 (own_at 0 n h)) (notes_from 1 ns h) in
    let here : count_in (Start start ∷ notes_of 0 (own_at 0 n h)) ≡ length (own_at 0 n h) = notes_long 0 (own_at 0 n h) in
    let rest = from_count 1 ns h in
    omega (arith, step, here, rest)

from_starts : (job : ℕ) (ns : List ℕ) (h : List Item) → sum_by starts_in (notes_from job ns h) ≡ 0
from_starts job [] h = refl
from_starts job (n ∷ ns) h =
    let step = sum_by-cons starts_in (notes_of job (own_at 0 n h)) (notes_from (job + 1) ns h) in
    let here : starts_in (notes_of job (own_at 0 n h)) ≡ 0 = ap (λ (l : List ℕ). length l) (notes_starts job (own_at 0 n h)) in
    let rest = from_starts (job + 1) ns h in
    omega (arith, step, here, rest)

pub all_starts : (start n : ℕ) (ns : List ℕ) (h : List Item) → sum_by starts_in (all_notes start n ns h) ≡ 1
all_starts start n ns h =
    let step = sum_by-cons starts_in (Start start ∷ notes_of 0 (own_at 0 n h)) (notes_from 1 ns h) in
    let here : starts_in (Start start ∷ notes_of 0 (own_at 0 n h)) ≡ 1 =
    ap (λ (l : List ℕ). length (start ∷ l)) (notes_starts 0 (own_at 0 n h)) in
    let rest = from_starts 1 ns h in
    omega (arith, step, here, rest)

-- ---- and of notes put together

pub joined_times : (q : ℕ) (lists : List (List Note)) → times_in q (joined lists) ≡ sum_by (times_in q) lists
joined_times q [] = refl
joined_times q (notes ∷ lists) =
    let cut : places_in (entered (notes ++ joined lists)) ≡ places_in (entered notes) ++ places_in (entered (joined lists)) =
    ap (λ (ps : List Placed). places_in ps) (entered-append notes (joined lists))
    ∙ map-append (λ (p : Placed). p.place) (entered notes) (entered (joined lists)) in
    let both : times_in q (notes ++ joined lists) ≡ times_in q notes + times_in q (joined lists) =
    ap (λ (l : List ℕ). times l q) cut
    ∙ sum_by-append (λ (p : ℕ). cond (p == q) 1 0) (places_in (entered notes)) (places_in (entered (joined lists))) in
    let rest = joined_times q lists in
    let step = sum_by-cons (times_in q) notes lists in
    omega (arith, both, rest, step)

pub joined_count : (lists : List (List Note)) → count_in (joined lists) ≡ sum_by count_in lists
joined_count [] = refl
joined_count (notes ∷ lists) =
    let both : count_in (notes ++ joined lists) ≡ count_in notes + count_in (joined lists) =
    ap (λ (ps : List Placed). length ps) (entered-append notes (joined lists)) ∙ length-append (entered notes) (entered (joined lists)) in
    let rest = joined_count lists in
    let step = sum_by-cons count_in notes lists in
    omega (arith, both, rest, step)

pub joined_starts : (lists : List (List Note)) → starts_in (joined lists) ≡ sum_by starts_in lists
joined_starts [] = refl
joined_starts (notes ∷ lists) =
    let both : starts_in (notes ++ joined lists) ≡ starts_in notes + starts_in (joined lists) =
    ap (λ (l : List ℕ). length l) (starts-append notes (joined lists)) ∙ length-append (starts notes) (starts (joined lists)) in
    let rest = joined_starts lists in
    let step = sum_by-cons starts_in notes lists in
    omega (arith, both, rest, step)
