-- The journals of a run, put together in any order, are one legal history.
use Rattle.std.proofs.Common.{◌≡◌, ◌∙◌, ℕ, ◌+◌, ◌≤◌, List, [], ◌∷◌, length, refl, sym, ap, subst, arith, flat_map}
use Rattle.std.specs.List.{All}
use Rattle.std.specs.List.Sorted.{IsPermutation}
use Rattle.std.proofs.lemmas.List.Elements.{All-cons, All-head, All-nil, All-tail}
use Rattle.std.proofs.lemmas.List.Sorted.{All-permutation, Contains-permutation, sum_by-IsPermutation}
use Rattle.satip_base.specs.Lists.{Each, Has}
use Rattle.satip_base.proofs.Elements.{each_has, Each-append}
use Rattle.satip_plain.specs.declared.setting.Setting.{Setting}
use Rattle.satip_plain.specs.Histories.{Item, Legal, LegalFrom, opening}
use Rattle.satip_audit.specs.declared.verdicts.Verdict.TheVariants.{Yes}
use Rattle.satip_audit.specs.Journals.{IsNote, Note, Start}
use Rattle.satip_audit.specs.Places.{times}
use Rattle.satip_audit.specs.Verdicts.{AreApart, entered, in_order, places_in, starts}
use Rattle.satip_audit.proofs.PlaceLemmas.{counts_rise, counts_whole, rises_once}
use Rattle.satip_audit.specs.Replaying.{IsJudged}
use Rattle.satip_audit.proofs.HistoryLemmas.{one_at}
use Rattle.satip_audit.proofs.IndexLemmas.{starts-append}
use Rattle.satip_journal.specs.Places.{Placed as Own, own_at}
use Rattle.satip_entry_writer.specs.Entries.{IsTyped}
use Rattle.satip_journal.proofs.PlaceLemmas.{own_at_behind}
use Rattle.satip_journal_serve.specs.Journals.{AreCallersOf}
use Rattle.satip_journal_serve.specs.Laws.{JournalsAreOneHistory, OwnAreBehind}
use Rattle.satip_journal_serve.proofs.Shuffled.{shuffled}
use Rattle.satip_journal_serve.proofs.Notes.{all_notes, all_right, joined, joined_right, noted, notes_from, notes_of, text_joined, text_of, texts_are}
use Rattle.satip_journal_serve.proofs.Counting.{all_at, all_count, all_counted, all_starts, all_times, count_in, joined_count, joined_starts, joined_times, named_all, owned_all, places, starts_in, times_in}
use Rattle.satip_journal_serve.proofs.InOrder.{Stands, all_have, has_joined, legal_order, noted_all}

-- the start lines name one moment alone
abbrev Names : ℕ → List Note → Type 0
Names start notes = Each (λ m. m ≡ start) (starts notes)

names_none : (start job : ℕ) (xs : List Own) → Names start (notes_of job xs)
names_none start job [] = tt
names_none start job (x ∷ xs) = names_none start job xs

names_from : (start job : ℕ) (ns : List ℕ) (h : List Item) → All (Names start) (notes_from job ns h)
names_from start job [] h = All-nil (Names start)
names_from start job (n ∷ ns) h =
    All-cons (Names start) (notes_of job (own_at 0 n h)) (notes_from (job + 1) ns h) (names_none start job (own_at 0 n h))
    (names_from start (job + 1) ns h)

names_all : (start n : ℕ) (ns : List ℕ) (h : List Item) → All (Names start) (all_notes start n ns h)
names_all start n ns h =
    All-cons (Names start) (Start start ∷ notes_of 0 (own_at 0 n h)) (notes_from 1 ns h) (refl, names_none start 0 (own_at 0 n h))
    (names_from start 1 ns h)

names_joined : (start : ℕ) (lists : List (List Note)) → All (Names start) lists → Names start (joined lists)
names_joined start [] all = tt
names_joined start (notes ∷ lists) all =
    subst (λ (ms : List ℕ). Each (λ m. m ≡ start) ms) (sym (starts-append notes (joined lists)))
    (Each-append (λ (m : ℕ). m ≡ start) (starts notes) (starts (joined lists)) (All-head (Names start) notes lists all)
    (names_joined start lists (All-tail (Names start) notes lists all)))

only : (start : ℕ) (ms : List ℕ) → length ms ≡ 1 → Each (λ m. m ≡ start) ms → ms ≡ start ∷ []
only start [] one each = absurd (omega (arith, one))
only start (m ∷ []) one each = ap (λ (k : ℕ). k ∷ []) each.0
only start (m ∷ k ∷ ms) one each = absurd (omega (arith, one))

module _ (c : Setting) (h : List Item) (first : ℕ) (others : List ℕ) (legal : Legal c h) (typed : Each IsTyped h) (callers : AreCallersOf (first ∷ others) h)
    (moved : List (List Note)) (permutation : IsPermutation (all_notes c.start first others h) moved) where
  abbrev lists : List (List Note)
  lists = all_notes c.start first others h

  abbrev notes : List Note
  notes = joined moved

  right : Each IsNote notes
  right =
      let short = callers.short in
      let few = callers.few in
      joined_right IsNote moved (All-permutation (λ (l : List Note). Each IsNote l) lists moved permutation
      (all_right c.start first others h legal.setting.start typed (omega (arith, short)) (omega (arith, few))))

  start_is : starts notes ≡ c.start ∷ []
  start_is =
      let count = joined_starts moved in
      let same = sum_by-IsPermutation starts_in lists moved permutation in
      let one = all_starts c.start first others h in
      only c.start (starts notes) (omega (arith, count, same, one))
      (names_joined c.start moved (All-permutation (Names c.start) lists moved permutation (names_all c.start first others h)))

  long : length (entered notes) ≡ length h
  long =
      let count = joined_count moved in
      let same = sum_by-IsPermutation count_in lists moved permutation in
      let all = all_counted c.start first others h in
      let owned = owned_all (first ∷ others) callers.apart 0 h callers.all in
      omega (arith, count, same, all, owned)

  same_times : (q : ℕ) → times (places_in (entered notes)) q ≡ times (places (all_at 0 h)) q
  same_times q =
      let count = joined_times q moved in
      let same = sum_by-IsPermutation (times_in q) lists moved permutation in
      let all = all_times c.start first others h q in
      let named = named_all (first ∷ others) callers.apart 0 h q callers.all in
      omega (arith, count, same, all, named)

  once : (q : ℕ) → times (places_in (entered notes)) q ≤ 1
  once q =
      let same = same_times q in
      let most = rises_once 0 (places (all_at 0 h)) q (counts_rise 0 (places (all_at 0 h)) (all_count 0 h)) in
      omega (arith, same, most)

  apart : AreApart (entered notes)
  apart = record {
    none_twice = λ q two. let most = once q in omega (arith, most, two);
    none_missing = λ q m.
        let here = same_times q in
        let there = same_times m.later in
        let none = m.none in
        let named = m.named in
        counts_whole (places (all_at 0 h)) q (all_count 0 h)
        (record { none = omega (arith, here, none); later = m.later; behind = m.behind; named = omega (arith, there, named) });
  }

  stands : (x : Own) → Has x (all_at 0 h) → Stands (entered notes) x
  stands x has =
      let is = noted_all c.start first others h x has (all_have h (first ∷ others) callers.all 0 x has) in
      let contains = Contains-permutation lists moved is.notes permutation is.contains in
      let there : Has (noted is.job x) (entered notes) = has_joined moved is.notes (noted is.job x) contains is.has in
      record { job = is.job; is = one_at (entered notes) (noted is.job x) (once x.place) there }

  in_order_legal : LegalFrom c.config (opening c) (in_order 0 (length (entered notes)) (entered notes))
  in_order_legal =
      subst (λ (n : ℕ). LegalFrom c.config (opening c) (in_order 0 n (entered notes))) (sym long)
      (legal_order c.config (opening c) (entered notes) h (each_has (Stands (entered notes)) (all_at 0 h) stands) legal.entries)

  pub judged : (text : List ℕ) → text ≡ text_of notes → IsJudged c.config text (Yes (length h))
  judged text is = record {
    notes = notes;
    journal = record { right = right; whole = is };
    verdict_is = record { start = c.start; one_start = start_is; apart = apart; legal = in_order_legal; count_is = sym long };
  }

pub one_history : JournalsAreOneHistory
one_history c h first others texts legal typed callers permutation =
    let lists = all_notes c.start first others h in
    let s = shuffled text_of lists texts (subst (λ (l : List (List ℕ)). IsPermutation l texts) (sym (texts_are c.start first others h)) permutation) in
    judged c h first others legal typed callers s.moved s.permutation (flat_map (λ (text : List ℕ). text) texts)
    (ap (λ (l : List (List ℕ)). flat_map (λ (text : List ℕ). text) l) s.is ∙ text_joined s.moved)

pub own_behind : OwnAreBehind
own_behind caller seen more none = own_at_behind caller seen more none
