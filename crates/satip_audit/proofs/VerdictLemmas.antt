-- The verdict on notes, from their index.
use Rattle.std.proofs.Common.{◌≡◌, ◌≢◌, ℕ, ◌<◌, cond, List, [], ◌∷◌, length, map, None, Some, refl, sym, ap, ◌∙◌, subst, arith, zero-add}
use Rattle.std.specs.Prelude.{◌==◌, slice_get}
use Rattle.std.specs.List.{All}
use Rattle.std.specs.List.Sorted.{IsPermutation}
use Rattle.std.proofs.lemmas.List.Elements.{All-weaker}
use Rattle.std.proofs.lemmas.List.Sorted.{All-permutation, IsPermutation-map, length_permutation, sum_by-IsPermutation}
use Rattle.satip_plain.specs.Types.{Config}
use Rattle.satip_plain.specs.Histories.{Item}
use Rattle.satip_audit.specs.declared.index.Spot.{Spot}
use Rattle.satip_audit.specs.declared.verdicts.Verdict.TheVariants.{NoStart, Repeated, Missing, Differs, Yes}
use Rattle.satip_audit.specs.Places.{Counts, HasTwice, IsLeast, IsMissing, Rises, times}
use Rattle.satip_audit.specs.Spots.{places_of}
use Rattle.satip_audit.specs.Journals.{Placed}
use Rattle.satip_audit.specs.Verdicts.{AreApart, at_place, entered, history, item, places_in, setting, starts}
use Rattle.satip_audit.proofs.PlaceLemmas.{counts_once, counts_rise, counts_whole, rises_once}
use Rattle.satip_audit.specs.declared.journals.Starts.{Starts}
use Rattle.satip_audit.specs.declared.journals.Starts.TheVariants.{Missing as NoneOfThem, One as OneOfThem, Several}
use Rattle.satip_audit.specs.Indexes.{AreStarts, IsIndex, Names}
use Rattle.satip_audit.specs.Replaying.{AreLed, Finds, IsInside, IsJudged}
use Rattle.satip_audit.proofs.HistoryLemmas.{One, counts_at, in_order_get, in_order_length, one_at, placed_of}

map-length : {A B : Type 0} (f : A → B) (xs : List A) → length (map f xs) ≡ length xs
map-length f [] = refl
map-length f (x ∷ xs) = let e = map-length f xs in omega (arith, e)

no_one : (moments : List ℕ) (s : Starts) → AreStarts moments s → ((now : ℕ) → s ≡ OneOfThem now → ⊥) → length moments ≢ 1
no_one moments NoneOfThem is other = λ one. let e = ap (λ (l : List ℕ). length l) is in omega (arith, one, e)
no_one moments (OneOfThem now) is other = absurd (other now refl)
no_one moments Several is other = λ one. omega (arith, one, is)

pub judged_no_start : (config : Config) (text records : List ℕ) (s : Starts) (spots : List Spot) → IsIndex text records s spots → ((now : ℕ) → s ≡ OneOfThem now → ⊥)
    → IsJudged config text NoStart
judged_no_start config text records s spots i other = record {
  notes = i.notes;
  journal = i.journal;
  verdict_is = no_one (starts i.notes) s i.indexes.starts_are other;
}

-- an index with one start line, and its spots in another order
module _ (config : Config) (text records : List ℕ) (s : Starts) (start : ℕ) (one : s ≡ OneOfThem start) (given spots : List Spot) (i : IsIndex text records s given)
    (shuffled : IsPermutation given spots) where
  abbrev entries : List Placed
  entries = entered i.notes

  start_is : starts i.notes ≡ start ∷ []
  start_is = let h : AreStarts (starts i.notes) (OneOfThem start) = subst (λ (x : Starts). AreStarts (starts i.notes) x) one i.indexes.starts_are in h

  one_start : length (starts i.notes) ≡ 1
  one_start = ap (λ (l : List ℕ). length l) start_is

  same_times : (q : ℕ) → times (places_of spots) q ≡ times (places_in entries) q
  same_times q =
      let moved : IsPermutation (places_of given) (places_of spots) = IsPermutation-map (λ (x : Spot). x.place) given spots shuffled in
      sum_by-IsPermutation (λ (p : ℕ). cond (p == q) 1 0) (places_of given) (places_of spots) moved
      ∙ ap (λ (l : List ℕ). times l q) i.indexes.places_are

  long : length entries ≡ length spots
  long =
      let a = map-length (λ (x : Placed). x.place) entries in
      let b = map-length (λ (x : Spot). x.place) given in
      let c = ap (λ (l : List ℕ). length l) i.indexes.places_are in
      let d = length_permutation given spots shuffled in
      omega (arith, a, b, c, d)

  names : All (Names records entries) spots
  names = All-permutation (Names records entries) given spots shuffled i.indexes.names

  pub inside : All (IsInside records) spots
  inside = All-weaker (Names records entries) (IsInside records) (λ x n. n.within) spots names

  twice_to : (q : ℕ) → HasTwice (places_of spots) q → HasTwice (places_in entries) q
  twice_to q two = let e = same_times q in omega (arith, e, two)

  twice_from : (q : ℕ) → HasTwice (places_in entries) q → HasTwice (places_of spots) q
  twice_from q two = let e = same_times q in omega (arith, e, two)

  missing_to : (q : ℕ) → IsMissing (places_of spots) q → IsMissing (places_in entries) q
  missing_to q m =
      let here = same_times q in
      let there = same_times m.later in
      let none = m.none in
      let named = m.named in
      record { none = omega (arith, here, none); later = m.later; behind = m.behind; named = omega (arith, there, named) }

  missing_from : (q : ℕ) → IsMissing (places_in entries) q → IsMissing (places_of spots) q
  missing_from q m =
      let here = same_times q in
      let there = same_times m.later in
      let none = m.none in
      let named = m.named in
      record { none = omega (arith, here, none); later = m.later; behind = m.behind; named = omega (arith, there, named) }

  pub judged_repeated : (place : ℕ) → IsLeast (λ q. HasTwice (places_of spots) q) place → IsJudged config text (Repeated place)
  judged_repeated place least = record {
    notes = i.notes;
    journal = i.journal;
    verdict_is = record {
      one_start = one_start;
      least = record { holds = twice_to place least.holds; least = λ q less two. least.least q less (twice_from q two) };
    };
  }

  pub judged_missing : (place : ℕ) → Rises 0 (places_of spots) → IsLeast (λ q. IsMissing (places_of spots) q) place → IsJudged config text (Missing place)
  judged_missing place rises least = record {
    notes = i.notes;
    journal = i.journal;
    verdict_is = record {
      one_start = one_start;
      none_twice = λ q two. let once = rises_once 0 (places_of spots) q rises in let twice = twice_from q two in omega (arith, once, twice);
      least = record { holds = missing_to place least.holds; least = λ q less m. least.least q less (missing_from q m) };
    };
  }

  -- each place is named once
  module _ (counts : Counts 0 (places_of spots)) where
    apart : AreApart entries
    apart = record {
      none_twice = λ q two. counts_once (places_of spots) q counts (twice_from q two);
      none_missing = λ q m. counts_whole (places_of spots) q counts (missing_from q m);
    }

    abbrev nothing : Spot
    nothing = record { place = 0; at = 0; len = 0 }

    -- the entry of a spot stands alone in its place
    alone : (k : ℕ) (d : Spot) (less : k < length spots) → at_place k entries ≡ item (names k d less).entry ∷ []
    alone k d less =
        let n = names k d less in
        let e : n.entry.place ≡ k = sym n.place ∙ counts_at 0 spots k d counts less ∙ zero-add k in
        let rises = counts_rise 0 (places_of spots) counts in
        let once = rises_once 0 (places_of spots) n.entry.place rises in
        let same = same_times n.entry.place in
        subst (λ (q : ℕ). at_place q entries ≡ item n.entry ∷ []) e (one_at entries n.entry (omega (arith, once, same)) n.has)

    singles : (k : ℕ) → k < length entries → One entries k
    singles k less =
        let inside_of : k < length spots = omega (arith, less, long) in
        record { entry = (names k nothing inside_of).entry; is = alone k nothing inside_of }

    led : AreLed records (history entries) spots
    led = record {
      long = in_order_length entries (length entries) singles (length entries) 0 (omega arith) ∙ long;
      leads = λ place d less.
          let n = names place d less in
          record {
            entry = n.entry;
            within = (placed_of i.notes n.entry i.journal.right n.has).entry;
            record_is = n.record_is;
            stands =
                in_order_get entries (length entries) singles (length entries) 0 place (omega arith) (omega (arith, less, long))
                ∙ ap (λ (k : ℕ). slice_get (at_place k entries) 0) (zero-add place) ∙ ap (λ (l : List Item). slice_get l 0) (alone place d less);
          };
    }

    pub judged_yes : ((h : List Item) → AreLed records h spots → Finds (setting config start) h None) → (count : ℕ) → count ≡ length spots
        → IsJudged config text (Yes count)
    judged_yes finds count is = record {
      notes = i.notes;
      journal = i.journal;
      verdict_is = record {
        start = start;
        one_start = start_is;
        apart = apart;
        legal = finds (history entries) led;
        count_is = is ∙ sym long;
      };
    }

    pub judged_differs : (place : ℕ) → ((h : List Item) → AreLed records h spots → Finds (setting config start) h (Some place))
        → IsJudged config text (Differs place)
    judged_differs place finds = record {
      notes = i.notes;
      journal = i.journal;
      verdict_is = record { start = start; one_start = start_is; apart = apart; differs = finds (history entries) led };
    }
