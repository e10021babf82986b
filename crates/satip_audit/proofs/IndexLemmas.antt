-- The index of the lines before a rest, and of one line more.
use Rattle.std.proofs.Common.{◌≡◌, ℕ, zero, suc, ◌+◌, ◌-◌, ◌<◌, ◌≤◌, List, [], ◌∷◌, ◌++◌, length, length-append, append-nil, map, take, drop, refl, sym, ap, ◌∙◌, subst, arith, inl}
use Rattle.std.specs.List.{All}
use Rattle.std.proofs.lemmas.List.{drop_at, drop-drop, length-drop, length-take-le, take_at, take-append-drop}
use Rattle.std.proofs.lemmas.Slice.{drop-put_mid, take-put_mid}
use borrow.Rule.Slice.PartMut.{put_mid}
use Rattle.std.proofs.lemmas.List.Elements.{All-nil, All-push, All-weaker}
use Rattle.satip_base.proofs.Elements.{Has-append_left, Has-append_right}
use Rattle.satip_audit.specs.declared.index.Spot.{Spot}
use Rattle.satip_audit.specs.Spots.{places_of}
use Rattle.satip_audit.specs.Journals.{Entered, Note, Placed, Start}
use Rattle.satip_audit.specs.Verdicts.{entered, places_in, starts}
use Rattle.satip_audit.specs.declared.journals.Starts.{Starts}
use Rattle.satip_audit.specs.declared.journals.Starts.TheVariants.{Missing}
use Rattle.satip_audit.specs.declared.indexing.Said.{Said}
use Rattle.satip_audit.specs.declared.indexing.Said.TheVariants.{Start as StartSaid, Entry as EntrySaid}
use Rattle.satip_audit.specs.Checks.{HasPlace, Says}
use Rattle.satip_audit.specs.Indexes.{AddsLine, AreStarts, Indexes, IsIndex, Names, spot_at}
use Rattle.satip_audit.proofs.CheckLemmas.{Midway, all_right, midway_from, midway_more}

pub starts-append : (a b : List Note) → starts (a ++ b) ≡ starts a ++ starts b
starts-append [] b = refl
starts-append (Start now ∷ a) b = ap (λ (l : List ℕ). now ∷ l) (starts-append a b)
starts-append (Entered p ∷ a) b = starts-append a b

pub entered-append : (a b : List Note) → entered (a ++ b) ≡ entered a ++ entered b
entered-append [] b = refl
entered-append (Start now ∷ a) b = entered-append a b
entered-append (Entered p ∷ a) b = ap (λ (l : List Placed). p ∷ l) (entered-append a b)

map-push : {A B : Type 0} (f : A → B) (xs : List A) (x : A) → map f (xs ++ x ∷ []) ≡ map f xs ++ f x ∷ []
map-push f [] x = refl
map-push {A} {B} f (y ∷ xs) x = ap (λ (l : List B). f y ∷ l) (map-push f xs x)

-- bytes within a list stay where they are when more are behind it
front_same : {T : Type 0} (count : ℕ) (xs more : List T) → count ≤ length xs → take count (xs ++ more) ≡ take count xs
front_same zero xs more h = refl
front_same (suc count) [] more h = absurd (omega (arith, h))
front_same {T} (suc count) (x ∷ xs) more h = ap (λ (l : List T). x ∷ l) (front_same count xs more (omega (arith, h)))

inside_same : {T : Type 0} (at count : ℕ) (xs more : List T) → at + count ≤ length xs → take count (drop at (xs ++ more)) ≡ take count (drop at xs)
inside_same zero count xs more h = front_same count xs more (omega (arith, h))
inside_same (suc at) zero [] more h = absurd (omega (arith, h))
inside_same (suc at) (suc count) [] more h = absurd (omega (arith, h))
inside_same (suc at) count (x ∷ xs) more h = inside_same at count xs more (omega (arith, h))

-- lines before a rest, and their index, with the records among some bytes
pub record Indexing (text rest records : List ℕ) (number : ℕ) (moments : Starts) (spots : List Spot) : Type 0 where
  pub midway : Midway text rest number
  pub indexes : Indexes records midway.before moments spots

pub indexing_from : (text : List ℕ) (spots : List Spot) → spots ≡ [] → Indexing text text [] 1 Missing spots
indexing_from text spots none =
    subst (λ (ss : List Spot). Indexing text text [] 1 Missing ss) (sym none) (record {
      midway = midway_from text;
      indexes = record { starts_are = refl; places_are = refl; names = All-nil _ };
    })

module _ (text rest line after behind records : List ℕ) (number : ℕ) (s t : Starts) (spots more : List Spot) (at : ℕ)
    (i : Indexing text rest records number s spots) (cut : rest ≡ line ++ behind) (shorter : length behind < length rest) (at_is : at ≡ length records) where
  -- a record that was there stays there
  stays : (entries : List Placed) (x : Spot) → Names records entries x → Names (records ++ after) entries x
  stays entries x n =
      let within = n.within in
      record {
        entry = n.entry;
        has = n.has;
        place = n.place;
        within = omega (arith, within, length-append records after);
        record_is = inside_same x.at x.len records after n.within ∙ n.record_is;
      }

  start_more : (now : ℕ) → Says line after (StartSaid now) → AddsLine (StartSaid now) at s spots t more
      → Indexing text behind (records ++ after) (number + 1) t more
  start_more now says adds =
      let before = i.midway.before in
      let all_entered : entered (before ++ Start now ∷ []) ≡ entered before = entered-append before (Start now ∷ []) ∙ append-nil (entered before) in
      let P : List Placed → Type 0 = λ es. (places_of more ≡ places_in es) × All (Names (records ++ after) es) more in
      let kept = All-weaker (Names records (entered before)) (Names (records ++ after) (entered before)) (stays (entered before)) spots i.indexes.names in
      let old : P (entered before) =
      (ap places_of adds.1 ∙ i.indexes.places_are, subst (λ (ss : List Spot). All (Names (records ++ after) (entered before)) ss) (sym adds.1) kept) in
      let new : P (entered (before ++ Start now ∷ [])) = subst P (sym all_entered) old in
      record {
        midway = midway_more text rest line behind number i.midway cut shorter (Start now) says.0 says.1;
        indexes = record {
          starts_are =
              subst (λ (ms : List ℕ). AreStarts ms t) (sym (starts-append before (Start now ∷ []))) (adds.0 (starts before) i.indexes.starts_are);
          places_are = new.0;
          names = new.1;
        };
      }

  entry_more : (place len : ℕ) → HasPlace line after place len → AddsLine (EntrySaid place len) at s spots t more
      → Indexing text behind (records ++ after) (number + 1) t more
  entry_more place len has adds =
      let before = i.midway.before in
      let p = has.entry in
      let fits = has.fits in
      let entries = entered before ++ p ∷ [] in
      let spot = spot_at place at len in
      let all_entered : entered (before ++ Entered p ∷ []) ≡ entries = entered-append before (Entered p ∷ []) in
      let all_starts : starts (before ++ Entered p ∷ []) ≡ starts before = starts-append before (Entered p ∷ []) ∙ append-nil (starts before) in
      let here : Names (records ++ after) entries spot = record {
        entry = p;
        has = Has-append_right p (entered before) (p ∷ []) (inl refl);
        place = has.place_is;
        within = omega (arith, at_is, fits, length-append records after);
        record_is = ap (λ (l : List ℕ). take len l) (drop_at records after at (sym at_is)) ∙ has.record_is;
      } in
      let weaker : (x : Spot) → Names records (entered before) x → Names (records ++ after) entries x = λ x n.
      let m = stays (entered before) x n in
      record {
        entry = m.entry;
        has = Has-append_left m.entry (entered before) (p ∷ []) m.has;
        place = m.place;
        within = m.within;
        record_is = m.record_is;
      } in
      let P : List Placed → Type 0 = λ es. (places_of more ≡ places_in es) × All (Names (records ++ after) es) more in
      let new : P entries = (
        ap places_of adds.1 ∙ map-push (λ (x : Spot). x.place) spots spot
            ∙ ap (λ (l : List ℕ). l ++ place ∷ []) i.indexes.places_are
            ∙ ap (λ (n : ℕ). places_in (entered before) ++ n ∷ []) has.place_is
            ∙ sym (map-push (λ (x : Placed). x.place) (entered before) p),
        subst (λ (ss : List Spot). All (Names (records ++ after) entries) ss) (sym adds.1)
            (All-push (Names (records ++ after) entries) spots spot
            (All-weaker (Names records (entered before)) (Names (records ++ after) entries) weaker spots i.indexes.names) here),
      ) in
      let both : P (entered (before ++ Entered p ∷ [])) = subst P (sym all_entered) new in
      record {
        midway = midway_more text rest line behind number i.midway cut shorter (Entered p) has.within has.is;
        indexes = record {
          starts_are =
              subst (λ (x : Starts). AreStarts (starts (before ++ Entered p ∷ [])) x) (sym adds.0)
              (subst (λ (ms : List ℕ). AreStarts ms s) (sym all_starts) i.indexes.starts_are);
          places_are = both.0;
          names = both.1;
        };
      }

  pub indexing_more : (said : Said) → Says line after said → AddsLine said at s spots t more → Indexing text behind (records ++ after) (number + 1) t more
  indexing_more (StartSaid now) says adds = start_more now says adds
  indexing_more (EntrySaid place len) says adds = entry_more place len says adds

-- ---- a line that is written over

-- the line that is read and written over
pub line_is : (at count : ℕ) (now line behind : List ℕ) → drop at now ≡ line ++ behind → count ≡ length line → take (at + count - at) (drop at now) ≡ line
line_is at count now line behind cut size =
    ap (λ (l : List ℕ). take (at + count - at) l) cut ∙ take_at line behind (at + count - at) (omega (arith, size))

pub rest_some : (at : ℕ) (now rest : List ℕ) → at < length now → rest ≡ drop at now → rest ≡ [] → ⊥
rest_some at now rest inside back none = omega (arith, inside, length-drop at now, ap (λ (l : List ℕ). length l) back, ap (λ (l : List ℕ). length l) none)

pub line_fits : (at : ℕ) (now line behind : List ℕ) → at ≤ length now → drop at now ≡ line ++ behind → at + length line ≤ length now
line_fits at now line behind inside cut =
    omega (arith, inside, length-drop at now, ap (λ (l : List ℕ). length l) cut, length-append line behind)

pub length_same : (at count : ℕ) (now after : List ℕ) → at + count ≤ length now → length after ≡ count → length (put_mid at count now after) ≡ length now
length_same at count now after fits size =
    let whole = take-append-drop (at + count) (put_mid at count now after) in
    let front = take-put_mid at count now after (at + count) (omega (arith, size)) (omega (arith, fits)) in
    let back = drop-put_mid at count now after (at + count) (omega arith) (omega (arith, fits)) size in
    let before = length-take-le at now (omega (arith, fits)) in
    omega (
      arith,
      fits,
      size,
      before,
      length-append (take (at + count) (put_mid at count now after)) (drop (at + count) (put_mid at count now after)),
      ap (λ (l : List ℕ). length l) whole,
      ap (λ (l : List ℕ). length l) front,
      ap (λ (l : List ℕ). length l) back,
      length-append (take at now) after,
      length-drop (at + count) now,
    )

pub indexing_next : (text now line after behind : List ℕ) (number : ℕ) (s t : Starts) (spots more : List Spot) (at : ℕ)
    → Indexing text (drop at now) (take at now) number s spots → at ≤ length now → drop at now ≡ line ++ behind → length behind < length (drop at now)
    → length after ≡ length line → (said : Said) → Says line after said → AddsLine said at s spots t more
    → Indexing text (drop (at + length line) (put_mid at (at + length line - at) now after))
    (take (at + length line) (put_mid at (at + length line - at) now after)) (number + 1) t more
indexing_next text now line after behind number s t spots more at i inside cut shorter size said says adds =
    let k : ℕ = at + length line - at in
    let fits = line_fits at now line behind inside cut in
    let back = drop-put_mid at k now after (at + length line) (omega arith) inside (omega (arith, size)) ∙ sym (drop-drop (length line) at now)
    ∙ ap (λ (l : List ℕ). drop (length line) l) cut ∙ drop_at line behind (length line) refl in
    let front = take-put_mid at k now after (at + length line) (omega (arith, size)) inside in
    let next = indexing_more text (drop at now) line after behind (take at now) number s t spots more at i cut shorter
    (sym (length-take-le at now inside)) said says adds in
    subst (λ (r : List ℕ). Indexing text r (take (at + length line) (put_mid at k now after)) (number + 1) t more) (sym back)
    (subst (λ (r : List ℕ). Indexing text behind r (number + 1) t more) (sym front) next)

pub indexed : (text rest records : List ℕ) (number : ℕ) (s : Starts) (spots : List Spot) → Indexing text rest records number s spots → rest ≡ []
    → IsIndex text records s spots
indexed text rest records number s spots i none = record {
  notes = i.midway.before;
  journal = all_right text rest number i.midway none;
  indexes = i.indexes;
}
