-- A text that is judged `yes` is a legal history, and the other way round.
use Rattle.std.proofs.Common.{◌≡◌, ℕ, zero, suc, ◌+◌, ◌<◌, ◌≤◌, ◌^◌, Bool, true, false, cond, List, [], ◌∷◌, length, map, filter, refl, sym, ap, ◌∙◌, subst, arith, inl, inr, ⊎_elim}
use Rattle.std.specs.Prelude.{◌==◌}
use Rattle.std.proofs.lemmas.List.{length-map}
use Rattle.satip_base.specs.Lists.{Each, Has}
use Rattle.satip_base.proofs.Elements.{Each-append, each_follows, each_has}
use Rattle.satip_plain.specs.Types.{Config}
use Rattle.satip_plain.specs.Histories.{Item}
use Rattle.satip_plain.specs.Values.{IsEvent, IsServable, IsSetting}
use Rattle.satip_audit.specs.declared.verdicts.Verdict.TheVariants.{Yes}
use Rattle.satip_audit.specs.Journals.{Entered, IsNote, IsPlaced, Note, Placed, Start}
use Rattle.satip_audit.specs.Places.{HasTwice, IsMissing, times}
use Rattle.satip_audit.specs.Verdicts.{AreApart, at_place, entered, history, in_order, item, places_in, setting, starts}
use Rattle.satip_audit.specs.Replaying.{IsJudged}
use Rattle.satip_audit.specs.LegalTexts.{IsLegalText}
use Rattle.satip_audit.proofs.PlaceLemmas.{Other, Same, times_more, times_other, times_same, times_step}
use Rattle.satip_audit.proofs.HistoryLemmas.{One, in_order_length, one_at, placed_of}

-- ---- each place below the number of entries is named

-- how often the places below a bound are named together
abbrev named_below : List ℕ → ℕ → ℕ
named_below xs zero = 0
named_below xs (suc bound) = named_below xs bound + times xs bound

-- a place that isn't below the bound doesn't count
above_is_left : (xs : List ℕ) (x bound : ℕ) → bound ≤ x → named_below (x ∷ xs) bound ≡ named_below xs bound
above_is_left xs x zero far = refl
above_is_left xs x (suc bound) far =
    let rest = above_is_left xs x bound (omega (arith, far)) in
    let here = times_other xs x bound (λ same. omega (arith, same, far)) in
    omega (arith, rest, here)

-- a place below the bound counts once more
below_is_counted : (xs : List ℕ) (x bound : ℕ) → x < bound → named_below (x ∷ xs) bound ≡ 1 + named_below xs bound
below_is_counted xs x zero less = absurd (omega (arith, less))
below_is_counted xs x (suc bound) less =
    ⊎_elim
    (λ (s : Same xs x bound).
    let at = s.0 in
    let one_more = s.1 in
    let rest = above_is_left xs x bound (omega (arith, at)) in
    omega (arith, one_more, rest))
    (λ (o : Other xs x bound).
    let other = o.0 in
    let none_more = o.1 in
    let rest = below_is_counted xs x bound (omega (arith, less, other)) in
    omega (arith, none_more, rest))
    (times_step xs x bound)

all_below : (xs : List ℕ) (bound : ℕ) → ((q : ℕ) → 1 ≤ times xs q → q < bound) → length xs ≤ named_below xs bound
all_below [] bound below = omega arith
all_below (x ∷ xs) bound below =
    let mine = times_same xs x x refl in
    let first = below_is_counted xs x bound (below x (omega (arith, mine))) in
    let rest = all_below xs bound (λ q named. let grows = times_more xs x q in below q (omega (arith, grows, named))) in
    omega (arith, first, rest)

at_most_once : (xs : List ℕ) (bound : ℕ) → ((q : ℕ) → HasTwice xs q → ⊥) → named_below xs bound ≤ bound
at_most_once xs zero once = omega arith
at_most_once xs (suc bound) once =
    let rest = at_most_once xs bound once in
    let here = once bound in
    omega (arith, rest, here)

module _ (xs : List ℕ) (none_twice : (q : ℕ) → HasTwice xs q → ⊥) (none_missing : (q : ℕ) → IsMissing xs q → ⊥) where
  -- if a place isn't named, each that is named is below it
  below_unnamed : (place q : ℕ) → times xs place ≡ 0 → 1 ≤ times xs q → q < place
  below_unnamed place q none named =
      let not_later : place < q → ⊥ = λ later. none_missing place (record { none = none; later = q; behind = later; named = named }) in
      let other : q ≡ place → ⊥ = λ same. let e = ap (λ (k : ℕ). times xs k) same in omega (arith, e, none, named) in
      omega (arith, not_later, other)

  named_by : (place n : ℕ) → place < length xs → times xs place ≡ n → 1 ≤ times xs place
  named_by place zero less none =
      let all = all_below xs place (λ q named. below_unnamed place q none named) in
      let few = at_most_once xs place none_twice in
      absurd (omega (arith, all, few, less))
  named_by place (suc n) less some = omega (arith, some)

  all_named : (place : ℕ) → place < length xs → 1 ≤ times xs place
  all_named place less = named_by place (times xs place) less refl

-- ---- the history has as many entries

-- an entry that has a place
record HasPlaced (entries : List Placed) (place : ℕ) : Type 0 where
  entry : Placed
  has : Has entry entries
  is : entry.place ≡ place

has_placed : (entries : List Placed) (place : ℕ) → 1 ≤ times (places_in entries) place → HasPlaced entries place
has_placed [] place named = absurd (omega (arith, named))
has_placed (x ∷ xs) place named =
    ⊎_elim
    (λ (s : Same (places_in xs) x.place place). record { entry = x; has = inl refl; is = s.0 })
    (λ (o : Other (places_in xs) x.place place).
    let none_more = o.1 in
    let rest = has_placed xs place (omega (arith, none_more, named)) in
    record { entry = rest.entry; has = inr rest.has; is = rest.is })
    (times_step (places_in xs) x.place place)

module _ (entries : List Placed) (apart : AreApart entries) where
  single : (place : ℕ) → place < length entries → One entries place
  single place less =
      let long = length-map entries (λ (p : Placed). p.place) in
      let named = all_named (places_in entries) apart.none_twice apart.none_missing place (omega (arith, long, less)) in
      let found = has_placed entries place named in
      let none_twice = apart.none_twice found.entry.place in
      let alone = one_at entries found.entry (omega (arith, none_twice)) found.has in
      record { entry = found.entry; is = subst (λ (k : ℕ). at_place k entries ≡ item found.entry ∷ []) found.is alone }

  pub history_long : length (history entries) ≡ length entries
  history_long = in_order_length entries (length entries) single (length entries) 0 (omega arith)

-- ---- the values of entries are within their types

each_map : {A B : Type 0} (f : A → B) (P : B → Type 0) (xs : List A) → Each (λ x. P (f x)) xs → Each P (map f xs)
each_map f P [] each = tt
each_map f P (x ∷ xs) each = (each.0, each_map f P xs each.1)

each_cond : {T : Type 0} (P : T → Type 0) (x : T) (xs : List T) (b : Bool) → P x → Each P xs → Each P (cond b (x ∷ xs) xs)
each_cond P x xs true first rest = (first, rest)
each_cond P x xs false first rest = rest

each_filter : {T : Type 0} (P : T → Type 0) (f : T → Bool) (xs : List T) → Each P xs → Each P (filter f xs)
each_filter P f [] each = tt
each_filter P f (x ∷ xs) each = each_cond P x (filter f xs) (f x) each.0 (each_filter P f xs each.1)

abbrev HasEvent : Item → Type 0
HasEvent e = IsEvent e.event

events_at : (place : ℕ) (entries : List Placed) → Each IsPlaced entries → Each HasEvent (at_place place entries)
events_at place entries placed =
    let kept = each_filter IsPlaced (λ (p : Placed). p.place == place) entries placed in
    each_map item HasEvent (filter (λ (p : Placed). p.place == place) entries)
    (each_follows IsPlaced (λ (p : Placed). HasEvent (item p)) (λ p is. is.entry.event) (filter (λ (p : Placed). p.place == place) entries) kept)

events_in_order : (count place : ℕ) (entries : List Placed) → Each IsPlaced entries → Each HasEvent (in_order place count entries)
events_in_order zero place entries placed = tt
events_in_order (suc count) place entries placed =
    Each-append HasEvent (at_place place entries) (in_order (suc place) count entries) (events_at place entries placed)
    (events_in_order count (suc place) entries placed)

all_placed : (notes : List Note) → Each IsNote notes → Each IsPlaced (entered notes)
all_placed notes right = each_has IsPlaced (entered notes) (λ p has. placed_of notes p right has)

moments_fit : (notes : List Note) → Each IsNote notes → Each (λ now. now < 2 ^ 64) (starts notes)
moments_fit [] right = tt
moments_fit (Start now ∷ notes) right = (right.0, moments_fit notes right.1)
moments_fit (Entered p ∷ notes) right = moments_fit notes right.1

start_fits : (notes : List Note) (start : ℕ) → Each IsNote notes → starts notes ≡ start ∷ [] → start < 2 ^ 64
start_fits notes start right one =
    let fit : Each (λ now. now < 2 ^ 64) (start ∷ []) = subst (λ (ms : List ℕ). Each (λ now. now < 2 ^ 64) ms) one (moments_fit notes right) in
    fit.0

-- a setting with another start
with_start : (config : Config) (old start : ℕ) → IsSetting (setting config old) → start < 2 ^ 64 → IsSetting (setting config start)
with_start config old start is small = record {
  start = small;
  address = is.address;
  rtsp_port = is.rtsp_port;
  http_port = is.http_port;
  timeout = is.timeout;
  workers = is.workers;
  fronts = is.fronts;
  muxes = is.muxes;
  files = is.files;
}

-- ---- the law

-- the values of the configuration are known by a setting with any start
pub legal_by : (config : Config) (text : List ℕ) (count any : ℕ) → IsServable config → IsSetting (setting config any) → IsJudged config text (Yes count)
    → IsLegalText config text count
legal_by config text count any servable values judged =
    let notes = judged.notes in
    let right = judged.journal.right in
    let yes = judged.verdict_is in
    record {
      notes = notes;
      journal = judged.journal;
      start = yes.start;
      one_start = yes.one_start;
      apart = yes.apart;
      legal = record {
        servable = servable;
        setting = with_start config any yes.start values (start_fits notes yes.start right yes.one_start);
        events = events_in_order (length (entered notes)) 0 (entered notes) (all_placed notes right);
        entries = yes.legal;
      };
      long = history_long (entered notes) yes.apart ∙ sym yes.count_is;
    }

pub judged_as_yes : (config : Config) (text : List ℕ) (count : ℕ) → IsLegalText config text count → IsJudged config text (Yes count)
judged_as_yes config text count is = record {
  notes = is.notes;
  journal = is.journal;
  verdict_is = record {
    start = is.start;
    one_start = is.one_start;
    apart = is.apart;
    legal = is.legal.entries;
    count_is = sym is.long ∙ history_long (entered is.notes) is.apart;
  };
}
