-- Streams by place.
use Rattle.std.proofs.Common.{◌≡◌, ◌∙◌, ℕ, ◌+◌, ◌-◌, ◌<◌, ◌≤◌, ◌==◌, not, true, false, cond, List, ◌++◌, [], ◌∷◌, length, get_or, set, map, filter, find}
use Rattle.std.proofs.Common.{refl, ap, sym, arith, inl, inr, ◌⊎◌, Option, None, Some}
use Rattle.std.specs.List.{insert, slice_get}
use Rattle.std.specs.Option.{option_map}
use Rattle.std.proofs.lemmas.Bool.{cases_eq, cases_order, eq-eqb, ne_eqb, true≢false}
use Rattle.std.proofs.lemmas.List.{get_or-set_other, get_or-set_same, get_or_append_left, get_or_default, get_or_push, length-map}
use Rattle.std.proofs.lemmas.Option.{slice_get-map}
use Rattle.satip_base.specs.declared.identity.SessionId.{SessionId}
use Rattle.satip_pids.specs.Pids.{Pids}
use Rattle.satip_tune.specs.declared.tunings.Tuning.{Tuning}
use Rattle.satip_table.specs.declared.stream.Stream.{Stream}
use Rattle.satip_table.specs.declared.streams.Streams.TheInside.{Inside}
use Rattle.satip_table.specs.Placed.{in_order, is_there}
use Rattle.satip_table.specs.Numbered.{Numbered, no_stream, numbered}
use Rattle.satip_table.specs.Streams.{fresh, gap, has_number, is_live, put_stream, stream_where, with_stream}
use Rattle.satip_table.specs.Owners.{owned_where}
use Rattle.satip_table.specs.Living.{NumbersRise}
use Rattle.satip_table.proofs.Listing.{map_none}
use Rattle.satip_table.proofs.Placing.{Tells, any_at, dropped, found_at, none_at, placed_in, untouched, written}
use Rattle.satip_table.proofs.StreamLaws.{is_gap, put-gap}

eq_shift : (k place number : ℕ) → place + 1 ≡ number → (k + 1 == number) ≡ (place == k)
eq_shift k place number at = each (cases_eq place k)
  where
    each : (place ≡ k) ⊎ (place ≡ k → ⊥) → (k + 1 == number) ≡ (place == k)
    each (inl same) = eq-eqb (k + 1) number (omega arith) ∙ sym (eq-eqb place k same)
    each (inr apart) = ne_eqb (k + 1) number (λ e. apart (omega arith)) ∙ sym (ne_eqb place k apart)

-- a number tells the stream at its place from the others
tells : (a : Inside) → Numbered a → (number place : ℕ) → place + 1 ≡ number → Tells no_stream (has_number number) a.streams.items place a.order
tells a is number place at k there = ap (λ m. m == number) (is.numbers k (is.within k there)) ∙ eq_shift k place number at

fails : (a : Inside) → Numbered a → (number : ℕ) → ((place : ℕ) → place + 1 ≡ number → is_there place a.order ≡ false) → (k : ℕ) → is_there k a.order ≡ true
    → has_number number (get_or a.streams.items k no_stream) ≡ false
fails a is number none k there = ap (λ m. m == number) (is.numbers k (is.within k there)) ∙ ne_eqb (k + 1) number (λ e. true≢false (sym there ∙ none k e))

pub find_some : (a : Inside) → Numbered a → (number place : ℕ) → place + 1 ≡ number → is_there place a.order ≡ true → (x : Stream)
    → x ≡ get_or a.streams.items place x → Some x ≡ find (has_number number) (numbered a)
find_some a is number place at there x read =
    ap Some (read ∙ get_or_default a.streams.items place x no_stream (omega (arith, is.within place there, is.long)))
    ∙ sym (found_at no_stream (has_number number) a.streams.items place a.order (tells a is number place at) there)

pub live_some : (a : Inside) → Numbered a → (number place : ℕ) → place + 1 ≡ number → is_there place a.order ≡ true → true ≡ is_live (numbered a) number
live_some a is number place at there = sym there ∙ sym (any_at no_stream (has_number number) a.streams.items place a.order (tells a is number place at))

pub find_none : (a : Inside) → Numbered a → (number : ℕ) → ((place : ℕ) → place + 1 ≡ number → is_there place a.order ≡ false)
    → (None ≡ find (has_number number) (numbered a)) × (false ≡ is_live (numbered a) number)
find_none a is number none =
    let both = none_at no_stream (has_number number) a.streams.items a.order (fails a is number none) in
    (sym both.0, sym both.1)

-- a stream at a place in order
pub get_some : (a : Inside) → Numbered a → (k place : ℕ) → slice_get a.order k ≡ Some place → place < 64 → (x : Stream) → x ≡ get_or a.streams.items place x
    → Some x ≡ slice_get (numbered a) k
get_some a is k place at below x read =
    ap Some (read ∙ get_or_default a.streams.items place x no_stream (omega (arith, below, is.long)))
    ∙ sym (slice_get-map (λ p. get_or a.streams.items p no_stream) a.order k ∙ ap (option_map (λ p. get_or a.streams.items p no_stream)) at)

pub get_none : (a : Inside) (k : ℕ) → slice_get a.order k ≡ None → None ≡ slice_get (numbered a) k
get_none a k at = sym (slice_get-map (λ p. get_or a.streams.items p no_stream) a.order k ∙ ap (option_map (λ p. get_or a.streams.items p no_stream)) at)

-- a stream is changed, and those that live are where they were
pub numbers_set : (items : List Stream) (place : ℕ) (y : Stream) → place < length items → ((k : ℕ) → k < 64 → (get_or items k no_stream).number ≡ k + 1)
    → y.number ≡ place + 1 → (k : ℕ) → k < 64 → (get_or (set items place y) k no_stream).number ≡ k + 1
numbers_set items place y below numbers at k within = each (cases_eq k place)
  where
    each : (k ≡ place) ⊎ (k ≡ place → ⊥) → (get_or (set items place y) k no_stream).number ≡ k + 1
    each (inl same) = ap (λ n. (get_or (set items place y) n no_stream).number) same
        ∙ ap (λ (s : Stream). s.number) (get_or-set_same items place y no_stream below) ∙ at ∙ ap (λ n. n + 1) (sym same)
    each (inr apart) = ap (λ (s : Stream). s.number) (get_or-set_other items place k y no_stream apart) ∙ numbers k within

pub numbers_push : (items : List Stream) (place : ℕ) (y : Stream) → length items ≡ place → y.number ≡ place + 1
    → ((k : ℕ) → k < place → (get_or items k no_stream).number ≡ k + 1) → (k : ℕ) → k < place + 1 → (get_or (items ++ y ∷ []) k no_stream).number ≡ k + 1
numbers_push items place y long at numbers k within = each (cases_eq k place)
  where
    each : (k ≡ place) ⊎ (k ≡ place → ⊥) → (get_or (items ++ y ∷ []) k no_stream).number ≡ k + 1
    each (inl same) = ap (λ n. (get_or (items ++ y ∷ []) n no_stream).number) same ∙ ap (λ (s : Stream). s.number) (get_or_push items y no_stream place long)
        ∙ at ∙ ap (λ n. n + 1) (sym same)
    each (inr apart) =
        let less : k < place = omega arith in
        ap (λ (s : Stream). s.number) (get_or_append_left items (y ∷ []) no_stream k (omega (arith, long, less))) ∙ numbers k less

-- the stream at a place that is there is changed
changed_at : (a : Inside) → Numbered a → (g : Stream → Stream) (number place : ℕ) → place + 1 ≡ number → is_there place a.order ≡ true → (x y : Stream)
    → x ≡ get_or a.streams.items place x → y ≡ g x
    → in_order no_stream (set a.streams.items place y) a.order ≡ map (λ s. cond (has_number number s) (g s) s) (numbered a)
changed_at a is g number place at there x y read made =
    let below : place < length a.streams.items = omega (arith, is.within place there, is.long) in
    written no_stream (has_number number) g a.streams.items place y a.order below (tells a is number place at) (made
    ∙ ap g (read ∙ get_or_default a.streams.items place x no_stream below))

pub retuned_at : (a : Inside) → Numbered a → (tuning : Option Tuning) (front : Option ℕ) (pids : Pids) (number place : ℕ) → place + 1 ≡ number
    → is_there place a.order ≡ true → (x y : Stream) → x ≡ get_or a.streams.items place x
    → y ≡ record x { tuning = tuning; front = front; pids = pids }
    → in_order no_stream (set a.streams.items place y) a.order ≡ with_stream number tuning front pids (numbered a)
unfolding stream_where
retuned_at a is tuning front pids number place at there x y read made =
    changed_at a is (λ s. record s { tuning = tuning; front = front; pids = pids }) number place at there x y read made

pub retuned_none : (tuning : Option Tuning) (front : Option ℕ) (pids : Pids) (number : ℕ) (streams : List Stream) → false ≡ is_live streams number
    → streams ≡ with_stream number tuning front pids streams
unfolding stream_where
retuned_none tuning front pids number streams dead =
    sym (map_none (has_number number) (λ s. record s { tuning = tuning; front = front; pids = pids }) streams (sym dead))

pub owned_at : (a : Inside) → Numbered a → (owner : SessionId) (number place : ℕ) → place + 1 ≡ number → is_there place a.order ≡ true → (x y : Stream)
    → x ≡ get_or a.streams.items place x
    → y ≡ record x { owner = owner } → in_order no_stream (set a.streams.items place y) a.order ≡ map (owned_where number owner) (numbered a)
unfolding owned_where
owned_at a is owner number place at there x y read made = changed_at a is (λ s. record s { owner = owner }) number place at there x y read made

pub owned_none : (owner : SessionId) (number : ℕ) (streams : List Stream) → false ≡ is_live streams number → streams ≡ map (owned_where number owner) streams
unfolding owned_where
owned_none owner number streams dead = sym (map_none (has_number number) (λ s. record s { owner = owner }) streams (sym dead))

pub ended_at : (a : Inside) → Numbered a → (number place : ℕ) → place + 1 ≡ number
    → in_order no_stream a.streams.items (filter (λ k. not (place == k)) a.order) ≡ filter (λ stream. not (has_number number stream)) (numbered a)
ended_at a is number place at = dropped no_stream (has_number number) a.streams.items place a.order (tells a is number place at)

-- the least place that isn't there is that of the least number that doesn't live
pub least_place : (a : Inside) → Numbered a → NumbersRise 0 (numbered a) → (place : ℕ) → is_there place a.order ≡ false
    → ((other : ℕ) → other < place → is_there other a.order ≡ true) → place + 1 ≡ gap 1 (numbered a) + 1
least_place a is rise place free least =
    let found = is_gap 0 (0 + 1 + gap 1 (numbered a)) (numbered a) rise refl in
    let live : (k number : ℕ) → k + 1 ≡ number → is_live (numbered a) number ≡ is_there k a.order =
    λ k number at. any_at no_stream (has_number number) a.streams.items k a.order (tells a is number k at) in
    let not_less : place < gap 1 (numbered a) → ⊥ =
    λ less. true≢false (sym (found.lively (place + 1) (omega arith) (omega (arith, less))) ∙ live place (place + 1) refl ∙ free) in
    let not_more : gap 1 (numbered a) < place → ⊥ =
    λ more. true≢false (sym (least (gap 1 (numbered a)) more) ∙ sym (live (gap 1 (numbered a)) (0 + 1 + gap 1 (numbered a)) (omega arith)) ∙ found.dead) in
    each (cases_order place (gap 1 (numbered a))) not_less not_more
  where
    each : (place ≡ gap 1 (numbered a)) ⊎ ((place < gap 1 (numbered a)) ⊎ (gap 1 (numbered a) < place)) → (place < gap 1 (numbered a) → ⊥)
        → (gap 1 (numbered a) < place → ⊥) → place + 1 ≡ gap 1 (numbered a) + 1
    each (inl same) _ _ = ap (λ n. n + 1) same
    each (inr (inl less)) never _ = absurd (never less)
    each (inr (inr more)) _ never = absurd (never more)

-- a stream begins at that place
pub record Begins (a : Inside) (number : ℕ) : Type 0 where
  pub within : number - 1 ≤ length a.order
  pub below : number - 1 < 64
  pub next : number - 1 + 1 ≡ number
  pub free : is_there (number - 1) a.order ≡ false

pub begins : (a : Inside) → Numbered a → (number : ℕ) → length (numbered a) < 64 → NumbersRise 0 (numbered a) → number ≡ gap 1 (numbered a) + 1
    → Begins a number
begins a is number room rise at =
    let found = is_gap 0 number (numbered a) rise (omega (arith, at)) in
    let long : length (numbered a) ≡ length a.order = length-map a.order (λ k. get_or a.streams.items k no_stream) in
    let next : number - 1 + 1 ≡ number = omega (arith, at) in
    record {
      within = omega (arith, found.within, long, at);
      below = omega (arith, found.within, at, room);
      next = next;
      free = sym (any_at no_stream (has_number number) a.streams.items (number - 1) a.order (tells a is number (number - 1) next)) ∙ found.dead;
    }

pub begun : (a : Inside) → Numbered a → (number : ℕ) (owner : SessionId) (y : Stream) → Begins a number → NumbersRise 0 (numbered a)
    → number ≡ gap 1 (numbered a) + 1 → y ≡ fresh number owner → (fresh number owner).number ≡ number
    → in_order no_stream (set a.streams.items (number - 1) y) (insert a.order (number - 1) (number - 1)) ≡ put_stream (fresh number owner) (numbered a)
begun a is number owner y here rise at made named =
    let items = set a.streams.items (number - 1) y in
    let next : (fresh number owner).number ≡ 0 + 1 + gap 1 (numbered a) = omega (arith, named, at) in
    placed_in no_stream items a.order (number - 1) (number - 1)
    ∙ ap (λ xs. insert xs (number - 1) (get_or items (number - 1) no_stream)) (untouched no_stream a.streams.items (number - 1) y a.order here.free)
    ∙ ap (λ s. insert (numbered a) (number - 1) s) (get_or-set_same a.streams.items (number - 1) y no_stream (omega (arith, here.below, is.long)) ∙ made)
    ∙ ap (λ n. insert (numbered a) (n - 1) (fresh number owner)) (sym named)
    ∙ put-gap (fresh number owner) (numbered a) rise next

-- what the stream is that begins
pub fresh_at : (a : Inside) → Numbered a → (number : ℕ) (owner : SessionId) (x y : Stream) → Begins a number → x ≡ get_or a.streams.items (number - 1) x
    → y ≡ fresh x.number owner → y ≡ fresh number owner
fresh_at a is number owner x y here read made =
    let at : x.number ≡ number = ap (λ (s : Stream). s.number) (read
    ∙ get_or_default a.streams.items (number - 1) x no_stream (omega (arith, here.below, is.long))) ∙ is.numbers (number - 1) here.below ∙ here.next in
    made ∙ ap (λ n. fresh n owner) at

pub fresh_number : (number : ℕ) (owner : SessionId) → (fresh number owner).number ≡ number
unfolding fresh
fresh_number number owner = refl
