-- Sessions by slot.
use Rattle.std.proofs.Common.{◌≡◌, ◌∙◌, ℕ, ◌+◌, ◌<◌, ◌≤◌, ◌==◌, ◌&&◌, ◌||◌, not, true, false, cond, Bool, zero, suc, List, [], ◌∷◌, ◌++◌, length, get_or, set}
use Rattle.std.proofs.Common.{filter, find, drop, ◌-◌, refl, ap, sym, subst, arith, inl, inr, ◌⊎◌, None, Some, is_some}
use Rattle.std.specs.List.{list_any, slice_get}
use Rattle.std.specs.Option.{option_map}
use Rattle.std.proofs.lemmas.Bool.{cases_eq, cases_order, eqb-true, eqb-false, eq-eqb, ne_eqb, and_parts, or_right, true≢false}
use Rattle.std.proofs.lemmas.List.{drop_more, get_or-set_other, get_or-set_same, get_or_append_left, get_or_default, get_or_push, map-append}
use Rattle.std.proofs.lemmas.Option.{same_Some, slice_get-map}
use Rattle.satip_base.specs.declared.identity.SessionId.{SessionId}
use Rattle.satip_table.specs.declared.session.Change.{Change}
use Rattle.satip_table.specs.declared.session.Seat.{Seat}
use Rattle.satip_table.specs.declared.session.Session.{Session}
use Rattle.satip_table.specs.declared.seats.Seats.TheInside.{Inside}
use Rattle.satip_table.specs.Changes.{changed_by}
use Rattle.satip_table.specs.Living.{CountsRise}
use Rattle.satip_table.specs.Placed.{in_order, is_there}
use Rattle.satip_table.specs.Seated.{Seated, no_seat, seated}
use Rattle.satip_table.specs.Sessions.{changed_where, has_id_of, has_slot, is_in, members, owner_of, with_session, without}
use Rattle.satip_table.proofs.Listing.{any_none, filter_none, find_any, find_passes, map_none}
use Rattle.satip_table.proofs.Placing.{Tells, any_at, dropped, found_at, none_at, there_first, untouched, written}

eq_swap : (a b : ℕ) → (a == b) ≡ (b == a)
eq_swap a b = each (cases_eq a b)
  where
    each : (a ≡ b) ⊎ (a ≡ b → ⊥) → (a == b) ≡ (b == a)
    each (inl same) = eq-eqb a b same ∙ sym (eq-eqb b a (sym same))
    each (inr apart) = ne_eqb a b apart ∙ sym (ne_eqb b a (λ e. apart (sym e)))

-- a slot tells the session in it from the others
slot_tells : (a : Inside) → Seated a → (slot : ℕ) → Tells no_seat (has_slot slot) a.seats.items slot a.order
slot_tells a is slot k there = ap (λ n. n == slot) (is.slots k (is.within k there)) ∙ eq_swap k slot

pub at_some : (a : Inside) → Seated a → (slot : ℕ) → is_there slot a.order ≡ true → (x : Seat) → x ≡ get_or a.seats.items slot x
    → Some x ≡ find (has_slot slot) (seated a)
at_some a is slot there x read =
    ap Some (read ∙ get_or_default a.seats.items slot x no_seat (omega (arith, is.within slot there, is.long)))
    ∙ sym (found_at no_seat (has_slot slot) a.seats.items slot a.order (slot_tells a is slot) there)

pub at_none : (a : Inside) → Seated a → (slot : ℕ) → is_there slot a.order ≡ false → None ≡ find (has_slot slot) (seated a)
at_none a is slot free = sym (none_at no_seat (has_slot slot) a.seats.items a.order (λ k there. slot_tells a is slot k there
    ∙ ne_eqb slot k (λ e. true≢false (sym there ∙ ap (λ n. is_there n a.order) (sym e) ∙ free)))).0

pub get_some : (a : Inside) → Seated a → (k slot : ℕ) → slice_get a.order k ≡ Some slot → slot < 64 → (x : Seat) → x ≡ get_or a.seats.items slot x
    → Some x ≡ slice_get (seated a) k
get_some a is k slot here below x read =
    ap Some (read ∙ get_or_default a.seats.items slot x no_seat (omega (arith, below, is.long)))
    ∙ sym (slice_get-map (λ p. get_or a.seats.items p no_seat) a.order k ∙ ap (option_map (λ p. get_or a.seats.items p no_seat)) here)

-- a session comes into a free slot
pub free_in : (a : Inside) → Seated a → (slot : ℕ) → is_there slot a.order ≡ false → list_any (has_slot slot) (seated a) ≡ false
free_in a is slot free = any_at no_seat (has_slot slot) a.seats.items slot a.order (slot_tells a is slot) ∙ free

pub added : (a : Inside) → Seated a → (slot : ℕ) (session : Session) (x : Seat) → slot < 64 → is_there slot a.order ≡ false → x ≡ get_or a.seats.items slot x
    → in_order no_seat (set a.seats.items slot (record { slot = x.slot; session = session })) (a.order ++ slot ∷ []) ≡ seated a
    ++ record { slot = slot; session = session } ∷ []
added a is slot session x below free read =
    let y : Seat = record { slot = x.slot; session = session } in
    let long : slot < length a.seats.items = omega (arith, below, is.long) in
    let own : x.slot ≡ slot = ap (λ (s : Seat). s.slot) (read ∙ get_or_default a.seats.items slot x no_seat long) ∙ is.slots slot below in
    map-append (λ k. get_or (set a.seats.items slot y) k no_seat) a.order (slot ∷ [])
    ∙ ap (λ xs. xs ++ get_or (set a.seats.items slot y) slot no_seat ∷ []) (untouched no_seat a.seats.items slot y a.order free)
    ∙ ap (λ s. seated a ++ s ∷ []) (get_or-set_same a.seats.items slot y no_seat long ∙ ap (λ n. record { slot = n; session = session }) own)

-- a session in a slot is changed but for the slot
pub slots_set : (items : List Seat) (slot : ℕ) (y : Seat) → slot < length items → ((k : ℕ) → k < 64 → (get_or items k no_seat).slot ≡ k) → y.slot ≡ slot
    → (k : ℕ) → k < 64 → (get_or (set items slot y) k no_seat).slot ≡ k
slots_set items slot y below slots own k within = each (cases_eq k slot)
  where
    each : (k ≡ slot) ⊎ (k ≡ slot → ⊥) → (get_or (set items slot y) k no_seat).slot ≡ k
    each (inl same) = ap (λ n. (get_or (set items slot y) n no_seat).slot) same ∙ ap (λ (s : Seat). s.slot) (get_or-set_same items slot y no_seat below) ∙ own
        ∙ sym same
    each (inr apart) = ap (λ (s : Seat). s.slot) (get_or-set_other items slot k y no_seat apart) ∙ slots k within

pub slots_push : (items : List Seat) (slot : ℕ) (y : Seat) → length items ≡ slot → y.slot ≡ slot → ((k : ℕ) → k < slot → (get_or items k no_seat).slot ≡ k)
    → (k : ℕ) → k < slot + 1 → (get_or (items ++ y ∷ []) k no_seat).slot ≡ k
slots_push items slot y long own slots k within = each (cases_eq k slot)
  where
    each : (k ≡ slot) ⊎ (k ≡ slot → ⊥) → (get_or (items ++ y ∷ []) k no_seat).slot ≡ k
    each (inl same) = ap (λ n. (get_or (items ++ y ∷ []) n no_seat).slot) same ∙ ap (λ (s : Seat). s.slot) (get_or_push items y no_seat slot long) ∙ own
        ∙ sym same
    each (inr apart) =
        let less : k < slot = omega arith in
        ap (λ (s : Seat). s.slot) (get_or_append_left items (y ∷ []) no_seat k (omega (arith, long, less))) ∙ slots k less

-- the sessions behind one have greater counts
rising_there : (items : List Seat) (above last : ℕ) (order : List ℕ) → CountsRise above last (in_order no_seat items order) → (k : ℕ)
    → is_there k order ≡ true → above < (get_or items k no_seat).session.id.count
rising_there items above last [] rise k there = cc
rising_there items above last (j ∷ order) rise k there =
    each (k == j) refl there (rising_there items (get_or items j no_seat).session.id.count last order rise.1 k)
  where
    each : (b : Bool) → (k == j) ≡ b → (b || is_there k order) ≡ true
        → (is_there k order ≡ true → (get_or items j no_seat).session.id.count < (get_or items k no_seat).session.id.count)
        → above < (get_or items k no_seat).session.id.count
    each true same _ _ = subst (λ n. above < (get_or items n no_seat).session.id.count) (sym (eqb-true k j same)) rise.0
    each false _ later rest = let more = rest later in omega (arith, more, rise.0)

pub rising_from : (items : List Seat) (above last : ℕ) (order : List ℕ) → CountsRise above last (in_order no_seat items order) → (k : ℕ) → k < length order
    → above < (get_or items (get_or order k 0) no_seat).session.id.count
rising_from items above last [] rise k below = absurd (omega arith)
rising_from items above last (j ∷ order) rise zero below = rise.0
rising_from items above last (j ∷ order) rise (suc k) below =
    let more = rising_from items (get_or items j no_seat).session.id.count last order rise.1 k (omega arith) in
    omega (arith, more, rise.0)

pub rising_at : (items : List Seat) (above last : ℕ) (order : List ℕ) → CountsRise above last (in_order no_seat items order) → (i j : ℕ) → i < j
    → j < length order
    → (get_or items (get_or order i 0) no_seat).session.id.count < (get_or items (get_or order j 0) no_seat).session.id.count
rising_at items above last [] rise i j less below = absurd (omega arith)
rising_at items above last (s ∷ order) rise i zero less below = absurd (omega arith)
rising_at items above last (s ∷ order) rise zero (suc j) less below =
    rising_from items (get_or items s no_seat).session.id.count last order rise.1 j (omega arith)
rising_at items above last (s ∷ order) rise (suc i) (suc j) less below =
    rising_at items (get_or items s no_seat).session.id.count last order rise.1 i j (omega arith) (omega arith)

-- sessions of another count have another id
pub id_apart : (id : SessionId) (seat : Seat) → (seat.session.id.count ≡ id.count → ⊥) → has_id_of id seat ≡ false
id_apart id seat apart = ap (λ b. b && seat.session.id.word == id.word) (ne_eqb seat.session.id.count id.count apart)

id_count : (id : SessionId) (seat : Seat) → has_id_of id seat ≡ true → seat.session.id.count ≡ id.count
id_count id seat has = eqb-true seat.session.id.count id.count (and_parts _ _ has).0

-- an id tells the session that is found from the others
pub id_tells : (items : List Seat) (id : SessionId) (slot above last : ℕ) (order : List ℕ) → CountsRise above last (in_order no_seat items order)
    → find (has_id_of id) (in_order no_seat items order) ≡ Some (get_or items slot no_seat)
    → (get_or items slot no_seat).slot ≡ slot → ((k : ℕ) → is_there k order ≡ true → (get_or items k no_seat).slot ≡ k)
    → Tells no_seat (has_id_of id) items slot order
id_tells items id slot above last [] rise found own slots k there = cc
id_tells items id slot above last (j ∷ order) rise found own slots k there =
    each (has_id_of id (get_or items j no_seat)) (k == j) refl refl found there
    (λ later some. id_tells items id slot (get_or items j no_seat).session.id.count last order rise.1 later own (λ n t. slots n (or_right _ _ t)) k some)
  where
    each : (b e : Bool) → has_id_of id (get_or items j no_seat) ≡ b → (k == j) ≡ e
        → cond b (Some (get_or items j no_seat)) (find (has_id_of id) (in_order no_seat items order)) ≡ Some (get_or items slot no_seat)
        → (e || is_there k order) ≡ true
        → (find (has_id_of id) (in_order no_seat items order) ≡ Some (get_or items slot no_seat) → is_there k order ≡ true
        → has_id_of id (get_or items k no_seat) ≡ (slot == k)) → has_id_of id (get_or items k no_seat) ≡ (slot == k)
    each true true has same one _ _ =
        let here : k ≡ j = eqb-true k j same in
        let slot_is : j ≡ slot = sym (slots j (there_first j order)) ∙ ap (λ (s : Seat). s.slot) (same_Some _ _ one) ∙ own in
        ap (λ n. has_id_of id (get_or items n no_seat)) here ∙ has ∙ sym (eq-eqb slot k (sym (here ∙ slot_is)))
    each true false has apart one later _ =
        let slot_is : j ≡ slot = sym (slots j (there_first j order)) ∙ ap (λ (s : Seat). s.slot) (same_Some _ _ one) ∙ own in
        let more = rising_there items (get_or items j no_seat).session.id.count last order rise.1 k later in
        let count = id_count id (get_or items j no_seat) has in
        id_apart id (get_or items k no_seat) (λ e. omega (arith, e, more, count)) ∙ sym (ne_eqb slot k (λ e. eqb-false k j apart (sym (slot_is ∙ e))))
    each false true lacks same later _ _ =
        let here : k ≡ j = eqb-true k j same in
        let passes = find_passes (has_id_of id) (in_order no_seat items order) (get_or items slot no_seat) later in
        ap (λ n. has_id_of id (get_or items n no_seat)) here ∙ lacks
        ∙ sym (ne_eqb slot k (λ e. true≢false (sym passes ∙ ap (λ n. has_id_of id (get_or items n no_seat)) (e ∙ here) ∙ lacks)))
    each false false lacks apart later some rest = rest later some

-- a session is found at a place in order where none before has its id
pub find_place : (items : List Seat) (id : SessionId) (order : List ℕ) (place : ℕ) → place < length order
    → ((k : ℕ) → k < place → has_id_of id (get_or items (get_or order k 0) no_seat) ≡ false)
    → has_id_of id (get_or items (get_or order place 0) no_seat) ≡ true
    → find (has_id_of id) (in_order no_seat items order) ≡ Some (get_or items (get_or order place 0) no_seat)
find_place items id [] place below before here = absurd (omega arith)
find_place items id (j ∷ order) zero below before here =
    ap (λ b. cond b (Some (get_or items j no_seat)) (find (has_id_of id) (in_order no_seat items order))) here
find_place items id (j ∷ order) (suc place) below before here =
    ap (λ b. cond b (Some (get_or items j no_seat)) (find (has_id_of id) (in_order no_seat items order))) (before 0 (omega arith))
    ∙ find_place items id order place (omega arith) (λ k less. before (suc k) (omega arith)) here

pub find_nowhere : (items : List Seat) (id : SessionId) (order : List ℕ)
    → ((k : ℕ) → k < length order → has_id_of id (get_or items (get_or order k 0) no_seat) ≡ false) → find (has_id_of id) (in_order no_seat items order) ≡ None
find_nowhere items id [] lacks = refl
find_nowhere items id (j ∷ order) lacks =
    ap (λ b. cond b (Some (get_or items j no_seat)) (find (has_id_of id) (in_order no_seat items order))) (lacks 0 (omega arith))
    ∙ find_nowhere items id order (λ k less. lacks (suc k) (omega arith))

-- what a binary search keeps: the counts below low are less than the id's, those from high on are not
pub record Searched (items : List Seat) (order : List ℕ) (id : SessionId) (low high : ℕ) : Type 0 where
  pub range : low ≤ high
  pub within : high ≤ length order
  pub less : (k : ℕ) → k < low → (get_or items (get_or order k 0) no_seat).session.id.count < id.count
  pub more : (k : ℕ) → high ≤ k → k < length order → id.count ≤ (get_or items (get_or order k 0) no_seat).session.id.count

pub search_up : (items : List Seat) (order : List ℕ) (id : SessionId) (low high middle above last : ℕ) → CountsRise above last (in_order no_seat items order)
    → Searched items order id low high → middle < high
    → (get_or items (get_or order middle 0) no_seat).session.id.count < id.count → Searched items order id (middle + 1) high
search_up items order id low high middle above last rise is below count = record {
  range = omega arith;
  within = is.within;
  less = λ k less. each k less (cases_eq k middle);
  more = is.more;
}
  where
    each : (k : ℕ) → k < middle + 1 → (k ≡ middle) ⊎ (k ≡ middle → ⊥) → (get_or items (get_or order k 0) no_seat).session.id.count < id.count
    each k less (inl same) = subst (λ n. (get_or items (get_or order n 0) no_seat).session.id.count < id.count) (sym same) count
    each k less (inr apart) =
        let up = rising_at items above last order rise k middle (omega arith) (omega (arith, is.within)) in
        omega (arith, up, count)

pub search_down : (items : List Seat) (order : List ℕ) (id : SessionId) (low high middle above last : ℕ)
    → CountsRise above last (in_order no_seat items order) → Searched items order id low high → low ≤ middle → middle < high
    → id.count ≤ (get_or items (get_or order middle 0) no_seat).session.id.count → Searched items order id low middle
search_down items order id low high middle above last rise is from below count = record {
  range = from;
  within = omega (arith, is.within);
  less = is.less;
  more = λ k least within. each k least within (cases_eq k middle);
}
  where
    each : (k : ℕ) → middle ≤ k → k < length order → (k ≡ middle) ⊎ (k ≡ middle → ⊥) → id.count ≤ (get_or items (get_or order k 0) no_seat).session.id.count
    each k least within (inl same) = subst (λ n. id.count ≤ (get_or items (get_or order n 0) no_seat).session.id.count) (sym same) count
    each k least within (inr apart) =
        let up = rising_at items above last order rise middle k (omega arith) within in
        omega (arith, up, count)

-- where it ends: at the session with the id, or there is none
lacks_before : (items : List Seat) (order : List ℕ) (id : SessionId) (low high : ℕ) → Searched items order id low high → (k : ℕ) → k < low
    → has_id_of id (get_or items (get_or order k 0) no_seat) ≡ false
lacks_before items order id low high is k below = let less =
    is.less k below in id_apart id (get_or items (get_or order k 0) no_seat) (λ e. omega (arith, e, less))

pub search_found : (items : List Seat) (order : List ℕ) (id : SessionId) (low high : ℕ) → Searched items order id low high → low < length order
    → has_id_of id (get_or items (get_or order low 0) no_seat) ≡ true
    → find (has_id_of id) (in_order no_seat items order) ≡ Some (get_or items (get_or order low 0) no_seat)
search_found items order id low high is below here = find_place items id order low below (lacks_before items order id low high is) here

pub search_missed : (items : List Seat) (order : List ℕ) (id : SessionId) (low high above last : ℕ) → CountsRise above last (in_order no_seat items order)
    → Searched items order id low high → high ≤ low
    → (low < length order → has_id_of id (get_or items (get_or order low 0) no_seat) ≡ false) → find (has_id_of id) (in_order no_seat items order) ≡ None
search_missed items order id low high above last rise is met lacks = find_nowhere items id order (λ k within. each k within (cases_order k low))
  where
    each : (k : ℕ) → k < length order → (k ≡ low) ⊎ ((k < low) ⊎ (low < k)) → has_id_of id (get_or items (get_or order k 0) no_seat) ≡ false
    each k within (inl same) = subst (λ n. has_id_of id (get_or items (get_or order n 0) no_seat) ≡ false) (sym same) (lacks (omega (arith, within, same)))
    each k within (inr (inl less)) = lacks_before items order id low high is k less
    each k within (inr (inr more)) =
        let up = rising_at items above last order rise low k more within in
        let from = is.more low met (omega arith) in
        id_apart id (get_or items (get_or order k 0) no_seat) (λ e. omega (arith, e, up, from))

-- the session that is found changes, or leaves
pub changed_at : (a : Inside) → Seated a → (id : SessionId) (to : Change) (slot : ℕ) (x y : Seat) → ((last : ℕ) × CountsRise 0 last (seated a))
    → Some (get_or a.seats.items slot no_seat) ≡ find (has_id_of id) (seated a) → is_there slot a.order ≡ true
    → x ≡ get_or a.seats.items slot x → y ≡ record x { session = changed_by to x.session }
    → in_order no_seat (set a.seats.items slot y) a.order ≡ with_session id (changed_by to) (seated a)
unfolding changed_where
changed_at a is id to slot x y rise found there read made =
    let below : slot < length a.seats.items = omega (arith, is.within slot there, is.long) in
    let tells = id_tells a.seats.items id slot 0 rise.0 a.order rise.1 (sym found) (is.slots slot (is.within slot there)) (λ k t. is.slots k (is.within k t)) in
    written no_seat (has_id_of id) (λ (s : Seat). record s { session = changed_by to s.session }) a.seats.items slot y a.order below tells
    (made ∙ ap (λ (s : Seat). record s { session = changed_by to s.session }) (read ∙ get_or_default a.seats.items slot x no_seat below))

pub changed_none : (id : SessionId) (to : Change) (seats : List Seat) → None ≡ find (has_id_of id) seats → seats ≡ with_session id (changed_by to) seats
unfolding changed_where
changed_none id to seats lost =
    sym (map_none (has_id_of id) (λ (s : Seat). record s { session = changed_by to s.session }) seats (any_none (has_id_of id) seats (sym lost)))

pub removed_at : (a : Inside) → Seated a → (id : SessionId) (slot : ℕ) → ((last : ℕ) × CountsRise 0 last (seated a))
    → Some (get_or a.seats.items slot no_seat) ≡ find (has_id_of id) (seated a) → is_there slot a.order ≡ true
    → in_order no_seat a.seats.items (filter (λ k. not (slot == k)) a.order) ≡ without id (seated a)
removed_at a is id slot rise found there =
    dropped no_seat (has_id_of id) a.seats.items slot a.order
    (id_tells a.seats.items id slot 0 rise.0 a.order rise.1 (sym found) (is.slots slot (is.within slot there)) (λ k t. is.slots k (is.within k t)))

pub removed_none : (id : SessionId) (seats : List Seat) → None ≡ find (has_id_of id) seats → seats ≡ without id seats
removed_none id seats lost = sym (filter_none (has_id_of id) seats (any_none (has_id_of id) seats (sym lost)))

pub lives_some : (id : SessionId) (seats : List Seat) (seat : Seat) → Some seat ≡ find (has_id_of id) seats → true ≡ list_any (has_id_of id) seats
lives_some id seats seat found = ap is_some found ∙ find_any (has_id_of id) seats

-- a step along the order: the first session of a stream, and those behind it
next_seat : (items : List Seat) (order : List ℕ) (k : ℕ) → k < length order
    → in_order no_seat items (drop k order) ≡ get_or items (get_or order k 0) no_seat ∷ in_order no_seat items (drop (k + 1) order)
next_seat items order k below = ap (in_order no_seat items) (drop_more order k 0 below)

pub first_here : (items : List Seat) (order : List ℕ) (stream k : ℕ) → k < length order → is_in stream (get_or items (get_or order k 0) no_seat) ≡ true
    → find (is_in stream) (in_order no_seat items (drop k order)) ≡ find (is_in stream) (in_order no_seat items order)
    → Some (get_or items (get_or order k 0) no_seat).session.id ≡ owner_of (in_order no_seat items order) stream
first_here items order stream k below here so_far =
    let seat = get_or items (get_or order k 0) no_seat in
    let found = ap (λ b. cond b (Some seat) (find (is_in stream) (in_order no_seat items (drop (k + 1) order)))) (sym here)
    ∙ ap (find (is_in stream)) (sym (next_seat items order k below)) ∙ so_far in
    ap (option_map (λ (s : Seat). s.session.id)) found

pub first_later : (items : List Seat) (order : List ℕ) (stream k : ℕ) → k < length order → is_in stream (get_or items (get_or order k 0) no_seat) ≡ false
    → find (is_in stream) (in_order no_seat items (drop (k + 1) order)) ≡ find (is_in stream) (in_order no_seat items (drop k order))
first_later items order stream k below away =
    let seat = get_or items (get_or order k 0) no_seat in
    ap (λ b. cond b (Some seat) (find (is_in stream) (in_order no_seat items (drop (k + 1) order)))) (sym away)
    ∙ ap (find (is_in stream)) (sym (next_seat items order k below))

-- the sessions of a stream from here on
members_here : (items : List Seat) (order : List ℕ) (stream k : ℕ) → k < length order → is_in stream (get_or items (get_or order k 0) no_seat) ≡ true
    → members stream (in_order no_seat items (drop k order)) ≡ get_or items (get_or order k 0) no_seat ∷ members stream
    (in_order no_seat items (drop (k + 1) order))
members_here items order stream k below here =
    let seat = get_or items (get_or order k 0) no_seat in
    let rest = members stream (in_order no_seat items (drop (k + 1) order)) in
    ap (members stream) (next_seat items order k below) ∙ ap (λ b. cond b (seat ∷ rest) rest) here

pub member_here : (items : List Seat) (order : List ℕ) (stream place k before : ℕ) → k < length order
    → is_in stream (get_or items (get_or order k 0) no_seat) ≡ true → place + 1 ≡ before
    → slice_get (members stream (in_order no_seat items (drop k order))) (place + 1 - before) ≡ slice_get (members stream (in_order no_seat items order))
    (place + 1)
    → Some (get_or items (get_or order k 0) no_seat).session.id ≡ option_map (λ (s : Seat). s.session.id)
    (slice_get (members stream (in_order no_seat items order)) (place + 1))
member_here items order stream place k before below here last so_far =
    let none : place + 1 - before ≡ 0 = omega arith in
    let first = ap (λ xs. slice_get xs 0) (sym (members_here items order stream k below here))
    ∙ ap (slice_get (members stream (in_order no_seat items (drop k order)))) (sym none) ∙ so_far in
    ap (option_map (λ (s : Seat). s.session.id)) first

pub member_later : (items : List Seat) (order : List ℕ) (stream place k before : ℕ) → k < length order
    → is_in stream (get_or items (get_or order k 0) no_seat) ≡ true → before ≤ place
    → slice_get (members stream (in_order no_seat items (drop (k + 1) order))) (place + 1 - (before + 1)) ≡ slice_get
    (members stream (in_order no_seat items (drop k order))) (place + 1 - before)
member_later items order stream place k before below here few =
    let more : suc (place + 1 - (before + 1)) ≡ place + 1 - before = omega arith in
    ap (λ xs. slice_get xs (suc (place + 1 - (before + 1)))) (sym (members_here items order stream k below here))
    ∙ ap (slice_get (members stream (in_order no_seat items (drop k order)))) more

pub member_next : (items : List Seat) (order : List ℕ) (stream left k : ℕ) → k < length order → is_in stream (get_or items (get_or order k 0) no_seat) ≡ false
    → slice_get (members stream (in_order no_seat items (drop (k + 1) order))) left ≡ slice_get (members stream (in_order no_seat items (drop k order))) left
member_next items order stream left k below away =
    let seat = get_or items (get_or order k 0) no_seat in
    let rest = members stream (in_order no_seat items (drop (k + 1) order)) in
    ap (λ xs. slice_get xs left) (ap (λ b. cond b (seat ∷ rest) rest) (sym away) ∙ ap (members stream) (sym (next_seat items order k below)))
