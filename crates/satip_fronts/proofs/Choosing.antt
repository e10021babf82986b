-- A front end is chosen unless none is to be had, and the chosen one is there.
use Rattle.std.proofs.Common.{◌≡◌, ◌∙◌, ℕ, ◌==◌, ◌&&◌, ◌||◌, not, Bool, true, false, cond, List, [], ◌∷◌, Option, None, Some, find, filter, is_some, refl, ap}
use Rattle.std.proofs.Common.{sym, eq-eqb}
use Rattle.std.specs.List.{list_any, list_all}
use Rattle.std.specs.Option.{option_map}
use Rattle.std.proofs.lemmas.Bool.{or_right, or_left}
use Rattle.satip_tune.specs.Frontends.{fits_of}
use Rattle.satip_tune.specs.declared.frontends.Front.{Front}
use Rattle.satip_tune.specs.declared.tunings.Tuning.{Tuning}
use Rattle.satip_fronts.specs.declared.choice.Place.{Place}
use Rattle.satip_fronts.specs.declared.choice.Case.{Case}
use Rattle.satip_fronts.specs.declared.choice.Case.TheVariants.{Keep, Share, Retune, Start}
use Rattle.satip_fronts.specs.Choice.{Outlook, blocked, choose, first_placed, is_empty, is_occupied, is_own, is_tuned, least, may_take, placed, suits}
use Rattle.satip_fronts.specs.FrontEnds.{FrontEnds, is_front, outlook}
use Rattle.satip_fronts.specs.Openings.{blocked_for, is_open, new_outlook, other_places, outlook_for}
use Rattle.satip_tune.specs.Frontends.{mux_for}

module _ {X : Type 0} where
  -- tests of one list
  any_or : (p q : X → Bool) (xs : List X) → (list_any p xs || list_any q xs) ≡ list_any (λ x. p x || q x) xs
  any_or p q [] = refl
  any_or p q (x ∷ xs) = each (p x) (q x) (list_any p xs) (list_any q xs) ∙ ap (λ b. (p x || q x) || b) (any_or p q xs)
    where
      each : (a b c d : Bool) → ((a || c) || (b || d)) ≡ ((a || b) || (c || d))
      each true true c d = refl
      each true false c d = refl
      each false true true d = refl
      each false true false d = refl
      each false false c d = refl

  any_agree : (p q : X → Bool) → ((x : X) → p x ≡ q x) → (xs : List X) → list_any p xs ≡ list_any q xs
  any_agree p q same [] = refl
  any_agree p q same (x ∷ xs) = ap (λ b. b || list_any p xs) (same x) ∙ ap (λ b. q x || b) (any_agree p q same xs)

  find_any : (p : X → Bool) (xs : List X) → is_some (find p xs) ≡ list_any p xs
  find_any p [] = refl
  find_any p (x ∷ xs) = each (p x) (find_any p xs)
    where
      each : (b : Bool) → is_some (find p xs) ≡ list_any p xs → is_some (cond b (Some x) (find p xs)) ≡ (b || list_any p xs)
      each true rest = refl
      each false rest = rest

  -- that none is, or all are, among those that pass
  empty_all : (p : X → Bool) (xs : List X) → (is_empty xs || list_all p xs) ≡ list_all p xs
  empty_all p [] = refl
  empty_all p (x ∷ xs) = refl

  any_all : (f p : X → Bool) (xs : List X) → list_any (λ x. f x && not (p x)) xs ≡ not (list_all p (filter f xs))
  any_all f p [] = refl
  any_all f p (x ∷ xs) = each (f x) (p x) refl (any_all f p xs)
    where
      each : (a b : Bool) → p x ≡ b → list_any (λ y. f y && not (p y)) xs ≡ not (list_all p (filter f xs))
          → ((a && not b) || list_any (λ y. f y && not (p y)) xs) ≡ not (list_all p (cond a (x ∷ filter f xs) (filter f xs)))
      each false b _ rest = rest
      each true true passes rest = rest ∙ ap (λ b. not (b && list_all p (filter f xs))) (sym passes)
      each true false fails rest = ap (λ b. not (b && list_all p (filter f xs))) (sym fails)

  -- one of the four cases applies somewhere, unless none is to be had
  chosen_of : (fits_of own tuned shared : X → Bool) (xs : List X) →
      (list_any (λ x. fits_of x && (own x && tuned x)) xs
      || (list_any (λ x. fits_of x && tuned x) xs
      || (list_any (λ x. fits_of x && (own x && not (shared x))) xs
      || list_any (λ x. fits_of x && (not (own x) && not (shared x))) xs)))
      ≡ not (is_empty (filter fits_of xs) || list_all (λ x. shared x && not (tuned x)) (filter fits_of xs))
  chosen_of fits_of own tuned shared xs =
      let keeps : X → Bool = λ x. fits_of x && (own x && tuned x) in
      let shares : X → Bool = λ x. fits_of x && tuned x in
      let retunes : X → Bool = λ x. fits_of x && (own x && not (shared x)) in
      let starts : X → Bool = λ x. fits_of x && (not (own x) && not (shared x)) in
      let occupied : X → Bool = λ x. shared x && not (tuned x) in
      ap (λ b. list_any keeps xs || (list_any shares xs || b)) (any_or retunes starts xs)
      ∙ ap (λ b. list_any keeps xs || b) (any_or shares (λ x. retunes x || starts x) xs)
      ∙ any_or keeps (λ x. shares x || (retunes x || starts x)) xs
      ∙ any_agree (λ x. keeps x || (shares x || (retunes x || starts x))) (λ x. fits_of x && not (occupied x))
      (λ x. table (fits_of x) (own x) (tuned x) (shared x)) xs
      ∙ any_all fits_of occupied xs
      ∙ ap not (sym (empty_all occupied (filter fits_of xs)))
    where
      table : (f o t s : Bool) → ((f && (o && t)) || ((f && t) || ((f && (o && not s)) || (f && (not o && not s))))) ≡ (f && not (s && not t))
      table false o t s = refl
      table true true true true = refl
      table true true true false = refl
      table true true false true = refl
      table true true false false = refl
      table true false true true = refl
      table true false true false = refl
      table true false false true = refl
      table true false false false = refl

least_any : (case : Case) (o : Outlook) (wanted : Option ℕ) (tuning : Tuning)
    → is_some (least case o wanted tuning) ≡ list_any (suits case o wanted tuning) o.fronts
unfolding least
least_any case o wanted tuning = mapped (find (suits case o wanted tuning) o.fronts) ∙ find_any (suits case o wanted tuning) o.fronts
  where
    mapped : (found : Option Front) → is_some (option_map (λ (front : Front). front.number) found) ≡ is_some found
    mapped None = refl
    mapped (Some front) = refl

some_place : (keep share retune start : Option ℕ)
    → is_some (first_placed (placed false keep ∷ placed false share ∷ placed true retune ∷ placed true start ∷ [])) ≡ (is_some keep
    || (is_some share || (is_some retune || is_some start)))
unfolding placed
some_place (Some a) share retune start = refl
some_place None (Some b) retune start = refl
some_place None None (Some c) start = refl
some_place None None None (Some d) = refl
some_place None None None None = refl

-- a front end is chosen unless none is to be had
pub chosen_unless_blocked : (o : Outlook) (wanted : Option ℕ) (tuning : Tuning) → is_some (choose o wanted tuning) ≡ not (blocked o wanted tuning)
unfolding choose blocked may_take
chosen_unless_blocked o wanted tuning =
    some_place (least Keep o wanted tuning) (least Share o wanted tuning) (least Retune o wanted tuning) (least Start o wanted tuning)
    ∙ ap (λ b. b || (is_some (least Share o wanted tuning) || (is_some (least Retune o wanted tuning) || is_some (least Start o wanted tuning))))
    (least_any Keep o wanted tuning)
    ∙ ap (λ b. list_any (suits Keep o wanted tuning) o.fronts || (b || (is_some (least Retune o wanted tuning) || is_some (least Start o wanted tuning))))
    (least_any Share o wanted tuning)
    ∙ ap (λ b. list_any (suits Keep o wanted tuning) o.fronts
    || (list_any (suits Share o wanted tuning) o.fronts || (b || is_some (least Start o wanted tuning)))) (least_any Retune o wanted tuning)
    ∙ ap (λ b. list_any (suits Keep o wanted tuning) o.fronts
    || (list_any (suits Share o wanted tuning) o.fronts || (list_any (suits Retune o wanted tuning) o.fronts || b))) (least_any Start o wanted tuning)
    ∙ chosen_of (λ front. fits_of front tuning) (is_own o) (is_tuned o wanted) (λ front. o.shared front.number) o.fronts

-- what is found has its number in the list
found_number : (p : Front → Bool) (fronts : List Front) (front : Front) → find p fronts ≡ Some front → list_any (is_front front.number) fronts ≡ true
found_number p [] front found = cc
found_number p (other ∷ fronts) front found = each (p other) found (found_number p fronts front)
  where
    each : (b : Bool) → cond b (Some other) (find p fronts) ≡ Some front → (find p fronts ≡ Some front → list_any (is_front front.number) fronts ≡ true)
        → (other.number == front.number || list_any (is_front front.number) fronts) ≡ true
    each true here rest = let same : other ≡ front = cc in or_left _ _ (eq-eqb other.number front.number (ap (λ (f : Front). f.number) same))
    each false later rest = or_right _ _ (rest later)

-- the number of the place, where there is one
numbered : Option Place → ℕ → ℕ
numbered None other = other
numbered (Some p) other = p.front

IsKnown : List Front → Option Place → Type 0
IsKnown fronts place = (p : Place) → place ≡ Some p → list_any (is_front p.front) fronts ≡ true

least_known : (anew : Bool) (case : Case) (o : Outlook) (wanted : Option ℕ) (tuning : Tuning) → IsKnown o.fronts (placed anew (least case o wanted tuning))
unfolding placed least IsKnown numbered
least_known anew case o wanted tuning place is_place = each (find (suits case o wanted tuning) o.fronts) refl is_place
  where
    each : (found : Option Front) → find (suits case o wanted tuning) o.fronts ≡ found
        → placed anew (option_map (λ (front : Front). front.number) found) ≡ Some place → list_any (is_front place.front) o.fronts ≡ true
    each None _ none = cc
    each (Some front) found same =
        let number : front.number ≡ place.front = ap (λ (o : Option Place). numbered o front.number) same in
        ap (λ n. list_any (is_front n) o.fronts) (sym number) ∙ found_number (suits case o wanted tuning) o.fronts front found

first_known : (fronts : List Front) (a b c d : Option Place) → IsKnown fronts a → IsKnown fronts b → IsKnown fronts c → IsKnown fronts d
    → IsKnown fronts (first_placed (a ∷ b ∷ c ∷ d ∷ []))
first_known fronts (Some p) b c d ka kb kc kd = ka
first_known fronts None (Some p) c d ka kb kc kd = kb
first_known fronts None None (Some p) d ka kb kc kd = kc
first_known fronts None None None (Some p) ka kb kc kd = kd
first_known fronts None None None None ka kb kc kd = kd

-- the chosen front end is there
pub chosen_known : (o : Outlook) (wanted : Option ℕ) (tuning : Tuning) (place : Place) → choose o wanted tuning ≡ Some place
    → list_any (is_front place.front) o.fronts ≡ true
unfolding choose IsKnown
chosen_known o wanted tuning place chosen =
    first_known o.fronts _ _ _ _ (least_known false Keep o wanted tuning) (least_known false Share o wanted tuning) (least_known true Retune o wanted tuning)
    (least_known true Start o wanted tuning) place chosen

not_not : (b : Bool) → not (not b) ≡ b
not_not true = refl
not_not false = refl

-- none is to be had exactly where none that fits is tuned as wanted or unshared
blocked_unless : (o : Outlook) (wanted : Option ℕ) (tuning : Tuning)
    → blocked o wanted tuning ≡ not (is_some (find (λ front. fits_of front tuning && not (is_occupied o wanted front)) o.fronts))
unfolding blocked
blocked_unless o wanted tuning =
    let passes : Front → Bool = λ front. fits_of front tuning in
    let occupied : Front → Bool = is_occupied o wanted in
    empty_all occupied (filter passes o.fronts)
    ∙ sym (not_not (list_all occupied (filter passes o.fronts)))
    ∙ ap not (sym (any_all passes occupied o.fronts) ∙ sym (find_any (λ front. passes front && not (occupied front)) o.fronts))

-- the same with the places of all other streams
pub blocked_open : (v : FrontEnds) (stream : Option ℕ) (tuning : Tuning)
    → blocked_for v stream tuning ≡ not (is_some (find (is_open v.rows (mux_for v.muxes tuning) (other_places v.places stream) tuning) v.fronts))
unfolding blocked_for new_outlook outlook
blocked_open v None tuning = blocked_unless (outlook_for v None) (mux_for v.muxes tuning) tuning
blocked_open v (Some stream) tuning = blocked_unless (outlook_for v (Some stream)) (mux_for v.muxes tuning) tuning

pub blocked_where : (v : FrontEnds) (stream wanted : Option ℕ) (others : List (Option ℕ)) (tuning : Tuning) (found : Bool) → wanted ≡ mux_for v.muxes tuning
    → others ≡ other_places v.places stream
    → found ≡ is_some (find (is_open v.rows wanted others tuning) v.fronts) → not found ≡ blocked_for v stream tuning
blocked_where v stream wanted others tuning found w o is =
    ap not (is
    ∙ ap (λ m. is_some (find (is_open v.rows m others tuning) v.fronts)) w
    ∙ ap (λ ps. is_some (find (is_open v.rows (mux_for v.muxes tuning) ps tuning) v.fronts)) o)
    ∙ sym (blocked_open v stream tuning)
