-- Lanes by their numbers.
use Rattle.std.proofs.Common.{ℕ, ◌≡◌, ◌<◌, ◌≤◌, zero, suc, true, false, cond, List, [], ◌∷◌, length, take, set, get_or, Some, None, refl, sym, ap, subst, ◌∙◌, arith, eq-eqb, vec_len, vec_capacity, All, ◌+◌}
use Rattle.std.proofs.lemmas.List.{get_or_default, length-set}
use Rattle.std.specs.List.{list_any, remove}
use Rattle.std.proofs.lemmas.Bool.{or_parts}
use Rattle.satip_interleave.specs.declared.lane.Lane.{Lane}
use Rattle.satip_interleave.specs.Lanes.{has_number, fresh_lane, lane_of, change_lane, without_lane}
use Rattle.satip_interleave.specs.LaneStanding.{IsNowhere, StandsAt}
use Rattle.satip_interleave.specs.declared.lanes.Lanes.TheInside.{Inside}
use Rattle.satip_interleave.specs.Rooms.{IsSound}

-- no lane has the number
none_found : (number : ℕ) (lanes : List Lane) → list_any (has_number number) lanes ≡ false → lane_of number lanes ≡ None
none_found number [] none = refl
none_found number (l ∷ ls) none =
    let (lacks, rest_lacks) = or_parts (has_number number l) (list_any (has_number number) ls) none in
    ap (λ t. cond t (Some l) (lane_of number ls)) lacks ∙ none_found number ls rest_lacks

none_changed : (number : ℕ) (change : Lane → Lane) (lanes : List Lane) → list_any (has_number number) lanes ≡ false
    → change_lane number change lanes ≡ lanes
none_changed number change [] none = refl
none_changed number change (l ∷ ls) none =
    let (lacks, rest_lacks) = or_parts (has_number number l) (list_any (has_number number) ls) none in
    ap (λ t. cond t (change l ∷ ls) (l ∷ change_lane number change ls)) lacks ∙ ap (λ rest. l ∷ rest) (none_changed number change ls rest_lacks)

none_without : (number : ℕ) (lanes : List Lane) → list_any (has_number number) lanes ≡ false → without_lane number lanes ≡ lanes
none_without number [] none = refl
none_without number (l ∷ ls) none =
    let (lacks, rest_lacks) = or_parts (has_number number l) (list_any (has_number number) ls) none in
    ap (λ t. cond t ls (l ∷ without_lane number ls)) lacks ∙ ap (λ rest. l ∷ rest) (none_without number ls rest_lacks)

pub nowhere : (number : ℕ) (lanes : List Lane) → list_any (has_number number) lanes ≡ false → IsNowhere number lanes
nowhere number lanes none = record {
  found = none_found number lanes none;
  changed = λ change. none_changed number change lanes none;
  others = none_without number lanes none;
}

-- the first lane that has it stands at a place
first_found : (number : ℕ) (lanes : List Lane) (at : ℕ) (d : Lane) → at < length lanes → list_any (has_number number) (take at lanes) ≡ false
    → has_number number (get_or lanes at d) ≡ true → lane_of number lanes ≡ Some (get_or lanes at d)
first_found number [] at d within before has = absurd (omega (arith, within))
first_found number (l ∷ ls) zero d within before has = ap (λ t. cond t (Some l) (lane_of number ls)) has
first_found number (l ∷ ls) (suc at) d within before has =
    let (lacks, rest_lacks) = or_parts (has_number number l) (list_any (has_number number) (take at ls)) before in
    ap (λ t. cond t (Some l) (lane_of number ls)) lacks ∙ first_found number ls at d (omega (arith, within)) rest_lacks has

first_changed : (number : ℕ) (change : Lane → Lane) (lanes : List Lane) (at : ℕ) (d : Lane) → at < length lanes
    → list_any (has_number number) (take at lanes) ≡ false → has_number number (get_or lanes at d) ≡ true
    → change_lane number change lanes ≡ set lanes at (change (get_or lanes at d))
first_changed number change [] at d within before has = absurd (omega (arith, within))
first_changed number change (l ∷ ls) zero d within before has =
    ap (λ t. cond t (change l ∷ ls) (l ∷ change_lane number change ls)) has
first_changed number change (l ∷ ls) (suc at) d within before has =
    let (lacks, rest_lacks) = or_parts (has_number number l) (list_any (has_number number) (take at ls)) before in
    ap (λ t. cond t (change l ∷ ls) (l ∷ change_lane number change ls)) lacks
    ∙ ap (λ rest. l ∷ rest) (first_changed number change ls at d (omega (arith, within)) rest_lacks has)

first_without : (number : ℕ) (lanes : List Lane) (at : ℕ) (d : Lane) → at < length lanes → list_any (has_number number) (take at lanes) ≡ false
    → has_number number (get_or lanes at d) ≡ true → without_lane number lanes ≡ remove lanes at
first_without number [] at d within before has = absurd (omega (arith, within))
first_without number (l ∷ ls) zero d within before has = ap (λ t. cond t ls (l ∷ without_lane number ls)) has
first_without number (l ∷ ls) (suc at) d within before has =
    let (lacks, rest_lacks) = or_parts (has_number number l) (list_any (has_number number) (take at ls)) before in
    ap (λ t. cond t ls (l ∷ without_lane number ls)) lacks
    ∙ ap (λ rest. l ∷ rest) (first_without number ls at d (omega (arith, within)) rest_lacks has)

pub stands_at : (number : ℕ) (lanes : List Lane) (at : ℕ) (one : Lane) → at < length lanes → list_any (has_number number) (take at lanes) ≡ false
    → one ≡ get_or lanes at one → one.number ≡ number → StandsAt number lanes at
stands_at number lanes at one within before is same = record {
  within = within;
  found = λ d. first_found number lanes at d within before (has d);
  changed = λ change d. first_changed number change lanes at d within before (has d);
  others = first_without number lanes at one within before (has one);
}
  where
    has_one : has_number number one ≡ true
    has_one = eq-eqb one.number number same

    has : (d : Lane) → has_number number (get_or lanes at d) ≡ true
    has d = ap (has_number number) (get_or_default lanes at d one within ∙ sym is) ∙ has_one

-- a lane that stands for one that isn't there
pub nobody : Lane
nobody = fresh_lane 0

-- the lanes stay sound where one of them changes
pub sound_changed : (old new : Inside) (at : ℕ) (lane : Lane) → new.held.items ≡ set old.held.items at lane
    → vec_capacity new.held ≡ vec_capacity old.held → new.spare ≡ old.spare → IsSound old → IsSound new
sound_changed old new at lane items capacity spare sound = record {
  room = omega (arith, capacity, sound.room);
  queue_room = subst (λ s. 64 ≤ vec_capacity s) (sym spare) sound.queue_room;
  queues = subst (λ s. All (λ queue. queue ≡ []) s.items) (sym spare) sound.queues;
  all_queues = ap (λ s. vec_len s + vec_len new.held) spare
      ∙ omega (arith, sound.all_queues, new.held.ok.0, old.held.ok.0, ap length items, length-set old.held.items at lane);
}
