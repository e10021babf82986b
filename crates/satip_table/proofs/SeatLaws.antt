-- Sessions in order of making, each in its slot.
use Rattle.std.proofs.Common.{◌≡◌, ◌∙◌, ℕ, ◌+◌, ◌<◌, ◌≤◌, ◌==◌, ◌&&◌, ◌||◌, Bool, true, false, cond, List, [], ◌∷◌, ◌++◌, zero, suc, Option, None, Some}
use Rattle.std.proofs.Common.{filter, find, map, IfSome, refl, ap, sym, subst, arith}
use Rattle.std.specs.List.{list_any, list_all, slice_get}
use Rattle.std.specs.Option.{option_map}
use Rattle.std.proofs.lemmas.Bool.{ne_eqb, eq-eqb, or_parts, or_from, or_left, or_right, false≢true}
use Rattle.std.proofs.lemmas.List.Folds.{list_any-append}
use Rattle.satip_base.specs.declared.identity.SessionId.{SessionId}
use Rattle.satip_table.specs.declared.session.Seat.{Seat}
use Rattle.satip_table.specs.Sessions.{has_slot, is_in, owner_of}
use Rattle.satip_table.specs.Living.{CountsRise, SlotsApart}
use Rattle.satip_table.proofs.Listing.{any-filter}

-- a session with a greater count comes last
pub counts_more : (above last : ℕ) (seats : List Seat) (seat : Seat) → seat.session.id.count ≡ last + 1 → CountsRise above last seats
    → CountsRise above (last + 1) (seats ++ seat ∷ [])
counts_more above last [] seat next rise = (omega arith, omega arith)
counts_more above last (other ∷ seats) seat next rise = (rise.0, counts_more other.session.id.count last seats seat next rise.1)

-- from a lesser number on
counts_lower : (above below last : ℕ) (seats : List Seat) → below ≤ above → CountsRise above last seats → CountsRise below last seats
counts_lower above below last [] less rise = omega (arith, rise)
counts_lower above below last (seat ∷ seats) less rise = (omega (arith, rise.0), rise.1)

pub counts_filter : (p : Seat → Bool) (above last : ℕ) (seats : List Seat) → CountsRise above last seats → CountsRise above last (filter p seats)
counts_filter p above last [] rise = rise
counts_filter p above last (seat ∷ seats) rise = each (p seat) (counts_filter p seat.session.id.count last seats rise.1)
  where
    each : (b : Bool) → CountsRise seat.session.id.count last (filter p seats) → CountsRise above last (cond b (seat ∷ filter p seats) (filter p seats))
    each true rest = (rise.0, rest)
    each false rest = counts_lower seat.session.id.count above last (filter p seats) (omega (arith, rise.0)) rest

-- a session with a free slot comes last
pub slots_more : (seats : List Seat) (seat : Seat) → seat.slot < 64 → list_any (has_slot seat.slot) seats ≡ false → SlotsApart seats
    → SlotsApart (seats ++ seat ∷ [])
slots_more [] seat within free apart = (within, refl, tt)
slots_more (other ∷ seats) seat within free apart =
    let parts = or_parts _ _ free in
    let differs : (seat.slot == other.slot) ≡ false = ne_eqb seat.slot other.slot (λ same. false≢true (sym parts.0 ∙ eq-eqb other.slot seat.slot (sym same))) in
    let none : list_any (has_slot other.slot) (seats ++ seat ∷ []) ≡ false =
    list_any-append (has_slot other.slot) seats (seat ∷ []) ∙ or_from _ _ apart.1 (or_from _ _ differs refl) in
    (apart.0, none, slots_more seats seat within parts.1 apart.2)

pub slots_filter : (p : Seat → Bool) (seats : List Seat) → SlotsApart seats → SlotsApart (filter p seats)
slots_filter p [] apart = tt
slots_filter p (seat ∷ seats) apart = each (p seat) (slots_filter p seats apart.2)
  where
    each : (b : Bool) → SlotsApart (filter p seats) → SlotsApart (cond b (seat ∷ filter p seats) (filter p seats))
    each true rest = (apart.0, any-filter p (has_slot seat.slot) seats apart.1, rest)
    each false rest = rest

-- the owner of a stream goes on to be its owner when a session comes last
pub owner_kept : (seats more : List Seat) (stream : ℕ) (owner : SessionId) → owner_of seats stream ≡ Some owner → owner_of (seats ++ more) stream ≡ Some owner
owner_kept [] more stream owner owned = cc
owner_kept (seat ∷ seats) more stream owner owned = each (is_in stream seat) owned (owner_kept seats more stream owner)
  where
    each : (b : Bool) → option_map (λ (s : Seat). s.session.id) (cond b (Some seat) (find (is_in stream) seats)) ≡ Some owner
        → (owner_of seats stream ≡ Some owner → owner_of (seats ++ more) stream ≡ Some owner)
        → option_map (λ (s : Seat). s.session.id) (cond b (Some seat) (find (is_in stream) (seats ++ more))) ≡ Some owner
    each true here rest = here
    each false later rest = rest later

-- the first session of a stream is its owner
pub owner_new : (seats : List Seat) (seat : Seat) (stream : ℕ) → list_any (is_in stream) seats ≡ false → seat.session.stream ≡ stream
    → owner_of (seats ++ seat ∷ []) stream ≡ Some seat.session.id
owner_new [] seat stream none at = ap (λ b. option_map (λ (s : Seat). s.session.id) (cond b (Some seat) None)) (eq-eqb seat.session.stream stream at)
owner_new (other ∷ seats) seat stream none at =
    let parts = or_parts _ _ none in
    ap (λ b. option_map (λ (s : Seat). s.session.id) (cond b (Some other) (find (is_in stream) (seats ++ seat ∷ [])))) parts.0
    ∙ owner_new seats seat stream parts.1 at

-- a stream has an owner exactly where it has a session
pub owner_some : (seats : List Seat) (stream : ℕ) → list_any (is_in stream) seats ≡ true → (owner : SessionId) × (owner_of seats stream ≡ Some owner)
owner_some [] stream some = cc
owner_some (seat ∷ seats) stream some = each (is_in stream seat) some (owner_some seats stream)
  where
    each : (b : Bool) → (b || list_any (is_in stream) seats) ≡ true
        → (list_any (is_in stream) seats ≡ true → (owner : SessionId) × (owner_of seats stream ≡ Some owner))
        → (owner : SessionId) × (option_map (λ (s : Seat). s.session.id) (cond b (Some seat) (find (is_in stream) seats)) ≡ Some owner)
    each true _ rest = (seat.session.id, refl)
    each false later rest = rest later

pub some_owner : (seats : List Seat) (stream : ℕ) (owner : SessionId) → owner_of seats stream ≡ Some owner → list_any (is_in stream) seats ≡ true
some_owner [] stream owner owned = cc
some_owner (seat ∷ seats) stream owner owned = each (is_in stream seat) owned (some_owner seats stream owner)
  where
    each : (b : Bool) → option_map (λ (s : Seat). s.session.id) (cond b (Some seat) (find (is_in stream) seats)) ≡ Some owner
        → (owner_of seats stream ≡ Some owner → list_any (is_in stream) seats ≡ true) → (b || list_any (is_in stream) seats) ≡ true
    each true _ rest = refl
    each false later rest = rest later

-- each session's stream has a session
pub each_in : (seats all : List Seat) → ((stream : ℕ) → list_any (is_in stream) seats ≡ true → list_any (is_in stream) all ≡ true)
    → list_all (λ (seat : Seat). list_any (is_in seat.session.stream) all) seats ≡ true
each_in [] all among = refl
each_in (seat ∷ seats) all among =
    ap (λ b. b && list_all (λ (s : Seat). list_any (is_in s.session.stream) all) seats)
    (among seat.session.stream (or_left _ _ (eq-eqb seat.session.stream seat.session.stream refl)))
    ∙ each_in seats all (λ stream some. among stream (or_right _ _ some))

-- what a change of sessions keeps
pub record Keeps (g : Seat → Seat) : Type 0 where
  pub slot : (seat : Seat) → (g seat).slot ≡ seat.slot
  pub id : (seat : Seat) → (g seat).session.id ≡ seat.session.id
  pub stream : (seat : Seat) → (g seat).session.stream ≡ seat.session.stream

pub counts_map : (g : Seat → Seat) → Keeps g → (above last : ℕ) (seats : List Seat) → CountsRise above last seats → CountsRise above last (map g seats)
counts_map g keeps above last [] rise = rise
counts_map g keeps above last (seat ∷ seats) rise =
    let same : (g seat).session.id.count ≡ seat.session.id.count = ap (λ (id : SessionId). id.count) (keeps.id seat) in
    (omega (arith, rise.0, same), subst (λ n. CountsRise n last (map g seats)) (sym same) (counts_map g keeps seat.session.id.count last seats rise.1))

slot_map : (g : Seat → Seat) → Keeps g → (slot : ℕ) (seats : List Seat) → list_any (has_slot slot) (map g seats) ≡ list_any (has_slot slot) seats
slot_map g keeps slot [] = refl
slot_map g keeps slot (seat ∷ seats) =
    ap (λ n. n == slot || list_any (has_slot slot) (map g seats)) (keeps.slot seat) ∙ ap (λ b. seat.slot == slot || b) (slot_map g keeps slot seats)

pub slots_map : (g : Seat → Seat) → Keeps g → (seats : List Seat) → SlotsApart seats → SlotsApart (map g seats)
slots_map g keeps [] apart = tt
slots_map g keeps (seat ∷ seats) apart = (
  omega (arith, apart.0, keeps.slot seat),
  ap (λ n. list_any (has_slot n) (map g seats)) (keeps.slot seat) ∙ slot_map g keeps seat.slot seats
      ∙ apart.1,
  slots_map g keeps seats apart.2,
)

pub owner_map : (g : Seat → Seat) → Keeps g → (stream : ℕ) (seats : List Seat) → owner_of (map g seats) stream ≡ owner_of seats stream
owner_map g keeps stream [] = refl
owner_map g keeps stream (seat ∷ seats) =
    ap (λ n. option_map (λ (s : Seat). s.session.id) (cond (n == stream) (Some (g seat)) (find (is_in stream) (map g seats)))) (keeps.stream seat)
    ∙ each (is_in stream seat) (owner_map g keeps stream seats)
  where
    each : (b : Bool) → owner_of (map g seats) stream ≡ owner_of seats stream
        → option_map (λ (s : Seat). s.session.id) (cond b (Some (g seat)) (find (is_in stream) (map g seats))) ≡ option_map (λ (s : Seat). s.session.id)
        (cond b (Some seat) (find (is_in stream) seats))
    each true rest = ap Some (keeps.id seat)
    each false rest = rest

pub housed_map : (g : Seat → Seat) → Keeps g → (lives : ℕ → Bool) (seats : List Seat)
    → list_all (λ (seat : Seat). lives seat.session.stream) (map g seats) ≡ list_all (λ (seat : Seat). lives seat.session.stream) seats
housed_map g keeps lives [] = refl
housed_map g keeps lives (seat ∷ seats) =
    ap (λ n. lives n && list_all (λ (s : Seat). lives s.session.stream) (map g seats)) (keeps.stream seat)
    ∙ ap (λ b. lives seat.session.stream && b) (housed_map g keeps lives seats)

-- the slot of a session that is found is below 64
pub slot_within : (p : Seat → Bool) (seats : List Seat) → SlotsApart seats → IfSome (option_map (λ (seat : Seat). seat.slot) (find p seats)) (λ slot. slot < 64)
slot_within p [] apart = tt
slot_within p (seat ∷ seats) apart = each (p seat) (slot_within p seats apart.2)
  where
    each : (b : Bool) → IfSome (option_map (λ (s : Seat). s.slot) (find p seats)) (λ slot. slot < 64)
        → IfSome (option_map (λ (s : Seat). s.slot) (cond b (Some seat) (find p seats))) (λ slot. slot < 64)
    each true rest = apart.0
    each false rest = rest

-- so is that of a session that is found with its slot
pub found_within : (p : Seat → Bool) (seats : List Seat) → SlotsApart seats → IfSome (find p seats) (λ (seat : Seat). seat.slot < 64)
found_within p [] apart = tt
found_within p (seat ∷ seats) apart = each (p seat) (found_within p seats apart.2)
  where
    each : (b : Bool) → IfSome (find p seats) (λ (s : Seat). s.slot < 64) → IfSome (cond b (Some seat) (find p seats)) (λ (s : Seat). s.slot < 64)
    each true rest = apart.0
    each false rest = rest

-- and that of a session at a place
pub place_within : (seats : List Seat) (place : ℕ) → SlotsApart seats → IfSome (slice_get seats place) (λ (seat : Seat). seat.slot < 64)
place_within [] place apart = tt
place_within (seat ∷ seats) zero apart = apart.0
place_within (seat ∷ seats) (suc place) apart = place_within seats place apart.2

-- what is lent of them
pub lent_within : {X : Type 0} (see : X → Seat) (lent : Option X) {found : Option Seat} → option_map see lent ≡ found
    → IfSome found (λ (seat : Seat). seat.slot < 64)
    → IfSome lent (λ x. (see x).slot < 64)
lent_within see None e within = tt
lent_within see (Some x) e within = subst (λ (o : Option Seat). IfSome o (λ (seat : Seat). seat.slot < 64)) (sym e) within
