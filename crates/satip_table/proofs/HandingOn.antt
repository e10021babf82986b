-- What a session that leaves changes of the streams: its own alone.
use Rattle.std.proofs.Common.{◌≡◌, ◌∙◌, ℕ, ◌≤◌, ◌==◌, ◌&&◌, ◌||◌, not, Bool, true, false, cond, List, [], ◌∷◌, Option, None, Some, unwrap_or, find, filter}
use Rattle.std.proofs.Common.{map, refl, ap, sym, arith}
use Rattle.std.specs.List.{list_any}
use Rattle.std.specs.Option.{option_map}
use Rattle.std.proofs.lemmas.Bool.{eqb-true, eqb-false, ne_eqb, and_parts, or_from}
use Rattle.std.proofs.lemmas.Option.{same_Some}
use Rattle.satip_base.specs.declared.identity.SessionId.{SessionId}
use Rattle.satip_table.specs.declared.session.Seat.{Seat}
use Rattle.satip_table.specs.declared.stream.Stream.{Stream}
use Rattle.satip_table.specs.Sessions.{has_id_of, is_in, owner_of, without}
use Rattle.satip_table.specs.Streams.{has_number, kept_streams, lasts, re_owned}
use Rattle.satip_table.specs.Owners.{handed, owned_where}
use Rattle.satip_table.specs.Living.{CountsRise, Living, Owned, Sound}
use Rattle.satip_table.proofs.Listing.{filter_none}
use Rattle.satip_table.proofs.SeatLaws.{some_owner}

-- behind a session none has an id of its count or a lesser one
absent_after : (above last : ℕ) (seats : List Seat) (id : SessionId) → CountsRise above last seats → id.count ≤ above → list_any (has_id_of id) seats ≡ false
absent_after above last [] id rise least = refl
absent_after above last (seat ∷ seats) id rise least =
    or_from _ _ (ap (λ b. b && seat.session.id.word == id.word) (ne_eqb seat.session.id.count id.count (λ e. omega (arith, e, rise.0))))
    (absent_after seat.session.id.count last seats id rise.1 (omega (arith, rise.0)))

-- another stream has the owner that it had
owner_other : (above last : ℕ) (seats : List Seat) (id : SessionId) (left : Seat) (stream : ℕ) → CountsRise above last seats
    → find (has_id_of id) seats ≡ Some left → (left.session.stream ≡ stream → ⊥) → owner_of (without id seats) stream ≡ owner_of seats stream
owner_other above last [] id left stream rise found apart = refl
owner_other above last (seat ∷ seats) id left stream rise found apart =
    each (has_id_of id seat) refl found (owner_other seat.session.id.count last seats id left stream rise.1)
  where
    behind : (b : Bool) → owner_of (without id seats) stream ≡ owner_of seats stream
        → option_map (λ (s : Seat). s.session.id) (cond b (Some seat) (find (is_in stream) (without id seats))) ≡ option_map (λ (s : Seat). s.session.id)
        (cond b (Some seat) (find (is_in stream) seats))
    behind true same = refl
    behind false same = same

    each : (b : Bool) → has_id_of id seat ≡ b → cond b (Some seat) (find (has_id_of id) seats) ≡ Some left
        → (find (has_id_of id) seats ≡ Some left → (left.session.stream ≡ stream → ⊥) → owner_of (without id seats) stream ≡ owner_of seats stream)
        → owner_of (cond (not b) (seat ∷ without id seats) (without id seats)) stream ≡ owner_of (seat ∷ seats) stream
    each true has here rest =
        let count : seat.session.id.count ≡ id.count = eqb-true seat.session.id.count id.count (and_parts _ _ has).0 in
        let none = absent_after seat.session.id.count last seats id rise.1 (omega (arith, count)) in
        let elsewhere : is_in stream seat ≡ false =
        ne_eqb seat.session.stream stream (λ e. apart (ap (λ (s : Seat). s.session.stream) (sym (same_Some seat left here)) ∙ e)) in
        ap (λ ss. owner_of ss stream) (filter_none (has_id_of id) seats none)
        ∙ sym (ap (λ b. option_map (λ (s : Seat). s.session.id) (cond b (Some seat) (find (is_in stream) seats))) elsewhere)
    each false _ later rest = behind (is_in stream seat) (rest later apart)

-- a stream with an owner is kept, and goes to it
kept_one : (seats : List Seat) (stream : Stream) (streams : List Stream) (owner : SessionId) → owner_of seats stream.number ≡ Some owner
    → kept_streams seats (stream ∷ streams) ≡ record stream { owner = owner } ∷ kept_streams seats streams
unfolding kept_streams re_owned
kept_one seats stream streams owner owned =
    ap (λ b. map (re_owned seats) (cond b (stream ∷ filter (lasts seats) streams) (filter (lasts seats) streams))) (some_owner seats stream.number owner owned)
    ∙ ap (λ o. record stream { owner = unwrap_or o stream.owner } ∷ map (re_owned seats) (filter (lasts seats) streams)) owned

no_owner : (seats : List Seat) (stream : ℕ) → owner_of seats stream ≡ None → list_any (is_in stream) seats ≡ false
no_owner [] stream none = refl
no_owner (seat ∷ seats) stream none = each (is_in stream seat) none (no_owner seats stream)
  where
    each : (b : Bool) → option_map (λ (s : Seat). s.session.id) (cond b (Some seat) (find (is_in stream) seats)) ≡ None
        → (owner_of seats stream ≡ None → list_any (is_in stream) seats ≡ false) → (b || list_any (is_in stream) seats) ≡ false
    each true some rest = cc
    each false later rest = rest later

kept_owned : (old new : List Seat) (number : ℕ) (owner : SessionId) (streams : List Stream) → Owned old streams
    → ((other : ℕ) → (number ≡ other → ⊥) → owner_of new other ≡ owner_of old other) → owner_of new number ≡ Some owner
    → kept_streams new streams ≡ map (owned_where number owner) streams
unfolding owned_where kept_streams
kept_owned old new number owner [] owned others first = refl
kept_owned old new number owner (stream ∷ streams) owned others first =
    each (has_number number stream) refl (kept_owned old new number owner streams owned.1 others first)
  where
    each : (b : Bool) → has_number number stream ≡ b → kept_streams new streams ≡ map (owned_where number owner) streams
        → kept_streams new (stream ∷ streams) ≡ cond b (record stream { owner = owner }) stream ∷ map (owned_where number owner) streams
    each true same rest =
        let at : stream.number ≡ number = eqb-true stream.number number same in
        kept_one new stream streams owner (ap (owner_of new) at ∙ first) ∙ ap (λ ss. record stream { owner = owner } ∷ ss) rest
    each false apart rest =
        kept_one new stream streams stream.owner (others stream.number (λ e. eqb-false stream.number number apart (sym e)) ∙ owned.0)
        ∙ ap (λ ss. stream ∷ ss) rest

kept_ended : (old new : List Seat) (number : ℕ) (streams : List Stream) → Owned old streams
    → ((other : ℕ) → (number ≡ other → ⊥) → owner_of new other ≡ owner_of old other) → owner_of new number ≡ None
    → kept_streams new streams ≡ filter (λ stream. not (has_number number stream)) streams
unfolding kept_streams
kept_ended old new number [] owned others none = refl
kept_ended old new number (stream ∷ streams) owned others none = each (has_number number stream) refl (kept_ended old new number streams owned.1 others none)
  where
    each : (b : Bool) → has_number number stream ≡ b → kept_streams new streams ≡ filter (λ s. not (has_number number s)) streams
        → kept_streams new (stream ∷ streams) ≡ cond (not b) (stream ∷ filter (λ s. not (has_number number s)) streams)
        (filter (λ s. not (has_number number s)) streams)
    each true same rest =
        let at : stream.number ≡ number = eqb-true stream.number number same in
        let gone : lasts new stream ≡ false = ap (λ n. list_any (is_in n) new) at ∙ no_owner new number none in
        ap (λ b. map (re_owned new) (cond b (stream ∷ filter (lasts new) streams) (filter (lasts new) streams))) gone ∙ rest
    each false apart rest =
        kept_one new stream streams stream.owner (others stream.number (λ e. eqb-false stream.number number apart (sym e)) ∙ owned.0)
        ∙ ap (λ ss. stream ∷ ss) rest

pub kept_handed : (v : Living) (id : SessionId) (left : Seat) → Sound v → find (has_id_of id) v.seats ≡ Some left
    → handed left.session.stream (owner_of (without id v.seats) left.session.stream) v.streams ≡ kept_streams (without id v.seats) v.streams
kept_handed v id left sound found = each (owner_of (without id v.seats) left.session.stream) refl
  where
    others : (other : ℕ) → (left.session.stream ≡ other → ⊥) → owner_of (without id v.seats) other ≡ owner_of v.seats other
    others other apart = owner_other 0 v.made v.seats id left other sound.counts found apart

    each : (o : Option SessionId) → owner_of (without id v.seats) left.session.stream ≡ o
        → handed left.session.stream o v.streams ≡ kept_streams (without id v.seats) v.streams
    each None none = sym (kept_ended v.seats (without id v.seats) left.session.stream v.streams sound.owned others none)
    each (Some owner) first = sym (kept_owned v.seats (without id v.seats) left.session.stream owner v.streams sound.owned others first)

-- the same from what a removal says: the stream of the session that left
pub handed_on : (v : Living) (id : SessionId) (stream : ℕ) → Sound v
    → Some stream ≡ option_map (λ (seat : Seat). seat.session.stream) (find (has_id_of id) v.seats)
    → handed stream (owner_of (without id v.seats) stream) v.streams ≡ kept_streams (without id v.seats) v.streams
handed_on v id stream sound was = each (find (has_id_of id) v.seats) refl was
  where
    each : (o : Option Seat) → find (has_id_of id) v.seats ≡ o → Some stream ≡ option_map (λ (seat : Seat). seat.session.stream) o
        → handed stream (owner_of (without id v.seats) stream) v.streams ≡ kept_streams (without id v.seats) v.streams
    each None _ at = cc
    each (Some left) found at = ap (λ n. handed n (owner_of (without id v.seats) n) v.streams) (same_Some stream left.session.stream at)
        ∙ kept_handed v id left sound found
