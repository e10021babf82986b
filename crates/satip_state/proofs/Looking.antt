-- What is looked up in the parts is what the plain state has.
use Rattle.std.proofs.Common.{◌≡◌, ◌∙◌, ℕ, ◌<◌, ◌≤◌, ◌==◌, ◌&&◌, ◌||◌, not, nat_le, Bool, true, false, cond, List, [], ◌∷◌, length, map, find, Bor, Option}
use Rattle.std.proofs.Common.{Some, None, IfSome, is_none, is_some, refl, ap, sym, subst, arith, slice_get}
use Rattle.std.specs.List.{list_any, list_all}
use Rattle.std.specs.Option.{option_map}
use Rattle.std.proofs.lemmas.Bool.{eqb-true, ne_eqb, le-leb, lt-leb, and_parts, or_parts, or_from, false≢true}
use Rattle.std.proofs.lemmas.List.{length-map}
use Rattle.std.proofs.lemmas.Option.{same_Some}
use Rattle.satip_plain.proofs.SameIds.{same_id_is}
use Rattle.satip_base.specs.declared.identity.SessionId.{SessionId}
use Rattle.satip_table.specs.declared.session.Session.{Session as Row}
use Rattle.satip_table.specs.declared.session.Seat.{Seat}
use Rattle.satip_table.specs.declared.stream.Stream.{Stream as StreamRow}
use Rattle.satip_table.specs.Sessions.{has_id_of, is_in, owner_of, id_eq}
use Rattle.satip_table.specs.Streams.{has_number, is_live}
use Rattle.satip_table.specs.Living.{Sound, CountsRise, Owned, is_full}
use Rattle.satip_table.proofs.Listing.{find_any}
use Rattle.satip_plain.specs.Types.{Config}
use Rattle.satip_plain.specs.State.{Session, State, same_id, rtsp_session, stream_of}
use Rattle.satip_plain.specs.Refusals.{is_full as is_full_state}
use Rattle.satip_plain.specs.Steps.{is_session}
use Rattle.satip_state.specs.Kept.{Kept}
use Rattle.satip_state.specs.Seated.{Seated, row_of, seat_of}
use Rattle.satip_state.specs.Standing.{StandsFor, stream_in}
use Rattle.satip_state.specs.Looks.{if_rtsp, owner_id}

abbrev pub sessions_in : List Seated → List Session
sessions_in xs = map (λ x. x.session) xs

-- a session is found by its row as in the state
seats_find : (p : Row → Bool) (xs : List Seated)
    → option_map (λ (seat : Seat). seat.session) (find (λ (seat : Seat). p seat.session) (map seat_of xs)) ≡ option_map row_of
    (find (λ s. p (row_of s)) (sessions_in xs))
seats_find p [] = refl
seats_find p (x ∷ xs) = by (p (row_of x.session)) (seats_find p xs)
  where
    by : (b : Bool) → option_map (λ (seat : Seat). seat.session) (find (λ (seat : Seat). p seat.session) (map seat_of xs)) ≡ option_map row_of
        (find (λ s. p (row_of s)) (sessions_in xs))
        → option_map (λ (seat : Seat). seat.session) (cond b (Some (seat_of x)) (find (λ (seat : Seat). p seat.session) (map seat_of xs))) ≡ option_map row_of
        (cond b (Some x.session) (find (λ s. p (row_of s)) (sessions_in xs)))
    by true rest = refl
    by false rest = rest

-- the session, where q holds of it
abbrev if_so : Bool → Session → Option Session
if_so true s = Some s
if_so false s = None

abbrev where_holds : (Session → Bool) → Option Session → Option Session
where_holds q None = None
where_holds q (Some s) = if_so (q s) s

-- no session of a greater count has the id
none_later : (id : SessionId) (above last : ℕ) (xs : List Seated) → id.count ≤ above → CountsRise above last (map seat_of xs)
    → list_any (λ s. same_id s.id id) (sessions_in xs) ≡ false
unfolding row_of
none_later id above last [] below rise = refl
none_later id above last (x ∷ xs) below rise =
    let differs : (x.session.id.count == id.count) ≡ false = ne_eqb x.session.id.count id.count (λ same. omega (arith, same, rise.0, below)) in
    or_from _ _ (ap (λ b. b && x.session.id.word == id.word) differs) (none_later id x.session.id.count last xs (omega (arith, rise.0, below)) rise.1)

none_of_both : (p q : Session → Bool) (ys : List Session) → list_any p ys ≡ false → find (λ s. p s && q s) ys ≡ None
none_of_both p q [] none = refl
none_of_both p q (y ∷ ys) none =
    let parts = or_parts _ _ none in
    ap (λ b. cond (b && q y) (Some y) (find (λ s. p s && q s) ys)) parts.0 ∙ none_of_both p q ys parts.1

-- the one session of an id may have a kind
kind_found : (q : Session → Bool) (id : SessionId) (above last : ℕ) (xs : List Seated) → CountsRise above last (map seat_of xs)
    → find (λ s. same_id s.id id && q s) (sessions_in xs) ≡ where_holds q (find (λ s. same_id s.id id) (sessions_in xs))
unfolding row_of
kind_found q id above last [] rise = refl
kind_found q id above last (x ∷ xs) rise =
    by (same_id x.session.id id) (q x.session) refl refl (kind_found q id x.session.id.count last xs rise.1)
    (λ same. none_of_both (λ s. same_id s.id id) q (sessions_in xs)
    (none_later id x.session.id.count last xs (omega (arith, eqb-true x.session.id.count id.count (and_parts _ _ same).0)) rise.1))
  where
    by : (b d : Bool) → same_id x.session.id id ≡ b → q x.session ≡ d
        → find (λ s. same_id s.id id && q s) (sessions_in xs) ≡ where_holds q (find (λ s. same_id s.id id) (sessions_in xs))
        → (same_id x.session.id id ≡ true → find (λ s. same_id s.id id && q s) (sessions_in xs) ≡ None)
        → cond (b && d) (Some x.session) (find (λ s. same_id s.id id && q s) (sessions_in xs)) ≡ where_holds q
        (cond b (Some x.session) (find (λ s. same_id s.id id) (sessions_in xs)))
    by false d e f rest none = rest
    by true true e f rest none = sym (ap (λ r. if_so r x.session) f)
    by true false e f rest none = none e ∙ sym (ap (λ r. if_so r x.session) f)

rtsp_row : (o : Option Session) → if_rtsp (option_map row_of o) ≡ option_map row_of (where_holds (λ s. not s.http) o)
unfolding row_of
rtsp_row None = refl
rtsp_row (Some s) = by s.http
  where
    by : (b : Bool) → cond b None (Some (row_of s)) ≡ option_map row_of (if_so (not b) s)
    by true = refl
    by false = refl

-- the row of an id is that of the one session
row_found : (c : Config) (v : Kept) (st : State) (id : SessionId) (found : Option Row) → StandsFor c v st
    → found ≡ option_map (λ (seat : Seat). seat.session) (find (has_id_of id) v.table.seats)
    → (stands : StandsFor c v st) → found ≡ option_map row_of (find (λ s. same_id s.id id) (sessions_in stands.seated))
unfolding row_of
row_found c v st id found _ is stands =
    is ∙ ap (λ (seats : List Seat). option_map (λ (seat : Seat). seat.session) (find (has_id_of id) seats)) stands.seats
    ∙ seats_find (λ r. id_eq r.id id) stands.seated

pub rtsp_looked : (c : Config) (v : Kept) (st : State) (id : SessionId) (found : Option Row) → StandsFor c v st → Sound v.table
    → found ≡ option_map (λ (seat : Seat). seat.session) (find (has_id_of id) v.table.seats)
    → if_rtsp found ≡ option_map row_of (rtsp_session st id)
rtsp_looked c v st id found stands sound is =
    let rise = subst (λ (seats : List Seat). CountsRise 0 v.table.made seats) stands.seats sound.counts in
    ap if_rtsp (row_found c v st id found stands is stands) ∙ rtsp_row (find (λ s. same_id s.id id) (sessions_in stands.seated))
    ∙ ap (option_map row_of) (sym (kind_found (λ s. not s.http) id 0 v.table.made stands.seated rise)
    ∙ ap (find (λ s. same_id s.id id && not s.http)) (sym stands.sessions))

-- streams

pub borrowed : {X : Type 0} {Y : Type 0} (f : X → Y) (o : Option (Bor X))
    → option_map (λ (b : Bor X). f b.now) o ≡ option_map f (option_map (λ (b : Bor X). b.now) o)
borrowed f None = refl
borrowed f (Some b) = refl

streams_find : (number : ℕ) (ts : List StreamRow) → find (λ t. t.number == number) (map stream_in ts) ≡ option_map stream_in (find (has_number number) ts)
unfolding stream_in
streams_find number [] = refl
streams_find number (t ∷ ts) = by (t.number == number) (streams_find number ts)
  where
    by : (b : Bool) → find (λ t. t.number == number) (map stream_in ts) ≡ option_map stream_in (find (has_number number) ts)
        → cond b (Some (stream_in t)) (find (λ t. t.number == number) (map stream_in ts)) ≡ option_map stream_in (cond b (Some t) (find (has_number number) ts))
    by true rest = refl
    by false rest = rest

pub stream_looked : (c : Config) (v : Kept) (st : State) (number : ℕ) (found : Option (Bor StreamRow)) → StandsFor c v st
    → option_map (λ (t : Bor StreamRow). t.now) found ≡ find (has_number number) v.table.streams
    → option_map (λ (t : Bor StreamRow). stream_in t.now) found ≡ stream_of st number
stream_looked c v st number found stands is =
    borrowed stream_in found ∙ ap (option_map stream_in) is ∙ sym (streams_find number v.table.streams) ∙ ap (find (λ t. t.number == number)) stands.streams

-- that there is none at the first place
pub none_first : (c : Config) (v : Kept) (st : State) (found : Option (Bor StreamRow)) → StandsFor c v st
    → option_map (λ (t : Bor StreamRow). t.now) found ≡ slice_get v.table.streams 0
    → is_none found ≡ (length st.streams == 0)
none_first c v st found stands is =
    by found v.table.streams is ∙ ap (λ n. n == 0) (sym (length-map v.table.streams stream_in) ∙ ap length stands.streams)
  where
    by : (o : Option (Bor StreamRow)) (ts : List StreamRow) → option_map (λ (t : Bor StreamRow). t.now) o ≡ slice_get ts 0 → is_none o ≡ (length ts == 0)
    by None [] e = refl
    by None (t ∷ ts) e = cc
    by (Some t) [] e = cc
    by (Some t) (u ∷ ts) e = sym (ne_eqb (length (u ∷ ts)) 0 (λ s. omega (arith, s)))

-- owners

seats_owner : (number : ℕ) (xs : List Seated) → owner_of (map seat_of xs) number ≡ option_map (λ s. s.id) (find (λ s. s.stream == number) (sessions_in xs))
unfolding row_of
seats_owner number [] = refl
seats_owner number (x ∷ xs) = by (x.session.stream == number) (seats_owner number xs)
  where
    by : (b : Bool) → owner_of (map seat_of xs) number ≡ option_map (λ s. s.id) (find (λ s. s.stream == number) (sessions_in xs))
        → option_map (λ (seat : Seat). seat.session.id) (cond b (Some (seat_of x)) (find (is_in number) (map seat_of xs))) ≡ option_map (λ s. s.id)
        (cond b (Some x.session) (find (λ s. s.stream == number) (sessions_in xs)))
    by true rest = refl
    by false rest = rest

given_is : (x y : StreamRow) → Some x ≡ Some y → x ≡ y
given_is x y e = ap (λ o. or_this o) e
  where
    or_this : Option StreamRow → StreamRow
    or_this None = x
    or_this (Some z) = z

owned_found : (seats : List Seat) (number : ℕ) (ts : List StreamRow) (t : StreamRow) → Owned seats ts → find (has_number number) ts ≡ Some t
    → owner_of seats number ≡ Some t.owner
owned_found seats number [] t owned e = cc
owned_found seats number (x ∷ xs) t owned e = by (x.number == number) refl e (owned_found seats number xs t owned.1)
  where
    by : (b : Bool) → (x.number == number) ≡ b → cond b (Some x) (find (has_number number) xs) ≡ Some t
        → (find (has_number number) xs ≡ Some t → owner_of seats number ≡ Some t.owner) → owner_of seats number ≡ Some t.owner
    by true same here rest = ap (λ n. owner_of seats n) (sym (eqb-true x.number number same)) ∙ owned.0
        ∙ ap (λ (s : StreamRow). Some s.owner) (given_is x t here)
    by false same later rest = rest later

unowned : (lives : ℕ → Bool) (number : ℕ) (seats : List Seat) → list_all (λ (seat : Seat). lives seat.session.stream) seats ≡ true → lives number ≡ false
    → owner_of seats number ≡ None
unowned lives number [] all dead = refl
unowned lives number (x ∷ xs) all dead =
    let parts = and_parts _ _ all in
    by (x.session.stream == number) refl parts.0 (unowned lives number xs parts.1 dead)
  where
    by : (b : Bool) → (x.session.stream == number) ≡ b → lives x.session.stream ≡ true → owner_of xs number ≡ None
        → option_map (λ (seat : Seat). seat.session.id) (cond b (Some x) (find (is_in number) xs)) ≡ None
    by true same alive rest = absurd (false≢true (sym dead ∙ ap lives (sym (eqb-true x.session.stream number same)) ∙ alive))
    by false same alive rest = rest

owner_found : (c : Config) (v : Kept) (st : State) (number : ℕ) (found : Option StreamRow) → StandsFor c v st → Sound v.table
    → find (has_number number) v.table.streams ≡ found → owner_of v.table.seats number ≡ option_map (λ t. t.owner) found
owner_found c v st number (Some t) stands sound is = owned_found v.table.seats number v.table.streams t sound.owned is
owner_found c v st number None stands sound is =
    unowned (is_live v.table.streams) number v.table.seats sound.housed (sym (find_any (has_number number) v.table.streams) ∙ ap is_some is)

pub owner_looked : (c : Config) (v : Kept) (st : State) (number : ℕ) (found : Option StreamRow) → StandsFor c v st → Sound v.table
    → found ≡ find (has_number number) v.table.streams
    → option_map (λ t. t.owner) found ≡ owner_id st number
owner_looked c v st number found stands sound is =
    sym (owner_found c v st number found stands sound (sym is))
    ∙ ap (λ seats. owner_of seats number) stands.seats ∙ seats_owner number stands.seated
    ∙ ap (λ ss. option_map (λ (s : Session). s.id) (find (λ s. s.stream == number) ss)) (sym stands.sessions)

-- room

at_most : (n m : ℕ) → n ≤ m → nat_le m n ≡ (n == m)
at_most n m le = by (n == m) refl
  where
    by : (b : Bool) → (n == m) ≡ b → nat_le m n ≡ b
    by true same = le-leb m n (omega (arith, eqb-true n m same))
    by false differs = lt-leb m n (below differs)
      where
        below : (n == m) ≡ false → n < m
        below d = grind (arith, d, le)

pub full_looked : (c : Config) (v : Kept) (st : State) → StandsFor c v st → Sound v.table → is_full v.table ≡ is_full_state st
full_looked c v st stands sound =
    let many : length v.table.seats ≡ length st.sessions =
    ap length stands.seats ∙ length-map stands.seated seat_of ∙ sym (length-map stands.seated (λ x. x.session)) ∙ ap length (sym stands.sessions) in
    ap (λ b. b || v.table.made == 4294967295) (sym (at_most (length v.table.seats) 64 sound.few))
    ∙ ap (λ b. nat_le 64 (length v.table.seats) || b) (sym (at_most v.table.made 4294967295 sound.made))
    ∙ ap (λ n. nat_le 64 n || nat_le 4294967295 v.table.made) many
    ∙ ap (λ n. nat_le 64 (length st.sessions) || nat_le 4294967295 n) stands.made

-- the session that is found is the one of its id, and no HTTP session
pub found_holds : (p : Session → Bool) (xs : List Session) (s : Session) → find p xs ≡ Some s → p s ≡ true
found_holds p [] s e = absurd (cc)
found_holds p (x ∷ xs) s e = by (p x) refl e (found_holds p xs s)
  where
    by : (b : Bool) → p x ≡ b → cond b (Some x) (find p xs) ≡ Some s → (find p xs ≡ Some s → p s ≡ true) → p s ≡ true
    by true h f rest = ap p (sym (same_Some x s f)) ∙ h
    by false h f rest = rest f

row_http : (s : Session) → (row_of s).http ≡ s.http
unfolding row_of
row_http s = refl

row_id : (s : Session) → (row_of s).id ≡ s.id
unfolding row_of
row_id s = refl

only_by : (id : SessionId) (ss : List Session) (row : Row) (b : Bool) (o : Option Row) (found : Option Session) → row.http ≡ b → o ≡ cond b None (Some row)
    → Some row ≡ option_map row_of found → find (is_session id) ss ≡ found
    → IfSome o (λ r. option_map (λ (s : Session). s.http) (find (is_session r.id) ss) ≡ Some false)
only_by id ss row b None found kind is same at = tt
only_by id ss row true (Some r) found kind is same at = absurd (cc)
only_by id ss row false (Some r) None kind is same at = absurd (cc)
only_by id ss row false (Some r) (Some s) kind is same at =
    let one : r ≡ row = same_Some r row is in
    let other : row ≡ row_of s = same_Some row (row_of s) same in
    let own : r.id ≡ id = ap (λ (x : Row). x.id) (one ∙ other) ∙ row_id s ∙ same_id_is s.id id (found_holds (is_session id) ss s at) in
    let http : s.http ≡ false = sym (row_http s) ∙ ap (λ (x : Row). x.http) (sym other) ∙ kind in
    ap (λ (i : SessionId). option_map (λ (s : Session). s.http) (find (is_session i) ss)) own ∙ ap (option_map (λ (s : Session). s.http)) at ∙ ap Some http

pub only_looked : (c : Config) (v : Kept) (st : State) (id : SessionId) (row : Row) (result : Option Row) → StandsFor c v st → result ≡ if_rtsp (Some row)
    → Some row ≡ option_map (λ (seat : Seat). seat.session) (find (has_id_of id) v.table.seats)
    → IfSome result (λ r. option_map (λ (s : Session). s.http) (find (is_session r.id) st.sessions) ≡ Some false)
only_looked c v st id row result stands is found =
    only_by id st.sessions row row.http result (find (is_session id) st.sessions) refl is
    (row_found c v st id (Some row) stands found stands ∙ ap (λ ss. option_map row_of (find (is_session id) ss)) (sym stands.sessions)) refl
