-- What each move sends goes where the last SETUPs say, and they go on to say where its sessions are.
use Rattle.std.proofs.Common.{◌≡◌, ℕ, ◌+◌, ◌==◌, ◌&&◌, not, Bool, true, false, List, [], ◌∷◌, ◌++◌, length, max, Option, Some, None, refl, ap, if◌then◌else◌, option_map, option_and_then}
use Rattle.std.specs.List.{filter_map, cons_option, flat_map, list_any}
use Rattle.std.specs.Option.{option_map_or}
use Rattle.std.proofs.lemmas.Bool.{not-true}
use Rattle.satip_fronts.specs.declared.choice.Place.{Place}
use Rattle.satip_fronts.specs.Choice.{choose}
use Rattle.satip_tune.specs.Frontends.{mux_for}
use Rattle.satip_base.specs.Lists.{Each}
use Rattle.satip_base.proofs.Elements.{Each-append}
use Rattle.satip_rtp.specs.Cut.{cut}
use Rattle.satip_plain.specs.Types.{Config, Query, Tuning}
use Rattle.satip_plain.specs.State.{Session, State, Stream, change_where, held, same_id, served_by, stream_of}
use Rattle.satip_plain.specs.Sending.{Report, Turn, Move, settle, then_move, each, each_of, as_rtp, let_go}
use Rattle.satip_plain.specs.Streams.{retune, put_at, to_set, change_by, change_stream, new_pids, outlook_of}
use Rattle.satip_plain.specs.Steps.{capped, deliver, end_where, give, give_all, given, is_due, is_expired, is_overrun, overrun, part, picks, report_of, send_reports, sender_of, tick, view_of}
use Rattle.satip_laws.specs.Targets.Targets.{GoesToLast, SetUp, last_of, rtcp_address, rtp_address}

-- an RTSP session as its last SETUP
abbrev pub as_set_up : Session → SetUp
as_set_up x = record { session = x.id; peer = x.peer; ports = x.ports }

abbrev pub IsGrounded : List SetUp → Session → Type 0
IsGrounded us x = x.http ≡ false → last_of x.id us ≡ Some (as_set_up x)

abbrev pub Grounded : List SetUp → State → Type 0
Grounded us st = Each (IsGrounded us) st.sessions

pub record Lands (us : List SetUp) (m : Move) : Type 0 where
  pub state : Grounded us m.state
  pub sent : Each (GoesToLast us) m.sent

pub lands_still : (us : List SetUp) (st : State) → Grounded us st → Lands us (settle st)
lands_still us st grounded = record { state = grounded; sent = tt }

pub lands_then : (us : List SetUp) (m : Move) (next : State → Move) → Lands us m → ((st : State) → Grounded us st → Lands us (next st))
    → Lands us (then_move m next)
lands_then us m next first second =
    let n = second m.state first.state in
    record { state = n.state; sent = Each-append (GoesToLast us) m.sent (next m.state).sent first.sent n.sent }

-- turns

abbrev pub StaysGrounded : List SetUp → Option Session → Type 0
StaysGrounded us None = Unit {0}
StaysGrounded us (Some x) = IsGrounded us x

pub record TurnLands (us : List SetUp) (t : Turn) : Type 0 where
  pub sends : Each (GoesToLast us) t.sends
  pub after : StaysGrounded us t.after

cons_grounded : (us : List SetUp) (o : Option Session) (xs : List Session) → StaysGrounded us o → Each (IsGrounded us) xs
    → Each (IsGrounded us) (cons_option o xs)
cons_grounded us None xs one rest = rest
cons_grounded us (Some x) xs one rest = (one, rest)

round_after : (us : List SetUp) (turn : Session → Turn) → ((x : Session) → IsGrounded us x → TurnLands us (turn x)) → (xs : List Session)
    → Each (IsGrounded us) xs
    → Each (IsGrounded us) (filter_map (λ s. (turn s).after) xs)
round_after us turn lands [] grounded = tt
round_after us turn lands (x ∷ xs) grounded =
    cons_grounded us (turn x).after (filter_map (λ s. (turn s).after) xs) (lands x grounded.0).after (round_after us turn lands xs grounded.1)

round_sends : (us : List SetUp) (turn : Session → Turn) → ((x : Session) → IsGrounded us x → TurnLands us (turn x)) → (xs : List Session)
    → Each (IsGrounded us) xs
    → Each (GoesToLast us) (flat_map (λ s. (turn s).sends) xs)
round_sends us turn lands [] grounded = tt
round_sends us turn lands (x ∷ xs) grounded =
    Each-append (GoesToLast us) (turn x).sends (flat_map (λ s. (turn s).sends) xs) (lands x grounded.0).sends (round_sends us turn lands xs grounded.1)

pub lands_each : (us : List SetUp) (turn : Session → Turn) (st : State) → ((x : Session) → IsGrounded us x → TurnLands us (turn x)) → Grounded us st
    → Lands us (each turn st)
lands_each us turn st lands grounded = record { state = round_after us turn lands st.sessions grounded; sent = round_sends us turn lands st.sessions grounded }

pub lands_some : (us : List SetUp) (p : Session → Bool) (turn : Session → Turn) (st : State)
    → ((x : Session) → p x ≡ true → IsGrounded us x → TurnLands us (turn x))
    → Grounded us st → Lands us (each_of p turn st)
lands_some us p turn st lands grounded = lands_each us (λ x. if p x then turn x else record { sends = []; after = Some x }) st by grounded
  where
    by : (x : Session) → IsGrounded us x → TurnLands us (if p x then turn x else record { sends = []; after = Some x })
    by x is = at (p x) refl
      where
        at : (b : Bool) → p x ≡ b → TurnLands us (if b then turn x else record { sends = []; after = Some x })
        at true e = lands x e is
        at false e = record { sends = tt; after = is }

-- what is held of an RTSP session goes to its address
rtp_goes : (us : List SetUp) (clock : ℕ) (x : Session) (count : ℕ) (groups : List (List (List ℕ))) → last_of x.id us ≡ Some (as_set_up x)
    → Each (GoesToLast us) (as_rtp clock x count groups)
rtp_goes us clock x count [] is = tt
rtp_goes us clock x count (packets ∷ more) is = (ap (option_map rtp_address) is, rtp_goes us clock x (count + 1) more is)

pub let_go_lands : (us : List SetUp) (flush : Bool) (clock : ℕ) (x : Session) → x.http ≡ false → IsGrounded us x → TurnLands us (let_go flush clock x)
let_go_lands us flush clock x rtsp is = record { sends = rtp_goes us clock x (length x.sizes) (cut flush (held x)) (is rtsp); after = is }

part_lands : (us : List SetUp) (clock : ℕ) (x : Session) → IsGrounded us x → TurnLands us (part clock x)
part_lands us clock x is = record { sends = at x.http refl; after = tt }
  where
    at : (b : Bool) → x.http ≡ b → Each (GoesToLast us) (if b then [] else (let_go true clock x).sends)
    at true e = tt
    at false e = (let_go_lands us true clock x e is).sends

given_lands : (us : List SetUp) (clock : ℕ) (packet : List ℕ) (x : Session) → IsGrounded us x → TurnLands us (given clock packet x)
given_lands us clock packet x is = at x.http (is_overrun x) refl
  where
    more : Session
    more = record x { picked = x.picked ++ packet ∷ [] }

    at : (b o : Bool) → x.http ≡ b
        → TurnLands us (if b then record { sends = []; after = Some (if o then x else record x { picked = x.picked ++ packet ∷ [] }) }
        else let_go false clock (record x { picked = x.picked ++ packet ∷ [] }))
    at true true e = record { sends = tt; after = is }
    at true false e = record { sends = tt; after = is }
    at false o e = let_go_lands us false clock more e is

report_goes : (us : List SetUp) (c : Config) (st : State) (x : Session) → last_of x.id us ≡ Some (as_set_up x) → (o : Option Stream)
    → Each (GoesToLast us) (option_map_or (λ t. Report x.id (view_of st t) (sender_of c st x) ∷ []) o [])
report_goes us c st x is None = tt
report_goes us c st x is (Some t) = (ap (option_map rtcp_address) is, tt)

-- not of what is true
and_first : (a b : Bool) → (a && b) ≡ true → a ≡ true
and_first true b e = refl
and_first false b e = e

and_second : (a b : Bool) → (a && b) ≡ true → b ≡ true
and_second true b e = e
and_second false b e = cc

due_rtsp : (clock : ℕ) (x : Session) (rest : Bool) → (x.playing && not x.http && rest) ≡ true → x.http ≡ false
due_rtsp clock x rest e = not-true x.http (and_second x.playing (not x.http) (and_first (x.playing && not x.http) rest e))

-- moves

pub lands_end : (us : List SetUp) (st : State) (p : Session → Bool) → Grounded us st → Lands us (end_where p st)
lands_end us st p grounded =
    let gone = lands_some us p (part st.clock) st (λ x e is. part_lands us st.clock x is) grounded in
    record { state = gone.state; sent = gone.sent }

retuned_grounded : (us : List SetUp) (c : Config) (number : ℕ) (tuning : Tuning) (st : State) → Grounded us st → (o : Option Place)
    → Grounded us (option_map_or (put_at c number tuning st) o st)
retuned_grounded us c number tuning st grounded None = grounded
retuned_grounded us c number tuning st grounded (Some place) = grounded

lands_retune : (us : List SetUp) (c : Config) (number : ℕ) (st : State) (tuning : Tuning) → Grounded us st → Lands us (retune c number st tuning)
lands_retune us c number st tuning grounded =
    lands_then us (each_of (λ s. s.stream == number && not s.http) (let_go true st.clock) st)
    (λ now. settle (option_map_or (put_at c number tuning now) (choose (outlook_of c now number) (mux_for c.muxes tuning) tuning) now))
    (lands_some us (λ s. s.stream == number && not s.http) (let_go true st.clock) st
    (λ x e is. let_go_lands us true st.clock x (not-true x.http (and_second (x.stream == number) (not x.http) e)) is) grounded)
    (λ now g. lands_still us (option_map_or (put_at c number tuning now) (choose (outlook_of c now number) (mux_for c.muxes tuning) tuning) now)
    (retuned_grounded us c number tuning now g (choose (outlook_of c now number) (mux_for c.muxes tuning) tuning)))

retune_if : (us : List SetUp) (c : Config) (number : ℕ) (st : State) → Grounded us st → (o : Option Tuning)
    → Lands us (option_map_or (retune c number st) o (settle st))
retune_if us c number st grounded None = lands_still us st grounded
retune_if us c number st grounded (Some tuning) = lands_retune us c number st tuning grounded

pub lands_change_by : (us : List SetUp) (c : Config) (number : ℕ) (query : Query) (st : State) → Grounded us st → Lands us (change_by c number query st)
lands_change_by us c number query st grounded =
    let old : Option Tuning = option_and_then (λ t. t.tuning) (stream_of st number) in
    lands_then us (option_map_or (retune c number st) (to_set old query.change) (settle st))
    (λ now. settle (change_stream number (λ t. record t { pids = new_pids t.pids query }) now))
    (retune_if us c number st grounded (to_set old query.change))
    (λ now g. lands_still us (change_stream number (λ t. record t { pids = new_pids t.pids query }) now) g)

-- sessions of which some are moved by one more SETUP
pub grounded_moved : (before us : List SetUp) (p : Session → Bool) (f : Session → Session) (xs : List Session)
    → ((x : Session) → p x ≡ true → IsGrounded us (f x))
    → ((x : Session) → p x ≡ false → IsGrounded before x → IsGrounded us x) → Each (IsGrounded before) xs → Each (IsGrounded us) (change_where p f xs)
grounded_moved before us p f [] on off grounded = tt
grounded_moved before us p f (x ∷ xs) on off grounded = (at (p x) refl, grounded_moved before us p f xs on off grounded.1)
  where
    at : (b : Bool) → p x ≡ b → IsGrounded us (if b then f x else x)
    at true e = on x e
    at false e = off x e grounded.0

-- sessions that are changed, but for where they are
pub grounded_change : (us : List SetUp) (p : Session → Bool) (f : Session → Session) (xs : List Session)
    → ((x : Session) → IsGrounded us x → IsGrounded us (f x))
    → Each (IsGrounded us) xs → Each (IsGrounded us) (change_where p f xs)
grounded_change us p f [] keeps grounded = tt
grounded_change us p f (x ∷ xs) keeps grounded = (at (p x), grounded_change us p f xs keeps grounded.1)
  where
    at : (b : Bool) → IsGrounded us (if b then f x else x)
    at true = keeps x grounded.0
    at false = grounded.0

pub lands_tick : (us : List SetUp) (c : Config) (now : ℕ) (st : State) → Grounded us st → Lands us (tick c now st)
lands_tick us c now st grounded =
    let clock : ℕ = max st.clock (capped now) in
    lands_then us (each_of (λ s. not s.http) (let_go true clock) (record st { clock = clock }))
    (λ flushed. then_move (end_where (is_expired c flushed.clock) flushed) (λ left. send_reports c left))
    (lands_some us (λ s. not s.http) (let_go true clock) (record st { clock = clock }) (λ x e is. let_go_lands us true clock x (not-true x.http e) is) grounded)
    (λ flushed g. lands_then us (end_where (is_expired c flushed.clock) flushed) (λ left. send_reports c left)
    (lands_end us flushed (is_expired c flushed.clock) g)
    (λ left k. lands_some us (is_due left.clock) (λ s. record { sends = report_of c left s; after = Some (record s { reported = Some left.clock }) }) left
    (λ x e is. record { sends = report_goes us c left x (is (due_rtsp left.clock x _ e)) (stream_of left x.stream); after = is }) k))

pub lands_give_all : (us : List SetUp) (packet : List ℕ) (ts : List Stream) (st : State) → Grounded us st → Lands us (give_all packet ts st)
lands_give_all us packet [] st grounded = lands_still us st grounded
lands_give_all us packet (t ∷ ts) st grounded =
    lands_then us (give packet t st) (give_all packet ts)
    (lands_some us (picks t packet) (given st.clock packet) st (λ x e is. given_lands us st.clock packet x is) grounded)
    (λ now g. lands_give_all us packet ts now g)

pub lands_deliver : (us : List SetUp) (front : ℕ) (packet : List ℕ) (st : State) → Grounded us st → Lands us (deliver front packet st)
lands_deliver us front packet st grounded =
    lands_then us (give_all packet (served_by st front) st) (end_where (λ s. list_any (λ x. same_id x.id s.id) (overrun packet st (served_by st front))))
    (lands_give_all us packet (served_by st front) st grounded)
    (λ now g. lands_end us now (λ s. list_any (λ x. same_id x.id s.id) (overrun packet st (served_by st front))) g)
