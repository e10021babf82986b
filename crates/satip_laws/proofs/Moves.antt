-- What each move does to every session.
use Rattle.std.proofs.Common.{◌≡◌, ℕ, ◌==◌, ◌&&◌, Bool, true, false, not, List, [], ◌++◌, map, max, Option, Some, None, refl, sym, subst, ◌∙◌, if◌then◌else◌, option_and_then}
use Rattle.std.specs.Option.{option_map_or}
use Rattle.std.proofs.lemmas.Bool.{not-true}
use Rattle.satip_fronts.specs.declared.choice.Place.{Place}
use Rattle.satip_fronts.specs.Choice.{choose}
use Rattle.satip_tune.specs.Frontends.{mux_for}
use Rattle.satip_plain.specs.Types.{SessionId, Config, Query, Tuning}
use Rattle.satip_plain.specs.State.{Session, State, Stream, stream_of, change_where}
use Rattle.satip_plain.specs.Sending.{Turn, Move, settle, then_move, each, each_of, let_go}
use Rattle.satip_plain.specs.Streams.{retune, put_at, to_set, change_by, change_stream, new_pids, outlook_of, sweep}
use Rattle.satip_plain.specs.Steps.{is_session, part, end_where, tick, send_reports, is_due, report_of, is_expired, hear, capped, change_session}
use Rattle.satip_laws.specs.Makings.{IsKept}
use Rattle.satip_laws.proofs.Ids.{look, Apart, Below, found_id}
use Rattle.satip_laws.proofs.Told.{told, told-append}
use Rattle.satip_laws.proofs.Evolving.{Fine, Evolves, Runs, runs_then, runs_still, runs_fine}
use Rattle.satip_laws.proofs.Rounds.{Round, round, round_apart, round_below, sends_of, after_of, changing, after_of-changing, sends_of-changing}
use Rattle.satip_laws.proofs.Turns.{Takes, still, quiet, some_turn, let_go_takes, part_takes, report_takes}
use Rattle.satip_laws.proofs.Single.{Single, single_filter, single_map}

-- ids are apart and none is beyond those made, no two streams have one number, and no session holds too much
pub record IsSound (st : State) : Type 0 where
  pub apart : Apart st.sessions
  pub below : Below st.made st.sessions
  pub single : Single st.streams
  pub fine : (s : SessionId) (x : Session) → look s st.sessions ≡ Some x → Fine x

abbrev pub nothing : SessionId → List (List ℕ)
nothing s = []

-- from a sound state: each session is given this, its pulls take that, and no session is made
pub record Goes (st : State) (m : Move) (got took : SessionId → List (List ℕ)) : Type 0 where
  pub runs : (s : SessionId) → Runs (look s st.sessions) (told s m.sent) (got s) (took s) (look s m.state.sessions)
  pub sound : IsSound m.state
  pub made : m.state.made ≡ st.made

pub goes_then : (st : State) (m : Move) (next : State → Move) (g t h u : SessionId → List (List ℕ)) → Goes st m g t → Goes m.state (next m.state) h u
    → Goes st (then_move m next) (λ s. g s ++ h s) (λ s. t s ++ u s)
goes_then st m next g t h u p q = record {
  runs = λ s. rw (told-append s m.sent (next m.state).sent)
      (runs_then (look s st.sessions) (told s m.sent) (g s) (t s) (look s m.state.sessions) (told s (next m.state).sent) (h s) (u s)
      (look s (next m.state).state.sessions) (p.runs s) (q.runs s));
  sound = q.sound;
  made = q.made ∙ p.made;
}

-- two moves in which nothing is given
pub goes_on : (st : State) (m : Move) (next : State → Move) → Goes st m nothing nothing → Goes m.state (next m.state) nothing nothing
    → Goes st (then_move m next) nothing nothing
goes_on st m next p q = goes_then st m next nothing nothing nothing nothing p q

-- a state with the same sessions
pub goes_same : (st new : State) → IsSound st → new.sessions ≡ st.sessions → new.made ≡ st.made → Single new.streams → Goes st (settle new) nothing nothing
goes_same st new sound same made single = record {
  runs = λ s. rw same (runs_still (look s st.sessions));
  sound = record { apart = rw same sound.apart; below = rw (same, made) sound.below; single = single; fine = rw same sound.fine };
  made = made;
}

-- another state with the same sessions in the end
pub goes_settled : (st : State) (m : Move) (new : State) (g t : SessionId → List (List ℕ)) → Goes st m g t → new.sessions ≡ m.state.sessions
    → new.made ≡ m.state.made → Single new.streams
    → Goes st (record { state = new; sent = m.sent }) g t
goes_settled st m new g t goes same made single = record {
  runs = λ s. rw same (goes.runs s);
  sound = record { apart = rw same goes.sound.apart; below = rw (same, made) goes.sound.below; single = single; fine = rw same goes.sound.fine };
  made = made ∙ goes.made;
}

-- the same move, with what it gives said otherwise
pub goes_got : (st : State) (m : Move) (g h t : SessionId → List (List ℕ)) → ((s : SessionId) → g s ≡ h s) → Goes st m g t → Goes st m h t
goes_got st m g h t same goes = record {
  runs = λ s. subst (λ l. Runs (look s st.sessions) (told s m.sent) l (t s) (look s m.state.sessions)) (same s) (goes.runs s);
  sound = goes.sound;
  made = goes.made;
}

round_runs : (s : SessionId) (turn : Session → Turn) (xs : List Session) (got : Option Session → List (List ℕ)) → got None ≡ [] → Round s turn xs
    → ((x : Session) → look s xs ≡ Some x → Evolves x (told s (turn x).sends) (got (Some x)) [] (turn x).after)
    → Runs (look s xs) (told s (sends_of turn xs)) (got (look s xs)) [] (look s (after_of turn xs))
round_runs s turn xs got none round evolves = rw (round.tells, round.found) (by (look s xs) refl)
  where
    by : (o : Option Session) → look s xs ≡ o → Runs o (option_map_or (λ x. told s (turn x).sends) o []) (got o) [] (option_and_then (λ x. (turn x).after) o)
    by None e = (refl, none, refl, refl)
    by (Some x) e = evolves x e

-- a round of turns
pub goes_each : (st : State) (turn : Session → Turn) (got : Option Session → List (List ℕ)) → got None ≡ []
    → ((x : Session) → Takes x (turn x) (got (Some x))) → IsSound st
    → Goes st (each turn st) (λ s. got (look s st.sessions)) nothing
goes_each st turn got none takes sound =
    let at : (s : SessionId) → Runs (look s st.sessions) (told s (sends_of turn st.sessions)) (got (look s st.sessions)) []
    (look s (after_of turn st.sessions)) = λ s.
    round_runs s turn st.sessions got none (round s turn (λ x. (takes x).own) st.sessions sound.apart)
    (λ x e. subst (λ i. Evolves x (told i (turn x).sends) (got (Some x)) [] (turn x).after) (found_id s st.sessions x e) (takes x).evolves) in
    record {
      runs = at;
      sound = record {
        apart = round_apart turn (λ x. (takes x).own) st.sessions sound.apart;
        below = round_below st.made turn (λ x. (takes x).own) st.sessions sound.below;
        single = sound.single;
        fine = λ s y e. runs_fine (look s st.sessions) (told s (sends_of turn st.sessions)) (got (look s st.sessions)) [] (look s (after_of turn st.sessions)) y
            (at s) (sound.fine s) e;
      };
      made = refl;
    }

none_got : Option Session → List (List ℕ)
none_got o = []

-- a round that some have, in which nothing is given
pub goes_some : (st : State) (p : Session → Bool) (turn : Session → Turn) → ((x : Session) → p x ≡ true → Takes x (turn x) []) → IsSound st
    → Goes st (each_of p turn st) nothing nothing
unfolding none_got
goes_some st p turn takes sound = goes_each st (λ x. if p x then turn x else record { sends = []; after = Some x }) none_got refl
    (λ x. some_turn p turn x (takes x)) sound

-- each session is changed, but for its packets
pub goes_map : (st new : State) (f : Session → Session) → IsSound st → ((x : Session) → Takes x (changing f x) []) → new.sessions ≡ map f st.sessions
    → new.made ≡ st.made → Single new.streams
    → Goes st (settle new) nothing nothing
unfolding none_got
goes_map st new f sound takes same made single =
    let goes : Goes st (each (changing f) st) nothing nothing = goes_each st (changing f) none_got refl takes sound in
    let settled : Goes st (record { state = new; sent = (each (changing f) st).sent }) nothing nothing =
    goes_settled st (each (changing f) st) new nothing nothing goes (same ∙ sym (after_of-changing f st.sessions)) made single in
    record { runs = λ s. rw (sends_of-changing f st.sessions) at (settled.runs s); sound = settled.sound; made = settled.made }

change_takes : (p : Session → Bool) (g : Session → Session) → ((x : Session) → Takes x (changing g x) []) → (x : Session)
    → Takes x (record { sends = []; after = Some (if p x then g x else x) }) []
change_takes p g takes x = by (p x)
  where
    by : (b : Bool) → Takes x (record { sends = []; after = Some (if b then g x else x) }) []
    by true = takes x
    by false = still x

pub goes_change : (st : State) (id : SessionId) (g : Session → Session) → ((x : Session) → Takes x (changing g x) []) → IsSound st
    → Goes st (settle (change_session id g st)) nothing nothing
goes_change st id g takes sound =
    goes_map st (change_session id g st) (λ x. if is_session id x then g x else x) sound (change_takes (is_session id) g takes) refl refl sound.single

kept_heard : (at : ℕ) (x : Session) → IsKept x (record x { heard = at })
kept_heard at x = record { id = refl; http = refl; stream = refl; ssrc = refl; first = refl }

pub goes_hear : (id : SessionId) (st : State) → IsSound st → Goes st (settle (hear id st)) nothing nothing
goes_hear id st sound = goes_change st id (λ s. record s { heard = st.clock })
    (λ x. quiet x (record x { heard = st.clock }) (kept_heard st.clock x) refl refl) sound

-- not of what is true
pub and_second : (a b : Bool) → (a && b) ≡ true → b ≡ true
and_second true b e = e
and_second false b e = cc

pub goes_end : (st : State) (p : Session → Bool) → IsSound st → Goes st (end_where p st) nothing nothing
goes_end st p sound =
    goes_settled st (each_of p (part st.clock) st) (sweep (each_of p (part st.clock) st).state) nothing nothing
    (goes_some st p (part st.clock) (λ x e. part_takes st.clock x) sound) refl refl
    (single_filter _ st.streams sound.single)

single_change : (number : ℕ) (f : Stream → Stream) → ((t : Stream) → (f t).number ≡ t.number) → (ts : List Stream) → Single ts
    → Single (change_where (λ t. t.number == number) f ts)
single_change number f same ts s = single_map (λ t. if t.number == number then f t else t) (λ t. by t (t.number == number)) ts s
  where
    by : (t : Stream) (b : Bool) → (if b then f t else t).number ≡ t.number
    by t true = same t
    by t false = refl

retuned_same : (c : Config) (number : ℕ) (tuning : Tuning) (st : State) → IsSound st → (o : Option Place)
    → Goes st (settle (option_map_or (put_at c number tuning st) o st)) nothing nothing
retuned_same c number tuning st sound None = goes_same st st sound refl refl sound.single
retuned_same c number tuning st sound (Some place) = goes_same st (put_at c number tuning st place) sound refl refl
    (single_filter _ _ (single_change number (λ t. record t { tuning = Some tuning; front = Some place.front }) (λ t. refl) st.streams sound.single))

pub goes_flush : (number : ℕ) (st : State) → IsSound st → Goes st (each_of (λ s. s.stream == number && not s.http) (let_go true st.clock) st) nothing nothing
goes_flush number st sound =
    goes_some st (λ s. s.stream == number && not s.http) (let_go true st.clock)
    (λ x e. let_go_takes true st.clock x (not-true x.http (and_second (x.stream == number) (not x.http) e))) sound

pub goes_retune : (c : Config) (number : ℕ) (st : State) (tuning : Tuning) → IsSound st → Goes st (retune c number st tuning) nothing nothing
goes_retune c number st tuning sound =
    let m : Move = each_of (λ s. s.stream == number && not s.http) (let_go true st.clock) st in
    let first : Goes st m nothing nothing = goes_flush number st sound in
    goes_on st m (λ now. settle (option_map_or (put_at c number tuning now) (choose (outlook_of c now number) (mux_for c.muxes tuning) tuning) now)) first
    (retuned_same c number tuning m.state first.sound (choose (outlook_of c m.state number) (mux_for c.muxes tuning) tuning))

retune_if : (c : Config) (number : ℕ) (st : State) → IsSound st → (o : Option Tuning)
    → Goes st (option_map_or (retune c number st) o (settle st)) nothing nothing
retune_if c number st sound None = goes_same st st sound refl refl sound.single
retune_if c number st sound (Some tuning) = goes_retune c number st tuning sound

pub goes_change_by : (c : Config) (number : ℕ) (query : Query) (st : State) → IsSound st → Goes st (change_by c number query st) nothing nothing
goes_change_by c number query st sound =
    let old : Option Tuning = option_and_then (λ t. t.tuning) (stream_of st number) in
    let m : Move = option_map_or (retune c number st) (to_set old query.change) (settle st) in
    let first : Goes st m nothing nothing = retune_if c number st sound (to_set old query.change) in
    goes_on st m (λ now. settle (change_stream number (λ t. record t { pids = new_pids t.pids query }) now)) first
    (goes_same m.state (change_stream number (λ t. record t { pids = new_pids t.pids query }) m.state) first.sound refl refl
    (single_change number (λ t. record t { pids = new_pids t.pids query }) (λ t. refl) m.state.streams first.sound.single))

pub goes_reports : (c : Config) (st : State) → IsSound st → Goes st (send_reports c st) nothing nothing
goes_reports c st sound =
    goes_some st (is_due st.clock) (λ s. record { sends = report_of c st s; after = Some (record s { reported = Some st.clock }) })
    (λ x e. report_takes c st x) sound

-- the first part of a tick
abbrev pub flushed : ℕ → State → Move
flushed clock st = each_of (λ s. not s.http) (let_go true clock) (record st { clock = clock })

abbrev pub tick_clock : ℕ → State → ℕ
tick_clock now st = max st.clock (capped now)

pub goes_flushed : (clock : ℕ) (st : State) → IsSound st → Goes st (flushed clock st) nothing nothing
goes_flushed clock st sound =
    let st1 : State = record st { clock = clock } in
    let sound1 : IsSound st1 = record { apart = sound.apart; below = sound.below; single = sound.single; fine = sound.fine } in
    let goes : Goes st1 (flushed clock st) nothing nothing =
    goes_some st1 (λ s. not s.http) (let_go true clock) (λ x e. let_go_takes true clock x (not-true x.http e)) sound1 in
    record { runs = goes.runs; sound = goes.sound; made = goes.made }

-- the rest of a tick
abbrev pub after_flush : Config → State → Move
after_flush c st = then_move (end_where (is_expired c st.clock) st) (λ left. send_reports c left)

pub goes_after_flush : (c : Config) (st : State) → IsSound st → Goes st (after_flush c st) nothing nothing
goes_after_flush c st sound =
    let ended : Move = end_where (is_expired c st.clock) st in
    let second : Goes st ended nothing nothing = goes_end st (is_expired c st.clock) sound in
    goes_on st ended (λ left. send_reports c left) second (goes_reports c ended.state second.sound)

pub goes_tick : (c : Config) (now : ℕ) (st : State) → IsSound st → Goes st (tick c now st) nothing nothing
goes_tick c now st sound =
    let first = goes_flushed (tick_clock now st) st sound in
    goes_on st (flushed (tick_clock now st) st) (after_flush c) first (goes_after_flush c (flushed (tick_clock now st) st).state first.sound)
