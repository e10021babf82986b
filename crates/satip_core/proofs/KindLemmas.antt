-- What kind each session is stays, as a stream is changed by a query.
use Rattle.std.proofs.Common.{◌≡◌, ◌∙◌, ℕ, ◌==◌, ◌&&◌, not, Bool, true, false, cond, List, [], ◌∷◌, find, Option, Some, None, refl, ap}
use Rattle.std.specs.List.{filter_map, cons_option}
use Rattle.std.specs.Option.{option_map, option_map_or, option_and_then}
use Rattle.satip_fronts.specs.declared.choice.Place.{Place}
use Rattle.satip_fronts.specs.Choice.{choose}
use Rattle.satip_tune.specs.Frontends.{mux_for}
use Rattle.satip_plain.specs.Types.{Config, Query, SessionId, Tuning}
use Rattle.satip_plain.specs.State.{Session, State, change_where, stream_of}
use Rattle.satip_plain.specs.Sending.{Turn, each_of, let_go, settle, then_move}
use Rattle.satip_plain.specs.Streams.{change_by, change_stream, new_pids, outlook_of, put_at, retune, to_set}
use Rattle.satip_plain.specs.Steps.{is_session}

-- whether the session of an id is an HTTP session
abbrev pub kind : SessionId → List Session → Option Bool
kind id ss = option_map (λ (s : Session). s.http) (find (is_session id) ss)

kind_cons : (b : Bool) (y s : Session) (o p : Option Session) → y.http ≡ s.http
    → option_map (λ (x : Session). x.http) o ≡ option_map (λ (x : Session). x.http) p
    → option_map (λ (x : Session). x.http) (cond b (Some y) o) ≡ option_map (λ (x : Session). x.http) (cond b (Some s) p)
kind_cons true y s o p same rest = ap Some same
kind_cons false y s o p same rest = rest

-- a session that lets go what it holds, if it is one of these
abbrev turned : (Session → Bool) → ℕ → Session → Turn
turned p clock s = cond (p s) (let_go true clock s) (record { sends = []; after = Some s })

kind_turned : (id : SessionId) (p : Session → Bool) (clock : ℕ) (ss : List Session) → kind id (filter_map (λ s. (turned p clock s).after) ss) ≡ kind id ss
kind_turned id p clock [] = refl
kind_turned id p clock (s ∷ ss) = by (p s) (kind_turned id p clock ss)
  where
    by : (b : Bool) → kind id (filter_map (λ x. (turned p clock x).after) ss) ≡ kind id ss
        → kind id (cons_option (cond b (let_go true clock s) (record { sends = []; after = Some s })).after (filter_map (λ x. (turned p clock x).after) ss))
        ≡ kind id (s ∷ ss)
    by true rest = kind_cons (is_session id s) _ s _ _ refl rest
    by false rest = kind_cons (is_session id s) s s _ _ refl rest

pub kind_played : (id own : SessionId) (ss : List Session) → kind id (change_where (is_session own) (λ x. record x { playing = true }) ss) ≡ kind id ss
kind_played id own [] = refl
kind_played id own (s ∷ ss) = by (is_session own s) (kind_played id own ss)
  where
    by : (b : Bool) → kind id (change_where (is_session own) (λ x. record x { playing = true }) ss) ≡ kind id ss
        → kind id (cond b (record s { playing = true }) s ∷ change_where (is_session own) (λ x. record x { playing = true }) ss) ≡ kind id (s ∷ ss)
    by true rest = kind_cons (is_session id s) _ s _ _ refl rest
    by false rest = kind_cons (is_session id s) s s _ _ refl rest

pub kind_heard : (id own : SessionId) (clock : ℕ) (ss : List Session) → kind id (change_where (is_session own) (λ x. record x { heard = clock }) ss) ≡ kind id ss
kind_heard id own clock [] = refl
kind_heard id own clock (s ∷ ss) = by (is_session own s) (kind_heard id own clock ss)
  where
    by : (b : Bool) → kind id (change_where (is_session own) (λ x. record x { heard = clock }) ss) ≡ kind id ss
        → kind id (cond b (record s { heard = clock }) s ∷ change_where (is_session own) (λ x. record x { heard = clock }) ss) ≡ kind id (s ∷ ss)
    by true rest = kind_cons (is_session id s) _ s _ _ refl rest
    by false rest = kind_cons (is_session id s) s s _ _ refl rest

put_keeps : (c : Config) (n : ℕ) (tuning : Tuning) (now : State) (o : Option Place) → (option_map_or (put_at c n tuning now) o now).sessions ≡ now.sessions
put_keeps c n tuning now None = refl
put_keeps c n tuning now (Some place) = refl

kind_retune : (c : Config) (n : ℕ) (st : State) (tuning : Tuning) (id : SessionId) → kind id (retune c n st tuning).state.sessions ≡ kind id st.sessions
kind_retune c n st tuning id =
    let p : Session → Bool = λ s. s.stream == n && not s.http in
    let now : State = (each_of p (let_go true st.clock) st).state in
    ap (kind id) (put_keeps c n tuning now (choose (outlook_of c now n) (mux_for c.muxes tuning) tuning)) ∙ kind_turned id p st.clock st.sessions

pub kind_changed : (c : Config) (n : ℕ) (q : Query) (st : State) (id : SessionId) → kind id (change_by c n q st).state.sessions ≡ kind id st.sessions
kind_changed c n q st id = by (to_set (option_and_then (λ t. t.tuning) (stream_of st n)) q.change)
  where
    by : (o : Option Tuning) → kind id
        (then_move (option_map_or (retune c n st) o (settle st))
        (λ now. settle (change_stream n (λ t. record t { pids = new_pids t.pids q }) now))).state.sessions ≡ kind id st.sessions
    by None = refl
    by (Some tuning) = kind_retune c n st tuning id
