-- Moves that change nothing of what is read, and those by which a session was heard of.
use Rattle.std.proofs.Common.{◌≡◌, ℕ, ◌||◌, Bool, true, false, cond, List, [], Option, Some, None, refl, ap, sym, ◌∙◌, length, sum, take}
use Rattle.satip_base.specs.Lists.{Has}
use Rattle.satip_plain.specs.Types.{SessionId, Config}
use Rattle.satip_plain.specs.State.{Session, State, change_where}
use Rattle.satip_plain.specs.Sending.{Turn, each_of, let_go}
use Rattle.satip_plain.specs.Steps.{change_session, is_session, send_reports, is_due, report_of}
use Rattle.satip_plain.specs.Readings.{Made, Readings, living, living_session, any_where}
use Rattle.satip_laws.proofs.SameTests.{none_true}
use Rattle.satip_laws.proofs.Agree.{Same, Alike, IsQueue, IsTold, Agrees, Turned, alike_map, alike_each, living_found}

-- sessions that differ at most in what isn't read
pub record Similar (x y : Session) : Type 0 where
  pub id : y.id ≡ x.id
  pub http : y.http ≡ x.http
  pub stream : y.stream ≡ x.stream
  pub playing : y.playing ≡ x.playing
  pub heard : y.heard ≡ x.heard
  pub ssrc : y.ssrc ≡ x.ssrc
  pub first : y.first ≡ x.first
  pub picked : y.picked ≡ x.picked
  pub sizes : x.http ≡ true → y.sizes ≡ x.sizes

queue_similar : (pulled : List (List ℕ)) (x y : Session) → y.picked ≡ x.picked → y.sizes ≡ x.sizes → IsQueue pulled x → IsQueue pulled y
queue_similar pulled x y picked sizes q = record { sizes = ap sum sizes ∙ q.sizes; begins = ap (take (length pulled)) picked ∙ q.begins }

pub same_similar : (g : Readings) (m : Made) (x y : Session) → Similar x y → Same g m x → Same g m y
same_similar g m x y s e = record {
  id = s.id ∙ e.id;
  http = s.http ∙ e.http;
  stream = s.stream ∙ e.stream;
  playing = s.playing ∙ e.playing;
  heard = s.heard ∙ e.heard;
  ssrc = s.ssrc ∙ e.ssrc;
  first = s.first ∙ e.first;
  picked = s.picked ∙ e.picked;
  queue = λ h. queue_similar (g.pulled m.id) x y s.picked (s.sizes (sym s.http ∙ h)) (e.queue (sym s.http ∙ h));
}

pub similar_itself : (x : Session) → Similar x x
similar_itself x = record { id = refl; http = refl; stream = refl; playing = refl; heard = refl; ssrc = refl; first = refl; picked = refl; sizes = λ h. refl }

-- other sessions in the same state
pub agrees_sessions : (c : Config) (st : State) (g : Readings) → Agrees c st g → (ss : List Session) → Alike g (living g) ss
    → Agrees c (record st { sessions = ss }) g
agrees_sessions c st g a ss alike = record {
  loosely = record {
    clock = a.loosely.clock;
    made = a.loosely.made;
    sessions = alike;
    living_streams = a.loosely.living_streams;
    tunes = a.loosely.tunes;
    muxes = a.loosely.muxes;
    told = a.loosely.told;
    kept = record {
      apart = a.loosely.kept.apart;
      once = a.loosely.kept.once;
      positive = a.loosely.kept.positive;
      few = a.loosely.kept.few;
      rows = a.loosely.kept.rows;
      placed = a.loosely.kept.placed;
    };
  };
  streams = a.streams;
  free = a.free;
}

abbrev pub Stays : Session → Option Session → Type 0
Stays x None = ⊥
Stays x (Some y) = Similar x y

turned_stays : (g : Readings) (m : Made) (x : Session) (o : Option Session) → Stays x o → Same g m x → Turned g m true o
turned_stays g m x None s e = absurd s
turned_stays g m x (Some y) s e = same_similar g m x y s e

-- a round of turns that change nothing of what is read
pub agrees_each : (c : Config) (st : State) (g : Readings) (p : Session → Bool) (turn : Session → Turn)
    → ((x : Session) → p x ≡ true → Stays x (turn x).after) → Agrees c st g → Agrees c (each_of p turn st).state g
agrees_each c st g p turn stays a = agrees_sessions c st g a _
    (alike_each g g (λ x. (cond (p x) (turn x) (record { sends = []; after = Some x })).after) (living g) st.sessions
    (λ m x h k e. by m x (p x) refl e) a.loosely.sessions)
  where
    by : (m : Made) (x : Session) (b : Bool) → p x ≡ b → Same g m x → Turned g m true (cond b (turn x) (record { sends = []; after = Some x })).after
    by m x true f e = turned_stays g m x (turn x).after (stays x f) e
    by m x false f e = e

-- what RTSP sessions hold leaves
pub let_go_stays : (flush : Bool) (clock : ℕ) (x : Session) → x.http ≡ false → Stays x (let_go flush clock x).after
let_go_stays flush clock x rtsp =
    record {
      id = refl;
      http = refl;
      stream = refl;
      playing = refl;
      heard = refl;
      ssrc = refl;
      first = refl;
      picked = refl;
      sizes = λ h. none_true x.http h rtsp;
    }

pub agrees_flush : (c : Config) (st : State) (g : Readings) (p : Session → Bool) (flush : Bool) (clock : ℕ) → ((x : Session) → p x ≡ true → x.http ≡ false)
    → Agrees c st g → Agrees c (each_of p (let_go flush clock) st).state g
agrees_flush c st g p flush clock rtsp a = agrees_each c st g p (let_go flush clock) (λ x e. let_go_stays flush clock x (rtsp x e)) a

pub agrees_reports : (c : Config) (st : State) (g : Readings) → Agrees c st g → Agrees c (send_reports c st).state g
agrees_reports c st g a = agrees_each c st g (is_due st.clock) (λ s. record { sends = report_of c st s; after = Some (record s { reported = Some st.clock }) })
    (λ x e. record { id = refl; http = refl; stream = refl; playing = refl; heard = refl; ssrc = refl; first = refl; picked = refl; sizes = λ h. refl }) a

-- a change of one session that isn't read
pub agrees_change : (c : Config) (st : State) (g : Readings) (id : SessionId) (f : Session → Session) → ((x : Session) → Similar x (f x))
    → Agrees c st g → Agrees c (change_session id f st) g
agrees_change c st g id f similar a = agrees_sessions c st g a _ (alike_map g g (λ x. cond (is_session id x) (f x) x) (living g) st.sessions
    (λ m x h k e. by m x (is_session id x) e) a.loosely.sessions)
  where
    by : (m : Made) (x : Session) (b : Bool) → Same g m x → Same g m (cond b (f x) x)
    by m x true e = same_similar g m x (f x) (similar x) e
    by m x false e = e

-- other readings that say the same of a session
pub same_again : (g g' : Readings) (m : Made) (s : Session) → Same g m s → g'.number m.home ≡ g.number m.home → g'.played m.id ≡ g.played m.id
    → g'.heard m.id ≡ g.heard m.id
    → g'.selected m.id ≡ g.selected m.id → g'.pulled m.id ≡ g.pulled m.id → Same g' m s
same_again g g' m s e number played heard selected pulled = record {
  id = e.id;
  http = e.http;
  stream = e.stream ∙ sym number;
  playing = e.playing ∙ ap (λ b. m.http || b) (sym played);
  heard = e.heard ∙ sym heard;
  ssrc = e.ssrc;
  first = e.first;
  picked = e.picked ∙ sym selected;
  queue = λ h. rw pulled (e.queue h);
}

-- the living sessions of which p holds were heard of
abbrev pub heard_read : (Made → Bool) → Readings → Readings
heard_read p g = record g { heard = λ s. cond (any_where p (living_session g s)) g.clock (g.heard s) }

abbrev pub hears : ℕ → (Session → Bool) → State → State
hears clock f st = record st { sessions = change_where f (λ s. record s { heard = clock }) st.sessions }

pub told_heard : (g : Readings) (p : Made → Bool) → IsTold g → IsTold (heard_read p g)
told_heard g p told = record {
  ids = told.ids;
  numbers = told.numbers;
  few = told.few;
  homes = told.homes;
  unmade = λ s above. let u = told.unmade s above in
      record { over = u.over; played = u.played; tuned = u.tuned; pids = u.pids; front = u.front; selected = u.selected; pulled = u.pulled };
  packets = told.packets;
}

pub agrees_heard : (c : Config) (st : State) (g : Readings) (p : Made → Bool) (f : Session → Bool)
    → ((m : Made) (s : Session) → Has m (living g) → Same g m s → p m ≡ f s)
    → Agrees c st g → Agrees c (hears st.clock f st) (heard_read p g)
agrees_heard c st g p f same a = record {
  loosely = record {
    clock = a.loosely.clock;
    made = a.loosely.made;
    sessions = alike_map g (heard_read p g) (λ s. cond (f s) (record s { heard = st.clock }) s) (living g) st.sessions (λ m s h k e. told_of m s h e)
        a.loosely.sessions;
    living_streams = a.loosely.living_streams;
    tunes = a.loosely.tunes;
    muxes = a.loosely.muxes;
    told = told_heard g p a.loosely.told;
    kept = record {
      apart = a.loosely.kept.apart;
      once = a.loosely.kept.once;
      positive = a.loosely.kept.positive;
      few = a.loosely.kept.few;
      rows = a.loosely.kept.rows;
      placed = a.loosely.kept.placed;
    };
  };
  streams = a.streams;
  free = a.free;
}
  where
    by : (m : Made) (s : Session) (b : Bool) → Same g m s → any_where p (living_session g m.id) ≡ b
        → Same (heard_read p g) m (cond b (record s { heard = st.clock }) s)
    by m s true e f = record {
      id = e.id;
      http = e.http;
      stream = e.stream;
      playing = e.playing;
      heard = rw f a.loosely.clock;
      ssrc = e.ssrc;
      first = e.first;
      picked = e.picked;
      queue = λ h. record { sizes = (e.queue h).sizes; begins = (e.queue h).begins };
    }
    by m s false e f = same_again g (heard_read p g) m s e refl refl (rw f refl) refl refl

    told_of : (m : Made) (s : Session) → Has m (living g) → Same g m s → Same (heard_read p g) m (cond (f s) (record s { heard = st.clock }) s)
    told_of m s h e = rw (← same m s h e) (by m s (p m) e (ap (any_where p) (living_found g a.loosely.told m h)))
