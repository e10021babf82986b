-- What all jobs did over a service of the server is a serve run.
use Rattle.std.proofs.Common.{◌≡◌, ℕ, ◌⊎◌, inl, inr, Bool, List, [], ◌∷◌, map, refl, sym, ap, ◌∙◌, subst, length}
use Rattle.satip_base.specs.Lists.{Each}
use Rattle.satip_plain.specs.declared.answers.Answer.{Answer}
use Rattle.satip_plain.specs.declared.events.Event.{Event}
use Rattle.satip_plain.specs.declared.events.Event.TheVariants.{Stop}
use Rattle.satip_plain.specs.declared.setting.Setting.{Setting}
use Rattle.satip_plain.specs.Histories.{Item, Legal}
use Rattle.satip_plain.specs.Known.{Known}
use Rattle.satip_turn.specs.Shown.{Cell, Knows}
use Rattle.satip_shared.specs.Calling.{ServerPass, known_by}
use Rattle.satip_jobs.specs.declared.end.ServeEnd.{ServeEnd}
use Rattle.satip_jobs.specs.declared.end.ServeEnd.TheVariants.{HistoryFull}
use Rattle.satip_jobs.specs.declared.posts.Posts.{Posts}
use Rattle.satip_jobs.specs.declared.seat.Seat.{Seat}
use Rattle.satip_jobs.specs.Crewed.{RunDid}
use Rattle.satip_jobs.specs.Runs.{StopsOnce as CrewStops, HasNoStop as CrewStopsNever, PerJob, Run, Terms}
use Rattle.satip_jobs.specs.Works.{IsSameSeat}
use Rattle.satip_jobs.proofs.WholeRuns.{run_by}
use Rattle.satip_desk.specs.Views.{WorkerView, PumpView, TickView, JobsView}
use Rattle.satip_serve.specs.Deeds.{JobState, WorkerDid, PumpDid, TickerDid, job_state}
use Rattle.satip_serve.specs.Done.{Caller, IsFull, WorkerDone, PumpDone, TickerDone}
use Rattle.satip_desk.specs.Fresh.{FreshWorker, FreshPump, FreshJobs, ReadOnce}
use Rattle.satip_serve.specs.ServeRuns.{EndsFull, StopsOnce, HasNoStop, ServeRun}
use Rattle.satip_serve.specs.Services.{Serves, SeatDid, IsFirst}
use Rattle.satip_serve.specs.Servings.{end_of_run}
use Rattle.satip_serve.specs.Statuses.{serving_status}
use Rattle.satip_serve.proofs.Finishing.{worker_done, pump_done, ticker_done}

pub each_map : {S T : Type 0} (P : T → Type 0) (f : S → T) (xs : List S) → Each P (map f xs) → Each (λ x. P (f x)) xs
each_map P f [] each = tt
each_map P f (x ∷ xs) each = (each.0, each_map P f xs each.1)

pub map_twice : {S T U : Type 0} (f : S → T) (h : T → U) (xs : List S) → map h (map f xs) ≡ map (λ x. h (f x)) xs
map_twice f h [] = refl
map_twice {U = U} f h (x ∷ xs) = ap (λ (us : List U). h (f x) ∷ us) (map_twice f h xs)

stops_once : (full : Type 0) (h : List Item) (callers : List Caller) → CrewStops (λ (e : Item). e.event ≡ Stop) h callers ⊎ CrewStopsNever full h
    → StopsOnce h callers ⊎ HasNoStop full h
stops_once full h callers (inl once) = inl (record {
  before = once.before;
  stop = once.stop;
  after = once.after;
  are = once.are;
  event = once.is_stop;
  own = once.own;
  last = once.last;
})
stops_once full h callers (inr never) = inr (record { full_is = never.full_is; own = never.own })

-- the terms of a serve run
abbrev serve_terms : (conn_tells outlet_tells full : Type 0) (c : Setting) (accepts : ℕ) → Terms Event Answer WorkerView PumpView TickView
serve_terms conn_tells outlet_tells full c accepts = record {
  legal = λ d h. Legal d h;
  is_stop = λ (e : Item). e.event ≡ Stop;
  full = full;
  worked = λ number worker caller. WorkerDone conn_tells outlet_tells full accepts number worker caller;
  pumped = λ number pump caller. PumpDone outlet_tells full number pump caller;
  ticked = λ ticker caller. TickerDone outlet_tells full c.start ticker caller;
}

-- a run of these jobs is a serve run
serve_is_run : (conn_tells outlet_tells full : Type 0) (c : Setting) (accepts : ℕ) (pass : ServerPass) (jobs : PerJob WorkerView PumpView TickView)
    → Run c (serve_terms conn_tells outlet_tells full c accepts) pass jobs
    → ServeRun conn_tells outlet_tells full c accepts pass (record { workers = jobs.workers; pumps = jobs.pumps; ticker = jobs.ticker })
serve_is_run conn_tells outlet_tells full c accepts pass jobs run = record {
  of_workers = run.of_workers;
  of_pumps = run.of_pumps;
  of_ticker = run.of_ticker;
  callers = run.callers;
  worker_count = run.worker_count;
  pump_count = run.pump_count;
  entries = run.entries;
  lawful = run.lawful;
  worked = run.worked;
  pumped = run.pumped;
  ticked = run.ticked;
  stopped = stops_once full pass.seen run.of_workers run.stopped;
  covered = run.covered;
}

module _ {X G : Type 0} (known : X → Known) (may_want : X → Bool) (same : X → X → Type 0) (cell : X → Cell Setting) (pass : X → ServerPass) (gear : X → G)
    (legal : Setting → List Item → Type 0) (is_stop : Item → Type 0) (goes_on : X → X → Type 0)
    (serves : Serves known may_want same cell pass legal is_stop) where
  -- a job that was done is at its seat still
  pub seat_same : {K V M : Type 0} (view : K → V) (did : ℕ → JobState V → JobState V → ServeEnd → Type 0) (x y : Seat X K M) → SeatDid same known view did x y
      → IsSameSeat cell pass x y
  seat_same view did x y d =
      record { cell_is = serves.same_cell x.caller y.caller d.same_is; keeps = serves.keeps x.caller y.caller d.same_is; number = d.number }

  -- the job at a seat, as its pass knows it
  abbrev pub at : {K V M : Type 0} → (K → V) → Seat X K M → JobState V
  at view x = job_state (view x.kit) (known_by (pass x.caller))

  -- what it did
  pub deed_by : {K V M : Type 0} (view : K → V) (did : ℕ → JobState V → JobState V → ServeEnd → Type 0) (x y : Seat X K M) → SeatDid same known view did x y
      → did x.number (at view x) (at view y) y.end
  deed_by view did x y d =
      subst (λ (l : Known). did x.number (at view x) (job_state (view y.kit) l) y.end) (serves.known_is y.caller)
      (subst (λ (k : Known). did x.number (job_state (view x.kit) k) (job_state (view y.kit) (known y.caller)) y.end) (serves.known_is x.caller) d.deed)

module _ {X G W L P M T N : Type 0} (known : X → Known) (may_want : X → Bool) (same : X → X → Type 0) (cell : X → Cell Setting) (pass : X → ServerPass)
    (gear : X → G)
    (legal : Setting → List Item → Type 0) (is_stop : Item → Type 0) (goes_on : X → X → Type 0) (serves : Serves known may_want same cell pass legal is_stop)
    (conn_tells outlet_tells by_limit : Type 0) (worker_of : W → WorkerView) (pump_of : P → PumpView) (tick_of : T → TickView) (o : X) (before : Posts W P T G)
    (n : X) (after : Posts W P T G) (end : ServeEnd)
    (run : RunDid cell pass gear legal is_stop goes_on {L = L} {M = M} {N = N} (SeatDid same known worker_of (WorkerDid conn_tells outlet_tells by_limit))
    (SeatDid same known pump_of (PumpDid outlet_tells)) (SeatDid same known tick_of (λ _. TickerDid outlet_tells)) o before n after end) where
  pub workers_fresh : (accepts : ℕ) → Each (FreshWorker accepts) (map worker_of before.workers.items)
      → Each (λ s. FreshWorker accepts (worker_of s.kit)) run.first
  workers_fresh accepts fresh =
      each_map (λ (w : W). FreshWorker accepts (worker_of w)) (λ (s : Seat X W L). s.kit) run.first
      (subst (λ (ws : List W). Each (λ (w : W). FreshWorker accepts (worker_of w)) ws) (sym run.first_begun.kits_are)
      (each_map (FreshWorker accepts) worker_of before.workers.items fresh))

  pumps_fresh : Each FreshPump (map pump_of before.pumps.items) → Each (λ s. FreshPump (pump_of s.kit)) run.second
  pumps_fresh fresh =
      each_map (λ (w : P). FreshPump (pump_of w)) (λ (s : Seat X P M). s.kit) run.second
      (subst (λ (ws : List P). Each (λ (w : P). FreshPump (pump_of w)) ws) (sym run.second_begun.kits_are)
      (each_map FreshPump pump_of before.pumps.items fresh))

  ticker_fresh : ReadOnce (cell o).setting.start (tick_of before.ticker) → ReadOnce (cell o).setting.start (tick_of run.third.kit)
  ticker_fresh read = (subst (λ (ts : List T). Each (λ (t : T). ReadOnce (cell o).setting.start (tick_of t)) ts) (sym run.third_begun.kits_are) (read, tt)).0

  -- the workers' kits, as they are seen at last
  pub workers_seen : map (λ s. worker_of s.kit) run.front.ended ≡ map worker_of after.workers.items
  workers_seen = sym (map_twice (λ (s : Seat X W L). s.kit) worker_of run.front.ended) ∙ ap (λ (ws : List W). map worker_of ws) (sym run.front.kits_are)

  pumps_seen : map (λ s. pump_of s.kit) run.second_ended ≡ map pump_of after.pumps.items
  pumps_seen = sym (map_twice (λ (s : Seat X P M). s.kit) pump_of run.second_ended) ∙ ap (λ (ps : List P). map pump_of ps) (sym run.pumps_are)

  pub serve_run : (accepts : ℕ) → IsFirst (pass o) → Knows (legal (cell o).setting) (pass n)
      → FreshJobs (cell o).setting.start accepts
      (record { workers = map worker_of before.workers.items; pumps = map pump_of before.pumps.items; ticker = tick_of before.ticker })
      → length before.workers.items ≡ (cell o).setting.config.workers → length before.pumps.items ≡ length (cell o).setting.config.fronts
      → ServeRun conn_tells outlet_tells (EndsFull (serving_status (end_of_run end)) (pass n).seen) (cell o).setting accepts (pass n)
      (record { workers = map worker_of after.workers.items; pumps = map pump_of after.pumps.items; ticker = tick_of after.ticker })
  serve_run accepts first knows fresh worker_count pump_count =
      let c : Setting = (cell o).setting in
      let full : Type 0 = EndsFull (serving_status (end_of_run end)) (pass n).seen in
      let cut : end ≡ HistoryFull → IsFull (pass n).seen → full = λ is whole. (ap (λ (e : ServeEnd). serving_status (end_of_run e)) is, whole) in
      let worked : Seat X W L → Seat X W L → Type 0 = SeatDid same known worker_of (WorkerDid conn_tells outlet_tells by_limit) in
      let pumped : Seat X P M → Seat X P M → Type 0 = SeatDid same known pump_of (PumpDid outlet_tells) in
      let ticked : Seat X T N → Seat X T N → Type 0 = SeatDid same known tick_of (λ _. TickerDid outlet_tells) in
      let whole : Run c (serve_terms conn_tells outlet_tells full c accepts) (pass n)
      (record {
        workers = map (λ (s : Seat X W L). worker_of s.kit) run.front.ended;
        pumps = map (λ (s : Seat X P M). pump_of s.kit) run.second_ended;
        ticker = tick_of run.third_ended.kit;
      }) =
      run_by cell pass gear legal is_stop goes_on worked pumped ticked o before n after end run
      (λ (s : Seat X W L). worker_of s.kit) (λ (s : Seat X P M). pump_of s.kit) (λ (s : Seat X T N). tick_of s.kit)
      (λ (s : Seat X W L). FreshWorker accepts (worker_of s.kit)) (λ (s : Seat X P M). FreshPump (pump_of s.kit))
      (λ (s : Seat X T N). ReadOnce c.start (tick_of s.kit))
      (serve_terms conn_tells outlet_tells full c accepts) serves.lawful serves.stops cut
      (λ (x y : Seat X W L) did kit none filled ends. worker_done conn_tells outlet_tells by_limit full accepts x.number (pass y.caller).number
      (at known may_want same cell pass gear legal is_stop goes_on serves worker_of x) (at known may_want same cell pass gear legal is_stop goes_on serves worker_of y)
      y.end
      (deed_by known may_want same cell pass gear legal is_stop goes_on serves worker_of (WorkerDid conn_tells outlet_tells by_limit) x y did) kit none
      (λ is length. cut (ends is) (filled length)))
      (λ (x y : Seat X P M) did kit none filled ends. pump_done outlet_tells full x.number (pass y.caller).number
      (at known may_want same cell pass gear legal is_stop goes_on serves pump_of x) (at known may_want same cell pass gear legal is_stop goes_on serves pump_of y)
      y.end
      (deed_by known may_want same cell pass gear legal is_stop goes_on serves pump_of (PumpDid outlet_tells) x y did) kit none
      (λ is length. cut (ends is) (filled length)))
      (λ (x y : Seat X T N) did kit none filled ends. ticker_done outlet_tells full c.start (pass y.caller).number
      (at known may_want same cell pass gear legal is_stop goes_on serves tick_of x) (at known may_want same cell pass gear legal is_stop goes_on serves tick_of y)
      y.end
      (deed_by known may_want same cell pass gear legal is_stop goes_on serves tick_of (λ _. TickerDid outlet_tells) x y did) kit none
      (λ is length. cut (ends is) (filled length)))
      (seat_same known may_want same cell pass gear legal is_stop goes_on serves worker_of (WorkerDid conn_tells outlet_tells by_limit))
      (seat_same known may_want same cell pass gear legal is_stop goes_on serves pump_of (PumpDid outlet_tells))
      (seat_same known may_want same cell pass gear legal is_stop goes_on serves tick_of (λ _. TickerDid outlet_tells))
      first.number first.own first.kept first.made knows (workers_fresh accepts fresh.workers_are) (pumps_fresh fresh.pumps_are) (ticker_fresh fresh.ticker_is)
      worker_count pump_count in
      let R : JobsView → Type 0 = λ jobs. ServeRun conn_tells outlet_tells full c accepts (pass n) jobs in
      let ended : R (record {
        workers = map (λ (s : Seat X W L). worker_of s.kit) run.front.ended;
        pumps = map (λ (s : Seat X P M). pump_of s.kit) run.second_ended;
        ticker = tick_of run.third_ended.kit;
      }) = serve_is_run conn_tells outlet_tells full c accepts (pass n) _ whole in
      subst (λ (t : T). R (record { workers = map worker_of after.workers.items; pumps = map pump_of after.pumps.items; ticker = tick_of t })) (sym run.ticker_is)
      (subst (λ (ps : List PumpView). R (record { workers = map worker_of after.workers.items; pumps = ps; ticker = tick_of run.third_ended.kit })) pumps_seen
      (subst (λ (ws : List WorkerView). R (record {
        workers = ws;
        pumps = map (λ (s : Seat X P M). pump_of s.kit) run.second_ended;
        ticker = tick_of run.third_ended.kit;
      })) workers_seen ended))
