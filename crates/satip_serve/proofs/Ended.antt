-- Why serving ended so.
use Rattle.std.proofs.Common.{◌≡◌, ◌≢◌, ℕ, inl, inr, Bool, true, false, List, [], ◌∷◌, map, length, refl, sym, subst}
use Rattle.std.proofs.lemmas.Bool.{false≢true}
use Rattle.satip_base.specs.Lists.{Each}
use Rattle.satip_base.proofs.Elements.{each_follows}
use Rattle.satip_plain.specs.declared.setting.Setting.{Setting}
use Rattle.satip_plain.specs.Histories.{Item}
use Rattle.satip_plain.specs.Known.{Known}
use Rattle.satip_turn.specs.Shown.{Cell, Knows}
use Rattle.satip_world.specs.Halls.{Hall, IsAtLimit, Return, fresh_hall}
use Rattle.satip_pump.specs.declared.ends.JobEnd.{JobEnd}
use Rattle.satip_pump.specs.declared.ends.JobEnd.TheVariants.{Stopped, Spent as JobSpent, Want as JobWant}
use Rattle.satip_worker.specs.declared.worker.WorkerEnd.{WorkerEnd}
use Rattle.satip_worker.specs.declared.worker.WorkerEnd.TheVariants.{Closed, DoorsFault as WorkerDoorsFault, Spent, Want}
use Rattle.satip_worker.specs.WorkerRun.{WorkerEnds}
use Rattle.satip_shared.specs.Calling.{ServerPass}
use Rattle.satip_jobs.specs.declared.end.ServeEnd.{ServeEnd}
use Rattle.satip_jobs.specs.declared.posts.Posts.{Posts}
use Rattle.satip_jobs.specs.declared.seat.Seat.{Seat}
use Rattle.satip_jobs.specs.Crewed.{RunDid}
use Rattle.satip_jobs.specs.Runs.{HasOne, MatchEnd}
use Rattle.satip_jobs.proofs.Ended.{end_follows, end_over}
use Rattle.satip_serve.specs.Ends.{end_of_worker, end_of_job}
use Rattle.satip_desk.specs.Views.{WorkerView, PumpView, TickView}
use Rattle.satip_serve.specs.Deeds.{JobState, WorkerDid, PumpDid, TickerDid}
use Rattle.satip_serve.specs.Done.{IsFull}
use Rattle.satip_desk.specs.Fresh.{FreshWorker}
use Rattle.satip_serve.specs.Ran.{AreAtLimit}
use Rattle.satip_serve.specs.ServeRuns.{HasFault, EndTells}
use Rattle.satip_serve.specs.Services.{Serves, SeatDid}
use Rattle.satip_serve.proofs.Finishing.{not_zero}
use Rattle.satip_serve.proofs.WholeRuns.{at, deed_by, workers_fresh, workers_seen}

worker_tells : (full : Type 0) (ended : WorkerEnd) (accepts : ℕ) (told : Bool) (hall : Hall) (l : Known) (returns : List Return)
    → WorkerEnds ended (fresh_hall accepts told) hall false l returns → (l.length ≡ 18446744073709551615 → full)
    → MatchEnd (end_of_worker ended) (hall.ended ≡ true) (hall.faults ≢ 0) full
worker_tells full Closed accepts told hall l returns ends fills = ends.ended
worker_tells full WorkerDoorsFault accepts told hall l returns ends fills = not_zero hall.faults ends.faults
worker_tells full Spent accepts told hall l returns ends fills = fills ends.full
worker_tells full Want accepts told hall l returns ends fills = absurd (false≢true ends.may)

job_tells : (full : Type 0) (ended : JobEnd) → (ended ≡ JobSpent → full) → (ended ≡ JobWant → ⊥) → MatchEnd (end_of_job ended) (Unit {0}) ⊥ full
job_tells full Stopped spent want = tt
job_tells full JobSpent spent want = spent (λ i. JobSpent)
job_tells full JobWant spent want = absurd (want (λ i. JobWant))

-- of a worker with fresh doors
one_worker_tells : (conn_tells outlet_tells by_limit full : Type 0) (accepts number : ℕ) (o n : JobState WorkerView) (end : ServeEnd)
    → WorkerDid conn_tells outlet_tells by_limit number o n end
    → FreshWorker accepts o.kit → (n.known.length ≡ 18446744073709551615 → full)
    → MatchEnd end (n.kit.hall.ended ≡ true) (n.kit.hall.faults ≢ 0) full
one_worker_tells conn_tells outlet_tells by_limit full accepts number o n end did fresh filled =
    let hall = n.kit.hall in
    let ends : WorkerEnds did.ended (fresh_hall accepts fresh.told) hall false n.known did.serves.returns =
    subst (λ (h : Hall). WorkerEnds did.ended h hall false n.known did.serves.returns) fresh.hall did.serves.ends in
    subst (λ (e : ServeEnd). MatchEnd e (hall.ended ≡ true) (hall.faults ≢ 0) full) (sym did.end_is)
    (worker_tells full did.ended accepts fresh.told hall n.known did.serves.returns ends filled)

-- the doors of a worker that was served are at their limit, if they end by it alone
worker_limit : (by_limit full : Type 0) (ended : WorkerEnd) (o n : Hall) (l : Known) (returns : List Return) → WorkerEnds ended o n false l returns
    → (ended ≡ Closed → by_limit → IsAtLimit n) → (l.length ≡ 18446744073709551615 → full)
    → MatchEnd (end_of_worker ended) (by_limit → IsAtLimit n) (Unit {0}) full
worker_limit by_limit full Closed o n l returns ends limit fills = limit refl
worker_limit by_limit full WorkerDoorsFault o n l returns ends limit fills = tt
worker_limit by_limit full Spent o n l returns ends limit fills = fills ends.full
worker_limit by_limit full Want o n l returns ends limit fills = absurd (false≢true ends.may)

one_worker_limit : (conn_tells outlet_tells by_limit full : Type 0) (number : ℕ) (o n : JobState WorkerView) (end : ServeEnd)
    → WorkerDid conn_tells outlet_tells by_limit number o n end → (n.known.length ≡ 18446744073709551615 → full)
    → MatchEnd end (by_limit → IsAtLimit n.kit.hall) (Unit {0}) full
one_worker_limit conn_tells outlet_tells by_limit full number o n end did filled =
    subst (λ (e : ServeEnd). MatchEnd e (by_limit → IsAtLimit n.kit.hall) (Unit {0}) full) (sym did.end_is)
    (worker_limit by_limit full did.ended o.kit.hall n.kit.hall n.known did.serves.returns did.serves.ends did.at_limit filled)

-- of a pump, and of the ticker
one_pump_tells : (outlet_tells full : Type 0) (number : ℕ) (o n : JobState PumpView) (end : ServeEnd) → PumpDid outlet_tells number o n end
    → (n.known.length ≡ 18446744073709551615 → full) → MatchEnd end (Unit {0}) ⊥ full
one_pump_tells outlet_tells full number o n end did filled =
    subst (λ (e : ServeEnd). MatchEnd e (Unit {0}) ⊥ full) (sym did.end_is) (job_tells full did.ended (λ is. filled (did.spent is)) did.memory)

one_ticker_tells : (outlet_tells full : Type 0) (o n : JobState TickView) (end : ServeEnd) → TickerDid outlet_tells o n end
    → (n.known.length ≡ 18446744073709551615 → full) → MatchEnd end (Unit {0}) ⊥ full
one_ticker_tells outlet_tells full o n end did filled =
    subst (λ (e : ServeEnd). MatchEnd e (Unit {0}) ⊥ full) (sym did.end_is) (job_tells full did.ended (λ is. filled (did.spent is)) did.memory)

-- the doors of one failed
one_failed : (workers : List WorkerView) → HasOne (λ w. w.hall.faults ≢ 0) workers → HasFault workers
one_failed [] has = has
one_failed (w ∷ ws) (inl here) = inl here
one_failed (w ∷ ws) (inr later) = inr (one_failed ws later)

any_of : {S : Type 0} (xs : List S) → Each (λ x. Unit {0}) xs
any_of [] = tt
any_of (x ∷ xs) = (tt, any_of xs)

module _ {X G W L P M T N : Type 0} (known : X → Known) (may_want : X → Bool) (same : X → X → Type 0) (cell : X → Cell Setting) (pass : X → ServerPass)
    (gear : X → G)
    (legal : Setting → List Item → Type 0) (is_stop : Item → Type 0) (goes_on : X → X → Type 0) (serves : Serves known may_want same cell pass legal is_stop)
    (conn_tells outlet_tells by_limit : Type 0) (worker_of : W → WorkerView) (pump_of : P → PumpView) (tick_of : T → TickView) (o : X) (before : Posts W P T G)
    (n : X) (after : Posts W P T G) (end : ServeEnd)
    (run : RunDid cell pass gear legal is_stop goes_on {L = L} {M = M} {N = N} (SeatDid same known worker_of (WorkerDid conn_tells outlet_tells by_limit))
    (SeatDid same known pump_of (PumpDid outlet_tells)) (SeatDid same known tick_of (λ _. TickerDid outlet_tells)) o before n after end) where
  abbrev full : Type 0
  full = IsFull (pass n).seen

  abbrev at_worker : Seat X W L → JobState WorkerView
  at_worker s = at known may_want same cell pass gear legal is_stop goes_on serves worker_of s

  abbrev at_pump : Seat X P M → JobState PumpView
  at_pump s = at known may_want same cell pass gear legal is_stop goes_on serves pump_of s

  abbrev at_ticker : Seat X T N → JobState TickView
  at_ticker s = at known may_want same cell pass gear legal is_stop goes_on serves tick_of s

  -- a fact of each worker, or of one, by the end of all
  by_end : (good bad : WorkerView → Type 0) (fresh : Seat X W L → Type 0)
      → ((x y : Seat X W L) → SeatDid same known worker_of (WorkerDid conn_tells outlet_tells by_limit) x y → fresh x
      → (length (pass y.caller).seen ≡ 18446744073709551615 → full) → MatchEnd y.end (good (worker_of y.kit)) (bad (worker_of y.kit)) full)
      → Knows (legal (cell o).setting) (pass n) → Each fresh run.first
      → MatchEnd end (Each good (map worker_of after.workers.items)) (HasOne bad (map worker_of after.workers.items)) full
  by_end good bad fresh tells knows are =
      let whole : MatchEnd end (Each good (map (λ (s : Seat X W L). worker_of s.kit) run.front.ended))
      (HasOne bad (map (λ (s : Seat X W L). worker_of s.kit) run.front.ended)) full =
      end_over cell pass gear legal is_stop goes_on (SeatDid same known worker_of (WorkerDid conn_tells outlet_tells by_limit))
      (SeatDid same known pump_of (PumpDid outlet_tells)) (SeatDid same known tick_of (λ _. TickerDid outlet_tells)) o before n after end run
      (λ (s : Seat X W L). worker_of s.kit) good bad fresh tells
      (λ (x y : Seat X P M) did filled. one_pump_tells outlet_tells full x.number (at_pump x) (at_pump y) y.end
      (deed_by known may_want same cell pass gear legal is_stop goes_on serves pump_of (PumpDid outlet_tells) x y did) filled)
      (λ (x y : Seat X T N) did filled. one_ticker_tells outlet_tells full (at_ticker x) (at_ticker y) y.end
      (deed_by known may_want same cell pass gear legal is_stop goes_on serves tick_of (λ _. TickerDid outlet_tells) x y did) filled)
      knows are in
      subst (λ (ws : List WorkerView). MatchEnd end (Each good ws) (HasOne bad ws) full)
      (workers_seen known may_want same cell pass gear legal is_stop goes_on serves conn_tells outlet_tells by_limit worker_of pump_of tick_of o before n after end run) whole

  pub end_tells : (accepts : ℕ) → Knows (legal (cell o).setting) (pass n) → Each (FreshWorker accepts) (map worker_of before.workers.items)
      → EndTells end (pass n).seen (map worker_of after.workers.items)
  end_tells accepts knows fresh =
      let workers : List WorkerView = map worker_of after.workers.items in
      end_follows end (Each (λ (w : WorkerView). w.hall.ended ≡ true) workers) (Each (λ (w : WorkerView). w.hall.ended ≡ true) workers)
      (HasOne (λ (w : WorkerView). w.hall.faults ≢ 0) workers) (HasFault workers) full (λ all. all) (one_failed workers)
      (by_end (λ w. w.hall.ended ≡ true) (λ w. w.hall.faults ≢ 0) (λ s. FreshWorker accepts (worker_of s.kit))
      (λ (x y : Seat X W L) did kit filled. one_worker_tells conn_tells outlet_tells by_limit full accepts x.number (at_worker x) (at_worker y) y.end
      (deed_by known may_want same cell pass gear legal is_stop goes_on serves worker_of (WorkerDid conn_tells outlet_tells by_limit) x y did) kit filled)
      knows
      (workers_fresh known may_want same cell pass gear legal is_stop goes_on serves conn_tells outlet_tells by_limit worker_of pump_of tick_of o before n after end run accepts
      fresh))

  pub at_limits : Knows (legal (cell o).setting) (pass n) → AreAtLimit by_limit end (map worker_of after.workers.items)
  at_limits knows served limited =
      let workers : List WorkerView = map worker_of after.workers.items in
      let good : WorkerView → Type 0 = λ w. by_limit → IsAtLimit w.hall in
      let all : Each good workers =
      subst (λ (e : ServeEnd). MatchEnd e (Each good workers) (HasOne (λ (w : WorkerView). Unit {0}) workers) full) served
      (by_end good (λ w. Unit {0}) (λ s. Unit {0})
      (λ (x y : Seat X W L) did kit filled. one_worker_limit conn_tells outlet_tells by_limit full x.number (at_worker x) (at_worker y) y.end
      (deed_by known may_want same cell pass gear legal is_stop goes_on serves worker_of (WorkerDid conn_tells outlet_tells by_limit) x y did) filled)
      knows (any_of run.first)) in
      each_follows good (λ (w : WorkerView). IsAtLimit w.hall) (λ (w : WorkerView) limit. limit limited) workers all
