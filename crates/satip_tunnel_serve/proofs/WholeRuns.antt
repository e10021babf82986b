-- What all jobs of a tunnel did is a run of it.
use Rattle.std.proofs.Common.{◌≡◌, ◌≢◌, ℕ, true, List, [], ◌∷◌, map, sym, ap, ◌∙◌, subst, length}
use Rattle.satip_base.specs.Lists.{Each}
use Rattle.satip_base.proofs.Elements.{each_follows}
use Rattle.satip_plain.specs.declared.setting.Setting.{Setting}
use Rattle.satip_turn.specs.Shown.{Cell, Knows}
use Rattle.satip_world.specs.Halls.{IsAtLimit}
use Rattle.satip_world.specs.Outboxes.{Outbox}
use Rattle.satip_interleave.specs.Histories.{TunnelItem, TunnelLegal}
use Rattle.satip_interleave.specs.Calling.{ShownPass}
use Rattle.satip_tunnel.specs.Seats.{seated, Seat as CallerSeat}
use Rattle.satip_jobs.specs.declared.end.ServeEnd.{ServeEnd}
use Rattle.satip_jobs.specs.declared.end.ServeEnd.TheVariants.{HistoryFull}
use Rattle.satip_jobs.specs.declared.posts.Posts.{Posts}
use Rattle.satip_jobs.specs.declared.seat.Seat.{Seat}
use Rattle.satip_jobs.specs.Crewed.{RunDid}
use Rattle.satip_jobs.specs.Passes.{IsFull}
use Rattle.satip_jobs.specs.Runs.{HasOne, MatchEnd}
use Rattle.satip_jobs.proofs.Ended.{end_over}
use Rattle.satip_jobs.proofs.Following.{pumps_keep, workers_keep}
use Rattle.satip_jobs.proofs.WholeRuns.{run_by}
use Rattle.satip_desk.specs.Fresh.{FreshWorker, FreshPump, FreshJobs, ReadOnce}
use Rattle.satip_serve.specs.Ran.{AreAtLimit}
use Rattle.satip_serve.specs.Services.{IsFirst}
use Rattle.satip_serve.specs.Servings.{end_of_run}
use Rattle.satip_serve.specs.Statuses.{serving_status}
use Rattle.satip_desk.specs.Views.{WorkerView, PumpView, TickView}
use Rattle.satip_serve.proofs.WholeRuns.{each_map, map_twice}
use Rattle.satip_tunnel_serve.specs.Deeds.{DoorsTell, SeatDid, worker_deed, pump_deed, ticker_deed}
use Rattle.satip_tunnel_serve.specs.Outlets.{Outboxes, OutletsStay}
use Rattle.satip_tunnel_serve.specs.TunnelRuns.{IsTunnelStop, TunnelEndTells, TunnelEndsFull, TunnelServeRun, tunnel_terms}
use Rattle.satip_tunnel_serve.proofs.Ended.{one_worker_tells, one_worker_limit, one_pump_tells, one_ticker_tells}
use Rattle.satip_tunnel_serve.proofs.Finishing.{worker_done, tunnel_pump_done, tunnel_ticker_done}

-- the outlets of kits, in three parts
abbrev shown : List Outbox → List Outbox → Outbox → Outboxes
shown ws ps t = record { workers = ws; pumps = ps; ticker = t }

pub same_outboxes : (ws vs ps qs : List Outbox) (t u : Outbox) → ws ≡ vs → ps ≡ qs → t ≡ u → shown ws ps t ≡ shown vs qs u
same_outboxes ws vs ps qs t u are_workers are_pumps is_ticker =
    ap (λ (x : List Outbox). shown x ps t) are_workers ∙ ap (λ (y : List Outbox). shown vs y t) are_pumps ∙ ap (λ (z : Outbox). shown vs qs z) is_ticker

any_of : {S : Type 0} (xs : List S) → Each (λ x. Unit {0}) xs
any_of [] = tt
any_of (x ∷ xs) = (tt, any_of xs)

module _ {X G W L P M T N : Type 0} (cell : X → Cell Setting) (pass : X → ShownPass) (gear : X → G)
    (legal : Setting → List TunnelItem → Type 0) (is_stop : TunnelItem → Type 0) (goes_on : X → X → Type 0)
    (tells : DoorsTell) (worker_of : W → WorkerView) (pump_of : P → PumpView) (tick_of : T → TickView) (o : X) (before : Posts W P T G) (n : X)
    (after : Posts W P T G) (end : ServeEnd)
    (run : RunDid cell pass gear legal is_stop goes_on {L = L} {M = M} {N = N} (SeatDid cell pass (worker_deed tells worker_of))
    (SeatDid cell pass (pump_deed pump_of)) (SeatDid cell pass (ticker_deed tick_of)) o before n after end) where
  -- the caller at a seat
  abbrev at : {K S : Type 0} → Seat X K S → CallerSeat
  at s = seated (cell s.caller) (pass s.caller)

  workers_fresh : (accepts : ℕ) → Each (FreshWorker accepts) (map worker_of before.workers.items) → Each (λ s. FreshWorker accepts (worker_of s.kit)) run.first
  workers_fresh accepts fresh =
      each_map (λ (w : W). FreshWorker accepts (worker_of w)) (λ (s : Seat X W L). s.kit) run.first
      (subst (λ (ws : List W). Each (λ (w : W). FreshWorker accepts (worker_of w)) ws) (sym run.first_begun.kits_are)
      (each_map (FreshWorker accepts) worker_of before.workers.items fresh))

  pumps_fresh : Each FreshPump (map pump_of before.pumps.items) → Each (λ s. FreshPump (pump_of s.kit)) run.second
  pumps_fresh fresh =
      each_map (λ (w : P). FreshPump (pump_of w)) (λ (s : Seat X P M). s.kit) run.second
      (subst (λ (ws : List P). Each (λ (w : P). FreshPump (pump_of w)) ws) (sym run.second_begun.kits_are)
      (each_map FreshPump pump_of before.pumps.items fresh))

  ticker_fresh : ReadOnce (cell o).setting.start (tick_of before.ticker) → ReadOnce (cell o).setting.start (tick_of run.third.kit)
  ticker_fresh read = (subst (λ (ts : List T). Each (λ (t : T). ReadOnce (cell o).setting.start (tick_of t)) ts) (sym run.third_begun.kits_are) (read, tt)).0

  -- the kits, as they are seen at last
  workers_seen : map (λ s. worker_of s.kit) run.front.ended ≡ map worker_of after.workers.items
  workers_seen = sym (map_twice (λ (s : Seat X W L). s.kit) worker_of run.front.ended) ∙ ap (λ (ws : List W). map worker_of ws) (sym run.front.kits_are)

  pumps_seen : map (λ s. pump_of s.kit) run.second_ended ≡ map pump_of after.pumps.items
  pumps_seen = sym (map_twice (λ (s : Seat X P M). s.kit) pump_of run.second_ended) ∙ ap (λ (ps : List P). map pump_of ps) (sym run.pumps_are)

  -- the outlets show the same
  pub outlets_stay : OutletsStay (record { workers = map worker_of before.workers.items; pumps = map pump_of before.pumps.items; ticker = tick_of before.ticker })
      (record { workers = map worker_of after.workers.items; pumps = map pump_of after.pumps.items; ticker = tick_of after.ticker })
  outlets_stay =
      let worker_outbox : WorkerView → Outbox = λ w. w.outbox in
      let pump_outbox : PumpView → Outbox = λ p. p.outbox in
      let kit : run.third.kit ≡ before.ticker = cc run.third_begun.kits_are in
      same_outboxes _ _ _ _ _ _
      (map_twice worker_of worker_outbox after.workers.items
      ∙ workers_keep cell pass gear legal is_stop goes_on _ _ _ o before n after end run (λ (w : W). (worker_of w).outbox) (λ x y did. did.deed.outbox)
      ∙ sym (map_twice worker_of worker_outbox before.workers.items))
      (map_twice pump_of pump_outbox after.pumps.items
      ∙ pumps_keep cell pass gear legal is_stop goes_on _ _ _ o before n after end run (λ (p : P). (pump_of p).outbox) (λ x y did. did.deed.outbox)
      ∙ sym (map_twice pump_of pump_outbox before.pumps.items))
      (ap (λ (t : T). (tick_of t).outbox) run.ticker_is ∙ run.third_done.deed.outbox ∙ ap (λ (t : T). (tick_of t).outbox) kit)

  pub tunnel_run : ((t : TunnelItem) → is_stop t → IsTunnelStop t) → ((c : Setting) (h : List TunnelItem) → legal c h → TunnelLegal c h) → (accepts : ℕ)
      → IsFirst (pass o) → Knows (legal (cell o).setting) (pass n)
      → FreshJobs (cell o).setting.start accepts
      (record { workers = map worker_of before.workers.items; pumps = map pump_of before.pumps.items; ticker = tick_of before.ticker })
      → length before.workers.items ≡ (cell o).setting.config.workers → length before.pumps.items ≡ length (cell o).setting.config.fronts
      → TunnelServeRun tells.conn (TunnelEndsFull (serving_status (end_of_run end)) (pass n).seen) (cell o).setting accepts (pass n)
      (record { workers = map worker_of after.workers.items; pumps = map pump_of after.pumps.items; ticker = tick_of after.ticker })
  tunnel_run stops lawful accepts first knows fresh worker_count pump_count =
      let c : Setting = (cell o).setting in
      let full : Type 0 = IsFull (pass n).seen in
      let cut : Type 0 = TunnelEndsFull (serving_status (end_of_run end)) (pass n).seen in
      let cuts : end ≡ HistoryFull → full → cut = λ is whole. (ap (λ (e : ServeEnd). serving_status (end_of_run e)) is, whole) in
      let worked = worker_deed tells worker_of in
      let pumped = pump_deed pump_of in
      let ticked = ticker_deed tick_of in
      let R : List WorkerView → List PumpView → TickView → Type 0 = λ ws ps t.
      TunnelServeRun tells.conn cut c accepts (pass n) (record { workers = ws; pumps = ps; ticker = t }) in
      let whole : R (map (λ (s : Seat X W L). worker_of s.kit) run.front.ended) (map (λ (s : Seat X P M). pump_of s.kit) run.second_ended)
      (tick_of run.third_ended.kit) =
      run_by cell pass gear legal is_stop goes_on (SeatDid cell pass worked) (SeatDid cell pass pumped) (SeatDid cell pass ticked) o before n after end run
      (λ (s : Seat X W L). worker_of s.kit) (λ (s : Seat X P M). pump_of s.kit) (λ (s : Seat X T N). tick_of s.kit)
      (λ (s : Seat X W L). FreshWorker accepts (worker_of s.kit)) (λ (s : Seat X P M). FreshPump (pump_of s.kit))
      (λ (s : Seat X T N). ReadOnce c.start (tick_of s.kit))
      (tunnel_terms tells.conn full cut c accepts) lawful stops cuts
      (λ (x y : Seat X W L) did kit none filled ends. worker_done tells full cut accepts x.number (pass y.caller).number kit.told
      (worker_of x.kit) (worker_of y.kit)
      (at x) (at y) y.end did.deed kit.hall none filled (λ is length. cuts (ends is) (filled length)))
      (λ (x y : Seat X P M) did kit none filled ends. tunnel_pump_done cut x.number (pass y.caller).number (pump_of x.kit) (pump_of y.kit) (at x) (at y) y.end
      did.deed kit none (λ is length. cuts (ends is) (filled length)))
      (λ (x y : Seat X T N) did kit none filled ends. tunnel_ticker_done cut c.start (pass y.caller).number (tick_of x.kit) (tick_of y.kit)
      (at x) (at y) y.end
      did.deed kit none (λ is length. cuts (ends is) (filled length)))
      (λ (x y : Seat X W L) did. did.still) (λ (x y : Seat X P M) did. did.still) (λ (x y : Seat X T N) did. did.still)
      first.number first.own first.kept first.made knows (workers_fresh accepts fresh.workers_are) (pumps_fresh fresh.pumps_are) (ticker_fresh fresh.ticker_is)
      worker_count pump_count in
      subst (λ (t : T). R (map worker_of after.workers.items) (map pump_of after.pumps.items) (tick_of t)) (sym run.ticker_is)
      (subst (λ (ps : List PumpView). R (map worker_of after.workers.items) ps (tick_of run.third_ended.kit)) pumps_seen
      (subst (λ (ws : List WorkerView). R ws (map (λ (s : Seat X P M). pump_of s.kit) run.second_ended) (tick_of run.third_ended.kit)) workers_seen whole))

  -- a fact of each worker, or of one, by the end of all
  by_end : (good bad : WorkerView → Type 0) (fresh : Seat X W L → Type 0)
      → ((x y : Seat X W L) → SeatDid cell pass (worker_deed tells worker_of) x y → fresh x
      → (length (pass y.caller).seen ≡ 18446744073709551615 → IsFull (pass n).seen)
      → MatchEnd y.end (good (worker_of y.kit)) (bad (worker_of y.kit)) (IsFull (pass n).seen))
      → Knows (legal (cell o).setting) (pass n) → Each fresh run.first
      → MatchEnd end (Each good (map worker_of after.workers.items)) (HasOne bad (map worker_of after.workers.items)) (IsFull (pass n).seen)
  by_end good bad fresh says knows are =
      let full : Type 0 = IsFull (pass n).seen in
      let whole : MatchEnd end (Each good (map (λ (s : Seat X W L). worker_of s.kit) run.front.ended))
      (HasOne bad (map (λ (s : Seat X W L). worker_of s.kit) run.front.ended)) full =
      end_over cell pass gear legal is_stop goes_on (SeatDid cell pass (worker_deed tells worker_of)) (SeatDid cell pass (pump_deed pump_of))
      (SeatDid cell pass (ticker_deed tick_of)) o before n after end run
      (λ (s : Seat X W L). worker_of s.kit) good bad fresh says
      (λ (x y : Seat X P M) did filled. one_pump_tells full x.number (pump_of x.kit) (pump_of y.kit) (at x) (at y) y.end did.deed filled)
      (λ (x y : Seat X T N) did filled. one_ticker_tells full (tick_of x.kit) (tick_of y.kit) (at x) (at y) y.end did.deed filled)
      knows are in
      subst (λ (ws : List WorkerView). MatchEnd end (Each good ws) (HasOne bad ws) full) workers_seen whole

  pub end_tells : (accepts : ℕ) → Knows (legal (cell o).setting) (pass n) → Each (FreshWorker accepts) (map worker_of before.workers.items)
      → TunnelEndTells end (pass n).seen (map worker_of after.workers.items)
  end_tells accepts knows fresh =
      by_end (λ w. w.hall.ended ≡ true) (λ w. w.hall.faults ≢ 0) (λ s. FreshWorker accepts (worker_of s.kit))
      (λ (x y : Seat X W L) did kit filled. one_worker_tells tells (IsFull (pass n).seen) accepts x.number (worker_of x.kit) (worker_of y.kit) (at x) (at y) y.end
      did.deed kit filled)
      knows (workers_fresh accepts fresh)

  pub at_limits : Knows (legal (cell o).setting) (pass n) → AreAtLimit tells.by_limit end (map worker_of after.workers.items)
  at_limits knows served limited =
      let workers : List WorkerView = map worker_of after.workers.items in
      let good : WorkerView → Type 0 = λ w. tells.by_limit → IsAtLimit w.hall in
      let all : Each good workers =
      subst (λ (e : ServeEnd). MatchEnd e (Each good workers) (HasOne (λ (w : WorkerView). Unit {0}) workers) (IsFull (pass n).seen)) served
      (by_end good (λ w. Unit {0}) (λ s. Unit {0})
      (λ (x y : Seat X W L) did kit filled. one_worker_limit tells (IsFull (pass n).seen) x.number (worker_of x.kit) (worker_of y.kit) (at x) (at y) y.end
      did.deed filled)
      knows (any_of run.first)) in
      each_follows good (λ (w : WorkerView). IsAtLimit w.hall) (λ (w : WorkerView) limit. limit limited) workers all
