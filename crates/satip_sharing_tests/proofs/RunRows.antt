-- The small run is a serve run, and why the others aren't.
use Rattle.std.proofs.Common.{◌≡◌, ◌≢◌, ◌⊎◌, ◌++◌, ℕ, List, [], ◌∷◌, false, true, refl, inl, inr, arith}
use Rattle.satip_plain.specs.declared.answers.Answer.TheVariants.{Beat as BeatIs}
use Rattle.satip_plain.specs.declared.answers.Beat.TheVariants.{Going, Stopping}
use Rattle.satip_plain.specs.Histories.{Legal}
use Rattle.satip_world.specs.Outboxes.{fresh_outbox}
use Rattle.satip_world.proofs.DeliveryLemmas.{delivers_none}
use Rattle.satip_serve.specs.Done.{Caller, IsFull, WorkerDone, TickerDone}
use Rattle.satip_sharing_tests.specs.Examples.{SmallRun, caller_of, idle_worker, small_history, small_setting, small_ticker, stop_by, tick_by, ticker_at, worker_with}
use Rattle.satip_serve.specs.ServeRuns.{Along}
use Rattle.satip_desk.specs.Views.{WorkerView}
use Rattle.satip_sharing_tests.proofs.StopRows.{two_are_not_one}

small_legal : Legal small_setting small_history
small_legal = record {
  servable = record { numbered = refl; few = omega arith; muxes = omega arith };
  setting = record {
    start = omega arith;
    address = omega arith;
    rtsp_port = omega arith;
    http_port = omega arith;
    timeout = omega arith;
    workers = omega arith;
    fronts = tt;
    muxes = tt;
    files = tt;
  };
  events = (omega arith, (tt, (omega arith, tt)));
  entries = (
    record { answer = refl; reply = refl; datagrams = refl },
    (record { answer = refl; reply = refl; datagrams = refl }, (record { answer = refl; reply = refl; datagrams = refl }, tt)),
  );
}

small_worker : WorkerDone (Unit {0}) (Unit {0}) (IsFull small_history) 1 1 (worker_with true 1 0) (caller_of 1 [])
small_worker = record {
  limit = refl;
  ended = inl refl;
  connections = [];
  draws = 0;
  came = λ _. refl;
  handed_back = λ _. refl;
  served = (refl, refl);
  in_time = tt;
  sent = delivers_none (Unit {0}) fresh_outbox;
}

small_ticks : TickerDone (Unit {0}) (IsFull small_history) 1000 (ticker_at (1000 ∷ 1020 ∷ 1040 ∷ [])) small_ticker
small_ticks = record {
  moments = 1020 ∷ 1040 ∷ [];
  unmade = [];
  events = refl;
  readings = λ _. refl;
  ends = inl (
    record { before = tick_by 2 1020 Going ∷ []; last = tick_by 2 1040 Stopping; are = refl; going = (refl, tt); stopping = refl },
    refl,
  );
  sent = delivers_none (Unit {0}) fresh_outbox;
}

pub small_run : SmallRun 1 small_history (caller_of 1 [] ∷ small_ticker ∷ []) (worker_with true 1 0 ∷ []) (1000 ∷ 1020 ∷ 1040 ∷ [])
small_run = record {
  of_workers = idle_worker;
  of_pumps = [];
  of_ticker = small_ticker;
  callers = refl;
  worker_count = refl;
  pump_count = refl;
  entries = (refl, (refl, tt));
  lawful = small_legal;
  worked = (small_worker, tt);
  pumped = tt;
  ticked = small_ticks;
  stopped = inl (record {
    before = tick_by 2 1020 Going ∷ [];
    stop = stop_by 0;
    after = tick_by 2 1040 Stopping ∷ [];
    are = refl;
    event = refl;
    own = refl;
    last = (refl, tt);
  });
  covered = (inr (inr (inl refl)), (inl refl, (inr (inr (inl refl)), tt)));
}

-- a list that ends with one more isn't empty
never_empty : {T : Type 0} (xs : List T) (z : T) → [] ≡ xs ++ z ∷ [] → ⊥
never_empty [] z e = cc
never_empty (x ∷ xs) z e = cc

pub ticker_is_left_out : ¬ (SmallRun 1 small_history [] (worker_with true 1 0 ∷ []) (1000 ∷ 1020 ∷ 1040 ∷ []))
ticker_is_left_out s = never_empty (s.of_workers ++ s.of_pumps) s.of_ticker s.callers

-- the limit of the one worker
one_limit : (full : Type 0) (accepts : ℕ) (worker : WorkerView) (callers : List Caller)
    → Along (WorkerDone (Unit {0}) (Unit {0}) full accepts) 1 (worker ∷ []) callers → worker.hall.limit ≡ accepts
one_limit full accepts worker [] worked = absurd worked
one_limit full accepts worker (c ∷ cs) worked = worked.0.limit

pub limit_is_another : ¬ (SmallRun 2 small_history (caller_of 1 [] ∷ small_ticker ∷ []) (worker_with true 1 0 ∷ []) (1000 ∷ 1020 ∷ 1040 ∷ []))
limit_is_another s =
    let same : ◌≡◌ {A = ℕ} 1 2 = one_limit (IsFull small_history) 2 (worker_with true 1 0) s.of_workers s.worked in
    absurd (omega arith)

-- why the one worker ended
one_ended : (full : Type 0) (accepts : ℕ) (worker : WorkerView) (callers : List Caller)
    → Along (WorkerDone (Unit {0}) (Unit {0}) full accepts) 1 (worker ∷ []) callers
    → (worker.hall.ended ≡ true) ⊎ ((worker.hall.faults ≢ 0) ⊎ full)
one_ended full accepts worker [] worked = absurd worked
one_ended full accepts worker (c ∷ cs) worked = worked.0.ended

never_ended : (false ≡ true) ⊎ ((◌≢◌ {A = ℕ} 0 0) ⊎ (◌≡◌ {A = ℕ} 3 18446744073709551615)) → ⊥
never_ended (inl e) = cc
never_ended (inr (inl other)) = other refl
never_ended (inr (inr e)) = omega arith

pub doors_go_on : ¬ (SmallRun 1 small_history (caller_of 1 [] ∷ small_ticker ∷ []) (worker_with false 1 0 ∷ []) (1000 ∷ 1020 ∷ 1040 ∷ []))
doors_go_on s = never_ended (one_ended (IsFull small_history) 1 (worker_with false 1 0) s.of_workers s.worked)

pub workers_are_two : ¬ (SmallRun 1 small_history (caller_of 1 [] ∷ small_ticker ∷ []) (worker_with true 1 0 ∷ worker_with true 1 0 ∷ [])
    (1000 ∷ 1020 ∷ 1040 ∷ []))
workers_are_two s =
    let same : ◌≡◌ {A = ℕ} 2 1 = s.worker_count in
    absurd (omega arith)

same_first : (x y : ℕ) (xs ys : List ℕ) → x ∷ xs ≡ y ∷ ys → x ≡ y
same_first x y xs ys e = cc

pub start_is_another : ¬ (SmallRun 1 small_history (caller_of 1 [] ∷ small_ticker ∷ []) (worker_with true 1 0 ∷ []) (990 ∷ 1020 ∷ 1040 ∷ []))
start_is_another s =
    let same : ◌≡◌ {A = ℕ} 990 1000 = same_first 990 1000 (1020 ∷ 1040 ∷ []) (s.ticked.moments ++ s.ticked.unmade) (s.ticked.readings refl) in
    absurd (omega arith)

pub entry_is_lost : ¬ (SmallRun 1 small_history (caller_of 1 [] ∷ caller_of 2 (tick_by 2 1040 Stopping ∷ []) ∷ []) (worker_with true 1 0 ∷ [])
    (1000 ∷ 1040 ∷ []))
entry_is_lost s = two_are_not_one (tick_by 2 1020 Going) (tick_by 2 1040 Stopping) (tick_by 2 1040 Stopping) s.entries.1.0

never_seven : (◌≡◌ {A = ℕ} 7 0) ⊎ ((◌≡◌ {A = ℕ} 7 1) ⊎ ((◌≡◌ {A = ℕ} 7 2) ⊎ ⊥)) → ⊥
never_seven (inl e) = omega arith
never_seven (inr (inl e)) = omega arith
never_seven (inr (inr (inl e))) = omega arith
never_seven (inr (inr (inr none))) = none

pub caller_is_another : ¬ (SmallRun 1 (tick_by 7 1010 Going ∷ small_history) (caller_of 1 [] ∷ small_ticker ∷ []) (worker_with true 1 0 ∷ [])
    (1000 ∷ 1020 ∷ 1040 ∷ []))
caller_is_another s = never_seven s.covered.0

stopping_is_not_going : BeatIs Stopping ≡ BeatIs Going → ⊥
stopping_is_not_going e = cc

pub answer_is_another : ¬ (SmallRun 1 (tick_by 2 1020 Stopping ∷ small_history) (caller_of 1 [] ∷ caller_of 2 (tick_by 2 1020 Stopping ∷ small_ticker.own) ∷ [])
    (worker_with true 1 0 ∷ []) (1000 ∷ 1020 ∷ 1020 ∷ 1040 ∷ []))
answer_is_another s = stopping_is_not_going s.lawful.entries.0.answer
