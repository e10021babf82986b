-- The run with one front end is a serve run where its pump handed back each source, and had one at a time.
use Rattle.std.proofs.Common.{◌≡◌, ℕ, ◌≤◌, List, [], ◌∷◌, true, refl, inl, inr, arith}
use Rattle.satip_plain.specs.declared.answers.Beat.TheVariants.{Stopping}
use Rattle.satip_plain.specs.Histories.{Legal}
use Rattle.satip_world.specs.Outboxes.{fresh_outbox}
use Rattle.satip_world.proofs.DeliveryLemmas.{delivers_none}
use Rattle.satip_plain.specs.Pumping.{Finished}
use Rattle.satip_serve.specs.Done.{Caller, IsFull, WorkerDone, PumpDone, TickerDone}
use Rattle.satip_sharing_tests.specs.Examples.{AskedRun, ask_by, asked_history, asking_pump, caller_of, front_setting, pump_with, stop_by, tick_by, ticker_at, told_ticker, worker_with}
use Rattle.satip_desk.specs.Fresh.{FreshPump}
use Rattle.satip_serve.specs.ServeRuns.{Along}
use Rattle.satip_desk.specs.Views.{PumpView}

asked_legal : Legal front_setting asked_history
asked_legal = record {
  servable = record { numbered = refl; few = omega arith; muxes = omega arith };
  setting = record {
    start = omega arith;
    address = omega arith;
    rtsp_port = omega arith;
    http_port = omega arith;
    timeout = omega arith;
    workers = omega arith;
    fronts = (record { number = omega arith; sources = refl; systems = refl }, tt);
    muxes = tt;
    files = tt;
  };
  events = (tt, (omega arith, (omega arith, tt)));
  entries = (
    record { answer = refl; reply = refl; datagrams = refl },
    (record { answer = refl; reply = refl; datagrams = refl }, (record { answer = refl; reply = refl; datagrams = refl }, tt)),
  );
}

idle_worker_done : WorkerDone (Unit {0}) (Unit {0}) (IsFull asked_history) 1 1 (worker_with true 1 0) (caller_of 1 [])
idle_worker_done = record {
  limit = refl;
  ended = inl refl;
  connections = [];
  draws = 0;
  came = λ _. refl;
  handed_back = λ _. refl;
  served = (refl, refl);
  in_time = tt;
  sent = delivers_none (Unit {0}) fresh_outbox;
}

pump_asked : (peak : ℕ) → peak ≤ 1 → PumpDone (Unit {0}) (IsFull asked_history) 1 (pump_with 0 peak) asking_pump
pump_asked peak few = record {
  due = Finished;
  early = 0;
  pumps = (refl, (0, (refl, refl), refl));
  few = record { rose = inl (omega arith); kept = omega arith };
  stopped = inl refl;
  lent = refl;
  one_at_a_time = few;
  sent = delivers_none (Unit {0}) fresh_outbox;
}

ticker_told : TickerDone (Unit {0}) (IsFull asked_history) 1000 (ticker_at (1000 ∷ 1020 ∷ [])) told_ticker
ticker_told = record {
  moments = 1020 ∷ [];
  unmade = [];
  events = refl;
  readings = λ _. refl;
  ends = inl (record { before = []; last = tick_by 3 1020 Stopping; are = refl; going = tt; stopping = refl }, refl);
  sent = delivers_none (Unit {0}) fresh_outbox;
}

asked_run : (peak : ℕ) → peak ≤ 1 → AskedRun (pump_with 0 peak)
asked_run peak few = record {
  of_workers = caller_of 1 [] ∷ [];
  of_pumps = asking_pump ∷ [];
  of_ticker = told_ticker;
  callers = refl;
  worker_count = refl;
  pump_count = refl;
  entries = (refl, (refl, (refl, tt)));
  lawful = asked_legal;
  worked = (idle_worker_done, tt);
  pumped = (pump_asked peak few, tt);
  ticked = ticker_told;
  stopped = inl (record {
    before = [];
    stop = stop_by 0;
    after = ask_by 2 ∷ tick_by 3 1020 Stopping ∷ [];
    are = refl;
    event = refl;
    own = refl;
    last = (refl, tt);
  });
  covered = (inl refl, (inr (inr (inl refl)), (inr (inr (inr (inl refl))), tt)));
}

pub never_lent : AskedRun (pump_with 0 0)
never_lent = asked_run 0 (omega arith)

pub lent_one : AskedRun (pump_with 0 1)
lent_one = asked_run 1 (omega arith)

-- what the one pump has done
one_pump : (full : Type 0) (pump : PumpView) (callers : List Caller) → Along (PumpDone (Unit {0}) full) 1 (pump ∷ []) callers
    → (pump.lent ≡ 0) × (pump.peak ≤ 1)
one_pump full pump [] pumped = absurd pumped
one_pump full pump (c ∷ cs) pumped = (pumped.0.lent, pumped.0.one_at_a_time)

pub one_is_out : ¬ (AskedRun (pump_with 1 1))
one_is_out s =
    let same : ◌≡◌ {A = ℕ} 1 0 = (one_pump (IsFull asked_history) (pump_with 1 1) s.of_pumps s.pumped).0 in
    absurd (omega (arith, same))

pub two_at_once : ¬ (AskedRun (pump_with 0 2))
two_at_once s =
    let few : 2 ≤ 1 = (one_pump (IsFull asked_history) (pump_with 0 2) s.of_pumps s.pumped).1 in
    absurd (omega (arith, few))

pub is_fresh : FreshPump (pump_with 0 0)
is_fresh = record { faults = refl; lent = refl; peak = refl; outbox = refl }

pub lent_before : ¬ (FreshPump (pump_with 0 1))
lent_before fresh =
    let same : ◌≡◌ {A = ℕ} 1 0 = fresh.peak in
    absurd (omega (arith, same))

pub out_before : ¬ (FreshPump (pump_with 1 0))
out_before fresh =
    let same : ◌≡◌ {A = ℕ} 1 0 = fresh.lent in
    absurd (omega (arith, same))
