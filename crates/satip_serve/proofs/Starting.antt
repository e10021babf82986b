-- How the jobs of a server start: its first pass, and fresh kits whose clock is read once.
use Rattle.std.proofs.Common.{◌≡◌, sym, ap, ◌∙◌, subst, ℕ, List, map}
use Rattle.satip_base.specs.Lists.{Each}
use Rattle.satip_plain.specs.declared.setting.Setting.{Setting}
use Rattle.satip_turn.specs.Shown.{Cell, Shown, first_pass}
use Rattle.satip_world.specs.Dials.{Dial, Reads}
use Rattle.satip_shared.specs.Calling.{ServerPass}
use Rattle.satip_jobs.specs.declared.end.ServeEnd.{ServeEnd}
use Rattle.satip_desk.specs.Fresh.{AreFresh, FreshJobs, FreshPump, FreshTicker, FreshWorker, ReadOnce}
use Rattle.satip_serve.specs.Ran.{JobsRan}
use Rattle.satip_serve.specs.Services.{IsFirst}
use Rattle.satip_desk.specs.Views.{WorkerView, PumpView, TickView, JobsView}

-- the first pass of a cell is that of caller 0
pub is_first : {E A O C : Type 0} (p : Shown E A O C) (k : Cell C) → p ≡ first_pass k → IsFirst p
is_first {E} {A} {O} {C} p k is = record {
  number = ap (λ (q : Shown E A O C). q.number) is;
  own = ap (λ (q : Shown E A O C). q.own) is;
  kept = ap (λ (q : Shown E A O C). q.kept) is;
  made = ap (λ (q : Shown E A O C). q.made) is;
}

-- a clock that was read at the start was read once
read_once : (before after : TickView) (start : ℕ) → FreshTicker before → Reads before.dial after.dial start → after.outbox ≡ before.outbox
    → ReadOnce start after
read_once before after start fresh reads same = record {
  told = fresh.told;
  reads = subst (λ (d : Dial). Reads d after.dial start) fresh.dial reads;
  outbox = same ∙ fresh.outbox;
}

-- so fresh kits are fresh but for that reading
pub fresh_at : (start accepts : ℕ) (given now : JobsView) → now.workers ≡ given.workers → now.pumps ≡ given.pumps
    → Reads given.ticker.dial now.ticker.dial start
    → now.ticker.outbox ≡ given.ticker.outbox → AreFresh accepts given → FreshJobs start accepts now
fresh_at start accepts given now workers pumps reads outbox fresh = record {
  workers_are = subst (λ (ws : List WorkerView). Each (FreshWorker accepts) ws) (sym workers) fresh.workers_are;
  pumps_are = subst (λ (ps : List PumpView). Each FreshPump ps) (sym pumps) fresh.pumps_are;
  ticker_is = read_once given.ticker now.ticker start fresh.ticker_is reads outbox;
}

-- jobs that ran with kits so are jobs that ran with the fresh ones
pub from_start : (conn_tells outlet_tells : Type 0) (c : Setting) (start : ℕ) (given now : JobsView) (pass : ServerPass) (left : JobsView) (end : ServeEnd)
    → c.start ≡ start → now.workers ≡ given.workers → now.pumps ≡ given.pumps → Reads given.ticker.dial now.ticker.dial start
    → now.ticker.outbox ≡ given.ticker.outbox → JobsRan conn_tells outlet_tells (FreshJobs c.start) c now pass left end
    → JobsRan conn_tells outlet_tells AreFresh c given pass left end
from_start conn_tells outlet_tells c start given now pass left end is workers pumps reads outbox ran =
    let at_start : Reads given.ticker.dial now.ticker.dial c.start = subst (λ (s : ℕ). Reads given.ticker.dial now.ticker.dial s) (sym is) reads in
    record {
      number = ran.number;
      joined = ran.joined;
      kits_left = record {
        keys = ran.kits_left.keys ∙ ap (λ (ws : List WorkerView). map (λ (w : WorkerView). w.key) ws) workers;
        recordings = ran.kits_left.recordings ∙ ap (λ (ps : List PumpView). map (λ (p : PumpView). p.recording) ps) pumps;
      };
      run = λ accepts fresh. ran.run accepts (fresh_at c.start accepts given now workers pumps at_start outbox fresh);
      ended = λ accepts fresh. ran.ended accepts (fresh_at c.start accepts given now workers pumps at_start outbox fresh);
    }
