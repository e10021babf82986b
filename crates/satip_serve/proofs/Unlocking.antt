-- Jobs whose outlets were unlocked before they began.
use Rattle.std.proofs.Common.{◌≡◌, ℕ, List, subst}
use Rattle.satip_base.specs.Output.{Datagram}
use Rattle.satip_world.specs.Deliveries.{Delivers}
use Rattle.satip_world.specs.Outboxes.{Outbox, unlocked}
use Rattle.satip_world.proofs.DeliveryLemmas.{delivers_unlocked}
use Rattle.satip_jobs.specs.declared.end.ServeEnd.{ServeEnd}
use Rattle.satip_serve.specs.Deeds.{JobState, WorkerDid, PumpDid, TickerDid}
use Rattle.satip_desk.specs.Views.{WorkerView, PumpView, TickView}

-- what was sent since
delivers_since : (tells : Type 0) (o q n : Outbox) (all : List Datagram) → q ≡ unlocked o → Delivers tells q n all → Delivers tells o n all
delivers_since tells o q n all is d =
    let P : Outbox → Type 0 = λ p. Delivers tells p n all in
    delivers_unlocked tells o n all (subst P is d)

-- a job with this outlet
abbrev with_worker : JobState WorkerView → Outbox → JobState WorkerView
with_worker o q = record o { kit = record o.kit { outbox = q } }

abbrev with_pump : JobState PumpView → Outbox → JobState PumpView
with_pump o q = record o { kit = record o.kit { outbox = q } }

abbrev with_ticker : JobState TickView → Outbox → JobState TickView
with_ticker o q = record o { kit = record o.kit { outbox = q } }

pub worker_unlocked : (conn_tells outlet_tells by_limit : Type 0) (number : ℕ) (o : JobState WorkerView) (q : Outbox) (n : JobState WorkerView) (end : ServeEnd)
    → q ≡ unlocked o.kit.outbox → WorkerDid conn_tells outlet_tells by_limit number (with_worker o q) n end
    → WorkerDid conn_tells outlet_tells by_limit number o n end
worker_unlocked conn_tells outlet_tells by_limit number o q n end is did = record {
  ended = did.ended;
  end_is = did.end_is;
  key = did.key;
  serves = record {
    returns = did.serves.returns;
    entries = did.serves.entries;
    draws = did.serves.draws;
    serves = did.serves.serves;
    makes = record {
      may_want = did.serves.makes.may_want;
      adds = did.serves.makes.adds;
      delivers = delivers_since outlet_tells o.kit.outbox q n.kit.outbox _ is did.serves.makes.delivers;
    };
    moved = did.serves.moved;
    limit = did.serves.limit;
    ends = did.serves.ends;
  };
  at_limit = did.at_limit;
}

pub pump_unlocked : (outlet_tells : Type 0) (number : ℕ) (o : JobState PumpView) (q : Outbox) (n : JobState PumpView) (end : ServeEnd)
    → q ≡ unlocked o.kit.outbox → PumpDid outlet_tells number (with_pump o q) n end → PumpDid outlet_tells number o n end
pump_unlocked outlet_tells number o q n end is did = record {
  ended = did.ended;
  end_is = did.end_is;
  run = record {
    entries = did.run.entries;
    recordings = did.run.recordings;
    due = did.run.due;
    early = did.run.early;
    adds = did.run.adds;
    pumps = did.run.pumps;
    few = did.run.few;
    delivers = delivers_since outlet_tells o.kit.outbox q n.kit.outbox _ is did.run.delivers;
    stopped = did.run.stopped;
  };
  lent = did.lent;
  one_at_a_time = did.one_at_a_time;
  spent = did.spent;
  memory = did.memory;
}

pub ticker_unlocked : (outlet_tells : Type 0) (o : JobState TickView) (q : Outbox) (n : JobState TickView) (end : ServeEnd)
    → q ≡ unlocked o.kit.outbox → TickerDid outlet_tells (with_ticker o q) n end → TickerDid outlet_tells o n end
ticker_unlocked outlet_tells o q n end is did = record {
  ended = did.ended;
  end_is = did.end_is;
  run = record {
    entries = did.run.entries;
    moments = did.run.moments;
    unmade = did.run.unmade;
    adds = did.run.adds;
    events = did.run.events;
    told = did.run.told;
    readings = did.run.readings;
    ends = did.run.ends;
    delivers = delivers_since outlet_tells o.kit.outbox q n.kit.outbox _ is did.run.delivers;
  };
  spent = did.spent;
  memory = did.memory;
}
