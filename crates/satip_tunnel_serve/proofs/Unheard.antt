-- Jobs over outlets that tell nothing: their deeds, with other outlets that stay the same.
use Rattle.std.proofs.Common.{◌≡◌, ℕ, inl, List, [], ◌∷◌, arith, subst, sym}
use Rattle.satip_base.specs.Output.{Datagram}
use Rattle.satip_plain.specs.Known.{Known}
use Rattle.satip_world.specs.Deliveries.{Delivers, LeavesOut}
use Rattle.satip_world.specs.Deliveries.LeavesOut.{no_more, went}
use Rattle.satip_world.specs.Outboxes.{Outbox}
use Rattle.satip_jobs.specs.declared.end.ServeEnd.{ServeEnd}
use Rattle.satip_serve.specs.Deeds.{PumpDid, TickerDid, job_state}
use Rattle.satip_desk.specs.Views.{PumpView, TickView}

all_went : (ds : List Datagram) → LeavesOut ds ds 0
all_went [] = no_more
all_went (d ∷ ds) = went (all_went ds)

-- if nothing is told and the outlet is the same, nothing was left out
unheard : (o n : Outbox) (ds : List Datagram) → n ≡ o → Delivers ⊥ o n ds
unheard o n ds is =
    let same : Delivers ⊥ o o ds =
    record { sent = ds; missing = 0; leaves_out = all_went ds; content = λ no. absurd no; faults = inl (omega arith); kept = omega arith } in
    subst (λ (q : Outbox). Delivers ⊥ o q ds) (sym is) same

pub pump_unheard : (number : ℕ) (o n : PumpView) (q r : Outbox) (k l : Known) (end : ServeEnd) → n.outbox ≡ o.outbox
    → PumpDid ⊥ number (job_state (record o { outbox = q }) k) (job_state (record n { outbox = r }) l) end
    → PumpDid ⊥ number (job_state o k) (job_state n l) end
pump_unheard number o n q r k l end is did = record {
  ended = did.ended;
  end_is = did.end_is;
  run = record {
    entries = did.run.entries;
    recordings = did.run.recordings;
    due = did.run.due;
    early = did.run.early;
    adds = did.run.adds;
    pumps = did.run.pumps;
    few = did.run.few;
    delivers = unheard o.outbox n.outbox _ is;
    stopped = did.run.stopped;
  };
  lent = did.lent;
  one_at_a_time = did.one_at_a_time;
  spent = did.spent;
  memory = did.memory;
}

pub ticker_unheard : (o n : TickView) (q r : Outbox) (k l : Known) (end : ServeEnd) → n.outbox ≡ o.outbox
    → TickerDid ⊥ (job_state (record o { outbox = q }) k) (job_state (record n { outbox = r }) l) end
    → TickerDid ⊥ (job_state o k) (job_state n l) end
ticker_unheard o n q r k l end is did = record {
  ended = did.ended;
  end_is = did.end_is;
  run = record {
    entries = did.run.entries;
    moments = did.run.moments;
    unmade = did.run.unmade;
    adds = did.run.adds;
    events = did.run.events;
    told = did.run.told;
    readings = did.run.readings;
    ends = did.run.ends;
    delivers = unheard o.outbox n.outbox _ is;
  };
  spent = did.spent;
  memory = did.memory;
}
