-- Jobs of a tunnel at their seats, over a service of its server.
use Rattle.std.proofs.Common.{◌≡◌, Bool, List, subst}
use Rattle.satip_plain.specs.declared.setting.Setting.{Setting}
use Rattle.satip_desk.specs.declared.kits.PumpKit.{PumpKit}
use Rattle.satip_desk.specs.declared.kits.TickKit.{TickKit}
use Rattle.satip_plain.specs.Known.{Known}
use Rattle.satip_turn.specs.Shown.{Cell}
use Rattle.satip_interleave.specs.Calling.{ShownPass, known_by}
use Rattle.satip_interleave.specs.Histories.{TunnelItem}
use Rattle.satip_world.specs.Dials.{Dial}
use Rattle.satip_world.specs.Outboxes.{Outbox}
use Rattle.satip_world.specs.Recordings.{StoreView}
use Rattle.satip_jobs.specs.declared.seat.Seat.{Seat}
use Rattle.satip_jobs.specs.Works.{IsSameSeat}
use Rattle.satip_serve.specs.Deeds.{PumpDid, TickerDid, job_state}
use Rattle.satip_desk.specs.Views.{pump_view, tick_view}
use Rattle.satip_tunnel_serve.specs.Deeds.{SeatDid, pump_deed, ticker_deed}
use Rattle.satip_tunnel_serve.specs.Services.{PumpedAtSeat, ServesInTunnel, TickedAtSeat}

module _ {X : Type 0} (known : X → Known) (may_want : X → Bool) (same : X → X → Type 0) (cell : X → Cell Setting) (pass : X → ShownPass)
    (legal : Setting → List TunnelItem → Type 0) (is_stop : TunnelItem → Type 0) (serves : ServesInTunnel known may_want same cell pass legal is_stop) where
  pub still_seated : {K M : Type 0} (x y : Seat X K M) → same x.caller y.caller → y.number ≡ x.number → IsSameSeat cell pass x y
  still_seated x y is number =
      let caller = serves.same_caller x.caller y.caller is in
      record { cell_is = caller.server; keeps = caller.pass; number = number }

  pub pumped_at_seat : {M O P L : Type 0} (shelf : M → StoreView) (outbox : O → Outbox) (x y : Seat X (PumpKit M O P) L)
      → PumpedAtSeat same known shelf outbox x y → SeatDid cell pass (pump_deed (pump_view shelf outbox)) x y
  pumped_at_seat shelf outbox x y did = record {
    still = still_seated x y did.same_is did.number;
    deed = record {
      pumped = subst (λ (l : Known). PumpDid ⊥ x.number (job_state (pump_view shelf outbox x.kit) (known_by (pass x.caller)))
          (job_state (pump_view shelf outbox y.kit) l) y.end)
          (serves.known_is y.caller)
          (subst (λ (k : Known). PumpDid ⊥ x.number (job_state (pump_view shelf outbox x.kit) k)
          (job_state (pump_view shelf outbox y.kit) (known y.caller)) y.end)
          (serves.known_is x.caller) did.deed.did);
      others = (serves.same_caller x.caller y.caller did.same_is).others;
      outbox = did.deed.outbox;
    };
  }

  pub ticked_at_seat : {C O P L : Type 0} (dial : C → Dial) (outbox : O → Outbox) (x y : Seat X (TickKit C O P) L)
      → TickedAtSeat same known dial outbox x y → SeatDid cell pass (ticker_deed (tick_view dial outbox)) x y
  ticked_at_seat dial outbox x y did = record {
    still = still_seated x y did.same_is did.number;
    deed = record {
      ticked = subst (λ (l : Known). TickerDid ⊥ (job_state (tick_view dial outbox x.kit) (known_by (pass x.caller)))
          (job_state (tick_view dial outbox y.kit) l) y.end)
          (serves.known_is y.caller)
          (subst (λ (k : Known). TickerDid ⊥ (job_state (tick_view dial outbox x.kit) k)
          (job_state (tick_view dial outbox y.kit) (known y.caller)) y.end)
          (serves.known_is x.caller) did.deed.did);
      others = (serves.same_caller x.caller y.caller did.same_is).others;
      outbox = did.deed.outbox;
    };
  }
