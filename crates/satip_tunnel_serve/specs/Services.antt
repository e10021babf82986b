-- Callers of a tunnel that are services of its server, at the seats of its jobs.
use Rattle.std.specs.Prelude.{◌≡◌, ℕ, Bool, List}
use denote.Ref.{MutBor}
use denote.Param.Members.{Shared}
use Rattle.satip_plain.specs.declared.setting.Setting.{Setting}
use Rattle.satip_desk.specs.declared.kits.PumpKit.{PumpKit}
use Rattle.satip_desk.specs.declared.kits.TickKit.{TickKit}
use Rattle.satip_plain.specs.Known.{Known}
use Rattle.satip_turn.specs.Shown.{Cell}
use Rattle.satip_world.specs.Dials.{Dial}
use Rattle.satip_world.specs.Outboxes.{Outbox}
use Rattle.satip_world.specs.Recordings.{StoreView}
use Rattle.satip_interleave.specs.Histories.{TunnelItem, TunnelLegal}
use Rattle.satip_interleave.specs.Calling.{ShownPass, SameCaller, known_by}
use Rattle.satip_tunnel.specs.Seats.{Seat as CallerSeat}
use Rattle.satip_jobs.specs.declared.end.ServeEnd.{ServeEnd}
use Rattle.satip_jobs.specs.declared.seat.Seat.{Seat}
use Rattle.satip_desk.specs.Views.{pump_view, tick_view}
use Rattle.satip_serve.specs.Services.{NeverWants, SeatDid as ServesAtSeat}
use Rattle.satip_tunnel_serve.specs.Deeds.{SeatDid, SilentPumpDid, SilentTickerDid}
use Rattle.satip_tunnel_serve.specs.TunnelRuns.{IsTunnelStop}

-- each caller of this type is a service that knows what its pass has seen and made of the server's entries, and never returns out of memory. As the same
-- service it is the same caller. Their histories are those of the tunnel, and their stop is its server's
pub record ServesInTunnel {X : Type 0} (known : X → Known) (may_want : X → Bool) (same : X → X → Type 0) (cell : X → Cell Setting) (pass : X → ShownPass)
    (legal : Setting → List TunnelItem → Type 0) (is_stop : TunnelItem → Type 0) : Type 0 where
  pub known_is : (x : X) → known x ≡ known_by (pass x)
  pub never_wants : NeverWants may_want
  pub same_caller : (x y : X) → same x y → SameCaller (cell x) (pass x) (cell y) (pass y)
  pub lawful : (c : Setting) (h : List TunnelItem) → legal c h → TunnelLegal c h
  pub stops : (t : TunnelItem) → is_stop t → IsTunnelStop t

-- a pump or the ticker ran at its seat, over the same service and an outlet that sends nothing; the outlet of its kit stays as it is
abbrev pub PumpedAtSeat : {X M O P L : Type 0} → (same : X → X → Type 0) → (X → Known) → (M → StoreView) → (O → Outbox)
    → Seat X (PumpKit M O P) L → Seat X (PumpKit M O P) L → Type 0
PumpedAtSeat same known shelf outbox before after = ServesAtSeat same known (pump_view shelf outbox) SilentPumpDid before after

abbrev pub TickedAtSeat : {X C O P L : Type 0} → (same : X → X → Type 0) → (X → Known) → (C → Dial) → (O → Outbox)
    → Seat X (TickKit C O P) L → Seat X (TickKit C O P) L → Type 0
TickedAtSeat same known dial outbox before after = ServesAtSeat same known (tick_view dial outbox) (λ _. SilentTickerDid) before after

-- this work may be done on any job, and has this effect at its seat
pub record WorksSo {X K M F : Type 0} (cell : X → Cell Setting) (pass : X → ShownPass) (did : ℕ → K → CallerSeat → K → CallerSeat → ServeEnd → Type 0)
    (g : Shared F (MutBor (Seat X K M) × Unit {0}) (Unit {0} × (MutBor (Seat X K M) × Unit {0}))) (f : F) : Type 0 where
  pub takes : (argument : MutBor (Seat X K M)) → g.pre f (argument, tt)
  pub does : (before after : MutBor (Seat X K M)) → g.post f (before, tt) (tt, (after, tt)) → SeatDid cell pass did before.now after.now
