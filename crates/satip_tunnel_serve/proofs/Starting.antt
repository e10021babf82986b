-- Jobs of a tunnel that ran with kits that were fresh, but that the clock was read once, for the start.
use Rattle.std.proofs.Common.{◌≡◌, sym, ap, ◌∙◌, subst, ℕ, List, map}
use Rattle.satip_plain.specs.declared.setting.Setting.{Setting}
use Rattle.satip_world.specs.Dials.{Reads}
use Rattle.satip_interleave.specs.Calling.{ShownPass}
use Rattle.satip_jobs.specs.declared.end.ServeEnd.{ServeEnd}
use Rattle.satip_desk.specs.Fresh.{AreFresh, FreshJobs}
use Rattle.satip_desk.specs.Views.{WorkerView, PumpView, JobsView}
use Rattle.satip_serve.proofs.Starting.{fresh_at}
use Rattle.satip_tunnel_serve.specs.Deeds.{DoorsTell}
use Rattle.satip_tunnel_serve.specs.Ran.{TunnelJobsRan}
use Rattle.satip_tunnel_serve.proofs.WholeRuns.{same_outboxes}

pub from_start : (tells : DoorsTell) (c : Setting) (start : ℕ) (given now : JobsView) (pass : ShownPass) (left : JobsView) (end : ServeEnd)
    → c.start ≡ start → now.workers ≡ given.workers → now.pumps ≡ given.pumps → Reads given.ticker.dial now.ticker.dial start
    → now.ticker.outbox ≡ given.ticker.outbox → TunnelJobsRan tells (FreshJobs c.start) c now pass left end
    → TunnelJobsRan tells AreFresh c given pass left end
from_start tells c start given now pass left end is workers pumps reads outbox ran =
    let at_start : Reads given.ticker.dial now.ticker.dial c.start = subst (λ (s : ℕ). Reads given.ticker.dial now.ticker.dial s) (sym is) reads in
    record {
      number = ran.number;
      joined = ran.joined;
      kits_left = record {
        keys = ran.kits_left.keys ∙ ap (λ (ws : List WorkerView). map (λ (w : WorkerView). w.key) ws) workers;
        recordings = ran.kits_left.recordings ∙ ap (λ (ps : List PumpView). map (λ (p : PumpView). p.recording) ps) pumps;
      };
      outlets = ran.outlets
          ∙ same_outboxes _ _ _ _ _ _ (ap (λ (ws : List WorkerView). map (λ (w : WorkerView). w.outbox) ws) workers)
          (ap (λ (ps : List PumpView). map (λ (p : PumpView). p.outbox) ps) pumps) outbox;
      run = λ accepts fresh. ran.run accepts (fresh_at c.start accepts given now workers pumps at_start outbox fresh);
      ended = λ accepts fresh. ran.ended accepts (fresh_at c.start accepts given now workers pumps at_start outbox fresh);
      at_limit = ran.at_limit;
    }
