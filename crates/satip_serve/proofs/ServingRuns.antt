-- Jobs that ran with fresh kits, by the status.
use Rattle.std.proofs.Common.{ℕ}
use Rattle.satip_jobs.specs.declared.end.ServeEnd.{ServeEnd}
use Rattle.satip_desk.specs.Fresh.{AreFresh}
use Rattle.satip_serve.specs.Ran.{HaveRun}
use Rattle.satip_desk.specs.Views.{JobsView}
use Rattle.satip_serve.specs.Laws.{SendsSelected, ObeysOwners, TellsBusy, GivesRecordings}
use Rattle.satip_serve.specs.CommandRan.{LastView, ServingRun}
use Rattle.satip_serve.specs.ServeRuns.{EndsFull}
use Rattle.satip_serve.specs.Servings.{end_of_run}
use Rattle.satip_serve.specs.Statuses.{serving_status}
use Rattle.satip_serve.proofs.PumpPackets.{plays_recordings}
use Rattle.satip_serve.proofs.StatusLemmas.{jobs_end}

pub serving_run : (conn_tells outlet_tells : Type 0) (accepts : ℕ) (given : JobsView) (l : LastView) (end : ServeEnd) → AreFresh accepts given
    → HaveRun conn_tells outlet_tells AreFresh l.server given l.pass l.jobs end
    → SendsSelected l.server.setting l.pass.seen → ObeysOwners l.server.setting l.pass.seen → TellsBusy l.server.setting l.pass.seen
    → GivesRecordings l.server.setting l.pass.seen → ServingRun conn_tells outlet_tells accepts given l (serving_status (end_of_run end))
serving_run conn_tells outlet_tells accepts given l end fresh ran payload owners busy recordings =
    let run = ran.jobs.run accepts fresh in
    record {
      pass = ran.of;
      number = ran.jobs.number;
      knows = ran.knows;
      joined = ran.jobs.joined;
      run = run;
      payload = payload;
      owners = owners;
      busy = busy;
      recordings = plays_recordings conn_tells outlet_tells (EndsFull (serving_status (end_of_run end)) l.pass.seen) l.server.setting accepts l.pass l.jobs
          run recordings;
      kits_left = ran.jobs.kits_left;
      ends = jobs_end end _ _ (ran.jobs.ended accepts fresh);
    }
