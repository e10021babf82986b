use Rattle.std.proofs.Common.{ap}
use Rattle.satip_serve.specs.Statuses.{serving_status}
use Rattle.satip_serve.proofs.EndLemmas.{come_unused, unused_of}
use Rattle.satip_serve.proofs.StatusLemmas.{limit_told}
use Rattle.satip_tunnel_serve.proofs.EndLemmas.{tunnel_end}
use Rattle.satip_tunnel_serve.proofs.AskedOn.{run_asks}
use Rattle.satip_tunnel_serve.proofs.Channelling.{payloads_sent}
use Rattle.satip_tunnel_serve.proofs.Recorded.{tunnel_plays}
use Rattle.satip_tunnel_serve.proofs.command.run_kits.Goals as goal

pub returns-in-Ok-clause-ran : goal.returns-in-Ok-clause-ran
returns-in-Ok-clause-ran g c =
    let fresh = c.requires.fresh in
    let ran = c.in-Ok.ensures.ran in
    let run = ran.jobs.run c.args._accepts fresh in
    let laws = c.keeps_laws.ensures in
    rw (ap serving_status c.of_run.ensures.end) (record {
      pass = ran.of;
      number = ran.jobs.number;
      knows = ran.knows;
      joined = ran.jobs.joined;
      run = run;
      payload = laws.payload;
      owners = laws.owners;
      busy = laws.busy;
      recordings = tunnel_plays _ _ _ _ _ _ run laws.recordings;
      frames = c.connections_have_lanes.ensures.law _ _ _ _ _ run;
      channels = payloads_sent _ _ (run_asks _ _ _ _ _ _ run) ran.knows.lawful laws.numbers laws.channels;
      kits_left = ran.jobs.kits_left;
      outlets = ran.jobs.outlets;
      ends = tunnel_end c.in-Ok.end _ _ (ran.jobs.ended c.args._accepts fresh);
    })

pub returns-in-Ok-clause-at_limit : goal.returns-in-Ok-clause-at_limit
returns-in-Ok-clause-at_limit g c =
    rw (ap serving_status c.of_run.ensures.end) (limit_told g.K.Doors.Doors.by_limit c.in-Ok.end _ c.in-Ok.ensures.ran.jobs.at_limit)

pub returns-in-Err-clause-kits_unused : goal.returns-in-Err-clause-kits_unused
returns-in-Err-clause-kits_unused g c =
    come_unused g.K.Doors.Doors.hall g.K.Outlet.Outlet.outbox g.K.Store.MuxStore.shelf g.K.Clock.Clock.dial c.args.jobs c.in-Err.jobs c.in-Err.ensures.unused

pub returns-in-Err-clause-unused_kits : goal.returns-in-Err-clause-unused_kits
returns-in-Err-clause-unused_kits g c =
    unused_of g.K.Doors.Doors.hall g.K.Outlet.Outlet.outbox g.K.Store.MuxStore.shelf g.K.Clock.Clock.dial c.args._accepts c.args.jobs c.in-Err.jobs
    c.requires.fresh c.in-Err.ensures.unused
