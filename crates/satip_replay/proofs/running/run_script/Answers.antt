use Rattle.satip_replay.proofs.EndLemmas.{runs_as}
use Rattle.satip_replay.proofs.running.run_script.Goals as goal

pub returns : goal.returns
returns g c = record {
  ends = runs_as _ _ _ _ c.args.config c.args.script.now _ c.in-Ok.ensures.setting c.in-Ok.ensures.opening c.run_events.ensures.ends;
}
