use Rattle.satip_tunnel.proofs.EndLemmas.{lane_served, entered, turned_away, not_entered}
use Rattle.satip_tunnel.proofs.PauseLemmas.{lane_pauses, turned_away_pauses, unentered_pauses}
use Rattle.satip_tunnel.proofs.connection.serve.Goals as goal

pub returns-in-Lane : goal.returns-in-Lane
returns-in-Lane g c =
    let talked = c.talk-end.ensures.talked in
    record {
      serves = entered _ _ _ _ _ _ _ _ c.in-Lane.lane _ c.in-Lane.ensures.enters
          (lane_served _ _ _ _ _ _ _ _ talked.4 c.finish.ensures.finishes);
      pauses = lane_pauses _ _ _ _ _ _ _ _ _ _ _ _ c.in-Lane.ensures.enters talked.4 c.finish.ensures.finishes talked.3;
    }

pub returns-in-Full : goal.returns-in-Full
returns-in-Full g c = record {
  serves = turned_away _ _ _ _ _ c.in-Full.ensures.enters;
  pauses = turned_away_pauses _ _ _ _ _ _ c.in-Full.ensures.enters;
}

pub returns-in-Spent : goal.returns-in-Spent
returns-in-Spent g c = record {
  serves = not_entered _ _ _ _ _ c.in-Spent.ensures.enters;
  pauses = unentered_pauses _ _ _ _ _ c.in-Spent.ensures.enters;
}
