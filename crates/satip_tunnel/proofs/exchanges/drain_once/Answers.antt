use Rattle.satip_tunnel.proofs.ExchangeLemmas.{drains_stopped}
use Rattle.satip_tunnel.proofs.exchanges.drain_once.Goals as goal

pub returns-in-Err : goal.returns-in-Err
returns-in-Err g c = record {
  drains = λ stance may. drains_stopped _ c.args.lane _ _ _ stance may c.in-Err.ensures.makes;
}
