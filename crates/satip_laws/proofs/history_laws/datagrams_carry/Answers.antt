use Rattle.satip_laws.proofs.Carrying.{datagrams_carry}
use Rattle.satip_laws.proofs.history_laws.datagrams_carry.Goals as goal

pub returns : goal.returns
returns c = record { law = datagrams_carry }
