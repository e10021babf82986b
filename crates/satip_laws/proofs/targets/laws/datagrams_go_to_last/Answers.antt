use Rattle.satip_laws.proofs.TargetsLemmas.Stepping as lemmas
use Rattle.satip_laws.proofs.targets.laws.datagrams_go_to_last.Goals as goal

pub returns : goal.returns
returns c = record { law = lemmas.datagrams_go_to_last }
