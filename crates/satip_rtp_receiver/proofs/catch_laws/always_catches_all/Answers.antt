use Rattle.satip_rtp_receiver.proofs.AllLemmas.{always_catches_all}
use Rattle.satip_rtp_receiver.proofs.catch_laws.always_catches_all.Goals as goal

pub returns : goal.returns
returns c = record { caught = always_catches_all }
