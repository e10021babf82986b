use Rattle.satip_rtp_receiver.proofs.OrderLemmas.{always_catches_sent}
use Rattle.satip_rtp_receiver.proofs.catch_laws.always_catches_sent.Goals as goal

pub returns : goal.returns
returns c = record { caught = always_catches_sent }
