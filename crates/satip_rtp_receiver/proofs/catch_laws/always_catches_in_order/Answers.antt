use Rattle.satip_rtp_receiver.proofs.OrderLemmas.{always_catches_in_order}
use Rattle.satip_rtp_receiver.proofs.catch_laws.always_catches_in_order.Goals as goal

pub returns : goal.returns
returns c = record { caught = always_catches_in_order }
