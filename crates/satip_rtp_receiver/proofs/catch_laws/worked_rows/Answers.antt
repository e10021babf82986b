use Rattle.std.proofs.Common.{refl}
use Rattle.satip_rtp_receiver.specs.Caught.{index_of}
use Rattle.satip_rtp_receiver.proofs.catch_laws.worked_rows.Goals as goal

pub returns-clause-reordered : goal.returns-clause-reordered
unfolding index_of
returns-clause-reordered c = refl

pub returns-clause-passed : goal.returns-clause-passed
unfolding index_of
returns-clause-passed c = refl
