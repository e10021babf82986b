use Rattle.std.proofs.Common.{◌++◌}
use Rattle.satip_frame.proofs.StreamLemmas.{leads-append}
use Rattle.satip_frame.proofs.message_laws.first_by_more_bytes.Goals as goal

pub returns : goal.returns
returns c = record { law = λ text more ms first. (first.0 ++ more, leads-append text more ms first.0 first.1) }
