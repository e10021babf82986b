use Rattle.std.proofs.Common.{sym, ap}
use Rattle.std.specs.Prelude.{option_map}
use Rattle.satip_tune.specs.Pieces.{is_byte}
use Rattle.satip_script.specs.Forms.{Other}
use Rattle.satip_script.proofs.WordLemmas.{past_none}
use Rattle.satip_script.proofs.parts.read_stop.Goals as goal

pub returns-in-Some : goal.returns-in-Some
returns-in-Some c = rw c.in-Some.is (record { form = ap (option_map Other) (sym (past_none (is_byte 32) c.in-Some.field-0.now)) })
