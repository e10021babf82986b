use Rattle.std.proofs.Common.{sym, subst}
use Rattle.satip_pids.specs.Pids.{IsPidRow}
use Rattle.satip_pids.proofs.Sets.{IsPidRow-nil}
use Rattle.satip_session_tests.proofs.pids.plain.PlainSet.new.Goals as goal

pub invariant_of-result : goal.invariant_of-result
invariant_of-result c = subst IsPidRow (sym c.new.ensures) IsPidRow-nil
