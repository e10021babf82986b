use Rattle.satip_audit.proofs.EndLemmas.{audit_runs}
use Rattle.satip_audit.proofs.command.AuditCommandBatch.run.Goals as goal

pub returns-clause-runs : goal.returns-clause-runs
returns-clause-runs g c = audit_runs _ _ _ _ _ _ c.audit.ensures.ends
