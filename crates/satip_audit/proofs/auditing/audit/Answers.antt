use Rattle.satip_audit.proofs.EndLemmas.{input_ends, unread_ends, write_ends}
use Rattle.satip_audit.proofs.auditing.audit.Goals as goal

pub returns-in-Err-clause-ends : goal.returns-in-Err-clause-ends
returns-in-Err-clause-ends g c = unread_ends _ _ _ _ _ _ _ _ _ c.from.ensures c.in-Err.ensures.fault

pub returns-in-Err-read_journals-clause-ends : goal.returns-in-Err-read_journals-clause-ends
returns-in-Err-read_journals-clause-ends g c = input_ends _ _ _ _ _ _ _ _ _ _ c.in-Ok.ensures.ok c.in-Err-read_journals.ensures.fault

pub returns-in-Ok-verdict-clause-ends : goal.returns-in-Ok-verdict-clause-ends
returns-in-Ok-verdict-clause-ends g c =
    write_ends _ _ _ _ _ _ _ _ _ _ _ c.deref_mut.result.now _ c.in-Ok.ensures.ok c.in-Ok-read_journals.ensures.ok c.deref_mut.ensures.value
    c.in-Ok-verdict.ensures.verdict c.in-Ok-verdict.ensures.legal _ c.write_verdict.ensures.ends
