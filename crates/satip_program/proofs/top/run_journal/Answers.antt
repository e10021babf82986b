use Rattle.std.proofs.Common.{sym, ap, ◌∙◌}
use Rattle.satip_config.specs.Outcomes.{status_of}
use Rattle.satip_program.proofs.JournalLemmas.{input_of, journal_apart}
use Rattle.satip_program.proofs.top.run_journal.Goals as goal

pub returns-clause-ends : goal.returns-clause-ends
returns-clause-ends g c = rw c.status.ensures.status (rw c.outcome.ensures.outcome c.journal_by-end.ensures.ends)

pub returns-clause-at_limit : goal.returns-clause-at_limit
returns-clause-at_limit g c = rw c.status.ensures.status (rw c.outcome.ensures.outcome c.journal_by-end.ensures.at_limit)

pub returns-clause-of_journal : goal.returns-clause-of_journal
returns-clause-of_journal g c = journal_apart c.journal_by-end.result.end _ (c.status.ensures.status ∙ ap status_of c.outcome.ensures.outcome)

pub returns-clause-input_fault : goal.returns-clause-input_fault
returns-clause-input_fault g c = λ is.
    input_of _ _ _ (c.journal_by-end.ensures.ends.input.0 (sym (c.status.ensures.status ∙ ap status_of c.outcome.ensures.outcome) ∙ is))

pub returns-clause-logs : goal.returns-clause-logs
returns-clause-logs g c = record {
  outcome = c.outcome.result;
  status_is = c.status.ensures.status;
  says = rw c.outcome.ensures.outcome c.journal_by-end.ensures.says;
}
