use Rattle.satip_journal_serve.proofs.OneHistory.{one_history}
use Rattle.satip_journal_serve.proofs.one_history.journals_are_one_history.Goals as goal

pub returns : goal.returns
returns c = record { law = one_history }
