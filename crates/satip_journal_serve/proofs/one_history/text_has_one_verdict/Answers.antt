use Rattle.satip_journal_serve.proofs.OneVerdict.{one_verdict}
use Rattle.satip_journal_serve.proofs.one_history.text_has_one_verdict.Goals as goal

pub returns : goal.returns
returns c = record { law = one_verdict }
