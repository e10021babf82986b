use Rattle.satip_journal_serve.proofs.OneHistory.{own_behind}
use Rattle.satip_journal_serve.proofs.one_history.own_are_behind.Goals as goal

pub returns : goal.returns
returns c = record { law = own_behind }
