use Rattle.std.proofs.Common.{◌∙◌}
use Rattle.satip_serve.proofs.StatusLemmas.{unopened_ends}
use Rattle.satip_serve.proofs.command.serve_by.Goals as goal

pub returns-in-Ok-clause-ends : goal.returns-in-Ok-clause-ends
returns-in-Ok-clause-ends g c =
    c.serve_source-end.ensures.ends c.args.name.now (g.K.Desk.desk c.args.desk.now) c.in-Ok.ensures.started c.in-Ok.ensures.untaken c.in-Ok.ensures.no_fault

pub returns-in-Err-clause-ends : goal.returns-in-Err-clause-ends
returns-in-Err-clause-ends g c = unopened_ends (c.in-Err.ensures.kits ∙ c.requires.new) c.in-Err.ensures.failed
