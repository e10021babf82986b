use Rattle.std.proofs.Common.{sym, ◌∙◌, arith}
use Rattle.satip_client.proofs.Lines.{status-found, status-none}
use Rattle.satip_client.proofs.heads.read_status.Goals as goal

pub returns-clause-found : goal.returns-clause-found
returns-clause-found c =
    status-found c.args.text.now c.three_digits.result (omega arith) (sym c.starts_with.ensures.value ∙ c.if-not-starts_with.false)
    c.three_digits.ensures.number

pub returns-clause-none : goal.returns-clause-none
returns-clause-none c = status-none c.args.text.now c.three_digits.result c.three_digits.ensures.number
