use Rattle.std.proofs.Common.{◌≡◌, ◌<◌, length, get_or, arith}
use Rattle.satip_client.proofs.Lines.{reason-run, reason-only}
use Rattle.satip_client.proofs.heads.reason_end.Goals as goal

pub returns-clause-reason : goal.returns-clause-reason
returns-clause-reason c =
    let inside : 12 < length c.args.text.now = omega arith in
    let space : get_or c.args.text.now 12 0 ≡ 32 = omega arith in
    reason-run inside space c.phrase_end.ensures.run

pub returns-clause-only : goal.returns-clause-only
returns-clause-only c =
    let inside : 12 < length c.args.text.now = omega arith in
    let space : get_or c.args.text.now 12 0 ≡ 32 = omega arith in
    reason-only inside space c.phrase_end.ensures.run
