use Rattle.std.proofs.Common.{ℕ, sym, subst}
use Rattle.satip_base.specs.Output.{Extended}
use Rattle.satip_base.proofs.Writing.{◌and_extended◌}
use Rattle.satip_rtcp.specs.Reports.{application_body, header}
use Rattle.satip_rtcp.proofs.ReportParts.{length-application}
use Rattle.satip_rtcp.proofs.report.extend_application.Goals as goal

pub returns-clause-extended : goal.returns-clause-extended
unfolding application_body
returns-clause-extended c =
    let first = subst (λ (n : ℕ). Extended c.args.out.now (header 128 204 n) c.extend_header.new.out) (sym (length-application c.args.ssrc c.args.text.now))
    c.extend_header.ensures.extended in
    first and_extended (
    c.extend_word.ensures.extended and_extended c.extend.ensures.extended and_extended c.extend_half.ensures.extended
    and_extended c.extend_half-2.ensures.extended and_extended c.extend-2.ensures.extended and_extended c.extend_zeros.ensures.extended
    )
