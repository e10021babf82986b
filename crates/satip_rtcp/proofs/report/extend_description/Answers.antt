use Rattle.std.proofs.Common.{ℕ, sym, subst}
use Rattle.satip_base.specs.Output.{Extended}
use Rattle.satip_base.proofs.Writing.{◌and_extended◌}
use Rattle.satip_rtcp.specs.Reports.{description_body, header}
use Rattle.satip_rtcp.proofs.ReportParts.{length-description}
use Rattle.satip_rtcp.proofs.report.extend_description.Goals as goal

pub returns-clause-extended : goal.returns-clause-extended
unfolding description_body
returns-clause-extended c =
    let first = subst (λ (n : ℕ). Extended c.args.out.now (header 129 202 n) c.extend_header.new.out) (sym (length-description c.args.ssrc c.args.name.now))
    c.extend_header.ensures.extended in
    first and_extended (
    c.extend_word.ensures.extended and_extended c.extend.ensures.extended and_extended c.extend-2.ensures.extended and_extended c.extend_zeros.ensures.extended
    )
