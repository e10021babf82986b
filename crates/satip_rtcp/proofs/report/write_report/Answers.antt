use Rattle.std.proofs.Common.{◌≡◌, ◌≤◌, ℕ, List, length, ap, subst, arith}
use Rattle.satip_base.specs.Output.{Sends}
use Rattle.satip_base.specs.declared.limits.TheConstants.{REPORT}
use Rattle.satip_rtcp.specs.Ses1.{ses1}
use Rattle.satip_rtcp.specs.Kept.{report_with}
use Rattle.satip_rtcp.specs.Reports.{report}
use Rattle.satip_rtcp.proofs.ReportParts.{alone}
use Rattle.satip_rtcp.proofs.report.write_report.Goals as goal

pub write_parts-requires-clause-short : goal.write_parts-requires-clause-short
write_parts-requires-clause-short c =
    let text : c.bytes.result.now ≡ ses1 c.args.view.now = alone _ _ _ _ c.new-text.ensures.empty c.ses1_text.ensures.printed c.bytes.ensures.bytes in
    omega (arith, ap length text, c.ses1_text.ensures.bound)

pub returns-clause-sent : goal.returns-clause-sent
unfolding report
returns-clause-sent c =
    let text : c.bytes.result.now ≡ ses1 c.args.view.now = alone _ _ _ _ c.new-text.ensures.empty c.ses1_text.ensures.printed c.bytes.ensures.bytes in
    subst (λ (bs : List ℕ). Sends c.args.out.now c.args.sender.now.to (report_with bs c.args.sender.now) c.write_parts.new.out) text
    c.write_parts.ensures.sent

pub returns-clause-bound : goal.returns-clause-bound
unfolding report
returns-clause-bound c =
    let text : c.bytes.result.now ≡ ses1 c.args.view.now = alone _ _ _ _ c.new-text.ensures.empty c.ses1_text.ensures.printed c.bytes.ensures.bytes in
    subst (λ (bs : List ℕ). length (report_with bs c.args.sender.now) ≤ REPORT) text c.write_parts.ensures.bound
