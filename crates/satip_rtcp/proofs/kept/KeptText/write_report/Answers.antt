use Rattle.std.proofs.Common.{◌≡◌, ◌≤◌, ℕ, List, length, ap, subst, ◌∙◌}
use Rattle.satip_base.specs.Output.{Sends}
use Rattle.satip_base.specs.declared.limits.TheConstants.{REPORT}
use Rattle.satip_rtcp.specs.Ses1.{ses1}
use Rattle.satip_rtcp.specs.Kept.{report_with}
use Rattle.satip_rtcp.specs.Reports.{report}
use Rattle.satip_rtcp.proofs.kept.KeptText.write_report.Goals as goal

-- the text that is written is that of the view
text_is : (c : goal.After-write_parts) → c.bytes.result.now ≡ ses1 c.args.view.now
text_is c = c.bytes.ensures.bytes ∙ c.self.invariant.text ∙ ap ses1 c.self.view_is ∙ c.renew.ensures.text

pub returns-clause-sent : goal.returns-clause-sent
unfolding report
returns-clause-sent c =
    subst (λ (bs : List ℕ). Sends c.args.out.now c.args.sender.now.to (report_with bs c.args.sender.now) c.write_parts.new.out) (text_is c)
    c.write_parts.ensures.sent

pub returns-clause-bound : goal.returns-clause-bound
unfolding report
returns-clause-bound c = subst (λ (bs : List ℕ). length (report_with bs c.args.sender.now) ≤ REPORT) (text_is c) c.write_parts.ensures.bound
