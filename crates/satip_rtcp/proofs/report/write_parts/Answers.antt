use Rattle.std.proofs.Common.{◌≡◌, ℕ, List, length, ap, subst, arith}
use Rattle.satip_base.specs.Output.{Extended, Sends}
use Rattle.satip_base.specs.Texts.{address_text}
use Rattle.satip_base.proofs.Writing.{◌then_extended◌}
use Rattle.satip_rtcp.specs.Kept.{report_with}
use Rattle.satip_rtcp.specs.Reports.{description_body, part}
use Rattle.satip_rtcp.proofs.ReportParts.{alone}
use Rattle.satip_rtcp.proofs.report.write_parts.Goals as goal

pub extend_description-requires-clause-short : goal.extend_description-requires-clause-short
extend_description-requires-clause-short c =
    let name : c.bytes.result.now ≡ address_text c.args.sender.now.address =
    alone _ _ _ _ c.new-address.ensures.empty c.write_address.ensures.printed c.bytes.ensures.bytes in
    omega (arith, ap length name, c.write_address.ensures.bound)

sent : (c : goal.After-extend_application) → Sends c.args.out.now c.args.sender.now.to (report_with c.args.text.now c.args.sender.now) c.extend_application.new.out
sent c =
    let name : c.bytes.result.now ≡ address_text c.args.sender.now.address =
    alone _ _ _ _ c.new-address.ensures.empty c.write_address.ensures.printed c.bytes.ensures.bytes in
    let described = subst (λ (bs : List ℕ). Extended c.extend_sender_report.new.out (part 129 202 (description_body c.args.sender.now.ssrc bs))
    c.extend_description.new.out) name c.extend_description.ensures.extended in
    c.begin.ensures.begun then_extended c.extend_sender_report.ensures.extended then_extended described
    then_extended c.extend_application.ensures.extended

pub returns-clause-sent : goal.returns-clause-sent
returns-clause-sent c = sent c

-- the report is as long as the room that it took
pub returns-clause-bound : goal.returns-clause-bound
returns-clause-bound c =
    omega (
      arith,
      (sent c).datagram_spare,
      c.begin.ensures.begun.datagram_spare,
      c.extend_sender_report.ensures.spare,
      c.extend_description.ensures.spare,
      c.extend_application.ensures.spare,
    )
