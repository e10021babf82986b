use Rattle.std.proofs.Common.{length, ap, sym, ◌∙◌, refl, arith}
use Rattle.satip_rtcp.specs.Ses1.{ses1}
use Rattle.satip_rtcp.proofs.ReportParts.{alone}
use Rattle.satip_rtcp.proofs.kept.KeptText.of.Goals as goal

pub invariant_of-result : goal.invariant_of-result
invariant_of-result c =
    let text = alone _ _ _ _ c.new-text.ensures.empty c.ses1_text.ensures.printed refl in
    record {
      text = text ∙ ap ses1 (sym c.copy.ensures.same);
      short = omega (arith, ap length text, c.ses1_text.ensures.bound);
    }
