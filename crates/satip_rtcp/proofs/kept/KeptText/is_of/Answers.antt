use Rattle.std.proofs.Common.{◌∙◌, ap, sym}
use Rattle.std.proofs.lemmas.Bool.{not-false}
use Rattle.satip_rtcp.specs.Ses1.{ses1}
use Rattle.satip_rtcp.proofs.SameTexts.{same_bool, same_given, same_text}
use Rattle.satip_rtcp.proofs.kept.KeptText.is_of.Goals as goal

pub returns : goal.returns
returns c = record {
  same = λ yes.
      let tuning = same_given c.self.inside.view.tuning c.args.view.now.tuning (not-false _ (sym c.if-ne.ensures)) in
      ap ses1 (sym c.self.view_is)
      ∙ same_text c.self.inside.view c.args.view.now c.if-self-view.false (same_bool _ _ (not-false _ c.if-self-view-2.false)) tuning (c.has_same.ensures.same yes);
}
