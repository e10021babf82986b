use Rattle.satip_solo.proofs.LogLemmas.{called_by, setting_by}
use Rattle.satip_solo.proofs.solo.SoloService.call.Goals as goal

pub returns : goal.returns
returns c = record {
  same = setting_by _ _ _ _ _ c.make.ensures.made;
  called = called_by _ _ _ _ _ c.make.ensures.made c.make.ensures.legal;
  goes = c.make.ensures.made;
}
