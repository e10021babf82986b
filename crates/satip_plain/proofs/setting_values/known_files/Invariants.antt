use Rattle.std.proofs.Common.{take}
use Rattle.satip_base.specs.Lists.{Each}
use Rattle.satip_plain.specs.Values.{AreBytes}
use Rattle.satip_plain.proofs.setting_values.known_files.Given as goal

abbrev pub invariant-loop-file : goal.invariant-loop-file
invariant-loop-file l = Each AreBytes (take l.file-index l.files)
