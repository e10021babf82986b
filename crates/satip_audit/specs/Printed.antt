-- The line of a verdict.
use Rattle.std.specs.Prelude.{ℕ, List, ◌++◌, codes, decimal}
use Rattle.satip_audit.specs.declared.verdicts.Verdict.{Verdict}
use Rattle.satip_audit.specs.declared.verdicts.Verdict.TheVariants.{NoStart, Repeated, Missing, Differs, Yes}

-- the line of a verdict, with the LF that ends it
abbrev pub verdict_text : Verdict → List ℕ
verdict_text NoStart = codes "no start\n"
verdict_text (Repeated place) = codes "no repeated " ++ decimal place ++ codes "\n"
verdict_text (Missing place) = codes "no missing " ++ decimal place ++ codes "\n"
verdict_text (Differs place) = codes "no differs " ++ decimal place ++ codes "\n"
verdict_text (Yes count) = codes "yes " ++ decimal count ++ codes "\n"
