-- The verdict on the journals of a run.
use Rattle.std.specs.Prelude.{ℕ, List, length, map, flat_map}
use Rattle.std.specs.List.Sorted.{IsPermutation}
use Rattle.satip_base.specs.Streams.{Drain}
use Rattle.satip_plain.specs.declared.setting.Setting.{Setting}
use Rattle.satip_plain.specs.Histories.{Item}
use Rattle.satip_audit.specs.declared.verdicts.Verdict.TheVariants.{Yes}
use Rattle.satip_audit.specs.Replaying.{IsJudged}

-- if sinks expose their bytes, these bytes, put together in any order, are judged `yes` with the length of the history
abbrev pub AreOneHistory : (tells : Type 0) → Setting → List Item → List Drain → Type 0
AreOneHistory tells c h drains = tells → (texts : List (List ℕ)) → IsPermutation (map (λ d. d.sent) drains) texts
    → IsJudged c.config (flat_map (λ text. text) texts) (Yes (length h))
