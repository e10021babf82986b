-- Journals of two jobs, worked out by hand.
use Rattle.std.specs.Prelude.{◌≡◌, ℕ, List, [], ◌∷◌, ◌++◌, codes}
use Rattle.satip_base.specs.Output.{empty}
use Rattle.satip_base.specs.History.{entry}
use Rattle.satip_plain.specs.declared.answers.Answer.TheVariants.{Beat}
use Rattle.satip_plain.specs.declared.answers.Beat.TheVariants.{Stopping}
use Rattle.satip_plain.specs.declared.events.Event.TheVariants.{Stop}
use Rattle.satip_plain.specs.declared.setting.Setting.{Setting}
use Rattle.satip_plain.specs.Values.{IsServable, IsSetting}
use Rattle.satip_plain.specs.Histories.{Item}
use Rattle.satip_audit.specs.declared.verdicts.Verdict.TheVariants.{Yes}
use Rattle.satip_audit.specs.Replaying.{IsJudged}
use Rattle.satip_journal_serve.specs.Journals.{journals}

-- stops of the callers 0 and 5
abbrev pub two_stops : List Item
two_stops = entry 5 Stop (Beat Stopping) empty ∷ entry 0 Stop (Beat Stopping) empty ∷ []

abbrev pub first_journal : List ℕ
first_journal = codes "start 7\nentry 1 0 080201000000000000\n"

abbrev pub second_journal : List ℕ
second_journal = codes "entry 0 1 080201000000000000\n"

-- a line has the number of its job, and not that of the job's caller
abbrev pub JournalsOfTwo : Type 0
JournalsOfTwo = journals 7 0 (5 ∷ []) two_stops ≡ first_journal ∷ second_journal ∷ []

abbrev pub OtherOrderIsYes : Type 0
OtherOrderIsYes = (c : Setting) → IsServable c.config → IsSetting c → c.start ≡ 7
    → IsJudged c.config (second_journal ++ (first_journal ++ [])) (Yes 2)
