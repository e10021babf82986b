-- Journals whose verdicts were worked out by hand.
use Rattle.std.specs.Prelude.{ℕ, [], ◌∷◌}
use Rattle.satip_plain.specs.declared.answers.Answer.{Answer}
use Rattle.satip_plain.specs.declared.answers.Answer.TheVariants.{Beat}
use Rattle.satip_plain.specs.declared.answers.Beat.TheVariants.{Going, Stopping}
use Rattle.satip_plain.specs.declared.events.Event.{Event}
use Rattle.satip_plain.specs.declared.events.Event.TheVariants.{Stop}
use Rattle.satip_plain.specs.Types.{Config}
use Rattle.satip_audit.specs.declared.verdicts.Verdict.TheVariants.{NoStart, Repeated, Missing, Differs, Yes}
use Rattle.satip_audit.specs.Journals.{Note, Start, Entered}
use Rattle.satip_audit.specs.Verdicts.{IsVerdict}

-- the entry of an event that has no reply and no datagrams
abbrev pub silent : ℕ → ℕ → Event → Answer → Note
silent place caller event answer =
    Entered (record { place = place; caller = caller; entry = record { event = event; answer = answer; reply = []; datagrams = [] } })

abbrev pub StopIsYes : Type 0
StopIsYes = (config : Config) → IsVerdict config (Start 0 ∷ silent 0 0 Stop (Beat Stopping) ∷ []) (Yes 1)

abbrev pub OtherAnswerDiffers : Type 0
OtherAnswerDiffers = (config : Config) → IsVerdict config (Start 0 ∷ silent 0 0 Stop (Beat Going) ∷ []) (Differs 0)

abbrev pub SecondIsMissing : Type 0
SecondIsMissing = (config : Config)
    → IsVerdict config (Start 0 ∷ silent 0 0 Stop (Beat Stopping) ∷ silent 2 1 Stop (Beat Stopping) ∷ []) (Missing 1)

abbrev pub SameTwiceIsRepeated : Type 0
SameTwiceIsRepeated = (config : Config)
    → IsVerdict config (Start 0 ∷ silent 0 0 Stop (Beat Stopping) ∷ silent 0 0 Stop (Beat Stopping) ∷ []) (Repeated 0)

abbrev pub WithoutStart : Type 0
WithoutStart = (config : Config) → IsVerdict config (silent 0 0 Stop (Beat Stopping) ∷ []) NoStart
