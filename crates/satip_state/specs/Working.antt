-- The work of a front end's pump, from its multiplex, its tune number and the end of its recording.
use Rattle.std.specs.Prelude.{ℕ, Bool, Option, None, Some, if◌then◌else◌}
use Rattle.satip_plain.specs.declared.answers.Work.{Work}
use Rattle.satip_plain.specs.declared.answers.Work.TheVariants.{Tune, Nothing}

abbrev pub work_of_told : Option ℕ → ℕ → Bool → Work
work_of_told None tune ended = Nothing
work_of_told (Some mux) tune ended = if ended then Nothing else Tune mux tune
