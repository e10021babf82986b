-- The meaning of a stress run's status.
use Rattle.std.proofs.Common.{◌≡◌, ℕ, Some, None, refl}
use Rattle.satip_base.specs.Streams.{Feed, Drain, Rose}
use Rattle.satip_base.specs.Lists.{Has}
use Rattle.satip_config.specs.Lines.{Says}
use Rattle.satip_config.specs.Outcomes.{line_of, status_of}
use Rattle.satip_config.specs.declared.outcome.Outcome.{Outcome}
use Rattle.satip_config.specs.declared.outcome.Outcome.TheVariants.{OutputFault}
use Rattle.satip_config.proofs.OutcomeLemmas.{is_output}
use Rattle.satip_stress.specs.CommandEnds.{stress_statuses}
use Rattle.satip_desk.specs.Streams.{Tells}
use Rattle.satip_desk.specs.Views.{DeskView}
use Rattle.satip_program.specs.Commands.{Stress}
use Rattle.satip_program.specs.Ended.{ended_alone}
use Rattle.satip_program.specs.Runs.{StatusTells}
use Rattle.satip_program.proofs.RunLemmas.{alone, output_tells}

-- what the status of a stress run tells
pub stress_tells : (t : Tells) (seed count : ℕ) (d : DeskView) (i : Feed) (o n e m : Drain) (end : Outcome)
    → Has (status_of end) stress_statuses → (end ≡ OutputFault → Rose o.faults n.faults) → Says t.errors e m (line_of end)
    → StatusTells t (alone (Some (Stress seed count))) d d (record { input = i; output = o; errors = e }) (record { input = i; output = n; errors = m })
    (ended_alone None (status_of end))
stress_tells t seed count d i o n e m end has output line =
    output_tells t (Stress seed count) d d i o n e m None (status_of end) has (λ is. output (is_output end is))
    (record { outcome = end; status_is = refl; says = line })
