-- The meaning of a talk's status.
use Rattle.std.proofs.Common.{◌≡◌, ℕ, ◌+◌, ◌-◌, ◌<◌, ◌≤◌, ◌↔◌, inl, inr, Some, None, refl, ap, arith}
use Rattle.satip_base.specs.Streams.{Rose}
use Rattle.satip_base.specs.Lists.{Has}
use Rattle.satip_config.specs.Lines.{Says}
use Rattle.satip_config.specs.Outcomes.{line_of, status_of}
use Rattle.satip_config.specs.declared.outcome.Outcome.{Outcome}
use Rattle.satip_config.specs.declared.outcome.Outcome.TheVariants.{InputFault, OutputFault, TooLong}
use Rattle.satip_config.proofs.OutcomeLemmas.{is_input, is_long, is_output}
use Rattle.satip_talk_command.specs.Runs.{input_limit}
use Rattle.satip_talk_command.specs.Ends.{talk_statuses}
use Rattle.satip_desk.specs.Streams.{Streams, Tells}
use Rattle.satip_desk.specs.Views.{DeskView}
use Rattle.satip_program.specs.Commands.{Talk}
use Rattle.satip_program.specs.Ended.{ended_alone}
use Rattle.satip_program.specs.Runs.{StatusTells}
use Rattle.satip_program.proofs.RunLemmas.{alone, input_statuses, input_tells}

talk_has : (status : ℕ) → Has status talk_statuses → Has status input_statuses
talk_has status (inl is) = inl is
talk_has status (inr (inl is)) = inr (inr (inr (inl is)))
talk_has status (inr (inr (inl is))) = inr (inr (inr (inr (inl is))))
talk_has status (inr (inr (inr (inl is)))) = inr (inr (inr (inr (inr (inl is)))))
talk_has status (inr (inr (inr (inr (inl is))))) = inr (inr (inr (inr (inr (inr (inl is))))))
talk_has status (inr (inr (inr (inr (inr none))))) = absurd none

-- no status of a talk tells a place in a text
no_place : (status : ℕ) → Has status talk_statuses → (status ≡ 3 → ⊥) × (status ≡ 4 → ⊥)
no_place status (inl is) = ((λ x. omega (arith, is, x)), λ x. omega (arith, is, x))
no_place status (inr (inl is)) = ((λ x. omega (arith, is, x)), λ x. omega (arith, is, x))
no_place status (inr (inr (inl is))) = ((λ x. omega (arith, is, x)), λ x. omega (arith, is, x))
no_place status (inr (inr (inr (inl is)))) = ((λ x. omega (arith, is, x)), λ x. omega (arith, is, x))
no_place status (inr (inr (inr (inr (inl is))))) = ((λ x. omega (arith, is, x)), λ x. omega (arith, is, x))
no_place status (inr (inr (inr (inr (inr none))))) = absurd none

-- what the status of a talk tells
pub talk_tells : (t : Tells) (d : DeskView) (s r : Streams) (end : Outcome) → Has (status_of end) talk_statuses
    → (end ≡ InputFault → Rose s.input.faults r.input.faults) → (end ≡ OutputFault → Rose s.output.faults r.output.faults)
    → ((end ≡ TooLong) ↔ (input_limit < r.input.taken - s.input.taken)) → r.input.taken ≤ s.input.taken + input_limit + 1
    → Says t.errors s.errors r.errors (line_of end)
    → StatusTells t (alone (Some Talk)) d d s r (ended_alone None (status_of end))
talk_tells t d s r end has input output long limit line =
    let other = no_place (status_of end) has in
    input_tells t Talk d d s r (ended_alone None (status_of end)) (talk_has (status_of end) has)
    (λ is. absurd (other.0 is)) (λ is. absurd (other.1 is))
    (λ is. inr (inr (input (is_input end is)))) (λ is. output (is_output end is))
    ((λ is. long.0 (is_long end is)), λ more. ap status_of (long.1 more)) limit
    (record { outcome = end; status_is = refl; says = line })
