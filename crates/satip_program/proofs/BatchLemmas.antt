-- The meaning of the status of a replay or an audit.
use Rattle.std.proofs.Common.{◌≡◌, ℕ, ◌+◌, ◌-◌, ◌<◌, ◌≤◌, ◌⊎◌, ◌↔◌, List, Option, Some, None, IsSome, IsSomeAnd, refl, ap}
use Rattle.satip_base.specs.Streams.{Feed, Rose}
use Rattle.satip_base.specs.Lists.{Has}
use Rattle.satip_config.specs.Lines.{Says}
use Rattle.satip_config.specs.Outcomes.{line_of, status_of}
use Rattle.satip_config.specs.declared.outcome.Outcome.{Outcome}
use Rattle.satip_config.specs.declared.outcome.Outcome.TheVariants.{InputFault, OutputFault, TooLong}
use Rattle.satip_config.proofs.OutcomeLemmas.{is_input, is_long, is_output}
use Rattle.satip_replay.specs.Replays.{script_limit}
use Rattle.satip_replay.specs.BatchCommands.{batch_statuses}
use Rattle.satip_desk.specs.Streams.{Streams, Tells}
use Rattle.satip_desk.specs.Views.{DeskView}
use Rattle.satip_program.specs.Commands.{Form, config_named}
use Rattle.satip_program.specs.Ended.{ended_alone}
use Rattle.satip_program.specs.Runs.{CommandEnds, RunEnds, StatusTells}
use Rattle.satip_program.proofs.RunLemmas.{alone, back_alone, input_tells}

-- what the status of a command over a configuration tells
pub batch_tells : (t : Tells) (form : Form) (d f : DeskView) (s r : Streams) (source : Option Feed) (end : Outcome) → IsSome (config_named (Some form))
    → Has (status_of end) batch_statuses
    → (end ≡ InputFault → Rose d.faults f.faults ⊎ IsSomeAnd source (λ s. Rose 0 s.faults) ⊎ Rose s.input.faults r.input.faults)
    → (end ≡ OutputFault → Rose s.output.faults r.output.faults) → ((end ≡ TooLong) ↔ (script_limit < r.input.taken - s.input.taken))
    → r.input.taken ≤ s.input.taken + script_limit + 1 → Says t.errors s.errors r.errors (line_of end)
    → StatusTells t (alone (Some form)) d f s r (ended_alone source (status_of end))
batch_tells t form d f s r source end named has input output long limit line =
    input_tells t form d f s r (ended_alone source (status_of end)) has (λ is. named) (λ is. named)
    (λ is. input (is_input end is)) (λ is. output (is_output end is))
    ((λ is. long.0 (is_long end is)), λ more. ap status_of (long.1 more)) limit
    (record { outcome = end; status_is = refl; says = line })

never_none : (name : Option (List ℕ)) → IsSome name → name ≡ None → ⊥
never_none None some is = cc some
never_none (Some bytes) some is = cc is

-- a command over a configuration
pub batch_ends : (t : Tells) (form : Form) (d f : DeskView) (s r : Streams) (source : Option Feed) (status : ℕ) → IsSome (config_named (Some form))
    → CommandEnds t d f s r (ended_alone source status) (Some form) → f.text ≡ d.text → f.given ≡ d.given → f.handed ≡ d.handed
    → f.journaled ≡ d.journaled → StatusTells t (alone (Some form)) d f s r (ended_alone source status)
    → RunEnds t (alone (Some form)) d f s r (ended_alone source status)
batch_ends t form d f s r source status named ends texts kits handed journaled tells = record {
  command = ends;
  service = tt;
  asks = record {
    nothing = λ a b. absurd (never_none (config_named (Some form)) named b);
    texts = texts;
    kits = λ a. kits;
    client = λ a. handed;
    journals = λ a. journaled;
  };
  back = back_alone (Some form) source status (λ b. absurd (never_none (config_named (Some form)) named b));
  tells = tells;
}
