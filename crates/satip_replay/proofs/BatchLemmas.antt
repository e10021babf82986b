-- The outcome of a command over a configuration and an input, by what the desk gave.
use Rattle.std.proofs.Common.{◌≡◌, ℕ, ◌+◌, ◌≤◌, ◌⊎◌, inl, inr, List, Option, Some, None, refl, subst, ⊎_elim, arith}
use Rattle.satip_base.specs.Lists.{Has}
use Rattle.satip_base.specs.Streams.{Feed, Rose}
use Rattle.satip_world.specs.Counts.{Rises}
use Rattle.satip_world.specs.Recordings.{IsStarted}
use Rattle.satip_config.specs.Configurations.{configuration_limit}
use Rattle.satip_config.specs.Lines.{Says}
use Rattle.satip_config.specs.Outcomes.{line_of, status_of}
use Rattle.satip_config.specs.declared.outcome.Outcome.{Outcome}
use Rattle.satip_config.specs.declared.outcome.Outcome.TheVariants.{Done, Configuration, Script, Journals, InputFault, OutputFault, TooLong, OutOfMemory}
use Rattle.satip_desk.specs.Streams.{Streams}
use Rattle.satip_desk.specs.Views.{DeskView}
use Rattle.satip_replay.specs.BatchStreams.{BatchStreams, with_config}
use Rattle.satip_replay.specs.BatchCommands.{BatchCommand, BatchEnds, BatchRuns, batch_statuses}
use Rattle.satip_replay.specs.Ends.{ConfigurationFails, InputFails}

-- the status of each outcome
has_status : (ct : Type 0) (o n : BatchStreams) (end : Outcome) → BatchRuns ct o n end → Has (status_of end) batch_statuses
has_status ct o n Done runs = inl refl
has_status ct o n (Configuration fault) runs = inr (inl refl)
has_status ct o n (Script number) runs = inr (inr (inl refl))
has_status ct o n (Journals number) runs = inr (inr (inl refl))
has_status ct o n InputFault runs = inr (inr (inr (inl refl)))
has_status ct o n OutputFault runs = inr (inr (inr (inr (inl refl))))
has_status ct o n TooLong runs = inr (inr (inr (inr (inr (inl refl)))))
has_status ct o n OutOfMemory runs = inr (inr (inr (inr (inr (inr (inl refl))))))
has_status ct o n _ never = absurd never

-- the desk gave no configuration
pub unopened_ends : (c : BatchCommand) (name : List ℕ) (d f : DeskView) (s r : Streams) → Rises d.faults f.faults → r.input ≡ s.input → r.output ≡ s.output
    → Says c.tells.errors s.errors r.errors (line_of InputFault) → BatchEnds c name d f s r None (status_of InputFault)
unopened_ends c name d f s r rises input output line = record {
  status_is = inr (inr (inr (inl refl)));
  ending = InputFault;
  ending_status = refl;
  says = line;
  outcome = record { ending_is = refl; input = input; output = output };
  config = rises;
  config_limit = tt;
  settled = λ told is tells desk source failed. absurd (desk rises.rose);
}

-- the desk gave a configuration
pub opened_ends : (c : BatchCommand) (name : List ℕ) (d f : DeskView) (s r : Streams) (before after : Feed) (ending : Outcome)
    → BatchRuns c.tells.config (with_config before s) (with_config after r) ending → f.faults ≡ d.faults → IsStarted c.tells.config before (d.text name) → before.taken ≡ 0
    → c.outcome (with_config before s) (with_config after r) ending
    → after.taken ≤ before.taken + configuration_limit + 1
    → (c.tells.config → c.tells.input → (Rose before.faults after.faults → ⊥) → (Rose s.input.faults r.input.faults → ⊥)
    → c.allows before.left s.input.left ending)
    → Says c.tells.errors s.errors r.errors (line_of ending)
    → BatchEnds c name d f s r (Some after) (status_of ending)
opened_ends c name d f s r before after ending runs desk started untaken outcome limit settled line = record {
  status_is = has_status c.tells.config (with_config before s) (with_config after r) ending runs;
  ending = ending;
  ending_status = refl;
  says = line;
  outcome = record { source = before; started = started; untaken = untaken; said = outcome };
  config = desk;
  config_limit = omega (arith, limit, untaken);
  settled = λ told is tells still source input.
      let P : Option (List ℕ) → Type 0 = λ t. IsStarted c.tells.config before t in
      let begun : IsStarted c.tells.config before (Some told) = subst P is started in
      let R : ℕ → Type 0 = λ k. Rose k after.faults in
      let L : List ℕ → Type 0 = λ t. c.allows t s.input.left ending in
      let allowed : c.allows before.left s.input.left ending = settled begun.holds.0 tells (λ rose. source (subst R begun.faults rose)) input in
      subst L begun.holds.1 allowed;
}

-- the cause of an input fault: one of the configuration that the desk gave, or of the input
pub input_fault_of : (ct : Type 0) (text : Option (List ℕ)) (o n : BatchStreams) (Desk : Type 0) (end : Outcome) → IsStarted ct o.config text
    → BatchRuns ct o n end → end ≡ InputFault → Desk ⊎ Rose 0 n.config.faults ⊎ Rose o.input.faults n.input.faults
input_fault_of ct text o n Desk InputFault started ends is =
    let R : ℕ → Type 0 = λ k. Rose k n.config.faults in
    ⊎_elim (λ (fails : ConfigurationFails o n). inr (inl (subst R started.faults fails.rose)))
    (λ (fails : InputFails ct o n). inr (inr fails.rose)) ends.cause
input_fault_of ct text o n Desk _ started ends is = absurd (cc is)

-- the cause of an output fault
pub output_fault_of : (ct : Type 0) (o n : BatchStreams) (end : Outcome) → BatchRuns ct o n end → end ≡ OutputFault → Rose o.output.faults n.output.faults
output_fault_of ct o n OutputFault rose is = rose
output_fault_of ct o n _ runs is = absurd (cc is)
