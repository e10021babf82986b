-- The outcome of a stress run, by its status.
use Rattle.std.proofs.Common.{◌≡◌, ℕ, inl, inr, refl, arith}
use Rattle.satip_base.specs.Streams.{Feed, Drain, Rose}
use Rattle.satip_config.specs.declared.outcome.Outcome.{Outcome}
use Rattle.satip_config.specs.declared.outcome.Outcome.TheVariants.{Done, OutputFault, OutOfMemory}
use Rattle.satip_config.specs.Outcomes.{status_of}
use Rattle.satip_stress.specs.Ends.{StressRuns, stressed}
use Rattle.satip_stress.specs.CommandEnds.{StressEnds}

-- a stress run
pub stress_ends : (ot : Type 0) (i : Feed) (o n : Drain) (seed count : ℕ) (end : Outcome) → StressRuns ot o n (stressed seed count) end
    → StressEnds ot seed count i i o n (status_of end)
stress_ends ot i o n seed count Done put = record {
  status_is = inl refl;
  input = refl;
  counted = λ is. put;
  counted_partly = λ is. absurd (omega (arith, is));
  wants = λ is. absurd (omega (arith, is));
}
stress_ends ot i o n seed count OutputFault failed = record {
  status_is = inr (inl refl);
  input = refl;
  counted = λ is. absurd (omega (arith, is));
  counted_partly = λ is. failed;
  wants = λ is. absurd (omega (arith, is));
}
stress_ends ot i o n seed count OutOfMemory same = record {
  status_is = inr (inr (inl refl));
  input = refl;
  counted = λ is. absurd (omega (arith, is));
  counted_partly = λ is. absurd (omega (arith, is));
  wants = λ is. same;
}
stress_ends ot i o n seed count _ never = absurd never

-- why the output failed
pub output_fault_of : (ot : Type 0) (o n : Drain) (seed count : ℕ) (end : Outcome) → StressRuns ot o n (stressed seed count) end → end ≡ OutputFault
    → Rose o.faults n.faults
output_fault_of ot o n seed count OutputFault failed is = failed.faults
output_fault_of ot o n seed count _ runs is = absurd (cc is)
