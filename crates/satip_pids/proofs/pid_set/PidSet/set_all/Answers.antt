use Rattle.std.proofs.Common.{ℕ, replicate, inr, refl}
use Rattle.std.proofs.lemmas.List.{length-replicate}
use Rattle.satip_pids.proofs.SetViews.{every_view, all_whole}
use Rattle.satip_pids.proofs.pid_set.PidSet.set_all.Goals as goal

pub invariant_of-self : goal.invariant_of-self
invariant_of-self c = record { size = length-replicate {A = ℕ} 128 18446744073709551615; kept = inr all_whole }

pub returns : goal.returns
returns c = record { every = every_view (replicate 128 18446744073709551615) 8192 refl }
