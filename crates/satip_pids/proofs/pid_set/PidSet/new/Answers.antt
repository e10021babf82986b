use Rattle.std.proofs.Common.{ℕ, replicate, inl, ap, ◌∙◌}
use Rattle.std.proofs.lemmas.List.{length-replicate}
use Rattle.satip_pids.specs.Pids.{Only}
use Rattle.satip_pids.proofs.SetViews.{listed_view, none_listed, none_members}
use Rattle.satip_pids.proofs.pid_set.PidSet.new.Goals as goal

pub invariant_of-result : goal.invariant_of-result
invariant_of-result c = record { size = length-replicate {A = ℕ} 128 0; kept = inl none_listed }

pub returns : goal.returns
returns c = record { empty = listed_view (replicate 128 0) 0 none_listed ∙ ap Only none_members }
