use Rattle.std.proofs.Common.{drop, refl, take}
use Rattle.satip_tunnel_laws.specs.Rows.{visit}
use Rattle.satip_tunnel_laws.proofs.lane_examples.worked_owners.Goals as goal

pub returns-clause-all_before : goal.returns-clause-all_before
returns-clause-all_before c = record {
  earlier = take 4 visit;
  later = drop 5 visit;
  whole = refl;
  is_of = refl;
  is_own = refl;
  all = refl;
}
