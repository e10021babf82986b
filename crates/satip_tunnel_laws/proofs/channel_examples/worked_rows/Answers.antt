use Rattle.std.proofs.Common.{◌≡◌, true, false, refl, inl}
use Rattle.satip_fronts.specs.Choice.{choose, blocked, least, placed, may_take}
use Rattle.satip_plain.specs.Examples.{id_of, ports}
use Rattle.satip_tunnel_laws.proofs.channel_examples.worked_rows.Goals as goal

pub returns-clause-owned : goal.returns-clause-owned
unfolding choose blocked least placed may_take
returns-clause-owned c = record {
  setup = record { session = id_of 1 10; peer = record { ip = 1 }; ports = ports 1 };
  has = inl refl;
  of = refl;
  its_own = (λ same. (refl, refl), tt);
  others = (λ other. let no : true ≡ false = other in absurd (cc no), tt);
}

pub returns-clause-taken : goal.returns-clause-taken
unfolding choose blocked least placed may_take
returns-clause-taken c = λ owns. (owns.others.1.0 refl refl).0 refl
