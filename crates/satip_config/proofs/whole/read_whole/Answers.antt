use Rattle.std.proofs.Common.{arith}
use Rattle.satip_config.proofs.ReadLemmas.{ends_too_long, ends_wanting}
use Rattle.satip_config.proofs.whole.read_whole.Goals as goal

pub returns-then-count-limit : goal.returns-then-count-limit
returns-then-count-limit g c = record {
  ends = ends_too_long _ _ _ _ _ _ _ _ c.source.invariant.1 c.in-Got.ensures.takes
      (omega (arith, c.source.invariant.1.short, c.room_for.ensures.limit, c.in-Got.ensures.room, c.if-count-limit.true));
}

pub returns-then-is_err : goal.returns-then-is_err
returns-then-is_err g c = record {
  ends = ends_wanting _ _ _ _ _ _ _ _ c.source.invariant.1 c.in-Got.ensures.takes
      (omega (arith, c.source.invariant.1.short, c.if-count-limit.false));
}
