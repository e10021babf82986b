use Rattle.std.proofs.Common.{refl}
use Rattle.satip_tunnel.specs.Walk.{Free, Draining, Over}
use Rattle.satip_tunnel.proofs.ExchangeLemmas.{drains_dry, drains_none, drains_then, drains_then_lost, drains_then_stop}
use Rattle.satip_tunnel.proofs.exchanges.drain_all.Goals as goal

pub loop-init : goal.loop-init
loop-init g c = λ from may. (from, may, drains_none _ c.args.lane _ _ from, refl)

pub loop-preserved : goal.loop-preserved
loop-preserved g c = λ from may.
    let before = c.loop.invariant from may in (
      Draining,
      tt,
      drains_then _ _ _ _ _ _ _ _ from before.0 before.2 before.3 Draining (c.in-More.ensures.drains before.0 before.1),
      drains_dry _ _ _ _ _ _ _ _ from before.0 before.2 before.3 (c.in-More.ensures.drains before.0 before.1),
    )

pub returns-in-Dry : goal.returns-in-Dry
returns-in-Dry g c = record {
  drains = λ from may.
      let before = c.loop.invariant from may in
      drains_then _ _ _ _ _ _ _ _ from before.0 before.2 before.3 Free (c.in-Dry.ensures.drains before.0 before.1);
}

pub returns-in-Broken : goal.returns-in-Broken
returns-in-Broken g c = record {
  drains = λ from may.
      let before = c.loop.invariant from may in
      drains_then _ _ _ _ _ _ _ _ from before.0 before.2 before.3 Over (c.in-Broken.ensures.drains before.0 before.1);
}

pub returns-in-Lost : goal.returns-in-Lost
returns-in-Lost g c = record {
  drains = λ from may.
      let before = c.loop.invariant from may in
      drains_then_lost _ _ _ _ _ _ _ _ from before.0 before.2 before.3 (c.in-Lost.ensures.drains before.0 before.1);
}

pub returns-in-Spent : goal.returns-in-Spent
returns-in-Spent g c = record {
  drains = λ from may.
      let before = c.loop.invariant from may in
      drains_then_stop _ _ _ _ _ _ _ _ from before.0 before.2 before.3 (c.in-Spent.ensures.drains before.0 before.1);
}
