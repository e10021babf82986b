use Rattle.std.proofs.Common.{◌≡◌, [], refl, arith, rules}
use Rattle.satip_pump.proofs.ReadingLemmas.{buffers, kept_goes, reads_then}
use Rattle.satip_pump.proofs.WorkLemmas.{none_waits}
use Rattle.satip_pump.proofs.reading.fill.Goals as goal

pub loop-init : goal.loop-init
loop-init g c =
    let empty : c.args.reading.now.buffer.packets ≡ [] = none_waits c.args.reading.now.buffer.packets (omega arith) in (
      tt,
      tt,
      buffers _ _ _ c.args.reading.now c.renew.new.self (λ first early reel stands.
          kept_goes _ _ first _ early reel c.args.reading.now c.renew.new.self stands (rw c.renew.ensures.renewed refl) (rw c.renew.ensures.renewed refl)),
      rw (c.renew.ensures.renewed, empty) refl,
      rw (c.renew.ensures.renewed, empty) (omega arith),
    )

pub loop-preserved : goal.loop-preserved
loop-preserved g c = (
  tt,
  tt,
  reads_then _ _ _ _ _ _ _ _ c.loop.invariant.2 c.read_one.ensures.reads_on,
  search rules,
  search rules,
)
