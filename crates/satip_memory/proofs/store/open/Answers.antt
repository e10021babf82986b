use Rattle.std.proofs.Common.{sym}
use Rattle.satip_memory.proofs.ReelLemmas.{recording_started}
use Rattle.satip_memory.proofs.store.open.Goals as goal

pub returns-in-Ok : goal.returns-in-Ok
returns-in-Ok c = record {
  started = recording_started c.args.mux c.args.reels.now c.in-Some.reel.now c.in-Ok.source _ (sym c.in-Some.ensures.found) c.deref.ensures.value
      c.in-Ok.ensures.ok;
}
