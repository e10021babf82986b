use Rattle.std.proofs.Common.{◌≡◌, sym, subst}
use Rattle.satip_state.specs.Kept.{Kept}
use Rattle.satip_state.specs.Standing.{StandsFor}
use Rattle.satip_state.proofs.Pumping.{stands_recording}
use Rattle.satip_state.proofs.parts.Parts.ended.Goals as goal

pub returns : goal.returns
returns c = record {
  ended = λ config st stands.
      let inside : Kept = record {
        clock = c.self.inside.clock;
        stopped = c.self.inside.stopped;
        timeout = c.self.inside.timeout;
        table = c.self.inside.table;
        dues = c.self.inside.timer;
        fronts = c.self.inside.fronts;
        flow = c.self.inside.flow;
      } in
      let same : c.args.self.now ≡ inside = sym c.self.view_is in
      stands_recording config inside st (subst (λ (v : Kept). StandsFor config v st) same stands) c.self.invariant.table c.args.front c.args.tune
      c.end-current.result c.end-current.new.self c.end-current.ensures.current c.end-current.ensures.ended;
}
