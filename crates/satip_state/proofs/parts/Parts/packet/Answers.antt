use Rattle.std.proofs.Common.{◌≡◌, true, false, sym, subst, ◌∙◌, rules}
use Rattle.satip_table.specs.Living.{Sound}
use Rattle.satip_plain.specs.Steps.{is_current, deliver}
use Rattle.satip_state.specs.Kept.{Kept}
use Rattle.satip_state.specs.Standing.{StandsFor}
use Rattle.satip_state.proofs.Delivered.{packet_moved, stale_moved, current_moved}
use Rattle.satip_state.proofs.parts.Parts.packet.Goals as goal

pub returns-then-not-is_current-clause-moved : goal.returns-then-not-is_current-clause-moved
returns-then-not-is_current-clause-moved c config st stands =
    let stale : c.is_current.result ≡ false = search rules in
    stale_moved config c.args.self.now c.args.out.now st stands (is_current st c.args.front c.args.tune) (deliver c.args.front c.args.packet.now st)
    (sym (c.is_current.ensures.current config st stands) ∙ stale)

pub returns-clause-moved : goal.returns-clause-moved
returns-clause-moved c config st stands =
    let inside : Kept = record {
      clock = c.self.inside.clock;
      stopped = c.self.inside.stopped;
      timeout = c.self.inside.timeout;
      table = c.self.inside.table;
      dues = c.self.inside.timer;
      fronts = c.self.inside.fronts;
      flow = c.self.inside.flow;
    } in
    let same : c.args.self.now ≡ inside = sym c.self.view_is in
    let current : c.is_current.result ≡ true = search rules in
    current_moved config c.end_marked.new.self c.args.out.now c.packet-overrun.new.out st (is_current st c.args.front c.args.tune)
    (deliver c.args.front c.args.packet.now st)
    (sym (c.is_current.ensures.current config st stands) ∙ current)
    (packet_moved config inside c.end_marked.new.self c.args.out.now c.packet-overrun.new.out st (subst (λ (v : Kept). StandsFor config v st) same stands)
    c.self.invariant.table c.self.invariant.fronts c.args.front c.args.packet.now
    c.packet-overrun.new.self c.packet-overrun.ensures.given c.packet-overrun.ensures.sent
    c.packet-overrun.result c.packet-overrun.ensures.overrun
    (λ now ends e. c.end_marked.ensures.ended config now ends e)
    (subst (λ (v : Kept). Sound v.table) c.self-2.view_is c.self-2.invariant.table))
