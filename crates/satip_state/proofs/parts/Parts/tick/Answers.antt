use Rattle.std.proofs.Common.{max, not, true}
use Rattle.satip_plain.specs.Sending.{each_of, let_go}
use Rattle.satip_plain.specs.Steps.{capped}
use Rattle.satip_state.proofs.Ticks.{tick_moved}
use Rattle.satip_state.proofs.parts.Parts.tick.Goals as goal

pub returns-clause-moved : goal.returns-clause-moved
returns-clause-moved c config st stands same =
    let on = c.advance.ensures.advanced config st stands in
    let flushed = c.flush_all.ensures.moved config (record st { clock = max st.clock (capped c.args.now) }) on in
    let ended = c.end_expired.ensures.ended config
    (each_of (λ s. not s.http) (let_go true (max st.clock (capped c.args.now))) (record st { clock = max st.clock (capped c.args.now) })).state
    flushed.stands in
    let reports = c.send_reports.ensures.moved config _ ended same in
    tick_moved config c.advance.new.self c.flush_all.new.self c.end_expired.new.self c.send_reports.new.self c.args.out.now c.flush_all.new.out
    c.send_reports.new.out st c.args.now
    on flushed ended reports
