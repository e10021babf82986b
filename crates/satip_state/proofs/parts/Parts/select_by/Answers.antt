use Rattle.std.proofs.Common.{◌∙◌, sym, rules}
use Rattle.satip_state.proofs.RequestRetune.{selected_by, unasked_stays}
use Rattle.satip_state.proofs.parts.Parts.select_by.Goals as goal

pub returns-then-not-asks_pids : goal.returns-then-not-asks_pids
returns-then-not-asks_pids c = record {
  selected = λ g st own s has asked. unasked_stays g c.args.self.now st s c.args.number c.args.query.now (c.asks_pids.ensures.stay (search rules));
}

pub returns : goal.returns
returns c = record {
  selected = λ g st own s has asked. selected_by g c.change_pids.new.self st c.args.number own c.args.pids.now c.args.query.now has
      (asked (sym c.asks_pids.ensures.asks ∙ search rules)) (c.change_pids.ensures.changed g st s);
}
