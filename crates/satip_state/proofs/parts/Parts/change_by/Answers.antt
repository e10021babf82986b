use Rattle.std.proofs.Common.{is_some, ap, sym, subst}
use Rattle.satip_state.specs.contracts.parts.Parts.{the_view}
use Rattle.satip_state.specs.Standing.{StandsFor}
use Rattle.satip_state.proofs.RequestPids.{rise_of}
use Rattle.satip_state.proofs.RequestRetune.{changed_moves, found_pids, gone, tuned_pids}
use Rattle.satip_state.proofs.parts.Parts.change_by.Goals as goal

pub returns-in_default-clause-moved : goal.returns-in_default-clause-moved
returns-in_default-clause-moved c = λ g st t s there asks.
    absurd (gone g (the_view c.self.inside) st (subst (λ v. StandsFor g v st) (sym c.self.view_is) s) c.args.number (ap is_some there)
    (sym c.in_default.ensures.found))

pub returns-clause-moved : goal.returns-clause-moved
returns-clause-moved c = λ g st t s there asks.
    let rise = rise_of g (the_view c.self.inside) st (subst (λ v. StandsFor g v st) (sym c.self.view_is) s) c.self.invariant.table in
    let has = tuned_pids g c.args.number st t.pids c.args.tuning (found_pids c.args.number 0 t st.streams rise there) in
    let first = c.tune_to.ensures.moved g st s (ap is_some there) in
    changed_moves g c.tune_to.new.self c.select_by.new.self c.args.out.now c.tune_to.new.out st c.args.number c.args.query.now t c.args.tuning there
    asks.sets first (c.select_by.ensures.selected g _ t.pids first.stands has asks.selects)
