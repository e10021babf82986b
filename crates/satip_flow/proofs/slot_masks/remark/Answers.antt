use Rattle.std.proofs.Common.{◌≡◌, ◌<◌, ◌^◌, [], sym, ap, subst, ◌∙◌, rules}
use Rattle.satip_pids.specs.Pids.{Pids, Only}
use Rattle.satip_flow.specs.Rows.{Shows}
use Rattle.satip_flow.proofs.Rewriting.{written_shows, written_keeps, keeps_both, none_shown}
use Rattle.satip_flow.proofs.slot_masks.remark.Goals as goal

pub returns-then-eq-clause-shown : goal.returns-then-eq-clause-shown
returns-then-eq-clause-shown c =
    let same : c.args.own ≡ c.args.front = search rules in
    let old = c.args.rows.now in
    written_shows c.args.slots c.args.front c.args.old.now c.args.pids.now old c.remark_at.new.rows c.ranges.slots.fits c.remark_at.ensures.written
    (subst (λ o. Shows old c.args.slots o c.args.old.now) same c.requires.shown)

pub returns-then-eq-clause-others : goal.returns-then-eq-clause-others
returns-then-eq-clause-others c =
    written_keeps c.args.slots c.args.front c.args.old.now c.args.pids.now c.args.rows.now c.remark_at.new.rows c.ranges.slots.fits
    c.remark_at.ensures.written

pub returns-clause-shown : goal.returns-clause-shown
returns-clause-shown c =
    let slots = c.args.slots in
    let none = c.new-none.result in
    let first = c.remark_at-2.new.rows in
    let cleared = written_shows slots c.args.own c.args.old.now none c.args.rows.now first c.ranges.slots.fits c.remark_at-2.ensures.written
    c.requires.shown in
    let is_none = c.new-none.ensures.empty in
    let nothing = none_shown first slots c.args.own c.args.front (subst (λ p. Shows first slots c.args.own p) is_none cleared) in
    written_shows slots c.args.front none c.args.pids.now first c.remark_at-3.new.rows c.ranges.slots.fits c.remark_at-3.ensures.written
    (subst (λ p. Shows first slots c.args.front p) (sym is_none) nothing)

pub returns-clause-others : goal.returns-clause-others
returns-clause-others c =
    let slots = c.args.slots in
    let none = c.new-none.result in
    let first = c.remark_at-2.new.rows in
    let last = c.remark_at-3.new.rows in
    keeps_both slots c.args.rows.now first last
    (written_keeps slots c.args.own c.args.old.now none c.args.rows.now first c.ranges.slots.fits c.remark_at-2.ensures.written)
    (written_keeps slots c.args.front none c.args.pids.now first last c.ranges.slots.fits c.remark_at-3.ensures.written)
