-- One pass more is joined.
use Rattle.std.proofs.Common.{List, [], ◌∷◌, ◌++◌, arith, ap, ◌∙◌, subst}
use Rattle.satip_plain.specs.declared.setting.Setting.{Setting}
use Rattle.satip_turn.specs.Shown.{Cell, Knows}
use Rattle.satip_jobs.specs.declared.end.ServeEnd.{ServeEnd}
use Rattle.satip_jobs.specs.declared.seat.Seat.{Seat}
use Rattle.satip_jobs.specs.Crews.{AreAlone}
use Rattle.satip_jobs.specs.Ends.{worse}
use Rattle.satip_jobs.proofs.Seating.{joins_more, joined_more}
use Rattle.satip_jobs.proofs.callers.join_all.Goals as goal

pub loop-root-preserved : goal.loop-root-preserved
loop-root-preserved g c =
    let i = c.loop-root.invariant in
    let x = g.X.Crew in
    let first = c.take_first.ensures in
    let one = c.join_one-kit.ensures in
    let kits = c.put_last.ensures in
    let gears = c.put_last-in-loop-root.ensures in
    let seat = c.take_first.result in
    let joined = i.joined.1 in
    let alone : AreAlone x.cell x.pass (x.cell c.args.root.now) (seat ∷ c.take_first.new.items.items) =
    subst (λ (ss : List (Seat g.row.X.Denot g.row.K.Denot g.row.M.Denot)). AreAlone x.cell x.pass (x.cell c.args.root.now) ss) first.first i.alone in
    let joins = joins_more x.pass (x.pass c.args.root.now) (x.pass c.loop-root.root) (x.pass c.join_one-kit.new.root) i.joined.0 seat joined.joins one.joined
    alone.0.1 one.mine one.theirs in
    record {
      knows = subst (λ (k : Cell Setting). Knows (x.legal k.setting) (x.pass c.join_one-kit.new.root)) joined.cell_is one.knows;
      alone = alone.1;
      joined = (
        i.joined.0 ++ seat ∷ [],
        joined_more x.cell x.pass x.gear c.args.root.now c.loop-root.root c.join_one-kit.new.root c.args.seats.now.items i.joined.0 c.loop-root.seats.items
            c.take_first.new.items.items seat c.loop-root.kits.items c.put_last.new.items.items c.loop-root.gears.items c.put_last-in-loop-root.new.items.items
            c.loop-root.worst c.and-worst.result joined first.first one.cell one.root_gear joins
            (kits.last ∙ ap (λ (k : g.row.K.Denot). c.loop-root.kits.items ++ k ∷ []) one.kit)
            (gears.last ∙ ap (λ (k : g.row.X-Gear.Denot). c.loop-root.gears.items ++ k ∷ []) one.gear)
            (c.and-worst.ensures.worse ∙ ap (λ (e : ServeEnd). worse c.loop-root.worst e) one.end),
      );
      kit_space = omega (arith, i.kit_space, first.count, kits.count, kits.capacity);
      gear_space = omega (arith, i.gear_space, first.count, gears.count, gears.capacity);
    }
