-- The callers are split off, run and joined again.
use Rattle.std.proofs.Common.{ℕ, List, [], ◌∷◌, ◌++◌, map, arith, sym, ap, ◌∙◌, subst}
use Rattle.satip_plain.specs.declared.setting.Setting.{Setting}
use Rattle.satip_turn.specs.Shown.{Cell}
use Rattle.satip_jobs.specs.declared.end.ServeEnd.{ServeEnd}
use Rattle.satip_jobs.specs.Crews.{AreAlone, Begun, pass_numbers}
use Rattle.satip_jobs.specs.Ends.{worse, worst as worst_of}
use Rattle.satip_jobs.specs.Passes.{PassOf, IsAlone}
use Rattle.satip_jobs.proofs.Beside.{alone_after, both_length, same_seat, still_alone}
use Rattle.satip_jobs.proofs.Seating.{joins_none, joins_more, new_born}
use Rattle.satip_jobs.proofs.run.run_jobs.Goals as goal

pub join_all-pumped-requires-clause-alone : goal.join_all-pumped-requires-clause-alone
join_all-pumped-requires-clause-alone g c κs within =
    let x = g.X.Crew in
    let pumps = c.run_both.new.back.pumps.items in
    let is = c.run_both.ensures.front.cell_is ∙ c.seat_one-ticker_seat.ensures.cell ∙ c.seat_all-2.ensures.cell in
    subst (λ (k : Cell Setting). AreAlone x.cell x.pass k pumps) (sym is)
    (alone_after x.cell x.pass (x.cell c.seat_all.new.root) _ (same_seat x.cell x.pass g.G.Fn c.args.pump.now c.requires.pump)
    c.seat_all-2.new.seats.items pumps
    c.run_both.ensures.pumps c.seat_all-2.ensures.begun.new)

pub join_all-pumped-requires-clause-kit_space : goal.join_all-pumped-requires-clause-kit_space
join_all-pumped-requires-clause-kit_space g c κs within =
    let before = c.seat_all-2.new.seats in
    let after = c.run_both.new.back.pumps in
    let same = both_length _ before.items after.items c.run_both.ensures.pumps in
    omega (arith, same, before.ok.0, after.ok.0, c.seat_all-2.ensures.seated)

pub join_all-pumped-requires-clause-gear_space : goal.join_all-pumped-requires-clause-gear_space
join_all-pumped-requires-clause-gear_space g c κs within =
    let before = c.seat_all-2.new.seats in
    let after = c.run_both.new.back.pumps in
    let same = both_length _ before.items after.items c.run_both.ensures.pumps in
    omega (arith, same, before.ok.0, after.ok.0, c.seat_all-2.ensures.geared)

pub join_one-ticker-requires-clause-cell : goal.join_one-ticker-requires-clause-cell
join_one-ticker-requires-clause-cell g c κs within =
    let x = g.X.Crew in
    let still = same_seat x.cell x.pass g.H.Fn c.args.tick.now c.requires.tick c.seat_one-ticker_seat.result c.run_both.new.back.ticker
    c.run_both.ensures.ticker in
    still.cell_is ∙ c.seat_one-ticker_seat.ensures.same_cell
    ∙ sym (c.join_all-pumped.ensures.cell ∙ c.run_both.ensures.front.cell_is ∙ c.seat_one-ticker_seat.ensures.cell)

pub returns-clause-did : goal.returns-clause-did
returns-clause-did g c =
    let x = g.X.Crew in
    let workers = c.seat_all.ensures in
    let pumps = c.seat_all-2.ensures in
    let one = c.seat_one-ticker_seat.ensures in
    let ran = c.run_both.ensures in
    let joins = c.join_all-pumped.ensures in
    let last = c.join_one-ticker.ensures in
    let first = c.seat_all.new.seats.items in
    let second = c.seat_all-2.new.seats.items in
    let third = c.seat_one-ticker_seat.result in
    let ended = c.run_both.new.back.ticker in
    let root = c.args.root in
    let still = same_seat x.cell x.pass g.H.Fn c.args.tick.now c.requires.tick third ended ran.ticker in
    let new = new_born (x.pass c.seat_all-2.new.root) (x.pass third.caller) one.new in
    let alone : IsAlone (x.pass ended.caller) = still_alone x.cell x.pass third ended still new.alone in
    let worst = c.run_both.new.front.end in
    record {
      first = first;
      second = second;
      third = third;
      first_begun = workers.begun;
      second_begun = subst (λ (k : Cell Setting). Begun x.cell x.pass x.gear k c.args.posts.pumps.items c.args.posts.pump_gears.items second)
          workers.cell pumps.begun;
      third_begun = record {
        kits_are = ap (λ (t : g.row.T.Denot). t ∷ []) one.kit;
        gears_are = ap (λ (t : g.row.X-Gear.Denot). t ∷ []) one.gear;
        numbered = (one.number, tt);
        new = ((one.same_cell ∙ pumps.cell ∙ workers.cell, new), tt);
      };
      begun = c.seat_one-ticker_seat.new.root;
      begun_cell = one.cell ∙ pumps.cell ∙ workers.cell;
      begun_gear = one.root_gear ∙ pumps.gear ∙ workers.gear;
      number = ap (λ (s : PassOf g.row.X-Asks.Denot g.row.X-Answers.Denot). s.number) one.made ∙ pumps.number ∙ workers.number;
      own = ap (λ (s : PassOf g.row.X-Asks.Denot g.row.X-Answers.Denot). s.own) one.made ∙ pumps.own ∙ workers.own;
      kept = ap (λ (s : PassOf g.row.X-Asks.Denot g.row.X-Answers.Denot). s.kept) one.made ∙ pumps.kept ∙ workers.kept;
      made = ap (λ (s : PassOf g.row.X-Asks.Denot g.row.X-Answers.Denot). s.made) one.made
          ∙ ap (λ (ns : List ℕ). ns ++ pass_numbers x.pass (third ∷ []))
          (pumps.made ∙ ap (λ (ns : List ℕ). ns ++ pass_numbers x.pass second) workers.made);
      stopped = c.run_both.new.front.root;
      worst_front = worst;
      front = ran.front;
      second_ended = c.run_both.new.back.pumps.items;
      second_done = ran.pumps;
      third_ended = ended;
      third_done = ran.ticker;
      joined = c.join_all-pumped.new.root;
      second_joins = joins.joins;
      third_joins = joins_more x.pass (x.pass c.join_all-pumped.new.root) (x.pass c.join_all-pumped.new.root) (x.pass c.join_one-ticker.new.root) [] ended
          (joins_none x.pass (x.pass c.join_all-pumped.new.root)) last.joined alone last.mine last.theirs;
      cell_is = last.cell ∙ joins.cell ∙ ran.front.cell_is ∙ one.cell ∙ pumps.cell ∙ workers.cell;
      gear_is = last.root_gear ∙ joins.root_gear;
      pumps_are = joins.kits;
      pump_gears_are = joins.gears;
      ticker_is = last.kit;
      ticker_gear_is = last.gear;
      end_is = c.and-2.ensures.worse
          ∙ ap (λ (e : ServeEnd). worse e c.join_one-ticker.result.2) (c.and.ensures.worse ∙ ap (λ (e : ServeEnd). worse worst e) joins.end)
          ∙ ap (λ (e : ServeEnd). worse (worse worst (worst_of (map (λ s. s.end) c.run_both.new.back.pumps.items))) e) last.end;
    }
