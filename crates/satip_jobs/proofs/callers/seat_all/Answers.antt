-- One kit more has a caller.
use Rattle.std.proofs.Common.{◌≡◌, ◌+◌, List, [], ◌∷◌, length, arith, sym, ap, ◌∙◌, subst, length-append}
use Rattle.satip_jobs.specs.declared.seat.Seat.{Seat}
use Rattle.satip_jobs.proofs.Seating.{Seated, seated_more}
use Rattle.satip_jobs.proofs.callers.seat_all.Goals as goal

pub loop-number-preserved : goal.loop-number-preserved
loop-number-preserved g c =
    let i = c.loop-number.invariant in
    let x = g.X.Crew in
    let kit = c.take_first-kit.ensures in
    let gear = c.take_first-gear.ensures in
    let room = c.take_first-room.ensures in
    let one = c.seat_one-seat.ensures in
    let put = c.put_last.ensures in
    let seat = c.seat_one-seat.result in
    let before : List (Seat g.row.X.Denot g.row.K.Denot g.row.M.Denot) = c.loop-number.seats.items in
    let number : seat.number ≡ length before + 1 = omega (arith, one.number, i.number) in
    let count : length c.put_last.new.items.items ≡ length before + 1 = ap length put.last ∙ length-append before (seat ∷ []) in
    record {
      seated = subst (λ (ss : List (Seat g.row.X.Denot g.row.K.Denot g.row.M.Denot)).
          Seated x.cell x.pass x.gear c.args.root.now c.seat_one-seat.new.root c.args.kits.now.items c.take_first-kit.new.items.items c.args.gears.now.items
          c.take_first-gear.new.items.items ss)
          (sym put.last)
          (seated_more x.cell x.pass x.gear c.args.root.now c.loop-number.root c.seat_one-seat.new.root c.args.kits.now.items c.loop-number.kits.items
          c.take_first-kit.new.items.items c.args.gears.now.items c.loop-number.gears.items c.take_first-gear.new.items.items c.take_first-kit.result
          c.take_first-gear.result before seat i.seated kit.first gear.first one.cell one.root_gear one.same_cell one.new one.made one.kit one.gear number);
      gears = omega (arith, i.gears, kit.count, gear.count);
      rooms = omega (arith, i.rooms, kit.count, room.count);
      space = omega (arith, i.space, kit.count, put.count, put.capacity);
      count = omega (arith, i.count, kit.count, put.count);
      number = omega (arith, i.number, count);
      seats = omega (arith, i.seats, put.count);
      kit_capacity = omega (arith, i.kit_capacity, kit.capacity);
      gear_capacity = omega (arith, i.gear_capacity, gear.capacity);
    }
