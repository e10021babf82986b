use Rattle.std.proofs.Common.{Bool, ◌++◌, sym, subst}
use Rattle.satip_world.specs.Deliveries.{Delivers}
use Rattle.satip_world.proofs.DeliveryLemmas.{delivers_then}
use Rattle.satip_pump.specs.Loads.{datagrams_left}
use Rattle.satip_pump.proofs.works.post_burst.Goals as goal

pub returns-then-is_left : goal.returns-then-is_left
returns-then-is_left g c =
    let P : Bool → Type 0 = λ b. Delivers g.O.Outlet.tells (g.O.Outlet.outbox c.args.outlet.now) (g.O.Outlet.outbox c.post_all.new.outlet)
    (c.args.batch.now.datagrams ++ datagrams_left b c.args.out.now) in
    record { delivers = subst P (sym c.if-is_left.true) (delivers_then _ _ _ _ _ _ c.post.ensures.delivers c.post_all.ensures.delivers) }
