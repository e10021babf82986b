use Rattle.std.proofs.Common.{◌≡◌, List, [], ◌++◌, refl, sym, ap, subst, rules}
use Rattle.satip_world.proofs.DeliveryLemmas.{delivers_within}
use Rattle.satip_base.specs.Output.{Datagram}
use Rattle.satip_world.specs.Deliveries.{Delivers}
use Rattle.satip_base.specs.Bundles.{Bundle}
use Rattle.satip_pump.specs.Loads.{Loaded, datagrams_left}
use Rattle.satip_pump.proofs.WorkLemmas.{given_is_of, given_left_in, gave_by, gave_fewer}
use Rattle.satip_pump.proofs.works.give.Goals as goal

pub returns-in-Ok-clause-gave : goal.returns-in-Ok-clause-gave
returns-in-Ok-clause-gave g c =
    let b = c.in-Ok.ensures.bursts in
    let name = b.has.0 in
    let load = c.burst-made.new.lot in
    let loaded : Loaded = record {
      front = load.front;
      tune = load.tune;
      work = load.work;
      buffered = load.buffer.now;
      datagrams = load.batch.now.datagrams ++ datagrams_left load.is_left load.last.now.value;
    } in
    let D : List Datagram → Type 0 = λ ds. Delivers g.O.Outlet.tells (g.O.Outlet.outbox c.args.outlet.now) (g.O.Outlet.outbox c.unlock.new.self) ds in
    let left = ap (datagrams_left load.is_left) (sym (c.in-Ok.ensures.took_last (search rules))) in
    gave_by _ _ _ _ _ _ _ loaded _ _ _ (search rules) refl (ap (λ (x : Bundle). x.datagrams ++ []) c.clear.ensures.empty) record {
      caller = b.caller;
      taken = b.taken;
      took = b.has.1;
      suit = b.suit;
      adds = b.adds;
      delivers = subst D (ap (λ (ds : List Datagram). load.batch.now.datagrams ++ ds) left)
          (delivers_within _ _ _ _ _ _ c.lock.ensures.locked c.unlock.ensures.unlocked c.post_burst.ensures.delivers);
      ends = refl;
    }

pub returns-in-Ok-clause-fewer : goal.returns-in-Ok-clause-fewer
returns-in-Ok-clause-fewer g c =
    gave_fewer _ _ _ _ _ _ _ _ _ _ _ _ (returns-in-Ok-clause-gave g c)

pub returns-clause-gave : goal.returns-clause-gave
returns-clause-gave g c =
    let b = c.in-Err.ensures.bursts in
    let name = b.has.0 in
    let load = c.burst-made.new.lot in
    let loaded : Loaded = record {
      front = load.front;
      tune = load.tune;
      work = load.work;
      buffered = load.buffer.now;
      datagrams = load.batch.now.datagrams ++ datagrams_left load.is_left load.last.now.value;
    } in
    let tune : load.tune ≡ c.args.tuning.1 = b.has.1.tune in
    let D : List Datagram → Type 0 = λ ds. Delivers g.O.Outlet.tells (g.O.Outlet.outbox c.args.outlet.now) (g.O.Outlet.outbox c.unlock.new.self) ds in
    let left = given_left_in load.given load.front load.tune load.work load.batch.now load.is_left load.buffer.now.packets load.last.now.value
    c.burst-made.new.out b.ends.0 in
    gave_by _ _ _ _ _ _ _ loaded _ _ _ (search rules) refl (ap (λ (x : Bundle). x.datagrams ++ []) c.clear.ensures.empty) record {
      caller = b.caller;
      taken = b.taken;
      took = b.has.1;
      suit = b.suit;
      adds = b.adds;
      delivers = subst D (ap (λ (ds : List Datagram). load.batch.now.datagrams ++ ds) left)
          (delivers_within _ _ _ _ _ _ c.lock.ensures.locked c.unlock.ensures.unlocked c.post_burst.ensures.delivers);
      ends = (rw (← tune) (given_is_of load.given load.front load.tune load.work load.batch.now _ load.buffer.now.packets b.ends.0), b.ends.1);
    }

pub returns-clause-fewer : goal.returns-clause-fewer
returns-clause-fewer g c =
    gave_fewer _ _ _ _ _ _ _ _ _ _ _ _ (returns-clause-gave g c)
