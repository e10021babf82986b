-- One turn of the loop reads the next front end, or its fault.
use Rattle.std.proofs.Common.{◌≡◌, ◌+◌, ◌++◌, List, Ok, Some, None, get_or, vec_len, ap, sym, ◌∙◌, arith}
use Rattle.std.proofs.lemmas.List.{append-nil}
use Rattle.toml.specs.Data.{as_table}
use Rattle.toml.specs.View.{view, table_view}
use Rattle.satip_tune.specs.declared.frontends.Front.{Front}
use Rattle.satip_config.specs.Steps.{Reading}
use Rattle.satip_config.specs.Entries.{front_at}
use Rattle.satip_config.proofs.Numbered.{entries-more, entries-fault, entries-skip, entries-all, same_next, append-cons}
use Rattle.satip_config.proofs.fronts.read_fronts.Goals as goal
use Rattle.satip_config.proofs.fronts.read_fronts.Goals.{in-Some+in-Ok+in_ok-push-in-Ok, in_default}

-- the front ends that were read before, and then these
after : List Front → List Front → Reading (List Front)
after done rest = Ok (done ++ rest)

pub returns-in-Err-clause-fault : goal.returns-in-Err-clause-fault
unfolding after
returns-in-Err-clause-fault c _ =
    let is : as_table (view (get_or c.args.items.now c.loop-item.item-index c.item-item.result)) ≡ Some (table_view c.in-Some.table.now) =
    rw (← c.item-item.is) (sym c.in-Some.ensures) in
    sym c.loop-item.invariant.left
    ∙ entries-fault front_at (λ v. as_table (view v)) c.args.items.now c.loop-item.item-index _ c.item-item.result (after c.loop-item.fronts.items)
    (table_view c.in-Some.table.now) c.in-Err.fault c.loop-item-test.true is (cc (c.front_at.ensures.value, c.len.ensures))

pub loop-item-preserved : goal.loop-item-preserved
unfolding after
loop-item-preserved c =
    elim c.match-as_table.branch [
      | in-Some+in-Ok+in_ok-push-in-Ok w ↦
          let is : as_table (view (get_or c.args.items.now c.loop-item.item-index c.item-item.result)) ≡ Some (table_view w.in-Some.table.now) =
          rw (← c.item-item.is) (sym w.in-Some.ensures) in
          let read : front_at (vec_len c.loop-item.fronts + 1) (table_view w.in-Some.table.now) ≡ Ok w.in-Ok.front =
          cc (w.front_at.ensures.value, w.len.ensures) in
          rw w.fronts-is (record {
            few = omega (arith, w.in_ok-push-in-Ok.ensures.len, c.loop-item.invariant.few);
            left = rw (w.in_ok-push-in-Ok.ensures.items, w.in_ok-push-in-Ok.ensures.len)
                (same_next _ _ _ (λ rest. ap Ok (sym (append-cons c.loop-item.fronts.items w.in-Ok.front rest)))
                ∙ sym (entries-more front_at (λ v. as_table (view v)) c.args.items.now c.loop-item.item-index _ c.item-item.result
                (after c.loop-item.fronts.items)
                (table_view w.in-Some.table.now) w.in-Ok.front c.loop-item-test.true is read)
                ∙ c.loop-item.invariant.left);
          })
      | in_default w ↦
          let is : as_table (view (get_or c.args.items.now c.loop-item.item-index c.item-item.result)) ≡ None =
          rw (← c.item-item.is) (sym w.in_default.ensures) in
          rw w.fronts-is (record {
            few = omega (arith, c.loop-item.invariant.few);
            left = sym (entries-skip front_at (λ v. as_table (view v)) c.args.items.now c.loop-item.item-index _ c.item-item.result
                (after c.loop-item.fronts.items) c.loop-item-test.true is)
                ∙ c.loop-item.invariant.left;
          })
    ]

pub returns-clause-ok : goal.returns-clause-ok
unfolding after
returns-clause-ok c =
    sym c.loop-item.invariant.left
    ∙ entries-all front_at (λ v. as_table (view v)) c.args.items.now c.loop-item.item-index _ (after c.loop-item.fronts.items) c.loop-item-test.false
    ∙ ap Ok (append-nil c.loop-item.fronts.items)
