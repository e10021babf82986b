-- One turn of the loop reads the next multiplex with its recording, or its fault.
use Rattle.std.proofs.Common.{◌≡◌, ℕ, ◌+◌, ◌++◌, List, ◌∷◌, [], Ok, Err, Some, None, get_or, vec_len, sym, ◌∙◌, arith}
use Rattle.std.proofs.lemmas.List.{append-nil}
use Rattle.toml.specs.Data.{as_table}
use Rattle.toml.specs.View.{view, table_view}
use Rattle.satip_tune.specs.declared.frontends.Mux.{Mux}
use Rattle.satip_config.specs.Steps.{Reading}
use Rattle.satip_config.specs.Entries.{mux_at, apart}
use Rattle.satip_config.proofs.Numbered.{entries-more, entries-fault, entries-skip, entries-all, same_next, append-cons}
use Rattle.satip_config.proofs.muxes.read_muxes.Goals as goal
use Rattle.satip_config.proofs.muxes.read_muxes.Goals.{in-Some+in-Ok+in_ok-push-in-Ok+in_ok-push-in-Ok-2, in_default}

-- the multiplexes that were read before, and then these
after : List Mux → List (List ℕ) → List (Mux × List ℕ) → Reading (List Mux × List (List ℕ))
after muxes files rest = Ok (muxes ++ (apart rest).0, files ++ (apart rest).1)

after-cons : (muxes : List Mux) (files : List (List ℕ)) (mux : Mux) (file : List ℕ) (rest : List (Mux × List ℕ))
    → after muxes files ((mux, file) ∷ rest) ≡ after (muxes ++ mux ∷ []) (files ++ file ∷ []) rest
unfolding after
after-cons muxes files mux file rest = rw (append-cons muxes mux, append-cons files file)

pub returns-in-Err-clause-fault : goal.returns-in-Err-clause-fault
unfolding after
returns-in-Err-clause-fault c other =
    let is : as_table (view (get_or c.args.items.now c.loop-item.item-index c.item-item.result)) ≡ Some (table_view c.in-Some.table.now) =
    rw (← c.item-item.is) (sym c.in-Some.ensures) in
    let read : mux_at (vec_len c.loop-item.muxes + 1) (table_view c.in-Some.table.now) ≡ Err c.in-Err.fault =
    rw (← c.len.ensures) (c.in-Err.ensures.value other) in
    sym c.loop-item.invariant.left
    ∙ entries-fault mux_at (λ v. as_table (view v)) c.args.items.now c.loop-item.item-index _ c.item-item.result
    (after c.loop-item.muxes.items c.loop-item.files.items)
    (table_view c.in-Some.table.now) c.in-Err.fault c.loop-item-test.true is read

pub loop-item-preserved : goal.loop-item-preserved
unfolding after
loop-item-preserved c =
    elim c.match-as_table.branch [
      | in-Some+in-Ok+in_ok-push-in-Ok+in_ok-push-in-Ok-2 w ↦
          let is : as_table (view (get_or c.args.items.now c.loop-item.item-index c.item-item.result)) ≡ Some (table_view w.in-Some.table.now) =
          rw (← c.item-item.is) (sym w.in-Some.ensures) in
          let read : mux_at (vec_len c.loop-item.muxes + 1) (table_view w.in-Some.table.now) ≡ Ok (w.in-Ok.mux, w.in-Ok.file) =
          rw (← w.len.ensures) w.in-Ok.ensures.value in
          rw (w.muxes-is, w.files-is) (record {
            few = omega (arith, w.in_ok-push-in-Ok.ensures.len, c.loop-item.invariant.few);
            left = rw (w.in_ok-push-in-Ok.ensures.items, w.in_ok-push-in-Ok.ensures.len, w.in_ok-push-in-Ok-2.ensures.items)
                (same_next _ _ _ (λ rest. sym (after-cons c.loop-item.muxes.items c.loop-item.files.items w.in-Ok.mux w.in-Ok.file rest))
                ∙ sym (entries-more mux_at (λ v. as_table (view v)) c.args.items.now c.loop-item.item-index _ c.item-item.result
                (after c.loop-item.muxes.items c.loop-item.files.items)
                (table_view w.in-Some.table.now) (w.in-Ok.mux, w.in-Ok.file) c.loop-item-test.true is read)
                ∙ c.loop-item.invariant.left);
          })
      | in_default w ↦
          let is : as_table (view (get_or c.args.items.now c.loop-item.item-index c.item-item.result)) ≡ None =
          rw (← c.item-item.is) (sym w.in_default.ensures) in
          rw (w.muxes-is, w.files-is) (record {
            few = omega (arith, c.loop-item.invariant.few);
            left = sym (entries-skip mux_at (λ v. as_table (view v)) c.args.items.now c.loop-item.item-index _ c.item-item.result
                (after c.loop-item.muxes.items c.loop-item.files.items) c.loop-item-test.true is)
                ∙ c.loop-item.invariant.left;
          })
    ]

pub returns-clause-ok : goal.returns-clause-ok
unfolding after
returns-clause-ok c =
    sym c.loop-item.invariant.left
    ∙ entries-all mux_at (λ v. as_table (view v)) c.args.items.now c.loop-item.item-index _ (after c.loop-item.muxes.items c.loop-item.files.items)
    c.loop-item-test.false
    ∙ rw (append-nil c.loop-item.muxes.items, append-nil c.loop-item.files.items)
