use Rattle.std.proofs.Common.{◌≡◌, ◌+◌, ◌++◌, false, drop, get_or, subst, sym, ap, ◌∙◌}
use Rattle.satip_base.specs.Output.{Wrote}
use Rattle.satip_base.proofs.Writing.{nothing_wrote}
use Rattle.satip_tune.specs.declared.keys.Key.TheVariants.{Fe}
use Rattle.satip_query.specs.Printing.{part_text, parts_text}
use Rattle.satip_query.proofs.PrintLemmas.{behind, room_behind, drop-next, drop-past}
use Rattle.satip_query.proofs.printing.print_keys.Goals as goal

pub loop-key-preserved : goal.loop-key-preserved
loop-key-preserved c =
    let q = c.args.query.now in
    let keys = c.args.keys.now in
    let i = c.loop-key.key-index in
    let rest = drop (i + 1) keys in
    let part = part_text q c.loop-key.started (get_or keys i Fe) in
    let parts : parts_text q c.loop-key.started (drop i keys) ≡ part ++ parts_text q c.print_key-started.result rest =
    ap (parts_text q c.loop-key.started) (drop-next keys i Fe c.loop-key-test.true)
    ∙ ap (λ started. part ++ parts_text q started rest) (sym c.print_key-started.ensures.started) in
    record {
      rest = behind c.args.out.now c.loop-key.out c.print_key-started.new.out (parts_text q false keys) (parts_text q c.loop-key.started (drop i keys))
          part (parts_text q c.print_key-started.result rest) c.loop-key.invariant.rest parts c.print_key-started.ensures.wrote;
      room = room_behind c.loop-key.out c.print_key-started.new.out (parts_text q c.loop-key.started (drop i keys)) part
          (parts_text q c.print_key-started.result rest) c.loop-key.invariant.room parts c.print_key-started.ensures.wrote;
    }

pub returns : goal.returns
returns c =
    let q = c.args.query.now in
    let none = ap (parts_text q c.loop-key.started) (drop-past c.args.keys.now c.loop-key.key-index c.loop-key-test.false) in
    record {
      wrote = c.loop-key.invariant.rest c.loop-key.out
          (subst (λ bs. Wrote c.loop-key.out bs c.loop-key.out) (sym none) (nothing_wrote c.loop-key.out));
    }
