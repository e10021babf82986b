use Rattle.std.proofs.Common.{◌+◌, length, drop, get_or, subst, sym, ap, arith, length-append}
use Rattle.std.specs.List.{flat_map}
use Rattle.satip_base.specs.Output.{Wrote}
use Rattle.satip_base.proofs.Writing.{nothing_wrote}
use Rattle.satip_pids.specs.Texts.{next_text}
use Rattle.satip_query.proofs.PrintLemmas.{behind, room_behind, drop-next, drop-past}
use Rattle.satip_query.proofs.printing.print_more.Goals as goal

pub print_next-requires : goal.print_next-requires
print_next-requires c =
    let pids = c.args.pids.now in
    let i = c.loop-pid.pid-index in
    let parts = ap (λ l. length (flat_map next_text l)) (drop-next pids i 0 c.loop-pid-test.true) in
    record {
      room = omega (
        arith,
        parts,
        c.loop-pid.invariant.room,
        length-append (next_text (get_or pids i 0)) (flat_map next_text (drop (i + 1) pids)),
      );
    }

pub loop-pid-preserved : goal.loop-pid-preserved
loop-pid-preserved c =
    let pids = c.args.pids.now in
    let i = c.loop-pid.pid-index in
    let parts = ap (flat_map next_text) (drop-next pids i 0 c.loop-pid-test.true) in
    record {
      rest = behind _ _ _ _ _ _ _ c.loop-pid.invariant.rest parts c.print_next.ensures.wrote;
      room = room_behind _ _ _ _ _ c.loop-pid.invariant.room parts c.print_next.ensures.wrote;
    }

pub returns : goal.returns
returns c =
    let pids = c.args.pids.now in
    let none = ap (flat_map next_text) (drop-past pids c.loop-pid.pid-index c.loop-pid-test.false) in
    record {
      wrote = c.loop-pid.invariant.rest c.loop-pid.out
          (subst (λ bs. Wrote c.loop-pid.out bs c.loop-pid.out) (sym none) (nothing_wrote c.loop-pid.out));
    }
